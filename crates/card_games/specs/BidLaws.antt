-- Blind Bid keeps the laws of games.
use Rattle.std.specs.Prelude.{◌≡◌, ℕ, pos, negsuc, ◌==◌, ◌<◌, ◌≤◌, ◌&&◌, nat_eq, nat_le, nat_lt, true, if◌then◌else◌, IsTrue, IfSome, List, [], ◌∷◌, ◌++◌, length, replicate, slice_get, slice_set, codes, option_map, Option, Some, None, refl}
use Rattle.std.specs.List.{AllByRecursion, list_all}
use Rattle.std.proofs.Common.{◌∙◌, ap, eq-eqb, lit<, lit≤}
use Rattle.std.proofs.lemmas.Bool.{and_parts}
use Rattle.std.proofs.lemmas.List.{length-replicate, length-set}
use Rattle.card_games.specs.BlindBid.{Bids, bid, bid_move, bid_offers, bid_sheet, blind_bid, boast, have_bidders, is_bid, no_bids, offered_bids, offered_boasts, revealed, with_bids}
use Rattle.card_games.specs.Offers.{offers}
use Rattle.card_games.specs.OwnLaws.{OwnSplit, all_copies, all_if, all_joined, all_set, count_seen, either_gives, either_keeps, move_own, of_parts, offers_known, parts_of, view_own}
use Rattle.card_games.specs.PartLaws.{IsMemberFrom, IsPart, IsReadFrom, IsRow, both_read, both_true, count_part, counts_part, list_part, member_from, object_back, object_from, option_part, passing_part, read_from, small_is_count, split_part}
use Rattle.card_games.specs.Parts.{bidding_names, bidding_value, bids_value, is_count, list_value, no_secret_value, number_value, option_value, own_bidding, own_bids, own_no_secret, own_option, own_sealed_bid, own_split, read_bidding, read_bids, read_count, read_list, read_member, read_no_secret, read_option, read_sealed_bid, read_split, sealed_bid_value}
use Rattle.card_games.specs.Sealed.{are_seats, have_all, may_seal, shown_items}
use Rattle.card_games.specs.SealedLaws.{count_unsealed, first_seats, greatest_ends, no_secrets_part, seal_keeps, seal_own, sealed_part, seats_shown, shown_own, unsealed_own}
use Rattle.card_games.specs.declared.bids.Bidding.{Bidding}
use Rattle.card_games.specs.declared.sealed.Sealed.{Sealed}
use Rattle.game_sheet.proofs.Fits.{fits}
use Rattle.game_sheet.specs.SheetRules.{broken}
use Rattle.game_sheet.specs.declared.args.Arg.{Arg}
use Rattle.game_sheet.specs.declared.args.Arg.TheVariants.{Whole, Text}
use Rattle.game_trait.specs.Deed.{GaveUp, Invalid}
use Rattle.game_trait.specs.Lawful.{GivesOwn, Lawful}
use Rattle.game_trait.specs.Offers.{offered_known, offered_none}
use Rattle.game_trait.specs.Queues.{KeepsToSheet, QueuesInSheet}
use Rattle.json_tree.proofs.WritableRows.{fixed}
use Rattle.json_tree.specs.Canonical.{MembersAreCanonical}
use Rattle.json_tree.specs.Writable.{IsWritable}
use Rattle.open_game.specs.Forms.{both}
use Rattle.secret_strip.specs.Strip.{strip}
use Rattle.secret_strip.proofs.PlayersLemmas.{strip_twice}
use Rattle.serde_json.specs.Data.{Data, null, boolean, number, string, array, object, Members, no_members, member}
use Rattle.serde_json.specs.Find.{get_member}

-- ---- reading

sealed_bid_part : IsPart sealed_bid_value read_sealed_bid own_sealed_bid
sealed_bid_part = sealed_part (codes "bid") (λ d. refl) (λ d. refl) (λ d. refl) number_value read_count is_count count_part (λ n own. refl)

shown_part : IsPart (option_value (list_value number_value)) (read_option (read_list read_count)) (own_option (list_all is_count))
shown_part = option_part (list_value number_value) (read_list read_count) (list_all is_count) counts_part (λ bids own. refl)

abbrev bidding_members : Bidding → Members
bidding_members b = member (codes "boasts") (list_value number_value b.boasts) (member (codes "revealed") (option_value (list_value number_value) b.revealed) no_members)

abbrev bidding_of : List ℕ → Option (List ℕ) → Bidding
bidding_of boasts revealed = record { boasts = boasts; revealed = revealed }

abbrev pick_bidding : Data → Option Bidding
pick_bidding d = both bidding_of (read_member (codes "boasts") (read_list read_count) d) (read_member (codes "revealed") (read_option (read_list read_count)) d)

abbrev BiddingFrom : Members → Bidding → Type 0
BiddingFrom ms b = IsTrue (own_bidding b) × (MembersAreCanonical ms → AllByRecursion (λ name. get_member name ms ≡ get_member name (bidding_members b)) bidding_names)

abbrev ShownFrom : Members → Option (List ℕ) → Type 0
ShownFrom ms = IsMemberFrom (codes "revealed") (option_value (list_value number_value)) (own_option (list_all is_count)) ms

bidding_row_from : (ms : Members) → IfSome (pick_bidding (object ms)) (BiddingFrom ms)
bidding_row_from ms =
    both_read (IsMemberFrom (codes "boasts") (list_value number_value) (list_all is_count) ms) (ShownFrom ms) (BiddingFrom ms) bidding_of _ _
    (λ boasts h shown k. (both_true (list_all is_count boasts) (own_option (list_all is_count) shown) h.0 k.0, λ canonical. (h.1 canonical, (k.1 canonical, tt))))
    (member_from (codes "boasts") (list_value number_value) (read_list read_count) (list_all is_count) counts_part ms)
    (member_from (codes "revealed") (option_value (list_value number_value)) (read_option (read_list read_count)) (own_option (list_all is_count)) shown_part ms)

bidding_row_back : (b : Bidding) → IsTrue (own_bidding b) → pick_bidding (object (bidding_members b)) ≡ Some b
bidding_row_back b own =
    let parts = and_parts (list_all is_count b.boasts) (own_option (list_all is_count) b.revealed) own in
    ap (λ o. both bidding_of o (read_option (read_list read_count) (option_value (list_value number_value) b.revealed))) (counts_part.back b.boasts parts.0)
    ∙ ap (both bidding_of (Some b.boasts)) (shown_part.back b.revealed parts.1)

bidding_row : IsRow bidding_names bidding_members pick_bidding own_bidding
bidding_row = record {
  ordered = λ b. ((refl, tt), (tt, tt));
  no_more = λ b. refl;
  back = bidding_row_back;
  from = bidding_row_from;
}

bidding_from : (v : Data) → IfSome (read_bidding v) (IsReadFrom bidding_value own_bidding v)
bidding_from null = tt
bidding_from (boolean b) = tt
bidding_from (number n) = tt
bidding_from (string s) = tt
bidding_from (array ds) = tt
bidding_from (object ms) = object_from bidding_names bidding_members pick_bidding own_bidding bidding_row ms

bidding_written : (b : Bidding) → IsTrue (own_bidding b) → IsWritable (bidding_value b)
bidding_written b own =
    let parts = and_parts (list_all is_count b.boasts) (own_option (list_all is_count) b.revealed) own in
    fixed (bidding_members b) refl (counts_part.written b.boasts parts.0, (shown_part.written b.revealed parts.1, tt))

bidding_part : IsPart bidding_value read_bidding own_bidding
bidding_part = record { back = object_back bidding_names bidding_members pick_bidding own_bidding bidding_row; from = bidding_from; written = bidding_written }

bids_part : IsPart bids_value read_bids own_bids
bids_part = passing_part bids_value (read_split read_bidding read_no_secret read_sealed_bid) (own_split own_bidding own_no_secret own_sealed_bid) have_bidders
    (split_part bidding_value read_bidding own_bidding bidding_part
    no_secret_value read_no_secret own_no_secret no_secrets_part
    sealed_bid_value read_sealed_bid own_sealed_bid (list_part (option_value sealed_bid_value) (read_option read_sealed_bid) (own_option own_sealed_bid) (option_part sealed_bid_value read_sealed_bid own_sealed_bid sealed_bid_part (λ entry own. refl))))

-- ---- what is own

abbrev OwnBids : Bids → Type 0
OwnBids g = OwnSplit have_bidders own_bidding own_no_secret own_sealed_bid g

bid_parts : (g : Bids) → IsTrue (own_bids g) → OwnBids g
bid_parts g own = parts_of have_bidders own_bidding own_no_secret own_sealed_bid g own

of_bid_parts : (g : Bids) → OwnBids g → IsTrue (own_bids g)
of_bid_parts g parts = of_parts have_bidders own_bidding own_no_secret own_sealed_bid g parts

as_many : (g : Bids) (players : List (Option (Sealed ℕ))) → length players ≡ length g.players → have_bidders (record g { players = players }) ≡ have_bidders g
as_many g players same = ap (λ count. (length g.common.boasts == count) && are_seats 8 count (option_map (λ bids. length bids) g.common.revealed)) same

bid_own : (g : Bids) (seat : ℕ) (args : List Arg) (words : List ℕ) → IsTrue (own_bids g) → GivesOwn own_bids (bid g seat args words)
bid_own g seat [] words own = tt
bid_own g seat (Text t ∷ rest) words own = tt
bid_own g seat (Whole (negsuc n) ∷ rest) words own = tt
bid_own g seat (Whole (pos n) ∷ next ∷ rest) words own = tt
bid_own g seat (Whole (pos n) ∷ []) words own =
    seal_own have_bidders own_bidding is_count as_many (is_bid n) g seat n words own
    (λ allowed. small_is_count n 100 (lit≤ tt) (and_parts (nat_le 1 n) (nat_le n 100) allowed).1)

boasted_own : (g : Bids) (seat n : ℕ) → IsTrue (own_bids g) → IsTrue (is_count n) → IsTrue (own_bids (record g { common = record g.common { boasts = slice_set g.common.boasts seat n } }))
boasted_own g seat n own count =
    let parts = bid_parts g own in
    let common = and_parts (list_all is_count g.common.boasts) (own_option (list_all is_count) g.common.revealed) parts.own_common in
    of_bid_parts (record g { common = record g.common { boasts = slice_set g.common.boasts seat n } }) (record {
      seats = ap (λ boasts. (boasts == length g.players) && are_seats 8 (length g.players) (option_map (λ bids. length bids) g.common.revealed)) (length-set g.common.boasts seat n) ∙ parts.seats;
      own_common = both_true (list_all is_count (slice_set g.common.boasts seat n)) (own_option (list_all is_count) g.common.revealed) (all_set is_count g.common.boasts seat n common.0 count) common.1;
      own_secret = parts.own_secret;
      own_players = parts.own_players;
    })

boast_own : (g : Bids) (seat : ℕ) (args : List Arg) (words : List ℕ) → IsTrue (own_bids g) → GivesOwn own_bids (boast g seat args words)
boast_own g seat [] words own = tt
boast_own g seat (Text t ∷ rest) words own = tt
boast_own g seat (Whole (negsuc n) ∷ rest) words own = tt
boast_own g seat (Whole (pos n) ∷ next ∷ rest) words own = tt
boast_own g seat (Whole (pos n) ∷ []) words own =
    move_own own_bids (nat_le n 9 && nat_lt seat (length g.common.boasts)) _ words
    (λ made. boasted_own g seat n own (small_is_count n 9 (lit≤ tt) (and_parts (nat_le n 9) (nat_lt seat (length g.common.boasts)) made).0))

bid_move_own : (g : Bids) (seat id : ℕ) (args : List Arg) (words : List ℕ) → IsTrue (own_bids g) → GivesOwn own_bids (bid_move g seat id args words)
bid_move_own g seat id args words own =
    either_gives own_bids (nat_lt seat 8) (if nat_eq id 0 then bid g seat args words else boast g seat args words) (GaveUp Invalid)
    (either_gives own_bids (nat_eq id 0) (bid g seat args words) (boast g seat args words) (bid_own g seat args words own) (boast_own g seat args words own)) tt

with_bids_own : (g : Bids) (bids : Option (List ℕ)) → IsTrue (own_bids g) → IfSome bids (λ items. (list_all is_count items ≡ true) × (length items ≡ length g.players)) → IsTrue (own_bids (with_bids g bids))
with_bids_own g None own shown = own
with_bids_own g (Some bids) own shown =
    let parts = bid_parts g own in
    let seats = and_parts (length g.common.boasts == length g.players) (are_seats 8 (length g.players) (option_map (λ items. length items) g.common.revealed)) parts.seats in
    let common = and_parts (list_all is_count g.common.boasts) (own_option (list_all is_count) g.common.revealed) parts.own_common in
    of_bid_parts (with_bids g (Some bids)) (record {
      seats = both_true (length g.common.boasts == length g.players) (are_seats 8 (length g.players) (Some (length bids))) seats.0 (seats_shown 8 (length g.players) (option_map (λ items. length items) g.common.revealed) (length bids) shown.1 seats.1);
      own_common = both_true (list_all is_count g.common.boasts) (list_all is_count bids) common.0 shown.0;
      own_secret = parts.own_secret;
      own_players = parts.own_players;
    })

revealed_own : (g : Bids) → IsTrue (own_bids g) → IsTrue (own_bids (revealed g))
revealed_own g own = with_bids_own g (shown_items g.players) own (shown_own is_count g.players (bid_parts g own).own_players)

no_bids_own : (seats : ℕ) → 2 ≤ seats → seats ≤ 8 → IsTrue (own_bids (no_bids seats))
no_bids_own seats least most =
    let nothing : ℕ = 0 in
    of_bid_parts (no_bids seats) (record {
      seats = ap (λ players. (length (replicate seats nothing) == players) && are_seats 8 players None) (count_unsealed ℕ seats)
          ∙ both_true (length (replicate seats nothing) == seats) (are_seats 8 seats None) (eq-eqb (length (replicate seats nothing)) seats (length-replicate seats nothing)) (first_seats 8 seats least most);
      own_common = both_true (list_all is_count (replicate seats 0)) true (all_copies is_count seats 0 refl) refl;
      own_secret = refl;
      own_players = unsealed_own is_count seats;
    })

-- ---- the laws

bid_offers_known : (g : Bids) (seat : ℕ) → AllByRecursion (λ (offer : ℕ × List Arg). offer.0 < 2) (bid_offers g seat)
bid_offers_known g seat =
    all_if (λ (offer : ℕ × List Arg). offer.0 < 2) (may_seal (slice_get g.players seat)) (offers 0 offered_bids ++ offers 1 offered_boasts)
    (all_joined (λ (offer : ℕ × List Arg). offer.0 < 2) (offers 0 offered_bids) (offers 1 offered_boasts) (offers_known 2 0 offered_bids (lit< tt)) (offers_known 2 1 offered_boasts (lit< tt)))

bid_sheet_fits : broken bid_sheet ≡ 0
unfolding broken
bid_sheet_fits = refl

pub blind_bid_lawful : Lawful blind_bid
blind_bid_lawful = record {
  fits = fits bid_sheet bid_sheet_fits;
  setup = λ seats words least most. no_bids_own seats least most;
  play = λ g ctx seat id args words own. bid_move_own g seat id args words own;
  on_move = λ g ctx seat words own. own;
  turn_begin = λ g ctx words own. own;
  turn_end = λ g ctx words own. own;
  phase_begin = λ g ctx phase words own. own;
  phase_end = λ g ctx phase words own. own;
  game_end = λ g ctx words own. revealed_own g own;
  ends = λ g ctx outcome own is. greatest_ends (have_all g.players) _ g.players outcome is;
  view = λ g ctx viewer own. view_own have_bidders own_bidding own_no_secret own_sealed_bid g viewer (as_many g (strip g viewer).players (count_seen viewer g.players)) own;
  view_again = λ g ctx viewer own. strip_twice g viewer;
  written_object = λ g own. refl;
  written = λ g own. bids_part.written g own;
  reads_back = λ g own. bids_part.back g own;
  read_own = λ v g is. (read_from bids_value read_bids own_bids bids_part v g is).0;
  read_only = λ v g canonical is. (read_from bids_value read_bids own_bids bids_part v g is).1 canonical;
  offers_known = λ g ctx seat. offered_known (λ offer. offer.0 < 2) ctx seat (bid_offers g seat) (bid_offers_known g seat);
  offers_none = λ g ctx seat none. offered_none ctx seat (bid_offers g seat) none;
}

-- ---- it queues nothing

bid_keeps : (g : Bids) (seat : ℕ) (args : List Arg) (words : List ℕ) → QueuesInSheet bid_sheet (bid g seat args words)
bid_keeps g seat [] words = tt
bid_keeps g seat (Text t ∷ rest) words = tt
bid_keeps g seat (Whole (negsuc n) ∷ rest) words = tt
bid_keeps g seat (Whole (pos n) ∷ next ∷ rest) words = tt
bid_keeps g seat (Whole (pos n) ∷ []) words = seal_keeps bid_sheet (is_bid n) g seat n words

boast_keeps : (g : Bids) (seat : ℕ) (args : List Arg) (words : List ℕ) → QueuesInSheet bid_sheet (boast g seat args words)
boast_keeps g seat [] words = tt
boast_keeps g seat (Text t ∷ rest) words = tt
boast_keeps g seat (Whole (negsuc n) ∷ rest) words = tt
boast_keeps g seat (Whole (pos n) ∷ next ∷ rest) words = tt
boast_keeps g seat (Whole (pos n) ∷ []) words = either_keeps bid_sheet (nat_le n 9 && nat_lt seat (length g.common.boasts)) _ _ tt tt

bids_keep : (g : Bids) (seat id : ℕ) (args : List Arg) (words : List ℕ) → QueuesInSheet bid_sheet (bid_move g seat id args words)
bids_keep g seat id args words = either_keeps bid_sheet (nat_lt seat 8) (if nat_eq id 0 then bid g seat args words else boast g seat args words) _ (either_keeps bid_sheet (nat_eq id 0) _ _ (bid_keeps g seat args words) (boast_keeps g seat args words)) tt

pub blind_bid_in_sheet : KeepsToSheet blind_bid
blind_bid_in_sheet = record {
  play = λ g ctx seat id args words known. bids_keep g seat id args words;
  on_move = λ g ctx seat words. tt;
  turn_begin = λ g ctx words. tt;
  turn_end = λ g ctx words. tt;
  phase_begin = λ g ctx phase words. tt;
  phase_end = λ g ctx phase words. tt;
  game_end = λ g ctx words. tt;
}
