-- Blind Bid: two to eight seats seal one bid each, and the greatest wins when all have bid.
use Rattle.std.specs.Prelude.{ℕ, ◌==◌, ◌&&◌, nat_eq, nat_le, nat_lt, true, false, Bool, if◌then◌else◌, pos, List, [], ◌∷◌, ◌++◌, length, replicate, slice_get, slice_set, codes, option_map, Option, Some, None}
use Rattle.card_games.specs.Json.{count_form, each, or_none, split_form, where_holds}
use Rattle.card_games.specs.Offers.{offers}
use Rattle.card_games.specs.Sealed.{Sealing, are_seats, no_secret_form, seal, seal_offers, sealed_end, sealed_form, sealing_sheet, shown_items, unsealed}
use Rattle.card_games.specs.declared.bids.Bidding.{Bidding}
use Rattle.game_sheet.specs.declared.act.Outcome.{Outcome}
use Rattle.game_sheet.specs.declared.args.Arg.{Arg}
use Rattle.game_sheet.specs.declared.args.Arg.TheVariants.{Whole}
use Rattle.game_sheet.specs.declared.sheet.Sheet.{Sheet}
use Rattle.game_trait.specs.Deed.{Barred, Deed, Done, GaveUp, Invalid}
use Rattle.game_trait.specs.Offers.{offered}
use Rattle.game_trait.specs.Rules.{Rules, plain}
use Rattle.open_game.specs.Form.{Form}
use Rattle.open_game.specs.Forms.{object_of_two}
use Rattle.secret_strip.specs.Strip.{strip}
use Rattle.std.specs.Option.{option_map_or}

-- everybody sees the boasts and, at the end, the bids; each seat alone sees its own bid before
abbrev pub Bids : Type 0
Bids = Sealing Bidding ℕ

-- every seat stands in the one stage of a turn until it has bid once
abbrev pub bid_sheet : Sheet
bid_sheet = record (sealing_sheet (codes "blind-bid") 8 (codes "bid")) {
  moves =
      record { name = codes "bid"; redact = true; client = true; no_limit = false; ignore_stale = true }
      ∷ record { name = codes "boast"; redact = false; client = true; no_limit = true; ignore_stale = false }
      ∷ [];
  base = 0 ∷ 1 ∷ [];
}

abbrev pub no_bids : ℕ → Bids
no_bids seats = record { common = record { boasts = replicate seats 0; revealed = None }; secret = None; players = unsealed seats }

abbrev pub is_bid : ℕ → Bool
is_bid n = nat_le 1 n && nat_le n 100

-- a seat seals a bid of 1 to 100
abbrev pub bid : Bids → ℕ → List Arg → List ℕ → Deed Bids Barred
bid g seat (Whole (pos n) ∷ []) words = seal (is_bid n) g seat n words
bid g seat _ words = GaveUp Invalid

-- a seat boasts with 0 to 9, as often as it likes
abbrev pub boast : Bids → ℕ → List Arg → List ℕ → Deed Bids Barred
boast g seat (Whole (pos n) ∷ []) words = if nat_le n 9 && nat_lt seat (length g.common.boasts) then Done (record g { common = record g.common { boasts = slice_set g.common.boasts seat n } }) words [] else GaveUp Invalid
boast g seat _ words = GaveUp Invalid

abbrev pub bid_move : Bids → ℕ → ℕ → List Arg → List ℕ → Deed Bids Barred
bid_move g seat id args words = if nat_lt seat 8 then (if nat_eq id 0 then bid g seat args words else boast g seat args words) else GaveUp Invalid

-- once all have bid, the one seat with the greatest bid wins; two such bids are a draw
abbrev pub bid_end : Bids → Option Outcome
bid_end g = sealed_end (λ bid. bid) g.players

-- the state in which these bids are shown, if any are
abbrev pub with_bids : Bids → Option (List ℕ) → Bids
with_bids g shown = option_map_or (λ bids. record g { common = record g.common { revealed = Some bids } }) shown g

-- at the end all bids are shown, where all have bid
abbrev pub revealed : Bids → Bids
revealed g = with_bids g (shown_items g.players)

abbrev pub offered_bids : List Arg
offered_bids = Whole (pos 10) ∷ Whole (pos 20) ∷ Whole (pos 30) ∷ Whole (pos 40) ∷ Whole (pos 50) ∷ Whole (pos 60) ∷ Whole (pos 70) ∷ Whole (pos 80) ∷ Whole (pos 90) ∷ Whole (pos 100) ∷ []

abbrev pub offered_boasts : List Arg
offered_boasts = Whole (pos 0) ∷ Whole (pos 1) ∷ Whole (pos 2) ∷ Whole (pos 3) ∷ Whole (pos 4) ∷ Whole (pos 5) ∷ Whole (pos 6) ∷ Whole (pos 7) ∷ Whole (pos 8) ∷ Whole (pos 9) ∷ []

-- a seat that hasn't bid is offered these bids, and then these boasts
abbrev pub bid_offers : Bids → ℕ → List (ℕ × List Arg)
bid_offers g seat = seal_offers (slice_get g.players seat) (offers 0 offered_bids ++ offers 1 offered_boasts)

-- one to eight seats have a boast each, an entry each, and a bid each where the bids are shown
abbrev pub have_bidders : Bids → Bool
have_bidders g = (length g.common.boasts == length g.players) && are_seats 8 (length g.players) (option_map (λ bids. length bids) g.common.revealed)

abbrev pub bidding_form : Form Bidding
bidding_form = object_of_two (codes "boasts") (each count_form) (codes "revealed") (or_none (each count_form))
    (λ boasts revealed. record { boasts = boasts; revealed = revealed }) (λ b. b.boasts) (λ b. b.revealed)

abbrev pub bids_form : Form Bids
bids_form = where_holds have_bidders (split_form bidding_form (each (or_none (sealed_form (codes "bid") count_form))) (or_none no_secret_form))

abbrev pub blind_bid : Rules Bids
blind_bid = record (plain bid_sheet (λ seats words. Done (no_bids seats) words []) (λ g ctx seat id args words. bid_move g seat id args words) bids_form.own bids_form.value bids_form.read) {
  end_if = λ g ctx. bid_end g;
  game_end = λ g ctx words. Done (revealed g) words [];
  view = λ g ctx viewer. strip g viewer;
  undoable = λ g ctx id. nat_eq id 1;
  options = λ g ctx seat. offered ctx seat (bid_offers g seat);
}
