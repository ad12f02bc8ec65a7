-- The moves that the games with secrets offer are made.
use Rattle.std.specs.Prelude.{◌≡◌, ◌+◌, ◌<◌, ◌≤◌, ◌==◌, ℕ, zero, suc, pos, Bool, true, false, ◌&&◌, if◌then◌else◌, nat_eq, nat_le, nat_lt, length, List, [], ◌∷◌, ◌++◌, remove, Option, Some, None, slice_get, option_map, codes, IsTrue, refl}
use Rattle.std.specs.List.{AllByRecursion}
use Rattle.std.specs.Str.{chars, is_utf8}
use lib.Utf8.{encode}
use Rattle.std.proofs.Common.{sym, subst, arith}
use Rattle.std.proofs.lemmas.Bool.{false≢true, le-leb, leb-true, and_from, and_parts, eqb-true}
use Rattle.card_games.specs.BlindBid.{Bids, bid, bid_move, bid_offers, boast, have_bidders, is_bid, offered_bids, offered_boasts}
use Rattle.card_games.specs.Captions.{Texts, caption_offers, have_writers, write}
use Rattle.card_games.specs.HighHand.{Cards, card_move, card_offers, draw, draw_to, hand_of, is_free, lay, lay_card, lay_from, lay_offers, lays}
use Rattle.card_games.specs.Offers.{offers}
use Rattle.card_games.specs.OwnLaws.{all_joined}
use Rattle.card_games.specs.Pack.{are_few}
use Rattle.card_games.specs.Parts.{deck_in, own_bidding, own_bids, own_no_secret, own_sealed_bid, own_sealed_text, own_shown, own_split, own_texts}
use Rattle.card_games.specs.Sealed.{Sealing, are_seats, may_seal, seal, with_item}
use Rattle.card_games.specs.declared.sealed.Sealed.{Sealed}
use Rattle.game_sheet.specs.Short.{is_short}
use Rattle.game_sheet.specs.declared.args.Arg.{Arg}
use Rattle.game_sheet.specs.declared.args.Arg.TheVariants.{Whole, Text}
use Rattle.game_trait.specs.Deed.{Barred, Deed, Done, GaveUp, Invalid}
use Rattle.offered_moves.proofs.Ending.{IsQuiet}
use Rattle.offered_moves.proofs.TableOffers.{at_place, below, if_offered}

-- where a test holds, a state is made
tested : {G : Type 0} (test : Bool) (made : Deed G Barred) → test ≡ true → IsQuiet made → IsQuiet (if test then made else GaveUp Invalid)
tested true made is quiet = quiet
tested false made is quiet = absurd (false≢true is)

-- ---- sealed items

sealed_low : {A : Type 0} (players : List (Option (Sealed A))) (seat : ℕ) → may_seal (slice_get players seat) ≡ true → seat < length players
sealed_low [] seat may = absurd (false≢true may)
sealed_low (player ∷ players) zero may = omega arith
sealed_low (player ∷ players) (suc seat) may = let low : seat < length players = sealed_low players seat may in omega arith

sealed : {C A : Type 0} (allowed : Bool) (g : Sealing C A) (seat : ℕ) (item : A) (words : List ℕ) → allowed ≡ true → may_seal (slice_get g.players seat) ≡ true → IsQuiet (seal allowed g seat item words)
sealed allowed g seat item words is may = tested (allowed && may_seal (slice_get g.players seat)) (Done (with_item g seat item) words []) (and_from allowed (may_seal (slice_get g.players seat)) is may) tt

few_seats : (most players : ℕ) (shown : Option ℕ) → are_seats most players shown ≡ true → players ≤ most
few_seats most players shown are =
    let outer = and_parts (nat_le 1 players && nat_le players most) _ are in
    leb-true players most (and_parts (nat_le 1 players) (nat_le players most) outer.0).1

-- ---- Blind Bid

abbrev pub Bid : Bids → ℕ → List ℕ → ℕ × List Arg → Type 0
Bid g seat words offer = (offer.0 < 2) × IsQuiet (bid_move g seat offer.0 offer.1 words)

one_bid : (g : Bids) (seat n : ℕ) (words : List ℕ) → seat < 8 → may_seal (slice_get g.players seat) ≡ true → is_bid n ≡ true → Bid g seat words (0, Whole (pos n) ∷ [])
one_bid g seat n words low may is = (omega arith, tested (nat_lt seat 8) (bid g seat (Whole (pos n) ∷ []) words) (below seat 8 low) (sealed (is_bid n) g seat n words is may))

one_boast : (g : Bids) (seat n : ℕ) (words : List ℕ) → seat < 8 → seat < length g.common.boasts → nat_le n 9 ≡ true → Bid g seat words (1, Whole (pos n) ∷ [])
one_boast g seat n words low there is = (
  omega arith,
  tested (nat_lt seat 8) (boast g seat (Whole (pos n) ∷ []) words) (below seat 8 low)
      (tested (nat_le n 9 && nat_lt seat (length g.common.boasts)) _ (and_from (nat_le n 9) (nat_lt seat (length g.common.boasts)) is (below seat (length g.common.boasts) there)) tt),
)

pub bids_made : (g : Bids) (seat : ℕ) (words : List ℕ) → IsTrue (own_bids g) → AllByRecursion (Bid g seat words) (bid_offers g seat)
bids_made g seat words own = if_offered (Bid g seat words) (may_seal (slice_get g.players seat)) _ (λ may.
    let have = and_parts (have_bidders g) (own_split own_bidding own_no_secret own_sealed_bid g) own in
    let count = and_parts (length g.common.boasts == length g.players) _ have.0 in
    let same : length g.common.boasts ≡ length g.players = eqb-true (length g.common.boasts) (length g.players) count.0 in
    let few : length g.players ≤ 8 = few_seats 8 (length g.players) (option_map (λ bids. length bids) g.common.revealed) count.1 in
    let there : seat < length g.players = sealed_low g.players seat may in
    let low : seat < 8 = omega arith in
    let boasts : seat < length g.common.boasts = omega arith in
    let b : (n : ℕ) → is_bid n ≡ true → Bid g seat words (0, Whole (pos n) ∷ []) = λ n is. one_bid g seat n words low may is in
    let o : (n : ℕ) → nat_le n 9 ≡ true → Bid g seat words (1, Whole (pos n) ∷ []) = λ n is. one_boast g seat n words low boasts is in
    all_joined (Bid g seat words) (offers 0 offered_bids) (offers 1 offered_boasts)
    (b 10 refl, (b 20 refl, (b 30 refl, (b 40 refl, (b 50 refl, (b 60 refl, (b 70 refl, (b 80 refl, (b 90 refl, (b 100 refl, tt))))))))))
    (o 0 refl, (o 1 refl, (o 2 refl, (o 3 refl, (o 4 refl, (o 5 refl, (o 6 refl, (o 7 refl, (o 8 refl, (o 9 refl, tt)))))))))))

-- ---- Captions

abbrev pub Writes : Texts → ℕ → List ℕ → ℕ × List Arg → Type 0
Writes g seat words offer = (offer.0 ≡ 0) × IsQuiet (write g seat offer.1 words)

one_text : (g : Texts) (seat : ℕ) (text words : List ℕ) → seat < 16 → may_seal (slice_get g.players seat) ≡ true → nat_le 1 (length text) ≡ true → is_short text ≡ true → Writes g seat words (0, Text text ∷ [])
one_text g seat text words low may some short =
    (refl, sealed (nat_lt seat 16 && nat_le 1 (length text) && is_short text) g seat text words (and_from (nat_lt seat 16 && nat_le 1 (length text)) (is_short text) (and_from (nat_lt seat 16) (nat_le 1 (length text)) (below seat 16 low) some) short) may)

one_is_short : is_short (codes "one") ≡ true
unfolding is_utf8 chars encode
one_is_short = refl

two_is_short : is_short (codes "two") ≡ true
unfolding is_utf8 chars encode
two_is_short = refl

pub texts_made : (g : Texts) (seat : ℕ) (words : List ℕ) → IsTrue (own_texts g) → AllByRecursion (Writes g seat words) (caption_offers g seat)
texts_made g seat words own = if_offered (Writes g seat words) (may_seal (slice_get g.players seat)) _ (λ may.
    let have = and_parts (have_writers g) (own_split own_shown own_no_secret own_sealed_text g) own in
    let few : length g.players ≤ 16 = few_seats 16 (length g.players) (option_map (λ texts. length texts) g.common.revealed) have.0 in
    let there : seat < length g.players = sealed_low g.players seat may in
    let low : seat < 16 = omega arith in
    (one_text g seat (codes "one") words low may refl one_is_short, (one_text g seat (codes "two") words low may refl two_is_short, tt)))

-- ---- High Hand

-- the first card of the deck goes into the hand
pub record CanDraw (g : Cards) (seat : ℕ) : Type 0 where
  pub hand : List ℕ
  pub card : ℕ
  pub deck : List ℕ
  pub its : hand_of g seat ≡ Some hand
  pub first : deck_in g.secret ≡ card ∷ deck
  pub few : length hand + length deck < 52

abbrev pub Plays : Cards → ℕ → ℕ → List ℕ → ℕ × List Arg → Type 0
Plays g seat phase words offer = (offer.0 ≡ phase) × (phase < 2) × IsQuiet (card_move g seat offer.0 offer.1 words)

pub one_longer : (hand : List ℕ) (card : ℕ) → length (hand ++ card ∷ []) ≡ length hand + 1
one_longer [] card = refl
one_longer (next ∷ hand) card = omega (arith, one_longer hand card)

one_less : (hand : List ℕ) (place : ℕ) → length (remove hand place) ≤ length hand
one_less [] zero = omega arith
one_less [] (suc place) = omega arith
one_less (next ∷ hand) zero = omega arith
one_less (next ∷ hand) (suc place) = omega (arith, one_less hand place)

drawn : (g : Cards) (seat : ℕ) (words : List ℕ) → CanDraw g seat → IsQuiet (draw g seat [] words)
drawn g seat words can =
    let longer = one_longer can.hand can.card in
    subst (λ h. IsQuiet (draw_to g seat h (deck_in g.secret) words)) (sym can.its)
    (subst (λ d. IsQuiet (draw_to g seat (Some can.hand) d words)) (sym can.first)
    (tested (are_few (can.hand ++ can.card ∷ []) && are_few can.deck) _
    (and_from (are_few (can.hand ++ can.card ∷ [])) (are_few can.deck) (le-leb (length (can.hand ++ can.card ∷ [])) 52 (omega (arith, can.few))) (le-leb (length can.deck) 52 (omega (arith, can.few)))) tt))

one_laid : (g : Cards) (seat : ℕ) (hand : List ℕ) (place : ℕ) (words : List ℕ) → hand_of g seat ≡ Some hand → length hand ≤ 52 → is_free (slice_get g.common.places seat) ≡ true → place < length hand → IsQuiet (lay g seat (Whole (pos place) ∷ []) words)
one_laid g seat hand place words its few free low =
    let has = at_place hand place low in
    subst (λ h. IsQuiet (lay_from g seat place h words)) (sym its)
    (subst (λ c. IsQuiet (lay_card g seat place hand c words)) (sym has.1)
    (tested (are_few (remove hand place) && is_free (slice_get g.common.places seat)) _ (and_from (are_few (remove hand place)) (is_free (slice_get g.common.places seat)) (le-leb (length (remove hand place)) 52 (omega (arith, one_less hand place))) free) tt))

all_laid : (P : ℕ × List Arg → Type 0) (count : ℕ) → ((place : ℕ) → place < count → P (1, Whole (pos place) ∷ [])) → AllByRecursion P (lays count)
all_laid P zero each = tt
all_laid P (suc place) each = all_joined P (lays place) ((1, Whole (pos place) ∷ []) ∷ []) (all_laid P place (λ p low. each p (omega arith))) (each place (omega arith), tt)

laid_from : (g : Cards) (seat : ℕ) (hand : Option (List ℕ)) (words : List ℕ) → seat < 4 → hand_of g seat ≡ hand → AllByRecursion (Plays g seat 1 words) (lay_offers g seat hand)
laid_from g seat None words low its = tt
laid_from g seat (Some hand) words low its =
    if_offered (Plays g seat 1 words) (are_few hand && is_free (slice_get g.common.places seat)) (lays (length hand)) (λ may.
    let parts = and_parts (are_few hand) (is_free (slice_get g.common.places seat)) may in
    let few : length hand ≤ 52 = leb-true (length hand) 52 parts.0 in
    all_laid (Plays g seat 1 words) (length hand) (λ place is. (refl, omega arith, tested (nat_lt seat 4) (lay g seat (Whole (pos place) ∷ []) words) (below seat 4 low) (one_laid g seat hand place words its few parts.1 is))))

either_list : (P : ℕ × List Arg → Type 0) (test : Bool) (xs ys : List (ℕ × List Arg)) → (test ≡ true → AllByRecursion P xs) → (test ≡ false → AllByRecursion P ys) → AllByRecursion P (if test then xs else ys)
either_list P true xs ys p q = p refl
either_list P false xs ys p q = q refl

pub cards_made : (g : Cards) (seat phase : ℕ) (words : List ℕ) → seat < 4 → (phase ≡ 0 → CanDraw g seat) → AllByRecursion (Plays g seat phase words) (card_offers g seat (Some phase))
cards_made g seat phase words low can =
    either_list (Plays g seat phase words) (nat_eq phase 0) ((0, []) ∷ []) _
    (λ is. let first : phase ≡ 0 = eqb-true phase 0 is in ((sym first, omega arith, tested (nat_lt seat 4) (draw g seat [] words) (below seat 4 low) (drawn g seat words (can first))), tt))
    (λ not_first. either_list (Plays g seat phase words) (nat_eq phase 1) (lay_offers g seat (hand_of g seat)) []
    (λ is. let second : phase ≡ 1 = eqb-true phase 1 is in subst (λ p. AllByRecursion (Plays g seat p words) (lay_offers g seat (hand_of g seat))) (sym second) (laid_from g seat (hand_of g seat) words low refl))
    (λ not_second. tt))
