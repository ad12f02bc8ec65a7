-- What games in which each seat seals one item keep of the laws of games. No definition but laws of games cites these proofs.
use Rattle.std.specs.Prelude.{◌≡◌, ℕ, suc, ◌==◌, ◌≤◌, ◌&&◌, nat_le, nat_lt, Bool, true, false, if◌then◌else◌, IsTrue, IfSome, List, [], ◌∷◌, length, slice_get, slice_set, is_some, unwrap_or, option_map, Option, Some, None, refl}
use Rattle.std.specs.List.{cons_option, filter_map, list_all}
use Rattle.std.proofs.Common.{◌∙◌, ap, eq-eqb, lit≤, subst}
use Rattle.std.proofs.Math.Nat.{le_trans}
use Rattle.std.proofs.lemmas.Bool.{and_parts, false≢true, le-leb}
use Rattle.std.proofs.lemmas.List.{length-replicate, length-set}
use Rattle.card_games.specs.Greatest.{count_greatest, first_greatest, one_greatest}
use Rattle.card_games.specs.Json.{read_object}
use Rattle.card_games.specs.OwnLaws.{all_copies, all_set, either_keeps, move_own, of_parts, parts_of}
use Rattle.card_games.specs.PartLaws.{IsNeverNull, IsPart, both_true, lone_part, option_part, wrapped_part}
use Rattle.card_games.specs.Parts.{lone_value, no_secret_value, option_value, own_no_secret, own_option, own_split, read_member, read_no_secret, read_option}
use Rattle.card_games.specs.Sealed.{Sealing, are_seats, have_all, item_of, may_seal, seal, shown_items, unsealed, with_item}
use Rattle.card_games.specs.declared.sealed.Sealed.{Sealed}
use Rattle.game_sheet.specs.declared.act.Outcome.{Outcome}
use Rattle.game_sheet.specs.declared.act.Outcome.TheVariants.{Winner, Draw}
use Rattle.game_sheet.specs.declared.sheet.Sheet.{Sheet}
use Rattle.game_trait.specs.InSheet.{OutcomeFits}
use Rattle.game_trait.specs.Lawful.{GivesOwn}
use Rattle.game_trait.specs.Queues.{QueuesInSheet}
use Rattle.json_tree.specs.Names.{has_extra}
use Rattle.serde_json.specs.Data.{Data, member, no_members}
use Rattle.serde_json.specs.Find.{get_member}
use Rattle.std.proofs.lemmas.Bool.{ltb-true}
use Rattle.json_tree.proofs.WritableRows.{all_rise}
use Rattle.std.specs.Option.{option_map_or}

-- ---- reading

pub no_secret_part : IsPart no_secret_value read_no_secret own_no_secret
no_secret_part = record { back = λ s own. absurd (false≢true own); from = λ v. tt; written = λ s own. tt }

pub no_secrets_part : IsPart (option_value no_secret_value) (read_option read_no_secret) (own_option own_no_secret)
no_secrets_part = option_part no_secret_value read_no_secret own_no_secret no_secret_part (λ s own. absurd (false≢true own))

abbrev sealed_with : {A : Type 0} → Option A → Sealed A
sealed_with item = record { item = item }

-- a sealed entry of an item that is read so, as an object with a member of a name
pub sealed_part : {A : Type 0} (name : List ℕ) → ((d : Data) → has_extra (name ∷ []) (member name d no_members) ≡ false) → ((d : Data) → get_member name (member name d no_members) ≡ Some d) → ((d : Data) → all_rise (member name d no_members) ≡ true)
    → (value : A → Data) (read : Data → Option A) (own : A → Bool) → IsPart value read own → IsNeverNull value own
    → IsPart (λ (entry : Sealed A). lone_value name (option_value value) entry.item) (read_object (name ∷ []) (λ v. option_map sealed_with (read_member name (read_option read) v))) (λ entry. own_option own entry.item)
sealed_part {A = A} name no_more found rises value read own part never =
    wrapped_part {R = Sealed A} name (option_value value) (read_option read) (own_option own) sealed_with (λ entry. entry.item) (λ entry. refl) (λ item. refl)
    (lone_part name no_more found rises (option_value value) (read_option read) (own_option own) (option_part value read own part never))

-- ---- seats

-- where there are as many items as seats, they may be shown
pub seats_shown : (most players : ℕ) (shown : Option ℕ) (items : ℕ) → items ≡ players → are_seats most players shown ≡ true → are_seats most players (Some items) ≡ true
seats_shown most players shown items same seats =
    both_true (nat_le 1 players && nat_le players most) (items == players) (and_parts (nat_le 1 players && nat_le players most) (unwrap_or shown players == players) seats).0 (eq-eqb items players same)

pub first_seats : (most seats : ℕ) → 2 ≤ seats → seats ≤ most → are_seats most seats None ≡ true
first_seats most seats least small =
    both_true (nat_le 1 seats && nat_le seats most) (seats == seats)
    (both_true (nat_le 1 seats) (nat_le seats most) (le-leb 1 seats (le_trans {n = 1} {m = 2} {k = seats} (lit≤ tt) least)) (le-leb seats most small)) (eq-eqb seats seats refl)

pub count_unsealed : (A : Type 0) (seats : ℕ) → length (unsealed {A = A} seats) ≡ seats
count_unsealed A seats = let entry : Option (Sealed A) = Some (sealed_with None) in length-replicate seats entry

-- ---- what is own

item_own : {A : Type 0} (own : A → Bool) (entry : Option (Sealed A)) → own_option (λ (e : Sealed A). own_option own e.item) entry ≡ true → own_option own (item_of entry) ≡ true
item_own own None here = refl
item_own own (Some entry) here = here

items_next : {A : Type 0} (own : A → Bool) (item : Option A) (items : List A) (count : ℕ) → own_option own item ≡ true → is_some item ≡ true → list_all own items ≡ true → length items ≡ count
    → (list_all own (cons_option item items) ≡ true) × (length (cons_option item items) ≡ suc count)
items_next own None items count here some each same = absurd (false≢true some)
items_next own (Some item) items count here some each same = (both_true (own item) (list_all own items) here each, ap suc same)

-- the items of own entries are own, and where every entry has one there are as many
items_own : {A : Type 0} (own : A → Bool) (players : List (Option (Sealed A))) → list_all (own_option (λ (e : Sealed A). own_option own e.item)) players ≡ true → have_all players ≡ true
    → (list_all own (filter_map item_of players) ≡ true) × (length (filter_map item_of players) ≡ length players)
items_own own [] each have = (refl, refl)
items_own {A = A} own (entry ∷ players) each have =
    let first = and_parts (own_option (λ (e : Sealed A). own_option own e.item) entry) (list_all (own_option (λ (e : Sealed A). own_option own e.item)) players) each in
    let some = and_parts (is_some (item_of entry)) (have_all players) have in
    let rest = items_own own players first.1 some.1 in
    items_next own (item_of entry) (filter_map item_of players) (length players) (item_own own entry first.0) some.0 rest.0 rest.1

if_shown : {A : Type 0} (own : A → Bool) (players : List (Option (Sealed A))) (all : Bool) → have_all players ≡ all → list_all (own_option (λ (e : Sealed A). own_option own e.item)) players ≡ true
    → IfSome (if all then Some (filter_map item_of players) else None) (λ items. (list_all own items ≡ true) × (length items ≡ length players))
if_shown own players true have each = items_own own players each have
if_shown own players false have each = tt

pub shown_own : {A : Type 0} (own : A → Bool) (players : List (Option (Sealed A))) → list_all (own_option (λ (e : Sealed A). own_option own e.item)) players ≡ true
    → IfSome (shown_items players) (λ items. (list_all own items ≡ true) × (length items ≡ length players))
shown_own own players each = if_shown own players (have_all players) refl each

pub unsealed_own : {A : Type 0} (own : A → Bool) (seats : ℕ) → list_all (own_option (λ (entry : Sealed A). own_option own entry.item)) (unsealed seats) ≡ true
unsealed_own {A = A} own seats = let entry : Option (Sealed A) = Some (sealed_with None) in all_copies (own_option (λ (e : Sealed A). own_option own e.item)) seats entry refl

module _ {C A : Type 0} (have : Sealing C A → Bool) (own_common : C → Bool) (own_item : A → Bool)
    (as_many : (g : Sealing C A) (players : List (Option (Sealed A))) → length players ≡ length g.players → have (record g { players = players }) ≡ have g) where
  abbrev own_entry : Sealed A → Bool
  own_entry entry = own_option own_item entry.item

  abbrev own_sealing : Sealing C A → Bool
  own_sealing g = have g && own_split own_common own_no_secret own_entry g

  item_kept : (g : Sealing C A) (seat : ℕ) (item : A) → IsTrue (own_sealing g) → own_item item ≡ true → IsTrue (own_sealing (with_item g seat item))
  item_kept g seat item own here =
      let parts = parts_of have own_common own_no_secret own_entry g own in
      let entry : Option (Sealed A) = Some (sealed_with (Some item)) in
      of_parts have own_common own_no_secret own_entry (with_item g seat item) (record {
        seats = as_many g (slice_set g.players seat entry) (length-set g.players seat entry) ∙ parts.seats;
        own_common = parts.own_common;
        own_secret = parts.own_secret;
        own_players = all_set (own_option own_entry) g.players seat entry parts.own_players here;
      })

  pub seal_own : (allowed : Bool) (g : Sealing C A) (seat : ℕ) (item : A) (words : List ℕ) → IsTrue (own_sealing g) → (allowed ≡ true → own_item item ≡ true) → GivesOwn own_sealing (seal allowed g seat item words)
  seal_own allowed g seat item words own here =
      move_own own_sealing (allowed && may_seal (slice_get g.players seat)) (with_item g seat item) words
      (λ made. item_kept g seat item own (here (and_parts allowed (may_seal (slice_get g.players seat)) made).0))

pub seal_keeps : {C A : Type 0} (sheet : Sheet) (allowed : Bool) (g : Sealing C A) (seat : ℕ) (item : A) (words : List ℕ) → QueuesInSheet sheet (seal allowed g seat item words)
seal_keeps sheet allowed g seat item words = either_keeps sheet (allowed && may_seal (slice_get g.players seat)) _ _ tt tt

-- ---- the end and what is offered

if_fits : (seat : ℕ) (small : Bool) → nat_lt seat 16 ≡ small → OutcomeFits (if small then Winner seat else Draw)
if_fits seat true is = ltb-true seat 16 is
if_fits seat false is = tt

won_fits : (o : Option ℕ) → OutcomeFits (option_map_or (λ seat. if nat_lt seat 16 then Winner seat else Draw) o Draw)
won_fits None = tt
won_fits (Some seat) = if_fits seat (nat_lt seat 16) refl

one_fits : (test : Bool) (one : Outcome) → OutcomeFits one → OutcomeFits (if test then one else Draw)
one_fits true one fits = fits
one_fits false one fits = tt

-- whoever has the greatest is one of sixteen seats
pub greatest_fits : {A : Type 0} (worth : A → ℕ) (items : List A) → OutcomeFits (one_greatest worth items)
greatest_fits worth items = one_fits (count_greatest worth items == 1) (option_map_or (λ seat. if nat_lt seat 16 then Winner seat else Draw) (first_greatest worth items) Draw) (won_fits (first_greatest worth items))

if_ends : (test : Bool) (one outcome : Outcome) → OutcomeFits one → (if test then Some one else None) ≡ Some outcome → OutcomeFits outcome
if_ends true one outcome fits is = let same : IfSome (Some outcome) OutcomeFits = subst (λ o. IfSome o OutcomeFits) is fits in same
if_ends false one outcome fits is = let same : IfSome (Some outcome) OutcomeFits = subst (λ o. IfSome o OutcomeFits) is tt in same

-- a match that ends so ends with a seat that fits
pub greatest_ends : {A : Type 0} (test : Bool) (worth : A → ℕ) (items : List A) (outcome : Outcome) → (if test then Some (one_greatest worth items) else None) ≡ Some outcome → OutcomeFits outcome
greatest_ends test worth items outcome is = if_ends test (one_greatest worth items) outcome (greatest_fits worth items) is
