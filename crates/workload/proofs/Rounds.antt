-- Rounds, line by line.
use Rattle.std.proofs.Common.{◌≡◌, ◌<◌, ◌≤◌, ◌+◌, ◌++◌, ℕ, zero, suc, List, [], ◌∷◌, length, drop, Option, Some, refl, sym, ap, subst, ◌∙◌, arith}
use Rattle.std.specs.Prelude.{slice_get}
use Rattle.std.proofs.lemmas.List.{append_assoc, length-append}
use Rattle.any_game.specs.AnyRules.{any_rules, named}
use Rattle.any_game.specs.GameKind.{GameKind}
use Rattle.any_game.specs.declared.any_g.AnyG.{AnyG}
use Rattle.world_history.specs.Workload.{Place, Workload, attachings, drops_all, first_reads, go_all, goes, leavings, places_from}
use Rattle.game_sheet.specs.MatchName.{Name}
use Rattle.world_history.specs.World.{Step, Attaches, Drops, Leaves}
use Rattle.wire_json.specs.declared.protocol.Protocol.TheVariants.{One}
use Rattle.workload.specs.IsLoad.{HeldLoad, IsLoad, reads_first}

-- ---- the items of a list, one by one

pub item_at : {A : Type 0} (xs : List A) (i : ℕ) → i < length xs → (x : A) × (slice_get xs i ≡ Some x) × (drop i xs ≡ x ∷ drop (i + 1) xs)
item_at [] i below = absurd (omega (arith, below))
item_at (x ∷ xs) zero below = (x, refl, refl)
item_at (x ∷ xs) (suc i) below =
    let found = item_at xs i (omega (arith, below)) in
    (found.0, found.1, found.2 ∙ ap (λ n. found.0 ∷ drop n (x ∷ xs)) (next i))
  where
    next : (i : ℕ) → suc (i + 1) ≡ suc i + 1
    next i = omega arith

pub none_after : {A : Type 0} (xs : List A) (n : ℕ) → length xs ≤ n → drop n xs ≡ []
none_after [] zero e = refl
none_after [] (suc n) e = refl
none_after (x ∷ xs) zero e = absurd (omega (arith, e))
none_after (x ∷ xs) (suc n) e = none_after xs n (omega (arith, e))

pub same_item : {A : Type 0} (found : Option A) (x y : A) → found ≡ Some x → found ≡ Some y → x ≡ y
same_item found x y e f = cc

-- a seat by its parts
pub is_place : (game : GameKind) (name : Name) (seat : ℕ) (found place : Place GameKind) → game ≡ found.game → name ≡ found.name → seat ≡ found.seat → found ≡ place
    → record { game = game; name = name; seat = seat } ≡ place
is_place game name seat found place e f g same =
    ap (λ x. record { game = x; name = name; seat = seat }) e
    ∙ ap (λ x. record { game = found.game; name = x; seat = seat }) f
    ∙ ap (λ x. record { game = found.game; name = found.name; seat = x }) g
    ∙ same

-- ---- the seats of a match, one by one

pub one_place_more : (game : GameKind) (name : Name) (first seats : ℕ) → places_from game name first (suc seats) ≡ places_from game name first seats ++ record { game = game; name = name; seat = first + seats } ∷ []
one_place_more game name first zero = ap (λ n. record { game = game; name = name; seat = n } ∷ []) (none_more first)
  where
    none_more : (n : ℕ) → n ≡ n + 0
    none_more n = omega arith
one_place_more game name first (suc seats) =
    ap (λ rest. record { game = game; name = name; seat = first } ∷ rest)
    (one_place_more game name (first + 1) seats ∙ ap (λ n. places_from game name (first + 1) seats ++ record { game = game; name = name; seat = n } ∷ []) (next first seats))
  where
    next : (m n : ℕ) → m + 1 + n ≡ m + suc n
    next m n = omega arith

pub count_places : (game : GameKind) (name : Name) (first seats : ℕ) → length (places_from game name first seats) ≡ seats
count_places game name first zero = refl
count_places game name first (suc seats) = ap suc (count_places game name (first + 1) seats)

pub count_with : (places : List (Place GameKind)) (game : GameKind) (name : Name) (seats : ℕ) → length (places ++ places_from game name 0 seats) ≡ length places + seats
count_with places game name seats = length-append places (places_from game name 0 seats) ∙ ap (λ n. length places + n) (count_places game name 0 seats)

-- the next seat of a match, behind those before it
pub add_next : (places : List (Place GameKind)) (game : GameKind) (name : Name) (seat : ℕ)
    → (places ++ places_from game name 0 seat) ++ record { game = game; name = name; seat = seat } ∷ [] ≡ places ++ places_from game name 0 (seat + 1)
add_next places game name seat =
    append_assoc places (places_from game name 0 seat) (record { game = game; name = name; seat = seat } ∷ [])
    ∙ ap (λ ps. places ++ ps)
    (sym (ap (λ n. places_from game name 0 n) (one_more seat) ∙ one_place_more game name 0 seat ∙ ap (λ n. places_from game name 0 seat ++ record { game = game; name = name; seat = n } ∷ []) (none_before seat)))
  where
    none_before : (n : ℕ) → 0 + n ≡ n
    none_before n = omega arith

    one_more : (n : ℕ) → n + 1 ≡ suc n
    one_more n = omega arith

-- ---- lines of a world, one by one

module _ (tape : ℕ → List ℕ) where
  abbrev pub Go : List (Step GameKind) → Workload GameKind AnyG → Workload GameKind AnyG
  Go steps l = go_all named any_rules tape steps l

  pub goes_both : (steps more : List (Step GameKind)) (l : Workload GameKind AnyG) → Go (steps ++ more) l ≡ Go more (Go steps l)
  goes_both [] more l = refl
  goes_both (step ∷ steps) more l = goes_both steps more (goes named any_rules tape step l)

  pub same_places : (steps : List (Step GameKind)) (l : Workload GameKind AnyG) → (Go steps l).places ≡ l.places
  same_places [] l = refl
  same_places (step ∷ steps) l = same_places steps (goes named any_rules tape step l)

-- some lines have been run, and these are left
pub record Underway (tape words : ℕ → List ℕ) (lines : ℕ) (now : HeldLoad) (places : List (Place GameKind)) (left : List (Step GameKind)) (end : Workload GameKind AnyG) : Type 0 where
  pub at : Workload GameKind AnyG
  pub stands : IsLoad tape words lines now at
  pub same : at.places ≡ places
  pub comes : Go tape left at ≡ end

module _ (tape words : ℕ → List ℕ) where
  pub underway_first : (lines : ℕ) (now : HeldLoad) (l : Workload GameKind AnyG) (steps : List (Step GameKind)) → IsLoad tape words lines now l → Underway tape words lines now l.places steps (Go tape steps l)
  underway_first lines now l steps is = record { at = l; stands = is; same = refl; comes = refl }

  pub underway_last : (lines : ℕ) (now : HeldLoad) (places : List (Place GameKind)) (left : List (Step GameKind)) (end : Workload GameKind AnyG) → Underway tape words lines now places left end → left ≡ []
      → IsLoad tape words lines now end
  underway_last lines now places left end u none = subst (λ l. IsLoad tape words lines now l) (ap (λ steps. Go tape steps u.at) (sym none) ∙ u.comes) u.stands

  -- one line more, of those that are left
  pub underway_next : (lines after : ℕ) (now new : HeldLoad) (places : List (Place GameKind)) (left rest : List (Step GameKind)) (step : Step GameKind) (end : Workload GameKind AnyG)
      → (u : Underway tape words lines now places left end) → left ≡ step ∷ rest → IsLoad tape words after new (goes named any_rules tape step u.at) → Underway tape words after new places rest end
  underway_next lines after now new places left rest step end u e is = record {
    at = goes named any_rules tape step u.at;
    stands = is;
    same = u.same;
    comes = ap (λ steps. Go tape steps u.at) (sym e) ∙ u.comes;
  }

  -- and the lines of a client's first reading
  pub underway_reads : (lines after : ℕ) (now new : HeldLoad) (places : List (Place GameKind)) (left rest : List (Step GameKind)) (c : ℕ) (end : Workload GameKind AnyG)
      → (u : Underway tape words lines now places left end) → left ≡ reads_first c ++ rest → IsLoad tape words after new (Go tape (reads_first c) u.at) → Underway tape words after new places rest end
  underway_reads lines after now new places left rest c end u e is = record {
    at = Go tape (reads_first c) u.at;
    stands = is;
    same = u.same;
    comes = sym (goes_both tape (reads_first c) rest u.at) ∙ ap (λ steps. Go tape steps u.at) (sym e) ∙ u.comes;
  }

-- what is left of the lines of a round

module _ (tape : ℕ → List ℕ) (places : List (Place GameKind)) (i : ℕ) where
  pub attachings_next : (place : Place GameKind) → drop i places ≡ place ∷ drop (i + 1) places
      → attachings named any_rules tape i (drop i places) ≡ Attaches i place.game place.name (Some place.seat) One ∷ attachings named any_rules tape (i + 1) (drop (i + 1) places)
  attachings_next place e = ap (λ ps. attachings named any_rules tape i ps) e

  pub first_reads_next : (place : Place GameKind) → drop i places ≡ place ∷ drop (i + 1) places → first_reads named any_rules tape i (drop i places) ≡ reads_first i ++ first_reads named any_rules tape (i + 1) (drop (i + 1) places)
  first_reads_next place e = ap (λ ps. first_reads named any_rules tape i ps) e

  pub drops_next : (place : Place GameKind) → drop i places ≡ place ∷ drop (i + 1) places → drops_all named any_rules tape i (drop i places) ≡ Drops i ∷ drops_all named any_rules tape (i + 1) (drop (i + 1) places)
  drops_next place e = ap (λ ps. drops_all named any_rules tape i ps) e

  pub leavings_next : (place : Place GameKind) → drop i places ≡ place ∷ drop (i + 1) places → leavings named any_rules tape (drop i places) ≡ Leaves place.name place.seat ∷ leavings named any_rules tape (drop (i + 1) places)
  leavings_next place e = ap (λ ps. leavings named any_rules tape ps) e

-- lines that go by the seats, after others
pub after_both : (tape : ℕ → List ℕ) (first : List (Step GameKind)) (second : List (Place GameKind) → List (Step GameKind)) (l : Workload GameKind AnyG)
    → Go tape (second (Go tape first l).places) (Go tape first l) ≡ Go tape (first ++ second l.places) l
after_both tape first second l = ap (λ places. Go tape (second places) (Go tape first l)) (same_places tape first l) ∙ sym (goes_both tape first (second l.places) l)
