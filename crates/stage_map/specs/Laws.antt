-- What the operations on maps keep, and what a context that shows a map says of it.
use Rattle.std.specs.Prelude.{◌≡◌, ◌<◌, ◌≤◌, ◌+◌, ℕ, All, Option, Some, List, length, map, slice_get, option_map}
use Rattle.std.specs.List.Sorted.{IsStrictlyIncreasing}
use Rattle.game_sheet.specs.SheetFits.{SheetFits}
use Rattle.game_sheet.specs.declared.sheet.Sheet.{Sheet}
use Rattle.stage_map.specs.declared.rows.Row.{Row}
use Rattle.stage_map.specs.Active.{Map, none, shown, row_on, count_of}
use Rattle.stage_map.specs.IsSound.{IsSound}
use Rattle.stage_map.specs.Moves.{place_of}
use Rattle.stage_map.specs.Set.{set, set_within}
use Rattle.stage_map.specs.Parts.{set_by}
use Rattle.stage_map.specs.Stages.{set_stage, end_stage, count_move}

-- a sheet that fits, in a match of so many seats with this current seat and play order
pub record Suits (sheet : Sheet) (seats current : ℕ) (order : List ℕ) : Type 0 where
  pub fits : SheetFits sheet
  pub enough : sheet.min_seats ≤ seats
  pub is_seat : current < seats
  pub are_seats : All (λ seat. seat < seats) order

-- a sound map of a match of this sheet and so many seats, with counts of at most so many moves
abbrev pub IsSoundIn : Sheet → ℕ → ℕ → Map → Type 0
IsSoundIn sheet seats most m = IsSound (length sheet.specs) (length sheet.stages) seats most m

abbrev pub NullIsSound : Type 0
NullIsSound = (sheet : Sheet) (seats most : ℕ) → IsSoundIn sheet seats most none

abbrev pub SetKeeps : Type 0
SetKeeps = (sheet : Sheet) (seats most spec current : ℕ) (order : List ℕ) (m : Map) → Suits sheet seats current order → IsSoundIn sheet seats most m → IsSoundIn sheet seats most (set sheet spec current order m)

abbrev pub SetStageKeeps : Type 0
SetStageKeeps = (sheet : Sheet) (seats most seat stage : ℕ) (m : Map) → seat < seats → stage < length sheet.stages → IsSoundIn sheet seats most m → IsSoundIn sheet seats most (set_stage seat stage m)

abbrev pub EndStageKeeps : Type 0
EndStageKeeps = (sheet : Sheet) (seats most seat current : ℕ) (order : List ℕ) (m : Map) → Suits sheet seats current order → IsSoundIn sheet seats most m → IsSoundIn sheet seats most (end_stage sheet seat current order m)

-- a counted move raises the bound of the counts by one
abbrev pub CountMoveKeeps : Type 0
CountMoveKeeps = (sheet : Sheet) (seats most seat current : ℕ) (order : List ℕ) (m : Map) → Suits sheet seats current order → IsSoundIn sheet seats most m → IsSoundIn sheet seats (most + 1) (count_move sheet seat current order m)

abbrev pub BoundGrows : Type 0
BoundGrows = (sheet : Sheet) (seats most more : ℕ) (m : Map) → most ≤ more → IsSoundIn sheet seats most m → IsSoundIn sheet seats more m

abbrev pub CountsBounded : Type 0
CountsBounded = (sheet : Sheet) (seats most seat : ℕ) (m : Map) → IsSoundIn sheet seats most m → count_of m seat ≤ most

-- no seat is shown twice
abbrev pub ShownRises : Type 0
ShownRises = (sheet : Sheet) (seats most : ℕ) (m : Map) (pairs : List (ℕ × Option ℕ)) → IsSoundIn sheet seats most m → shown m ≡ Some pairs → IsStrictlyIncreasing (map (λ (pair : ℕ × Option ℕ). pair.0) pairs)

-- a context that shows a map lists the seats of the map, in their stages
abbrev pub ShownLists : Type 0
ShownLists = (m : Map) (pairs : List (ℕ × Option ℕ)) (seat : ℕ) → shown m ≡ Some pairs → place_of pairs seat ≡ option_map (λ (row : Row). row.stage) (row_on m seat)

-- setting a spec is making its map, and setting its follower where that is empty
abbrev pub SetsFollowers : Type 0
SetsFollowers = (sheet : Sheet) (spec current : ℕ) (order : List ℕ) (m : Map) → SheetFits sheet → set sheet spec current order m ≡ set_by (λ next emptied. set sheet next current order emptied) (slice_get sheet.specs spec) current order m

-- no greater number of specs makes another map
abbrev pub NumberIsEnough : Type 0
NumberIsEnough = (n : ℕ) (sheet : Sheet) (spec current : ℕ) (order : List ℕ) (m : Map) → SheetFits sheet → length sheet.specs ≤ n → set_within n sheet current order spec m ≡ set sheet spec current order m
