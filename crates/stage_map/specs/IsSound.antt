-- What holds of every map in a match. It and each map on its stack has rows, in rising order of seats; its seats, stages and
-- followers are there, and its counts have a bound. A null map has no follower and an empty stack.
use Rattle.std.specs.Prelude.{◌≡◌, ◌<◌, ◌≤◌, ℕ, Option, None, Some, List, [], ◌∷◌, length}
use Rattle.std.specs.List.{AllByRecursion}
use Rattle.stage_map.specs.declared.rows.Row.{Row}
use Rattle.stage_map.specs.declared.active.Kept.{Kept}
use Rattle.stage_map.specs.Active.{Map}

-- a row of one of so many seats, in one of so many stages or none, with a count of at most so many moves
pub record RowFits (stages seats most : ℕ) (row : Row) : Type 0 where
  pub seat : row.seat < seats
  pub stage : (stage : ℕ) → row.stage ≡ Some stage → stage < stages
  pub count : row.count ≤ most

-- each row is of a greater seat than those before it
abbrev pub Rise : List Row → Type 0
Rise [] = Unit {0}
Rise (row ∷ listed) = AllByRecursion (λ (later : Row). row.seat < later.seat) listed × Rise listed

-- the rows and the follower of a map that isn't null
pub record Stands (specs stages seats most : ℕ) (listed : List Row) (next : Option ℕ) : Type 0 where
  pub not_empty : 0 < length listed
  pub rise : Rise listed
  pub fit : AllByRecursion (RowFits stages seats most) listed
  pub follower : (spec : ℕ) → next ≡ Some spec → spec < specs

abbrev pub StandsOrNull : ℕ → ℕ → ℕ → ℕ → Option (List Row) → Map → Type 0
StandsOrNull specs stages seats most None m = (m.next ≡ None) × (m.stack ≡ [])
StandsOrNull specs stages seats most (Some listed) m = Stands specs stages seats most listed m.next

pub record IsSound (specs stages seats most : ℕ) (m : Map) : Type 0 where
  pub present : StandsOrNull specs stages seats most m.rows m
  pub earlier : AllByRecursion (λ (kept : Kept). Stands specs stages seats most kept.rows kept.next) m.stack
