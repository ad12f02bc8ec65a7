-- The disks that a shelf gives, and how often it had none.
use Rattle.std.specs.Prelude.{◌≤◌, ℕ, List, [], ◌∷◌, ◌++◌, Option, Some, None, option_map}
use Rattle.board_links.specs.Faults.{HasRisen}

-- one more was given, or none
abbrev pub with_given : {D : Type 0} → Option D → Option (List D) → Option (List D)
with_given None before = before
with_given (Some disk) before = option_map (λ ds. ds ++ disk ∷ []) before

-- the count of faults never falls, and has risen where none was given
abbrev pub CountsGiven : {D : Type 0} → Option D → ℕ → ℕ → Type 0
CountsGiven None old new = (old ≤ new) × HasRisen old new
CountsGiven (Some disk) old new = old ≤ new
