-- How the start of a match is answered: by its first table, by the bounds of the sheet, or by the rule that the beginning breaks.
use Rattle.std.specs.Prelude.{◌≡◌, ℕ, Bool, true, false, ◌&&◌, nat_le, List, Result, Ok, Err}
use Rattle.game_sheet.specs.declared.refusal.GameNo.{GameNo}
use Rattle.game_sheet.specs.declared.refusal.GameNo.TheVariants.{Broken, NoMemory as Starved}
use Rattle.game_sheet.specs.declared.sheet.Sheet.{Sheet}
use Rattle.game_trait.specs.Rules.{Rules}
use Rattle.phase_flow.specs.Action.{begin}
use Rattle.reducer.specs.declared.fold.StartNo.{StartNo}
use Rattle.reducer.specs.declared.fold.StartNo.TheVariants.{BadSeats, NoStart, NoMemory}
use Rattle.reducer.specs.Standing.{Standing}

-- whether a sheet allows a number of seats
abbrev pub allows_seats : Sheet → ℕ → Bool
allows_seats sheet seats = nat_le sheet.min_seats seats && nat_le seats sheet.max_seats

abbrev pub Starts : {G : Type 0} → Rules G → ℕ → List ℕ → Result (Standing G) StartNo → Type 0
Starts rules seats seed (Ok s) = (allows_seats rules.sheet seats ≡ true) × (begin rules seats seed ≡ Ok s.table)
Starts rules seats seed (Err BadSeats) = allows_seats rules.sheet seats ≡ false
Starts rules seats seed (Err (NoStart rule)) = (allows_seats rules.sheet seats ≡ true) × (begin rules seats seed ≡ Err rule)
Starts rules seats seed (Err NoMemory) = Unit {0}

-- what a refusal at the beginning is answered as
abbrev pub start_answer : GameNo → StartNo
start_answer (Broken rule) = NoStart rule
start_answer Starved = NoMemory
