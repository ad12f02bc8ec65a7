-- What a piece of code does, from what its statement does.
use Rattle.std.proofs.Common.{◌≡◌, ℕ, List, ap, ◌∙◌, subst, sym}
use Rattle.std.specs.Prelude.{Result, Ok, Err}
use Rattle.game_code.specs.Runs.{Performs, Runs, table_left, table_of}
use Rattle.game_sheet.specs.declared.act.Event.{Event}
use Rattle.game_slots.specs.declared.table.Table.{Table}
use Rattle.game_slots.specs.declared.work_table.WorkTable.{WorkTable}
use Rattle.game_trait.specs.Deed.{Deed, Lack}
use Rattle.game_trait.specs.declared.halt.HookHalt.{HookHalt}
use Rattle.game_trait.specs.declared.halt.HookHalt.TheVariants.{Spent as HookSpent, Crowded as HookCrowded, NoMemory as HookNoMemory}

performs_of : (A : Type 0) (done : Result A HookHalt) (held : WorkTable) (left : List ℕ) (queued : List Event) (meaning : Deed WorkTable Lack) → Runs done held left queued meaning → Performs (table_of held.table done) left queued (table_left meaning)
performs_of A (Ok done) held left queued meaning is = ap table_left is
performs_of A (Err HookSpent) held left queued meaning is = (ap table_left is.0, is.1)
performs_of A (Err HookCrowded) held left queued meaning is = (ap table_left is.0, is.1)
performs_of A (Err HookNoMemory) held left queued meaning is = tt

-- the answer of a piece, tied to what it means
pub piece_done : (A : Type 0) (result : Result Table HookHalt) (done : Result A HookHalt) (held : WorkTable) (left : List ℕ) (queued : List Event) (meaning : Deed WorkTable Lack) → result ≡ table_of held.table done
    → Runs done held left queued meaning → Performs result left queued (table_left meaning)
piece_done A result done held left queued meaning is runs = subst (λ r. Performs r left queued (table_left meaning)) (sym is) (performs_of A done held left queued meaning runs)
