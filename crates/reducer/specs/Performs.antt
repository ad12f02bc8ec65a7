-- How an action from a checkpoint is answered: by the next checkpoint, or by the rule that it breaks. Want of memory is free.
use Rattle.std.specs.Prelude.{◌≡◌, ◌+◌, ℕ, Result, Ok, Err}
use Rattle.game_sheet.specs.declared.act.Act.{Act}
use Rattle.game_sheet.specs.declared.refusal.GameNo.{GameNo}
use Rattle.game_sheet.specs.declared.refusal.GameNo.TheVariants.{Broken, NoMemory}
use Rattle.game_trait.specs.Rules.{Rules}
use Rattle.phase_flow.specs.Action.{once}
use Rattle.reducer.specs.Walk.{reached_at}
use Rattle.reducer.specs.declared.checkpoint.Checkpoint.{Checkpoint}

abbrev pub Performs : {G : Type 0} → Rules G → Checkpoint G → ℕ → Act → Result (Checkpoint G) GameNo → Type 0
Performs rules w seat act (Ok next) = (once rules (reached_at w) seat act ≡ Ok (reached_at next)) × (next.count ≡ w.count + 1)
Performs rules w seat act (Err (Broken rule)) = once rules (reached_at w) seat act ≡ Err rule
Performs rules w seat act (Err NoMemory) = Unit {0}
