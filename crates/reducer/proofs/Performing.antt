-- What an action on a table breaks, an action from a checkpoint breaks.
use Rattle.std.proofs.Common.{◌≡◌, ℕ, List, Err, ap, sym, ◌∙◌}
use Rattle.game_sheet.specs.declared.act.Act.{Act}
use Rattle.game_sheet.specs.declared.refusal.GameNo.{GameNo}
use Rattle.game_sheet.specs.declared.refusal.GameNo.TheVariants.{Broken, NoMemory}
use Rattle.game_trait.specs.Rules.{Rules}
use Rattle.phase_flow.specs.Action.{acted, come_to, once, words_from}
use Rattle.phase_flow.specs.Step.{Step}
use Rattle.reducer.specs.Acts.{Acts}
use Rattle.reducer.specs.Performs.{Performs}
use Rattle.reducer.specs.declared.checkpoint.Checkpoint.{Checkpoint}

pub breaks : {G : Type 0} (rules : Rules G) (w : Checkpoint G) (seat : ℕ) (act : Act) (why : GameNo) (words left : List ℕ) → words ≡ words_from w.seed w.place → Acts (Err why) left (acted rules w.table seat act words) → Performs rules w seat act (Err why)
unfolding once
breaks {G = G} rules w seat act (Broken rule) words left is h =
    ap (λ (ws : List ℕ). come_to w.seed w.place (acted rules w.table seat act ws)) (sym is) ∙ ap (λ (s : Step G). come_to w.seed w.place s) h
breaks rules w seat act NoMemory words left is h = tt
