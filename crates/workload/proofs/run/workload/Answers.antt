use Rattle.std.proofs.Common.{◌≡◌, ◌∙◌, ap, replicate, []}
use Rattle.std.proofs.lemmas.Result.{IfOk-weaker}
use Rattle.any_game.specs.AnyRules.{any_rules, named}
use Rattle.any_game.specs.GameKind.{GameKind}
use Rattle.any_game.specs.declared.any_g.AnyG.{AnyG}
use Rattle.hall_history.specs.Tapes.{hall_tape, steps_tape}
use Rattle.world_history.specs.Workload.{Workload, transcript}
use Rattle.world_history.specs.World.{new_world}
use Rattle.session_hall.specs.Held.{tape_of}
use Rattle.workload.specs.IsLoad.{step_lines, summary_of}
use Rattle.workload.proofs.Summing.{transcript_is}
use Rattle.workload.proofs.run.workload.Goals as goal

pub returns : goal.returns
returns c =
    let none : Workload GameKind AnyG = record { world = new_world 8; places = []; drawn = 0; held = 0; read = 0 } in
    let ran = c.in_ok-ran.ensures (tape_of (replicate 32 0)) (tape_of c.seed_of.result) none c.in_ok-load.ensures in
    let tells = transcript_is c.args.seed c.args.steps (step_lines c.args.steps) c.seed_of.result c.run-ran.new.self c.seed_of.ensures ran in
    IfOk-weaker c.summary.result (λ text. text.items ≡ summary_of c.args.steps c.counts-counts.result)
    (λ text. text.items ≡ transcript named any_rules hall_tape (steps_tape c.args.seed) 8 c.args.steps)
    (λ text e. e ∙ ap (summary_of c.args.steps) c.counts-counts.ensures ∙ tells) c.summary.ensures
