use Rattle.std.proofs.Common.{rules}
use Rattle.wire_json.proofs.NoNames.{no_phase, no_stage}
use Rattle.wire_json.proofs.names.event_named.Goals as goal

pub returns-in-None : goal.returns-in-None
returns-in-None c = no_phase c.args.sheet.now c.args.kind c.args.to.now _ c.phase_named.result (search rules) c.in-SetPhase-Name.is-1 (search rules) (search rules)

pub returns-in-None-stage_named : goal.returns-in-None-stage_named
returns-in-None-stage_named c = no_stage c.args.sheet.now c.args.kind c.args.to.now _ c.stage_named.result (search rules) c.in-SetStage-Name.is-1 (search rules) (search rules)
