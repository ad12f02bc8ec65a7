-- What is written of a state has no float.
use Rattle.std.proofs.Common.{ap, ◌∙◌}
use Rattle.serde_json.specs.Written.{has_float}
use Rattle.slot_json.proofs.TableLaws.{table_float_free}
use Rattle.slot_json.proofs.values.table_to_json.Goals as goal

pub returns-clause-float_free : goal.returns-clause-float_free
returns-clause-float_free c = ap has_float c.in_ok-value.ensures ∙ table_float_free c.args.layout.now c.requires c.args.table.now
