-- The share reads as its game.
use Rattle.std.proofs.Common.{◌≡◌, IfOk, subst}
use Rattle.described_game.specs.declared.described.Described.{Described}
use Rattle.serde_json.specs.View.{view}
use Rattle.slot_json.specs.TableForms.{table_read}
use Rattle.described_game.proofs.shared.SharedGame.from_value.Goals as goal

pub returns : goal.returns
returns c = subst (λ (d : Described). IfOk c.from_value.result (λ read. read ≡ table_read d.parts.layout (view c.args.v.now))) c.game.ensures c.from_value.ensures
