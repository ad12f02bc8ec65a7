-- The share writes as its game.
use Rattle.std.proofs.Common.{◌≡◌, IfOk, subst}
use Rattle.described_game.specs.declared.described.Described.{Described}
use Rattle.serde_json.specs.View.{view}
use Rattle.slot_json.specs.TableForms.{table_value}
use Rattle.described_game.proofs.shared.SharedGame.to_value.Goals as goal

pub returns-clause-value : goal.returns-clause-value
returns-clause-value c = subst (λ (d : Described). IfOk c.to_value.result (λ v. view v ≡ table_value d.parts.layout c.args.g.now)) c.game.ensures c.to_value.ensures.value
