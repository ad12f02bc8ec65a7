-- The form of a layout that fits keeps the laws.
use Rattle.std.proofs.Common.{sym, ◌∙◌}
use Rattle.slot_json.proofs.TableLaws.{table_laws}
use Rattle.slot_json.proofs.rows.layout_fits.Goals as goal

pub returns-clause-lawful : goal.returns-clause-lawful
returns-clause-lawful c = λ is. table_laws c.args.layout.now (sym c.parts_fit.ensures ∙ is)
