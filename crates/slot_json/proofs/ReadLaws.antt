-- What is read is own, and is all of what it was read from, as the laws of games say it.
use Rattle.std.proofs.Common.{◌≡◌, true, IsTrue, Option, Some, subst}
use Rattle.std.specs.Prelude.{IfSome}
use Rattle.game_slots.specs.Tables.{table_fits}
use Rattle.game_slots.specs.declared.table.Table.{Table}
use Rattle.json_tree.specs.Canonical.{IsCanonical}
use Rattle.open_game.specs.Form.{IsReadFrom}
use Rattle.serde_json.specs.Data.{Data}
use Rattle.slot_json.specs.TableForms.{layout_fits, table_form, table_read, table_value}
use Rattle.slot_json.specs.declared.layout.Layout.{Layout}
use Rattle.slot_json.proofs.TableLaws.{table_laws}

was_read : (l : Layout) → layout_fits l ≡ true → (v : Data) (table : Table) → table_read l v ≡ Some table → IsReadFrom (table_form l) v table
was_read l fit v table is = subst (λ (o : Option Table). IfSome o (IsReadFrom (table_form l) v)) is ((table_laws l fit).laws.reads v)

pub table_read_own : (l : Layout) → layout_fits l ≡ true → (v : Data) (table : Table) → table_read l v ≡ Some table → IsTrue (table_fits l.rows table)
table_read_own l fit v table is = (was_read l fit v table is).0

pub table_read_only : (l : Layout) → layout_fits l ≡ true → (v : Data) (table : Table) → IsCanonical v → table_read l v ≡ Some table → table_value l table ≡ v
table_read_only l fit v table canonical is = (was_read l fit v table is).1 canonical
