-- The bytes by the rows are as many as a text of an own state may have.
use Rattle.slot_json.proofs.TextLaws.{short_texts}
use Rattle.slot_json.proofs.bytes.text_fits.Goals as goal

pub returns-clause-short : goal.returns-clause-short
returns-clause-short c = short_texts c.args.layout.now c.bytes_fit.result c.bytes_fit.ensures
