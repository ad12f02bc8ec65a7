use Rattle.serde_json.specs.View.{view}
use Rattle.sight_reading.proofs.Readers.{ctx_found}
use Rattle.sight_reading.proofs.ctx_read.ctx_of.Goals as goal

pub returns-clause-found : goal.returns-clause-found
returns-clause-found c = λ canonical. ctx_found c.args.sheet.now (view c.args.value.now) c.in_ok-ctx.ctx c.in_ok-ctx.ensures canonical
