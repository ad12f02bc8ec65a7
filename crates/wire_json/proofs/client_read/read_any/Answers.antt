use Rattle.wire_json.proofs.ClientLaws.{read_again}
use Rattle.wire_json.proofs.client_read.read_any.Goals as goal

pub returns-in-Some : goal.returns-in-Some
returns-in-Some c = read_again c.args.line.now c.in-Some.message c.in-Some.ensures
