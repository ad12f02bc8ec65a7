use Rattle.record_file.proofs.One.{one}
use Rattle.record_file.proofs.laws.records_are_one.Goals as goal

pub returns : goal.returns
returns c = one
