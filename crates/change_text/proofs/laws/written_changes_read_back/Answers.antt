use Rattle.change_text.proofs.BackLaws.{read_back}
use Rattle.change_text.proofs.laws.written_changes_read_back.Goals as goal

pub returns : goal.returns
returns c = read_back
