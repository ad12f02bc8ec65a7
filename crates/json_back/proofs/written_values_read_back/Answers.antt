use Rattle.json_back.proofs.Written.{written_reads}
use Rattle.json_back.proofs.written_values_read_back.Goals as goal

pub returns : goal.returns
returns c = written_reads
