use Rattle.convergence.proofs.Clauses.{reads_back}
use Rattle.convergence.proofs.Messages.{bye_reads}
use Rattle.convergence.proofs.laws.lines_read_back.Goals as goal

pub returns-clause-stream : goal.returns-clause-stream
returns-clause-stream g c = λ room h low fits pass j s e shallow. reads_back g.X.Game.rules room low g.met.X.Game.lawful c.matches_stay_sound.ensures h fits pass j s e shallow

pub returns-clause-bye : goal.returns-clause-bye
returns-clause-bye g c = bye_reads
