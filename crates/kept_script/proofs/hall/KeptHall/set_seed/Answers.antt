use Rattle.hall_history.specs.Tapes.{hall_tape}
use Rattle.session_hall.proofs.Halls.{seed_set}
use Rattle.kept_script.proofs.hall.KeptHall.set_seed.Goals as goal

pub returns-clause-set : goal.returns-clause-set
returns-clause-set g c = λ h s. seed_set hall_tape _ h s c.args.seed
