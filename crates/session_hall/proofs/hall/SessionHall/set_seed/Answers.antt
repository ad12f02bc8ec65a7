use Rattle.session_hall.proofs.Halls.{seed_set, stands_for_one}
use Rattle.session_hall.proofs.hall.SessionHall.set_seed.Goals as goal

pub invariant_of-self : goal.invariant_of-self
invariant_of-self c = stands_for_one _ _ _ (seed_set _ _ c.self.invariant.0 c.self.invariant.1 c.args.seed)
