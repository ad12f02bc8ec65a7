use Rattle.session_pool.proofs.Places.{none_served}
use Rattle.session_pool.specs.Watched.{seen_of}
use Rattle.door_serve.proofs.serving.serve_table.Goals as goal

pub returns-else-open_match-clause-served : goal.returns-else-open_match-clause-served
returns-else-open_match-clause-served g c = none_served g.B.Object.may_starve c.args.seed c.args.spare.places (seen_of c.args.watch.items) (λ s. Unit {0}) (g.D.Door.returned c.args.door) c.requires.none_back
