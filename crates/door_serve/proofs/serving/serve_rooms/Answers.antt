use Rattle.session_pool.proofs.Places.{none_served}
use Rattle.session_pool.proofs.Seeing.{some_stand}
use Rattle.door_serve.proofs.serving.serve_rooms.Goals as goal

pub returns-in-Err-clause-served : goal.returns-in-Err-clause-served
returns-in-Err-clause-served g c =
    let stood = some_stand g.B.Object.stands_for c.args.rooms.items c.requires.stand in
    (stood.0, stood.1, none_served g.B.Object.may_starve c.args.seed c.args.places stood.0 (λ s. Unit {0}) (g.D.Door.returned c.args.door) c.requires.none_back)
