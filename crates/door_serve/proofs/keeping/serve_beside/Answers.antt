use Rattle.door_serve.proofs.keeping.serve_beside.Goals as goal

pub returns-clause-ended : goal.returns-clause-ended
returns-clause-ended g c = c.join-own.ensures.second.1.1.0
