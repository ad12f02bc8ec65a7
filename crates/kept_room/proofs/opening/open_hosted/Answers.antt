use Rattle.kept_room.proofs.opening.open_hosted.Goals as goal

pub returns-in-Ok-clause-opened : goal.returns-in-Ok-clause-opened
returns-in-Ok-clause-opened g c =
    let o = c.in-Ok.ensures.opened in
    c.emptied.ensures c.args.room c.args.disk o.0 (o.1, o.2)
