use Rattle.std.proofs.Common.{[], ◌∷◌, Some, subst, sym}
use Rattle.hall_history.specs.Opening.{own_pass}
use Rattle.match_master.specs.Held.{is_starved}
use Rattle.room_history.specs.declared.call.RoomCall.TheVariants.{Create}
use Rattle.room_object.specs.Entry.{entry}
use Rattle.session_hall.specs.Opens.{CreatesIn}
use Rattle.kept_script.proofs.Trying.{created_so, created_unless, same_room}
use Rattle.kept_script.proofs.opening.create_game.Goals as goal

pub returns-clause-created : goal.returns-clause-created
returns-clause-created g c = λ h s.
    let d = g.D.Disk in
    subst (λ t. CreatesIn c.args.room.now.object.book.room (Some c.args.game) c.args.seats c.args.seed h t c.ask-reply.new.self.object.book) (sym c.told-tried.ensures)
    (created_so d.is_told d.seen d.may_leave d.moment d.left_since d.faults c.args.room.now c.ask-reply.new.self c.requires.serves.0 c.requires.serves.1 c.args.game c.args.seats c.args.seed c.ask-reply.result
    c.ask-reply.ensures.answered c.ask-reply.ensures.since h s)

pub returns-clause-same : goal.returns-clause-same
returns-clause-same g c =
    let d = g.D.Disk in
    same_room d.is_told d.seen d.may_leave d.moment d.left_since d.faults c.args.room.now c.ask-reply.new.self (entry own_pass (Create c.args.game c.args.seats c.args.seed) (is_starved c.ask-reply.result) ∷ [])
    c.requires.serves.0 c.requires.serves.1 c.ask-reply.ensures.since

pub returns-clause-since : goal.returns-clause-since
returns-clause-since g c = (
  entry own_pass (Create c.args.game c.args.seats c.args.seed) (is_starved c.ask-reply.result) ∷ [],
  c.ask-reply.ensures.since,
  created_unless c.args.game c.args.seats c.args.seed c.ask-reply.result c.told-tried.result c.told-tried.ensures,
)
