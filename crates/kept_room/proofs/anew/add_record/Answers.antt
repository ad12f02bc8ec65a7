use Rattle.kept_room.proofs.Drafts.{done_so, drafted}
use Rattle.kept_room.proofs.anew.add_record.Goals as goal

pub returns-in-Done-clause-added : goal.returns-in-Done-clause-added
returns-in-Done-clause-added g c = λ said.
    let n = g.O.Object.number c.args.object.now in
    let h = c.requires.0 in
    let d = c.requires.1 in
    drafted g.O.Object.stands_for g.O.Replays.has_come (g.O.Recorded.records n) (g.O.Replays.may_follow n) c.args.object.now c.replay.new.self c.args.bytes.now.items c.push_record.new.bytes.items c.args.payload.now h d
    (c.in-Done.ensures.replays h d.stands d.came) (done_so c.push_record.result c.is_some.result c.push_record.ensures c.is_some.ensures said)
