use Rattle.kept_room.proofs.Journals.{since_wanted, starved_reply}
use Rattle.kept_room.proofs.room.KeptRoom.ask_unnamed.Goals as goal

pub returns-in_default : goal.returns-in_default
returns-in_default g c =
    let d = g.D.Disk in
    record {
      answered = λ h s. starved_reply c.args.self.now.object.room h c.args.pass c.args.call;
      fed = λ e. c.requires.starves;
      since = since_wanted d.is_told d.seen d.may_leave d.moment d.left_since d.faults g.met.D.Disk.only_now c.args.self.now c.args.pass c.args.call;
    }
