use Rattle.std.proofs.Common.{false, subst, sym, true}
use Rattle.kept_room.specs.Opened.{IsOpenedRoom}
use Rattle.kept_serve.proofs.opening.open_disk.Goals as goal

pub returns-in-Ok : goal.returns-in-Ok
returns-in-Ok g c =
    let d = g.D.Disk in
    let start = c.of-start.ensures in
    let o = c.in-Ok.ensures.opened in
    record {
      opened = record {
        first = o.0;
        opened = subst (λ s. IsOpenedRoom d.is_told d.seen d.may_leave d.moment d.left_since d.faults c.args.room s o.0 false c.in-Ok.room) (sym start) o.1.0;
        alone = o.2;
        told = λ told. subst (λ s. IsOpenedRoom d.is_told d.seen d.may_leave d.moment d.left_since d.faults c.args.room s o.0 true c.in-Ok.room) (sym start) (o.1.1 (subst d.is_told start told));
      };
      start = start;
      refused = tt;
    }
