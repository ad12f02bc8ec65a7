use Rattle.std.proofs.Common.{[], refl, subst, sym}
use Rattle.script_steps.specs.StepIs.{step_is}
use Rattle.kept_room.specs.Journal.{Since}
use Rattle.kept_room.proofs.Journals.{since_none}
use Rattle.kept_script.specs.KeptPlay.{hall_of}
use Rattle.kept_script.specs.Moving.{StepGrows}
use Rattle.kept_script.proofs.Moving.{has_one, nothing_grows, seed_grows}
use Rattle.kept_script.proofs.play.do_step.Goals as goal

pub returns-in-Nothing : goal.returns-in-Nothing
returns-in-Nothing g c =
    let d = g.D.Disk in
    let text = c.args.text.now.items in
    let hall = hall_of c.args.hall.now in
    record {
      done = record {
        more = [];
        since = since_none d.is_told d.seen d.may_leave d.moment d.left_since d.faults g.met.D.Disk.only_now c.args.hall.now.room;
        comes = λ h s. subst (λ step. StepGrows h (step_is step) hall text text []) (sym c.in-Nothing.is) (nothing_grows h hall text text (has_one c.args.hall.now h s) s refl);
      };
    }

pub returns-in-Seeds : goal.returns-in-Seeds
returns-in-Seeds g c =
    let d = g.D.Disk in
    let text = c.args.text.now.items in
    let hall = hall_of c.set_seed.new.self in
    record {
      done = record {
        more = [];
        since = subst (λ r. Since d.is_told d.seen d.may_leave d.moment d.left_since d.faults c.args.hall.now.room r []) (sym c.set_seed.ensures.same)
            (since_none d.is_told d.seen d.may_leave d.moment d.left_since d.faults g.met.D.Disk.only_now c.args.hall.now.room);
        comes = λ h s.
            subst (λ step. StepGrows h (step_is step) hall text text []) (sym c.in-Seeds.is)
            (seed_grows h hall text text (has_one c.args.hall.now h s) c.in-Seeds.seed (c.set_seed.ensures.set h s) refl);
      };
    }
