use Rattle.std.proofs.Common.{◌+◌, ◌≤◌, length, subst, sym}
use Rattle.std.specs.Prelude.{IfErr, IfOk}
use Rattle.any_game.specs.AnyRules.{any_rules}
use Rattle.kept_room.specs.Anew.{IsCleared}
use Rattle.kept_room.specs.Journal.{Calls}
use Rattle.kept_serve.proofs.Anew.{ok_both}
use Rattle.kept_serve.specs.Anew.{Begins}
use Rattle.object_journal.specs.Opening.{IsRefused}
use Rattle.room_history.specs.Room.{serials}
use Rattle.room_journal.specs.Kept.{may_follow}
use Rattle.kept_serve.proofs.opening.open_job.Goals as goal

pub returns-in-Some-clause-opened : goal.returns-in-Some-clause-opened
returns-in-Some-clause-opened g c =
    let d = g.D.Disk in
    let room = c.args.job.room in
    let o = c.in_ok-opened.ensures.opened in
    let anew = c.in-Some.ensures.cleared o.first o.opened.stands o.opened.numbered in
    let file = sym c.deref.ensures.value in
    let cleared = subst (λ bytes. (new : Calls) × IsCleared room (serials any_rules room o.first) bytes new) file anew.1 in
    let half = subst (λ bytes. length bytes + length bytes ≤ c.in_ok-opened.opened.room.file.end) file c.in-Some.ensures.half in
    ok_both c.begin_anew.result _ _ (c.begin_anew.ensures.opened o)
    (subst (λ disk. IfOk c.begin_anew.result (λ r. Begins d.is_told d.seen d.may_leave d.moment d.left_since d.faults room disk r.start.value)) c.in_ok-opened.ensures.start
    (c.begin_anew.ensures.begins o anew.0 cleared half))

pub returns-in-Some-clause-refused : goal.returns-in-Some-clause-refused
returns-in-Some-clause-refused g c =
    let d = g.D.Disk in
    let room = c.args.job.room in
    let o = c.in_ok-opened.ensures.opened in
    let anew = c.in-Some.ensures.cleared o.first o.opened.stands o.opened.numbered in
    let cleared = subst (λ bytes. (new : Calls) × IsCleared room (serials any_rules room o.first) bytes new) (sym c.deref.ensures.value) anew.1 in
    subst (λ disk. IfErr c.begin_anew.result (λ why. (after : _) × IsRefused (may_follow room) d.is_told d.seen d.faults disk after why)) c.in_ok-opened.ensures.start
    (c.begin_anew.ensures.refused o cleared)
