use Rattle.std.proofs.Common.{subst, sym}
use Rattle.std.proofs.lemmas.Result.{IfErr-weaker, IfOk-weaker}
use Rattle.kept_serve.proofs.Anew.{WasReplaced, begins_anew, refused_before, refused_first}
use Rattle.kept_serve.specs.Anew.{Begins}
use Rattle.kept_serve.proofs.opening.begin_anew.Goals as goal

pub returns-in-Done-clause-begins : goal.returns-in-Done-clause-begins
returns-in-Done-clause-begins g c = λ o none cleared half.
    let d = g.D.Disk in
    let e = c.in-Done.ensures in
    let start = c.replace.new.self in
    let w = subst (λ m. WasReplaced d.is_told d.seen d.may_leave d.moment d.left_since d.faults c.args.room m start c.args.bytes.now) c.close-disk.ensures.disk
    (record { told = e.told; replaced = e.replaced; leaves = e.crash; time = e.time; quiet = e.raises }) in
    IfOk-weaker c.open_disk.result _ _
    (λ r is. subst (λ s. Begins d.is_told d.seen d.may_leave d.moment d.left_since d.faults c.args.room c.args.opened.start.value s) (sym is)
    (begins_anew d.is_told d.seen d.may_leave d.moment d.left_since d.faults c.args.room c.args.opened c.args.passes o start c.args.bytes.now w none cleared half))
    c.open_disk.ensures.start

pub returns-in-Done-clause-refused : goal.returns-in-Done-clause-refused
returns-in-Done-clause-refused g c = λ o cleared.
    let d = g.D.Disk in
    let e = c.in-Done.ensures in
    let start = c.replace.new.self in
    let w = subst (λ m. WasReplaced d.is_told d.seen d.may_leave d.moment d.left_since d.faults c.args.room m start c.args.bytes.now) c.close-disk.ensures.disk
    (record { told = e.told; replaced = e.replaced; leaves = e.crash; time = e.time; quiet = e.raises }) in
    IfErr-weaker c.open_disk.result _ _
    (λ why refusal. (refusal.0, refused_before d.is_told d.seen d.may_leave d.moment d.left_since d.faults c.args.room c.args.opened c.args.passes o start c.args.bytes.now w refusal.0 why cleared refusal.1))
    c.open_disk.ensures.refused

pub returns-in-Failed-clause-refused : goal.returns-in-Failed-clause-refused
returns-in-Failed-clause-refused g c = λ o cleared.
    let d = g.D.Disk in (
      c.replace.new.self,
      refused_first d.is_told d.seen d.may_leave d.moment d.left_since d.faults c.args.room c.args.opened c.args.passes o c.close-disk.result.0 c.replace.new.self c.close-disk.ensures.disk c.in-Failed.ensures.raises,
    )
