use Rattle.std.proofs.Common.{◌==◌, sym, ap, ◌∙◌}
use Rattle.game_sheet.specs.Viewer.{seat_of}
use Rattle.match_master.specs.Attached.{staged, with_staged}
use Rattle.match_master.specs.declared.attachments.Attached.{Attached}
use Rattle.match_master.proofs.AttachedLaws.{held_same, on_ok, set_is}
use Rattle.match_master.proofs.attachments.stage_at.Goals as goal

pub returns-clause-same : goal.returns-clause-same
returns-clause-same c = held_same c.args.attachments.now.entries c.args.place c.in-Some.attached.now c.stage.new.attached (sym c.in-Some.ensures.value) c.stage.ensures.held

pub returns-clause-staged : goal.returns-clause-staged
returns-clause-staged c =
    let v : Attached = c.in-Some.attached.now in
    on_ok c.stage.result _ _ c.stage.ensures.staged (λ is lines line.
    set_is c.args.attachments.now.entries c.args.place v c.stage.new.attached (staged c.args.pass c.args.verdict.now.value.items lines) (sym c.in-Some.ensures.value)
    (λ k h. sym (ap (λ a. (k, a))
    (is
    ∙ ap (λ b. with_staged b c.args.verdict.now.value.items c.args.line.now.value.items v) (c.is_own-own.ensures (k, v) h)
    ∙ ap (λ l. with_staged (k == c.args.pass) c.args.verdict.now.value.items l v) (line (k, v) h)))))
