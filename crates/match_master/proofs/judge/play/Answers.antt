use Rattle.std.proofs.Common.{◌≡◌, ℕ, true, Option, Some, sym, ap, ◌∙◌, subst}
use Rattle.stage_map.specs.Moves.{may}
use Rattle.match_master.specs.Judged.{entry_at}
use Rattle.match_master.proofs.JudgeLaws.{act_in_sheet, accepted_at}
use Rattle.match_master.proofs.judge.play.Goals as goal

one_seat : (viewer : Option ℕ) (a b : ℕ) → viewer ≡ Some a → viewer ≡ Some b → a ≡ b
one_seat viewer a b p q = cc

pub prepare-requires-clause-act : goal.prepare-requires-clause-act
prepare-requires-clause-act g c =
    act_in_sheet (g.X.Game.rules c.args.running.now.game).sheet c.args.submission.now.asked c.in-Some-act.act (sym c.requires.resolved ∙ c.in-Some-act.is)

pub returns-in-Ok-clause-judged : goal.returns-in-Ok-clause-judged
returns-in-Ok-clause-judged g c = λ m h n.
    accepted_at g.X.Game.rules c.args.room m c.args.running.now (sym h) c.args.viewer.now c.args.submission.now c.in-Some.seat c.in-Some-act.act c.in-Ok.prepared c.entry_of-entry.result
    (sym c.seat_of.ensures ∙ c.in-Some.is) (sym c.requires.resolved ∙ c.in-Some-act.is) c.in-Ok.ensures.answer.0 c.in-Ok.ensures.answer.1
    (c.entry_of-entry.ensures ∙ ap (λ place. entry_at c.args.running.now.state place (record { seat = c.in-Some.seat; act = c.in-Some-act.act })) c.place.ensures) n

pub prepare-requires-clause-active : goal.prepare-requires-clause-active
prepare-requires-clause-active g c =
    let i = c.requires.admitted in
    let same : i.seat ≡ c.in-Some.seat = one_seat _ _ _ i.viewer_is (sym c.seat_of.ensures ∙ c.in-Some.is) in
    subst (λ seat. may c.args.running.now.state.table.ctx seat ≡ true) same i.active
