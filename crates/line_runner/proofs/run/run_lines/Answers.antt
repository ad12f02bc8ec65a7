use Rattle.std.proofs.Common.{◌≡◌, ◌+◌, Some, refl, sym, ap, ◌∙◌, subst, arith}
use Rattle.board_links.specs.Pieces.{told_bytes}
use Rattle.line_runner.specs.Reading.{given_after}
use Rattle.line_runner.specs.Running.{Leaves}
use Rattle.line_runner.specs.ScriptLines.{script}
use Rattle.line_runner.proofs.EndLaws.{ends_over, line_is, some_bytes, stop_raises, end_raises, end_stays, goes_on_with, stop_ends, stop_leaves, stop_stays, begins_with, line_ends, line_leaves, line_runs}
use Rattle.line_runner.proofs.run.run_lines.Goals as goal

pub lines-init : goal.lines-init
lines-init g c = record {
  source_stays = refl;
  sink_stays = refl;
  stands = c.requires;
  source_tells = λ p. p;
  underway = λ begin stands p. (
    Some (told_bytes (g.K.Sink.held c.args.sink.now)),
    begins_with g.I.Interpreter.play g.I.Interpreter.doing begin g.met.I.Interpreter.one_by_one (told_bytes (g.S.Source.left c.args.source.now)) c.args.interpreter.now stands
        (Some (told_bytes (g.K.Sink.held c.args.sink.now))) refl c.new-lines.result c.new-lines.ensures,
    some_bytes (g.K.Sink.held c.args.sink.now),
  );
}

pub stop_at-requires : goal.stop_at-requires
stop_at-requires g c = c.given.ensures.most

pub run_line-ran-requires : goal.run_line-ran-requires
run_line-ran-requires g c = c.lines.invariant.stands

pub returns-in-Some-clause-source_never_falls : goal.returns-in-Some-clause-source_never_falls
returns-in-Some-clause-source_never_falls g c = omega (arith, c.lines.invariant.source_stays, c.next_line-next.ensures.never_falls)

pub returns-in-Some-clause-sink_never_falls : goal.returns-in-Some-clause-sink_never_falls
returns-in-Some-clause-sink_never_falls g c = omega (arith, c.lines.invariant.sink_stays)

pub returns-in-Some-clause-raises : goal.returns-in-Some-clause-raises
returns-in-Some-clause-raises g c =
    stop_raises c.next_line-next.result c.given.result c.in-Some.exit _ _ _ _ _ (sym c.stop_at.ensures ∙ c.in-Some.is) c.lines.invariant.source_stays c.lines.invariant.sink_stays c.next_line-next.ensures.raises

pub returns-in-Some-clause-ends : goal.returns-in-Some-clause-ends
returns-in-Some-clause-ends g c = λ begin stands p.
    let u = c.lines.invariant.underway begin stands p in
    ends_over g.I.Interpreter.play begin _ _ (g.K.Sink.held c.args.sink.now) (g.K.Sink.held c.lines.sink) u.0 c.in-Some.exit u.2
    (stop_ends g.I.Interpreter.play g.I.Interpreter.doing begin g.met.I.Interpreter.one_by_one _ _ c.lines.interpreter c.lines.lines.given c.lines.lines _ u.0 u.1 c.next_line-next.result c.next_line-next.new.self.line c.next_line-next.new.self _
    c.in-Some.exit c.given.result (c.next_line-next.ensures.moves (c.lines.invariant.source_tells p)) c.next_line-next.ensures.stands (c.given.ensures.value ∙ c.next_line-next.ensures.given) (sym c.stop_at.ensures ∙ c.in-Some.is))

pub returns-in-Some-clause-leaves : goal.returns-in-Some-clause-leaves
returns-in-Some-clause-leaves g c = λ begin stands p k.
    let u = c.lines.invariant.underway begin stands p in
    subst (λ held. Leaves g.I.Interpreter.play g.I.Interpreter.doing begin (script (told_bytes (g.S.Source.left c.args.source.now))) c.lines.interpreter (told_bytes (g.K.Sink.held c.args.sink.now)) held c.in-Some.exit) (sym (u.2 k))
    (stop_leaves g.I.Interpreter.play g.I.Interpreter.doing begin g.met.I.Interpreter.one_by_one _ _ c.lines.interpreter c.lines.lines.given c.lines.lines _ u.0 u.1 c.in-Some.exit)

pub returns-in-Some-end_at-clause-leaves : goal.returns-in-Some-end_at-clause-leaves
returns-in-Some-end_at-clause-leaves g c = λ begin stands p k.
    let u = c.lines.invariant.underway begin stands p in
    let ran = c.run_line-ran.ensures.ran u.1.h u.1.stands (told_bytes u.0) in
    let holds = ran.2 (u.2 k ∙ u.1.added ∙ ap (λ h. Some (told_bytes h)) (sym u.1.added)) in
    subst (λ held. Leaves g.I.Interpreter.play g.I.Interpreter.doing begin (script (told_bytes (g.S.Source.left c.args.source.now))) c.run_line-ran.new.interpreter (told_bytes (g.K.Sink.held c.args.sink.now)) held c.in-Some-end_at.exit) (sym holds)
    (line_leaves g.I.Interpreter.play g.I.Interpreter.doing begin g.met.I.Interpreter.one_by_one _ _ c.lines.interpreter c.lines.lines.given c.lines.lines _ u.0 u.1 c.next_line-next.result c.given.result c.next_line-next.new.self.line c.next_line-next.new.self _
    (c.next_line-next.ensures.moves (c.lines.invariant.source_tells p)) (sym c.stop_at.ensures ∙ c.in_default.is)
    c.line.result.now c.line.ensures c.run_line-ran.new.interpreter ran.0 c.run_line-ran.result c.in-Some-end_at.exit c.given-in-lines.result ran.1 (sym c.end_at.ensures ∙ c.in-Some-end_at.is))

pub returns-in-Some-end_at-clause-source_never_falls : goal.returns-in-Some-end_at-clause-source_never_falls
returns-in-Some-end_at-clause-source_never_falls g c = omega (arith, c.lines.invariant.source_stays, c.next_line-next.ensures.never_falls)

pub returns-in-Some-end_at-clause-sink_never_falls : goal.returns-in-Some-end_at-clause-sink_never_falls
returns-in-Some-end_at-clause-sink_never_falls g c = omega (arith, c.lines.invariant.sink_stays, c.run_line-ran.ensures.never_falls)

pub returns-in-Some-end_at-clause-raises : goal.returns-in-Some-end_at-clause-raises
returns-in-Some-end_at-clause-raises g c =
    end_raises c.run_line-ran.result c.given-in-lines.result c.in-Some-end_at.exit _ _ _ _ _ (sym c.end_at.ensures ∙ c.in-Some-end_at.is)
    (stop_stays c.next_line-next.result c.given.result _ _ (sym c.stop_at.ensures ∙ c.in_default.is) c.next_line-next.ensures.raises ∙ c.lines.invariant.source_stays) c.lines.invariant.sink_stays c.run_line-ran.ensures.raises

pub returns-in-Some-end_at-clause-ends : goal.returns-in-Some-end_at-clause-ends
returns-in-Some-end_at-clause-ends g c = λ begin stands p.
    let u = c.lines.invariant.underway begin stands p in
    let ran = c.run_line-ran.ensures.ran u.1.h u.1.stands (told_bytes u.0) in
    ends_over g.I.Interpreter.play begin _ _ (g.K.Sink.held c.args.sink.now) (g.K.Sink.held c.run_line-ran.new.sink) ran.0 c.in-Some-end_at.exit
    (λ k. ran.2 (u.2 k ∙ u.1.added ∙ ap (λ h. Some (told_bytes h)) (sym u.1.added)))
    (line_ends g.I.Interpreter.play g.I.Interpreter.doing begin g.met.I.Interpreter.one_by_one _ _ c.lines.interpreter c.lines.lines.given c.lines.lines _ u.0 u.1 c.next_line-next.result c.given.result c.next_line-next.new.self.line c.next_line-next.new.self _
    (c.next_line-next.ensures.moves (c.lines.invariant.source_tells p)) (sym c.stop_at.ensures ∙ c.in_default.is)
    c.line.result.now c.line.ensures c.run_line-ran.new.interpreter ran.0 c.run_line-ran.result c.in-Some-end_at.exit c.given-in-lines.result ran.1
    (c.given-in-lines.ensures.value ∙ c.next_line-next.ensures.given) (sym c.end_at.ensures ∙ c.in-Some-end_at.is))

pub lines-smaller : goal.lines-smaller
lines-smaller g c =
    let counts : c.next_line-next.new.self.given ≡ c.lines.lines.given + 1 =
    c.next_line-next.ensures.given ∙ ap (λ n. given_after n c.lines.lines.given) (line_is c.next_line-next.result c.given.result (sym c.stop_at.ensures ∙ c.in_default.is)) in
    omega (arith, counts, c.next_line-next.ensures.most)

pub lines-preserved : goal.lines-preserved
lines-preserved g c = record {
  source_stays = stop_stays c.next_line-next.result c.given.result _ _ (sym c.stop_at.ensures ∙ c.in_default.is) c.next_line-next.ensures.raises ∙ c.lines.invariant.source_stays;
  sink_stays = end_stays c.run_line-ran.result c.given-in-lines.result _ _ (sym c.end_at.ensures ∙ c.in_default-end_at.is) c.run_line-ran.ensures.raises ∙ c.lines.invariant.sink_stays;
  stands = goes_on_with c.run_line-ran.result c.given-in-lines.result ((s : g.I.Interpreter.State) × g.I.Interpreter.doing.Stands c.run_line-ran.new.interpreter s) (sym c.end_at.ensures ∙ c.in_default-end_at.is) c.run_line-ran.ensures.going;
  source_tells = λ p. c.next_line-next.ensures.tells (c.lines.invariant.source_tells p);
  underway = λ begin stands p.
      let u = c.lines.invariant.underway begin stands p in
      let ran = c.run_line-ran.ensures.ran u.1.h u.1.stands (told_bytes u.0) in (
        ran.0,
        line_runs g.I.Interpreter.play g.I.Interpreter.doing begin g.met.I.Interpreter.one_by_one _ _ c.lines.interpreter c.lines.lines.given c.lines.lines _ u.0 u.1 c.next_line-next.result c.given.result c.next_line-next.new.self.line c.next_line-next.new.self _
            (c.next_line-next.ensures.moves (c.lines.invariant.source_tells p)) (sym c.stop_at.ensures ∙ c.in_default.is)
            c.line.result.now c.line.ensures c.run_line-ran.new.interpreter ran.0 c.run_line-ran.result c.given-in-lines.result c.next_line-next.new.self.given ran.1
            c.next_line-next.ensures.given (sym c.end_at.ensures ∙ c.in_default-end_at.is),
        λ k. ran.2 (u.2 k ∙ u.1.added ∙ ap (λ h. Some (told_bytes h)) (sym u.1.added)),
      );
}
