use Rattle.std.proofs.Common.{ap, arith, inr, length, ◌∙◌, ◌∷◌}
use Rattle.std.specs.Vec.Iter.{into_iter_items}
use Rattle.kept_serve.proofs.Jobs.{found_here, kept_all, kept_more, passed_on, said_some, some_none}
use Rattle.kept_serve.proofs.opening.gather.Goals.{in-Ok-result, in-Err+then-is_none, in-Err+else-is_none}
use Rattle.kept_serve.proofs.opening.gather.Goals as goal

pub loop-result-preserved : goal.loop-result-preserved
loop-result-preserved g c =
    let i = c.loop-result.invariant in
    let e = c.in-Some.ensures.steps.0 in
    let n = ap length e in
    elim c.match-result.branch [
      | in-Ok-result w ↦
          let push = w.push_reserved.ensures in
          rw (w.first-is, w.rooms-is, w.shelf-is) (record {
            can_next = tt;
            is_finite = tt;
            all = λ none. kept_more _ _ _ _ _ _ push.items (e ∙ ap (λ r. r ∷ into_iter_items c.next.new.self) w.in-Ok-result.is) (i.all none);
            counted = omega (arith, n, i.counted);
            room = omega (arith, n, i.room, push.len);
            space = omega (arith, i.space, push.capacity);
            given = w.opened.ensures.given ∙ i.given;
            faults = omega (arith, i.faults, w.opened.ensures.never_falls);
            passed = (_, passed_on _ _ _ _ _ e i.passed.1);
            found = i.found;
          })
      | in-Err+then-is_none w ↦ rw (w.first-is, w.rooms-is, w.shelf-is) (record {
        can_next = tt;
        is_finite = tt;
        all = λ none. absurd (some_none w.in-Err.why none);
        counted = omega (arith, n, i.counted);
        room = omega (arith, n, i.room);
        space = i.space;
        given = w.refused.ensures.given ∙ i.given;
        faults = omega (arith, i.faults, w.refused.ensures.never_falls);
        passed = (_, passed_on _ _ _ _ _ e i.passed.1);
        found = λ why same. found_here _ _ _ _ _ w.in-Err.why why e w.in-Err.is i.passed.1 same;
      })
      | in-Err+else-is_none w ↦ rw (w.first-is, w.rooms-is, w.shelf-is) (record {
        can_next = tt;
        is_finite = tt;
        all = λ none. absurd (said_some c.loop-result.first w.is_none.result w.is_none.ensures w.if-is_none.false none);
        counted = omega (arith, n, i.counted);
        room = omega (arith, n, i.room);
        space = i.space;
        given = w.refused.ensures.given ∙ i.given;
        faults = omega (arith, i.faults, w.refused.ensures.never_falls);
        passed = (_, passed_on _ _ _ _ _ e i.passed.1);
        found = i.found;
      })
    ]

pub returns-in-None-first-clause-all : goal.returns-in-None-first-clause-all
returns-in-None-first-clause-all g c = kept_all _ _ _ (omega (arith, c.in-None.ensures.steps.0, c.loop-result.result-iterator.rest.ok.0)) (c.loop-result.invariant.all c.in-None-first.is)

pub returns-in-Some-first-clause-refused : goal.returns-in-Some-first-clause-refused
returns-in-Some-first-clause-refused g c = inr (c.loop-result.invariant.found c.in-Some-first.why c.in-Some-first.is)
