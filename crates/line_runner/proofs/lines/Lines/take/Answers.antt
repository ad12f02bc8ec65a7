use Rattle.std.proofs.Common.{◌≡◌, ◌≢◌, length, refl, sym, arith}
use Rattle.line_runner.proofs.Steps.{after_all, after_newline, after_too_long, after_byte}
use Rattle.line_runner.proofs.lines.Lines.take.Goals as goal

pub returns-then-self-eq-MOST_LINES-clause-told : goal.returns-then-self-eq-MOST_LINES-clause-told
returns-then-self-eq-MOST_LINES-clause-told c last more =
    let shown = rw (← c.self.view_is) at c.requires in
    (rw (← c.self.view_is) (after_all last _ _ _ more c.args.byte shown c.if-self-eq-MOST_LINES.true), refl)

pub returns-then-byte-eq10-clause-told : goal.returns-then-byte-eq10-clause-told
returns-then-byte-eq10-clause-told c last more =
    let shown = rw (← c.self.view_is) at c.requires in
    rw (c.finish.ensures, ← c.self.view_is)
    (after_newline last _ _ _ more c.args.byte shown c.if-self-eq-MOST_LINES.false c.if-byte-eq10.true)

pub returns-then-len-eq-MOST_BYTES-clause-told : goal.returns-then-len-eq-MOST_BYTES-clause-told
returns-then-len-eq-MOST_BYTES-clause-told c last more =
    let shown = rw (← c.self.view_is) at c.requires in
    let long : length c.self.inside.begun.items ≡ 65536 = omega (arith, c.len.ensures, c.self.inside.begun.ok.0, c.if-len-eq-MOST_BYTES.true) in (
      rw (← c.self.view_is)
          (after_too_long last _ _ _ more c.args.byte shown c.if-self-eq-MOST_LINES.false c.if-byte-eq10.false long),
      refl,
    )

pub returns-in-Ok-clause-told : goal.returns-in-Ok-clause-told
returns-in-Ok-clause-told c last more =
    let shown = rw (← c.self.view_is) at c.requires in
    let short : length c.self.inside.begun.items ≢ 65536 = λ e. c.if-len-eq-MOST_BYTES.false (omega (arith, c.len.ensures, c.self.inside.begun.ok.0, e)) in
    rw (← c.self.view_is, c.in-Ok.ensures.items, c.advance.ensures)
    (sym (after_byte last _ _ _ more c.args.byte shown c.if-self-eq-MOST_LINES.false c.if-byte-eq10.false short))
