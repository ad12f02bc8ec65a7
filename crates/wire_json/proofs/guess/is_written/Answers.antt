use Rattle.std.proofs.Common.{◌≡◌, ◌≤◌, length, sym, ◌∙◌, arith}
use Rattle.std.proofs.lemmas.Slice.Eq.{bytes_eq-Decides}
use Rattle.wire_json.proofs.Guessing.{written}
use Rattle.wire_json.proofs.guess.is_written.Goals as goal

pub returns-in-Ok-put_message : goal.returns-in-Ok-put_message
returns-in-Ok-put_message c = λ equal.
    let same : c.as_slice.result.now ≡ c.args.line.now = (bytes_eq-Decides _ _).0 (sym c.eq.ensures ∙ equal) in
    let short : length c.args.line.now ≤ 65536 = omega (arith, c.if-line-gt-CLIENT_LINE.false) in
    written c.args.line.now c.put_message.new.out.items c.in-Ok.text.items c.args.message.now c.in-Ok-put_message.ensures.text c.in-Ok.ensures.items c.in-Ok-put_message.ensures.fits c.in-Ok-put_message.ensures.utf8
    (sym c.as_slice.ensures.value ∙ same) short
