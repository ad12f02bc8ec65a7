use Rattle.std.proofs.Common.{◌++◌, ◌∙◌, ap, take, is_some}
use Rattle.board_links.specs.Pieces.{told_bytes}
use Rattle.board_links.proofs.Writing.{first_held, held_on, taken_on}
use Rattle.board_links.proofs.system.write_whole.Goals as goal

pub loop-rest-preserved : goal.loop-rest-preserved
loop-rest-preserved g c =
    let i = c.loop-rest.invariant in (
      i.0 ++ take c.in-Some.n c.loop-rest.rest.now,
      taken_on c.in-Some.n c.args.bytes.now i.0 c.loop-rest.rest.now i.1,
      λ tells.
          let between = i.2 tells in
          held_on (told_bytes (g.W.Write.contents c.args.writer.now)) i.0 (take c.in-Some.n c.loop-rest.rest.now) (g.W.Write.contents c.loop-rest.writer) (g.W.Write.contents c.write_some.new.writer)
          between (c.in-Some.ensures.some (ap is_some between)),
    )

pub returns-in-None : goal.returns-in-None
returns-in-None g c tells =
    let i = c.loop-rest.invariant in
    let between = i.2 tells in
    first_held (told_bytes (g.W.Write.contents c.args.writer.now)) c.args.bytes.now i.0 c.loop-rest.rest.now (g.W.Write.contents c.write_some.new.writer) i.1
    (c.in-None.ensures.none (ap is_some between) ∙ between)
