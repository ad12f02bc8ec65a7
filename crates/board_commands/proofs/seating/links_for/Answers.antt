use Rattle.std.proofs.Common.{Some, arith}
use Rattle.board_links.specs.Doors.{IsFresh}
use Rattle.session_pool.proofs.Places.{all_more}
use Rattle.board_commands.proofs.seating.links_for.Goals as goal

pub loop-seat-preserved : goal.loop-seat-preserved
loop-seat-preserved g c =
    let before = c.loop-seat.invariant in (
      omega (arith, c.push_reserved.ensures.len, before.0),
      omega (arith, c.push_reserved.ensures.capacity, before.1),
      omega (arith, c.in-Some.ensures.len, before.2, c.loop-seat-test.true),
      omega (arith, c.in-Some-pop.ensures.len, before.3, c.loop-seat-test.true),
      all_more (λ x. IsFresh 0 x.finished (Some x.answers) (Some x.sitter.sent)) c.loop-seat.links.items c.push_reserved.new.self.items c.in_ok-link.link
          c.push_reserved.ensures.items before.4 c.in_ok-link.ensures.fresh,
    )
