use Rattle.std.proofs.Common.{ap, arith, length, map, ◌++◌, ◌∙◌}
use Rattle.std.specs.Vec.Iter.{into_iter_items}
use Rattle.room_keeper.proofs.Within.{all_in, more_within}
use Rattle.room_keeper.proofs.watching.gauge_rooms.Goals as goal

pub loop-room-init : goal.loop-room-init
loop-room-init g c =
    let e = c.into_iter-room-iterator.ensures.into_iter_gives.0 in
    let n = ap length e in
    let gauged = c.in_ok-gauged.ensures in
    let gauges = c.in_ok-gauges.ensures in
    record {
      can_next = tt;
      is_finite = tt;
      all = ap (λ l. map (λ r. r.room) l ++ into_iter_items c.into_iter-room-iterator.result) gauged.items ∙ e;
      space = omega (arith, n, gauged.len, gauged.capacity);
      gauges = omega (arith, n, gauges.len, gauges.capacity);
    }

pub loop-room-preserved : goal.loop-room-preserved
loop-room-preserved g c =
    let i = c.loop-room.invariant in
    let e = c.in-Some.ensures.steps.0 in
    let n = ap length e in
    let first = c.push_reserved.ensures in
    let second = c.push_reserved-in-loop-room.ensures in
    record {
      can_next = tt;
      is_finite = tt;
      all = more_within (λ r. r.room) _ _ _ _ _ _ _ second.items e c.new-in-loop-room-2.ensures i.all;
      space = omega (arith, n, i.space, second.len, second.capacity);
      gauges = omega (arith, n, i.gauges, first.len, first.capacity);
    }

pub returns : goal.returns
returns g c = all_in (λ r. r.room) _ _ _ (omega (arith, c.in-None.ensures.steps.0, c.loop-room.room-iterator.rest.ok.0)) c.loop-room.invariant.all
