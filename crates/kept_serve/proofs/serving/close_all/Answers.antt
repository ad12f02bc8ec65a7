use Rattle.std.proofs.Common.{ap, arith, length, map, ◌∙◌, ◌++◌}
use Rattle.std.specs.Vec.Iter.{into_iter_items}
use Rattle.kept_serve.proofs.Closing.{closed_all, closed_more, left_so}
use Rattle.kept_serve.specs.Kept.{left_of}
use Rattle.kept_serve.proofs.serving.close_all.Goals as goal

pub loop-room-init : goal.loop-room-init
loop-room-init g c =
    let e = c.into_iter-room-iterator.ensures.into_iter_gives.0 in
    let n = ap length e in
    record {
      can_next = tt;
      is_finite = tt;
      all = ap (λ l. l ++ map (λ b. left_of b.room.room) (into_iter_items c.into_iter-room-iterator.result)) c.requires.none ∙ ap (map (λ b. left_of b.room.room)) e;
      space = let none = ap length c.requires.none in omega (arith, n, none, c.requires.space);
    }

pub loop-room-preserved : goal.loop-room-preserved
loop-room-preserved g c =
    let i = c.loop-room.invariant in
    let e = c.in-Some.ensures.steps.0 in
    let n = ap length e in
    let push = c.push_reserved.ensures in
    record {
      can_next = tt;
      is_finite = tt;
      all = closed_more (λ b. left_of b.room.room) _ _ _ _ _ _ _ push.items e (left_so c.in-Some.room.room.room _ _ (c.close-disk.ensures.disk ∙ ap (λ h. h.room.file.disk) c.into_room.ensures) (c.close-disk.ensures.stopped ∙ ap (λ h. h.room.stopped) c.into_room.ensures)) i.all;
      space = omega (arith, n, i.space, push.len, push.capacity);
    }

pub returns : goal.returns
returns g c = closed_all (λ b. left_of b.room.room) _ _ _ (omega (arith, c.in-None.ensures.steps.0, c.loop-room.room-iterator.rest.ok.0)) c.loop-room.invariant.all
