use Rattle.std.proofs.Common.{◌≡◌, ◌∙◌, Some, ap, arith, length, rules, subst, sym}
use Rattle.std.specs.Prelude.{All}
use Rattle.any_game.specs.AnyRules.{any_rules}
use Rattle.hosted_room.specs.Calls.{NobodyIn}
use Rattle.kept_room.specs.Hosting.{StandsFrom}
use Rattle.kept_room.specs.Journal.{Calls}
use Rattle.kept_serve.specs.Opened.{IsOpened, room_of}
use Rattle.kept_serve.proofs.Hosting.{opened_by}
use Rattle.session_pool.proofs.Places.{all_more, all_moved, all_next, all_none, moved_on, none_moved}
use Rattle.kept_serve.proofs.serving.host_all.Goals as goal

pub loop-opened-init : goal.loop-opened-init
loop-opened-init g c =
    let d = g.D.Disk in
    let e = c.into_iter-opened-iterator.ensures.into_iter_gives.0 in
    let n = ap length e in
    let hosted = c.in_ok-hosted.ensures in (
      tt,
      tt,
      subst (All (λ r. IsOpened d.is_told d.seen d.may_leave d.moment d.left_since d.faults c.args.passes (room_of r) r)) (sym e) c.requires.opened.each,
      subst (All (λ r. g.O.Origin.start (room_of r) ≡ Some r.start.value)) (sym e) c.requires.starts,
      none_moved (λ b. b.room.object.room) room_of _ _ _ hosted.items e,
      all_none (λ b. (past : Calls) × StandsFrom d.is_told d.seen d.may_leave d.moment d.left_since d.faults b.room.object.room (g.O.Origin.start b.room.object.room) b.room past) _ hosted.items,
      all_none (λ b. (past : Calls) → StandsFrom d.is_told d.seen d.may_leave d.moment d.left_since d.faults b.room.object.room (g.O.Origin.start b.room.object.room) b.room past
          → NobodyIn any_rules c.args.passes b.room.object.room past) _ hosted.items,
      omega (arith, n, hosted.len, c.args.rooms.ok),
      search rules,
    )

pub loop-opened-preserved : goal.loop-opened-preserved
loop-opened-preserved g c =
    let d = g.D.Disk in
    let e = c.in-Some.ensures.steps.0 in
    let i = c.loop-opened.invariant in
    let hosted = c.push_reserved.ensures in
    let n = ap length e in
    let opened = all_next (λ r. IsOpened d.is_told d.seen d.may_leave d.moment d.left_since d.faults c.args.passes (room_of r) r) _ _ _ e i.2 in
    let starts = all_next (λ r. g.O.Origin.start (room_of r) ≡ Some r.start.value) _ _ _ e i.3 in
    let by = opened_by d.is_told d.seen d.may_leave d.moment d.left_since d.faults c.args.passes g.O.Origin.start _ opened.0 starts.0 in (
      tt,
      tt,
      opened.1,
      starts.1,
      moved_on (λ b. b.room.object.room) room_of _ _ _ _ _ _ _ hosted.items e c.new.ensures.number i.4,
      all_more (λ b. (past : Calls) × StandsFrom d.is_told d.seen d.may_leave d.moment d.left_since d.faults b.room.object.room (g.O.Origin.start b.room.object.room) b.room past) _ _ _ hosted.items i.5
          (opened.0.first, c.new.ensures.stands c.args.passes opened.0.first by),
      all_more (λ b. (past : Calls) → StandsFrom d.is_told d.seen d.may_leave d.moment d.left_since d.faults b.room.object.room (g.O.Origin.start b.room.object.room) b.room past
          → NobodyIn any_rules c.args.passes b.room.object.room past) _ _ _ hosted.items i.6 (λ past s. c.new.ensures.nobody c.args.passes opened.0.first past by s),
      omega (arith, n, i.7, hosted.len),
      omega (arith, i.8, hosted.capacity),
    )

pub returns-clause-numbered : goal.returns-clause-numbered
returns-clause-numbered g c =
    all_moved (λ b. b.room.object.room) room_of _ _ _ (omega (arith, c.in-None.ensures.steps.0, c.loop-opened.opened-iterator.rest.ok.0)) c.loop-opened.invariant.4 ∙ c.requires.opened.numbered

pub returns-clause-many : goal.returns-clause-many
returns-clause-many g c = omega (arith, c.in-None.ensures.steps.0, c.loop-opened.opened-iterator.rest.ok.0, c.loop-opened.invariant.7)
