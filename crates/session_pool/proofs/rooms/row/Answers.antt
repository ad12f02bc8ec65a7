use Rattle.std.proofs.Common.{rules, arith, sym, ap, map, ◌∙◌, refl, length, ◌<◌, ◌+◌, slice_index_or}
use Rattle.std.proofs.lemmas.List.{length-map}
use Rattle.session_pool.specs.Passes.{unseen}
use Rattle.session_pool.proofs.Dealing.{as_many_rooms, has_some, step, taken_free, unseen_last}
use Rattle.session_pool.proofs.Seeing.{row_seen, whole_row}
use Rattle.session_pool.proofs.rooms.row.Goals as goal

pub unreachable-requires : goal.unreachable-requires
unreachable-requires g c =
    let i = c.loop-place.invariant in
    let many = as_many_rooms (λ v. map unseen v.items) c.args.desks.now c.args.by_room.now.items (c.args.number + 1) c.requires.dealt in
    let low : c.loop-place.place < length c.args.desks.now = omega (arith, c.loop-place-test.true, c.len-place-end.ensures, many, c.args.by_room.now.ok) in
    let has = has_some (λ v. map unseen v.items) c.args.desks.now c.loop-place.by_room.items c.args.number (c.args.number + 1) c.loop-place.place c.index_mut.result.now refl low (search rules) i.0 in
    let item = ap (λ v. length v.items) c.index_mut.ensures.value in
    omega (arith, has, length-map (slice_index_or c.loop-place.by_room.items c.loop-place.place c.index_mut.result.now).items unseen, item, c.in_default.ensures.cases.0)

pub loop-place-preserved : goal.loop-place-preserved
loop-place-preserved g c =
    let i = c.loop-place.invariant in
    let many = as_many_rooms (λ v. map unseen v.items) c.args.desks.now c.args.by_room.now.items (c.args.number + 1) c.requires.dealt in
    let low : c.loop-place.place < length c.args.desks.now = omega (arith, c.loop-place-test.true, c.len-place-end.ensures, many, c.args.by_room.now.ok) in
    let here = sym (ap (λ v. v.items) c.index_mut.ensures.value) ∙ c.in-Some.ensures.items in
    let s = step (λ v. map unseen v.items) c.args.desks.now c.loop-place.by_room.items c.args.number (c.args.number + 1) c.loop-place.place (c.loop-place.place + 1) c.index_mut.result.now c.pop.new.self (unseen c.in-Some.pass)
    (map unseen c.loop-place.row.items) (map unseen c.push_reserved.new.self.items) refl refl low (search rules) i.0 (unseen_last _ _ _ here) i.1 (unseen_last _ _ _ c.push_reserved.ensures.items) in
    let f = taken_free (λ v. v.items) c.loop-place.by_room.items c.loop-place.place c.index_mut.result.now c.pop.new.self c.in-Some.pass c.loop-place.row.items c.push_reserved.new.self.items
    (search rules) i.5 i.6 here c.push_reserved.ensures.items in (
      s.0,
      s.1,
      search rules,
      search rules,
      search rules,
      f.0,
      f.1,
      λ pasts seen.
          let was = i.7 pasts seen in
          row_seen (λ v. v.items) c.loop-place.by_room.items pasts c.loop-place.place (c.loop-place.place + 1) c.index_mut.result.now c.pop.new.self c.in-Some.pass c.loop-place.row.items c.push_reserved.new.self.items
          refl (search rules) here c.push_reserved.ensures.items was.0 was.1,
    )

pub returns-clause-seen : goal.returns-clause-seen
returns-clause-seen g c pasts seen =
    let h = c.loop-place.invariant.7 pasts seen in
    (h.0, whole_row (λ v. v.items) c.loop-place.by_room.items pasts c.loop-place.place c.loop-place.row.items (search rules) h.0 h.1)
