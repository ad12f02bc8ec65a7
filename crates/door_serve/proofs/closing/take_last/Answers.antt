use Rattle.std.proofs.Common.{◌≡◌, ◌<◌, ap, arith, length, map, refl, rules, slice_index_or, sym, ◌∙◌}
use Rattle.std.specs.Prelude.{replicate}
use Rattle.door_serve.proofs.Gathering.{begin, end, gathered_more, onward, row_has}
use Rattle.door_serve.proofs.Watching.{all_lost, none_lost, one_lost}
use Rattle.door_serve.proofs.closing.take_last.Goals as goal

pub unreachable-requires : goal.unreachable-requires
unreachable-requires g c =
    let i = c.loop-place.invariant in
    let row = slice_index_or c.loop-place.rows c.loop-place.place c.index-rows-place.result in
    let within : c.loop-place.place < length c.loop-place.rows = omega (arith, i.many, c.loop-place-test.true) in
    let has = row_has row.items (map (λ d. d.desk) c.args.desks.now) c.args.desk.now.desk (i.halfway.behind c.loop-place.place c.index-rows-place.result (omega arith) within) in
    omega (arith, has, c.in_default.ensures.cases.0, row.ok)

pub loop-place-init : goal.loop-place-init
loop-place-init g c = record {
  halfway = begin (λ v. v.items) (map (λ d. d.desk) c.args.desks.now) c.args.desk.now.desk c.args.rows.now c.requires.rows;
  losing = none_lost (λ v. v.items) c.args.rows.now c.args.passes.now.items;
  many = refl;
  gathered = ap (λ ps. map (λ p. p.desk) ps) c.requires.none;
  count = search rules;
  room = refl;
}

pub loop-place-preserved : goal.loop-place-preserved
loop-place-preserved g c =
    let i = c.loop-place.invariant in
    let within : c.loop-place.place < length c.loop-place.rows = omega (arith, i.many, c.loop-place-test.true) in
    let s = onward (λ v. v.items) (map (λ d. d.desk) c.args.desks.now) c.args.desk.now.desk c.loop-place.rows c.loop-place.place _ c.index-rows-place.result c.pop.new.self c.in-Some.pass refl within c.in-Some.ensures.items i.halfway in
    record {
      halfway = s.0;
      losing =
          one_lost (λ v. v.items) c.args.rows.now c.loop-place.rows c.loop-place.passes.items c.push_reserved.new.self.items c.loop-place.place _ c.index-rows-place.result c.pop.new.self c.in-Some.pass refl within
          (sym i.many) (omega (arith, i.count, c.loop-place.passes.ok)) c.in-Some.ensures.items c.push_reserved.ensures.items i.losing;
      many = search rules;
      gathered = gathered_more c.loop-place.passes.items c.push_reserved.new.self.items c.in-Some.pass c.loop-place.place _ c.args.desk.now.desk refl c.push_reserved.ensures.items s.1 i.gathered;
      count = search rules;
      room = search rules;
    }

pub returns-clause-rows : goal.returns-clause-rows
returns-clause-rows g c =
    let i = c.loop-place.invariant in
    end (λ v. v.items) (map (λ d. d.desk) c.args.desks.now) c.args.desk.now.desk c.loop-place.rows c.loop-place.place (omega (arith, i.many, c.loop-place-test.false)) i.halfway

pub returns-clause-passes : goal.returns-clause-passes
returns-clause-passes g c =
    let all : c.loop-place.place ≡ length c.args.rows.now = omega (arith, c.loop-place-test.false, c.loop-place.auto.place-end) in
    c.loop-place.invariant.gathered ∙ ap (λ n. replicate n c.args.desk.now.desk) all

pub returns-clause-taken : goal.returns-clause-taken
returns-clause-taken g c =
    let i = c.loop-place.invariant in
    all_lost (λ v. v.items) c.args.rows.now c.loop-place.rows c.loop-place.passes.items c.loop-place.place (omega (arith, i.many, c.loop-place-test.false)) i.losing
