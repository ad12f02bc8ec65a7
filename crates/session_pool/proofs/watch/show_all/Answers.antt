use Rattle.std.proofs.Common.{rules, ◌≡◌, ◌<◌, ◌∙◌, Some, ap, arith, length, map, refl, slice_index_or, slice_set, subst, sym}
use Rattle.std.proofs.Math.Seq.{map-set_same}
use Rattle.room_desk.specs.History.{SetUp}
use Rattle.session_pool.specs.Passes.{Pass as Seeing}
use Rattle.session_pool.specs.Watched.{Knows, desk_at}
use Rattle.session_pool.proofs.Watching.{all_keep, all_shown, as_many_as, none_shown, same_at, set_here, shown_on}
use Rattle.session_pool.proofs.watch.show_all.Goals as goal

pub loop-room-init : goal.loop-room-init
loop-room-init g c = (refl, refl, none_shown c.args.watch.now c.args.passes.now)

pub show_at-requires-clause-pass : goal.show_at-requires-clause-pass
show_at-requires-clause-pass g c =
    let k = c.loop-room.room in
    let here : slice_index_or c.args.desks.now k c.index-desks-room.result ≡ c.index-desks-room.result = search rules in
    ap (λ ps. (slice_index_or ps k c.index-passes-room.result).desk) c.loop-room.invariant.0
    ∙ (same_at (λ (p : Seeing). p.desk) (λ d. d.desk) c.args.passes.now c.args.desks.now c.requires.passes k c.index-passes-room.result c.index-desks-room.result c.loop-room-test.true
    ∙ ap (λ (d : SetUp). d.desk) here)

pub show_at-requires-clause-watch : goal.show_at-requires-clause-watch
show_at-requires-clause-watch g c =
    let k = c.loop-room.room in
    let here : slice_index_or c.args.desks.now k c.index-desks-room.result ≡ c.index-desks-room.result = search rules in
    same_at desk_at (λ d. Some d.desk) c.loop-room.watch c.args.desks.now (c.loop-room.invariant.1 ∙ c.requires.watch) k c.index-watch-room.result c.index-desks-room.result c.loop-room-test.true
    ∙ ap (λ (d : SetUp). Some d.desk) here

pub loop-room-preserved : goal.loop-room-preserved
loop-room-preserved g c =
    let k = c.loop-room.room in
    let i = c.loop-room.invariant in
    let many = as_many_as desk_at (λ d. Some d.desk) c.loop-room.watch c.args.desks.now (i.1 ∙ c.requires.watch) in
    let also = as_many_as (λ (p : Seeing). p.desk) (λ d. d.desk) c.args.passes.now c.args.desks.now c.requires.passes in
    let low : k < length c.loop-room.watch = omega (arith, many, c.loop-room-test.true) in
    let there : k < length c.args.passes.now = omega (arith, also, c.loop-room-test.true) in
    let was = ap (λ ps. slice_index_or ps k c.index-passes-room.result) i.0 in (
      ap (λ ps. slice_set ps k c.show_at.new.pass) i.0 ∙ set_here c.args.passes.now k c.show_at.new.pass c.index-passes-room.result there (c.show_at.ensures.same ∙ was),
      map-set_same desk_at c.loop-room.watch k c.show_at.new.watch c.index-watch-room.result c.show_at.ensures.desk ∙ i.1,
      shown_on k _ c.loop-room.watch c.args.watch.now c.args.passes.now c.show_at.new.watch c.index-watch-room.result c.index-passes-room.result refl low there
          (subst (λ p. Knows c.show_at.new.watch p) was c.show_at.ensures.shown) c.show_at.ensures.keeps i.2,
    )

pub returns-clause-shown : goal.returns-clause-shown
returns-clause-shown g c =
    let i = c.loop-room.invariant in
    let many = as_many_as desk_at (λ d. Some d.desk) c.loop-room.watch c.args.desks.now (i.1 ∙ c.requires.watch) in
    let also = as_many_as (λ (p : Seeing). p.desk) (λ d. d.desk) c.args.passes.now c.args.desks.now c.requires.passes in
    all_shown c.loop-room.room c.loop-room.watch c.args.watch.now c.args.passes.now (omega (arith, many, c.loop-room-test.false)) (omega (arith, many, also)) i.2

pub returns-clause-keeps : goal.returns-clause-keeps
returns-clause-keeps g c more = all_keep c.loop-room.room c.loop-room.watch c.args.watch.now c.args.passes.now more c.loop-room.invariant.2
