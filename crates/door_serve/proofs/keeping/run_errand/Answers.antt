use Rattle.std.proofs.Common.{◌∙◌, ap, arith, sym}
use Rattle.std.proofs.Math.Seq.{map-set_same}
use Rattle.room_desk.specs.History.{SetUp}
use Rattle.session_pool.specs.Passes.{Pass}
use Rattle.door_serve.proofs.OwnPasses.{desk_at}
use Rattle.door_serve.proofs.keeping.run_errand.Goals as goal

pub call-requires : goal.call-requires
call-requires g c = record {
  desk =
      desk_at c.args.desks.now c.args.passes.now c.requires.own c.from-place.result c.index-passes-place.result c.index-desks-place.result (omega (arith, c.if-place-desks.true))
      ∙ sym (ap (λ (d : SetUp). d.desk) c.index-desks-place.is);
}

pub returns-then-place-desks : goal.returns-then-place-desks
returns-then-place-desks g c = record {
  own = map-set_same (λ (p : Pass). p.desk) c.args.passes.now c.from-place.result c.call.new.pass c.index-passes-place.result (ap (λ (p : Pass). p.desk) c.call.ensures.pass);
}
