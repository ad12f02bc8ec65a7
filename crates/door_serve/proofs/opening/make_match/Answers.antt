use Rattle.std.proofs.Common.{◌∙◌, ap, arith, slice_index_or, slice_set, subst}
use Rattle.any_game.specs.AnyRules.{any_rules}
use Rattle.match_master.specs.Held.{is_starved}
use Rattle.room_history.specs.Room.{reply}
use Rattle.room_history.specs.declared.call.RoomCall.TheVariants as call
use Rattle.session_driver.specs.Calls.{did}
use Rattle.session_pool.proofs.OfDesks.{as_many, called_as, calls_made}
use Rattle.session_pool.proofs.Seeing.{all_through, call_goes_on}
use Rattle.session_pool.specs.Passes.{CallsDesk, number_of}
use Rattle.session_pool.specs.Watched.{seen_of}
use Rattle.door_serve.proofs.Created.{made_free}
use Rattle.door_serve.proofs.opening.make_match.Goals as goal

pub returns-clause-made : goal.returns-clause-made
returns-clause-made g c =
    let passes = c.args.passes.now in
    let p = slice_index_or passes 0 c.index-passes-0.result in
    let asks = call.Create c.args.game c.args.seats c.seed_for-seed.result in
    let told = c.call-reply.result in
    let called = called_as (g.B.Object.reply p.desk.object) (reply any_rules p.desk.object) (g.met.B.HostedRoom.replies p.desk.object) p.seen p.number asks
    (g.B.Object.is_starved told) (is_starved told) (g.met.B.HostedRoom.starves told) told c.call-reply.new.pass.seen c.call-reply.ensures.called in
    let some = as_many c.args.desks.now (number_of passes) passes c.requires.belong in (
      told,
      subst (λ words. CallsDesk g.B.Object.may_starve passes (did 0 (call.Create c.args.game c.args.seats words) told) (slice_set passes 0 c.call-reply.new.pass))
          c.seed_for-seed.ensures
          (calls_made g.B.Object.may_starve passes 0 c.index-passes-0.result c.call-reply.new.pass asks told (omega (arith, some, c.requires.some)) c.call-reply.ensures.pass called
          (λ starved. c.call-reply.ensures.fed (g.met.B.HostedRoom.starves told ∙ starved))),
      c.is_made.ensures,
    )

pub returns-clause-free : goal.returns-clause-free
returns-clause-free g c =
    let passes = c.args.passes.now in
    let p = slice_index_or passes 0 c.index-passes-0.result in
    let asks = call.Create c.args.game c.args.seats c.seed_for-seed.result in
    let told = c.call-reply.result in
    let called = called_as (g.B.Object.reply p.desk.object) (reply any_rules p.desk.object) (g.met.B.HostedRoom.replies p.desk.object) p.seen p.number asks
    (g.B.Object.is_starved told) (is_starved told) (g.met.B.HostedRoom.starves told) told c.call-reply.new.pass.seen c.call-reply.ensures.called in
    made_free passes p c.call-reply.new.pass c.args.game c.args.seats c.seed_for-seed.result told (ap (λ d. slice_index_or passes 0 d) c.index-passes-0.is)
    c.call-reply.ensures.pass called c.requires.free

pub returns-clause-began : goal.returns-clause-began
returns-clause-began g c pasts since =
    let passes = c.args.passes.now in
    let after = slice_set passes 0 c.call-reply.new.pass in
    all_through (seen_of after) (seen_of passes) pasts (call_goes_on g.B.Object.may_starve passes _ after (returns-clause-made g c).1) since
