use Rattle.std.proofs.Common.{◌≡◌, ◌<◌, ◌∙◌, ℕ, refl, ap, length, slice_index_or, slice_set, arith}
use Rattle.any_game.specs.AnyRules.{any_rules}
use Rattle.match_master.specs.Held.{is_starved}
use Rattle.room_history.specs.Room.{reply}
use Rattle.session_driver.specs.Calls.{did}
use Rattle.session_pool.specs.Passes.{unseen}
use Rattle.session_pool.proofs.OfDesks.{as_many, belongs_at, belongs_set, called_as, called_named, calls_made}
use Rattle.session_pool.proofs.desks.DesksRooms.call.Goals as goal

within : (room desks passes : ℕ) → room < desks → passes ≡ desks → room < passes
within room desks passes low e = omega (arith, low, e)

pub call-requires : goal.call-requires
call-requires g c =
    let d = c.args.self.now in
    record { desk = belongs_at d.desks.now c.args._pass d.passes.now c.requires.serves.1 c.args.room c.index-self-place-2.result c.index-self-place.result c.requires.there }

pub returns-clause-calls : goal.returns-clause-calls
returns-clause-calls g c =
    let d = c.args.self.now in
    let p = slice_index_or d.passes.now c.args.room c.index-self-place-2.result in
    let law = g.met.B.HostedRoom in (
      calls_made g.B.Object.may_starve d.passes.now c.args.room c.index-self-place-2.result c.call.new.pass c.args.call c.call.result
          (within c.args.room (length d.desks.now) (length d.passes.now) c.requires.there (as_many d.desks.now c.args._pass d.passes.now c.requires.serves.1))
          c.call.ensures.pass
          (called_as (g.B.Object.reply p.desk.object) (reply any_rules p.desk.object) (law.replies p.desk.object) p.seen p.number c.args.call (g.B.Object.is_starved c.call.result) (is_starved c.call.result)
          (law.starves c.call.result) c.call.result c.call.new.pass.seen c.call.ensures.called)
          (λ e. c.call.ensures.fed (law.starves c.call.result ∙ e)),
      refl,
      refl,
    )

pub returns-clause-serves : goal.returns-clause-serves
returns-clause-serves g c =
    let d = c.args.self.now in
    (c.requires.serves.0, belongs_set d.desks.now c.args._pass d.passes.now c.requires.serves.1 c.args.room c.index-self-place-2.result c.call.new.pass (ap unseen c.call.ensures.pass))

pub returns-clause-named : goal.returns-clause-named
returns-clause-named g c =
    let d = c.args.self.now in
    called_named g.B.Object.may_starve d.passes.now (slice_set d.passes.now c.args.room c.call.new.pass) (did c.args.room c.args.call c.call.result) (returns-clause-calls g c).0
