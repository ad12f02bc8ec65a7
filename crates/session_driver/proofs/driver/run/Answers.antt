use Rattle.std.proofs.Common.{◌≡◌, ◌≤◌, ◌+◌, ℕ, ◌∙◌, Some, sym, ap, subst, arith}
use Rattle.any_game.specs.GameKind.{GameKind}
use Rattle.game_hall.specs.Core.{Core, asked}
use Rattle.session_driver.specs.Hearing.{HearsReply, side}
use Rattle.session_driver.specs.Calls.{did}
use Rattle.session_driver.specs.Left.{left}
use Rattle.session_driver.proofs.Steps.{makes_next, nears, open_request}
use Rattle.session_driver.proofs.driver.run.Goals as goal

most_added : (all before one made : ℕ) → all ≡ before + one → before ≤ made → one ≤ 1 → all ≤ made + 1
most_added all before one made e l m = omega (arith, e, l, m)

nearer : (now before made most : ℕ) → now + 1 ≤ before → before + made ≤ most → now + (made + 1) ≤ most
nearer now before made most h k = omega (arith, h, k)

pub count-requires : goal.count-requires
count-requires g c = (c.args.core.now.pass, c.requires.serves)

pub loop-made-preserved : goal.loop-made-preserved
loop-made-preserved g c =
    let core = c.loop-made.core in
    let i = c.loop-made.invariant in
    let d = c.ask-one.new.core in
    let wanted : core.call ≡ Some (c.in-Some.room, c.in-Some.call) = sym c.wants.ensures.call ∙ c.in-Some.is in
    let open_one = open_request core.call core.request core.said (c.in-Some.room, c.in-Some.call) wanted i.settled in
    let asks = c.ask-one.ensures.asks in
    let told = asks.0 in
    let same_pass : c.wants.new.self.pass ≡ core.pass = ap (λ (k : Core GameKind). k.pass) c.wants.ensures.asked in
    let called = subst (λ p. g.M.Rooms.calls c.loop-made.rooms p (did c.in-Some.room c.in-Some.call told) c.ask-one.new.rooms) same_pass asks.1 in
    let hears : HearsReply (asked core) told d = subst (λ k. HearsReply k told d) c.wants.ensures.asked asks.2 in
    let n = nears (asked core) open_one.0.0 told d open_one.0.1 hears in
    record {
      serves = subst (λ p. g.M.Rooms.serves c.ask-one.new.rooms p) (same_pass ∙ sym n.pass_is) c.ask-one.ensures.serves;
      many = c.ask-one.ensures.many ∙ i.many;
      rooms = n.rooms_are ∙ i.rooms;
      pass = n.pass_is ∙ i.pass;
      settled = c.ask-one.ensures.settled;
      so_far = makes_next g.M.Rooms.calls (side c.args.rooms.now c.args.core.now) c.loop-made.made c.loop-made.tally c.loop-made.rooms core i.so_far
          c.in-Some.room c.in-Some.call told c.ask-one.new.rooms d c.ask-one.result c.sum-tally.result wanted called hears asks.3 asks.4 c.sum-tally.ensures.accepted c.sum-tally.ensures.refused;
      nears = nearer (left d.rooms d.request) (left core.rooms core.request) c.loop-made.made (c.args.core.now.rooms + 1) n.fewer i.nears;
      accepted = most_added _ _ _ _ c.sum-tally.ensures.accepted i.accepted c.ask-one.ensures.few;
      refused = most_added _ _ _ _ c.sum-tally.ensures.refused i.refused c.ask-one.ensures.fewer;
    }
