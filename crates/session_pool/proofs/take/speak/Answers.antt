use Rattle.std.proofs.Common.{Some, length, subst, sym}
use Rattle.board_links.specs.Pieces.{told_bytes}
use Rattle.session_driver.specs.Hearing.{side}
use Rattle.session_pool.specs.Passes.{Belong}
use Rattle.session_pool.specs.Placed.{AttachedBy, IsIdle}
use Rattle.session_pool.specs.Turn.{Says}
use Rattle.session_pool.specs.Watched.{seen_of}
use Rattle.session_pool.proofs.Ends.{unwritten}
use Rattle.session_pool.proofs.Placing.{idle_plain}
use Rattle.session_pool.proofs.Saying.{says_stopped}
use Rattle.session_pool.proofs.Seeing.{all_same}
use Rattle.session_pool.proofs.take.speak.Goals as goal

-- a send of the answer ended the session
pub returns-in-Some-clause-idle : goal.returns-in-Some-clause-idle
returns-in-Some-clause-idle g c = subst (IsIdle (length c.args.desks.now)) (sym c.say_answer.ensures.core) (idle_plain (length c.args.desks.now) c.args.core.now c.requires.done c.requires.rests)

pub returns-in-Some-clause-bye : goal.returns-in-Some-clause-bye
returns-in-Some-clause-bye g c = unwritten (Some c.in-Some.why) (g.L.Link.sent c.say_answer.new.link) c.in-Some.ensures.why

pub returns-in-Some-clause-goes_on : goal.returns-in-Some-clause-goes_on
returns-in-Some-clause-goes_on g c = all_same (seen_of c.args.passes.now)

pub returns-in-Some-clause-told : goal.returns-in-Some-clause-told
returns-in-Some-clause-told g c told =
    let s = side c.args.passes.now c.args.core.now in
    let sent = told_bytes (g.L.Link.sent c.args.link.now) in
    subst (λ k. Says g.B.Object.may_starve s sent (Some c.in-Some.why) (side c.args.passes.now k) (g.L.Link.sent c.say_answer.new.link)) (sym c.say_answer.ensures.core)
    (says_stopped g.B.Object.may_starve s sent c.in-Some.why (g.L.Link.sent c.say_answer.new.link) c.in-Some.ensures.why (c.in-Some.ensures.told told))

-- it takes what waits
pub take_waiting-requires : goal.take_waiting-requires
take_waiting-requires g c =
    let core = sym c.say_answer.ensures.core in
    record {
      belong = subst (λ k. Belong c.args.desks.now k.pass c.args.passes.now) core c.requires.belong;
      idle = subst (IsIdle (length c.args.desks.now)) core (idle_plain (length c.args.desks.now) c.args.core.now c.requires.done c.requires.rests);
      attached = subst (λ k. AttachedBy c.args.passes.now k.at) core c.requires.attached;
    }
