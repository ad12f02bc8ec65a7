use Rattle.board_links.specs.declared.link.Came.TheVariants as came
use Rattle.ws_link.proofs.Limits.{still_limited}
use Rattle.ws_link.proofs.ws_link.come.Goals as goal

pub returns-in-Some-clause-bounded : goal.returns-in-Some-clause-bounded
returns-in-Some-clause-bounded g c =
    let held = rw c.in-Open.is at c.in-Ok.ensures.held in
    let limits = rw c.in-Open.is at c.in-Ok.ensures.limits in
    record {
      held = λ few. c.in-Some.ensures.held (held few);
      limited = still_limited g.T.Read.remaining c.args.peer.now c.in-Open.framing c.hear.new.self c.in-Some.came limits c.in-Some.ensures.hears;
    }

pub returns-in-None-clause-bounded : goal.returns-in-None-clause-bounded
returns-in-None-clause-bounded g c =
    let held = rw c.in-Open.is at c.in-Ok.ensures.held in
    let limits = rw c.in-Open.is at c.in-Ok.ensures.limits in
    record {
      held = λ few. c.in-None.ensures.held (held few);
      limited = still_limited g.T.Read.remaining c.args.peer.now c.in-Open.framing c.hear.new.self came.Quiet limits c.in-None.ensures.hears;
    }
