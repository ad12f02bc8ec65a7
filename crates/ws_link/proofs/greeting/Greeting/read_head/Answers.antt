use Rattle.ws_link.proofs.Heads.{still_waits}
use Rattle.ws_link.proofs.greeting.Greeting.read_head.Goals as goal

pub returns-in-Err-clause-reads : goal.returns-in-Err-clause-reads
returns-in-Err-clause-reads g c = still_waits g.T.Read.remaining c.args.self.now c.loop.self c.read.new.self c.in-Err.halt c.loop.invariant.0 c.in-Err.ensures.reads

pub returns-then-count-le-HEAD-clause-held : goal.returns-then-count-le-HEAD-clause-held
returns-then-count-le-HEAD-clause-held g c = c.loop.invariant.1

pub returns-else-count-le-HEAD-clause-held : goal.returns-else-count-le-HEAD-clause-held
returns-else-count-le-HEAD-clause-held g c = c.loop.invariant.1

pub returns-then-len-ge-HEAD-clause-held : goal.returns-then-len-ge-HEAD-clause-held
returns-then-len-ge-HEAD-clause-held g c = c.loop.invariant.1

pub returns-clause-held : goal.returns-clause-held
returns-clause-held g c = c.loop.invariant.1
