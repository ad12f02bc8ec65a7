use Rattle.ws_link.proofs.Heard.{still_nothing, then_hears}
use Rattle.ws_link.proofs.framing.Framing.hear.Goals as goal

pub returns-in-Some-clause-hears : goal.returns-in-Some-clause-hears
returns-in-Some-clause-hears g c = then_hears g.T.Read.remaining c.args.self.now c.loop.self c.hear_once.new.self c.in-Some.came c.loop.invariant.0 c.in-Some.ensures.hears

pub returns-in-Some-clause-held : goal.returns-in-Some-clause-held
returns-in-Some-clause-held g c = λ few. c.in-Some.ensures.held (c.loop.invariant.1 few)

pub returns-then-controls-ge-CONTROLS-clause-hears : goal.returns-then-controls-ge-CONTROLS-clause-hears
returns-then-controls-ge-CONTROLS-clause-hears g c = c.loop.invariant.0

pub returns-then-controls-ge-CONTROLS-clause-held : goal.returns-then-controls-ge-CONTROLS-clause-held
returns-then-controls-ge-CONTROLS-clause-held g c = c.loop.invariant.1

pub returns-clause-hears : goal.returns-clause-hears
returns-clause-hears g c = c.loop.invariant.0

pub returns-clause-held : goal.returns-clause-held
returns-clause-held g c = c.loop.invariant.1

pub loop-preserved : goal.loop-preserved
loop-preserved g c = (
  still_nothing g.T.Read.remaining c.args.self.now c.loop.self c.hear_once.new.self c.loop.invariant.0 c.in_default.ensures.hears,
  λ few. c.in_default.ensures.held (c.loop.invariant.1 few),
)
