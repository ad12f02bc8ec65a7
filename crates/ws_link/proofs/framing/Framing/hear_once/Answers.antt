use Rattle.ws_link.proofs.Heard.{part_heard, refusal_heard, step_heard}
use Rattle.ws_link.proofs.framing.Framing.hear_once.Goals as goal

pub returns-in-Ok-clause-hears : goal.returns-in-Ok-clause-hears
returns-in-Ok-clause-hears g c =
    let returns = rw c.in-Ok-Complete.field-0-is at c.in-Ok-Complete.ensures.returns in
    let leaves = rw c.new-reply.ensures.items at c.in-Ok-Complete.ensures.leaves in
    let keeps = rw c.in-Ok-Complete.field-0-is at c.in-Ok-Complete.ensures.keeps_rest in
    let left = rw c.as_slice.ensures.value at c.in-Ok.ensures.left in
    step_heard g.T.Read.remaining c.args.self.now c.read_frame.new.self c.taken.new.self c.in-Ok-Complete.step c.read_frame.new.reply.items c.in-Ok.answer returns leaves keeps
    c.in-Ok-Complete.ensures.stream c.in-Ok-Complete.ensures.output left c.in-Ok.ensures.tells

pub returns-in-Ok-Partial-clause-hears : goal.returns-in-Ok-Partial-clause-hears
returns-in-Ok-Partial-clause-hears g c =
    let returns = rw c.in-Ok-Partial.field-0-is at c.in-Ok-Partial.ensures.returns in
    let leaves = rw c.new-reply.ensures.items at c.in-Ok-Partial.ensures.leaves in
    let keeps = rw c.in-Ok-Partial.field-0-is at c.in-Ok-Partial.ensures.keeps_rest in
    part_heard g.T.Read.remaining c.args.self.now c.read_frame.new.self c.fill.new.self c.in-Ok-Partial.field-0-0 c.read_frame.new.reply.items c.fill.result returns leaves keeps
    c.in-Ok-Partial.ensures.stream c.in-Ok-Partial.ensures.output c.fill.ensures.hears

pub returns-clause-hears : goal.returns-clause-hears
returns-clause-hears g c =
    refusal_heard g.T.Read.remaining c.args.self.now c.read_frame.new.self c.in-Err.error c.refused.result c.in-Err.ensures.failed c.refused.ensures.refused

pub taken-requires-clause-consumed : goal.taken-requires-clause-consumed
taken-requires-clause-consumed g c =
    let keeps = rw c.in-Ok-Complete.field-0-is at c.in-Ok-Complete.ensures.keeps_rest in
    rw c.in-Ok-Complete.ensures.same_len keeps.0
