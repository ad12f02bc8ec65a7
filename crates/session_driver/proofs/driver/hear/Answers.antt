use Rattle.std.proofs.Common.{◌∙◌, sym, subst}
use Rattle.session_driver.specs.Hearing.{draws, side}
use Rattle.session_driver.proofs.Benches.{hear_sat, hear_turns}
use Rattle.session_driver.proofs.Steps.{line_keeps}
use Rattle.session_driver.proofs.driver.hear.Goals as goal

pub run-tally-requires-clause-serves : goal.run-tally-requires-clause-serves
run-tally-requires-clause-serves g c =
    let keeps =
    line_keeps c.args.line.now c.args.core.now (draws c.args.tape.now c.args.seed.now)
    c.hear_line.new.core (draws c.hear_line.new.tape c.hear_line.new.seed) c.hear_line.ensures.hears in
    subst (λ pass. g.M.Rooms.serves c.args.rooms.now pass) (sym keeps.1) c.requires.serves

pub run-tally-requires-clause-rooms : goal.run-tally-requires-clause-rooms
run-tally-requires-clause-rooms g c =
    let keeps =
    line_keeps c.args.line.now c.args.core.now (draws c.args.tape.now c.args.seed.now)
    c.hear_line.new.core (draws c.hear_line.new.tape c.hear_line.new.seed) c.hear_line.ensures.hears in
    keeps.0 ∙ c.requires.rooms

pub returns-then-is_again-clause-rooms : goal.returns-then-is_again-clause-rooms
returns-then-is_again-clause-rooms g c =
    let keeps =
    line_keeps c.args.line.now c.args.core.now (draws c.args.tape.now c.args.seed.now)
    c.hear_line.new.core (draws c.hear_line.new.tape c.hear_line.new.seed) c.hear_line.ensures.hears in
    c.run-tally.ensures.rooms ∙ keeps.0

pub returns-then-is_again-clause-pass : goal.returns-then-is_again-clause-pass
returns-then-is_again-clause-pass g c =
    let keeps =
    line_keeps c.args.line.now c.args.core.now (draws c.args.tape.now c.args.seed.now)
    c.hear_line.new.core (draws c.hear_line.new.tape c.hear_line.new.seed) c.hear_line.ensures.hears in
    c.run-tally.ensures.pass ∙ keeps.1

pub returns-then-is_again-clause-bench : goal.returns-then-is_again-clause-bench
returns-then-is_again-clause-bench g c =
    hear_turns g.M.Rooms.calls c.args.line.now (side c.args.rooms.now c.args.core.now) (draws c.args.tape.now c.args.seed.now) c.hear_line.new.core (draws c.hear_line.new.tape c.hear_line.new.seed)
    c.run-tally.result (side c.run-tally.new.rooms c.run-tally.new.core) c.hear_line.ensures.hears c.run-tally.ensures.runs c.requires.written

pub returns-then-is_again-clause-sat : goal.returns-then-is_again-clause-sat
returns-then-is_again-clause-sat g c =
    hear_sat g.M.Rooms.calls c.args.line.now (side c.args.rooms.now c.args.core.now) (draws c.args.tape.now c.args.seed.now) c.hear_line.new.core (draws c.hear_line.new.tape c.hear_line.new.seed)
    c.run-tally.result (side c.run-tally.new.rooms c.run-tally.new.core) c.hear_line.ensures.hears c.run-tally.ensures.runs

pub returns-else-is_again-clause-rooms : goal.returns-else-is_again-clause-rooms
returns-else-is_again-clause-rooms g c =
    let keeps =
    line_keeps c.args.line.now c.args.core.now (draws c.args.tape.now c.args.seed.now)
    c.hear_line.new.core (draws c.hear_line.new.tape c.hear_line.new.seed) c.hear_line.ensures.hears in
    c.run-tally.ensures.rooms ∙ keeps.0

pub returns-else-is_again-clause-pass : goal.returns-else-is_again-clause-pass
returns-else-is_again-clause-pass g c =
    let keeps =
    line_keeps c.args.line.now c.args.core.now (draws c.args.tape.now c.args.seed.now)
    c.hear_line.new.core (draws c.hear_line.new.tape c.hear_line.new.seed) c.hear_line.ensures.hears in
    c.run-tally.ensures.pass ∙ keeps.1

pub returns-else-is_again-clause-bench : goal.returns-else-is_again-clause-bench
returns-else-is_again-clause-bench g c =
    hear_turns g.M.Rooms.calls c.args.line.now (side c.args.rooms.now c.args.core.now) (draws c.args.tape.now c.args.seed.now) c.hear_line.new.core (draws c.hear_line.new.tape c.hear_line.new.seed)
    c.run-tally.result (side c.run-tally.new.rooms c.run-tally.new.core) c.hear_line.ensures.hears c.run-tally.ensures.runs c.requires.written

pub returns-else-is_again-clause-sat : goal.returns-else-is_again-clause-sat
returns-else-is_again-clause-sat g c =
    hear_sat g.M.Rooms.calls c.args.line.now (side c.args.rooms.now c.args.core.now) (draws c.args.tape.now c.args.seed.now) c.hear_line.new.core (draws c.hear_line.new.tape c.hear_line.new.seed)
    c.run-tally.result (side c.run-tally.new.rooms c.run-tally.new.core) c.hear_line.ensures.hears c.run-tally.ensures.runs
