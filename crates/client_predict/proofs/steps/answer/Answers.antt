use Rattle.std.proofs.Common.{take, rules}
use Rattle.client_predict.specs.Stack.{after}
use Rattle.client_predict.proofs.Keeping.{kept_back, kept_without, room_after}
use Rattle.client_predict.proofs.steps.answer.Goals as goal

pub returns-then-is_none-clause-kept : goal.returns-then-is_none-clause-kept
returns-then-is_none-clause-kept g c =
    kept_without (g.X.Game.rules c.args.game.now) c.args.part.now c.take_out.new.self c.args.place c.index.result.now c.requires.kept c.requires.inside
    (search rules) (search rules) c.take_out.ensures.stays (search rules) (search rules) c.take_out.ensures.room

pub roll_back-requires-clause-room : goal.roll_back-requires-clause-room
roll_back-requires-clause-room g c =
    room_after (g.X.Game.rules c.args.game.now) c.args.part.now c.args.place
    (after c.args.part.now.settled (take c.args.place c.args.part.now.guesses.items)) c.in_ok-fresh.fresh.items c.requires.kept c.requires.inside (search rules)

pub returns-clause-kept : goal.returns-clause-kept
returns-clause-kept g c =
    kept_back (g.X.Game.rules c.args.game.now) c.args.part.now c.roll_back.new.self c.args.place c.in_ok-fresh.fresh.items c.requires.kept c.requires.inside
    (search rules) c.roll_back.ensures.stays (search rules) (search rules) c.roll_back.ensures.room
