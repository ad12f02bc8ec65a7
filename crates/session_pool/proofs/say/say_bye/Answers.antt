use Rattle.std.proofs.Common.{◌∙◌, Some, subst, sym}
use Rattle.board_links.specs.Answers.{AreLines}
use Rattle.board_links.specs.Pieces.{told_bytes}
use Rattle.session_pool.proofs.Ends.{bye_last, unwritten}
use Rattle.session_pool.proofs.Sends.{bye_done, bye_is_line, bye_known, bye_stopped}
use Rattle.session_pool.proofs.say.say_bye.Goals as goal

pub say-requires : goal.say-requires
say-requires g c = record { lines = subst AreLines (sym c.bye_line.ensures) (bye_is_line c.args.bye) }

pub returns-in-None-clause-told : goal.returns-in-None-clause-told
returns-in-None-clause-told g c told =
    bye_done c.args.bye c.bye_line.result.now (told_bytes (g.L.Link.sent c.args.link.now)) (g.L.Link.sent c.say.new.link) c.bye_line.ensures (c.in-None.ensures.told told)

pub returns-in-None-clause-bye : goal.returns-in-None-clause-bye
returns-in-None-clause-bye g c =
    bye_last (g.L.Link.sent c.args.link.now) (g.L.Link.sent c.say.new.link) _ c.bye_line.result.now (c.bye_line.ensures ∙ bye_known c.args.bye) c.in-None.ensures.tells c.in-None.ensures.told

pub returns-in-Some-clause-told : goal.returns-in-Some-clause-told
returns-in-Some-clause-told g c told =
    bye_stopped c.args.bye c.bye_line.result.now (told_bytes (g.L.Link.sent c.args.link.now)) c.in-Some.why (g.L.Link.sent c.say.new.link) c.bye_line.ensures c.in-Some.ensures.why (c.in-Some.ensures.told told)

pub returns-in-Some-clause-bye : goal.returns-in-Some-clause-bye
returns-in-Some-clause-bye g c = unwritten (Some c.in-Some.why) (g.L.Link.sent c.say.new.link) c.in-Some.ensures.why
