use Rattle.std.proofs.Common.{Some}
use Rattle.board_links.specs.Pieces.{told_bytes}
use Rattle.session_pool.proofs.Ends.{unwritten}
use Rattle.session_pool.proofs.Sends.{handed_later, stopped}
use Rattle.session_pool.proofs.say.hand_out.Goals as goal

pub returns-in-Some-clause-told : goal.returns-in-Some-clause-told
returns-in-Some-clause-told g c told =
    stopped c.args.over c.args.bytes.now (told_bytes (g.L.Link.sent c.args.link.now)) c.in-Some.why (g.L.Link.sent c.say_all.new.link) c.in-Some.ensures.why (c.in-Some.ensures.told told)

pub returns-in-Some-clause-bye : goal.returns-in-Some-clause-bye
returns-in-Some-clause-bye g c = unwritten (Some c.in-Some.why) (g.L.Link.sent c.say_all.new.link) c.in-Some.ensures.why

pub returns-clause-told : goal.returns-clause-told
returns-clause-told g c told =
    handed_later c.args.over c.in-Some-over.bye c.args.bytes.now (told_bytes (g.L.Link.sent c.args.link.now)) (g.L.Link.sent c.say_all.new.link) (g.L.Link.sent c.say_bye.new.link) c.say_bye.result
    c.in-Some-over.is (c.in_default.ensures.told told) c.say_bye.ensures.told
