use Rattle.std.proofs.Common.{subst, sym}
use Rattle.board_links.specs.Pieces.{told_bytes}
use Rattle.session_pool.specs.Lines.{AreWhole, SentAs}
use Rattle.session_pool.proofs.Replies.{answer_whole}
use Rattle.session_pool.proofs.take.say_answer.Goals as goal

pub say_all-why-requires : goal.say_all-why-requires
say_all-why-requires g c = record { lines = subst AreWhole (sym c.written-line.ensures.line) (answer_whole c.args.core.now.said) }

pub returns-clause-told : goal.returns-clause-told
returns-clause-told g c told =
    subst (λ bytes. SentAs c.say_all-why.result bytes (told_bytes (g.L.Link.sent c.args.link.now)) (g.L.Link.sent c.say_all-why.new.link)) c.written-line.ensures.line (c.say_all-why.ensures.told told)
