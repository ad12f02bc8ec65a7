use Rattle.std.proofs.Common.{◌≤◌, ◌∙◌, Some, subst}
use Rattle.board_links.specs.Pieces.{told_bytes}
use Rattle.game_sheet.specs.Lines.{lines}
use Rattle.session_pool.proofs.Ends.{shows_later}
use Rattle.session_pool.proofs.Lines.{line_at, sent_all, sent_more, sent_part}
use Rattle.session_pool.proofs.say.say_all.Goals as goal

-- each piece is a line
pub say-requires : goal.say-requires
say-requires g c = record { lines = line_at (lines c.args.bytes.now) c.loop-place.place c.piece.result.now c.piece.ensures c.requires.lines }

pub loop-place-preserved : goal.loop-place-preserved
loop-place-preserved g c =
    let i = c.loop-place.invariant in
    let said = c.in_default.ensures in
    record {
      faults = said.shows ∙ i.faults;
      stage = said.stage ∙ i.stage;
      answers = said.answers ∙ i.answers;
      tells = said.tells ∙ i.tells;
      is_bot = said.is_bot ∙ i.is_bot;
      asked_out = said.asked_out ∙ i.asked_out;
      sent = λ told. sent_more c.args.bytes.now (told_bytes (g.L.Link.sent c.args.link.now)) c.loop-place.place c.piece.result.now
          (g.L.Link.sent c.loop-place.link) (g.L.Link.sent c.say.new.link) c.piece.ensures (i.sent told) said.told;
    }

pub returns-in-Some-clause-told : goal.returns-in-Some-clause-told
returns-in-Some-clause-told g c told =
    sent_part c.args.bytes.now (told_bytes (g.L.Link.sent c.args.link.now)) c.loop-place.place c.piece.result.now
    (g.L.Link.sent c.loop-place.link) (g.L.Link.sent c.say.new.link) c.in-Some.why c.piece.ensures (c.loop-place.invariant.sent told) c.in-Some.ensures.told

pub returns-in-Some-clause-shows : goal.returns-in-Some-clause-shows
returns-in-Some-clause-shows g c = shows_later (Some c.in-Some.why) (g.L.Link.faults c.args.link.now) (g.L.Link.faults c.loop-place.link) (g.L.Link.faults c.say.new.link) c.loop-place.invariant.faults c.in-Some.ensures.shows

pub returns-clause-told : goal.returns-clause-told
returns-clause-told g c told =
    sent_all c.args.bytes.now (told_bytes (g.L.Link.sent c.args.link.now)) c.loop-place.place (g.L.Link.sent c.loop-place.link)
    (subst (λ count. count ≤ c.loop-place.place) c.count-place-end.ensures c.loop-place-test.false) (c.loop-place.invariant.sent told)
