use Rattle.std.proofs.Common.{◌∙◌}
use Rattle.link_play.proofs.SentLines.{line_ends}
use Rattle.link_play.proofs.acting.sync.Goals as goal

pub send-sent-requires : goal.send-sent-requires
send-sent-requires g c = line_ends _ _ (c.as_slice.ensures.value ∙ c.in-Ok.ensures)
