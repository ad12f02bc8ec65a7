use Rattle.game_sheet.proofs.Shorts.{short_text}
use Rattle.game_sheet.proofs.short.Short.as_str.Goals as goal

pub unreachable-requires : goal.unreachable-requires
unreachable-requires c = c.in-Err.ensures.cases.0 (short_text _ c.self.invariant.2)
