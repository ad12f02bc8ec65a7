use Rattle.game_sheet.proofs.Shorts.{kept_well}
use Rattle.game_sheet.proofs.short.Short.of.Goals as goal

pub invariant_of-result : goal.invariant_of-result
invariant_of-result c = kept_well c.args.bytes.now c.padded.result c.padded.ensures (cc)
