use Rattle.std.proofs.Common.{◌≡◌, ◌+◌, drop}
use Rattle.game_sheet.specs.SheetRules.{first_broken}
use Rattle.game_sheet.proofs.check.first_broken.Given as goal

abbrev pub invariant-loop-is_kept : goal.invariant-loop-is_kept
invariant-loop-is_kept l = (l.rule ≡ l.is_kept-index + 1) × (first_broken l.rule (drop l.is_kept-index l.kept) ≡ first_broken 1 l.kept)
