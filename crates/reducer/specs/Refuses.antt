-- How a refusal is tied to the answer that a match gives to an action: it is that answer, and want of memory is free.
use Rattle.std.specs.Prelude.{◌≡◌, Option, Some}
use Rattle.game_sheet.specs.declared.refusal.GameNo.{GameNo}
use Rattle.game_sheet.specs.declared.refusal.GameNo.TheVariants.{Broken, NoMemory}
use Rattle.game_sheet.specs.declared.refusal.GameRule.{GameRule}

abbrev pub Refuses : GameNo → Option GameRule → Type 0
Refuses (Broken rule) answer = answer ≡ Some rule
Refuses NoMemory answer = Unit {0}
