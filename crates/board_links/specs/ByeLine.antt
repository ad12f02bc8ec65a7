-- The line that tells a peer that its stream has ended.
use Rattle.std.specs.Prelude.{ℕ, List, codes}
use Rattle.game_sheet.specs.declared.act.Bye.{Bye}
use Rattle.game_sheet.specs.declared.act.Bye.TheVariants as bye

abbrev pub bye_line : Bye → List ℕ
bye_line bye.Left = codes "{\"type\":\"bye\",\"why\":\"left\"}\n"
bye_line bye.Lagging = codes "{\"type\":\"bye\",\"why\":\"lagging\"}\n"
