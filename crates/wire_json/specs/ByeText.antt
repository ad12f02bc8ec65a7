-- The word that stands on the wire for why a stream ended.
use Rattle.std.specs.Prelude.{ℕ, List, codes, if◌then◌else◌, Option, Some, None}
use Rattle.std.specs.Str.{bytes_eq}
use Rattle.game_sheet.specs.declared.act.Bye.{Bye}
use Rattle.game_sheet.specs.declared.act.Bye.TheVariants.{Left, Lagging}

abbrev pub bye_text : Bye → List ℕ
bye_text Left = codes "left"
bye_text Lagging = codes "lagging"

abbrev pub bye_from : List ℕ → Option Bye
bye_from s = if bytes_eq s (codes "left") then Some Left else if bytes_eq s (codes "lagging") then Some Lagging else None
