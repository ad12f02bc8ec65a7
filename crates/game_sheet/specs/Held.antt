-- What bytes that are handed out stand in.
use Rattle.std.specs.Prelude.{ℕ, Bool, true, List, map, take}
use Rattle.std.specs.List.{concat, list_all}
use Rattle.game_sheet.specs.Lines.{is_line}
use Rattle.game_sheet.specs.declared.bytes.Held.{Held}
use Rattle.game_sheet.specs.declared.bytes.Held.TheVariants.{Owned, Fixed, Shared, InPlace}

abbrev pub bytes_held : Held → List ℕ
bytes_held (Owned bytes) = bytes.items
bytes_held (Fixed bytes) = bytes.now
bytes_held (Shared shared) = concat (map (λ line. line.value.items) shared.items)
bytes_held (InPlace kept) = take kept.len kept.bytes

-- what is shared is lines
abbrev pub are_lines : Held → Bool
are_lines (Owned bytes) = true
are_lines (Fixed bytes) = true
are_lines (Shared shared) = list_all (λ line. is_line line.value.items) shared.items
are_lines (InPlace kept) = true
