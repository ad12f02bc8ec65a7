-- The lines of bytes that stand in shared lines are these.
use Rattle.std.proofs.Common.{◌≡◌, ◌<◌, ℕ, true, List, length, map, get_or, Some, option_map, sym, ap, ◌∙◌}
use Rattle.std.specs.Prelude.{slice_get}
use Rattle.std.proofs.lemmas.Option.{slice_get-map, slice_get-get_or}
use Rattle.game_sheet.specs.Held.{are_lines, bytes_held}
use Rattle.game_sheet.specs.Lines.{lines}
use Rattle.game_sheet.specs.declared.bytes.Held.{Held}
use Rattle.game_sheet.specs.declared.bytes.Held.TheVariants.{Owned, Fixed, Shared, InPlace}
use Rattle.game_sheet.proofs.Cut.{lines_of}

abbrev pub AreShared : Held → List (List ℕ) → Type 0
AreShared (Owned bytes) all = Unit {0}
AreShared (Fixed bytes) all = Unit {0}
AreShared (InPlace kept) all = Unit {0}
AreShared (Shared shared) all = all ≡ map (λ line. line.value.items) shared.items

pub shared_lines : (held : Held) (bytes : List ℕ) → bytes_held held ≡ bytes → are_lines held ≡ true → AreShared held (lines bytes)
shared_lines (Owned owned) bytes e h = tt
shared_lines (Fixed fixed) bytes e h = tt
shared_lines (InPlace kept) bytes e h = tt
shared_lines (Shared shared) bytes e h = ap lines (sym e) ∙ lines_of (λ line. line.value.items) shared.items h

pub at_place : {X : Type 0} (line : X → List ℕ) (xs : List X) (place : ℕ) (x : X) → place < length xs → x ≡ get_or xs place x → slice_get (map line xs) place ≡ Some (line x)
at_place line xs place x h e = slice_get-map line xs place ∙ ap (option_map line) (slice_get-get_or xs place x h ∙ ap Some (sym e))
