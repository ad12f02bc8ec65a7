-- The place of the play order at which a phase begins, and the place that comes next, by the order's kind.
use Rattle.std.specs.Prelude.{ℕ, ◌+◌, ◌%◌, ◌==◌, Bool, Option, None, Some, if◌then◌else◌}
use Rattle.game_sheet.specs.declared.sheet.Order.{Order}
use Rattle.game_sheet.specs.declared.sheet.Order.TheVariants.{Default, Continue, Once}

-- the place at which a phase begins, from the place before and the length of the play order that it begins with
abbrev pub first : Order → Bool → ℕ → ℕ → ℕ
first Default at_start pos len = if at_start then 0 else (pos + 1) % len
first Continue at_start pos len = pos % len
first other at_start pos len = 0

-- the place after a place, or none where every seat had its turn and the order goes round once
abbrev pub next : Order → ℕ → ℕ → Option ℕ
next Once pos len = if pos + 1 == len then None else Some (pos + 1)
next other pos len = Some ((pos + 1) % len)
