-- An outbox as it is, and as it will be once what is staged there is committed; and what a line makes of it.
use Rattle.std.specs.Prelude.{ℕ, ◌+◌, List, [], ◌∷◌, ◌++◌, Bool, true, false, if◌then◌else◌, length, nat_lt, Option, Some, None}
use Rattle.game_sheet.specs.declared.act.Bye.{Bye}
use Rattle.game_sheet.specs.declared.act.Bye.TheVariants.{Lagging}
use Rattle.room_history.specs.Outbox.{Outbox, unless_ended}
use Rattle.room_history.specs.Stream.{most_waiting}

pub record Outgoing : Type 0 where
  pub now : Outbox
  pub next : Outbox

-- the sync line waits, and none of its bytes count
abbrev pub with_sync : List ℕ → Outbox
with_sync line = record { waiting = line ∷ []; count = 0; end = None }

-- one more line waits, unless there would be too much, which ends the outbox
abbrev pub with_line_if : Bool → List ℕ → Outbox → Outbox
with_line_if true line o = record o { end = Some Lagging }
with_line_if false line o = record o { waiting = o.waiting ++ line ∷ []; count = o.count + length line }

abbrev pub with_line : List ℕ → Outbox → Outbox
with_line line o = unless_ended o.end o (with_line_if (nat_lt most_waiting (o.count + length line)) line o)

abbrev pub with_end : Bye → Outbox → Outbox
with_end why o = unless_ended o.end o (record o { end = Some why })

abbrev pub emptied : Outbox → Outbox
emptied o = record { waiting = []; count = 0; end = o.end }

-- nothing is staged
abbrev pub unstaged : Outgoing → Outgoing
unstaged o = record o { next = o.now }

-- what was staged waits
abbrev pub committed : Outgoing → Outgoing
committed o = record o { now = o.next }

-- two lines, the second for one's own attachment alone
abbrev pub gained : Bool → List ℕ → List ℕ → Outbox → Outbox
gained own said line o = if own then with_line said (with_line line o) else with_line line o
