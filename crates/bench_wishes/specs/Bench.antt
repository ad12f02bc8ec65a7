-- The bench by its history: a row for each seat whose bot sat down and has not risen, and whether somebody has asked for it.
use Rattle.std.specs.Prelude.{ℕ, Bool, true, false, if◌then◌else◌, is_some, List, [], ◌∷◌, ◌++◌, position, slice_get, slice_set, Option, Some, None}
use Rattle.std.specs.List.{remove}
use Rattle.game_sheet.specs.MatchName.{Name}
use Rattle.room_object.specs.Entry.{Entry}
use Rattle.bench_wishes.specs.Places.{is_at}
use Rattle.bench_wishes.specs.declared.call.WishCall.{WishCall}
use Rattle.bench_wishes.specs.declared.call.WishCall.TheVariants.{Sit, Ask, Wished, Rise}
use Rattle.bench_wishes.specs.declared.call.WishReply.{WishReply}
use Rattle.bench_wishes.specs.declared.call.WishReply.TheVariants as reply
use Rattle.bench_wishes.specs.declared.row.Row.{Row}

abbrev pub is_row : Name → ℕ → Row → Bool
is_row name seat row = is_at name seat row.name row.seat

-- the place of a seat's row
abbrev pub place_of : Name → ℕ → List Row → Option ℕ
place_of name seat rows = position (is_row name seat) rows

abbrev pub unmarked : Name → ℕ → Row
unmarked name seat = record { name = name; seat = seat; wished = false }

abbrev pub marked : Row → Row
marked row = record { name = row.name; seat = row.seat; wished = true }

-- a row is added where there is none
abbrev pub sat : Name → ℕ → List Row → Option ℕ → List Row
sat name seat rows None = rows ++ unmarked name seat ∷ []
sat name seat rows (Some place) = rows

abbrev pub row_at : List Row → ℕ → Option Row
row_at rows place = slice_get rows place

abbrev pub mark_at : List Row → ℕ → Option Row → List Row
mark_at rows place None = rows
mark_at rows place (Some row) = slice_set rows place (marked row)

abbrev pub with_mark : List Row → Option ℕ → List Row
with_mark rows None = rows
with_mark rows (Some place) = mark_at rows place (row_at rows place)

abbrev pub is_asked : Option ℕ → Bool
is_asked place = is_some place

abbrev pub is_wished : Option Row → Bool
is_wished None = false
is_wished (Some row) = row.wished

abbrev pub is_marked : List Row → Option ℕ → Bool
is_marked rows None = false
is_marked rows (Some place) = is_wished (row_at rows place)

abbrev pub without : List Row → Option ℕ → List Row
without rows None = rows
without rows (Some place) = remove rows place

-- the rows after a call that had memory
abbrev pub rows_after : List Row → WishCall → List Row
rows_after rows (Sit name seat) = sat name seat rows (place_of name seat rows)
rows_after rows (Ask name seat) = with_mark rows (place_of name seat rows)
rows_after rows (Wished name seat) = rows
rows_after rows (Rise name seat) = without rows (place_of name seat rows)

-- by a history, the latest entry first
abbrev pub rows_of : List (Entry WishCall) → List Row
rows_of [] = []
rows_of (e ∷ h) = if e.starved then rows_of h else rows_after (rows_of h) e.call

abbrev pub reply_to : List Row → WishCall → WishReply
reply_to rows (Sit name seat) = reply.Sat
reply_to rows (Ask name seat) = if is_asked (place_of name seat rows) then reply.Asked else reply.NotABot
reply_to rows (Wished name seat) = if is_marked rows (place_of name seat rows) then reply.Yes else reply.No
reply_to rows (Rise name seat) = reply.Risen

abbrev pub bench_reply : List (Entry WishCall) → Entry WishCall → WishReply
bench_reply h e = if e.starved then reply.NoMemory else reply_to (rows_of h) e.call

abbrev pub is_starved : WishReply → Bool
is_starved reply.NoMemory = true
is_starved other = false

-- only a row takes memory
abbrev pub may_starve : WishCall → Bool
may_starve (Sit name seat) = true
may_starve call = false
