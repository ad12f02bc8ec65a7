-- A state in three parts, what a viewer sees of it, and what a change makes of it.
use Rattle.std.specs.Prelude.{◌==◌, ◌+◌, ◌&&◌, ℕ, nat_le, Bool, true, false, if◌then◌else◌, ℤ, List, [], ◌∷◌, length, replicate, slice_get, slice_set, Option, Some, None, option_map, option_and_then, unwrap_or}
use Rattle.std.specs.List.{list_all}
use Rattle.std.specs.Option.{option_map_or}
use Rattle.game_sheet.specs.declared.args.Arg.{Arg}
use Rattle.game_slots.specs.Slots.{SlotLists, place_in, slot_begun, slots_changed, slots_fit, slots_started}
use Rattle.game_slots.specs.declared.rows.Change.{Change}
use Rattle.game_slots.specs.declared.rows.SlotPlace.{SlotPlace}
use Rattle.game_slots.specs.declared.rows.SlotPlace.TheVariants.{Common, Player, Secret, Work}
use Rattle.game_slots.specs.declared.rows.SlotRow.{SlotRow}
use Rattle.game_slots.specs.declared.rows.TableRows.{TableRows}
use Rattle.game_slots.specs.declared.table.Table.{Table}
use Rattle.game_slots.specs.declared.work_table.WorkTable.{WorkTable}

-- ---- reading

-- what is held for a seat; none where it is hidden, or where there is no such seat
abbrev pub entry_at : List (Option SlotLists) → Option ℤ → Option SlotLists
entry_at entries seat = option_and_then (λ place. unwrap_or (slice_get entries place) None) (place_in seat (length entries))

abbrev pub slot_in : Option SlotLists → ℕ → Option (List (Option Arg))
slot_in slots slot = option_and_then (λ slots. slice_get slots slot) slots

-- the items of a slot; none where the state hasn't it
abbrev pub items_at : Table → SlotLists → SlotPlace → Option (List (Option Arg))
items_at table work (Common slot) = slice_get table.common slot
items_at table work (Player seat slot) = slot_in (entry_at table.players seat) slot
items_at table work (Secret slot) = slot_in table.secret slot
items_at table work (Work slot) = slice_get work slot

-- ---- changing

abbrev pub some_changed : List SlotRow → ℕ → Change → Option SlotLists → Option SlotLists
some_changed rows slot change entry = option_map (slots_changed rows slot change) entry

abbrev pub entries_changed : List SlotRow → Option ℤ → ℕ → Change → List (Option SlotLists) → List (Option SlotLists)
entries_changed rows seat slot change entries =
    option_map_or (λ place. slice_set entries place (some_changed rows slot change (unwrap_or (slice_get entries place) None))) (place_in seat (length entries)) entries

-- a state and the slots of work, where one slot is changed as its row lets it be
abbrev pub work_table_changed : TableRows → List SlotRow → SlotPlace → Change → WorkTable → WorkTable
work_table_changed rows work (Common slot) change held = record held { table = record held.table { common = slots_changed rows.common slot change held.table.common } }
work_table_changed rows work (Player seat slot) change held = record held { table = record held.table { players = entries_changed rows.players seat slot change held.table.players } }
work_table_changed rows work (Secret slot) change held = record held { table = record held.table { secret = some_changed rows.secret slot change held.table.secret } }
work_table_changed rows work (Work slot) change held = record held { work = slots_changed work slot change held.work }

-- the slots of work, where one begins anew: so many items of one value
abbrev pub work_begun : List SlotRow → ℕ → ℕ → Option Arg → WorkTable → WorkTable
work_begun work slot seats value held = record held { work = slot_begun work slot seats value held.work }

-- ---- seeing

-- whether a viewer has this seat; a spectator has none
abbrev pub has_seat : Option ℕ → ℕ → Bool
has_seat own seat = option_map_or (λ own. own == seat) own false

-- what is held for a seat, as a viewer sees it
abbrev pub seen : Option ℕ → ℕ → Option SlotLists → Option SlotLists
seen viewer seat entry = if has_seat viewer seat then entry else None

-- what is held from a seat on, as a viewer sees it
abbrev pub seen_from : Option ℕ → ℕ → List (Option SlotLists) → List (Option SlotLists)
seen_from viewer seat [] = []
seen_from viewer seat (entry ∷ entries) = seen viewer seat entry ∷ seen_from viewer (seat + 1) entries

-- what a viewer sees of a state: what is common, and what is held for its own seat
abbrev pub strip : Table → Option ℕ → Table
strip table viewer = record { common = table.common; players = seen_from viewer 0 table.players; secret = None }

-- ---- own states

abbrev pub entry_fits : List SlotRow → Option SlotLists → Bool
entry_fits rows entry = option_map_or (slots_fit rows) entry true

-- 1 to so many seats, each of which is hidden or holds what it may; none where seats have no slots
abbrev pub players_fit : List SlotRow → ℕ → List (Option SlotLists) → Bool
players_fit [] most entries = length entries == 0
players_fit (row ∷ rows) most entries = nat_le 1 (length entries) && nat_le (length entries) most && list_all (entry_fits (row ∷ rows)) entries

-- the secret part is hidden, or there are such slots and it holds what it may
abbrev pub secret_fits : List SlotRow → Option SlotLists → Bool
secret_fits rows None = true
secret_fits [] (Some slots) = false
secret_fits (row ∷ rows) (Some slots) = slots_fit (row ∷ rows) slots

-- whether a state is one of the game
abbrev pub table_fits : TableRows → Table → Bool
table_fits rows table = slots_fit rows.common table.common && players_fit rows.players rows.most_seats table.players && secret_fits rows.secret table.secret

-- ---- the first state

abbrev pub players_started : List SlotRow → ℕ → List (Option SlotLists)
players_started [] seats = []
players_started (row ∷ rows) seats = replicate seats (Some (slots_started (row ∷ rows) seats))

abbrev pub secret_started : List SlotRow → ℕ → Option SlotLists
secret_started [] seats = None
secret_started (row ∷ rows) seats = Some (slots_started (row ∷ rows) seats)

-- each slot as it starts
abbrev pub started : TableRows → ℕ → Table
started rows seats = record { common = slots_started rows.common seats; players = players_started rows.players seats; secret = secret_started rows.secret seats }
