-- A change leaves a state within its rows, and so does a view.
use Rattle.std.specs.Prelude.{◌≡◌, ◌==◌, ◌+◌, ◌<◌, ◌≤◌, ◌&&◌, ℕ, zero, suc, Bool, true, false, if◌then◌else◌, nat_le, nat_lt, ℤ, List, [], ◌∷◌, length, replicate, slice_get, slice_set, Option, Some, None, unwrap_or, refl}
use Rattle.std.proofs.Common.{ap, ◌∙◌, sym, subst, arith}
use Rattle.std.proofs.lemmas.Bool.{and_from, and_parts, le-leb, leb-true, eqb-true}
use Rattle.std.proofs.lemmas.List.{length-set, length-replicate}
use Rattle.std.specs.List.{list_all}
use Rattle.std.specs.Option.{option_map_or}
use Rattle.code_laws.proofs.SlotLaws.{all_set, slots_changed_fits}
use Rattle.game_slots.specs.Slots.{SlotLists, place_in, slots_changed, slots_fit}
use Rattle.game_slots.specs.Tables.{entries_changed, entry_fits, has_seat, players_fit, secret_fits, seen, seen_from, some_changed, strip, table_fits, work_table_changed}
use Rattle.game_slots.specs.declared.rows.Change.{Change}
use Rattle.game_slots.specs.declared.rows.SlotPlace.{SlotPlace}
use Rattle.game_slots.specs.declared.rows.SlotPlace.TheVariants.{Common, Player, Secret, Work}
use Rattle.game_slots.specs.declared.rows.SlotRow.{SlotRow}
use Rattle.game_slots.specs.declared.rows.TableRows.{TableRows}
use Rattle.game_slots.specs.declared.table.Table.{Table}
use Rattle.game_slots.specs.declared.work_table.WorkTable.{WorkTable}

some_fits : (rows : List SlotRow) (slot : ℕ) (change : Change) (entry : Option SlotLists) → entry_fits rows entry ≡ true → entry_fits rows (some_changed rows slot change entry) ≡ true
some_fits rows slot change None is = refl
some_fits rows slot change (Some slots) is = slots_changed_fits rows slot change slots is

secret_changed_fits : (rows : List SlotRow) (slot : ℕ) (change : Change) (entry : Option SlotLists) → secret_fits rows entry ≡ true → secret_fits rows (some_changed rows slot change entry) ≡ true
secret_changed_fits rows slot change None is = is
secret_changed_fits [] slot change (Some slots) is = is
secret_changed_fits (row ∷ rows) slot change (Some slots) is = slots_changed_fits (row ∷ rows) slot change slots is

-- ---- the seats

entry_held : (rows : List SlotRow) (entries : List (Option SlotLists)) (place : ℕ) → list_all (entry_fits rows) entries ≡ true → entry_fits rows (unwrap_or (slice_get entries place) None) ≡ true
entry_held rows [] place is = refl
entry_held rows (e ∷ entries) zero is = (and_parts (entry_fits rows e) (list_all (entry_fits rows) entries) is).0
entry_held rows (e ∷ entries) (suc place) is = entry_held rows entries place (and_parts (entry_fits rows e) (list_all (entry_fits rows) entries) is).1

-- as many entries, each of which fits, where there are rows
alike_fit : (rows : List SlotRow) (most : ℕ) (entries after : List (Option SlotLists)) → length after ≡ length entries → (list_all (entry_fits rows) entries ≡ true → list_all (entry_fits rows) after ≡ true)
    → players_fit rows most entries ≡ true → players_fit rows most after ≡ true
alike_fit [] most entries after same each is = ap (λ n. n == 0) same ∙ is
alike_fit (row ∷ rows) most entries after same each is =
    let outer = and_parts (nat_le 1 (length entries) && nat_le (length entries) most) (list_all (entry_fits (row ∷ rows)) entries) is in
    and_from (nat_le 1 (length after) && nat_le (length after) most) (list_all (entry_fits (row ∷ rows)) after) (ap (λ n. nat_le 1 n && nat_le n most) same ∙ outer.0) (each outer.1)

entries_changed_at : (rows : List SlotRow) (most : ℕ) (place : Option ℕ) (slot : ℕ) (change : Change) (entries : List (Option SlotLists)) → players_fit rows most entries ≡ true
    → players_fit rows most (option_map_or (λ place. slice_set entries place (some_changed rows slot change (unwrap_or (slice_get entries place) None))) place entries) ≡ true
entries_changed_at rows most None slot change entries is = is
entries_changed_at rows most (Some place) slot change entries is =
    let entry = some_changed rows slot change (unwrap_or (slice_get entries place) None) in
    alike_fit rows most entries (slice_set entries place entry) (length-set entries place entry)
    (λ each. all_set (entry_fits rows) entries place entry (some_fits rows slot change (unwrap_or (slice_get entries place) None) (entry_held rows entries place each)) each) is

-- ---- the three parts

pub three : (a b c : Bool) → (a && b && c) ≡ true → (a ≡ true) × (b ≡ true) × (c ≡ true)
three a b c is = let outer = and_parts (a && b) c is in let inner = and_parts a b outer.0 in (inner.0, inner.1, outer.1)

pub of_three : (a b c : Bool) → a ≡ true → b ≡ true → c ≡ true → (a && b && c) ≡ true
of_three a b c p q r = and_from (a && b) c (and_from a b p q) r

module _ (rows : TableRows) where
  parts : (table : Table) → table_fits rows table ≡ true → (slots_fit rows.common table.common ≡ true) × (players_fit rows.players rows.most_seats table.players ≡ true) × (secret_fits rows.secret table.secret ≡ true)
  parts table is = three (slots_fit rows.common table.common) (players_fit rows.players rows.most_seats table.players) (secret_fits rows.secret table.secret) is

  -- a change leaves a state within its rows
  pub work_table_changed_fits : (work : List SlotRow) (place : SlotPlace) (change : Change) (held : WorkTable) → table_fits rows held.table ≡ true → table_fits rows (work_table_changed rows work place change held).table ≡ true
  work_table_changed_fits work (Common slot) change held is =
      let all = parts held.table is in
      of_three (slots_fit rows.common (slots_changed rows.common slot change held.table.common)) (players_fit rows.players rows.most_seats held.table.players) (secret_fits rows.secret held.table.secret)
      (slots_changed_fits rows.common slot change held.table.common all.0) all.1 all.2
  work_table_changed_fits work (Player seat slot) change held is =
      let all = parts held.table is in
      of_three (slots_fit rows.common held.table.common) (players_fit rows.players rows.most_seats (entries_changed rows.players seat slot change held.table.players)) (secret_fits rows.secret held.table.secret)
      all.0 (entries_changed_at rows.players rows.most_seats (place_in seat (length held.table.players)) slot change held.table.players all.1) all.2
  work_table_changed_fits work (Secret slot) change held is =
      let all = parts held.table is in
      of_three (slots_fit rows.common held.table.common) (players_fit rows.players rows.most_seats held.table.players) (secret_fits rows.secret (some_changed rows.secret slot change held.table.secret))
      all.0 all.1 (secret_changed_fits rows.secret slot change held.table.secret all.2)
  work_table_changed_fits work (Work slot) change held is = is

-- ---- what is seen

seen_fits : (rows : List SlotRow) (shown : Bool) (entry : Option SlotLists) → entry_fits rows entry ≡ true → entry_fits rows (if shown then entry else None) ≡ true
seen_fits rows true entry is = is
seen_fits rows false entry is = refl

each_seen : (rows : List SlotRow) (viewer : Option ℕ) (seat : ℕ) (entries : List (Option SlotLists)) → list_all (entry_fits rows) entries ≡ true → list_all (entry_fits rows) (seen_from viewer seat entries) ≡ true
each_seen rows viewer seat [] is = refl
each_seen rows viewer seat (e ∷ entries) is =
    let parts = and_parts (entry_fits rows e) (list_all (entry_fits rows) entries) is in
    and_from (entry_fits rows (seen viewer seat e)) (list_all (entry_fits rows) (seen_from viewer (seat + 1) entries)) (seen_fits rows (has_seat viewer seat) e parts.0) (each_seen rows viewer (seat + 1) entries parts.1)

pub as_many : (viewer : Option ℕ) (seat : ℕ) (entries : List (Option SlotLists)) → length (seen_from viewer seat entries) ≡ length entries
as_many viewer seat [] = refl
as_many viewer seat (e ∷ entries) = ap suc (as_many viewer (seat + 1) entries)

-- a view of a state is within its rows
pub strip_fits : (rows : TableRows) (table : Table) (viewer : Option ℕ) → table_fits rows table ≡ true → table_fits rows (strip table viewer) ≡ true
strip_fits rows table viewer is =
    let all = three (slots_fit rows.common table.common) (players_fit rows.players rows.most_seats table.players) (secret_fits rows.secret table.secret) is in
    of_three (slots_fit rows.common table.common) (players_fit rows.players rows.most_seats (seen_from viewer 0 table.players)) true
    all.0 (alike_fit rows.players rows.most_seats table.players (seen_from viewer 0 table.players) (as_many viewer 0 table.players) (each_seen rows.players viewer 0 table.players) all.1) refl
