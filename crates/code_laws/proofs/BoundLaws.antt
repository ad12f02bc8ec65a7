-- Statements leave a state within its rows.
use Rattle.std.specs.Prelude.{◌≡◌, ◌==◌, ◌+◌, ◌-◌, ◌++◌, ℕ, zero, suc, Bool, true, false, if◌then◌else◌, ℤ, pos, negsuc, List, [], ◌∷◌, length, replicate, Option, Some, None}
use Rattle.dice_words.specs.Dice.{die}
use Rattle.game_sheet.specs.declared.act.Event.{Event}
use Rattle.game_sheet.specs.declared.args.Arg.{Arg}
use Rattle.game_slots.specs.Tables.{table_fits}
use Rattle.game_slots.specs.declared.rows.Change.{Change}
use Rattle.game_slots.specs.declared.rows.Change.TheVariants.{Swap as SwapItems}
use Rattle.game_slots.specs.declared.rows.SlotPlace.{SlotPlace}
use Rattle.game_slots.specs.declared.table.Table.{Table}
use Rattle.game_slots.specs.declared.work_table.WorkTable.{WorkTable}
use Rattle.game_trait.specs.Deed.{Crowded, Deed, Done, GaveUp, Lack}
use Rattle.game_trait.specs.Lawful.{GivesOwn}
use Rattle.slot_values.specs.Spans.{count_between, next}
use Rattle.slot_values.specs.Values.{is_true, whole}
use Rattle.code_laws.proofs.TableLaws.{work_table_changed_fits}
use Rattle.game_code.specs.Runs.{Step, change_of, changed_at, number_now, of_piece, performed, place_of, queued_one, rolled, rounds, run, shuffled_count, shuffled_down, swapped_at, table_left, then_do, value_now}
use Rattle.game_code.specs.Setting.{Setting}
use Rattle.game_code.specs.Wishes.{wished}
use Rattle.game_code.specs.declared.statement.Piece.{Piece}
use Rattle.game_code.specs.declared.statement.Statement.{Statement}
use Rattle.game_code.specs.declared.statement.Statement.TheVariants.{Nothing, Then', Let', Roll', If', For', Change as ChangeList, Shuffle, Begin, Queue}

abbrev Values : Type 0
Values = List (Option Arg)

module _ (s : Setting) where
  abbrev own : WorkTable → Bool
  own held = table_fits s.rows held.table

  -- a step leaves the state within its rows
  abbrev Keeps : Step → Type 0
  Keeps step = (held : WorkTable) (left : List ℕ) (queued : List Event) → own held ≡ true → GivesOwn own (step held left queued)

  then_keeps : (meaning : Deed WorkTable Lack) (go : Step) → GivesOwn own meaning → Keeps go → GivesOwn own (then_do meaning go)
  then_keeps (Done held left queued) go is keeps = keeps held left queued is
  then_keeps (GaveUp why) go is keeps = tt

  rounds_keep : (body : Option ℤ → Step) (n : ℕ) (i : Option ℤ) → ((i : Option ℤ) → Keeps (body i)) → Keeps (rounds body n i)
  rounds_keep body zero i keeps held left queued is = is
  rounds_keep body (suc n) i keeps held left queued is = then_keeps (body i held left queued) (rounds body n (next i)) (keeps i held left queued is) (rounds_keep body n (next i) keeps)

  rolled_keeps : (faces : Option ℤ) (left : List ℕ) (go : Option ℤ → List ℕ → Deed WorkTable Lack) → ((face : Option ℤ) (after : List ℕ) → GivesOwn own (go face after)) → GivesOwn own (rolled faces left go)
  rolled_keeps None left go keeps = keeps None left
  rolled_keeps (Some (negsuc n)) left go keeps = keeps None left
  rolled_keeps (Some (pos zero)) left go keeps = keeps None left
  rolled_keeps (Some (pos (suc n))) [] go keeps = tt
  rolled_keeps (Some (pos (suc n))) (word ∷ left) go keeps = keeps (Some (pos (die (suc n) word))) left

  either_keeps : (test : Bool) (one other : Deed WorkTable Lack) → GivesOwn own one → GivesOwn own other → GivesOwn own (if test then one else other)
  either_keeps true one other p q = p
  either_keeps false one other p q = q

  queued_keeps : (event : Option Event) → Keeps (queued_one event)
  queued_keeps None held left queued is = is
  queued_keeps (Some event) held left queued is = either_keeps (length queued == 16) (GaveUp Crowded) (Done held left (queued ++ event ∷ [])) tt is

  changed_keeps : (place : Option SlotPlace) (change : Change) (held : WorkTable) → own held ≡ true → own (changed_at s place change held) ≡ true
  changed_keeps None change held is = is
  changed_keeps (Some place) change held is = work_table_changed_fits s.rows s.work place change held is

  shuffled_keeps : (swap : ℕ → ℕ → WorkTable → WorkTable) (i : ℕ) → ((one other : ℕ) (held : WorkTable) → own held ≡ true → own (swap one other held) ≡ true) → Keeps (shuffled_down swap i)
  shuffled_keeps swap zero keeps held left queued is = is
  shuffled_keeps swap (suc i) keeps held [] queued is = tt
  shuffled_keeps swap (suc i) keeps held (word ∷ left) queued is =
      shuffled_keeps swap i keeps (swap (suc i) (die (suc i + 1) word - 1) held) left queued (keeps (suc i) (die (suc i + 1) word - 1) held is)

  pub run_keeps : (e : Statement) (locals : Values) → Keeps (run e s locals)
  run_keeps Nothing locals held left queued is = is
  run_keeps (Then' p first q second) locals held left queued is = then_keeps (run first s locals held left queued) (run second s locals) (run_keeps first locals held left queued is) (run_keeps second locals)
  run_keeps (Let' value p body) locals held left queued is = run_keeps body (value_now value s locals held ∷ locals) held left queued is
  run_keeps (Roll' faces p body) locals held left queued is =
      rolled_keeps (number_now faces s locals held) left (λ face after. run body s (whole face ∷ locals) held after queued) (λ face after. run_keeps body (whole face ∷ locals) held after queued is)
  run_keeps (If' test p one q other) locals held left queued is =
      either_keeps (is_true (value_now test s locals held)) (run one s locals held left queued) (run other s locals held left queued) (run_keeps one locals held left queued is) (run_keeps other locals held left queued is)
  run_keeps (For' most from to p body) locals held left queued is =
      let first = number_now from s locals held in
      rounds_keep (λ i. run body s (whole i ∷ locals)) (count_between most first (number_now to s locals held)) first (λ i. run_keeps body (whole i ∷ locals)) held left queued is
  run_keeps (ChangeList list seat edit) locals held left queued is = changed_keeps (place_of list (number_now seat s locals held)) (change_of edit s locals held) held is
  run_keeps (Shuffle list seat most) locals held left queued is =
      let number = number_now seat s locals held in
      let place = place_of list number in
      shuffled_keeps (swapped_at s place) (shuffled_count list number most s held - 1) (λ one other held is. changed_keeps place (SwapItems (Some (pos one)) (Some (pos other))) held is) held left queued is
  run_keeps (Begin slot value) locals held left queued is = is
  run_keeps (Queue wish) locals held left queued is = queued_keeps (wished wish s held.table held.work locals) held left queued is

table_keeps : (own : Table → Bool) (meaning : Deed WorkTable Lack) → GivesOwn (λ (held : WorkTable). own held.table) meaning → GivesOwn own (table_left meaning)
table_keeps own (Done held left queued) is = is
table_keeps own (GaveUp why) is = tt

-- a piece of code leaves a state within its rows
pub performed_keeps : (piece : Piece) (s : Setting) (table : Table) (words : List ℕ) → table_fits s.rows table ≡ true → GivesOwn (table_fits s.rows) (performed piece s table words)
performed_keeps piece s table words is =
    let held : WorkTable = record { table = table; work = replicate (length piece.work) [] } in
    table_keeps (table_fits s.rows) (run piece.code (of_piece piece s) [] held words []) (run_keeps (of_piece piece s) piece.code [] held words [] is)
