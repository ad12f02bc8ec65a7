-- Statements that name rows of a sheet alone queue no others.
use Rattle.std.specs.Prelude.{◌≡◌, ◌<◌, ◌==◌, ◌&&◌, ◌+◌, ◌-◌, ◌++◌, ℕ, zero, suc, Bool, true, false, if◌then◌else◌, nat_lt, IfSome, ℤ, pos, negsuc, List, [], ◌∷◌, length, replicate, Option, Some, None, option_map, refl}
use Rattle.std.proofs.lemmas.Bool.{and_parts, ltb-true}
use Rattle.dice_words.specs.Dice.{die}
use Rattle.game_sheet.specs.declared.act.Event.{Event}
use Rattle.game_sheet.specs.declared.act.Event.TheVariants.{EndTurn, EndGame}
use Rattle.game_sheet.specs.declared.act.Outcome.TheVariants.{Winner}
use Rattle.game_sheet.specs.declared.args.Arg.{Arg}
use Rattle.game_sheet.specs.declared.args.Arg.TheVariants.{Whole, Text}
use Rattle.game_sheet.specs.declared.sheet.Sheet.{Sheet}
use Rattle.game_slots.specs.Slots.{SlotLists}
use Rattle.game_slots.specs.declared.table.Table.{Table}
use Rattle.game_slots.specs.declared.work_table.WorkTable.{WorkTable}
use Rattle.game_trait.specs.Deed.{Crowded, Deed, Done, GaveUp, Lack}
use Rattle.game_trait.specs.InSheet.{EventInSheet}
use Rattle.game_trait.specs.Queues.{AllInSheet, QueuesInSheet}
use Rattle.slot_values.specs.Spans.{count_between, next}
use Rattle.slot_values.specs.Values.{is_true, whole}
use Rattle.code_laws.specs.Counts.{code_in_sheet, wish_in_sheet}
use Rattle.game_code.specs.Meaning.{value_of}
use Rattle.game_code.specs.Runs.{Step, number_now, of_piece, performed, place_of, queued_one, rolled, rounds, run, shuffled_count, shuffled_down, swapped_at, table_left, then_do, value_now}
use Rattle.game_code.specs.Setting.{Setting}
use Rattle.game_code.specs.Wishes.{seat_in, turn_to, wished, won_by}
use Rattle.game_code.specs.declared.statement.Piece.{Piece}
use Rattle.game_code.specs.declared.statement.Statement.{Statement}
use Rattle.game_code.specs.declared.statement.Statement.TheVariants.{Nothing, Then', Let', Roll', If', For', Change as ChangeList, Shuffle, Begin, Queue}
use Rattle.game_code.specs.declared.statement.Wish.{Wish}
use Rattle.game_code.specs.declared.statement.Wish.TheVariants.{EndTurn as WishEndTurn, EndTurnTo as WishEndTurnTo, EndPhase as WishEndPhase, SetPhase as WishSetPhase, EndStage as WishEndStage, SetStage as WishSetStage, SetActive as WishSetActive, Win as WishWin, Draw as WishDraw, End as WishEnd}

abbrev Values : Type 0
Values = List (Option Arg)

-- ---- a seat that is one of a match is below sixteen

small_if : (n : ℕ) (below small : Bool) → nat_lt n 16 ≡ small → IfSome (if below && small then Some n else None) (λ seat. seat < 16)
small_if n true true is = ltb-true n 16 is
small_if n true false is = tt
small_if n false small is = tt

pub small_seat : (seats : ℕ) (value : Option Arg) → IfSome (seat_in seats value) (λ seat. seat < 16)
small_seat seats None = tt
small_seat seats (Some (Whole (pos n))) = small_if n (nat_lt n seats) (nat_lt n 16) refl
small_seat seats (Some (Whole (negsuc n))) = tt
small_seat seats (Some (Text text)) = tt

module _ (sheet : Sheet) where
  -- an event, if there is one, is of the sheet
  abbrev MayBe : Option Event → Type 0
  MayBe event = IfSome event (EventInSheet sheet)

  turned : (seat : Option ℕ) → MayBe (option_map (λ seat. EndTurn (Some seat)) seat)
  turned None = tt
  turned (Some seat) = tt

  turn_in_sheet : (seats : ℕ) (value : Option Arg) → MayBe (turn_to seats value)
  turn_in_sheet seats None = tt
  turn_in_sheet seats (Some argument) = turned (seat_in seats (Some argument))

  won : (seat : Option ℕ) → IfSome seat (λ seat. seat < 16) → MayBe (option_map (λ seat. EndGame (Winner seat)) seat)
  won None small = tt
  won (Some seat) small = small

  wished_in_sheet : (wish : Wish) (s : Setting) (table : Table) (work : SlotLists) (locals : Values) → wish_in_sheet sheet wish ≡ true → MayBe (wished wish s table work locals)
  wished_in_sheet WishEndTurn s table work locals is = tt
  wished_in_sheet (WishEndTurnTo seat) s table work locals is = turn_in_sheet s.context.seats (value_of seat s table work locals)
  wished_in_sheet WishEndPhase s table work locals is = tt
  wished_in_sheet (WishSetPhase to) s table work locals is = ltb-true to (length sheet.phases) is
  wished_in_sheet WishEndStage s table work locals is = tt
  wished_in_sheet (WishSetStage to) s table work locals is = ltb-true to (length sheet.stages) is
  wished_in_sheet (WishSetActive spec) s table work locals is = ltb-true spec (length sheet.specs) is
  wished_in_sheet (WishWin seat) s table work locals is = won (seat_in s.context.seats (value_of seat s table work locals)) (small_seat s.context.seats (value_of seat s table work locals))
  wished_in_sheet WishDraw s table work locals is = tt
  wished_in_sheet WishEnd s table work locals is = tt

  one_more : (queued : List Event) (event : Event) → AllInSheet sheet queued → EventInSheet sheet event → AllInSheet sheet (queued ++ event ∷ [])
  one_more [] event all is = (is, tt)
  one_more (first ∷ queued) event all is = (all.0, one_more queued event all.1 is)

  -- a step queues rows of the sheet alone
  abbrev Keeps : Step → Type 0
  Keeps step = (held : WorkTable) (left : List ℕ) (queued : List Event) → AllInSheet sheet queued → QueuesInSheet sheet (step held left queued)

  then_keeps : (meaning : Deed WorkTable Lack) (go : Step) → QueuesInSheet sheet meaning → Keeps go → QueuesInSheet sheet (then_do meaning go)
  then_keeps (Done held left queued) go is keeps = keeps held left queued is
  then_keeps (GaveUp why) go is keeps = tt

  rounds_keep : (body : Option ℤ → Step) (n : ℕ) (i : Option ℤ) → ((i : Option ℤ) → Keeps (body i)) → Keeps (rounds body n i)
  rounds_keep body zero i keeps held left queued is = is
  rounds_keep body (suc n) i keeps held left queued is = then_keeps (body i held left queued) (rounds body n (next i)) (keeps i held left queued is) (rounds_keep body n (next i) keeps)

  rolled_keeps : (faces : Option ℤ) (left : List ℕ) (go : Option ℤ → List ℕ → Deed WorkTable Lack) → ((face : Option ℤ) (after : List ℕ) → QueuesInSheet sheet (go face after)) → QueuesInSheet sheet (rolled faces left go)
  rolled_keeps None left go keeps = keeps None left
  rolled_keeps (Some (negsuc n)) left go keeps = keeps None left
  rolled_keeps (Some (pos zero)) left go keeps = keeps None left
  rolled_keeps (Some (pos (suc n))) [] go keeps = tt
  rolled_keeps (Some (pos (suc n))) (word ∷ left) go keeps = keeps (Some (pos (die (suc n) word))) left

  either_keeps : (test : Bool) (one other : Deed WorkTable Lack) → QueuesInSheet sheet one → QueuesInSheet sheet other → QueuesInSheet sheet (if test then one else other)
  either_keeps true one other p q = p
  either_keeps false one other p q = q

  queued_keeps : (event : Option Event) → MayBe event → Keeps (queued_one event)
  queued_keeps None may held left queued is = is
  queued_keeps (Some event) may held left queued is = either_keeps (length queued == 16) (GaveUp Crowded) (Done held left (queued ++ event ∷ [])) tt (one_more queued event is may)

  shuffled_keeps : (swap : ℕ → ℕ → WorkTable → WorkTable) (i : ℕ) → Keeps (shuffled_down swap i)
  shuffled_keeps swap zero held left queued is = is
  shuffled_keeps swap (suc i) held [] queued is = tt
  shuffled_keeps swap (suc i) held (word ∷ left) queued is = shuffled_keeps swap i (swap (suc i) (die (suc i + 1) word - 1) held) left queued is

  pub run_in_sheet : (s : Setting) (e : Statement) (locals : Values) → code_in_sheet sheet e ≡ true → Keeps (run e s locals)
  run_in_sheet s Nothing locals fit held left queued is = is
  run_in_sheet s (Then' p first q second) locals fit held left queued is =
      let parts = and_parts (code_in_sheet sheet first) (code_in_sheet sheet second) fit in
      then_keeps (run first s locals held left queued) (run second s locals) (run_in_sheet s first locals parts.0 held left queued is) (run_in_sheet s second locals parts.1)
  run_in_sheet s (Let' value p body) locals fit held left queued is = run_in_sheet s body (value_now value s locals held ∷ locals) fit held left queued is
  run_in_sheet s (Roll' faces p body) locals fit held left queued is =
      rolled_keeps (number_now faces s locals held) left (λ face after. run body s (whole face ∷ locals) held after queued) (λ face after. run_in_sheet s body (whole face ∷ locals) fit held after queued is)
  run_in_sheet s (If' test p one q other) locals fit held left queued is =
      let parts = and_parts (code_in_sheet sheet one) (code_in_sheet sheet other) fit in
      either_keeps (is_true (value_now test s locals held)) (run one s locals held left queued) (run other s locals held left queued)
      (run_in_sheet s one locals parts.0 held left queued is) (run_in_sheet s other locals parts.1 held left queued is)
  run_in_sheet s (For' most from to p body) locals fit held left queued is =
      let first = number_now from s locals held in
      rounds_keep (λ i. run body s (whole i ∷ locals)) (count_between most first (number_now to s locals held)) first (λ i. run_in_sheet s body (whole i ∷ locals) fit) held left queued is
  run_in_sheet s (ChangeList list seat edit) locals fit held left queued is = is
  run_in_sheet s (Shuffle list seat most) locals fit held left queued is =
      let number = number_now seat s locals held in
      shuffled_keeps (swapped_at s (place_of list number)) (shuffled_count list number most s held - 1) held left queued is
  run_in_sheet s (Begin slot value) locals fit held left queued is = is
  run_in_sheet s (Queue wish) locals fit held left queued is = queued_keeps (wished wish s held.table held.work locals) (wished_in_sheet wish s held.table held.work locals fit) held left queued is

table_keeps : (sheet : Sheet) (meaning : Deed WorkTable Lack) → QueuesInSheet sheet meaning → QueuesInSheet sheet (table_left meaning)
table_keeps sheet (Done held left queued) is = is
table_keeps sheet (GaveUp why) is = tt

-- a piece of code that names rows of a sheet alone queues no others
pub performed_in_sheet : (sheet : Sheet) (piece : Piece) (s : Setting) (table : Table) (words : List ℕ) → code_in_sheet sheet piece.code ≡ true → QueuesInSheet sheet (performed piece s table words)
performed_in_sheet sheet piece s table words fit =
    let held : WorkTable = record { table = table; work = replicate (length piece.work) [] } in
    table_keeps sheet (run piece.code (of_piece piece s) [] held words []) (run_in_sheet sheet (of_piece piece s) piece.code [] fit held words [] tt)
