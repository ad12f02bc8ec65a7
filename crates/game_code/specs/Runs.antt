-- What statements do: the state and the slots of work after, the words left and the events queued, or why they give up.
use Rattle.std.specs.Prelude.{◌≡◌, ◌==◌, ◌+◌, ◌-◌, ◌++◌, ℕ, zero, suc, if◌then◌else◌, ℤ, pos, negsuc, List, [], ◌∷◌, length, replicate, Option, Some, None, Result, Ok, Err}
use Rattle.std.specs.Option.{option_map_or}
use Rattle.dice_words.specs.Dice.{die}
use Rattle.dice_words.specs.declared.spent.Spent.{Spent as SpentTape}
use Rattle.game_sheet.specs.declared.act.Event.{Event}
use Rattle.game_sheet.specs.declared.args.Arg.{Arg}
use Rattle.game_slots.specs.Tables.{work_begun, work_table_changed}
use Rattle.game_slots.specs.declared.rows.Change.{Change}
use Rattle.game_slots.specs.declared.rows.Change.TheVariants.{Set as SetItem, Push as PushItem, Remove as RemoveItem, Clear as ClearItems, Fill as FillItems, Swap as SwapItems}
use Rattle.game_slots.specs.declared.rows.SlotPlace.{SlotPlace}
use Rattle.game_slots.specs.declared.rows.SlotPlace.TheVariants.{Common as AtCommon, Player as AtPlayer, Secret as AtSecret, Work as AtWork}
use Rattle.game_slots.specs.declared.table.Table.{Table}
use Rattle.game_slots.specs.declared.work_table.WorkTable.{WorkTable}
use Rattle.game_trait.specs.Deed.{Crowded, Deed, Done, GaveUp, Lack, Spent}
use Rattle.game_trait.specs.declared.halt.HookHalt.{HookHalt}
use Rattle.game_trait.specs.declared.halt.HookHalt.TheVariants.{Spent as HookSpent, Crowded as HookCrowded, NoMemory as HookNoMemory}
use Rattle.slot_values.specs.Spans.{count_between, next}
use Rattle.slot_values.specs.Values.{is_true, number_of, whole}
use Rattle.game_code.specs.Meaning.{list_items, list_length, value_of}
use Rattle.game_code.specs.Setting.{Setting}
use Rattle.game_code.specs.Wishes.{wished}
use Rattle.game_code.specs.declared.expression.Expression.{Expression}
use Rattle.game_code.specs.declared.expression.ItemList.{ItemList}
use Rattle.game_code.specs.declared.expression.ItemList.TheVariants.{Common, Player, Secret, Work, Constant, Order}
use Rattle.game_code.specs.declared.statement.Edit.{Edit}
use Rattle.game_code.specs.declared.statement.Edit.TheVariants.{Set, Push, Remove, Clear, Fill}
use Rattle.game_code.specs.declared.statement.Piece.{Piece}
use Rattle.game_code.specs.declared.statement.Statement.{Statement}
use Rattle.game_code.specs.declared.statement.Statement.TheVariants.{Nothing, Then', Let', Roll', If', For', Change as ChangeList, Shuffle, Begin, Queue}

-- how an answer is tied to what is meant, by what is held after, the words left and the events queued; want of memory is free
abbrev pub Runs : {A H : Type 0} → Result A HookHalt → H → List ℕ → List Event → Deed H Lack → Type 0
Runs (Ok done) held left queued meaning = meaning ≡ Done held left queued
Runs (Err HookSpent) held left queued meaning = (meaning ≡ GaveUp Spent) × (left ≡ [])
Runs (Err HookCrowded) held left queued meaning = (meaning ≡ GaveUp Crowded) × (length queued ≡ 16)
Runs (Err HookNoMemory) held left queued meaning = Unit {0}

-- a step goes from what is held, the words left and the events queued
abbrev pub Step : Type 0
Step = WorkTable → List ℕ → List Event → Deed WorkTable Lack

-- ---- one step after another

-- goes on from where a deed is done
abbrev pub then_do : Deed WorkTable Lack → Step → Deed WorkTable Lack
then_do (Done held left queued) go = go held left queued
then_do (GaveUp why) go = GaveUp why

-- a step at so many numbers from one on
abbrev pub rounds : (Option ℤ → Step) → ℕ → Option ℤ → Step
rounds body zero i held left queued = Done held left queued
rounds body (suc n) i held left queued = then_do (body i held left queued) (rounds body n (next i))

-- ---- events and dice

-- a piece of code queues at most sixteen events
abbrev pub queued_one : Option Event → Step
queued_one None held left queued = Done held left queued
queued_one (Some event) held left queued = if length queued == 16 then GaveUp Crowded else Done held left (queued ++ event ∷ [])

-- a die is rolled by the next word, where there is one; where there is no such die, no word is drawn
abbrev pub rolled : Option ℤ → List ℕ → (Option ℤ → List ℕ → Deed WorkTable Lack) → Deed WorkTable Lack
rolled None left go = go None left
rolled (Some (negsuc n)) left go = go None left
rolled (Some (pos zero)) left go = go None left
rolled (Some (pos (suc n))) [] go = GaveUp Spent
rolled (Some (pos (suc n))) (word ∷ left) go = go (Some (pos (die (suc n) word))) left

-- how the answer of a roll is tied to it
abbrev pub Rolls : Result (Option ℤ) SpentTape → List ℕ → List ℕ → Option ℤ → Type 0
Rolls (Ok face) before left faces = (go : Option ℤ → List ℕ → Deed WorkTable Lack) → rolled faces before go ≡ go face left
Rolls (Err why) before left faces = (left ≡ []) × ((go : Option ℤ → List ℕ → Deed WorkTable Lack) → rolled faces before go ≡ GaveUp Spent)

-- from a place i down to 1, i changes places with the one at 1 below the face of a die of i + 1 faces
abbrev pub shuffled_down : (ℕ → ℕ → WorkTable → WorkTable) → ℕ → Step
shuffled_down swap zero held left queued = Done held left queued
shuffled_down swap (suc i) held [] queued = GaveUp Spent
shuffled_down swap (suc i) held (word ∷ left) queued = shuffled_down swap i (swap (suc i) (die (suc i + 1) word - 1) held) left queued

-- ---- changes

-- where a list stands that can be changed
abbrev pub place_of : ItemList → Option ℤ → Option SlotPlace
place_of (Common slot) seat = Some (AtCommon slot)
place_of (Player slot) seat = Some (AtPlayer seat slot)
place_of (Secret slot) seat = Some (AtSecret slot)
place_of (Work slot) seat = Some (AtWork slot)
place_of (Constant row) seat = None
place_of Order seat = None

abbrev pub changed_at : Setting → Option SlotPlace → Change → WorkTable → WorkTable
changed_at s None change held = held
changed_at s (Some place) change held = work_table_changed s.rows s.work place change held

-- two items change places
abbrev pub swapped_at : Setting → Option SlotPlace → ℕ → ℕ → WorkTable → WorkTable
swapped_at s place one other held = changed_at s place (SwapItems (Some (pos one)) (Some (pos other))) held

-- the value of an expression in what is held
abbrev pub value_now : Expression → Setting → List (Option Arg) → WorkTable → Option Arg
value_now expression s locals held = value_of expression s held.table held.work locals

abbrev pub number_now : Expression → Setting → List (Option Arg) → WorkTable → Option ℤ
number_now expression s locals held = number_of (value_now expression s locals held)

-- the change that is meant
abbrev pub change_of : Edit → Setting → List (Option Arg) → WorkTable → Change
change_of (Set at value) s locals held = SetItem (number_now at s locals held) (value_now value s locals held)
change_of (Push value) s locals held = PushItem (value_now value s locals held)
change_of (Remove at) s locals held = RemoveItem (number_now at s locals held)
change_of Clear s locals held = ClearItems
change_of (Fill value) s locals held = FillItems (value_now value s locals held)

-- how many items of a list are shuffled, of at most so many
abbrev pub shuffled_count : ItemList → Option ℤ → ℕ → Setting → WorkTable → ℕ
shuffled_count list seat most s held = count_between most (Some (pos 0)) (list_length (list_items list seat s held.table held.work))

-- ---- statements

abbrev pub run : Statement → Setting → List (Option Arg) → Step
run Nothing s locals held left queued = Done held left queued
run (Then' p first q second) s locals held left queued = then_do (run first s locals held left queued) (run second s locals)
run (Let' value p body) s locals held left queued = run body s (value_now value s locals held ∷ locals) held left queued
run (Roll' faces p body) s locals held left queued = rolled (number_now faces s locals held) left (λ face after. run body s (whole face ∷ locals) held after queued)
run (If' test p one q other) s locals held left queued = if is_true (value_now test s locals held) then run one s locals held left queued else run other s locals held left queued
run (For' most from to p body) s locals held left queued =
    let first = number_now from s locals held in
    rounds (λ i. run body s (whole i ∷ locals)) (count_between most first (number_now to s locals held)) first held left queued
run (ChangeList list seat edit) s locals held left queued = Done (changed_at s (place_of list (number_now seat s locals held)) (change_of edit s locals held) held) left queued
run (Shuffle list seat most) s locals held left queued =
    let number = number_now seat s locals held in
    shuffled_down (swapped_at s (place_of list number)) (shuffled_count list number most s held - 1) held left queued
run (Begin slot value) s locals held left queued = Done (work_begun s.work slot s.context.seats (value_now value s locals held) held) left queued
run (Queue wish) s locals held left queued = queued_one (wished wish s held.table held.work locals) held left queued

-- ---- pieces of code

-- the state that a piece of code leaves
abbrev pub table_left : Deed WorkTable Lack → Deed Table Lack
table_left (Done held left queued) = Done held.table left queued
table_left (GaveUp why) = GaveUp why

-- what a piece is given: its own rows of work
abbrev pub of_piece : Piece → Setting → Setting
of_piece piece s = record s { work = piece.work }

-- a piece of code on a state, with the words that the action has left; its slots of work are empty until they begin
abbrev pub performed : Piece → Setting → Table → List ℕ → Deed Table Lack
performed piece s table words = table_left (run piece.code (of_piece piece s) [] (record { table = table; work = replicate (length piece.work) [] }) words [])

-- how the answer of a piece is tied to what it means
abbrev pub Performs : Result Table HookHalt → List ℕ → List Event → Deed Table Lack → Type 0
Performs (Ok table) left queued meaning = meaning ≡ Done table left queued
Performs (Err HookSpent) left queued meaning = (meaning ≡ GaveUp Spent) × (left ≡ [])
Performs (Err HookCrowded) left queued meaning = (meaning ≡ GaveUp Crowded) × (length queued ≡ 16)
Performs (Err HookNoMemory) left queued meaning = Unit {0}

-- the state of what is held, where a piece is done
abbrev pub table_of : {A : Type 0} → Table → Result A HookHalt → Result Table HookHalt
table_of table (Ok done) = Ok table
table_of table (Err why) = Err why
