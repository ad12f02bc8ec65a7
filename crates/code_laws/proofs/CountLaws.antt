-- Statements queue no more events than are counted by their form, and draw no more words.
use Rattle.std.specs.Prelude.{◌≡◌, ◌==◌, ◌+◌, ◌-◌, ◌*◌, ◌<◌, ◌≤◌, ◌++◌, ℕ, zero, suc, min, max, Bool, true, false, if◌then◌else◌, ℤ, pos, negsuc, ◌-ℤ◌, List, [], ◌∷◌, length, replicate, Option, Some, None, refl}
use Rattle.std.proofs.Common.{sym, ◌∙◌, subst, arith, length-append, add_comm, mul-le-mul_right, suc-mul}
use Rattle.std.proofs.lemmas.Bool.{eqb-true}
use Rattle.dice_words.specs.Dice.{die}
use Rattle.game_sheet.specs.declared.act.Event.{Event}
use Rattle.game_sheet.specs.declared.args.Arg.{Arg}
use Rattle.game_slots.specs.declared.table.Table.{Table}
use Rattle.game_slots.specs.declared.work_table.WorkTable.{WorkTable}
use Rattle.game_trait.specs.Deed.{Crowded, Deed, Done, GaveUp, Lack, Spent}
use Rattle.slot_values.specs.Spans.{count_between, next, to_nat}
use Rattle.slot_values.specs.Values.{is_true, whole}
use Rattle.code_laws.specs.Counts.{DrawsAtMost, QueuesAtMost, events_of, words_of}
use Rattle.game_code.specs.Runs.{Step, number_now, of_piece, performed, place_of, queued_one, rolled, rounds, run, shuffled_count, shuffled_down, swapped_at, table_left, then_do, value_now}
use Rattle.game_code.specs.Meaning.{list_items, list_length}
use Rattle.game_code.specs.Setting.{Setting}
use Rattle.game_code.specs.Wishes.{wished}
use Rattle.game_code.specs.declared.statement.Piece.{Piece}
use Rattle.game_code.specs.declared.statement.Statement.{Statement}
use Rattle.game_code.specs.declared.statement.Statement.TheVariants.{Nothing, Then', Let', Roll', If', For', Change as ChangeList, Shuffle, Begin, Queue}

abbrev Values : Type 0
Values = List (Option Arg)

count_most : (most : ℕ) (from to : Option ℤ) → count_between most from to ≤ most
count_most most None to = omega arith
count_most most (Some from) None = omega arith
count_most most (Some from) (Some to) = omega arith

-- fewer rounds, fewer in all
fewer_rounds : (n most m : ℕ) → n ≤ most → n * m ≤ most * m
fewer_rounds n most m few = mul-le-mul_right m few

round_more : (n m : ℕ) → suc n * m ≡ m + n * m
round_more n m = suc-mul n m ∙ add_comm (n * m) m

-- ---- events

weaker : (before one other : ℕ) (meaning : Deed WorkTable Lack) → one ≤ other → QueuesAtMost before one meaning → QueuesAtMost before other meaning
weaker before one other (Done held left queued) less is = omega (arith, less, is)
weaker before one other (GaveUp Spent) less is = tt
weaker before one other (GaveUp Crowded) less is = is

-- a step queues at most so many events, where there is room for them
abbrev Queues : ℕ → Step → Type 0
Queues most step = (held : WorkTable) (left : List ℕ) (queued : List Event) → length queued + most ≤ 16 → QueuesAtMost (length queued) most (step held left queued)

after_more : (before one other : ℕ) (queued : List Event) (meaning : Deed WorkTable Lack) → length queued ≤ before + one → QueuesAtMost (length queued) other meaning → QueuesAtMost before (one + other) meaning
after_more before one other queued (Done held left more) few is = omega (arith, few, is)
after_more before one other queued (GaveUp Spent) few is = tt
after_more before one other queued (GaveUp Crowded) few is = is

then_queues : (before one other : ℕ) (meaning : Deed WorkTable Lack) (go : Step) → before + (one + other) ≤ 16 → QueuesAtMost before one meaning → Queues other go → QueuesAtMost before (one + other) (then_do meaning go)
then_queues before one other (Done held left queued) go room is more = after_more before one other queued (go held left queued) is (more held left queued (omega (arith, room, is)))
then_queues before one other (GaveUp Spent) go room is more = tt
then_queues before one other (GaveUp Crowded) go room is more = is

rounds_queue : (body : Option ℤ → Step) (m n : ℕ) (i : Option ℤ) → ((i : Option ℤ) → Queues m (body i)) → Queues (n * m) (rounds body n i)
rounds_queue body m zero i each held left queued room = omega arith
rounds_queue body m (suc n) i each held left queued room =
    let more : suc n * m ≡ m + n * m = round_more n m in
    let room : length queued + (m + n * m) ≤ 16 = subst (λ k. length queued + k ≤ 16) more room in
    subst (λ k. QueuesAtMost (length queued) k (then_do (body i held left queued) (rounds body n (next i)))) (sym more)
    (then_queues (length queued) m (n * m) (body i held left queued) (rounds body n (next i)) room (each i held left queued (omega (arith, room))) (rounds_queue body m n (next i) each))

either_queues : (test : Bool) (before most : ℕ) (one other : Deed WorkTable Lack) → QueuesAtMost before most one → QueuesAtMost before most other → QueuesAtMost before most (if test then one else other)
either_queues true before most one other p q = p
either_queues false before most one other p q = q

one_queued : (full : Bool) (held : WorkTable) (left : List ℕ) (queued : List Event) (event : Event) → (length queued == 16) ≡ full → length queued + 1 ≤ 16 → QueuesAtMost (length queued) 1 (if full then GaveUp Crowded else Done held left (queued ++ event ∷ []))
one_queued true held left queued event is room = absurd (omega (arith, eqb-true (length queued) 16 is, room))
one_queued false held left queued event is room = omega (arith, length-append queued (event ∷ []))

queued_queues : (event : Option Event) → Queues 1 (queued_one event)
queued_queues None held left queued room = omega arith
queued_queues (Some event) held left queued room = one_queued (length queued == 16) held left queued event refl room

rolled_queues : (before most : ℕ) (faces : Option ℤ) (left : List ℕ) (go : Option ℤ → List ℕ → Deed WorkTable Lack) → ((face : Option ℤ) (after : List ℕ) → QueuesAtMost before most (go face after)) → QueuesAtMost before most (rolled faces left go)
rolled_queues before most None left go each = each None left
rolled_queues before most (Some (negsuc n)) left go each = each None left
rolled_queues before most (Some (pos zero)) left go each = each None left
rolled_queues before most (Some (pos (suc n))) [] go each = tt
rolled_queues before most (Some (pos (suc n))) (word ∷ left) go each = each (Some (pos (die (suc n) word))) left

shuffled_queues : (swap : ℕ → ℕ → WorkTable → WorkTable) (i : ℕ) (held : WorkTable) (left : List ℕ) (queued : List Event) → QueuesAtMost (length queued) 0 (shuffled_down swap i held left queued)
shuffled_queues swap zero held left queued = omega arith
shuffled_queues swap (suc i) held [] queued = tt
shuffled_queues swap (suc i) held (word ∷ left) queued = shuffled_queues swap i (swap (suc i) (die (suc i + 1) word - 1) held) left queued

pub run_queues : (s : Setting) (e : Statement) (locals : Values) → Queues (events_of e) (run e s locals)
run_queues s Nothing locals held left queued room = omega arith
run_queues s (Then' p first q second) locals held left queued room =
    then_queues (length queued) (events_of first) (events_of second) (run first s locals held left queued) (run second s locals) room
    (run_queues s first locals held left queued (omega (arith, room))) (run_queues s second locals)
run_queues s (Let' value p body) locals held left queued room = run_queues s body (value_now value s locals held ∷ locals) held left queued room
run_queues s (Roll' faces p body) locals held left queued room =
    rolled_queues (length queued) (events_of body) (number_now faces s locals held) left (λ face after. run body s (whole face ∷ locals) held after queued) (λ face after. run_queues s body (whole face ∷ locals) held after queued room)
run_queues s (If' test p one q other) locals held left queued room =
    let most = max (events_of one) (events_of other) in
    either_queues (is_true (value_now test s locals held)) (length queued) most (run one s locals held left queued) (run other s locals held left queued)
    (weaker (length queued) (events_of one) most (run one s locals held left queued) (omega arith) (run_queues s one locals held left queued (omega (arith, room))))
    (weaker (length queued) (events_of other) most (run other s locals held left queued) (omega arith) (run_queues s other locals held left queued (omega (arith, room))))
run_queues s (For' most from to p body) locals held left queued room =
    let first = number_now from s locals held in
    let count = count_between most first (number_now to s locals held) in
    let less : count * events_of body ≤ most * events_of body = fewer_rounds count most (events_of body) (count_most most first (number_now to s locals held)) in
    weaker (length queued) (count * events_of body) (most * events_of body) (rounds (λ i. run body s (whole i ∷ locals)) count first held left queued) less
    (rounds_queue (λ i. run body s (whole i ∷ locals)) (events_of body) count first (λ i. run_queues s body (whole i ∷ locals)) held left queued (omega (arith, room, less)))
run_queues s (ChangeList list seat edit) locals held left queued room = omega arith
run_queues s (Shuffle list seat most) locals held left queued room =
    let number = number_now seat s locals held in
    shuffled_queues (swapped_at s (place_of list number)) (shuffled_count list number most s held - 1) held left queued
run_queues s (Begin slot value) locals held left queued room = omega arith
run_queues s (Queue wish) locals held left queued room = queued_queues (wished wish s held.table held.work locals) held left queued room

-- ---- words

lighter : (before one other : ℕ) (meaning : Deed WorkTable Lack) → one ≤ other → DrawsAtMost before one meaning → DrawsAtMost before other meaning
lighter before one other (Done held left queued) less is = omega (arith, less, is)
lighter before one other (GaveUp Spent) less is = omega (arith, less, is)
lighter before one other (GaveUp Crowded) less is = tt

-- a step draws at most so many words
abbrev Draws : ℕ → Step → Type 0
Draws most step = (held : WorkTable) (left : List ℕ) (queued : List Event) → DrawsAtMost (length left) most (step held left queued)

after_drawn : (before one other : ℕ) (left : List ℕ) (meaning : Deed WorkTable Lack) → before ≤ length left + one → DrawsAtMost (length left) other meaning → DrawsAtMost before (one + other) meaning
after_drawn before one other left (Done held less queued) few is = omega (arith, few, is)
after_drawn before one other left (GaveUp Spent) few is = omega (arith, few, is)
after_drawn before one other left (GaveUp Crowded) few is = tt

then_draws : (before one other : ℕ) (meaning : Deed WorkTable Lack) (go : Step) → DrawsAtMost before one meaning → Draws other go → DrawsAtMost before (one + other) (then_do meaning go)
then_draws before one other (Done held left queued) go is more = after_drawn before one other left (go held left queued) is (more held left queued)
then_draws before one other (GaveUp Spent) go is more = omega (arith, is)
then_draws before one other (GaveUp Crowded) go is more = tt

rounds_draw : (body : Option ℤ → Step) (m n : ℕ) (i : Option ℤ) → ((i : Option ℤ) → Draws m (body i)) → Draws (n * m) (rounds body n i)
rounds_draw body m zero i each held left queued = omega arith
rounds_draw body m (suc n) i each held left queued =
    subst (λ k. DrawsAtMost (length left) k (then_do (body i held left queued) (rounds body n (next i)))) (sym (round_more n m))
    (then_draws (length left) m (n * m) (body i held left queued) (rounds body n (next i)) (each i held left queued) (rounds_draw body m n (next i) each))

either_draws : (test : Bool) (before most : ℕ) (one other : Deed WorkTable Lack) → DrawsAtMost before most one → DrawsAtMost before most other → DrawsAtMost before most (if test then one else other)
either_draws true before most one other p q = p
either_draws false before most one other p q = q

queued_draws : (event : Option Event) → Draws 0 (queued_one event)
queued_draws None held left queued = omega arith
queued_draws (Some event) held left queued = either_draws (length queued == 16) (length left) 0 (GaveUp Crowded) (Done held left (queued ++ event ∷ [])) tt (omega arith)

rolled_draws : (most : ℕ) (faces : Option ℤ) (left : List ℕ) (go : Option ℤ → List ℕ → Deed WorkTable Lack) → ((face : Option ℤ) (after : List ℕ) → DrawsAtMost (length after) most (go face after)) → DrawsAtMost (length left) (1 + most) (rolled faces left go)
rolled_draws most None left go each = lighter (length left) most (1 + most) (go None left) (omega arith) (each None left)
rolled_draws most (Some (negsuc n)) left go each = lighter (length left) most (1 + most) (go None left) (omega arith) (each None left)
rolled_draws most (Some (pos zero)) left go each = lighter (length left) most (1 + most) (go None left) (omega arith) (each None left)
rolled_draws most (Some (pos (suc n))) [] go each = omega arith
rolled_draws most (Some (pos (suc n))) (word ∷ left) go each =
    after_drawn (suc (length left)) 1 most left (go (Some (pos (die (suc n) word))) left) (omega arith) (each (Some (pos (die (suc n) word))) left)

shuffled_draws : (swap : ℕ → ℕ → WorkTable → WorkTable) (i : ℕ) → Draws i (shuffled_down swap i)
shuffled_draws swap zero held left queued = omega arith
shuffled_draws swap (suc i) held [] queued = omega arith
shuffled_draws swap (suc i) held (word ∷ left) queued =
    let after = swap (suc i) (die (suc i + 1) word - 1) held in
    subst (λ k. DrawsAtMost (suc (length left)) k (shuffled_down swap i after left queued)) (omega arith)
    (after_drawn (suc (length left)) 1 i left (shuffled_down swap i after left queued) (omega arith) (shuffled_draws swap i after left queued))

pub run_draws : (s : Setting) (e : Statement) (locals : Values) → Draws (words_of e) (run e s locals)
run_draws s Nothing locals held left queued = omega arith
run_draws s (Then' p first q second) locals held left queued =
    then_draws (length left) (words_of first) (words_of second) (run first s locals held left queued) (run second s locals) (run_draws s first locals held left queued) (run_draws s second locals)
run_draws s (Let' value p body) locals held left queued = run_draws s body (value_now value s locals held ∷ locals) held left queued
run_draws s (Roll' faces p body) locals held left queued =
    rolled_draws (words_of body) (number_now faces s locals held) left (λ face after. run body s (whole face ∷ locals) held after queued) (λ face after. run_draws s body (whole face ∷ locals) held after queued)
run_draws s (If' test p one q other) locals held left queued =
    let most = max (words_of one) (words_of other) in
    either_draws (is_true (value_now test s locals held)) (length left) most (run one s locals held left queued) (run other s locals held left queued)
    (lighter (length left) (words_of one) most (run one s locals held left queued) (omega arith) (run_draws s one locals held left queued))
    (lighter (length left) (words_of other) most (run other s locals held left queued) (omega arith) (run_draws s other locals held left queued))
run_draws s (For' most from to p body) locals held left queued =
    let first = number_now from s locals held in
    let count = count_between most first (number_now to s locals held) in
    lighter (length left) (count * words_of body) (most * words_of body) (rounds (λ i. run body s (whole i ∷ locals)) count first held left queued)
    (fewer_rounds count most (words_of body) (count_most most first (number_now to s locals held)))
    (rounds_draw (λ i. run body s (whole i ∷ locals)) (words_of body) count first (λ i. run_draws s body (whole i ∷ locals)) held left queued)
run_draws s (ChangeList list seat edit) locals held left queued = omega arith
run_draws s (Shuffle list seat most) locals held left queued =
    let number = number_now seat s locals held in
    let count = shuffled_count list number most s held in
    let few : count ≤ most = count_most most (Some (pos 0)) (list_length (list_items list number s held.table held.work)) in
    lighter (length left) (count - 1) (most - 1) (shuffled_down (swapped_at s (place_of list number)) (count - 1) held left queued) (omega (arith, few))
    (shuffled_draws (swapped_at s (place_of list number)) (count - 1) held left queued)
run_draws s (Begin slot value) locals held left queued = omega arith
run_draws s (Queue wish) locals held left queued = queued_draws (wished wish s held.table held.work locals) held left queued

-- ---- pieces of code

table_queues : (before most : ℕ) (meaning : Deed WorkTable Lack) → QueuesAtMost before most meaning → QueuesAtMost before most (table_left meaning)
table_queues before most (Done held left queued) is = is
table_queues before most (GaveUp Spent) is = tt
table_queues before most (GaveUp Crowded) is = is

table_draws : (before most : ℕ) (meaning : Deed WorkTable Lack) → DrawsAtMost before most meaning → DrawsAtMost before most (table_left meaning)
table_draws before most (Done held left queued) is = is
table_draws before most (GaveUp Spent) is = is
table_draws before most (GaveUp Crowded) is = tt

-- a piece of code queues at most as many events as are counted, and isn't crowded where those are sixteen or fewer
pub performed_queues : (piece : Piece) (s : Setting) (table : Table) (words : List ℕ) → events_of piece.code ≤ 16 → QueuesAtMost 0 (events_of piece.code) (performed piece s table words)
performed_queues piece s table words few =
    let held : WorkTable = record { table = table; work = replicate (length piece.work) [] } in
    table_queues 0 (events_of piece.code) (run piece.code (of_piece piece s) [] held words []) (run_queues (of_piece piece s) piece.code [] held words [] (omega (arith, few)))

-- a piece of code draws at most as many words as are counted
pub performed_draws : (piece : Piece) (s : Setting) (table : Table) (words : List ℕ) → DrawsAtMost (length words) (words_of piece.code) (performed piece s table words)
performed_draws piece s table words =
    let held : WorkTable = record { table = table; work = replicate (length piece.work) [] } in
    table_draws (length words) (words_of piece.code) (run piece.code (of_piece piece s) [] held words []) (run_draws (of_piece piece s) piece.code [] held words [])
