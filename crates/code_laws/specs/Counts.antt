-- How many events a statement queues at most, and how many random words it draws at most, counted by its form.
use Rattle.std.specs.Prelude.{◌≡◌, ◌+◌, ◌-◌, ◌*◌, ◌<◌, ◌≤◌, ◌&&◌, ℕ, zero, suc, max, Bool, true, nat_lt, List, length}
use Rattle.game_sheet.specs.declared.act.Event.{Event}
use Rattle.game_sheet.specs.declared.sheet.Sheet.{Sheet}
use Rattle.game_trait.specs.Deed.{Crowded, Deed, Done, GaveUp, Lack, Spent}
use Rattle.game_code.specs.declared.statement.Statement.{Statement}
use Rattle.game_code.specs.declared.statement.Statement.TheVariants.{Nothing, Then', Let', Roll', If', For', Change, Shuffle, Begin, Queue}
use Rattle.game_code.specs.declared.statement.Wish.{Wish}
use Rattle.game_code.specs.declared.statement.Wish.TheVariants.{EndTurn, EndTurnTo, EndPhase, SetPhase, EndStage, SetStage, SetActive, Win, Draw, End}

-- a block has the sum, an `if` the greater of its blocks, a `for` its rounds times its block
abbrev pub events_of : Statement → ℕ
events_of (Then' p first q second) = events_of first + events_of second
events_of (Let' value p body) = events_of body
events_of (Roll' faces p body) = events_of body
events_of (If' test p one q other) = max (events_of one) (events_of other)
events_of (For' most from to p body) = most * events_of body
events_of (Queue wish) = 1
events_of other = 0

-- a die is a word, and a shuffle one less than its items
abbrev pub words_of : Statement → ℕ
words_of (Then' p first q second) = words_of first + words_of second
words_of (Let' value p body) = words_of body
words_of (Roll' faces p body) = 1 + words_of body
words_of (If' test p one q other) = max (words_of one) (words_of other)
words_of (For' most from to p body) = most * words_of body
words_of (Shuffle list seat most) = most - 1
words_of other = 0

-- from so many events, at most so many more are queued, and it isn't crowded
abbrev pub QueuesAtMost : {A : Type 0} → ℕ → ℕ → Deed A Lack → Type 0
QueuesAtMost before more (Done held left queued) = length queued ≤ before + more
QueuesAtMost before more (GaveUp Spent) = Unit {0}
QueuesAtMost before more (GaveUp Crowded) = ⊥

-- of so many words, at most so many are drawn; it is spent only where there are fewer
abbrev pub DrawsAtMost : {A : Type 0} → ℕ → ℕ → Deed A Lack → Type 0
DrawsAtMost before most (Done held left queued) = before ≤ length left + most
DrawsAtMost before most (GaveUp Spent) = before < most
DrawsAtMost before most (GaveUp Crowded) = Unit {0}

-- whether what is asked for is a row of the sheet
abbrev pub wish_in_sheet : Sheet → Wish → Bool
wish_in_sheet sheet (SetPhase to) = nat_lt to (length sheet.phases)
wish_in_sheet sheet (SetStage to) = nat_lt to (length sheet.stages)
wish_in_sheet sheet (SetActive spec) = nat_lt spec (length sheet.specs)
wish_in_sheet sheet other = true

-- whether a statement names rows of the sheet alone
abbrev pub code_in_sheet : Sheet → Statement → Bool
code_in_sheet sheet (Then' p first q second) = code_in_sheet sheet first && code_in_sheet sheet second
code_in_sheet sheet (Let' value p body) = code_in_sheet sheet body
code_in_sheet sheet (Roll' faces p body) = code_in_sheet sheet body
code_in_sheet sheet (If' test p one q other) = code_in_sheet sheet one && code_in_sheet sheet other
code_in_sheet sheet (For' most from to p body) = code_in_sheet sheet body
code_in_sheet sheet (Queue wish) = wish_in_sheet sheet wish
code_in_sheet sheet other = true
