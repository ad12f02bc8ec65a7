-- The answers of moves and hooks, from those of the code that they run.
use Rattle.std.proofs.Common.{◌≡◌, ℕ, ◌≤◌, ◌+◌, List, [], ◌∷◌, length, refl, ap, ◌∙◌, subst, arith}
use Rattle.std.specs.Prelude.{◌==◌, true, Result, Ok, Err, replicate}
use Rattle.std.proofs.lemmas.Bool.{eqb-true}
use Rattle.code_laws.proofs.CountLaws.{performed_queues}
use Rattle.code_laws.specs.Counts.{QueuesAtMost, events_of}
use Rattle.described_game.specs.Moves.{barred, halted}
use Rattle.game_code.specs.Runs.{Performs, performed, run, of_piece, table_left}
use Rattle.game_code.specs.Setting.{Setting}
use Rattle.game_code.specs.declared.statement.Piece.{Piece}
use Rattle.game_code.specs.declared.statement.Statement.{Statement}
use Rattle.game_code.specs.declared.statement.Statement.TheVariants.{Nothing}
use Rattle.game_sheet.specs.declared.act.Event.{Event}
use Rattle.game_slots.specs.declared.table.Table.{Table}
use Rattle.game_slots.specs.declared.work_table.WorkTable.{WorkTable}
use Rattle.game_trait.specs.Deed.{Crowded, Deed, Done, GaveUp, Lack}
use Rattle.game_trait.specs.Gives.{Gives, Hooks, Opens}
use Rattle.game_trait.specs.declared.halt.HookHalt.{HookHalt}
use Rattle.game_trait.specs.declared.halt.HookHalt.TheVariants.{Spent as HookSpent, Crowded as HookCrowded, NoMemory as HookNoMemory}

-- a move whose code is done
pub move_done : (table : Table) (before left : List ℕ) (queued : List Event) (meaning : Deed Table Lack) → Performs (Ok table) left queued meaning → Gives (Ok table) before left queued (barred meaning)
move_done table before left queued meaning is = ap barred is

-- a move whose code gives up
pub move_stops : (why : HookHalt) (before left : List ℕ) (queued : List Event) (meaning : Deed Table Lack) → Performs (Err why) left queued meaning → Gives (Err (halted why)) before left queued (barred meaning)
move_stops HookSpent before left queued meaning is = (ap barred is.0, is.1)
move_stops HookCrowded before left queued meaning is = (ap barred is.0, is.1)
move_stops HookNoMemory before left queued meaning is = tt

-- a hook whose code gives up
pub hook_stops : (why : HookHalt) (g : Table) (left : List ℕ) (queued : List Event) (meaning : Deed Table Lack) → Performs (Err why) left queued meaning → Hooks (Err why) g left queued meaning
hook_stops HookSpent g left queued meaning is = is
hook_stops HookCrowded g left queued meaning is = is
hook_stops HookNoMemory g left queued meaning is = tt

-- a hook without code
pub nothing_done : (piece : Piece) (s : Setting) (g : Table) (words : List ℕ) → piece.code ≡ Nothing → performed piece s g words ≡ Done g words []
nothing_done piece s g words is =
    let held : WorkTable = record { table = g; work = replicate (length piece.work) [] } in
    ap (λ (code : Statement). table_left (run code (of_piece piece s) [] held words [])) is

no_events : (queued : List Event) → length queued ≤ 0 → queued ≡ []
no_events [] few = refl
no_events (event ∷ queued) few = absurd (omega (arith, few))

crowded_never : (meaning : Deed Table Lack) → meaning ≡ GaveUp Crowded → QueuesAtMost 0 0 meaning → ⊥
crowded_never meaning is quiet = let P : Deed Table Lack → Type 0 = λ m. QueuesAtMost 0 0 m in subst P is quiet

-- the first state, by code that queues no event
pub opens : (result : Result Table HookHalt) (left : List ℕ) (queued : List Event) (meaning : Deed Table Lack) → QueuesAtMost 0 0 meaning → Performs result left queued meaning → Opens result left meaning
opens (Ok table) left queued meaning quiet is =
    let P : Deed Table Lack → Type 0 = λ m. QueuesAtMost 0 0 m in
    let few : length queued ≤ 0 + 0 = subst P is quiet in
    is ∙ ap (λ (events : List Event). Done table left events) (no_events queued (omega (arith, few)))
opens (Err HookSpent) left queued meaning quiet is = is
opens (Err HookCrowded) left queued meaning quiet is = crowded_never meaning is.0 quiet
opens (Err HookNoMemory) left queued meaning quiet is = tt

-- code that is counted to queue none queues none
pub queues_none : (piece : Piece) (s : Setting) (table : Table) (words : List ℕ) → (events_of piece.code == 0) ≡ true → QueuesAtMost 0 0 (performed piece s table words)
queues_none piece s table words is =
    let none : events_of piece.code ≡ 0 = eqb-true (events_of piece.code) 0 is in
    subst (λ n. QueuesAtMost 0 n (performed piece s table words)) none (performed_queues piece s table words (omega (arith, none)))
