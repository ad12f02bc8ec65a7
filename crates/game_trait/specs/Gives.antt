-- How the answer of game code is tied to what it means: want of memory is free, and all else is exact, with the words left and the events queued.
-- A move that isn't allowed draws no word. Game code is spent only where the tape has no word left, and crowded only where sixteen events are queued.
use Rattle.std.specs.Prelude.{◌≡◌, ℕ, List, [], length, Option, Some, None, Result, Ok, Err}
use Rattle.game_sheet.specs.declared.act.Event.{Event}
use Rattle.game_trait.specs.Deed.{Barred, Crowded, Deed, Done, GaveUp, Invalid, Lack, Lacks, Spent}
use Rattle.game_trait.specs.declared.halt.Halt.{Halt}
use Rattle.game_trait.specs.declared.halt.Halt.TheVariants.{Invalid as IsInvalid, Spent as IsSpent, Crowded as IsCrowded, NoMemory}
use Rattle.game_trait.specs.declared.halt.HookHalt.{HookHalt}
use Rattle.game_trait.specs.declared.halt.HookHalt.TheVariants.{Spent as HookSpent, Crowded as HookCrowded, NoMemory as HookNoMemory}

-- a move, by the words before it, the words left after it and the events queued
abbrev pub Gives : {G : Type 0} → Result G Halt → List ℕ → List ℕ → List Event → Deed G Barred → Type 0
Gives (Ok g) before left queued meaning = meaning ≡ Done g left queued
Gives (Err IsInvalid) before left queued meaning = (meaning ≡ GaveUp Invalid) × (left ≡ before)
Gives (Err IsSpent) before left queued meaning = (meaning ≡ GaveUp (Lacks Spent)) × (left ≡ [])
Gives (Err IsCrowded) before left queued meaning = (meaning ≡ GaveUp (Lacks Crowded)) × (length queued ≡ 16)
Gives (Err NoMemory) before left queued meaning = Unit {0}

-- a hook on a state g, which stays where the hook gives none
abbrev pub Hooks : {G : Type 0} → Result (Option G) HookHalt → G → List ℕ → List Event → Deed G Lack → Type 0
Hooks (Ok (Some h)) g left queued meaning = meaning ≡ Done h left queued
Hooks (Ok None) g left queued meaning = meaning ≡ Done g left queued
Hooks (Err HookSpent) g left queued meaning = (meaning ≡ GaveUp Spent) × (left ≡ [])
Hooks (Err HookCrowded) g left queued meaning = (meaning ≡ GaveUp Crowded) × (length queued ≡ 16)
Hooks (Err HookNoMemory) g left queued meaning = Unit {0}

-- the first state, with which no event is queued: there is no queue that could be crowded
abbrev pub Opens : {G : Type 0} → Result G HookHalt → List ℕ → Deed G Lack → Type 0
Opens (Ok g) left meaning = meaning ≡ Done g left []
Opens (Err HookSpent) left meaning = (meaning ≡ GaveUp Spent) × (left ≡ [])
Opens (Err HookCrowded) left meaning = ⊥
Opens (Err HookNoMemory) left meaning = Unit {0}
