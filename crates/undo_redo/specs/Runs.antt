-- A trail after any list of calls, each with its answer, and what then holds of it.
use Rattle.std.specs.Prelude.{◌≡◌, Bool, true, false, List, [], ◌∷◌, Option, Some, Result, Ok, Err}
use Rattle.game_sheet.specs.declared.memory.NoMemory.{NoMemory}
use Rattle.undo_redo.specs.Fold.{fold}
use Rattle.undo_redo.specs.Kept.{Kept, new_trail}
use Rattle.undo_redo.specs.Moves.{Advanced, Undone, Redone}
use Rattle.undo_redo.specs.StruckList.{Call, advance, undo, redo, Struck, struck}

-- a call and what it was answered
pub record Made (A : Type 0) : Type 0 where
  pub call : Call A
  pub answer : Result Bool NoMemory

-- what the call with this answer does to a trail
abbrev pub Answered : {S A : Type 0} → (S → A → Option S) → Call A → Result Bool NoMemory → Kept S A → Kept S A → Type 0
Answered step (advance act) answer before after = Advanced step act answer before after
Answered step undo answer before after = Undone step answer before after
Answered step redo answer before after = Redone step answer before after

-- the trail after calls on a trail that was new with the first state, the latest call first
abbrev pub Runs : {S A : Type 0} → (S → A → Option S) → S → List (Made A) → Kept S A → Type 0
Runs step first [] t = t ≡ new_trail first
Runs {S} {A} step first (made ∷ calls) t = (before : Kept S A) × Runs step first calls before × Answered step made.call made.answer before t

abbrev pub with_accepted : {A : Type 0} → Result Bool NoMemory → Call A → List (Call A) → List (Call A)
with_accepted (Ok true) call calls = call ∷ calls
with_accepted (Ok false) call calls = calls
with_accepted (Err why) call calls = calls

-- the calls that were answered yes
abbrev pub accepted : {A : Type 0} → List (Made A) → List (Call A)
accepted [] = []
accepted (made ∷ calls) = with_accepted made.answer made.call (accepted calls)

-- the trail keeps the struck list of its accepted calls, and its present state is the fold over what that list has done
pub record Keeps {S A : Type 0} (step : S → A → Option S) (opening : S) (s : Struck A) (t : Kept S A) : Type 0 where
  pub first : t.first ≡ opening
  pub done : t.done ≡ s.done
  pub undone : t.undone ≡ s.undone
  pub now : fold step opening s.done ≡ Some t.now

-- so it is after any list of calls
abbrev pub KeepsStruckList : {S A : Type 0} → (S → A → Option S) → Type 0
KeepsStruckList {S} {A} step = (first : S) (calls : List (Made A)) (t : Kept S A) → Runs step first calls t → Keeps step first (struck (accepted calls)) t
