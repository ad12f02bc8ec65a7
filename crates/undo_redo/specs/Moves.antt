-- What each call does to a trail, by its answer. A call that answers no or has no memory leaves the trail.
use Rattle.std.specs.Prelude.{◌≡◌, Bool, true, false, [], ◌∷◌, Option, Some, None, Result, Ok, Err}
use Rattle.game_sheet.specs.declared.memory.NoMemory.{NoMemory}
use Rattle.undo_redo.specs.Fold.{fold}
use Rattle.undo_redo.specs.Kept.{Kept}

-- an act is done: it goes to the end of done and empties undone
pub record Does {S A : Type 0} (step : S → A → Option S) (act : A) (before after : Kept S A) : Type 0 where
  pub first : after.first ≡ before.first
  pub done : after.done ≡ act ∷ before.done
  pub undone : after.undone ≡ []
  pub now : step before.now act ≡ Some after.now

-- the last of done moves to the front of undone, and the state is again the fold over done
pub record Undoes {S A : Type 0} (step : S → A → Option S) (act : A) (before after : Kept S A) : Type 0 where
  pub first : after.first ≡ before.first
  pub done : before.done ≡ act ∷ after.done
  pub undone : after.undone ≡ act ∷ before.undone
  pub now : fold step after.first after.done ≡ Some after.now

-- the first of undone moves to the end of done
pub record Redoes {S A : Type 0} (step : S → A → Option S) (act : A) (before after : Kept S A) : Type 0 where
  pub first : after.first ≡ before.first
  pub undone : before.undone ≡ act ∷ after.undone
  pub done : after.done ≡ act ∷ before.done
  pub now : step before.now act ≡ Some after.now

abbrev pub Advanced : {S A : Type 0} → (S → A → Option S) → A → Result Bool NoMemory → Kept S A → Kept S A → Type 0
Advanced step act (Ok true) before after = Does step act before after
Advanced step act (Ok false) before after = (step before.now act ≡ None) × (after ≡ before)
Advanced step act (Err why) before after = after ≡ before

abbrev pub Undone : {S A : Type 0} → (S → A → Option S) → Result Bool NoMemory → Kept S A → Kept S A → Type 0
Undone {S} {A} step (Ok true) before after = (act : A) × Undoes step act before after
Undone step (Ok false) before after = (before.done ≡ []) × (after ≡ before)
Undone step (Err why) before after = after ≡ before

abbrev pub Redone : {S A : Type 0} → (S → A → Option S) → Result Bool NoMemory → Kept S A → Kept S A → Type 0
Redone {S} {A} step (Ok true) before after = (act : A) × Redoes step act before after
Redone step (Ok false) before after = (before.undone ≡ []) × (after ≡ before)
Redone step (Err why) before after = after ≡ before
