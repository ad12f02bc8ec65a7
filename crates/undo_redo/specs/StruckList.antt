-- The struck list: which acts are done and which are undone after a list of accepted calls, the latest call first.
-- An act goes to the end of done and empties undone, undo moves the last of done to the front of undone,
-- and redo moves the first of undone to the end of done.
use Rattle.std.specs.Prelude.{List, [], ◌∷◌}

pub data Call (A : Type 0) : Type 0 where
  advance : A → Call A
  undo : Call A
  redo : Call A

pub record Struck (A : Type 0) : Type 0 where
  -- the latest first
  pub done : List A
  -- the one that is done again next first
  pub undone : List A

abbrev pub undo_last : {A : Type 0} → List A → List A → Struck A
undo_last [] undone = record { done = []; undone = undone }
undo_last (act ∷ done) undone = record { done = done; undone = act ∷ undone }

abbrev pub redo_first : {A : Type 0} → List A → List A → Struck A
redo_first done [] = record { done = done; undone = [] }
redo_first done (act ∷ undone) = record { done = act ∷ done; undone = undone }

abbrev pub strike : {A : Type 0} → Call A → Struck A → Struck A
strike (advance act) s = record { done = act ∷ s.done; undone = [] }
strike undo s = undo_last s.done s.undone
strike redo s = redo_first s.done s.undone

abbrev pub struck : {A : Type 0} → List (Call A) → Struck A
struck [] = record { done = []; undone = [] }
struck (call ∷ calls) = strike call (struck calls)
