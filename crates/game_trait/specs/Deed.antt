-- What game code does: from the words that the action has left it makes a value, leaves words and queues events, or it gives up.
use Rattle.std.specs.Prelude.{ℕ, List, [], ◌∷◌}
use Rattle.game_sheet.specs.declared.act.Event.{Event}

-- what a hook gives up for: a word past the last of the action, or an event past the sixteenth of the call
pub data Lack : Type 0 where
  Spent : Lack
  Crowded : Lack

-- why a move isn't made: the game doesn't allow it, or it gives up as a hook does
pub data Barred : Type 0 where
  Invalid : Barred
  Lacks : Lack → Barred

pub data Deed (A E : Type 0) : Type 0 where
  -- the value, the words left after it, and the events queued
  Done : A → List ℕ → List Event → Deed A E
  GaveUp : E → Deed A E

-- a word is drawn, and the rest goes on with it and the words after it
abbrev pub drawing : {A E : Type 0} → E → List ℕ → (ℕ → List ℕ → Deed A E) → Deed A E
drawing none_left [] go = GaveUp none_left
drawing none_left (word ∷ words) go = go word words
