-- A trail is a machine's where its states and its acts fit the machine, the present state is the machine's fold over the acts done, the
-- acts undone can be done again from there, and each state that it keeps besides is the one that the acts done led on from or that the
-- acts undone lead to.
use Rattle.std.specs.Prelude.{◌≡◌, All, Option, Some}
use Rattle.undo_redo.specs.Fold.{fold, CameBy, GoesOn, LeadsTo}
use Rattle.undo_redo.specs.Kept.{Kept}

pub record IsTrail {S A : Type 0} (step : S → A → Option S) (state_fits : S → Type 0) (act_fits : A → Type 0) (t : Kept S A) : Type 0 where
  pub first_fits : state_fits t.first
  pub now_fits : state_fits t.now
  pub done_fit : All act_fits t.done
  pub undone_fit : All act_fits t.undone
  pub stands : fold step t.first t.done ≡ Some t.now
  pub goes_on : GoesOn step t.now t.undone
  pub past_fit : All state_fits t.past
  pub ahead_fit : All state_fits t.ahead
  pub came_by : CameBy step t.first t.done t.past
  pub leads_to : LeadsTo step t.now t.undone t.ahead
