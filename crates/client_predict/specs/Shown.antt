-- What a client shows: the settled snapshot, taken on by the waiting actions in their order, each to what is guessed of it where its number
-- is the one reached or its move is taken on any number. Another action changes nothing.
use Rattle.std.specs.Prelude.{ℕ, ◌==◌, List, Bool, ◌||◌, fold, if◌then◌else◌, Option, unwrap_or}
use Rattle.game_sheet.specs.declared.sheet.Sheet.{Sheet}
use Rattle.game_trait.specs.Rules.{Rules}
use Rattle.player_sight.specs.declared.shown.Snapshot.{Snapshot}
use Rattle.wire_json.specs.Resolve.{act_of, ignores_number}
use Rattle.client_predict.specs.Prediction.{predict}
use Rattle.client_predict.specs.declared.waiting.Waiting.{Waiting}

abbrev pub counts_on : {G : Type 0} → Sheet → Snapshot G → Waiting → Bool
counts_on sheet s w = (w.number == s.number) || ignores_number sheet (act_of sheet w.asked)

abbrev pub shown : {G : Type 0} → Rules G → Option ℕ → Snapshot G → List Waiting → Snapshot G
shown rules seat settled waiting = fold (λ s w. if counts_on rules.sheet s w then unwrap_or (predict rules s seat w.asked) s else s) settled waiting
