-- Names of parts of what a client reads, makes and shows, for the proofs.
use Rattle.std.specs.Prelude.{None, ℕ, ◌+◌, if◌then◌else◌, Option, Some, unwrap_or}
use Rattle.std.specs.Option.{option_map_or}
use Rattle.game_trait.specs.Rules.{Rules}
use Rattle.player_sight.specs.declared.shown.Snapshot.{Snapshot}
use Rattle.wire_json.specs.declared.asked.Asked.{Asked}
use Rattle.client_predict.specs.Client.{Client, Playing, shown_of}
use Rattle.client_predict.specs.Prediction.{predict}
use Rattle.client_predict.specs.Reading.{Heard, only_told, verdict}
use Rattle.client_predict.specs.Shown.{counts_on}
use Rattle.client_predict.specs.declared.told.Told.TheVariants.{Again}
use Rattle.client_predict.specs.declared.waiting.Waiting.{Waiting}

abbrev pub one_further : {G : Type 0} → Snapshot G → G → Snapshot G
one_further s g = record { number = s.number + 1; ctx = s.ctx; g = g; log = s.log }

-- one waiting action more
abbrev pub taken_on : {G : Type 0} → Rules G → Option ℕ → Snapshot G → Waiting → Snapshot G
taken_on rules seat s w = if counts_on rules.sheet s w then unwrap_or (predict rules s seat w.asked) s else s

abbrev pub waits_for : {G : Type 0} → Rules G → Playing G → Asked → Waiting
waits_for rules p asked = record { ticket = p.ticket; number = (shown_of rules p).number; asked = asked }

abbrev pub again : {G : Type 0} → Client G → Option ℕ → Heard G
again c ticket = option_map_or (λ ticket. verdict c c.playing ticket (Again (Some ticket))) ticket (only_told c (Again None))
