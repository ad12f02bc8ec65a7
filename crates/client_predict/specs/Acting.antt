-- What a client makes of an action: why it makes none, or the line that it sends, whether the action is guessed, and that it waits.
use Rattle.std.specs.Prelude.{◌≡◌, ℕ, ◌+◌, ◌==◌, List, [], ◌∷◌, ◌++◌, Bool, length, replicate, if◌then◌else◌, Option, Some, None}
use Rattle.game_trait.specs.Rules.{Rules}
use Rattle.wire_json.specs.ClientText.{client_text}
use Rattle.wire_json.specs.declared.asked.Asked.{Asked}
use Rattle.wire_json.specs.declared.client.ClientMsg.TheVariants.{Act}
use Rattle.wire_json.specs.declared.submission.Submission.{Submission}
use Rattle.client_predict.specs.Client.{Held, Playing, shown_of}
use Rattle.client_predict.specs.Prediction.{predict}
use Rattle.client_predict.specs.declared.told.ActNo.{ActNo}
use Rattle.client_predict.specs.declared.told.ActNo.TheVariants as no
use Rattle.client_predict.specs.declared.told.Predicted.{Predicted}
use Rattle.client_predict.specs.declared.told.Predicted.TheVariants.{Guessed, Sent}
use Rattle.std.specs.Option.{option_map_or}

-- at most so many actions wait
abbrev pub most_waiting : ℕ
most_waiting = 32

-- why the client makes no action, but for want of memory
abbrev pub act_no : {G : Type 0} → Bool → Option (Playing G) → Option ActNo
act_no gone None = Some no.NotSynced
act_no gone (Some p) = if gone then Some no.Gone else if length p.waiting == most_waiting then Some no.TooManyWaiting else None

-- the key of the line: the client's own, where it has one and the last sync gave a seat
abbrev pub line_key : Option (List ℕ) → Option ℕ → List ℕ
line_key (Some key) (Some seat) = key
line_key key seat = replicate 16 0

abbrev pub next_ticket : ℕ → ℕ
next_ticket ticket = if ticket == 4294967295 then 1 else ticket + 1

abbrev pub predicted : {S : Type 0} → Option S → Predicted
predicted guess = option_map_or (λ s. Guessed) guess Sent

abbrev pub submitted : {G : Type 0} → Rules G → Option (List ℕ) → Playing G → Asked → Submission
submitted rules key p asked = record { name = p.name; key = line_key key p.seat; number = (shown_of rules p).number; ticket = p.ticket; asked = asked }

abbrev pub act_told : {G : Type 0} → Rules G → Playing G → Asked → Predicted
act_told rules p asked = predicted (predict rules (shown_of rules p) p.seat asked)

-- the action waits for its verdict
abbrev pub with_act : {G : Type 0} → Rules G → Playing G → Asked → Playing G
with_act rules p asked = record p {
  waiting = p.waiting ++ record { ticket = p.ticket; number = (shown_of rules p).number; asked = asked } ∷ [];
  ticket = next_ticket p.ticket;
}

-- the client made an action: it sent this line, was told this, and has then come to this
pub record IsActed {X G : Type 0} (rules : Rules G) (old : Held X G) (asked : Asked) (line : List ℕ) (told : Predicted) (new : Held X G) : Type 0 where
  pub p : Playing G
  pub playing : old.client.playing ≡ Some p
  pub may : act_no old.client.gone (Some p) ≡ None
  pub sent : line ≡ client_text (Act (submitted rules old.key p asked))
  pub guessed : told ≡ act_told rules p asked
  pub waits : new ≡ record { game = old.game; key = old.key; client = record { gone = old.client.gone; playing = Some (with_act rules p asked) } }
