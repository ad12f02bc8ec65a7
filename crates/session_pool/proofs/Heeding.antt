-- A line that is heard with no seed ready leaves none; and a line for which there was no memory.
use Rattle.std.proofs.Common.{◌≡◌, ℕ, Bool, true, false, if◌then◌else◌, List, [], Option, None, Result, Ok, Err, inl, inr, refl, ap, sym, ◌∙◌, subst, arith}
use Rattle.any_game.specs.GameKind.{GameKind}
use Rattle.dice_words.specs.Strip.{Strip}
use Rattle.game_hall.specs.Core.{Core, is_again, starved}
use Rattle.game_hall.specs.Words.{next_action, seed_left_by}
use Rattle.room_history.specs.declared.call.RoomCall.{RoomCall}
use Rattle.wire_json.specs.ClientReading.{client_read}
use Rattle.wire_json.specs.Refusals.{Refusal as Fault}
use Rattle.wire_json.specs.declared.client.ClientMsg.{ClientMsg}
use Rattle.wire_json.specs.declared.client.ClientMsg.TheVariants as message
use Rattle.session_driver.specs.Calls.{Did}
use Rattle.session_driver.specs.Hearing.{Draws, Hears, HearsLine, Side, draws, side}
use Rattle.session_pool.specs.Passes.{CallsDesk}
use Rattle.session_pool.specs.declared.desks.Desks.{Desks}
use Rattle.session_driver.specs.declared.tally.Tally.{Tally}
use Rattle.session_pool.specs.Passes.{Pass}
use Rattle.session_pool.specs.Turn.{Calls, Heeds}

-- what a call over desks comes to, as the driver has it
abbrev pub over_desks : {B R : Type 0} → (RoomCall GameKind → Bool) → Desks B R → ℕ → Did → Desks B R → Type 0
over_desks may_refuse d pass made e = CallsDesk may_refuse d.passes.now made e.passes.now × (e.desks.now ≡ d.desks.now) × (e.passes.ghost_name ≡ d.passes.ghost_name)

none_left : (read : Result ClientMsg Fault) → seed_left_by read None ≡ None
none_left (Ok message.Games) = refl
none_left (Ok (message.Matches game)) = refl
none_left (Ok (message.Look name)) = refl
none_left (Ok (message.Create game seats)) = refl
none_left (Ok (message.Join name player seat)) = refl
none_left (Ok (message.Rename key name player seat)) = refl
none_left (Ok (message.Leave key name seat)) = refl
none_left (Ok (message.Sync name viewer protocol)) = refl
none_left (Ok (message.Act submission)) = refl
none_left (Ok (message.Takeover name seat)) = refl
none_left (Err fault) = refl

line_leaves : (line : List ℕ) (c : Core GameKind) (words : Strip) (core : Core GameKind) (left : Draws) → HearsLine line c (draws words None) core left → left.seed ≡ None
line_leaves line c words core left (inl e) = ap (λ (x : Draws). x.seed) e.1 ∙ none_left (client_read line)
line_leaves line c words core left (inr e) = ap (λ (x : Draws). x.seed) e.1

module _ (may_refuse : RoomCall GameKind → Bool) (line : List ℕ) (s t : Side (List Pass)) (words rest : Strip) (ready : Option (List ℕ)) (tally : Tally)
    (h : Hears (Calls may_refuse) line s (draws words None) t (draws rest ready) tally) where
  leaves_none : ready ≡ None
  leaves_none = ap (λ (x : Draws). x.seed) h.draws_after ∙ by (is_again t.core.said)
    where
      by : (b : Bool) → (if b then draws (next_action words) None else h.left).seed ≡ None
      by true = refl
      by false = line_leaves line s.core words h.core h.left h.line_heard

  pub heeds_heard : Heeds may_refuse line s words t rest
  heeds_heard = (tally, subst (λ o. Hears (Calls may_refuse) line s (draws words None) t (draws rest o) tally) leaves_none h)

-- no memory to bring the line together
pub heeds_starved : (may_refuse : RoomCall GameKind → Bool) (line : List ℕ) (passes : List Pass) (c d : Core GameKind) (words rest : Strip) → d ≡ starved c None → rest ≡ next_action words
    → Heeds may_refuse line (side passes c) words (side passes d) rest
heeds_starved may_refuse line passes c d words rest e f = (
  record { accepted = 0; refused = 0 },
  record {
    core = d;
    left = draws rest None;
    line_heard = inr (e, ap (λ w. draws w None) f);
    runs = record {
      n = 0;
      most = omega arith;
      makes = record { all = []; made = refl; many = refl; accepted = refl; refused = refl };
      done = ap (λ (k : Core GameKind). k.call) e;
      closed = ap (λ (k : Core GameKind). k.request) e;
    };
    draws_after = ap (λ w. draws w None) f ∙ sym (ap (λ (k : Core GameKind). if is_again k.said then draws (next_action words) None else draws rest None) e);
  },
)
