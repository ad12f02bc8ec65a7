-- The verdict on an action: the first public rule that it breaks, else what the game answers, else that it is accepted.
use Rattle.std.specs.Prelude.{◌==◌, ℕ, ◌∷◌, Bool, ◌&&◌, Option, option_map, option_and_then}
use Rattle.game_sheet.specs.MatchName.{Name}
use Rattle.game_sheet.specs.declared.act.Act.{Act}
use Rattle.game_sheet.specs.declared.refusal.GameRule.{GameRule}
use Rattle.game_sheet.specs.declared.refusal.GameRule.TheVariants as rule
use Rattle.game_trait.specs.Rules.{Rules}
use Rattle.reducer.specs.Fold.{answer}
use Rattle.wire_json.specs.Resolve.{act_of}
use Rattle.wire_json.specs.declared.reason.Reason.{Reason}
use Rattle.wire_json.specs.declared.reason.Reason.TheVariants.{NothingToUndo, NothingToRedo, NotYours, NotUndoable, InvalidMove, TooEarly, TooManyWords, TooManyEvents}
use Rattle.wire_json.specs.declared.submission.Submission.{Submission}
use Rattle.room_history.specs.Match.{Match, table_of, number_of}
use Rattle.room_history.specs.Rule.{public, has_key}
use Rattle.game_sheet.specs.Viewer.{Viewer, seat_of}
use Rattle.std.specs.Option.{option_or, option_map_or}

abbrev pub reason_of : GameRule → Reason
reason_of rule.NothingToUndo = NothingToUndo
reason_of rule.NothingToRedo = NothingToRedo
reason_of rule.NotYours = NotYours
reason_of rule.NotUndoable = NotUndoable
reason_of rule.InvalidMove = InvalidMove
reason_of rule.TooEarly = TooEarly
reason_of rule.TooManyWords = TooManyWords
reason_of rule.TooManyEvents = TooManyEvents

-- whether the line names the match of this room with this serial
abbrev pub is_named : ℕ → ℕ → Name → Bool
is_named room serial name = (name.room == room) && (name.serial == serial)

module _ {X G : Type 0} (rules : X → Rules G) where
  -- the public rule that a viewer's submission breaks; the key is to be that of the viewer's seat
  abbrev pub public_reason : ℕ → Match X G → Viewer → Submission → Option Reason
  public_reason room m viewer s =
      public (rules m.game).sheet (table_of rules m).ctx (number_of m) (is_named room m.serial s.name) (seat_of viewer) (has_key viewer s.key) s.asked s.number

  abbrev pub game_rule : Match X G → Option ℕ → Option Act → Option GameRule
  game_rule m viewer act = option_and_then (λ seat. option_and_then (λ act. answer (rules m.game) m.first m.accepted seat act) act) viewer

  -- the game's own refusal
  abbrev pub game_reason : Match X G → Viewer → Submission → Option Reason
  game_reason m viewer s = option_map reason_of (game_rule m (seat_of viewer) (act_of (rules m.game).sheet s.asked))

  -- the first rule that a submission breaks
  abbrev pub first_reason : ℕ → Match X G → Viewer → Submission → Option Reason
  first_reason room m viewer s = option_or (public_reason room m viewer s) (game_reason m viewer s)

  abbrev pub with_act : Match X G → Option ℕ → Option Act → Match X G
  with_act m viewer act = option_map_or (λ seat. option_map_or (λ act. record m { accepted = record { seat = seat; act = act } ∷ m.accepted }) act m) viewer m

  -- the match after an accepted submission
  abbrev pub match_accepting : Match X G → Viewer → Submission → Match X G
  match_accepting m viewer s = with_act m (seat_of viewer) (act_of (rules m.game).sheet s.asked)
