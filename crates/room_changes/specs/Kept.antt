-- What changes make of a room: how many matches were made, and the match that stands, with its accepted actions and its players. Each
-- goes by the rule of the call that it came from; an action is judged at the present state number, under the key of the player who sits there.
use Rattle.std.specs.Prelude.{ℕ, List, [], ◌∷◌, if◌then◌else◌, Option, Some, None, option_map, option_and_then, Result}
use Rattle.std.specs.Result.{result_ok}
use Rattle.game_sheet.specs.Viewer.{Viewer}
use Rattle.game_trait.specs.Rules.{Rules}
use Rattle.seat_roster.specs.Player.{Player, Seats, player_at}
use Rattle.seat_roster.specs.Roster.{is_empty, join, rename, leave}
use Rattle.seat_roster.specs.declared.refusal.RosterNo.{RosterNo}
use Rattle.wire_json.specs.declared.asked.Asked.{Asked}
use Rattle.wire_json.specs.declared.submission.Submission.{Submission}
use Rattle.room_history.specs.Match.{Match, number_of}
use Rattle.room_history.specs.Reply.{created_match, looked_match, reseated_match}
use Rattle.room_history.specs.Verdict.{first_reason, match_accepting}
use Rattle.room_changes.specs.declared.change.Change.{Change}
use Rattle.room_changes.specs.declared.change.Change.TheVariants as change
use Rattle.std.specs.Option.{option_map_or}

pub record Kept (X G : Type 0) : Type 0 where
  pub serials : ℕ
  pub standing : Option (Match X G)

-- the match that stands, with other players at its seats
abbrev pub reseated : {X G : Type 0} → Option (Match X G) → (Seats → Result Seats RosterNo) → Option (Match X G)
reseated standing change = result_ok (reseated_match (looked_match standing None) change)

abbrev pub claim : ℕ → Player → Viewer
claim seat player = Some (seat, player.key)

-- an action that a player of the match submits as things are
abbrev pub submission : {X G : Type 0} → ℕ → Match X G → Player → Asked → Submission
submission room m player asked = record { name = record { room = room; serial = m.serial }; key = player.key; number = number_of m; ticket = 0; asked = asked }

module _ {X G : Type 0} (rules : X → Rules G) (room : ℕ) where
  abbrev pub acted_by : Match X G → ℕ → Asked → Option Player → Option (Match X G)
  acted_by m seat asked None = None
  acted_by m seat asked (Some player) = option_map_or (λ reason. None) (first_reason rules room m (claim seat player) (submission room m player asked))
      (Some (match_accepting rules m (claim seat player) (submission room m player asked)))

  -- what one more change makes; none where the room doesn't accept it. A match goes with its last player, and where it is cleared
  abbrev pub kept_with : Kept X G → Change X → Option (Kept X G)
  kept_with k (change.Create game seats seed) =
      option_map (λ m. record { serials = m.serial; standing = Some m }) (result_ok (created_match rules k.serials k.standing game seats seed))
  kept_with k (change.Join seat name key) = option_map (λ m. record k { standing = Some m }) (reseated k.standing (λ roster. join roster seat name key))
  kept_with k (change.Rename seat key name) = option_map (λ m. record k { standing = Some m }) (reseated k.standing (λ roster. rename roster seat key name))
  kept_with k (change.Leave seat key) =
      option_map (λ m. record k { standing = if is_empty m.roster then None else Some m }) (reseated k.standing (λ roster. leave roster seat key))
  kept_with k change.Clear = option_map (λ m. record k { standing = None }) (result_ok (looked_match k.standing None))
  kept_with k (change.Act seat asked) =
      option_map (λ m. record k { standing = Some m }) (option_and_then (λ m. acted_by m seat asked (player_at m.roster seat)) k.standing)

  abbrev pub kept_from : Kept X G → List (Change X) → Option (Kept X G)
  kept_from k [] = Some k
  kept_from k (c ∷ changes) = option_and_then (λ next. kept_from next changes) (kept_with k c)

  -- what changes make, the oldest first; none where one of them isn't accepted
  abbrev pub kept : List (Change X) → Option (Kept X G)
  kept changes = kept_from (record { serials = 0; standing = None }) changes
