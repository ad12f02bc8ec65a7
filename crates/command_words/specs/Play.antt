-- What the words of `play` ask for. They are those of a simple command: which server, game and match, and for whom.
use Rattle.std.specs.Prelude.{ℕ, Bool, List, [], ◌∷◌, nat_lt, if◌then◌else◌, Option, Some, None, option_and_then, codes}
use Rattle.clap.specs.Words.{App, Row, fault_of, first_of, matches_of, new_app, with_rule}
use Rattle.any_game.specs.AnyRules.{named}
use Rattle.any_game.specs.GameKind.{GameKind}
use Rattle.game_sheet.specs.MatchName.{Name}
use Rattle.game_sheet.specs.Viewer.{Viewer}
use Rattle.wire_json.specs.KeyText.{key_from}
use Rattle.wire_json.specs.MatchText.{match_from, number_from}
use Rattle.command_words.specs.Options.{flag_rule, needed_rule, option_rule}
use Rattle.command_words.specs.Serve.{is_said, unless_refused}
use Rattle.command_words.specs.declared.play.PlayWords.{PlayWords}

abbrev pub play_app : App
play_app =
    with_rule (with_rule (with_rule (with_rule (with_rule (with_rule (new_app (codes "play")) (needed_rule (codes "connect"))) (needed_rule (codes "game"))) (needed_rule (codes "match")))
    (option_rule (codes "seat"))) (option_rule (codes "key"))) (flag_rule (codes "draw"))

abbrev pub seat_below : Option ℕ → Option ℕ
seat_below None = None
seat_below (Some n) = if nat_lt n 16 then Some n else None

-- a seat from 0 to 15
abbrev pub seat_from : List ℕ → Option ℕ
seat_from word = seat_below (number_from word)

abbrev pub claim_of : Option ℕ → Option (List ℕ) → Option Viewer
claim_of (Some seat) (Some key) = Some (Some (seat, key))
claim_of seat key = None

-- a seat has its key, and a spectator has neither
abbrev pub viewer_from : Option (List ℕ) → Option (List ℕ) → Option Viewer
viewer_from None None = Some None
viewer_from (Some seat) (Some key) = claim_of (seat_from seat) (key_from key)
viewer_from seat key = None

abbrev pub with_parts : List ℕ → Option GameKind → Option Name → Option Viewer → Bool → Option PlayWords
with_parts connect (Some game) (Some name) (Some viewer) draws = Some (record { connect = connect; game = game; name = name; viewer = viewer; draws = draws })
with_parts connect game name viewer draws = None

-- by the values of the options, where they are said
abbrev pub play_of : Option (List ℕ) → Option (List ℕ) → Option (List ℕ) → Option (List ℕ) → Option (List ℕ) → Option (List ℕ) → Option PlayWords
play_of (Some connect) (Some game) (Some name) seat key draw = with_parts connect (named game) (match_from name) (viewer_from seat key) (is_said draw)
play_of connect game name seat key draw = None

abbrev pub play_in : List Row → Option PlayWords
play_in rows =
    play_of (first_of (codes "connect") rows) (first_of (codes "game") rows) (first_of (codes "match") rows) (first_of (codes "seat") rows) (first_of (codes "key") rows)
    (first_of (codes "draw") rows)

-- what the words ask for, of which the first is the command's own; none where they are in no form
unfoldable pub play_from : List (List ℕ) → Option PlayWords
play_from words = unless_refused (fault_of play_app words) (play_in (matches_of play_app words))
