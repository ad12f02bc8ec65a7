-- Which glances some lines show: each is what a client has settled that has read so many of them, verdicts and direct answers passed over; no
-- glance is of fewer lines than the one before, and each is of a greater state number.
use Rattle.std.specs.Prelude.{◌≡◌, ◌≤◌, ℕ, List, [], ◌∷◌, ◌++◌, true, length, take, reverse, Option, Some, None}
use Rattle.any_game.specs.declared.any_g.AnyG.{AnyG}
use Rattle.game_trait.specs.Rules.{Rules}
use Rattle.player_sight.specs.declared.shown.Snapshot.{Snapshot}
use Rattle.client_predict.specs.Following.{followed}
use Rattle.bot_sitter.specs.Seen.{settled_of}
use Rattle.bot_sitter.specs.Sitting.{is_above}
use Rattle.board_bots.specs.Glances.{glance_of}
use Rattle.board_bots.specs.declared.glance.Glance.{Glance}

-- what is settled after the first k lines
abbrev pub settled_at : Rules AnyG → List (List ℕ) → ℕ → Option (Snapshot AnyG)
settled_at rules lines k = settled_of (followed rules (take k lines)).playing

abbrev pub ShownAt : Rules AnyG → List (List ℕ) → ℕ → Glance → Type 0
ShownAt rules lines k glance = (s : Snapshot AnyG) × (settled_at rules lines k ≡ Some s) × (glance ≡ glance_of s)

-- the number of the latest glance
abbrev pub newest : List Glance → Option ℕ
newest [] = None
newest (glance ∷ earlier) = Some glance.number

-- glances, the latest first, which the first k lines show
abbrev pub ShownBy : Rules AnyG → List (List ℕ) → ℕ → List Glance → Type 0
ShownBy rules lines k [] = Unit {0}
ShownBy rules lines k (glance ∷ earlier) =
    (j : ℕ) × (j ≤ k) × ShownAt rules lines j glance × (is_above (newest earlier) glance.number ≡ true) × ShownBy rules lines j earlier

-- what a bot has seen since its opening list is shown by these lines, and the last number at which it was asked is that of the latest glance
pub record Sees (rules : Rules AnyG) (opening : List Glance) (lines : List (List ℕ)) (last : Option ℕ) (seen : List Glance) : Type 0 where
  pub shown : List Glance
  pub seen_is : seen ≡ opening ++ reverse shown
  pub last_is : last ≡ newest shown
  pub by_lines : ShownBy rules lines (length lines) shown
