-- What a page writes: the lines to send, each behind `>`, and what is to be drawn, behind `=`.
use Rattle.std.specs.Prelude.{ℕ, List, [], ◌++◌, codes, Option, Some, None}
use Rattle.any_game.specs.AnyRules.{any_rules}
use Rattle.any_game.specs.GameKind.{GameKind}
use Rattle.any_game.specs.declared.any_g.AnyG.{AnyG}
use Rattle.client_predict.specs.Client.{Held, shown_in}
use Rattle.game_trait.specs.Rules.{Rules}
use Rattle.link_play.specs.Doing.{snapshot_text}
use Rattle.link_play.specs.Sitting.{on_line}
use Rattle.player_sight.specs.declared.shown.Snapshot.{Snapshot}

-- a client's line, which ends with its newline
abbrev pub to_send : List ℕ → List ℕ
to_send line = codes ">" ++ line

-- what is shown, or null before the stream begins
abbrev pub drawn_of : {G : Type 0} → Rules G → Option (Snapshot G) → List ℕ
drawn_of rules None = on_line (codes "=null")
drawn_of rules (Some shown) = on_line (codes "=" ++ snapshot_text rules shown)

-- what a client shows; null where there is no client
abbrev pub drawn : Option (Held GameKind AnyG) → List ℕ
drawn None = on_line (codes "=null")
drawn (Some held) = drawn_of (any_rules held.game) (shown_in (any_rules held.game) held.client)
