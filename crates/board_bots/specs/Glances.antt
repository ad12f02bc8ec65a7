-- What a bot is shown of a match at one state number.
use Rattle.any_game.specs.declared.any_g.AnyG.{AnyG}
use Rattle.player_sight.specs.declared.shown.Snapshot.{Snapshot}
use Rattle.board_bots.specs.declared.glance.Glance.{Glance}

abbrev pub glance_of : Snapshot AnyG → Glance
glance_of s = record { number = s.number; ctx = s.ctx; g = s.g }
