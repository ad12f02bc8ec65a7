-- A page's lines are played one by one.
use Rattle.std.proofs.Common.{refl}
use Rattle.line_runner.specs.Play.{IsPlay}
use Rattle.page_player.specs.Page.{page_doing, page_play}

pub page_is_played : IsPlay page_play page_doing
unfolding page_play page_doing
page_is_played = record { none = λ marks s. refl; more = λ mark marks step steps s. refl; tells = λ marks lines. tt }
