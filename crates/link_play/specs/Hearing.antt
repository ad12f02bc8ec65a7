-- What a look at the link, a `read` and a `wait` come to.
use Rattle.std.specs.Prelude.{◌≡◌, ℕ, List, Result, Ok, Err}
use Rattle.board_links.specs.declared.link.Came.TheVariants as came
use Rattle.game_trait.specs.Rules.{Rules}
use Rattle.link_play.specs.Doing.{ReadsLines, WaitsForLine}
use Rattle.link_play.specs.Pieces.{Flow}
use Rattle.link_play.specs.Sitting.{Sitting, answered, hears_line}
use Rattle.link_play.specs.Stopping.{StopsHearing, StopsReading, StopsWaiting}
use Rattle.link_play.specs.declared.hearing.Given.{Given}
use Rattle.link_play.specs.declared.hearing.Given.TheVariants as given
use Rattle.link_play.specs.declared.stop.Stop.{Stop}

module _ {G : Type 0} (rules : Rules G) where
  abbrev pub HearsOne : Result Given Stop → Sitting G → Sitting G → Type 0
  HearsOne (Ok given.Line) s t = (line : List ℕ) × (t ≡ hears_line rules s line)
  HearsOne (Ok given.Quiet) s t = t ≡ answered s came.Quiet
  HearsOne (Err why) s t = StopsHearing rules why s t

  abbrev pub ReadsOn : Flow → Sitting G → Sitting G → Type 0
  ReadsOn (Ok done) s t = ReadsLines rules s t
  ReadsOn (Err why) s t = StopsReading rules why s t

  abbrev pub WaitsOn : Flow → Sitting G → Sitting G → Type 0
  WaitsOn (Ok done) s t = WaitsForLine rules s t
  WaitsOn (Err why) s t = StopsWaiting rules why s t
