-- What an end says of the counts of faults, and of what the link told of its own end: a fault of the source, the sink or the link comes
-- only where its count rose, and a count rises only at such a fault.
use Rattle.std.specs.Prelude.{◌≡◌, ℕ, Result, Err}
use Rattle.board_links.specs.Faults.{HasRisen}
use Rattle.board_links.specs.declared.link.Stage.{Stage}
use Rattle.board_links.specs.declared.link.Stage.TheVariants as stage
use Rattle.line_runner.specs.declared.exit.Exit.{Exit}
use Rattle.line_runner.specs.declared.exit.Exit.TheVariants.{Usage, ReadFault, WriteFault, DoorFault, LinkFault, LinkEnded, LinkLong}
use Rattle.link_play.specs.declared.stop.LineStatus.{LineStatus}
use Rattle.link_play.specs.declared.stop.LineStatus.TheVariants as status
use Rattle.link_play.specs.declared.stop.Stop.{Stop}
use Rattle.link_play.specs.declared.stop.Stop.TheVariants as stop

-- the counts of the sink and of the link, where a command was done or broken off
abbrev pub StopRaises : {A : Type 0} → Result A Stop → ℕ → ℕ → ℕ → ℕ → Type 0
StopRaises (Err stop.WriteFault) sink_old sink_new link_old link_new = HasRisen sink_old sink_new × (link_new ≡ link_old)
StopRaises (Err stop.LinkFault) sink_old sink_new link_old link_new = (sink_new ≡ sink_old) × HasRisen link_old link_new
StopRaises result sink_old sink_new link_old link_new = (sink_new ≡ sink_old) × (link_new ≡ link_old)

-- where the link ended or gave too long a line, it tells so
abbrev pub StopShows : {A : Type 0} → Result A Stop → Stage → Type 0
StopShows (Err stop.LinkEnded) at = at ≡ stage.Ended
StopShows (Err stop.LinkLong) at = at ≡ stage.TooLong
StopShows result at = Unit {0}

-- the counts of the source, the sink and the link
abbrev pub ExitRaises : Exit → ℕ → ℕ → ℕ → ℕ → ℕ → ℕ → Type 0
ExitRaises ReadFault source_old source_new sink_old sink_new link_old link_new = HasRisen source_old source_new × (sink_new ≡ sink_old) × (link_new ≡ link_old)
ExitRaises WriteFault source_old source_new sink_old sink_new link_old link_new = (source_new ≡ source_old) × HasRisen sink_old sink_new × (link_new ≡ link_old)
ExitRaises LinkFault source_old source_new sink_old sink_new link_old link_new = (source_new ≡ source_old) × (sink_new ≡ sink_old) × HasRisen link_old link_new
ExitRaises Usage source_old source_new sink_old sink_new link_old link_new = ⊥
ExitRaises DoorFault source_old source_new sink_old sink_new link_old link_new = ⊥
ExitRaises exit source_old source_new sink_old sink_new link_old link_new = (source_new ≡ source_old) × (sink_new ≡ sink_old) × (link_new ≡ link_old)

abbrev pub ExitShows : Exit → Stage → Type 0
ExitShows LinkEnded at = at ≡ stage.Ended
ExitShows LinkLong at = at ≡ stage.TooLong
ExitShows exit at = Unit {0}

-- the same of what a line came to
abbrev pub LineRaises : LineStatus → ℕ → ℕ → ℕ → ℕ → Type 0
LineRaises (status.Stopped stop.WriteFault) sink_old sink_new link_old link_new = HasRisen sink_old sink_new × (link_new ≡ link_old)
LineRaises (status.Stopped stop.LinkFault) sink_old sink_new link_old link_new = (sink_new ≡ sink_old) × HasRisen link_old link_new
LineRaises line sink_old sink_new link_old link_new = (sink_new ≡ sink_old) × (link_new ≡ link_old)

abbrev pub LineShows : LineStatus → Stage → Type 0
LineShows (status.Stopped stop.LinkEnded) at = at ≡ stage.Ended
LineShows (status.Stopped stop.LinkLong) at = at ≡ stage.TooLong
LineShows line at = Unit {0}
