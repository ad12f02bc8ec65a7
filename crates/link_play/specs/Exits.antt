-- How what comes of a line ends a run.
use Rattle.std.specs.Prelude.{ℕ, Option, Some, None}
use Rattle.line_runner.specs.declared.exit.Exit.{Exit}
use Rattle.line_runner.specs.declared.exit.Exit.TheVariants.{Done, WriteFault, BadLine, NoMemory, LinkFault, LinkEnded, LinkLong}
use Rattle.link_play.specs.declared.stop.LineStatus.{LineStatus}
use Rattle.link_play.specs.declared.stop.LineStatus.TheVariants as status
use Rattle.link_play.specs.declared.stop.Stop.{Stop}
use Rattle.link_play.specs.declared.stop.Stop.TheVariants as stop

-- the end where a command was broken off
abbrev pub stopped : Stop → Exit
stopped stop.WriteFault = WriteFault
stopped stop.LinkFault = LinkFault
stopped stop.LinkEnded = LinkEnded
stopped stop.LinkLong = LinkLong
stopped stop.NoMemory = NoMemory

-- the end at a line, if it ends there
abbrev pub end_at : LineStatus → ℕ → Option Exit
end_at status.Done line = None
end_at status.Ended line = Some Done
end_at status.BadLine line = Some (BadLine line)
end_at status.Unread line = Some NoMemory
end_at (status.Stopped why) line = Some (stopped why)
