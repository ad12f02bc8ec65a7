-- What a command that was read may ask for: an action in a form of the wire.
use Rattle.wire_json.specs.Asking.{IsAskable}
use Rattle.link_play.specs.declared.command.Command.{Command}
use Rattle.link_play.specs.declared.command.Command.TheVariants.{Nothing, Acts, Reads, Waits, Shows, Ends}

abbrev pub MayAsk : Command → Type 0
MayAsk Nothing = Unit {0}
MayAsk (Acts asked) = IsAskable asked
MayAsk Reads = Unit {0}
MayAsk Waits = Unit {0}
MayAsk Shows = Unit {0}
MayAsk Ends = Unit {0}
