-- What the lines of a world keep by their form: a client is attached to a match by its name, from a seat that is a byte, and asks for actions
-- in their form on the wire.
use Rattle.sheet_json.specs.Seats.{IsWithin}
use Rattle.wire_json.specs.Asking.{AskedFits, AskedIsUtf8}
use Rattle.wire_json.specs.MatchText.{IsName}
use Rattle.world_history.specs.World.{Step, Attaches, Acts}

abbrev pub StepFits : {X : Type 0} → Step X → Type 0
StepFits (Attaches c game name seat protocol) = IsName name × IsWithin 255 seat
StepFits (Acts c asked) = AskedFits asked × AskedIsUtf8 asked
StepFits step = Unit {0}
