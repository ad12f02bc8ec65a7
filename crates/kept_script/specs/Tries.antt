-- What came of asking the room for a match, as session_hall has it.
use Rattle.session_hall.specs.declared.opening.Tried as hall
use Rattle.session_hall.specs.declared.opening.Tried.TheVariants as hall_tried
use Rattle.kept_script.specs.declared.opening.Tried.{Tried}
use Rattle.kept_script.specs.declared.opening.Tried.TheVariants.{Busy, Made, Refused, Starved}

abbrev pub tried_as : Tried → hall.Tried
tried_as Busy = hall_tried.Busy
tried_as (Made serial) = hall_tried.Made serial
tried_as Refused = hall_tried.Refused
tried_as Starved = hall_tried.Starved

-- unless there was no memory
abbrev pub UnlessStarved : Tried → Type 0 → Type 0
UnlessStarved Starved P = Unit {0}
UnlessStarved tried P = P
