-- How many calls an open request may make yet. It is what the driver's loop ends by.
use Rattle.std.specs.Prelude.{ℕ, suc, ◌-◌, Option, Some, None}
use Rattle.game_hall.specs.declared.request.Request.{Request}
use Rattle.game_hall.specs.declared.request.Request.TheVariants.{Creating, Listing}

-- over so many rooms: a create and a list go from room to room, every other request makes one call
abbrev pub left : ℕ → Option Request → ℕ
left rooms None = 0
left rooms (Some (Creating game seats seed room)) = suc (rooms - room)
left rooms (Some (Listing game rows room)) = suc (rooms - room)
left rooms (Some other) = 1
