-- What want of memory makes of a request.
use Rattle.std.proofs.Common.{◌≡◌, ℕ, List, Option, Some, refl}
use Rattle.room_history.specs.declared.reply.RoomReply.TheVariants as reply
use Rattle.game_hall.specs.Core.{Core, replied, starved, ticket_of}
use Rattle.game_hall.specs.declared.request.Request.{Request}
use Rattle.game_hall.specs.declared.request.Request.TheVariants.{Creating, Listing, Looking, Joining, Renaming, Leaving, Syncing, Acting}

-- want of memory in a room closes the request, and an act's ticket comes back
pub is_starved_by : {X : Type 0} (named : List ℕ → Option X) (c : Core X) (request : Request) → replied named c (Some request) reply.NoMemory ≡ starved c (ticket_of (Some request))
is_starved_by named c (Creating game seats seed room) = refl
is_starved_by named c (Listing game rows room) = refl
is_starved_by named c Looking = refl
is_starved_by named c (Joining name seat key) = refl
is_starved_by named c (Renaming name seat) = refl
is_starved_by named c (Leaving name seat) = refl
is_starved_by named c (Syncing room) = refl
is_starved_by named c (Acting ticket) = refl
