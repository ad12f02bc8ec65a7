use Rattle.std.proofs.Common.{length}
use Rattle.door_serve.proofs.reporting.+print_rooms.Given as goal

abbrev pub decreases-print_rooms : goal.decreases-print_rooms
decreases-print_rooms g l = length l.rooms.now
