use Rattle.std.proofs.Common.{arith}
use Rattle.phase_flow.proofs.laws.bounds_grow.Goals as goal

pub returns : goal.returns
returns c sheet most more ctx active h s = record {
  seats_least = s.seats_least;
  seats_most = s.seats_most;
  order = s.order;
  pos = s.pos;
  current = s.current;
  phase = s.phase;
  map_sound = c.maps_stay_sound.ensures.greater_bound sheet ctx.seats most more active h s.map_sound;
  shows = s.shows;
  moves = omega (arith, s.moves);
}
