use Rattle.std.proofs.Common.{◌≡◌, ◌≤◌, ◌*◌, ℕ, arith, subst, sym}
use Rattle.session_hall.specs.Held.{IsTape, tape_of}
use Rattle.workload.specs.IsLoad.{most_more}
use Rattle.workload.proofs.Numbers.{nothing_counted}
use Rattle.workload.proofs.Stepping.{first_tape}
use Rattle.workload.proofs.load.Load.new.Goals as goal

none : (count : ℕ) → count ≡ 0 → count ≤ 0 * most_more
none count e = omega (arith, e)

pub returns : goal.returns
returns c = record {
  world = c.in_ok-world.ensures;
  places = c.new-2.ensures.items;
  drawn = subst (λ strip. IsTape (tape_of c.args.seed) 0 strip) (sym c.live.ensures.value) (first_tape c.args.seed);
  counted = nothing_counted c.new-3.result 8 c.new-3.ensures.accepted c.new-3.ensures.refused c.new-3.ensures.bytes;
  few = record {
    accepted = none c.new-3.result.accepted c.new-3.ensures.accepted;
    refused = none c.new-3.result.refused c.new-3.ensures.refused;
    held = none c.new-3.result.held c.new-3.ensures.held;
    read = none c.new-3.result.read c.new-3.ensures.read;
    bytes = none c.new-3.result.bytes c.new-3.ensures.bytes;
  };
  held = c.new-3.ensures.held;
  read = c.new-3.ensures.read;
}
