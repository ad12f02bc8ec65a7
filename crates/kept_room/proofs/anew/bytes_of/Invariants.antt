use Rattle.std.proofs.Common.{◌≡◌, List}
use Rattle.room_object.specs.Entry.{Entry}
use Rattle.kept_room.specs.Anew.{IsDraft}
use Rattle.kept_room.proofs.anew.bytes_of.Given as goal

-- the object has come to some calls, whose records are the bytes so far
abbrev pub invariant-times : goal.invariant-times
invariant-times g l =
    let n = g.O.Object.number l.fn.object in
    record {
      numbered : g.O.Object.number l.object ≡ n;
      drafted : (h : List (Entry _)) × IsDraft g.O.Object.stands_for g.O.Replays.has_come (g.O.Recorded.records n) (g.O.Replays.may_follow n) l.object l.bytes.items h;
    }
