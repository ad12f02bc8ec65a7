use Rattle.std.proofs.Common.{◌≡◌, ◌≤◌, []}
use Rattle.std.specs.Prelude.{All, vec_len, vec_capacity}
use Rattle.door_serve.proofs.serving.lists_for.Given as goal

abbrev pub invariant-loop-room : goal.invariant-loop-room
invariant-loop-room g l =
    (vec_len l.lists ≡ l._room) × (l.rooms ≤ vec_capacity l.lists)
    × All (λ v. (v.items ≡ []) × (l.passes ≤ vec_capacity v)) l.lists.items
