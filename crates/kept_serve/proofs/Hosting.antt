-- Rooms that were opened are put behind desks.
use Rattle.std.proofs.Common.{◌≡◌, ◌<◌, ◌+◌, ℕ, zero, suc, true, List, [], ◌∷◌, length, Option, Some, ap, sym, ◌∙◌, subst, arith, slice_index_or}
use Rattle.std.specs.Prelude.{option_map, slice_get}
use Rattle.door_serve.specs.Rooms.{Numbered}
use Rattle.kept_room.specs.Hosting.{IsOpenedBy}
use Rattle.kept_room.specs.Opened.{IsOpenedRoom}
use Rattle.kept_serve.specs.Opened.{IsOpened, room_of}
use Rattle.kept_serve.specs.declared.opened_room.OpenedRoom.{OpenedRoom}

-- each room's disk stands at its number
pub starts_all : {D : Type 0} (start : ℕ → Option D) (rooms : List (OpenedRoom D)) (k : ℕ) → Numbered room_of k rooms
    → ((i : ℕ) → start (k + i) ≡ option_map (λ (r : OpenedRoom D). r.start.value) (slice_get rooms i))
    → (i : ℕ) (d : OpenedRoom D) → i < length rooms → start (room_of (slice_index_or rooms i d)) ≡ Some (slice_index_or rooms i d).start.value
starts_all start [] k n at i d low = absurd (omega arith)
starts_all start (r ∷ rooms) k n at zero d low = ap start n.0 ∙ (ap start (the_same k) ∙ at 0)
  where
    the_same : (k : ℕ) → k ≡ k + 0
    the_same k = omega arith
starts_all start (r ∷ rooms) k n at (suc i) d low =
    starts_all start rooms (k + 1) n.1 (λ j. ap start (moved j) ∙ at (suc j)) i d (omega (arith, low))
  where
    moved : (j : ℕ) → k + 1 + j ≡ k + suc j
    moved j = omega arith

module _ {D : Type 0} (is_told : D → Type 0) (seen : D → List ℕ) (may_leave : D → List ℕ → Type 0) (moment : D → ℕ) (left_since : D → ℕ → List ℕ → Type 0) (faults : D → ℕ) where
  same_inside : {A : Type 0} (x y : A) → Some x ≡ Some y → x ≡ y
  same_inside x y e = cc

  -- a room that was opened may be put behind a desk
  pub opened_by : (passes : ℕ) (start : ℕ → Option D) (r : OpenedRoom D) (o : IsOpened is_told seen may_leave moment left_since faults passes (room_of r) r) → start (room_of r) ≡ Some r.start.value
      → IsOpenedBy is_told seen may_leave moment left_since faults (room_of r) passes o.first (start (room_of r)) r.room
  opened_by passes start r o at = record {
    disk = r.start.value;
    opened = o.opened;
    nobody = o.alone;
    told = λ s is told.
        let same : r.start.value ≡ s = same_inside r.start.value s (sym at ∙ is) in
        subst (λ (d : D). IsOpenedRoom is_told seen may_leave moment left_since faults (room_of r) d o.first true r.room) same (o.told (subst is_told (sym same) told));
  }
