-- The record of a create.
use Rattle.std.proofs.Common.{◌≡◌, ℕ, List, Some, None, refl, sym, ap, ◌∙◌}
use Rattle.std.specs.Prelude.{Vec}
use Rattle.std.specs.declared.alloc.Global.{Global}
use Rattle.any_game.specs.AnyRules.{any_rules}
use Rattle.any_game.specs.GameKind.{GameKind}
use Rattle.change_text.specs.Payload.{payload}
use Rattle.object_journal.specs.Keeping.{AddsFrame}
use Rattle.record_file.specs.Records.{framed}
use Rattle.room_changes.specs.ChangesOf.{change_asked, is_accepted}
use Rattle.room_changes.specs.declared.change.Change.{Change}
use Rattle.room_changes.specs.declared.change.Change.TheVariants as change
use Rattle.room_history.specs.Room.{reply}
use Rattle.room_history.specs.declared.call.RoomCall.TheVariants.{Create}
use Rattle.room_journal.specs.Kept.{room_payload, room_records}
use Rattle.room_journal.proofs.Adding.{adds_some}
use Rattle.kept_room.specs.Journal.{Calls}

same_some : {A : Type 0} {x y : A} → Some x ≡ Some y → x ≡ y
same_some e = cc

-- whoever looks, a create asks for its change
pub create_adds : (room : ℕ) (h : Calls) (pass : ℕ) (game : GameKind) (seats : ℕ) (seed : List ℕ) (frame : Vec ℕ Global)
    → ((c : Change GameKind) × (change_asked None (Create game seats seed) ≡ Some c) × (frame.items ≡ framed (payload any_rules c)))
    → AddsFrame (room_payload room h pass (Create game seats seed)) (room_records room) (reply any_rules room) is_accepted h pass (Create game seats seed) frame
create_adds room h pass game seats seed frame (c, asked, is) =
    let made : change.Create game seats seed ≡ c = same_some asked in
    record {
      payload = payload any_rules (change.Create game seats seed);
      asked = refl;
      is = is ∙ ap (λ (x : Change GameKind). framed (payload any_rules x)) (sym made);
      adds = adds_some room h pass (Create game seats seed) (change.Create game seats seed) refl;
    }
