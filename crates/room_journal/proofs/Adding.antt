-- What a call adds to the records of a room.
use Rattle.std.proofs.Common.{◌≡◌, ℕ, List, [], ◌∷◌, ◌++◌, Bool, true, false, if◌then◌else◌, Option, Some, None, option_map, sym, ap, ◌∙◌, subst, append-nil}
use Rattle.std.proofs.lemmas.List.{map-append}
use Rattle.any_game.specs.AnyRules.{any_rules}
use Rattle.any_game.specs.GameKind.{GameKind}
use Rattle.room_object.specs.Entry.{Entry, entry}
use Rattle.room_history.specs.Room.{reply, viewer_of}
use Rattle.room_history.specs.declared.call.RoomCall.{RoomCall}
use Rattle.room_history.specs.declared.call.RoomCall.TheVariants.{Create, Join, Rename, Leave, Look, Attach, Submit, Take, Detach, Clear}
use Rattle.room_changes.specs.ChangesOf.{change_asked, change_made, changes_of, is_accepted}
use Rattle.room_changes.specs.declared.change.Change.{Change}
use Rattle.std.specs.Prelude.{Vec}
use Rattle.std.specs.declared.alloc.Global.{Global}
use Rattle.object_journal.specs.Keeping.{AddsFrame}
use Rattle.record_file.specs.Records.{framed}
use Rattle.change_text.specs.Payload.{AsksInForm, payload, Puts}
use Rattle.room_journal.specs.Kept.{IsInForm, room_payload, room_records, texts}

pub asks : (call : RoomCall GameKind) → IsInForm call → AsksInForm call
asks (Create game seats seed) h = tt
asks (Join serial seat name key) h = tt
asks (Rename serial seat key name) h = tt
asks (Leave serial seat key) h = tt
asks (Look serial) h = tt
asks (Attach serial viewer protocol) h = tt
asks (Submit s) h = h
asks Take h = tt
asks Detach h = tt
asks (Clear serial) h = tt

none_made : (b : Bool) (o : Option (Change GameKind)) (cs : List (Change GameKind)) → o ≡ None → texts (cs ++ change_made b o) ≡ texts cs
none_made true None cs e = ap texts (append-nil cs)
none_made false None cs e = ap texts (append-nil cs)
none_made b (Some c) cs e = absurd (cc)

one_made : (b : Bool) (c : Change GameKind) (cs : List (Change GameKind)) → texts (cs ++ change_made b (Some c)) ≡ (if b then texts cs ++ payload any_rules c ∷ [] else texts cs)
one_made true c cs = map-append (payload any_rules) cs (c ∷ [])
one_made false c cs = ap texts (append-nil cs)

pub adds_none : (room : ℕ) (h : List (Entry (RoomCall GameKind))) (pass : ℕ) (call : RoomCall GameKind) → change_asked (viewer_of any_rules room h pass) call ≡ None → (starved : Bool) → room_records room (entry pass call starved ∷ h) ≡ room_records room h
adds_none room h pass call e starved = none_made (is_accepted (reply any_rules room h (entry pass call starved))) (change_asked (viewer_of any_rules room h pass) call) (changes_of any_rules room h) e

pub adds_some : (room : ℕ) (h : List (Entry (RoomCall GameKind))) (pass : ℕ) (call : RoomCall GameKind) (c : Change GameKind) → change_asked (viewer_of any_rules room h pass) call ≡ Some c → (starved : Bool)
    → room_records room (entry pass call starved ∷ h) ≡ (if is_accepted (reply any_rules room h (entry pass call starved)) then room_records room h ++ payload any_rules c ∷ [] else room_records room h)
adds_some room h pass call c e starved =
    let b = is_accepted (reply any_rules room h (entry pass call starved)) in
    ap (λ (o : Option (Change GameKind)). texts (changes_of any_rules room h ++ change_made b o)) e ∙ one_made b c (changes_of any_rules room h)

-- a call that asks for a change adds its record where it is accepted
frame_by : (room : ℕ) (h : List (Entry (RoomCall GameKind))) (pass : ℕ) (call : RoomCall GameKind) (frame : Vec ℕ Global) (text : List ℕ) (o : Option (Change GameKind)) → change_asked (viewer_of any_rules room h pass) call ≡ o → Puts any_rules o [] text true → frame.items ≡ framed text
    → AddsFrame (room_payload room h pass call) (room_records room) (reply any_rules room) is_accepted h pass call frame
frame_by room h pass call frame text None e puts is = absurd (differ puts.0)
  where
    differ : true ≡ false → ⊥
    differ h = cc
frame_by room h pass call frame text (Some c) e puts is = record {
  payload = payload any_rules c;
  asked = ap (option_map (payload any_rules)) e;
  is = is ∙ ap framed puts.1;
  adds = adds_some room h pass call c e;
}

pub frame_adds : (room other : ℕ) → other ≡ room → (h : List (Entry (RoomCall GameKind))) (pass : ℕ) (call : RoomCall GameKind) (frame : Vec ℕ Global) (old text : List ℕ) (viewer : Option (Option ℕ)) (b : Bool) → viewer ≡ viewer_of any_rules other h pass
    → Puts any_rules (change_asked viewer call) old text b → b ≡ true → old ≡ [] → frame.items ≡ framed text → AddsFrame (room_payload room h pass call) (room_records room) (reply any_rules room) is_accepted h pass call frame
frame_adds room other e h pass call frame old text viewer b looks puts t none is =
    let seen : change_asked (viewer_of any_rules room h pass) call ≡ change_asked viewer call = sym (ap (λ (v : Option (Option ℕ)). change_asked v call) (looks ∙ ap (λ (n : ℕ). viewer_of any_rules n h pass) e)) in
    let first : Puts any_rules (change_asked viewer call) [] text b = subst (λ (l : List ℕ). Puts any_rules (change_asked viewer call) l text b) none puts in
    frame_by room h pass call frame text (change_asked viewer call) seen (subst (λ (x : Bool). Puts any_rules (change_asked viewer call) [] text x) t first) is
