-- Where each own state is nested at most 125 deep, each line of a stream is nested at most 127 deep.
use Rattle.std.proofs.Common.{◌≡◌, ◌⊎◌, inl, inr, ◌≤◌, ◌+◌, max, ℕ, zero, suc, Bool, true, false, cond, List, [], ◌∷◌, ◌++◌, length, map, Option, Some, None, refl, sym, ◌∙◌, subst, arith, append_assoc}
use Rattle.game_sheet.specs.MatchName.{Name}
use Rattle.game_sheet.specs.Viewer.{Viewer, seat_of}
use Rattle.game_sheet.specs.declared.sheet.Sheet.{Sheet}
use Rattle.game_trait.specs.Lawful.{Lawful}
use Rattle.game_trait.specs.Rules.{Rules}
use Rattle.move_log.specs.declared.entry.Entry.{Entry as Logged}
use Rattle.player_sight.specs.Change.{changed_members, gone_part, has_text_of, lost_names, members_in, put_part}
use Rattle.player_sight.specs.CtxData.{ctx_data}
use Rattle.player_sight.specs.SnapshotData.{Snap, snapshot_data}
use Rattle.player_sight.proofs.Depths.{ctx_is_shallow, entry_is_shallow, snapshot_is_shallow}
use Rattle.reducer.specs.Accepted.{Accepted}
use Rattle.room_history.specs.Match.{Match}
use Rattle.wire_json.specs.declared.server.ServerMsg.TheVariants.{Change, No, Sync, Update, Ok as Accepts}
use Rattle.room_history.specs.Showing.{newest_entry, showings, update_message}
use Rattle.room_history.specs.Shown.{snapshot_at, snapshots}
use Rattle.serde_json.specs.Data.{Data, null, boolean, number, string, array, object, Members, no_members, member, depth, items_depth, members_depth}
use Rattle.serde_json.specs.Find.{get}
use Rattle.serde_json.specs.View.{items_of}
use Rattle.sheet_json.specs.Seats.{natural_or_null}
use Rattle.wire_json.specs.declared.protocol.Protocol.{Protocol}
use Rattle.wire_json.specs.declared.protocol.Protocol.TheVariants.{One, Two}
use Rattle.wire_json.specs.declared.reason.Reason.{Reason}
use Rattle.convergence.specs.Grounded.{IsGrounded}
use Rattle.convergence.specs.Lines.{IsShallow}
use Rattle.convergence.specs.Shallow.{StatesAreShallow}
use Rattle.room_history.specs.Shown.{view_at}
use Rattle.convergence.proofs.Grounds.{StaysSound, view_plain}
use Rattle.convergence.proofs.Pieces.{AllHave}

flat : (o : Option ℕ) → depth (natural_or_null o) ≤ 0
flat None = omega arith
flat (Some n) = omega arith

newest_shallow : (sheet : Sheet) (log : List Logged) → depth (newest_entry sheet log) ≤ 3
newest_shallow sheet [] = omega arith
newest_shallow sheet (e ∷ []) = entry_is_shallow sheet e (newest_entry sheet (e ∷ [])) refl
newest_shallow sheet (e ∷ next ∷ log) = newest_shallow sheet (next ∷ log)

-- ---- the parts of a change

changed_shallow : (old : Data) (ms : Members) → members_depth (changed_members old ms) ≤ members_depth ms
changed_shallow old no_members = omega arith
changed_shallow old (member k d ms) = by (has_text_of d (get k old)) (changed_shallow old ms)
  where
    by : (b : Bool) → members_depth (changed_members old ms) ≤ members_depth ms → members_depth (cond b (changed_members old ms) (member k d (changed_members old ms))) ≤ members_depth (member k d ms)
    by true later = omega (arith, later)
    by false later = omega (arith, later)

put_shallow : (old new : Data) → depth (put_part old new) ≤ depth new
put_shallow old null = omega arith
put_shallow old (boolean b) = omega arith
put_shallow old (number n) = omega arith
put_shallow old (string s) = omega arith
put_shallow old (array ds) = omega arith
put_shallow old (object ms) = omega (arith, changed_shallow old ms)

texts_flat : (names : List (List ℕ)) → items_depth (items_of (map string names)) ≤ 0
texts_flat [] = omega arith
texts_flat (name ∷ names) = omega (arith, texts_flat names)

gone_shallow : (old new : Data) → depth (gone_part old new) ≤ 1
gone_shallow old new = omega (arith, texts_flat (lost_names (members_in old) new))

-- ---- each message

pub ok_shallow : (n ticket : ℕ) → n ≤ 4294967295 → ticket ≤ 4294967295 → IsShallow (Accepts n ticket)
ok_shallow n ticket h t = omega arith

pub no_shallow : (n : ℕ) (reason : Reason) (ticket : ℕ) → n ≤ 4294967295 → ticket ≤ 4294967295 → IsShallow (No n reason ticket)
no_shallow n reason ticket h t = omega arith

sync_shallow : (name : Name) (seat : Option ℕ) (protocol : Protocol) (d : Data) → depth d ≤ 126 → IsShallow (Sync name seat protocol d)
sync_shallow name seat One d h = omega (arith, h, flat seat)
sync_shallow name seat Two d h = omega (arith, h, flat seat)

update_shallow : (ctx entry g : Data) (n : ℕ) → depth ctx ≤ 2 → depth entry ≤ 3 → depth g ≤ 125 → IsShallow (Update ctx entry g n)
update_shallow ctx entry g n c e s = omega (arith, c, e, s)

change_shallow : (ctx entry gone put : Data) (n : ℕ) → depth ctx ≤ 2 → depth entry ≤ 3 → depth gone ≤ 1 → depth put ≤ 125 → IsShallow (Change ctx entry gone put n)
change_shallow ctx entry gone put n c e g p = omega (arith, c, e, g, p)

module _ {X G : Type 0} (rules : X → Rules G) (room : ℕ) (lawful : (game : X) → Lawful (rules game)) (stays : StaysSound rules) (low : StatesAreShallow rules) (m : Match X G) (g : IsGrounded rules room m)
    (name : Name) (viewer : Viewer) (protocol : Protocol) where
  abbrev snap : List Accepted → Snap
  snap accepted = snapshot_at (rules m.game) m.first (seat_of viewer) accepted

  abbrev snaps : ℕ → List Accepted → List Snap
  snaps many accepted = snapshots (rules m.game) m.first (seat_of viewer) many accepted

  abbrev AreShallow : List Snap → Type 0
  AreShallow sight = AllHave IsShallow (showings name (rules m.game).sheet viewer protocol sight)

  state_shallow : (later accepted : List Accepted) → m.accepted ≡ later ++ accepted → depth (snap accepted).g ≤ 125
  state_shallow later accepted e =
      low m.game (view_at (rules m.game) m.first (seat_of viewer) accepted).g (view_plain rules room lawful stays m g later accepted e (seat_of viewer)).own

  first_shallow : (later accepted : List Accepted) → m.accepted ≡ later ++ accepted → IsShallow (Sync name (seat_of viewer) protocol (snapshot_data (rules m.game).sheet (snap accepted)))
  first_shallow later accepted e =
      let whole : depth (snapshot_data (rules m.game).sheet (snap accepted)) ≤ max 4 (depth (snap accepted).g) + 1 = snapshot_is_shallow (rules m.game).sheet (snap accepted) (snapshot_data (rules m.game).sheet (snap accepted)) refl in
      sync_shallow name (seat_of viewer) protocol (snapshot_data (rules m.game).sheet (snap accepted)) (omega (arith, whole, state_shallow later accepted e))

  next_shallow : (p : Protocol) (later : List Accepted) (a : Accepted) (accepted : List Accepted) → m.accepted ≡ later ++ a ∷ accepted → IsShallow (update_message p (rules m.game).sheet (snap accepted) (snap (a ∷ accepted)))
  next_shallow One later a accepted e =
      update_shallow (ctx_data (rules m.game).sheet (snap (a ∷ accepted)).ctx) (newest_entry (rules m.game).sheet (snap (a ∷ accepted)).log) (snap (a ∷ accepted)).g (suc (length accepted))
      (ctx_is_shallow (rules m.game).sheet (snap (a ∷ accepted)).ctx (ctx_data (rules m.game).sheet (snap (a ∷ accepted)).ctx) refl) (newest_shallow (rules m.game).sheet (snap (a ∷ accepted)).log) (state_shallow later (a ∷ accepted) e)
  next_shallow Two later a accepted e =
      let old = ctx_data (rules m.game).sheet (snap accepted).ctx in
      let new = ctx_data (rules m.game).sheet (snap (a ∷ accepted)).ctx in
      let ctx : depth (put_part old new) ≤ 2 = omega (arith, put_shallow old new, ctx_is_shallow (rules m.game).sheet (snap (a ∷ accepted)).ctx new refl) in
      let state : depth (put_part (snap accepted).g (snap (a ∷ accepted)).g) ≤ 125 = omega (arith, put_shallow (snap accepted).g (snap (a ∷ accepted)).g, state_shallow later (a ∷ accepted) e) in
      change_shallow (put_part old new) (newest_entry (rules m.game).sheet (snap (a ∷ accepted)).log) (gone_part (snap accepted).g (snap (a ∷ accepted)).g) (put_part (snap accepted).g (snap (a ∷ accepted)).g)
      (suc (length accepted)) ctx (newest_shallow (rules m.game).sheet (snap (a ∷ accepted)).log) (gone_shallow (snap accepted).g (snap (a ∷ accepted)).g) state

  head_is : (many : ℕ) (accepted : List Accepted) → (snaps many accepted ≡ []) ⊎ ((rest : List Snap) × (snaps many accepted ≡ snap accepted ∷ rest))
  head_is zero accepted = inr ([], refl)
  head_is (suc many) [] = inl refl
  head_is (suc many) (a ∷ accepted) = inr (snaps many accepted, refl)

  pub shown_shallow : (many : ℕ) (later accepted : List Accepted) → m.accepted ≡ later ++ accepted → AreShallow (snaps many accepted)
  shown_shallow zero later accepted e = (first_shallow later accepted e, tt)
  shown_shallow (suc many) later [] e = tt
  shown_shallow (suc many) later (a ∷ accepted) e = by (head_is many accepted) (shown_shallow many (later ++ a ∷ []) accepted (e ∙ sym (append_assoc later (a ∷ []) accepted)))
    where
      by : (snaps many accepted ≡ []) ⊎ ((rest : List Snap) × (snaps many accepted ≡ snap accepted ∷ rest)) → AreShallow (snaps many accepted) → AreShallow (snap (a ∷ accepted) ∷ snaps many accepted)
      by (inl none) before = subst (λ l. AreShallow (snap (a ∷ accepted) ∷ l)) (sym none) (first_shallow later (a ∷ accepted) e, tt)
      by (inr some) before = subst (λ l. AreShallow (snap (a ∷ accepted) ∷ l)) (sym some.1) (next_shallow protocol later a accepted e, subst AreShallow some.1 before)
