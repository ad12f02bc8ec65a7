-- Each line of a session's stream that is nested at most 127 deep reads back.
use Rattle.std.proofs.Common.{◌≡◌, ◌⊎◌, inl, inr, ◌≤◌, ℕ, zero, suc, true, false, List, [], ◌∷◌, ◌++◌, length, IsSome, refl, sym, ◌∙◌, subst, append_assoc}
use Rattle.game_sheet.specs.MatchName.{Name}
use Rattle.game_sheet.specs.Viewer.{Viewer, seat_of}
use Rattle.game_trait.specs.Lawful.{Lawful}
use Rattle.game_trait.specs.Rules.{Rules}
use Rattle.json_tree.specs.Writable.{IsWritable}
use Rattle.player_sight.specs.CtxData.{ctx_data}
use Rattle.player_sight.specs.PlainSnapshot.{IsPlain}
use Rattle.player_sight.specs.Change.{gone_part, lost_names, members_in, put_part}
use Rattle.player_sight.specs.SnapshotData.{Snap, snapshot_data}
use Rattle.reducer.specs.Accepted.{Accepted}
use Rattle.room_history.specs.Match.{Match}
use Rattle.wire_json.specs.declared.server.ServerMsg.{ServerMsg}
use Rattle.wire_json.specs.declared.server.ServerMsg.TheVariants.{No, Sync, Ok as Accepts}
use Rattle.room_history.specs.Piece.{Piece, Line, Mark, End}
use Rattle.room_history.specs.Session.{Session, stream_of}
use Rattle.room_history.specs.Showing.{Showing, newest_entry, showings, update_message}
use Rattle.room_history.specs.Shown.{snapshot_at, snapshots}
use Rattle.serde_json.specs.Data.{Data, null, boolean, number, string, array, object}
use Rattle.serde_json.specs.Find.{as_object}
use Rattle.sheet_json.specs.Seats.{IsWithin}
use Rattle.wire_json.specs.Acts.{is_object}
use Rattle.wire_json.specs.MatchText.{IsName}
use Rattle.wire_json.specs.declared.protocol.Protocol.{Protocol}
use Rattle.wire_json.specs.declared.protocol.Protocol.TheVariants.{One, Two}
use Rattle.wire_json.specs.declared.reason.Reason.{Reason}
use Rattle.convergence.specs.Grounded.{IsGrounded}
use Rattle.convergence.specs.Lines.{AllLines, IsShallow, ReadsBack}
use Rattle.room_history.specs.Shown.{view_at}
use Rattle.convergence.proofs.Grounds.{StaysSound, view_plain}
use Rattle.convergence.proofs.Messages.{change_reads, no_reads, ok_reads, sync_reads, update_reads}
use Rattle.convergence.proofs.Pieces.{AllHave, ItemsFit, stream_have}
use Rattle.convergence.proofs.Texts.{all_texts, gone_writable, put_writable}
use Rattle.convergence.proofs.Values.{ctx_ok, newest_ok, snapshot_ok}

abbrev pub May : ServerMsg → Type 0
May m = IsShallow m → ReadsBack m

no_both : false ≡ true → ⊥
no_both e = cc

put_object : (old new : Data) → IsSome (as_object new) → is_object (put_part old new) ≡ true
put_object old null h = absurd (no_both h)
put_object old (boolean b) h = absurd (no_both h)
put_object old (number n) h = absurd (no_both h)
put_object old (string s) h = absurd (no_both h)
put_object old (array ds) h = absurd (no_both h)
put_object old (object ms) h = refl

-- ---- what was shown

verdict_ok : (n ticket : ℕ) → n ≤ 4294967295 → ticket ≤ 4294967295 → May (Accepts n ticket)
verdict_ok n ticket h t = λ deep. ok_reads n ticket h t

verdict_no : (n : ℕ) (reason : Reason) (ticket : ℕ) → n ≤ 4294967295 → ticket ≤ 4294967295 → May (No n reason ticket)
verdict_no n reason ticket h t = λ deep. no_reads n reason ticket h t

abbrev pub AllMay : List Showing → Type 0
AllMay shown = AllHave May shown

module _ {X G : Type 0} (rules : X → Rules G) (room : ℕ) (lawful : (game : X) → Lawful (rules game)) (stays : StaysSound rules) (m : Match X G) (g : IsGrounded rules room m)
    (name : Name) (named : IsName name) (viewer : Viewer) (within : IsWithin 255 (seat_of viewer)) (protocol : Protocol) where
  abbrev snap : List Accepted → Snap
  snap accepted = snapshot_at (rules m.game) m.first (seat_of viewer) accepted

  abbrev snaps : ℕ → List Accepted → List Snap
  snaps many accepted = snapshots (rules m.game) m.first (seat_of viewer) many accepted

  abbrev shown_at : List Snap → List Showing
  shown_at sight = showings name (rules m.game).sheet viewer protocol sight

  plain_at : (later accepted : List Accepted) → m.accepted ≡ later ++ accepted → IsPlain (rules m.game) (view_at (rules m.game) m.first (seat_of viewer) accepted)
  plain_at later accepted e = view_plain rules room lawful stays m g later accepted e (seat_of viewer)

  state_ok : (later accepted : List Accepted) → m.accepted ≡ later ++ accepted → IsWritable (snap accepted).g
  state_ok later accepted e = (lawful m.game).written (view_at (rules m.game) m.first (seat_of viewer) accepted).g (plain_at later accepted e).own

  sync_may : (later accepted : List Accepted) → m.accepted ≡ later ++ accepted → May (Sync name (seat_of viewer) protocol (snapshot_data (rules m.game).sheet (snap accepted)))
  sync_may later accepted e =
      let plain : IsPlain (rules m.game) (view_at (rules m.game) m.first (seat_of viewer) accepted) = plain_at later accepted e in
      sync_reads name (seat_of viewer) protocol (snapshot_data (rules m.game).sheet (snap accepted)) named within
      (snapshot_ok (rules m.game).sheet (lawful m.game).fits (snap accepted) plain.ctx plain.log plain.number (state_ok later accepted e))

  update_by : (p : Protocol) (a : Accepted) (accepted : List Accepted) → IsPlain (rules m.game) (view_at (rules m.game) m.first (seat_of viewer) accepted) → IsPlain (rules m.game) (view_at (rules m.game) m.first (seat_of viewer) (a ∷ accepted))
      → IsWritable (snap accepted).g → IsWritable (snap (a ∷ accepted)).g → May (update_message p (rules m.game).sheet (snap accepted) (snap (a ∷ accepted)))
  update_by One a accepted old new was is =
      update_reads (ctx_data (rules m.game).sheet (snap (a ∷ accepted)).ctx) (newest_entry (rules m.game).sheet (snap (a ∷ accepted)).log) (snap (a ∷ accepted)).g (suc (length accepted))
      (ctx_ok (rules m.game).sheet (lawful m.game).fits (snap (a ∷ accepted)).ctx new.ctx) (newest_ok (rules m.game).sheet (lawful m.game).fits (snap (a ∷ accepted)).log new.log) is new.number
  update_by Two a accepted old new was is =
      change_reads (put_part (ctx_data (rules m.game).sheet (snap accepted).ctx) (ctx_data (rules m.game).sheet (snap (a ∷ accepted)).ctx)) (newest_entry (rules m.game).sheet (snap (a ∷ accepted)).log)
      (gone_part (snap accepted).g (snap (a ∷ accepted)).g) (put_part (snap accepted).g (snap (a ∷ accepted)).g) (length accepted)
      (put_writable (ctx_data (rules m.game).sheet (snap accepted).ctx) (ctx_data (rules m.game).sheet (snap (a ∷ accepted)).ctx) (ctx_ok (rules m.game).sheet (lawful m.game).fits (snap (a ∷ accepted)).ctx new.ctx))
      (newest_ok (rules m.game).sheet (lawful m.game).fits (snap (a ∷ accepted)).log new.log)
      (gone_writable (snap accepted).g (snap (a ∷ accepted)).g was)
      (put_writable (snap accepted).g (snap (a ∷ accepted)).g is)
      refl (all_texts (lost_names (members_in (snap accepted).g) (snap (a ∷ accepted)).g))
      (put_object (snap accepted).g (snap (a ∷ accepted)).g ((lawful m.game).written_object (view_at (rules m.game) m.first (seat_of viewer) (a ∷ accepted)).g new.own)) new.number

  update_may : (p : Protocol) (later : List Accepted) (a : Accepted) (accepted : List Accepted) → m.accepted ≡ later ++ a ∷ accepted → May (update_message p (rules m.game).sheet (snap accepted) (snap (a ∷ accepted)))
  update_may p later a accepted e =
      let before : m.accepted ≡ (later ++ a ∷ []) ++ accepted = e ∙ sym (append_assoc later (a ∷ []) accepted) in
      update_by p a accepted (plain_at (later ++ a ∷ []) accepted before) (plain_at later (a ∷ accepted) e) (state_ok (later ++ a ∷ []) accepted before) (state_ok later (a ∷ accepted) e)

  head_is : (many : ℕ) (accepted : List Accepted) → (snaps many accepted ≡ []) ⊎ ((rest : List Snap) × (snaps many accepted ≡ snap accepted ∷ rest))
  head_is zero accepted = inr ([], refl)
  head_is (suc many) [] = inl refl
  head_is (suc many) (a ∷ accepted) = inr (snaps many accepted, refl)

  pub shown_may : (many : ℕ) (later accepted : List Accepted) → m.accepted ≡ later ++ accepted → AllMay (shown_at (snaps many accepted))
  shown_may zero later accepted e = (sync_may later accepted e, tt)
  shown_may (suc many) later [] e = tt
  shown_may (suc many) later (a ∷ accepted) e = by (head_is many accepted) (shown_may many (later ++ a ∷ []) accepted (e ∙ sym (append_assoc later (a ∷ []) accepted)))
    where
      by : (snaps many accepted ≡ []) ⊎ ((rest : List Snap) × (snaps many accepted ≡ snap accepted ∷ rest)) → AllMay (shown_at (snaps many accepted)) → AllMay (shown_at (snap (a ∷ accepted) ∷ snaps many accepted))
      by (inl none) before = subst (λ l. AllMay (shown_at (snap (a ∷ accepted) ∷ l))) (sym none) (sync_may later (a ∷ accepted) e, tt)
      by (inr some) before =
          subst (λ l. AllMay (shown_at (snap (a ∷ accepted) ∷ l))) (sym some.1) (update_may protocol later a accepted e, subst (λ l. AllMay (shown_at l)) some.1 before)

pub stream_may : (s : Session) → AllMay (showings s.name s.sheet s.viewer s.protocol s.sight) → ItemsFit s.own → AllLines May (stream_of s)
stream_may s h f = stream_have May verdict_ok verdict_no s h f

pub all_read : (ps : List Piece) → AllLines May ps → AllLines IsShallow ps → AllLines ReadsBack ps
all_read [] h k = tt
all_read (Line m ∷ ps) h k = (h.0 k.0, all_read ps h.1 k.1)
all_read (Mark ∷ ps) h k = all_read ps h k
all_read (End why ∷ ps) h k = all_read ps h k
