-- What each call makes of the outboxes that a room keeps.
use Rattle.std.proofs.Common.{◌≡◌, ℕ, ◌+◌, Bool, true, false, if◌then◌else◌, List, [], ◌∷◌, ◌++◌, Option, Some, None, refl, sym, ap, ◌∙◌, arith}
use Rattle.game_trait.specs.Rules.{Rules}
use Rattle.game_sheet.specs.declared.act.Bye.TheVariants as bye
use Rattle.player_sight.specs.SnapshotData.{Snap}
use Rattle.reducer.specs.Accepted.{Accepted as Deed}
use Rattle.wire_json.specs.declared.reason.Reason.{Reason}
use Rattle.room_history.specs.Course.{IsOpen}
use Rattle.room_history.specs.Does.{is_left}
use Rattle.room_history.specs.Held.{update_for}
use Rattle.room_history.specs.Item.{Accepted, Detached, GameAnswer, Item, Left, Refused, Starved, Submitted, Took, Unasked, number_after}
use Rattle.room_history.specs.Judgment.{present_snapshot}
use Rattle.room_history.specs.Match.{Match, number_of}
use Rattle.wire_json.specs.declared.server.ServerMsg.{ServerMsg}
use Rattle.wire_json.specs.declared.server.ServerMsg.TheVariants.{No, Ok as Yes}
use Rattle.room_history.specs.Outbox.{outbox_in, outbox_of, with_piece_in, with_pieces_in}
use Rattle.room_history.specs.Piece.{Closed, End, Ended, Line, Mark, Open, Piece, State, state_of}
use Rattle.room_history.specs.Session.{Session, is_detached, is_looking, number_in, session_state, stream_of, with_item}
use Rattle.room_history.specs.Showing.{showings, snapshot_of_number, update_message}
use Rattle.room_history.specs.Shown.{snapshot}
use Rattle.room_history.specs.Stream.{cut, public_reason_on, stream, verdict_pieces}
use Rattle.room_history.specs.Verdict.{public_reason}
use Rattle.game_sheet.specs.Viewer.{seat_of}
use Rattle.wire_json.specs.declared.submission.Submission.{Submission}
use Rattle.room_history.proofs.Growing.{shown_new}
use Rattle.room_history.proofs.Growth.{grown}
use Rattle.room_history.proofs.Keeps.{Fits, Head}
use Rattle.room_history.proofs.Isolation.{public_found}
use Rattle.room_history.proofs.Outboxes.{kept_cut}
use Rattle.room_history.proofs.Sessions.{Good, pieces_of, with_snap, plus_item, item_adds, snap_pieces, accepted_pieces, says_in, told_next, next_told}
use Rattle.std.specs.Option.{option_or, option_map_or}
use Rattle.room_history.proofs.Names.{after_action, after_leaving, after_detach, after_take, answer_by}

kept_all : (more ps : List Piece) → outbox_in (state_of (cut (more ++ ps))) (cut (more ++ ps)) ≡ with_pieces_in more (outbox_in (state_of (cut ps)) (cut ps))
kept_all [] ps = refl
kept_all (p ∷ more) ps = kept_cut p (more ++ ps) ∙ ap (with_piece_in p) (kept_all more ps)

none_gains : (more : List Piece) → with_pieces_in more None ≡ None
none_gains [] = refl
none_gains (p ∷ more) = rw (none_gains more) refl

-- what is kept of a session whose long list grew
pub kept_more : (s t : Session) (more : List Piece) → is_detached t.own ≡ is_detached s.own → pieces_of t ≡ more ++ pieces_of s → outbox_of t ≡ with_pieces_in more (outbox_of s)
unfolding stream
kept_more s t more c e = by (is_detached s.own) refl
  where
    by : (b : Bool) → is_detached s.own ≡ b → outbox_of t ≡ with_pieces_in more (outbox_of s)
    by true d = rw (c, d) (sym (none_gains more))
    by false d = rw (c, d) (ap (λ ps. outbox_in (state_of (cut ps)) (cut ps)) e ∙ kept_all more (pieces_of s))

-- who isn't open gains no line
ended_gains : (st : State) (ps : List Piece) (m : ServerMsg) → (IsOpen st → ⊥) → with_piece_in (Line m) (outbox_in st ps) ≡ outbox_in st ps
ended_gains Open ps m h = absurd (h tt)
ended_gains (Ended why) ps m h = refl
ended_gains Closed ps m h = refl

ended_ends : (st : State) (ps : List Piece) → (IsOpen st → ⊥) → with_piece_in (End bye.Left) (outbox_in st ps) ≡ outbox_in st ps
ended_ends Open ps h = absurd (h tt)
ended_ends (Ended why) ps h = refl
ended_ends Closed ps h = refl

no_both : false ≡ true → ⊥
no_both h = cc

some_same : (r s : Reason) → Some r ≡ Some s → r ≡ s
some_same r s h = cc

none_some : (r : Reason) → None ≡ Some r → ⊥
none_some r h = cc

not_open : (s : Session) → Good s → is_looking s.own ≡ false → IsOpen (session_state s) → ⊥
not_open s g l o = no_both (sym l ∙ g.goes_on o)

-- a session that looks isn't detached
looks_open : (own : List Item) → is_looking own ≡ true → is_detached own ≡ false
looks_open [] h = refl
looks_open (Submitted n s answer ∷ own) h = refl
looks_open (Took n ∷ own) h = refl
looks_open (Left n ∷ own) h = refl
looks_open (Detached n ∷ own) h = absurd (no_both h)

pub take_kept : (s : Session) → Good s → outbox_of (after_take s) ≡ with_piece_in Mark (outbox_of s)
take_kept s g = by (is_detached s.own) refl
  where
    by : (b : Bool) → is_detached s.own ≡ b → outbox_of (after_take s) ≡ with_piece_in Mark (outbox_of s)
    by true c = rw (c, c) refl
    by false c = rw c (kept_more s (plus_item s (Took (number_in s.sight))) (Mark ∷ []) (sym c) (item_adds s g (Took (number_in s.sight)) refl) ∙ rw c refl)

module _ {X G : Type 0} (rules : X → Rules G) (room : ℕ) where
  pub detach_kept : (s : Session) → outbox_of (after_detach s) ≡ None
  detach_kept s = by (is_detached s.own) refl
    where
      by : (b : Bool) → is_detached s.own ≡ b → outbox_of (after_detach s) ≡ None
      by true c = rw (c, c) refl
      by false c = rw c refl

  module _ (m : Match X G) (a : Deed) where
    abbrev n : Match X G
    n = grown m a

    news_line : (s : Session) → Fits rules room m s → update_message s.protocol s.sheet (snapshot rules m (seat_of s.viewer)) (snapshot rules n (seat_of s.viewer)) ≡ update_for rules m n (seat_of s.viewer) s.protocol
    news_line s f =
        ap (λ sheet. update_message s.protocol sheet (snapshot rules m (seat_of s.viewer)) (snapshot rules n (seat_of s.viewer))) f.sheet

    news_pieces : (s : Session) → Good s → Fits rules room m s → pieces_of (with_snap s (snapshot rules n (seat_of s.viewer))) ≡ Line (update_for rules m n (seat_of s.viewer) s.protocol) ∷ pieces_of s
    news_pieces s g f =
        snap_pieces s g (snapshot rules m (seat_of s.viewer)) (snapshot rules n (seat_of s.viewer)) f.before f.top (omega arith)
        ∙ ap (λ msg. Line msg ∷ pieces_of s) (news_line s f)

  -- an accepted action: everybody's outbox gains the line of its seat and protocol
  pub news_kept : (m : Match X G) (a : Deed) (s : Session) (before : List Session) → Head rules room (Some m) s before
      → outbox_of (after_action rules room (grown m a) s) ≡ with_piece_in (Line (update_for rules m (grown m a) (seat_of s.viewer) s.protocol)) (outbox_of s)
  news_kept m a s before k = by (is_looking s.own) refl
    where
      by : (b : Bool) → is_looking s.own ≡ b → outbox_of (after_action rules room (grown m a) s) ≡ with_piece_in (Line (update_for rules m (grown m a) (seat_of s.viewer) s.protocol)) (outbox_of s)
      by true l = rw l (kept_more s (with_snap s (snapshot rules (grown m a) (seat_of s.viewer))) (Line (update_for rules m (grown m a) (seat_of s.viewer) s.protocol) ∷ []) refl (news_pieces m a s k.good (k.fits l)))
      by false l = rw l (sym (ended_gains (session_state s) (stream_of s) (update_for rules m (grown m a) (seat_of s.viewer) s.protocol) (not_open s k.good l)))

  -- a leaving
  pub leave_kept : (seat : ℕ) (gone : Bool) (s : Session) → Good s → outbox_of (after_leaving seat gone s) ≡ (if is_left seat gone s.viewer then with_piece_in (End bye.Left) (outbox_of s) else outbox_of s)
  leave_kept seat gone s g = by (is_looking s.own) (is_left seat gone s.viewer) refl refl
    where
      by : (b c : Bool) → is_looking s.own ≡ b → is_left seat gone s.viewer ≡ c → outbox_of (after_leaving seat gone s) ≡ (if is_left seat gone s.viewer then with_piece_in (End bye.Left) (outbox_of s) else outbox_of s)
      by true true l e = rw (l, e) (kept_more s (plus_item s (Left (number_in s.sight))) (End bye.Left ∷ []) (sym (looks_open s.own l)) (item_adds s g (Left (number_in s.sight)) refl))
      by true false l e = rw (l, e) refl
      by false true l e = rw (l, e) (sym (ended_ends (session_state s) (stream_of s) (not_open s g l)))
      by false false l e = rw (l, e) refl

  -- a session's own submission: nobody hears it
  unheard_gains : (c : Session) (n ticket : ℕ) (o : Option Reason) (answer : GameAnswer) → (IsOpen (session_state c) → ⊥) → with_pieces_in (verdict_pieces n ticket o answer) (outbox_of c) ≡ outbox_of c
  unheard_gains c n ticket None Starved h = refl
  unheard_gains c n ticket None Unasked h = refl
  unheard_gains c n ticket None Accepted h = ended_gains (session_state c) (stream_of c) (Yes (n + 1) ticket) h
  unheard_gains c n ticket None (Refused r) h = ended_gains (session_state c) (stream_of c) (No n r ticket) h
  unheard_gains c n ticket (Some r) Starved h = refl
  unheard_gains c n ticket (Some r) Unasked h = ended_gains (session_state c) (stream_of c) (No n r ticket) h
  unheard_gains c n ticket (Some r) Accepted h = ended_gains (session_state c) (stream_of c) (No n r ticket) h
  unheard_gains c n ticket (Some r) (Refused q) h = ended_gains (session_state c) (stream_of c) (No n r ticket) h

  did_kept : (c : Session) → Good c → (sub : Submission) (answer : GameAnswer) → number_after (Submitted (number_in c.sight) sub answer) ≡ number_in c.sight
      → outbox_of (with_item (Submitted (number_in c.sight) sub answer) c) ≡ with_pieces_in (says_in c (Submitted (number_in c.sight) sub answer)) (outbox_of c)
  did_kept c g sub answer r = by (is_detached c.own) refl
    where
      by : (b : Bool) → is_detached c.own ≡ b → outbox_of (with_item (Submitted (number_in c.sight) sub answer) c) ≡ with_pieces_in (says_in c (Submitted (number_in c.sight) sub answer)) (outbox_of c)
      by true e = rw (e, e) (sym (none_gains (says_in c (Submitted (number_in c.sight) sub answer))))
      by false e = rw e (kept_more c (plus_item c (Submitted (number_in c.sight) sub answer)) (says_in c (Submitted (number_in c.sight) sub answer)) (sym e) (item_adds c g (Submitted (number_in c.sight) sub answer) r) ∙ rw e refl)

  pub unheard_kept : (c : Session) → Good c → (sub : Submission) → (IsOpen (session_state c) → ⊥) → outbox_of (with_item (Submitted (number_in c.sight) sub Unasked) c) ≡ outbox_of c
  unheard_kept c g sub h = did_kept c g sub Unasked refl ∙ unheard_gains c (number_in c.sight) sub.ticket (public_reason_on c.name c.sheet c.viewer (present_snapshot c) sub) Unasked h

  pub starved_kept : (c : Session) → Good c → (sub : Submission) → outbox_of (with_item (Submitted (number_in c.sight) sub Starved) c) ≡ outbox_of c
  starved_kept c g sub = did_kept c g sub Starved refl ∙ by (public_reason_on c.name c.sheet c.viewer (present_snapshot c) sub)
    where
      by : (o : Option Reason) → with_pieces_in (verdict_pieces (number_in c.sight) sub.ticket o Starved) (outbox_of c) ≡ outbox_of c
      by None = refl
      by (Some r) = refl

  -- it is refused: the session's own outbox gains the line that says why, and no other outbox anything
  pub refused_kept : (m : Match X G) (c : Session) → Good c → Fits rules room m c → (sub : Submission) (r : Reason) (p g : Option Reason) → public_reason rules room m c.viewer sub ≡ p → option_or p g ≡ Some r
      → outbox_of (with_item (Submitted (number_in c.sight) sub (option_map_or (λ reason. Unasked) p (answer_by g))) c) ≡ with_piece_in (Line (No (number_of m) r sub.ticket)) (outbox_of c)
  refused_kept m c g f sub r (Some q) o pe e =
      did_kept c g sub Unasked refl
      ∙ ap (λ x. with_pieces_in (verdict_pieces (number_in c.sight) sub.ticket x Unasked) (outbox_of c)) (public_found rules room m c f sub ∙ pe)
      ∙ ap (λ x. with_piece_in (Line (No (number_in c.sight) x sub.ticket)) (outbox_of c)) (some_same q r e)
      ∙ ap (λ x. with_piece_in (Line (No x r sub.ticket)) (outbox_of c)) (ap number_in f.top)
  refused_kept m c g f sub r None (Some q) pe e =
      did_kept c g sub (Refused q) refl
      ∙ ap (λ x. with_pieces_in (verdict_pieces (number_in c.sight) sub.ticket x (Refused q)) (outbox_of c)) (public_found rules room m c f sub ∙ pe)
      ∙ ap (λ x. with_piece_in (Line (No (number_in c.sight) x sub.ticket)) (outbox_of c)) (some_same q r e)
      ∙ ap (λ x. with_piece_in (Line (No x r sub.ticket)) (outbox_of c)) (ap number_in f.top)
  refused_kept m c g f sub r None None pe e = absurd (none_some r e)

  -- it is accepted: its own outbox gains the line of the action, and then the verdict
  pub accepted_kept : (m : Match X G) (a : Deed) (c : Session) → Good c → Fits rules room m c → is_looking c.own ≡ true → (sub : Submission) → public_reason rules room m c.viewer sub ≡ None
      → outbox_of (after_action rules room (grown m a) (with_item (Submitted (number_in c.sight) sub Accepted) c))
      ≡ with_piece_in (Line (Yes (number_of m + 1) sub.ticket)) (with_piece_in (Line (update_for rules m (grown m a) (seat_of c.viewer) c.protocol)) (outbox_of c))
  accepted_kept m a c g f l sub pe =
      ap outbox_of same
      ∙ kept_more c after (Line (Yes (number_of m + 1) sub.ticket) ∷ Line (update_for rules m (grown m a) (seat_of c.viewer) c.protocol) ∷ []) (sym (looks_open c.own l)) shape
    where
      x : Snap
      x = snapshot rules m (seat_of c.viewer)

      after : Session
      after = with_snap (plus_item c (Submitted (number_in c.sight) sub Accepted)) (snapshot rules (grown m a) (seat_of c.viewer))

      same : after_action rules room (grown m a) (with_item (Submitted (number_in c.sight) sub Accepted) c) ≡ with_snap (plus_item c (Submitted (number_in c.sight) sub Accepted)) (snapshot rules (grown m a) (seat_of c.viewer))
      same = rw (looks_open c.own l, l) refl

      next : snapshot_of_number (number_in c.sight) (showings c.name c.sheet c.viewer c.protocol (snapshot rules (grown m a) (seat_of c.viewer) ∷ c.sight)) ≡ present_snapshot c
      next =
          ap (λ shown. snapshot_of_number (number_in c.sight) shown) (told_next c (snapshot rules m (seat_of c.viewer)) (snapshot rules (grown m a) (seat_of c.viewer)) f.before f.top)
          ∙ shown_new c.name c.sheet c.viewer (number_in c.sight) (next_told c (snapshot rules m (seat_of c.viewer)) (snapshot rules (grown m a) (seat_of c.viewer))) (showings c.name c.sheet c.viewer c.protocol c.sight) (omega (arith, ap number_in f.top))

      shape : pieces_of (with_snap (plus_item c (Submitted (number_in c.sight) sub Accepted)) (snapshot rules (grown m a) (seat_of c.viewer)))
          ≡ Line (Yes (number_of m + 1) sub.ticket) ∷ Line (update_for rules m (grown m a) (seat_of c.viewer) c.protocol) ∷ pieces_of c
      shape =
          accepted_pieces c g (snapshot rules m (seat_of c.viewer)) (snapshot rules (grown m a) (seat_of c.viewer)) f.before f.top sub (omega arith)
          ∙ ap (λ o. verdict_pieces (number_in c.sight) sub.ticket (public_reason_on c.name c.sheet c.viewer o sub) Accepted
          ++ (Line (update_message c.protocol c.sheet (snapshot rules m (seat_of c.viewer)) (snapshot rules (grown m a) (seat_of c.viewer))) ∷ pieces_of c)) next
          ∙ ap (λ o. verdict_pieces (number_in c.sight) sub.ticket o Accepted
          ++ (Line (update_message c.protocol c.sheet (snapshot rules m (seat_of c.viewer)) (snapshot rules (grown m a) (seat_of c.viewer))) ∷ pieces_of c)) (public_found rules room m c f sub ∙ pe)
          ∙ ap (λ n. Line (Yes (n + 1) sub.ticket) ∷ Line (update_message c.protocol c.sheet (snapshot rules m (seat_of c.viewer)) (snapshot rules (grown m a) (seat_of c.viewer))) ∷ pieces_of c) (ap number_in f.top)
          ∙ ap (λ msg. Line (Yes (number_of m + 1) sub.ticket) ∷ Line msg ∷ pieces_of c) (news_line m a c f)
