-- The laws as clauses of functions, over sessions by pass and number.
use Rattle.std.proofs.Common.{◌≡◌, inl, inr, ◌<◌, ℕ, ◌==◌, Bool, true, false, if◌then◌else◌, List, [], ◌∷◌, ◌++◌, length, Some, None, refl, sym, ap, ◌∙◌, subst, append_assoc, append-nil, arith}
use Rattle.std.proofs.lemmas.Bool.Decides.{nat_tests}
use Rattle.game_trait.specs.Rules.{Rules}
use Rattle.room_object.specs.Entry.{Entry}
use Rattle.room_history.specs.Alike.{AreAlike, AreAlikeButForTakes, AreToldAlike}
use Rattle.room_history.specs.Course.{GoesOn, Grows, IsFirstPart, SameView}
use Rattle.wire_json.specs.declared.server.ServerMsg.TheVariants.{Bye as Farewell}
use Rattle.wire_json.specs.ServerText.{text}
use Rattle.room_history.specs.Piece.{End, Line, Mark, Piece, all_lines, lines_to_mark}
use Rattle.room_history.specs.Room.{room_of, session, session_in}
use Rattle.room_history.specs.Sent.{IsToldOf}
use Rattle.room_history.specs.Session.{Session, stream_of}
use Rattle.room_history.specs.declared.call.RoomCall.{RoomCall}
use Rattle.room_history.proofs.Aside.{sent_aside}
use Rattle.room_history.proofs.Cutting.{grows_same, rest, parted}
use Rattle.room_history.proofs.Keeps.{Further, leads_on}
use Rattle.room_history.proofs.Isolation.{Among, good, rest_waits, alike_sent, alike_but_for_takes, handed_alike}
use Rattle.room_history.proofs.Sessions.{Good}
use Rattle.room_history.proofs.Whole.{same_whole}

pub some_session : (s t : Session) → Some s ≡ Some t → s ≡ t
some_session s t h = cc

pub none_session : (s : Session) → None ≡ Some s → ⊥
none_session s h = cc

among_by : (b : Bool) (j : ℕ) (t : Session) (before : List Session) (s : Session) → (session_in j before ≡ Some s → Among s before) → (if b then Some t else session_in j before) ≡ Some s → Among s (t ∷ before)
among_by true j t before s ih e = inl (sym (some_session t s e))
among_by false j t before s ih e = inr (ih e)

pub among : (j : ℕ) (l : List Session) (s : Session) → session_in j l ≡ Some s → Among s l
among j [] s e = absurd (none_session s e)
among j (t ∷ before) s e = among_by (length before == j) j t before s (among j before s) e

below_by : (b : Bool) (j : ℕ) (t : Session) (before : List Session) (s : Session) → (length before == j) ≡ b → (session_in j before ≡ Some s → j < length before) → (if b then Some t else session_in j before) ≡ Some s → j < length (t ∷ before)
below_by true j t before s h ih e = grind (arith, nat_tests)
below_by false j t before s h ih e = omega (arith, ih e)

pub below : (j : ℕ) (l : List Session) (s : Session) → session_in j l ≡ Some s → j < length l
below j [] s e = absurd (none_session s e)
below j (t ∷ before) s e = below_by (length before == j) j t before s refl (below j before s) e

other_length : (j n : ℕ) → j < n → (n == j) ≡ false
other_length j n h = grind (arith, nat_tests)

-- what was handed out grows with the stream
lines_grow : (more ps : List Piece) → IsFirstPart (all_lines ps) (all_lines (more ++ ps))
lines_grow [] ps = ([], sym (append-nil (all_lines ps)))
lines_grow (Line m ∷ more) ps = ((lines_grow more ps).0 ++ text m ∷ [], ap (λ x. x ++ text m ∷ []) (lines_grow more ps).1 ∙ append_assoc (all_lines ps) (lines_grow more ps).0 (text m ∷ []))
lines_grow (Mark ∷ more) ps = lines_grow more ps
lines_grow (End why ∷ more) ps = ((lines_grow more ps).0 ++ text (Farewell why) ∷ [], ap (λ x. x ++ text (Farewell why) ∷ []) (lines_grow more ps).1 ∙ append_assoc (all_lines ps) (lines_grow more ps).0 (text (Farewell why) ∷ []))

handed_grows : (more ps : List Piece) → IsFirstPart (lines_to_mark ps) (lines_to_mark (more ++ ps))
handed_grows [] ps = ([], sym (append-nil (lines_to_mark ps)))
handed_grows (Line m ∷ more) ps = handed_grows more ps
handed_grows (Mark ∷ more) ps =
    (rest ps ++ (lines_grow more ps).0, (lines_grow more ps).1 ∙ ap (λ x. x ++ (lines_grow more ps).0) (parted ps) ∙ append_assoc (lines_to_mark ps) (rest ps) (lines_grow more ps).0)
handed_grows (End why ∷ more) ps = handed_grows more ps

goes_on : (s t : Session) → Good s → Good t → SameView s t → Grows (stream_of s) (stream_of t) → GoesOn s t
goes_on s t g k v w = record {
  view = v;
  stream = w;
  sent = ((handed_grows w.more (stream_of s)).0, k.tied ∙ ap lines_to_mark w.is ∙ (handed_grows w.more (stream_of s)).1 ∙ ap (λ x. x ++ (handed_grows w.more (stream_of s)).0) (sym g.tied));
}

stays_on : (s : Session) → GoesOn s s
stays_on s = record { view = record { name = refl; sheet = refl; viewer = refl; protocol = refl }; stream = grows_same (stream_of s); sent = ([], sym (append-nil s.sent)) }

pub record Later (j : ℕ) (l : List Session) (s : Session) : Type 0 where
  pub t : Session
  pub is : session_in j l ≡ Some t
  pub on : GoesOn s t

later_by : (b : Bool) (j : ℕ) (s0 t0 : Session) (before : List Session) (s : Session) → (length before == j) ≡ b → (if b then Some s0 else session_in j before) ≡ Some s → GoesOn s0 t0 → Later j (t0 ∷ before) s
later_by true j s0 t0 before s h e g = record { t = t0; is = rw h refl; on = subst (λ x. GoesOn x t0) (some_session s0 s e) g }
later_by false j s0 t0 before s h e g = record { t = s; is = rw h e; on = stays_on s }

begun_after : (j : ℕ) (t0 : Session) (l : List Session) (s : Session) → session_in j l ≡ Some s → Later j (t0 ∷ l) s
begun_after j t0 l s e = record { t = s; is = rw (other_length j (length l) (below j l s e)) e; on = stays_on s }

later : (j : ℕ) (old new : List Session) (s : Session) → ((x : Session) → Among x old → Good x) → ((x : Session) → Among x new → Good x) → Further old new → session_in j old ≡ Some s → Later j new s
later j [] new s g k f e = absurd (none_session s e)
later j (s0 ∷ before) [] s g k f e = absurd f
later j (s0 ∷ before) (t0 ∷ after) s g k (inl f) e =
    subst (λ l. Later j (t0 ∷ l) s) (sym f.2) (later_by (length before == j) j s0 t0 before s refl e (goes_on s0 t0 (g s0 (inl refl)) (k t0 (inl refl)) f.0 f.1))
later j (s0 ∷ before) (t0 ∷ after) s g k (inr f) e = subst (λ l. Later j (t0 ∷ l) s) (sym f) (begun_after j t0 (s0 ∷ before) s e)

module _ {X G : Type 0} (rules : X → Rules G) where
  pub good_session : (room : ℕ) (h : List (Entry (RoomCall X))) (pass j : ℕ) (s : Session) → session rules room h pass j ≡ Some s → Good s
  good_session room h pass j s e = good rules room h pass s (among j ((room_of rules room h).sessions pass) s e)

  -- by each entry every session goes on
  pub go_on : (room : ℕ) (h : List (Entry (RoomCall X))) (e : Entry (RoomCall X)) (pass j : ℕ) (s : Session) → session rules room h pass j ≡ Some s → (t : Session) × (session rules room (e ∷ h) pass j ≡ Some t) × GoesOn s t
  go_on room h e pass j s x =
      let l : Later j ((room_of rules room (e ∷ h)).sessions pass) s
      = later j ((room_of rules room h).sessions pass) ((room_of rules room (e ∷ h)).sessions pass) s (good rules room h pass) (good rules room (e ∷ h) pass) (leads_on rules room h e pass) x in
      (l.t, l.is, l.on)

  pub are_told : (room : ℕ) (h : List (Entry (RoomCall X))) (pass j : ℕ) (s : Session) → session rules room h pass j ≡ Some s → IsToldOf s
  are_told room h pass j s e = record { sent = (good_session room h pass j s e).tied; rest = rest_waits s (good_session room h pass j s e); in_order = sent_aside s (good_session room h pass j s e) }

module _ {X G Y H : Type 0} (rules : X → Rules G) (others : Y → Rules H) where
  pub are_sent_alike : (room : ℕ) (h : List (Entry (RoomCall X))) (pass j : ℕ) (s : Session) → session rules room h pass j ≡ Some s
      → (other_room : ℕ) (k : List (Entry (RoomCall Y))) (other i : ℕ) (t : Session) → session others other_room k other i ≡ Some t → AreAlike s t → s.sent ≡ t.sent
  are_sent_alike room h pass j s e other_room k other i t f al =
      alike_sent rules others room h pass s (among j ((room_of rules room h).sessions pass) s e) other_room k other t (among i ((room_of others other_room k).sessions other) t f) al

  pub are_told_alike : (room : ℕ) (h : List (Entry (RoomCall X))) (pass j : ℕ) (s : Session) → session rules room h pass j ≡ Some s
      → (other_room : ℕ) (k : List (Entry (RoomCall Y))) (other i : ℕ) (t : Session) → session others other_room k other i ≡ Some t → AreAlikeButForTakes s t → AreToldAlike s t
  are_told_alike room h pass j s e other_room k other i t f al =
      let g : Good s = good_session rules room h pass j s e in
      let q : Good t = good_session others other_room k other i t f in
      record { stream = alike_but_for_takes rules others s t g q al; sent = handed_alike rules others s t g q al; whole = same_whole s t g q al }
