-- Alike sessions get equal replies to their own calls.
use Rattle.std.proofs.Common.{◌≡◌, ℕ, Bool, true, false, if◌then◌else◌, List, ◌∷◌, Option, refl, sym, ap, ◌∙◌, subst}
use Rattle.game_trait.specs.Rules.{Rules}
use Rattle.wire_json.specs.declared.reason.Reason.{Reason}
use Rattle.room_history.specs.Alike.{AreAlike}
use Rattle.room_history.specs.Does.{after_submission}
use Rattle.room_history.specs.Item.{GameAnswer, Item, Submitted}
use Rattle.room_history.specs.Judgment.{present_snapshot, verdict_in}
use Rattle.room_history.specs.Match.{Match}
use Rattle.room_history.specs.Piece.{Closed, Ended, Open, State, state_of}
use Rattle.room_history.specs.Reply.{fate_in, game_answer, submit_reply}
use Rattle.room_history.specs.Session.{Session, is_detached, number_in, session_state, stream_of, with_item}
use Rattle.room_history.specs.Stream.{public_reason_on}
use Rattle.wire_json.specs.declared.submission.Submission.{Submission}
use Rattle.room_history.proofs.Keeps.{Head}
use Rattle.room_history.proofs.Replies.{submission_answered, same_state}
use Rattle.room_history.specs.Course.{IsOpen}

answer_same : (n k : ℕ) (s t : Submission) (a b : GameAnswer) (own with_item : List Item) → (Submitted n s a ∷ own) ≡ (Submitted k t b ∷ with_item) → a ≡ b
answer_same n k s t a b own with_item h = cc

not_closed : (b : Bool) (state : State) → (if b then Closed else state) ≡ Open → b ≡ false
not_closed true state e = absurd (subst (λ st. IsOpen st → ⊥) (sym (sym e)) (λ h. h) tt)
not_closed false state e = refl

replied_same : (st : State) (n : ℕ) (o : Option Reason) (a b : GameAnswer) → (st ≡ Open → a ≡ b) → verdict_in st n o a ≡ verdict_in st n o b
replied_same Open n o a b h = ap (verdict_in Open n o) (h refl)
replied_same (Ended why) n o a b h = refl
replied_same Closed n o a b h = refl

module _ {X G Y H : Type 0} (rules : X → Rules G) (others : Y → Rules H) where
  -- alike before and after, they were answered the same
  pub alike_submit : (room : ℕ) (st : Option (Match X G)) (c : Session) (before : List Session) → Head rules room st c before
      → (other_room : ℕ) (su : Option (Match Y H)) (d : Session) (earlier : List Session) → Head others other_room su d earlier
      → AreAlike c d → (sub : Submission) → (after_submission rules room st sub c).own ≡ (after_submission others other_room su sub d).own
      → submit_reply (fate_in rules room st (session_state c) c.viewer sub) ≡ submit_reply (fate_in others other_room su (session_state d) d.viewer sub)
  alike_submit room st c before k other_room su d earlier l a sub e =
      submission_answered rules room st c before k sub
      ∙ replied_same (session_state c) (number_in c.sight) (public_reason_on c.name c.sheet c.viewer (present_snapshot c) sub) (game_answer rules room st (session_state c) c.viewer sub) (game_answer others other_room su (session_state d) d.viewer sub) same
      ∙ rest ∙ sym (submission_answered others other_room su d earlier l sub)
    where
      same : session_state c ≡ Open → game_answer rules room st (session_state c) c.viewer sub ≡ game_answer others other_room su (session_state d) d.viewer sub
      same o =
          answer_same (number_in c.sight) (number_in d.sight) sub sub (game_answer rules room st (session_state c) c.viewer sub) (game_answer others other_room su (session_state d) d.viewer sub) c.own d.own
          (sym (by c (after_submission rules room st sub c).own (game_answer rules room st (session_state c) c.viewer sub) (not_closed (is_detached c.own) (state_of (stream_of c)) o) refl)
          ∙ e ∙ by d (after_submission others other_room su sub d).own (game_answer others other_room su (session_state d) d.viewer sub) (not_closed (is_detached d.own) (state_of (stream_of d)) (sym (same_state c d a) ∙ o)) refl)
        where
          by : (s : Session) (own : List Item) (answer : GameAnswer) → is_detached s.own ≡ false → own ≡ (with_item (Submitted (number_in s.sight) sub answer) s).own → own ≡ Submitted (number_in s.sight) sub answer ∷ s.own
          by s own answer c e = e ∙ rw c refl

      rest : verdict_in (session_state c) (number_in c.sight) (public_reason_on c.name c.sheet c.viewer (present_snapshot c) sub) (game_answer others other_room su (session_state d) d.viewer sub)
          ≡ verdict_in (session_state d) (number_in d.sight) (public_reason_on d.name d.sheet d.viewer (present_snapshot d) sub) (game_answer others other_room su (session_state d) d.viewer sub)
      rest = rw (same_state c d a, a.see.name, a.see.sheet, a.see.viewer, a.see.protocol, a.see.sight) refl
