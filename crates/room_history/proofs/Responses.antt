-- Alike sessions get equal replies to their own calls, over histories.
use Rattle.std.proofs.Common.{◌≡◌, ℕ, ◌==◌, Bool, true, false, if◌then◌else◌, List, ◌∷◌, Some, refl, sym, ap, ◌∙◌, subst, arith}
use Rattle.std.proofs.lemmas.Bool.Decides.{nat_tests}
use Rattle.game_trait.specs.Rules.{Rules}
use Rattle.room_object.specs.Entry.{Entry, entry}
use Rattle.room_history.specs.Alike.{AreAlike, OwnCall, OwnSubmit, OwnTake, OwnDetach, own_call}
use Rattle.room_history.specs.Does.{after_submission}
use Rattle.room_history.proofs.Names.{after_action}
use Rattle.room_history.specs.Match.{Match}
use Rattle.room_history.specs.Reply.{Fate, Unheard, Turned, Goes, fate, submit_reply}
use Rattle.room_history.specs.Room.{room_of, reply, standing, latest_in, latest_session}
use Rattle.room_history.specs.Session.{Session, is_looking, detach_reply, latest_state, latest_take_reply, with_latest}
use Rattle.room_history.specs.Shown.{snapshot}
use Rattle.game_sheet.specs.Viewer.{seat_of}
use Rattle.room_history.specs.declared.call.RoomCall.{RoomCall}
use Rattle.room_history.specs.declared.call.RoomCall.TheVariants.{Submit}
use Rattle.wire_json.specs.declared.submission.Submission.{Submission}
use Rattle.room_history.proofs.Answers.{alike_submit}
use Rattle.room_history.proofs.Clauses.{some_session}
use Rattle.room_history.proofs.Judging.{Latest, latest_is, head_of}
use Rattle.room_history.proofs.Keeps.{list_after, fate_list}
use Rattle.room_history.proofs.Replies.{same_state, alike_takes}

pub same_number : (n : ℕ) → (n == n) ≡ true
same_number n = grind (arith, nat_tests)

module _ {X G : Type 0} (rules : X → Rules G) (room : ℕ) where
  action_own : (m : Match X G) (s : Session) → (after_action rules room m s).own ≡ s.own
  action_own m s = by (is_looking s.own)
    where
      by : (b : Bool) → (if b then record s { sight = snapshot rules m (seat_of s.viewer) ∷ s.sight } else s).own ≡ s.own
      by true = refl
      by false = refl

  own_after : (f : Fate X G) (u : Session) (before : List Session) (t : Session) → latest_in (list_after rules room f (u ∷ before)) ≡ Some t → t.own ≡ u.own
  own_after Unheard u before t e = ap (λ x. x.own) (sym (some_session u t e))
  own_after (Turned n reason) u before t e = ap (λ x. x.own) (sym (some_session u t e))
  own_after (Goes m) u before t e = ap (λ x. x.own) (sym (some_session (after_action rules room m u) t e)) ∙ action_own m u

  -- what a session did once it has submitted something
  pub submitted_own : (h : List (Entry (RoomCall X))) (pass : ℕ) (s t : Session) (sub : Submission) → Latest ((room_of rules room h).sessions pass) s
      → latest_session rules room (entry pass (Submit sub) false ∷ h) pass ≡ Some t → t.own ≡ (after_submission rules room (standing rules room h) sub s).own
  submitted_own h pass s t sub l e =
      own_after (fate rules room (standing rules room h) ((room_of rules room h).sessions pass) sub) (after_submission rules room (standing rules room h) sub s) l.before t
      (subst (λ x. latest_in (list_after rules room (fate rules room (standing rules room h) ((room_of rules room h).sessions pass) sub) (with_latest (after_submission rules room (standing rules room h) sub) x)) ≡ Some t) l.is
      (subst (λ b. latest_in (list_after rules room (fate rules room (standing rules room h) ((room_of rules room h).sessions pass) sub)
      (if b then with_latest (after_submission rules room (standing rules room h) sub) ((room_of rules room h).sessions pass) else (room_of rules room h).sessions pass)) ≡ Some t) (same_number pass)
      (sym (ap latest_in (fate_list rules room (room_of rules room h) pass (after_submission rules room (standing rules room h) sub) (fate rules room (standing rules room h) ((room_of rules room h).sessions pass) sub) pass)) ∙ e)))

module _ {X G Y H : Type 0} (rules : X → Rules G) (others : Y → Rules H) where
  pub replied_alike : (room : ℕ) (h : List (Entry (RoomCall X))) (pass : ℕ) (s : Session) → latest_session rules room h pass ≡ Some s
      → (other_room : ℕ) (k : List (Entry (RoomCall Y))) (other : ℕ) (t : Session) → latest_session others other_room k other ≡ Some t → AreAlike s t
      → (call : OwnCall) (starved : Bool)
      → (s2 : Session) → latest_session rules room (entry pass (own_call call) starved ∷ h) pass ≡ Some s2
      → (t2 : Session) → latest_session others other_room (entry other (own_call call) starved ∷ k) other ≡ Some t2 → s2.own ≡ t2.own
      → reply rules room h (entry pass (own_call call) starved) ≡ reply others other_room k (entry other (own_call call) starved)
  unfolding reply
  replied_alike room h pass s e other_room k other t f al call true s2 e2 t2 f2 o = refl
  replied_alike room h pass s e other_room k other t f al OwnTake false s2 e2 t2 f2 o =
      let l : Latest ((room_of rules room h).sessions pass) s = latest_is ((room_of rules room h).sessions pass) s e in
      let q : Latest ((room_of others other_room k).sessions other) t = latest_is ((room_of others other_room k).sessions other) t f in
      ap latest_take_reply l.is ∙ alike_takes s t al ∙ sym (ap latest_take_reply q.is)
  replied_alike room h pass s e other_room k other t f al OwnDetach false s2 e2 t2 f2 o =
      let l : Latest ((room_of rules room h).sessions pass) s = latest_is ((room_of rules room h).sessions pass) s e in
      let q : Latest ((room_of others other_room k).sessions other) t = latest_is ((room_of others other_room k).sessions other) t f in
      ap (λ x. detach_reply (latest_state x)) l.is ∙ ap detach_reply (same_state s t al) ∙ sym (ap (λ x. detach_reply (latest_state x)) q.is)
  replied_alike room h pass s e other_room k other t f al (OwnSubmit sub) false s2 e2 t2 f2 o =
      let l : Latest ((room_of rules room h).sessions pass) s = latest_is ((room_of rules room h).sessions pass) s e in
      let q : Latest ((room_of others other_room k).sessions other) t = latest_is ((room_of others other_room k).sessions other) t f in
      ap (λ x. submit_reply (fate rules room (standing rules room h) x sub)) l.is
      ∙ alike_submit rules others room (standing rules room h) s l.before (head_of rules room h pass s l) other_room (standing others other_room k) t q.before (head_of others other_room k other t q) al sub
      (sym (submitted_own rules room h pass s s2 sub l e2) ∙ o ∙ submitted_own others other_room k other t t2 sub q f2)
      ∙ sym (ap (λ x. submit_reply (fate others other_room (standing others other_room k) x sub)) q.is)
