-- What a submission makes of each pass's outbox, said of what is kept.
use Rattle.std.proofs.Common.{◌≡◌, ℕ, ◌+◌, Bool, true, false, if◌then◌else◌, List, [], ◌∷◌, Option, Some, None, option_map, refl, sym, ap, ◌∙◌, subst}
use Rattle.game_trait.specs.Rules.{Rules}
use Rattle.reducer.specs.Accepted.{Accepted as Deed}
use Rattle.wire_json.specs.declared.reason.Reason.{Reason}
use Rattle.room_history.specs.Course.{IsOpen, SameView}
use Rattle.room_history.specs.Does.{after_submission}
use Rattle.room_history.specs.Held.{attachment_after_action, attachment_after_submission, attachment_with, update_for}
use Rattle.room_history.specs.Item.{Accepted, Item, Submitted, Unasked}
use Rattle.room_history.specs.Match.{Match, number_of}
use Rattle.wire_json.specs.declared.server.ServerMsg.TheVariants.{No, Ok as Yes}
use Rattle.room_history.specs.Outbox.{Outbox, attachment_of, outbox_of, outbox_with, with_outbox, with_piece_in}
use Rattle.room_history.specs.Piece.{Closed, Ended, Line, Open, Piece, State}
use Rattle.room_history.specs.Reply.{Fate, Goes, Turned, Unheard, fate, fate_in, game_answer}
use Rattle.room_history.proofs.Names.{after_action, fate_by, answer_by}
use Rattle.room_history.specs.Session.{Session, is_detached, is_looking, number_in, session_state, with_item, with_latest}
use Rattle.room_history.specs.Verdict.{game_reason, match_accepting, public_reason}
use Rattle.room_history.specs.Shown.{snapshot}
use Rattle.game_sheet.specs.Viewer.{seat_of}
use Rattle.wire_json.specs.declared.submission.Submission.{Submission}
use Rattle.room_history.proofs.Growth.{accept_grows}
use Rattle.room_history.proofs.Growth.{grown}
use Rattle.room_history.proofs.Holding.{news_kept, accepted_kept, refused_kept, unheard_kept}
use Rattle.room_history.proofs.Keeps.{Head, Fits, Listed, FateFrom, fate_from, list_after}
use Rattle.room_history.proofs.Sessions.{Good, plus_item, with_snap}
use Rattle.std.specs.Option.{option_or, option_map_or}

pub kept_face : (s t : Session) → SameView s t → (o : Option Outbox) → option_map (with_outbox t) o ≡ option_map (with_outbox s) o
kept_face s t f o = rw (f.viewer, f.protocol) refl

pub gained : (s : Session) (p : Piece) (o : Option Outbox) → option_map (with_outbox s) (with_piece_in p o) ≡ attachment_with p (option_map (with_outbox s) o)
gained s p None = refl
gained s p (Some o) = by (outbox_with p o)
  where
    by : (x : Option Outbox) → option_map (with_outbox s) x ≡ option_map (λ o. record (with_outbox s o) { outbox = o }) x
    by None = refl
    by (Some x) = refl

pub did_faces : (s : Session) (item : Item) → SameView s (with_item item s)
did_faces s item = by (is_detached s.own)
  where
    by : (b : Bool) → SameView s (if b then s else plus_item s item)
    by true = record { name = refl; sheet = refl; viewer = refl; protocol = refl }
    by false = record { name = refl; sheet = refl; viewer = refl; protocol = refl }

module _ {X G : Type 0} (rules : X → Rules G) (room : ℕ) where
  shows_faces : (n : Match X G) (s : Session) → SameView s (after_action rules room n s)
  shows_faces n s = by (is_looking s.own)
    where
      by : (b : Bool) → SameView s (if b then with_snap s (snapshot rules n (seat_of s.viewer)) else s)
      by true = record { name = refl; sheet = refl; viewer = refl; protocol = refl }
      by false = record { name = refl; sheet = refl; viewer = refl; protocol = refl }

  heard_by : (m n : Match X G) (s : Session) (o : Option Outbox) → option_map (with_outbox s) (with_piece_in (Line (update_for rules m n (seat_of s.viewer) s.protocol)) o) ≡ attachment_after_action rules m n (option_map (with_outbox s) o)
  heard_by m n s None = refl
  heard_by m n s (Some o) = gained s (Line (update_for rules m n (seat_of s.viewer) s.protocol)) (Some o)

  -- another pass's accepted action
  other_kept : (m : Match X G) (a : Deed) (s : Session) (before : List Session) → Head rules room (Some m) s before
      → attachment_of (after_action rules room (grown m a) s ∷ before) ≡ attachment_after_action rules m (grown m a) (attachment_of (s ∷ before))
  other_kept m a s before k =
      kept_face s (after_action rules room (grown m a) s) (shows_faces (grown m a) s) (outbox_of (after_action rules room (grown m a) s))
      ∙ ap (option_map (with_outbox s)) (news_kept rules room m a s before k) ∙ heard_by m (grown m a) s (outbox_of s)

  -- its own accepted action
  own_kept : (m : Match X G) (a : Deed) (c : Session) (before : List Session) → Good c → Fits rules room m c → is_looking c.own ≡ true → (sub : Submission) → public_reason rules room m c.viewer sub ≡ None
      → attachment_of (after_action rules room (grown m a) (with_item (Submitted (number_in c.sight) sub Accepted) c) ∷ before)
      ≡ attachment_with (Line (Yes (number_of m + 1) sub.ticket)) (attachment_after_action rules m (grown m a) (attachment_of (c ∷ before)))
  own_kept m a c before g f l sub pe =
      kept_face (with_item (Submitted (number_in c.sight) sub Accepted) c) (after_action rules room (grown m a) (with_item (Submitted (number_in c.sight) sub Accepted) c)) (shows_faces (grown m a) (with_item (Submitted (number_in c.sight) sub Accepted) c)) after
      ∙ kept_face c (with_item (Submitted (number_in c.sight) sub Accepted) c) (did_faces c (Submitted (number_in c.sight) sub Accepted)) after
      ∙ ap (option_map (with_outbox c)) (accepted_kept rules room m a c g f l sub pe)
      ∙ gained c (Line (Yes (number_of m + 1) sub.ticket)) (with_piece_in (Line (update_for rules m (grown m a) (seat_of c.viewer) c.protocol)) (outbox_of c))
      ∙ ap (attachment_with (Line (Yes (number_of m + 1) sub.ticket))) (heard_by m (grown m a) c (outbox_of c))
    where
      after : Option Outbox
      after = outbox_of (after_action rules room (grown m a) (with_item (Submitted (number_in c.sight) sub Accepted) c))

  -- its own refused action
  turned_kept : (m : Match X G) (c : Session) (before : List Session) → Good c → Fits rules room m c → (sub : Submission) (r : Reason) (p g : Option Reason) → public_reason rules room m c.viewer sub ≡ p → option_or p g ≡ Some r
      → attachment_of (with_item (Submitted (number_in c.sight) sub (option_map_or (λ reason. Unasked) p (answer_by g))) c ∷ before) ≡ attachment_with (Line (No (number_of m) r sub.ticket)) (attachment_of (c ∷ before))
  turned_kept m c before g f sub r p q pe e =
      kept_face c (with_item (Submitted (number_in c.sight) sub (option_map_or (λ reason. Unasked) p (answer_by q))) c) (did_faces c (Submitted (number_in c.sight) sub (option_map_or (λ reason. Unasked) p (answer_by q)))) (outbox_of (with_item (Submitted (number_in c.sight) sub (option_map_or (λ reason. Unasked) p (answer_by q))) c))
      ∙ ap (option_map (with_outbox c)) (refused_kept rules room m c g f sub r p q pe e)
      ∙ gained c (Line (No (number_of m) r sub.ticket)) (outbox_of c)

  unheard : (c : Session) (before : List Session) → Good c → (sub : Submission) → (IsOpen (session_state c) → ⊥) → attachment_of (with_item (Submitted (number_in c.sight) sub Unasked) c ∷ before) ≡ attachment_of (c ∷ before)
  unheard c before g sub h =
      kept_face c (with_item (Submitted (number_in c.sight) sub Unasked) c) (did_faces c (Submitted (number_in c.sight) sub Unasked)) (outbox_of (with_item (Submitted (number_in c.sight) sub Unasked) c))
      ∙ ap (option_map (with_outbox c)) (unheard_kept rules room c g sub h)

  own_live : (m : Match X G) (c : Session) (before : List Session) → Good c → Fits rules room m c → is_looking c.own ≡ true → (sub : Submission) → (p g : Option Reason) → public_reason rules room m c.viewer sub ≡ p → game_reason rules m c.viewer sub ≡ g
      → attachment_of (list_after rules room (fate_by rules room m c.viewer sub (option_or p g)) (with_item (Submitted (number_in c.sight) sub (option_map_or (λ reason. Unasked) p (answer_by g))) c ∷ before))
      ≡ attachment_after_submission rules (Some m) (fate_by rules room m c.viewer sub (option_or p g)) true sub.ticket (attachment_of (c ∷ before))
  own_live m c before g f l sub (Some r) q pe ge = turned_kept m c before g f sub r (Some r) q pe refl
  own_live m c before g f l sub None (Some r) pe ge = turned_kept m c before g f sub r None (Some r) pe refl
  own_live m c before g f l sub None None pe ge =
      let grows : (a : Deed) × (match_accepting rules m c.viewer sub ≡ grown m a) = accept_grows rules room m c.viewer sub (rw (pe, ge) refl) in
      subst (λ n. attachment_of (after_action rules room n (with_item (Submitted (number_in c.sight) sub Accepted) c) ∷ before) ≡ attachment_with (Line (Yes (number_of m + 1) sub.ticket)) (attachment_after_action rules m n (attachment_of (c ∷ before)))) (sym grows.1)
      (own_kept m grows.0 c before g f l sub pe)

  open_is : (st : State) → st ≡ Open → IsOpen st
  open_is st e = subst IsOpen (sym e) tt

  own_head : (st : Option (Match X G)) (c : Session) (before : List Session) (sub : Submission) → Head rules room st c before → (state : State) → session_state c ≡ state
      → attachment_of (list_after rules room (fate_in rules room st state c.viewer sub) (with_item (Submitted (number_in c.sight) sub (game_answer rules room st state c.viewer sub)) c ∷ before))
      ≡ attachment_after_submission rules st (fate_in rules room st state c.viewer sub) true sub.ticket (attachment_of (c ∷ before))
  own_head (Some m) c before sub k Open e =
      own_live m c before k.good (k.fits (k.good.goes_on (open_is (session_state c) e))) (k.good.goes_on (open_is (session_state c) e)) sub (public_reason rules room m c.viewer sub) (game_reason rules m c.viewer sub) refl refl
  own_head (Some m) c before sub k (Ended why) e = unheard c before k.good sub (λ o. subst IsOpen e o)
  own_head (Some m) c before sub k Closed e = unheard c before k.good sub (λ o. subst IsOpen e o)
  own_head None c before sub k Open e = absurd (no_both (sym k.fits ∙ k.good.goes_on (open_is (session_state c) e)))
    where
      no_both : false ≡ true → ⊥
      no_both h = cc
  own_head None c before sub k (Ended why) e = unheard c before k.good sub (λ o. subst IsOpen e o)
  own_head None c before sub k Closed e = unheard c before k.good sub (λ o. subst IsOpen e o)

  own_submit : (st : Option (Match X G)) (l : List Session) (sub : Submission) → Listed rules room st l
      → attachment_of (list_after rules room (fate rules room st l sub) (with_latest (after_submission rules room st sub) l)) ≡ attachment_after_submission rules st (fate rules room st l sub) true sub.ticket (attachment_of l)
  own_submit None [] sub k = refl
  own_submit (Some m) [] sub k = refl
  own_submit st (c ∷ before) sub k = own_head st c before sub k (session_state c) refl

  other_goes : (m : Match X G) (a : Deed) (l : List Session) → Listed rules room (Some m) l → attachment_of (with_latest (after_action rules room (grown m a)) l) ≡ attachment_after_action rules m (grown m a) (attachment_of l)
  other_goes m a [] k = refl
  other_goes m a (s ∷ before) k = other_kept m a s before k

  other_submit : (st : Option (Match X G)) (f : Fate X G) (l : List Session) (ticket : ℕ) → FateFrom rules room st f → Listed rules room st l
      → attachment_of (list_after rules room f l) ≡ attachment_after_submission rules st f false ticket (attachment_of l)
  other_submit None Unheard l ticket g k = refl
  other_submit (Some m) Unheard l ticket g k = refl
  other_submit None (Turned n r) l ticket g k = refl
  other_submit (Some m) (Turned n r) l ticket g k = refl
  other_submit st (Goes n) l ticket g k =
      subst (λ x. attachment_of (with_latest (after_action rules room x) l) ≡ attachment_after_submission rules st (Goes x) false ticket (attachment_of l)) (sym g.is)
      (subst (λ st. attachment_of (with_latest (after_action rules room (grown g.m g.a)) l) ≡ attachment_after_submission rules st (Goes (grown g.m g.a)) false ticket (attachment_of l)) (sym g.stood)
      (other_goes g.m g.a l (subst (λ st. Listed rules room st l) g.stood k)))

  -- what a submission makes of each pass's outbox
  pub submit_holds : (b : Bool) (st : Option (Match X G)) (caller l : List Session) (sub : Submission) → (b ≡ true → caller ≡ l) → Listed rules room st l
      → attachment_of (list_after rules room (fate rules room st caller sub) (if b then with_latest (after_submission rules room st sub) l else l)) ≡ attachment_after_submission rules st (fate rules room st caller sub) b sub.ticket (attachment_of l)
  submit_holds false st caller l sub e k = other_submit st (fate rules room st caller sub) l sub.ticket (fate_from rules room st caller sub) k
  submit_holds true st caller l sub e k =
      subst (λ x. attachment_of (list_after rules room (fate rules room st x sub) (with_latest (after_submission rules room st sub) l)) ≡ attachment_after_submission rules st (fate rules room st x sub) true sub.ticket (attachment_of l)) (sym (e refl)) (own_submit st l sub k)
