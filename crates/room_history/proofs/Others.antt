-- A Take, a Detach, a refused action and want of memory leave everybody else as they were.
use Rattle.std.proofs.Common.{◌≡◌, ◌≢◌, ℕ, ◌==◌, Bool, true, false, if◌then◌else◌, List, [], ◌∷◌, Option, Some, None, option_map, refl, ap, ◌∙◌, arith}
use Rattle.std.proofs.lemmas.Bool.Decides.{nat_tests}
use Rattle.game_trait.specs.Rules.{Rules}
use Rattle.room_object.specs.Entry.{Entry, entry}
use Rattle.wire_json.specs.declared.reason.Reason.{Reason}
use Rattle.wire_json.specs.declared.verdict.Verdict.TheVariants as verdict
use Rattle.room_history.specs.Does.{Room, room_after_want, with_one, with_fate, after_submission}
use Rattle.room_history.specs.Held.{attachment_with, attachment_after_submission}
use Rattle.room_history.specs.Item.{Submitted, Starved}
use Rattle.room_history.specs.Match.{Match}
use Rattle.wire_json.specs.declared.server.ServerMsg.TheVariants.{No}
use Rattle.room_history.specs.Others.{KeepsMatches, KeepsOthers, KeepsAll, TellsRefusal}
use Rattle.room_history.specs.Outbox.{attachment_of, outbox_of, with_outbox}
use Rattle.room_history.specs.Piece.{Line}
use Rattle.room_history.specs.Reply.{Fate, Unheard, Turned, Goes, fate, submit_reply}
use Rattle.room_history.specs.Room.{room_of, reply}
use Rattle.room_history.specs.Session.{Session, number_in, with_item, with_latest}
use Rattle.room_history.proofs.Names.{after_want, after_take, after_detach}
use Rattle.room_history.specs.declared.call.RoomCall.{RoomCall}
use Rattle.room_history.specs.declared.call.RoomCall.TheVariants.{Create, Join, Rename, Leave, Look, Attach, Submit, Take, Detach, Clear}
use Rattle.room_history.specs.declared.reply.RoomReply.TheVariants as answer
use Rattle.wire_json.specs.declared.submission.Submission.{Submission}
use Rattle.room_history.proofs.Holding.{starved_kept}
use Rattle.room_history.proofs.Keeps.{Kept, Listed, kept, same_pass, fate_list}
use Rattle.room_history.proofs.Responses.{same_number}
use Rattle.room_history.proofs.Submitting.{kept_face, did_faces, submit_holds}

other_pass : (p q : ℕ) → q ≢ p → (p == q) ≡ false
other_pass p q h = by (p == q) refl
  where
    same : (p q : ℕ) → (p == q) ≡ true → q ≡ p
    same p q e = grind (arith, nat_tests)

    by : (b : Bool) → (p == q) ≡ b → b ≡ false
    by true e = absurd (h (same p q e))
    by false e = refl

pub one_others : {X G : Type 0} → (pass : ℕ) (change : Session → Session) (r : Room X G) → KeepsOthers pass r (with_one pass change r)
one_others pass change r = record { matches = record { serials = refl; standing = refl; removed = refl }; sessions = λ q h. rw (other_pass pass q h) refl }

module _ {X G : Type 0} (rules : X → Rules G) (room : ℕ) where
  pub take_others : (h : List (Entry (RoomCall X))) (pass : ℕ) → KeepsOthers pass (room_of rules room h) (room_of rules room (entry pass Take false ∷ h))
  take_others h pass = one_others pass after_take (room_of rules room h)

  pub detach_others : (h : List (Entry (RoomCall X))) (pass : ℕ) → KeepsOthers pass (room_of rules room h) (room_of rules room (entry pass Detach false ∷ h))
  detach_others h pass = one_others pass after_detach (room_of rules room h)

  turned_others : (r : Room X G) (pass : ℕ) (change : Session → Session) (f : Fate X G) (n : ℕ) (reason : Reason) → f ≡ Turned n reason → KeepsOthers pass r (with_fate rules room (with_one pass change r) f)
  turned_others r pass change f n reason e = rw e (one_others pass change r)

  -- a reply that refuses is that of an action that is turned down
  turned_by : (f : Fate X G) (n : ℕ) (reason : Reason) → submit_reply f ≡ answer.Verdict (verdict.No n reason) → f ≡ Turned n reason
  turned_by Unheard n reason e = cc
  turned_by (Turned k other) n reason e = cc
  turned_by (Goes m) n reason e = cc

  turned_attachment : (st : Option (Match X G)) (f : Fate X G) (ticket n : ℕ) (reason : Reason) (l : List Session) → f ≡ Turned n reason
      → attachment_after_submission rules st f true ticket (attachment_of l) ≡ attachment_with (Line (No n reason ticket)) (attachment_of l)
  turned_attachment None f ticket n reason l e = rw e refl
  turned_attachment (Some m) f ticket n reason l e = rw e refl

  -- what a submission makes of each pass's attachment
  pub submission_held : (h : List (Entry (RoomCall X))) (pass q : ℕ) (s : Submission)
      → attachment_of ((room_of rules room (entry pass (Submit s) false ∷ h)).sessions q)
      ≡ attachment_after_submission rules (room_of rules room h).standing (fate rules room (room_of rules room h).standing ((room_of rules room h).sessions pass) s) (pass == q) s.ticket (attachment_of ((room_of rules room h).sessions q))
  submission_held h pass q s =
      ap attachment_of (fate_list rules room (room_of rules room h) pass (after_submission rules room (room_of rules room h).standing s) (fate rules room (room_of rules room h).standing ((room_of rules room h).sessions pass) s) q)
      ∙ submit_holds rules room (pass == q) (room_of rules room h).standing ((room_of rules room h).sessions pass) ((room_of rules room h).sessions q) s
      (λ e. ap (room_of rules room h).sessions (same_pass rules room pass q e)) ((kept rules room h).all q)

  pub tells_refusal : (h : List (Entry (RoomCall X))) (pass : ℕ) (s : Submission) (n : ℕ) (reason : Reason) → reply rules room h (entry pass (Submit s) false) ≡ answer.Verdict (verdict.No n reason) → TellsRefusal rules room h pass s n reason
  unfolding reply
  tells_refusal h pass s n reason e =
      let f : fate rules room (room_of rules room h).standing ((room_of rules room h).sessions pass) s ≡ Turned n reason
      = turned_by (fate rules room (room_of rules room h).standing ((room_of rules room h).sessions pass) s) n reason e in
      record {
        others = turned_others (room_of rules room h) pass (after_submission rules room (room_of rules room h).standing s) (fate rules room (room_of rules room h).standing ((room_of rules room h).sessions pass) s) n reason f;
        own = submission_held h pass pass s
            ∙ ap (λ b. attachment_after_submission rules (room_of rules room h).standing (fate rules room (room_of rules room h).standing ((room_of rules room h).sessions pass) s) b s.ticket (attachment_of ((room_of rules room h).sessions pass))) (same_number pass)
            ∙ turned_attachment (room_of rules room h).standing (fate rules room (room_of rules room h).standing ((room_of rules room h).sessions pass) s) s.ticket n reason ((room_of rules room h).sessions pass) f;
      }

  -- want of memory
  want_list : (b : Bool) (st : Option (Match X G)) (s : Submission) (l : List Session) → Listed rules room st l → attachment_of (if b then with_latest (after_want rules room s) l else l) ≡ attachment_of l
  want_list false st s l k = refl
  want_list true st s [] k = refl
  want_list true st s (c ∷ before) k =
      kept_face c (with_item (Submitted (number_in c.sight) s Starved) c) (did_faces c (Submitted (number_in c.sight) s Starved)) (outbox_of (with_item (Submitted (number_in c.sight) s Starved) c))
      ∙ ap (option_map (with_outbox c)) (starved_kept rules room c k.good s)

  same_matches : (r : Room X G) → KeepsMatches r r
  same_matches r = record { serials = refl; standing = refl; removed = refl }

  same_all : (r : Room X G) → KeepsAll r r
  same_all r = record { matches = same_matches r; attachments = λ q. refl }

  want_keeps : (r : Room X G) → Kept rules room r → (pass : ℕ) (call : RoomCall X) → KeepsAll r (room_after_want rules room r pass call)
  want_keeps r k pass (Create game seats seed) = same_all r
  want_keeps r k pass (Join serial seat name key) = same_all r
  want_keeps r k pass (Rename serial seat key name) = same_all r
  want_keeps r k pass (Leave serial seat key) = same_all r
  want_keeps r k pass (Look serial) = same_all r
  want_keeps r k pass (Attach serial viewer protocol) = same_all r
  want_keeps r k pass (Submit s) = record { matches = record { serials = refl; standing = refl; removed = refl }; attachments = λ q. want_list (pass == q) r.standing s (r.sessions q) (k.all q) }
  want_keeps r k pass Take = same_all r
  want_keeps r k pass Detach = same_all r
  want_keeps r k pass (Clear serial) = same_all r

  pub want_keeps_all : (h : List (Entry (RoomCall X))) (pass : ℕ) (call : RoomCall X) → KeepsAll (room_of rules room h) (room_of rules room (entry pass call true ∷ h))
  want_keeps_all h pass call = want_keeps (room_of rules room h) (kept rules room h) pass call
