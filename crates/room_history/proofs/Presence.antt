-- Whether a pass is attached follows from its own calls and their replies.
use Rattle.std.proofs.Common.{◌≡◌, ℕ, ◌==◌, Bool, true, false, if◌then◌else◌, is_some, List, ◌∷◌, Option, Some, None, option_map, ◌+◌, Result, Ok, Err, refl, sym, ap, ◌∙◌, subst}
use Rattle.game_trait.specs.Rules.{Rules}
use Rattle.game_sheet.specs.Viewer.{Viewer}
use Rattle.game_sheet.specs.declared.act.Bye.{Bye}
use Rattle.game_sheet.specs.declared.act.Bye.TheVariants as bye
use Rattle.room_object.specs.Entry.{Entry, entry}
use Rattle.seat_roster.specs.Roster.{is_empty, leave}
use Rattle.wire_json.specs.declared.protocol.Protocol.{Protocol}
use Rattle.room_history.specs.Does.{is_left}
use Rattle.room_history.specs.Held.{attachment_state, attachment_after, attachment_after_attach, attachment_after_leave, attachment_after_action, attachment_after_submission, attachment_fate, attachment_take_reply, attachment_with, reply_held, state_by, attachment_after_clear}
use Rattle.room_history.specs.Session.{detach_reply}
use Rattle.std.specs.List.{concat}
use Rattle.room_history.specs.Match.{Match, number_of}
use Rattle.wire_json.specs.declared.server.ServerMsg.{ServerMsg}
use Rattle.wire_json.specs.declared.server.ServerMsg.TheVariants.{Ok as Accepts, No}
use Rattle.room_history.specs.Outbox.{Attachment, attachment_of, outbox_after_take}
use Rattle.room_history.specs.Piece.{Line, Mark, End, State, Open, Ended, Closed}
use Rattle.room_history.specs.Presence.{after_attach, after_end, after_release, attached_after, is_attached}
use Rattle.room_history.specs.Reply.{Fate, Unheard, Turned, Goes, named_match, reseated_match, attached_match, open_match, reply_by}
use Rattle.room_history.proofs.Names.{lets_in}
use Rattle.room_history.specs.Room.{room_of, reply as reply_after, serials, standing}
use Rattle.room_history.specs.declared.call.RoomCall.{RoomCall}
use Rattle.room_history.specs.declared.call.RoomCall.TheVariants.{Create, Join, Rename, Leave, Look, Attach, Submit, Take, Detach, Clear}
use Rattle.room_history.specs.declared.reply.RoomReply.{RoomReply}
use Rattle.room_history.specs.declared.reply.RoomReply.TheVariants as reply
use Rattle.room_history.proofs.Attachments.{attachment_step, reply_by_held}
use Rattle.room_history.proofs.Keeps.{same_pass}
use Rattle.room_history.proofs.Others.{want_keeps_all}

line_some : (m : ServerMsg) (a : Option Attachment) → is_some (attachment_with (Line m) a) ≡ is_some a
line_some m None = refl
line_some m (Some a) = refl

end_some : (b : Bool) (a : Attachment) → is_some (if b then attachment_with (End bye.Left) (Some a) else Some a) ≡ true
end_some true a = refl
end_some false a = refl

either : (b : Bool) (x : Bool) → x ≡ (if b then x else x)
either true x = refl
either false x = refl

module _ {X G : Type 0} (rules : X → Rules G) (room : ℕ) where
  leave_some : (seat : ℕ) (result : Result (Match X G) RoomReply) (a : Option Attachment) → is_some (attachment_after_leave seat result a) ≡ is_some a
  leave_some seat (Err why) a = refl
  leave_some seat (Ok m) None = refl
  leave_some seat (Ok m) (Some a) = end_some (is_left seat (is_empty m.roster) a.viewer) a

  clear_some : (result : Result (Match X G) RoomReply) (a : Option Attachment) → is_some (attachment_after_clear result a) ≡ is_some a
  clear_some (Err why) a = refl
  clear_some (Ok m) None = refl
  clear_some (Ok m) (Some a) = refl

  action_some : (m n : Match X G) (a : Option Attachment) → is_some (attachment_after_action rules m n a) ≡ is_some a
  action_some m n None = refl
  action_some m n (Some a) = refl

  submission_some : (st : Option (Match X G)) (f : Fate X G) (own : Bool) (ticket : ℕ) (a : Option Attachment) → is_some (attachment_after_submission rules st f own ticket a) ≡ is_some a
  submission_some (Some m) (Goes n) true ticket a = line_some (Accepts (number_of m + 1) ticket) (attachment_after_action rules m n a) ∙ action_some m n a
  submission_some (Some m) (Goes n) false ticket a = action_some m n a
  submission_some (Some m) (Turned n reason) true ticket a = line_some (No n reason ticket) a
  submission_some (Some m) (Turned n reason) false ticket a = refl
  submission_some (Some m) Unheard own ticket a = refl
  submission_some None (Goes n) own ticket a = refl
  submission_some None (Turned n reason) true ticket a = line_some (No n reason ticket) a
  submission_some None (Turned n reason) false ticket a = refl
  submission_some None Unheard own ticket a = refl

  -- what refuses an Attach is no reply that it was made
  abbrev Refuses : Result (Match X G) RoomReply → Type 0
  Refuses (Ok m) = Unit {0}
  Refuses (Err why) = (before : Bool) → after_attach before why ≡ before

  refuses_named : (b c : Bool) (m : Match X G) (viewer : Viewer) → lets_in m.roster viewer ≡ c → Refuses (open_match viewer (if b then Ok m else Err reply.NoMatch))
  refuses_named true true m viewer e = rw e tt
  refuses_named true false m viewer e = rw e (λ before. refl)
  refuses_named false c m viewer e = λ before. refl

  refuses : (st : Option (Match X G)) (state : State) (serial : ℕ) (viewer : Viewer) → Refuses (attached_match st state serial viewer)
  refuses None Closed serial viewer = λ before. refl
  refuses (Some m) Closed serial viewer = refuses_named (m.serial == serial) (lets_in m.roster viewer) m viewer refl
  refuses st Open serial viewer = λ before. refl
  refuses st (Ended why) serial viewer = λ before. refl

  attach_some : (result : Result (Match X G) RoomReply) (viewer : Viewer) (protocol : Protocol) (a : Option Attachment) → Refuses result
      → is_some (attachment_after_attach rules room viewer protocol result a) ≡ after_attach (is_some a) (reply_by (λ (m : Match X G). reply.Attached) result)
  attach_some (Ok m) viewer protocol a r = refl
  attach_some (Err why) viewer protocol a r = sym (r (is_some a))

  take_some : (a : Option Attachment) → is_some (attachment_with Mark a) ≡ after_end (is_some a) (attachment_take_reply a)
  take_some None = refl
  take_some (Some a) = by a.outbox.end
    where
      by : (end : Option Bye) → is_some (option_map (λ o. record a { outbox = o }) (outbox_after_take end)) ≡ after_end true (reply.Taken (concat a.outbox.waiting) end)
      by None = refl
      by (Some why) = refl

  detach_some : (a : Option Attachment) → false ≡ after_release (is_some a) (detach_reply (attachment_state a))
  detach_some None = refl
  detach_some (Some a) = by a.outbox.end
    where
      by : (end : Option Bye) → false ≡ after_release true (detach_reply (state_by end))
      by None = refl
      by (Some why) = refl

  call_some : (serials : ℕ) (st : Option (Match X G)) (caller a : Option Attachment) (b : Bool) → (b ≡ true → caller ≡ a) → (call : RoomCall X)
      → is_some (attachment_after rules room st caller b a call) ≡ (if b then attached_after (is_some a) call (reply_held rules room serials st caller call) else is_some a)
  call_some serials st caller a b e (Create game seats seed) = either b (is_some a)
  call_some serials st caller a b e (Join serial seat name key) = either b (is_some a)
  call_some serials st caller a b e (Rename serial seat key name) = either b (is_some a)
  call_some serials st caller a b e (Leave serial seat key) = leave_some seat (reseated_match (named_match st serial) (λ roster. leave roster seat key)) a ∙ either b (is_some a)
  call_some serials st caller a b e (Look serial) = either b (is_some a)
  call_some serials st caller a true e (Attach serial viewer protocol) =
      attach_some (attached_match st (attachment_state caller) serial viewer) viewer protocol a (refuses st (attachment_state caller) serial viewer)
  call_some serials st caller a false e (Attach serial viewer protocol) = refl
  call_some serials st caller a b e (Submit s) = submission_some st (attachment_fate rules room st caller s) b s.ticket a ∙ either b (is_some a)
  call_some serials st caller a true e Take = subst (λ x. is_some (attachment_with Mark a) ≡ after_end (is_some a) (attachment_take_reply x)) (sym (e refl)) (take_some a)
  call_some serials st caller a false e Take = refl
  call_some serials st caller a true e Detach = subst (λ x. false ≡ after_release (is_some a) (detach_reply (attachment_state x))) (sym (e refl)) (detach_some a)
  call_some serials st caller a false e Detach = refl
  call_some serials st caller a b e (Clear serial) = clear_some (named_match st serial) a ∙ either b (is_some a)

  pub presence : (h : List (Entry (RoomCall X))) (pass q : ℕ) (call : RoomCall X)
      → is_attached rules room (entry pass call false ∷ h) q ≡ (if pass == q then attached_after (is_attached rules room h q) call (reply_after rules room h (entry pass call false)) else is_attached rules room h q)
  presence h pass q call =
      ap (λ x. is_some x) (attachment_step rules room h pass q call)
      ∙ call_some (serials rules room h) (standing rules room h) (attachment_of ((room_of rules room h).sessions pass)) (attachment_of ((room_of rules room h).sessions q)) (pass == q)
      (λ e. ap (λ p. attachment_of ((room_of rules room h).sessions p)) (same_pass rules room pass q e)) call
      ∙ ap (λ r. if pass == q then attached_after (is_attached rules room h q) call r else is_attached rules room h q) (sym (reply_by_held rules room h pass call))

  pub want_presence : (h : List (Entry (RoomCall X))) (pass q : ℕ) (call : RoomCall X) → is_attached rules room (entry pass call true ∷ h) q ≡ is_attached rules room h q
  want_presence h pass q call = ap (λ x. is_some x) ((want_keeps_all rules room h pass call).attachments q)
