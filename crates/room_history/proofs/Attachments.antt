-- What each call makes of the attachments, and its reply, by held values alone: the equations that a room is built against.
use Rattle.std.proofs.Common.{◌≡◌, ℕ, ◌==◌, Bool, true, false, if◌then◌else◌, List, [], ◌∷◌, Option, Some, None, option_map, Result, Ok, Err, refl, sym, ap, ◌∙◌}
use Rattle.game_trait.specs.Rules.{Rules}
use Rattle.room_object.specs.Entry.{Entry, entry}
use Rattle.seat_roster.specs.Roster.{is_empty, join, rename, leave}
use Rattle.wire_json.specs.declared.protocol.Protocol.{Protocol}
use Rattle.game_sheet.specs.Viewer.{Viewer}
use Rattle.room_history.specs.Does.{Room, reply_to, with_new_match, with_match, with_left_seat, with_removed_if, with_session, with_each, new_session, with_cleared}
use Rattle.room_history.specs.Held.{attachment_after, attachment_after_attach, attachment_after_leave, attachment_after_submission, attachment_fate, attachment_with, reply_held, attachment_after_clear}
use Rattle.room_history.specs.Match.{Match}
use Rattle.room_history.specs.Outbox.{Attachment, attachment_of, outbox_in, with_outbox}
use Rattle.room_history.specs.Piece.{Piece, Mark, State, Open, Ended, Closed}
use Rattle.room_history.specs.Reply.{created_match, named_match, reseated_match, attached_match, fate, fate_in, submit_reply, reply_by}
use Rattle.room_history.specs.Room.{room_of, reply as reply_after}
use Rattle.room_history.specs.Session.{Session, detach_reply, latest_state, session_state, stream_of, with_latest}
use Rattle.room_history.proofs.Names.{after_leaving, after_take, after_detach}
use Rattle.room_history.specs.declared.call.RoomCall.{RoomCall}
use Rattle.room_history.specs.declared.call.RoomCall.TheVariants.{Create, Join, Rename, Leave, Look, Attach, Submit, Take, Detach, Clear}
use Rattle.room_history.specs.declared.reply.RoomReply.{RoomReply}
use Rattle.room_history.specs.declared.reply.RoomReply.TheVariants as reply
use Rattle.wire_json.specs.declared.submission.Submission.{Submission}
use Rattle.room_history.proofs.Keeps.{Listed, Kept, kept}
use Rattle.room_history.proofs.Others.{submission_held}
use Rattle.room_history.proofs.Taking.{state_is, reply_is, taken_held, detached_held, left_held, begun_held, cleared_held}

module _ {X G : Type 0} (rules : X → Rules G) (room : ℕ) where
  -- what becomes of a submission is found from the attachment
  fate_same : (st : Option (Match X G)) (s : Session) (state : State) (ps : List Piece) (sub : Submission)
      → attachment_fate rules room st (option_map (with_outbox s) (outbox_in state ps)) sub ≡ fate_in rules room st state s.viewer sub
  fate_same st s Open ps sub = refl
  fate_same None s (Ended why) ps sub = refl
  fate_same (Some m) s (Ended why) ps sub = refl
  fate_same None s Closed ps sub = refl
  fate_same (Some m) s Closed ps sub = refl

  pub fate_held : (st : Option (Match X G)) (l : List Session) (sub : Submission) → attachment_fate rules room st (attachment_of l) sub ≡ fate rules room st l sub
  fate_held st [] sub = refl
  fate_held st (s ∷ before) sub = fate_same st s (session_state s) (stream_of s) sub

  made_same : (r : Room X G) (result : Result (Match X G) RoomReply) (q : ℕ) → attachment_of ((with_new_match r result).sessions q) ≡ attachment_of (r.sessions q)
  made_same r (Ok m) q = refl
  made_same r (Err why) q = refl

  match_same : (r : Room X G) (result : Result (Match X G) RoomReply) (q : ℕ) → attachment_of ((with_match r result).sessions q) ≡ attachment_of (r.sessions q)
  match_same r (Ok m) q = refl
  match_same r (Err why) q = refl

  removed_same : (gone : Bool) (m : Match X G) (r : Room X G) (q : ℕ) → (with_removed_if gone m r).sessions q ≡ r.sessions q
  removed_same true m r q = refl
  removed_same false m r q = refl

  left_step : (r : Room X G) → Kept rules room r → (seat : ℕ) (result : Result (Match X G) RoomReply) (q : ℕ) → attachment_of ((with_left_seat seat r result).sessions q) ≡ attachment_after_leave seat result (attachment_of (r.sessions q))
  left_step r k seat (Ok m) q =
      ap attachment_of (removed_same (is_empty m.roster) m (with_each (after_leaving seat (is_empty m.roster)) r) q) ∙ left_held rules room r.standing (r.sessions q) m seat (k.all q)
  left_step r k seat (Err why) q = refl

  cleared_step : (r : Room X G) → Kept rules room r → (result : Result (Match X G) RoomReply) (q : ℕ) → attachment_of ((with_cleared r result).sessions q) ≡ attachment_after_clear result (attachment_of (r.sessions q))
  cleared_step r k (Ok m) q = cleared_held rules room r.standing (r.sessions q) (k.all q)
  cleared_step r k (Err why) q = refl

  same_either : (b : Bool) (a : Option Attachment) → a ≡ (if b then a else a)
  same_either true a = refl
  same_either false a = refl

  begun_step : (b : Bool) (m : Match X G) (viewer : Viewer) (protocol : Protocol) (l : List Session)
      → attachment_of (if b then new_session rules room m viewer protocol ∷ l else l) ≡ (if b then attachment_after_attach rules room viewer protocol (Ok m) (attachment_of l) else attachment_of l)
  begun_step true m viewer protocol l = begun_held rules room m viewer protocol l
  begun_step false m viewer protocol l = refl

  session_step : (r : Room X G) (pass : ℕ) (viewer : Viewer) (protocol : Protocol) (result : Result (Match X G) RoomReply) (q : ℕ)
      → attachment_of ((with_session rules room pass viewer protocol r result).sessions q) ≡ (if pass == q then attachment_after_attach rules room viewer protocol result (attachment_of (r.sessions q)) else attachment_of (r.sessions q))
  session_step r pass viewer protocol (Ok m) q = begun_step (pass == q) m viewer protocol (r.sessions q)
  session_step r pass viewer protocol (Err why) q = same_either (pass == q) (attachment_of (r.sessions q))

  take_step : (b : Bool) (st : Option (Match X G)) (l : List Session) → Listed rules room st l → attachment_of (if b then with_latest after_take l else l) ≡ (if b then attachment_with Mark (attachment_of l) else attachment_of l)
  take_step true st l k = taken_held rules room st l k
  take_step false st l k = refl

  detach_step : (b : Bool) (l : List Session) → attachment_of (if b then with_latest after_detach l else l) ≡ (if b then None else attachment_of l)
  detach_step true l = detached_held rules room l
  detach_step false l = refl

  -- every call
  pub attachment_step : (h : List (Entry (RoomCall X))) (pass q : ℕ) (call : RoomCall X)
      → attachment_of ((room_of rules room (entry pass call false ∷ h)).sessions q)
      ≡ attachment_after rules room (room_of rules room h).standing (attachment_of ((room_of rules room h).sessions pass)) (pass == q) (attachment_of ((room_of rules room h).sessions q)) call
  attachment_step h pass q (Create game seats seed) = made_same (room_of rules room h) (created_match rules (room_of rules room h).serials (room_of rules room h).standing game seats seed) q
  attachment_step h pass q (Join serial seat name key) = match_same (room_of rules room h) (reseated_match (named_match (room_of rules room h).standing serial) (λ roster. join roster seat name key)) q
  attachment_step h pass q (Rename serial seat key name) = match_same (room_of rules room h) (reseated_match (named_match (room_of rules room h).standing serial) (λ roster. rename roster seat key name)) q
  attachment_step h pass q (Leave serial seat key) =
      left_step (room_of rules room h) (kept rules room h) seat (reseated_match (named_match (room_of rules room h).standing serial) (λ roster. leave roster seat key)) q
  attachment_step h pass q (Look serial) = refl
  attachment_step h pass q (Attach serial viewer protocol) =
      session_step (room_of rules room h) pass viewer protocol (attached_match (room_of rules room h).standing (latest_state ((room_of rules room h).sessions pass)) serial viewer) q
      ∙ ap (λ state. if pass == q then attachment_after_attach rules room viewer protocol (attached_match (room_of rules room h).standing state serial viewer) (attachment_of ((room_of rules room h).sessions q)) else attachment_of ((room_of rules room h).sessions q))
      (sym (state_is ((room_of rules room h).sessions pass)))
  attachment_step h pass q (Submit s) =
      submission_held rules room h pass q s
      ∙ ap (λ f. attachment_after_submission rules (room_of rules room h).standing f (pass == q) s.ticket (attachment_of ((room_of rules room h).sessions q))) (sym (fate_held (room_of rules room h).standing ((room_of rules room h).sessions pass) s))
  attachment_step h pass q Take = take_step (pass == q) (room_of rules room h).standing ((room_of rules room h).sessions q) ((kept rules room h).all q)
  attachment_step h pass q Detach = detach_step (pass == q) ((room_of rules room h).sessions q)
  attachment_step h pass q (Clear serial) = cleared_step (room_of rules room h) (kept rules room h) (named_match (room_of rules room h).standing serial) q

  -- and its reply
  pub reply_is_held : (r : Room X G) (pass : ℕ) (call : RoomCall X) → reply_to rules room r pass call ≡ reply_held rules room r.serials r.standing (attachment_of (r.sessions pass)) call
  reply_is_held r pass (Create game seats seed) = refl
  reply_is_held r pass (Join serial seat name key) = refl
  reply_is_held r pass (Rename serial seat key name) = refl
  reply_is_held r pass (Leave serial seat key) = refl
  reply_is_held r pass (Look serial) = refl
  reply_is_held r pass (Attach serial viewer protocol) = ap (λ state. reply_by (λ (m : Match X G). reply.Attached) (attached_match r.standing state serial viewer)) (sym (state_is (r.sessions pass)))
  reply_is_held r pass (Submit s) = ap submit_reply (sym (fate_held r.standing (r.sessions pass) s))
  reply_is_held r pass Take = sym (reply_is (r.sessions pass))
  reply_is_held r pass Detach = ap detach_reply (sym (state_is (r.sessions pass)))
  reply_is_held r pass (Clear serial) = refl

  pub reply_by_held : (h : List (Entry (RoomCall X))) (pass : ℕ) (call : RoomCall X)
      → reply_after rules room h (entry pass call false) ≡ reply_held rules room (room_of rules room h).serials (room_of rules room h).standing (attachment_of ((room_of rules room h).sessions pass)) call
  unfolding reply_after
  reply_by_held h pass call = reply_is_held (room_of rules room h) pass call
