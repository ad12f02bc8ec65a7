-- A Book that stands for a history and goes by what is held answers the reply to the next entry, and then stands for the history with it.
use Rattle.std.proofs.Common.{◌≡◌, ◌==◌, ℕ, List, [], ◌∷◌, Bool, true, false, if◌then◌else◌, nat_eq, MatchBool, Some, None, option_map, Result, Ok, Err, refl, sym, ap, ◌∙◌, subst}
use Rattle.std.proofs.lemmas.Bool.{true≢false}
use Rattle.std.specs.Map.{lookup}
use Rattle.game_trait.specs.Rules.{Rules}
use Rattle.room_object.specs.Entry.{Entry, entry}
use Rattle.seat_roster.specs.Roster.{is_empty, join, rename, leave}
use Rattle.room_history.specs.Does.{Room, room_after, with_cleared, with_each, with_fate, with_left_seat, with_match, with_new_match, with_one, with_removed_if, with_session, after_submission}
use Rattle.room_history.proofs.Names.{after_leaving}
use Rattle.room_history.specs.Held.{attachment_after, reply_held}
use Rattle.room_history.specs.Match.{Match}
use Rattle.room_history.specs.Others.{KeepsAll}
use Rattle.game_sheet.specs.Viewer.{seat_of}
use Rattle.room_history.specs.Outbox.{Attachment, attachment_of, outbox_in, with_outbox}
use Rattle.room_history.specs.Piece.{Closed, Ended, Open, Piece, State}
use Rattle.room_history.specs.Reply.{Fate, Goes, Turned, Unheard, attached_match, created_match, fate, named_match, reseated_match}
use Rattle.room_history.specs.Room.{latest_seat, reply, room_of, seat_in, serials, standing}
use Rattle.room_history.specs.Session.{Session, latest_state, session_state, stream_of}
use Rattle.room_history.specs.declared.call.RoomCall.{RoomCall}
use Rattle.room_history.specs.declared.call.RoomCall.TheVariants.{Create, Join, Rename, Leave, Look, Attach, Submit, Take, Detach, Clear}
use Rattle.room_history.specs.declared.reply.RoomReply.{RoomReply}
use Rattle.room_history.specs.declared.reply.RoomReply.TheVariants as answer
use Rattle.room_history.proofs.Attachments.{attachment_step, fate_held, reply_by_held}
use Rattle.room_history.proofs.Others.{want_keeps_all}
use Rattle.match_master.specs.Attached.{open_viewer}
use Rattle.match_master.specs.Does.{Answers, GoesBy, match_after, match_by_fate, match_cleared, match_left, match_made, serials_after, serials_made}
use Rattle.match_master.specs.Held.{Held, StandsFor, is_starved, running_of}

pub starved_is : (r : RoomReply) → is_starved r ≡ true → r ≡ answer.NoMemory
starved_is answer.NoMemory h = refl
starved_is other h = absurd (true≢false (sym h))

module _ {X G : Type 0} where
  made_serials : (r : Room X G) (result : Result (Match X G) RoomReply) → (with_new_match r result).serials ≡ serials_made r.serials result
  made_serials r (Ok m) = refl
  made_serials r (Err why) = refl

  made_match : (r : Room X G) (result : Result (Match X G) RoomReply) → (with_new_match r result).standing ≡ match_made r.standing result
  made_match r (Ok m) = refl
  made_match r (Err why) = refl

  match_serials : (r : Room X G) (result : Result (Match X G) RoomReply) → (with_match r result).serials ≡ r.serials
  match_serials r (Ok m) = refl
  match_serials r (Err why) = refl

  match_match : (r : Room X G) (result : Result (Match X G) RoomReply) → (with_match r result).standing ≡ match_made r.standing result
  match_match r (Ok m) = refl
  match_match r (Err why) = refl

  removed_serials : (gone : Bool) (m : Match X G) (r : Room X G) → (with_removed_if gone m r).serials ≡ r.serials
  removed_serials true m r = refl
  removed_serials false m r = refl

  removed_match : (gone : Bool) (m : Match X G) (r : Room X G) → (with_removed_if gone m r).standing ≡ (if gone then None else Some m)
  removed_match true m r = refl
  removed_match false m r = refl

  left_serials : (seat : ℕ) (r : Room X G) (result : Result (Match X G) RoomReply) → (with_left_seat seat r result).serials ≡ r.serials
  left_serials seat r (Ok m) = removed_serials (is_empty m.roster) m (with_each (after_leaving seat (is_empty m.roster)) r)
  left_serials seat r (Err why) = refl

  left_match : (seat : ℕ) (r : Room X G) (result : Result (Match X G) RoomReply) → (with_left_seat seat r result).standing ≡ match_left r.standing result
  left_match seat r (Ok m) = removed_match (is_empty m.roster) m (with_each (after_leaving seat (is_empty m.roster)) r)
  left_match seat r (Err why) = refl

  cleared_serials : (r : Room X G) (result : Result (Match X G) RoomReply) → (with_cleared r result).serials ≡ r.serials
  cleared_serials r (Ok m) = refl
  cleared_serials r (Err why) = refl

  cleared_match : (r : Room X G) (result : Result (Match X G) RoomReply) → (with_cleared r result).standing ≡ match_cleared r.standing result
  cleared_match r (Ok m) = refl
  cleared_match r (Err why) = refl

module _ {X G : Type 0} (rules : X → Rules G) where
  session_same : (room : ℕ) (r : Room X G) (pass : ℕ) (viewer : _) (protocol : _) (result : Result (Match X G) RoomReply)
      → ((with_session rules room pass viewer protocol r result).serials ≡ r.serials) × ((with_session rules room pass viewer protocol r result).standing ≡ r.standing)
  session_same room r pass viewer protocol (Ok m) = (refl, refl)
  session_same room r pass viewer protocol (Err why) = (refl, refl)

  fate_serials : (room : ℕ) (r : Room X G) (f : Fate X G) → (with_fate rules room r f).serials ≡ r.serials
  fate_serials room r Unheard = refl
  fate_serials room r (Turned n reason) = refl
  fate_serials room r (Goes m) = refl

  fate_match : (room : ℕ) (r : Room X G) (f : Fate X G) → (with_fate rules room r f).standing ≡ match_by_fate r.standing f
  fate_match room r Unheard = refl
  fate_match room r (Turned n reason) = refl
  fate_match room r (Goes m) = refl

  -- how many matches were made
  serials_go : (room : ℕ) (r : Room X G) (pass : ℕ) (call : RoomCall X) → (room_after rules room r pass call).serials ≡ serials_after rules r.serials r.standing call
  serials_go room r pass (Create game seats seed) = made_serials r (created_match rules r.serials r.standing game seats seed)
  serials_go room r pass (Join serial seat name key) = match_serials r (reseated_match (named_match r.standing serial) (λ roster. join roster seat name key))
  serials_go room r pass (Rename serial seat key name) = match_serials r (reseated_match (named_match r.standing serial) (λ roster. rename roster seat key name))
  serials_go room r pass (Leave serial seat key) = left_serials seat r (reseated_match (named_match r.standing serial) (λ roster. leave roster seat key))
  serials_go room r pass (Look serial) = refl
  serials_go room r pass (Attach serial viewer protocol) = (session_same room r pass viewer protocol (attached_match r.standing (latest_state (r.sessions pass)) serial viewer)).0
  serials_go room r pass (Submit s) = fate_serials room (with_one pass (after_submission rules room r.standing s) r) (fate rules room r.standing (r.sessions pass) s)
  serials_go room r pass Take = refl
  serials_go room r pass Detach = refl
  serials_go room r pass (Clear serial) = cleared_serials r (named_match r.standing serial)

  -- and which stands
  match_goes : (room : ℕ) (r : Room X G) (pass : ℕ) (call : RoomCall X) → (room_after rules room r pass call).standing ≡ match_after rules room r.serials r.standing (attachment_of (r.sessions pass)) call
  match_goes room r pass (Create game seats seed) = made_match r (created_match rules r.serials r.standing game seats seed)
  match_goes room r pass (Join serial seat name key) = match_match r (reseated_match (named_match r.standing serial) (λ roster. join roster seat name key))
  match_goes room r pass (Rename serial seat key name) = match_match r (reseated_match (named_match r.standing serial) (λ roster. rename roster seat key name))
  match_goes room r pass (Leave serial seat key) = left_match seat r (reseated_match (named_match r.standing serial) (λ roster. leave roster seat key))
  match_goes room r pass (Look serial) = refl
  match_goes room r pass (Attach serial viewer protocol) = (session_same room r pass viewer protocol (attached_match r.standing (latest_state (r.sessions pass)) serial viewer)).1
  match_goes room r pass (Submit s) =
      fate_match room (with_one pass (after_submission rules room r.standing s) r) (fate rules room r.standing (r.sessions pass) s)
      ∙ ap (match_by_fate r.standing) (sym (fate_held rules room r.standing (r.sessions pass) s))
  match_goes room r pass Take = refl
  match_goes room r pass Detach = refl
  match_goes room r pass (Clear serial) = cleared_match r (named_match r.standing serial)

  -- a book stands for a history in the room that it is in
  stands_in : (held : Held X G) (room : ℕ) (h : List (Entry (RoomCall X))) → held.room ≡ room → held.serials ≡ serials rules room h → held.running ≡ option_map (running_of rules) (standing rules room h)
      → ((q : ℕ) → lookup (nat_eq q) held.attachments ≡ attachment_of ((room_of rules room h).sessions q)) → StandsFor rules held h
  stands_in held room h e =
      subst (λ n. held.serials ≡ serials rules n h → held.running ≡ option_map (running_of rules) (standing rules n h)
      → ((q : ℕ) → lookup (nat_eq q) held.attachments ≡ attachment_of ((room_of rules n h).sessions q)) → StandsFor rules held h) e
      (λ s m a. record { serials_held = s; match_held = m; sessions_held = a })

  -- want of memory
  wanted : (held : Held X G) (h : List (Entry (RoomCall X))) → StandsFor rules held h → (pass : ℕ) (call : RoomCall X) → StandsFor rules held (entry pass call true ∷ h)
  wanted held h s pass call =
      let k : KeepsAll (room_of rules held.room h) (room_of rules held.room (entry pass call true ∷ h)) = want_keeps_all rules held.room h pass call in
      record {
        serials_held = s.serials_held ∙ sym k.matches.serials;
        match_held = s.match_held ∙ ap (option_map (running_of rules)) (sym k.matches.standing);
        sessions_held = λ q. s.sessions_held q ∙ sym (k.attachments q);
      }

  starved_reply : (room : ℕ) (h : List (Entry (RoomCall X))) (pass : ℕ) (call : RoomCall X) → reply rules room h (entry pass call true) ≡ answer.NoMemory
  unfolding reply
  starved_reply room h pass call = refl

  -- a call that didn't starve
  heard_reply : (held : Held X G) (h : List (Entry (RoomCall X))) → StandsFor rules held h → (pass : ℕ) (call : RoomCall X) (result : RoomReply) (new : Held X G)
      → Answers rules held (standing rules held.room h) pass call result new → result ≡ reply rules held.room h (entry pass call false)
  heard_reply held h s pass call result new a =
      a.replied
      ∙ ap (λ n. reply_held rules held.room n (standing rules held.room h) (lookup (nat_eq pass) held.attachments) call) s.serials_held
      ∙ ap (λ o. reply_held rules held.room (serials rules held.room h) (standing rules held.room h) o call) (s.sessions_held pass)
      ∙ sym (reply_by_held rules held.room h pass call)

  heard : (held : Held X G) (h : List (Entry (RoomCall X))) → StandsFor rules held h → (pass : ℕ) (call : RoomCall X) (result : RoomReply) (new : Held X G)
      → Answers rules held (standing rules held.room h) pass call result new → StandsFor rules new (entry pass call false ∷ h)
  heard held h s pass call result new a =
      stands_in new held.room (entry pass call false ∷ h) a.room
      (a.serials ∙ ap (λ n. serials_after rules n (standing rules held.room h) call) s.serials_held ∙ sym (serials_go held.room (room_of rules held.room h) pass call))
      (a.running
      ∙ ap (λ n. option_map (running_of rules) (match_after rules held.room n (standing rules held.room h) (lookup (nat_eq pass) held.attachments) call)) s.serials_held
      ∙ ap (λ o. option_map (running_of rules) (match_after rules held.room (serials rules held.room h) (standing rules held.room h) o call)) (s.sessions_held pass)
      ∙ ap (option_map (running_of rules)) (sym (match_goes held.room (room_of rules held.room h) pass call)))
      (λ q. a.attachments q
      ∙ ap (λ o. attachment_after rules held.room (standing rules held.room h) o (nat_eq pass q) (lookup (nat_eq q) held.attachments) call) (s.sessions_held pass)
      ∙ ap (λ o. attachment_after rules held.room (standing rules held.room h) (attachment_of ((room_of rules held.room h).sessions pass)) (nat_eq pass q) o call) (s.sessions_held q)
      ∙ sym (attachment_step rules held.room h pass q call))

  abbrev Done : Held X G → Held X G → List (Entry (RoomCall X)) → ℕ → RoomCall X → RoomReply → Bool → Type 0
  Done held new h pass call result b = (result ≡ reply rules held.room h (entry pass call b)) × StandsFor rules new (entry pass call b ∷ h)

  pub done : (held new : Held X G) (h : List (Entry (RoomCall X))) → StandsFor rules held h → (pass : ℕ) (call : RoomCall X) (result : RoomReply)
      → GoesBy rules held (standing rules held.room h) pass call result new → Done held new h pass call result (is_starved result)
  done held new h s pass call result = by (is_starved result) refl
    where
      by : (b : Bool) → is_starved result ≡ b → MatchBool b (new ≡ held) (Answers rules held (standing rules held.room h) pass call result new) → Done held new h pass call result b
      by true e d = (starved_is result e ∙ sym (starved_reply held.room h pass call), subst (λ x. StandsFor rules x (entry pass call true ∷ h)) (sym d) (wanted held h s pass call))
      by false e d = (heard_reply held h s pass call result new d, heard held h s pass call result new d)

-- the seat that a pass looks from is found from what is held
pub seat_found : (l : List Session) → option_map seat_of (open_viewer (attachment_of l)) ≡ latest_seat l
seat_found [] = refl
seat_found (s ∷ before) = by (session_state s) (stream_of s)
  where
    by : (state : State) (ps : List Piece) → option_map seat_of (open_viewer (option_map (with_outbox s) (outbox_in state ps))) ≡ seat_in state s.viewer
    by Open ps = refl
    by (Ended why) ps = refl
    by Closed ps = refl
