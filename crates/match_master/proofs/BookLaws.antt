-- What an accepted action makes of a Book, in the words of its history.
use Rattle.std.proofs.Common.{◌≡◌, ℕ, ◌+◌, List, [], ◌∷◌, ◌++◌, length, map, Bool, true, false, if◌then◌else◌, IfSome, IsSome, MatchBool, is_some, nat_eq, ◌==◌, Option, Some, None, option_map, Result, Ok, Err, refl, sym, ap, ◌∙◌, subst, add-one}
use Rattle.indexmap.specs.IndexMap.{insert_entry}
use Rattle.std.specs.Map.{lookup}
use Rattle.game_sheet.specs.Viewer.{Viewer, seat_of}
use Rattle.game_sheet.specs.declared.sheet.Sheet.{Sheet}
use Rattle.game_trait.specs.Rules.{Rules}
use Rattle.move_log.specs.Redact.{redact}
use Rattle.move_log.specs.declared.entry.Entry.{Entry}
use Rattle.phase_flow.specs.Reached.{Reached}
use Rattle.player_sight.specs.CtxData.{ctx_data}
use Rattle.player_sight.specs.EntryData.{entry_data}
use Rattle.reducer.specs.Accepted.{Accepted}
use Rattle.reducer.specs.Fold.{standing as standing_at}
use Rattle.reducer.specs.Prepared.{Coming}
use Rattle.reducer.specs.Standing.{Standing}
use Rattle.reducer.specs.Steps.{state_after}
use Rattle.seat_roster.specs.Player.{Seats}
use Rattle.serde_json.specs.Data.{Data}
use Rattle.wire_json.specs.declared.protocol.Protocol.{Protocol}
use Rattle.wire_json.specs.declared.protocol.Protocol.TheVariants.{One, Two}
use Rattle.wire_json.specs.declared.submission.Submission.{Submission}
use Rattle.wire_json.specs.declared.verdict.Verdict.TheVariants as verdict
use Rattle.player_sight.specs.Change.{gone_part, put_part}
use Rattle.game_sheet.specs.declared.act.Bye.{Bye}
use Rattle.room_history.specs.Held.{attachment_state, new_attachment, state_by, update_for}
use Rattle.room_history.specs.Match.{Match, number_of, table_of}
use Rattle.wire_json.specs.declared.server.ServerMsg.{ServerMsg}
use Rattle.wire_json.specs.declared.server.ServerMsg.TheVariants.{Change, Ok as Accepts, Update}
use Rattle.wire_json.specs.ServerText.{text}
use Rattle.room_history.specs.Outbox.{Attachment}
use Rattle.room_history.specs.Piece.{Closed, Ended, Open, State}
use Rattle.room_history.specs.Reply.{Goes, attached_match, named_match, open_match, reply_by, submit_reply}
use Rattle.room_history.proofs.Names.{fate_by, lets_in}
use Rattle.room_history.specs.Showing.{newest_entry}
use Rattle.room_history.specs.Shown.{entry_of, log_of, snapshot}
use Rattle.room_history.specs.Verdict.{first_reason, match_accepting}
use Rattle.room_history.specs.declared.reply.RoomReply.{RoomReply}
use Rattle.room_history.specs.declared.reply.RoomReply.TheVariants as answer
use Rattle.match_master.specs.declared.running_match.RunningMatch.{RunningMatch}
use Rattle.match_master.specs.Attached.{all_told}
use Rattle.match_master.specs.Does.{Does, SubmitDoes, after_fate, barred_by, grown, sync_at, unless_key, with_accepted, with_attachment}
use Rattle.match_master.specs.Held.{Held, is_starved, running_of}
use Rattle.match_master.specs.Judged.{IsAccepted}
use Rattle.match_master.specs.UpdateText.{action_line, action_message, value_seen}
use Rattle.match_master.proofs.AttachedLaws.{told_same}

newest_last : (sheet : Sheet) (log : List Entry) (e : Entry) → newest_entry sheet (log ++ e ∷ []) ≡ entry_data sheet e
newest_last sheet [] e = refl
newest_last sheet (x ∷ []) e = refl
newest_last sheet (x ∷ y ∷ log) e = newest_last sheet (y ∷ log) e

some_is : {A : Type 0} (a b : A) → Some a ≡ Some b → a ≡ b
some_is a b h = cc

none_is : {A : Type 0} (a : A) → Some a ≡ None → ⊥
none_is a h = cc

map-last : {A B : Type 0} (f : A → B) (xs : List A) (x : A) → map f (xs ++ x ∷ []) ≡ map f xs ++ f x ∷ []
map-last f [] x = refl
map-last f (y ∷ xs) x = ap (λ l. f y ∷ l) (map-last f xs x)

module _ {X G : Type 0} (rules : X → Rules G) where
  -- ---- an accepted action

  module _ (room : ℕ) (m : Match X G) (viewer : Viewer) (s : Submission) (coming : Coming G) (entry : Entry) (i : IsAccepted rules room m viewer s coming entry) where
    abbrev n : Match X G
    n = record m { accepted = coming.action ∷ m.accepted }

    entry_is : entry ≡ entry_of (table_of rules m) (table_of rules n) (number_of m) coming.action
    entry_is = i.entry_is ∙ ap (λ t. entry_of (table_of rules m) t (number_of m) coming.action) i.table_is

    -- what is told of the action is told by the snapshot after it
    told_by : (seat : Option ℕ) (tell : Reached G → Data → ℕ → ServerMsg)
        → tell coming.table (entry_data (rules m.game).sheet (redact (rules m.game).sheet seat entry)) coming.number ≡ tell (table_of rules n) (newest_entry (rules m.game).sheet (snapshot rules n seat).log) (number_of n)
    told_by seat tell =
        let sheet : Sheet = (rules m.game).sheet in
        let added : Entry = entry_of (table_of rules m) (table_of rules n) (number_of m) coming.action in
        let last : newest_entry sheet (map (redact sheet seat) (log_of rules m ++ added ∷ [])) ≡ entry_data sheet (redact sheet seat added)
        = ap (newest_entry sheet) (map-last (redact sheet seat) (log_of rules m) added) ∙ newest_last sheet (map (redact sheet seat) (log_of rules m)) (redact sheet seat added) in
        ap (λ e. tell coming.table (entry_data sheet (redact sheet seat e)) coming.number) entry_is
        ∙ ap (λ t. tell t (entry_data sheet (redact sheet seat added)) coming.number) i.table_is
        ∙ ap (tell (table_of rules n) (entry_data sheet (redact sheet seat added))) (i.number_is ∙ add-one (number_of m))
        ∙ sym (ap (λ d. tell (table_of rules n) d (number_of n)) last)

    message_is : (seat : Option ℕ) (protocol : Protocol) → action_message (rules m.game) (running_of rules m).state coming entry seat protocol ≡ update_for rules m n seat protocol
    message_is seat One = told_by seat (λ t d k. Update (ctx_data (rules m.game).sheet t.ctx) d (value_seen (rules m.game) t seat) k)
    message_is seat Two = told_by seat (λ t d k.
        Change (put_part (ctx_data (rules m.game).sheet (table_of rules m).ctx) (ctx_data (rules m.game).sheet t.ctx)) d
        (gone_part (value_seen (rules m.game) (table_of rules m) seat) (value_seen (rules m.game) t seat)) (put_part (value_seen (rules m.game) (table_of rules m) seat) (value_seen (rules m.game) t seat)) k)

    -- the state after an accepted action is that of one action more
    next_state : (r : Rules G) (first : Reached G) (accepted : List Accepted) (a : Accepted) → state_after r (standing_at r first accepted) a ≡ standing_at r first (a ∷ accepted)
    next_state r first accepted a = ap (λ k. record (standing_at r first (a ∷ accepted)) { number = k }) (add-one (length accepted))

    grown_is : grown rules (running_of rules m) coming entry ≡ running_of rules n
    grown_is =
        ap (grown rules (running_of rules m) coming) entry_is
        ∙ ap (λ (st : Standing G). let k : RunningMatch X G = record (running_of rules n) { state = st } in k) (next_state (rules m.game) m.first m.accepted coming.action)

    accepted_held : (old : Held X G) (pass : ℕ) → with_accepted rules old (running_of rules m) pass coming entry s.ticket ≡ after_fate rules old pass s.ticket m (Goes (match_accepting rules m viewer s))
    accepted_held old pass =
        let holding : RunningMatch X G → List (ℕ × Attachment) → Held X G = λ k attachments. record old { running = Some k; attachments = attachments } in
        ap (λ k. holding k (all_told pass (text (Accepts coming.number s.ticket)) (action_line (rules m.game) (running_of rules m).state coming entry) old.attachments)) grown_is
        ∙ ap (λ j. holding (running_of rules n) (all_told pass (text (Accepts j s.ticket)) (action_line (rules m.game) (running_of rules m).state coming entry) old.attachments)) i.number_is
        ∙ ap (holding (running_of rules n))
        (told_same old.attachments pass (text (Accepts (number_of m + 1) s.ticket)) (action_line (rules m.game) (running_of rules m).state coming entry) (λ seat protocol. text (update_for rules m n seat protocol)) (λ seat protocol. ap text (message_is seat protocol)))
        ∙ ap (λ (x : Match X G). after_fate rules old pass s.ticket m (Goes x)) (sym i.match_is)

    reply_is : answer.Verdict (verdict.Ok coming.number) ≡ submit_reply (Goes (match_accepting rules m viewer s))
    reply_is =
        ap (λ k. answer.Verdict (verdict.Ok k)) (i.number_is ∙ add-one (number_of m))
        ∙ ap (λ (x : Match X G). answer.Verdict (verdict.Ok (number_of x))) (sym i.match_is)

    accept_does : (old : Held X G) → old.room ≡ room → (pass : ℕ) (reply : RoomReply) (new : Held X G)
        → Does old reply new (answer.Verdict (verdict.Ok coming.number)) (with_accepted rules old (running_of rules m) pass coming entry s.ticket)
        → Does old reply new (submit_reply (fate_by rules room m viewer s (first_reason rules room m viewer s))) (after_fate rules old pass s.ticket m (fate_by rules room m viewer s (first_reason rules room m viewer s)))
    accept_does old same pass reply new d =
        subst (λ o. Does old reply new (submit_reply (fate_by rules room m viewer s o)) (after_fate rules old pass s.ticket m (fate_by rules room m viewer s o))) (sym i.unbroken)
        (subst (λ h. Does old reply new (submit_reply (Goes (match_accepting rules m viewer s))) h) (accepted_held old pass)
        (subst (λ r. Does old reply new r (with_accepted rules old (running_of rules m) pass coming entry s.ticket)) reply_is d))

  -- whatever match stands
  pub submit_does : (old : Held X G) (pass : ℕ) (k : RunningMatch X G) (viewer : Viewer) (s : Submission) (coming : Coming G) (entry : Entry) (reply : RoomReply) (new : Held X G) (standing : Option (Match X G))
      → old.running ≡ Some k → old.running ≡ option_map (running_of rules) standing → ((m : Match X G) → k ≡ running_of rules m → IsAccepted rules old.room m viewer s coming entry)
      → IfSome old.running (λ held. Does old reply new (answer.Verdict (verdict.Ok coming.number)) (with_accepted rules old held pass coming entry s.ticket))
      → SubmitDoes rules old pass s reply new (Some viewer) standing
  submit_does old pass k viewer s coming entry reply new None e h i d = absurd (none_is k (sym e ∙ h))
  submit_does old pass k viewer s coming entry reply new (Some m) e h i d =
      accept_does old.room m viewer s coming entry (i m (some_is k (running_of rules m) (sym e ∙ h))) old refl pass reply new
      (subst (λ o. IfSome o (λ held. Does old reply new (answer.Verdict (verdict.Ok coming.number)) (with_accepted rules old held pass coming entry s.ticket))) h d)

  -- ---- who is let in

  abbrev place_in : Option (RunningMatch X G) → Option (ℕ × Seats)
  place_in running = option_map (λ (r : RunningMatch X G). (r.serial, r.roster)) running

  -- the match that a viewer is let in to, unless there is a reason not to
  abbrev let_in_to : Option (Match X G) → Option RoomReply → Result (Match X G) RoomReply
  let_in_to st (Some why) = Err why
  let_in_to None None = Err answer.NoMatch
  let_in_to (Some m) None = Ok m

  ended_or_not : (st : Option (Match X G)) (end : Option Bye) (serial : ℕ) (viewer : Viewer) → attached_match st (state_by end) serial viewer ≡ Err answer.AlreadyAttached
  ended_or_not st None serial viewer = refl
  ended_or_not st (Some why) serial viewer = refl

  by_key : (m : Match X G) (b : Bool) → (if b then Ok m else Err answer.Unauthorized) ≡ let_in_to (Some m) (unless_key b)
  by_key m true = refl
  by_key m false = refl

  by_serial : (m : Match X G) (viewer : Viewer) (b : Bool) → open_match viewer (if b then Ok m else Err answer.NoMatch) ≡ let_in_to (Some m) (if b then unless_key (lets_in m.roster viewer) else Some answer.NoMatch)
  by_serial m viewer true = by_key m (lets_in m.roster viewer)
  by_serial m viewer false = refl

  attached_is : (st : Option (Match X G)) (a : Option Attachment) (serial : ℕ) (viewer : Viewer)
      → attached_match st (attachment_state a) serial viewer ≡ let_in_to st (barred_by (place_in (option_map (running_of rules) st)) (is_some a) serial viewer)
  attached_is st (Some a) serial viewer = ended_or_not st a.outbox.end serial viewer
  attached_is None None serial viewer = refl
  attached_is (Some m) None serial viewer = by_serial m viewer (m.serial == serial)

  -- by the match that stands
  attached_by : (old : Held X G) (st : Option (Match X G)) → old.running ≡ option_map (running_of rules) st → (a : Option Attachment) (serial : ℕ) (viewer : Viewer)
      → attached_match st (attachment_state a) serial viewer ≡ let_in_to st (barred_by (place_in old.running) (is_some a) serial viewer)
  attached_by old st e a serial viewer = attached_is st a serial viewer ∙ ap (λ r. let_in_to st (barred_by (place_in r) (is_some a) serial viewer)) (sym e)

  abbrev Attaches : Held X G → ℕ → Viewer → Protocol → RoomReply → Held X G → Result (Match X G) RoomReply → Type 0
  Attaches old pass viewer protocol reply new r = Does old reply new (reply_by (λ (m : Match X G). answer.Attached) r) (with_attachment rules old pass viewer protocol r)

  nothing_done : (b : Bool) (old : Held X G) (why : RoomReply) → MatchBool b (old ≡ old) ((why ≡ why) × (old ≡ old))
  nothing_done true old why = refl
  nothing_done false old why = (refl, refl)

  pub kept_out : (old : Held X G) (pass serial : ℕ) (viewer : Viewer) (protocol : Protocol) (why : RoomReply) (a : Option Attachment) (st : Option (Match X G)) → old.running ≡ option_map (running_of rules) st
      → barred_by (place_in old.running) (is_some a) serial viewer ≡ Some why → Attaches old pass viewer protocol why old (attached_match st (attachment_state a) serial viewer)
  kept_out old pass serial viewer protocol why a st e barred =
      subst (Attaches old pass viewer protocol why old) (sym (attached_by old st e a serial viewer ∙ ap (let_in_to st) barred)) (nothing_done (is_starved why) old why)

  nobody : (b : Bool) (serial : ℕ) (viewer : Viewer) → barred_by None b serial viewer ≡ None → ⊥
  nobody true serial viewer h = cc
  nobody false serial viewer h = cc

  pub is_there : (running : Option (RunningMatch X G)) (b : Bool) (serial : ℕ) (viewer : Viewer) → barred_by (place_in running) b serial viewer ≡ None → IsSome running
  is_there None b serial viewer h = absurd (nobody b serial viewer h)
  is_there (Some r) b serial viewer h = refl

  pub let_in : (old : Held X G) (pass serial : ℕ) (viewer : Viewer) (protocol : Protocol) (reply : RoomReply) (new : Held X G) (a : Option Attachment) (st : Option (Match X G)) → old.running ≡ option_map (running_of rules) st
      → barred_by (place_in old.running) (is_some a) serial viewer ≡ None
      → IfSome old.running (λ r. Does old reply new answer.Attached (record old { attachments = insert_entry nat_eq old.attachments pass (sync_at rules old.room r viewer protocol) }))
      → Attaches old pass viewer protocol reply new (attached_match st (attachment_state a) serial viewer)
  let_in old pass serial viewer protocol reply new a None e free d = absurd (nobody (is_some a) serial viewer (sym (ap (λ r. barred_by (place_in r) (is_some a) serial viewer) e) ∙ free))
  let_in old pass serial viewer protocol reply new a (Some m) e free d =
      subst (Attaches old pass viewer protocol reply new) (sym (attached_by old (Some m) e a serial viewer ∙ ap (let_in_to (Some m)) free))
      (subst (λ o. IfSome o (λ r. Does old reply new answer.Attached (record old { attachments = insert_entry nat_eq old.attachments pass (sync_at rules old.room r viewer protocol) }))) e d)
