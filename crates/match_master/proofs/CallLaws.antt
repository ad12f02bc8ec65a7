-- What the private steps of a Book make of what is held, call by call, is what each call makes of it by held values.
use Rattle.std.proofs.Common.{◌≡◌, ◌==◌, ℕ, ◌+◌, List, [], ◌∷◌, ◌++◌, length, map, Bool, true, false, if◌then◌else◌, MatchBool, nat_eq, nat_lt, Option, Some, None, option_map, Result, Ok, Err, refl, sym, ap, ◌∙◌, subst, arith}
use Rattle.std.proofs.lemmas.Bool.Decides.{nat_tests}
use Rattle.std.specs.Map.{lookup}
use Rattle.indexmap.specs.IndexMap.{insert_entry}
use Rattle.game_sheet.specs.Viewer.{Viewer, seat_of}
use Rattle.game_sheet.specs.declared.act.Bye.{Bye}
use Rattle.game_sheet.specs.declared.act.Bye.TheVariants as bye
use Rattle.game_sheet.specs.declared.sheet.Sheet.{Sheet}
use Rattle.game_trait.specs.Rules.{Rules}
use Rattle.player_sight.specs.SnapshotData.{Snap}
use Rattle.seat_roster.specs.Roster.{is_empty, join, rename, leave}
use Rattle.wire_json.specs.declared.protocol.Protocol.{Protocol}
use Rattle.wire_json.specs.declared.protocol.Protocol.TheVariants.{One, Two}
use Rattle.wire_json.specs.declared.reason.Reason.{Reason}
use Rattle.wire_json.specs.declared.submission.Submission.{Submission}
use Rattle.room_history.specs.Does.{is_left}
use Rattle.room_history.specs.Held.{attachment_after, attachment_after_action, attachment_after_attach, attachment_after_clear, attachment_after_leave, attachment_after_submission, attachment_fate, attachment_state, attachment_take_reply, attachment_with, new_attachment, reply_held, update_for}
use Rattle.room_history.specs.Match.{Match, number_of}
use Rattle.wire_json.specs.declared.server.ServerMsg.{ServerMsg}
use Rattle.wire_json.specs.declared.server.ServerMsg.TheVariants.{No, Ok as Accepts}
use Rattle.wire_json.specs.ServerText.{text}
use Rattle.room_history.specs.Outbox.{Attachment, Outbox, line_or_lagging, outbox_with, unless_ended}
use Rattle.room_history.specs.Piece.{End, Line, Mark, counted_size}
use Rattle.room_history.specs.Reply.{Fate, Goes, Turned, Unheard, attached_match, created_match, looked_match, match_row, named_match, reply_by, reseated_match, submit_reply}
use Rattle.room_history.proofs.Names.{fate_by}
use Rattle.room_history.specs.Session.{detach_reply}
use Rattle.room_history.specs.Showing.{update_message}
use Rattle.room_history.specs.Shown.{snapshot}
use Rattle.room_history.specs.Stream.{most_waiting}
use Rattle.room_history.specs.Verdict.{first_reason}
use Rattle.room_history.specs.declared.call.RoomCall.{RoomCall}
use Rattle.room_history.specs.declared.call.RoomCall.TheVariants.{Create, Join, Rename, Leave, Look, Attach, Submit, Take, Detach, Clear}
use Rattle.room_history.specs.declared.reply.RoomReply.{RoomReply}
use Rattle.room_history.specs.declared.reply.RoomReply.TheVariants as answer
use Rattle.match_master.specs.Attached.{Becomes, Lines, all_left, all_told, leaver, left, open_viewer, own_told, told_at, viewer_if}
use Rattle.match_master.specs.Does.{Answers, Does, GoesBy, Says, SubmitDoes, after_fate, match_after, match_by_fate, match_cleared, match_left, match_made, serials_made, with_attachment, with_cleared, with_left_seat, with_match, with_new_match}
use Rattle.match_master.specs.Held.{Held, is_starved, running_of}
use Rattle.match_master.specs.Outgoing.{gained, with_line, with_line_if}
use Rattle.match_master.proofs.AttachedLaws.{found_at, lookup-mapped, lookup-put, made_at}

module _ {X G : Type 0} (rules : X → Rules G) where
  -- unless there was no memory, a call goes by what is wanted
  does_goes : (old : Held X G) (st : Option (Match X G)) (pass : ℕ) (call : RoomCall X) (reply : RoomReply) (new : Held X G) (wanted : RoomReply) (held : Held X G)
      → Does old reply new wanted held → Answers rules old st pass call wanted held → GoesBy rules old st pass call reply new
  does_goes old st pass call reply new wanted held d a = by (is_starved reply) d
    where
      by : (b : Bool) → MatchBool b (new ≡ old) ((reply ≡ wanted) × (new ≡ held)) → MatchBool b (new ≡ old) (Answers rules old st pass call reply new)
      by true e = e
      by false e = subst (λ n. Answers rules old st pass call reply n) (sym e.1) (subst (λ r. Answers rules old st pass call r held) (sym e.0) a)

  answers_goes : (old : Held X G) (st : Option (Match X G)) (pass : ℕ) (call : RoomCall X) (reply : RoomReply) (new : Held X G) → is_starved reply ≡ false → Answers rules old st pass call reply new → GoesBy rules old st pass call reply new
  answers_goes old st pass call reply new f a = subst (λ b. MatchBool b (new ≡ old) (Answers rules old st pass call reply new)) (sym f) a

  -- ---- making a match, and who sits at it

  new_room : (old : Held X G) (r : Result (Match X G) RoomReply) → (with_new_match rules old r).room ≡ old.room
  new_room old (Ok m) = refl
  new_room old (Err why) = refl

  new_serials : (old : Held X G) (r : Result (Match X G) RoomReply) → (with_new_match rules old r).serials ≡ serials_made old.serials r
  new_serials old (Ok m) = refl
  new_serials old (Err why) = refl

  new_running : (old : Held X G) (st : Option (Match X G)) (r : Result (Match X G) RoomReply) → old.running ≡ option_map (running_of rules) st → (with_new_match rules old r).running ≡ option_map (running_of rules) (match_made st r)
  new_running old st (Ok m) e = refl
  new_running old st (Err why) e = e

  new_attachments : (old : Held X G) (r : Result (Match X G) RoomReply) → (with_new_match rules old r).attachments ≡ old.attachments
  new_attachments old (Ok m) = refl
  new_attachments old (Err why) = refl

  pub create_goes : (old : Held X G) (st : Option (Match X G)) → old.running ≡ option_map (running_of rules) st → (pass : ℕ) (game : X) (seats : ℕ) (seed : List ℕ) (reply : RoomReply) (new : Held X G)
      → Does old reply new (reply_by (λ (m : Match X G). answer.Created m.serial) (created_match rules old.serials st game seats seed)) (with_new_match rules old (created_match rules old.serials st game seats seed))
      → GoesBy rules old st pass (Create game seats seed) reply new
  create_goes old st e pass game seats seed reply new d =
      let r : Result (Match X G) RoomReply = created_match rules old.serials st game seats seed in
      does_goes old st pass (Create game seats seed) reply new (reply_by (λ (m : Match X G). answer.Created m.serial) r) (with_new_match rules old r) d
      (record { replied = refl; room = new_room old r; serials = new_serials old r; running = new_running old st r e; attachments = λ q. ap (lookup (nat_eq q)) (new_attachments old r) })

  match_room : (old : Held X G) (r : Result (Match X G) RoomReply) → (with_match rules old r).room ≡ old.room
  match_room old (Ok m) = refl
  match_room old (Err why) = refl

  match_serials : (old : Held X G) (r : Result (Match X G) RoomReply) → (with_match rules old r).serials ≡ old.serials
  match_serials old (Ok m) = refl
  match_serials old (Err why) = refl

  match_running : (old : Held X G) (st : Option (Match X G)) (r : Result (Match X G) RoomReply) → old.running ≡ option_map (running_of rules) st → (with_match rules old r).running ≡ option_map (running_of rules) (match_made st r)
  match_running old st (Ok m) e = refl
  match_running old st (Err why) e = e

  match_attachments : (old : Held X G) (r : Result (Match X G) RoomReply) → (with_match rules old r).attachments ≡ old.attachments
  match_attachments old (Ok m) = refl
  match_attachments old (Err why) = refl

  pub join_goes : (old : Held X G) (st : Option (Match X G)) → old.running ≡ option_map (running_of rules) st → (pass serial seat : ℕ) (name key : List ℕ) (reply : RoomReply) (new : Held X G)
      → Does old reply new (reply_by (λ (m : Match X G). answer.Joined) (reseated_match (named_match st serial) (λ roster. join roster seat name key))) (with_match rules old (reseated_match (named_match st serial) (λ roster. join roster seat name key)))
      → GoesBy rules old st pass (Join serial seat name key) reply new
  join_goes old st e pass serial seat name key reply new d =
      let r : Result (Match X G) RoomReply = reseated_match (named_match st serial) (λ roster. join roster seat name key) in
      does_goes old st pass (Join serial seat name key) reply new (reply_by (λ (m : Match X G). answer.Joined) r) (with_match rules old r) d
      (record { replied = refl; room = match_room old r; serials = match_serials old r; running = match_running old st r e; attachments = λ q. ap (lookup (nat_eq q)) (match_attachments old r) })

  pub rename_goes : (old : Held X G) (st : Option (Match X G)) → old.running ≡ option_map (running_of rules) st → (pass serial seat : ℕ) (key name : List ℕ) (reply : RoomReply) (new : Held X G)
      → Does old reply new (reply_by (λ (m : Match X G). answer.Renamed) (reseated_match (named_match st serial) (λ roster. rename roster seat key name))) (with_match rules old (reseated_match (named_match st serial) (λ roster. rename roster seat key name)))
      → GoesBy rules old st pass (Rename serial seat key name) reply new
  rename_goes old st e pass serial seat key name reply new d =
      let r : Result (Match X G) RoomReply = reseated_match (named_match st serial) (λ roster. rename roster seat key name) in
      does_goes old st pass (Rename serial seat key name) reply new (reply_by (λ (m : Match X G). answer.Renamed) r) (with_match rules old r) d
      (record { replied = refl; room = match_room old r; serials = match_serials old r; running = match_running old st r e; attachments = λ q. ap (lookup (nat_eq q)) (match_attachments old r) })

  left_room : (seat : ℕ) (old : Held X G) (r : Result (Match X G) RoomReply) → (with_left_seat rules seat old r).room ≡ old.room
  left_room seat old (Ok m) = refl
  left_room seat old (Err why) = refl

  left_serials : (seat : ℕ) (old : Held X G) (r : Result (Match X G) RoomReply) → (with_left_seat rules seat old r).serials ≡ old.serials
  left_serials seat old (Ok m) = refl
  left_serials seat old (Err why) = refl

  removed_running : (b : Bool) (m : Match X G) → (if b then None else Some (running_of rules m)) ≡ option_map (running_of rules) (if b then None else Some m)
  removed_running true m = refl
  removed_running false m = refl

  left_running : (seat : ℕ) (old : Held X G) (st : Option (Match X G)) (r : Result (Match X G) RoomReply) → old.running ≡ option_map (running_of rules) st → (with_left_seat rules seat old r).running ≡ option_map (running_of rules) (match_left st r)
  left_running seat old st (Ok m) e = removed_running (is_empty m.roster) m
  left_running seat old st (Err why) e = e

  left_one : (b : Bool) (a : Attachment) → Some (if b then record a { outbox = unless_ended a.outbox.end a.outbox (record (a.outbox) { end = Some bye.Left }) } else a)
      ≡ (if b then Some (record a { outbox = unless_ended a.outbox.end a.outbox (record (a.outbox) { end = Some bye.Left }) }) else Some a)
  left_one true a = refl
  left_one false a = refl

  left_if : (seat : ℕ) (m : Match X G) (o : Option Attachment) → option_map (left (leaver seat (is_empty m.roster))) o ≡ attachment_after_leave seat (Ok m) o
  left_if seat m None = refl
  left_if seat m (Some a) = by (is_empty m.roster)
    where
      by : (b : Bool) → option_map (left (leaver seat b)) (Some a) ≡ (if is_left seat b a.viewer then attachment_with (End bye.Left) (Some a) else Some a)
      by true = refl
      by false = left_one (is_left seat false a.viewer) a

  left_attachments : (seat : ℕ) (old : Held X G) (r : Result (Match X G) RoomReply) (q : ℕ) → lookup (nat_eq q) (with_left_seat rules seat old r).attachments ≡ attachment_after_leave seat r (lookup (nat_eq q) old.attachments)
  left_attachments seat old (Ok m) q = lookup-mapped (λ k a. left (leaver seat (is_empty m.roster)) a) old.attachments q ∙ left_if seat m (lookup (nat_eq q) old.attachments)
  left_attachments seat old (Err why) q = refl

  pub leave_goes : (old : Held X G) (st : Option (Match X G)) → old.running ≡ option_map (running_of rules) st → (pass serial seat : ℕ) (key : List ℕ) (reply : RoomReply) (new : Held X G)
      → Does old reply new (reply_by (λ (m : Match X G). answer.Left) (reseated_match (named_match st serial) (λ roster. leave roster seat key))) (with_left_seat rules seat old (reseated_match (named_match st serial) (λ roster. leave roster seat key)))
      → GoesBy rules old st pass (Leave serial seat key) reply new
  leave_goes old st e pass serial seat key reply new d =
      let r : Result (Match X G) RoomReply = reseated_match (named_match st serial) (λ roster. leave roster seat key) in
      does_goes old st pass (Leave serial seat key) reply new (reply_by (λ (m : Match X G). answer.Left) r) (with_left_seat rules seat old r) d
      (record { replied = refl; room = left_room seat old r; serials = left_serials seat old r; running = left_running seat old st r e; attachments = left_attachments seat old r })

  cleared_room : (old : Held X G) (r : Result (Match X G) RoomReply) → (with_cleared old r).room ≡ old.room
  cleared_room old (Ok m) = refl
  cleared_room old (Err why) = refl

  cleared_serials : (old : Held X G) (r : Result (Match X G) RoomReply) → (with_cleared old r).serials ≡ old.serials
  cleared_serials old (Ok m) = refl
  cleared_serials old (Err why) = refl

  cleared_running : (old : Held X G) (st : Option (Match X G)) (r : Result (Match X G) RoomReply) → old.running ≡ option_map (running_of rules) st → (with_cleared old r).running ≡ option_map (running_of rules) (match_cleared st r)
  cleared_running old st (Ok m) e = refl
  cleared_running old st (Err why) e = e

  cleared_one : (o : Option Attachment) → option_map (left None) o ≡ attachment_with (End bye.Left) o
  cleared_one None = refl
  cleared_one (Some a) = refl

  cleared_attachments : (old : Held X G) (r : Result (Match X G) RoomReply) (q : ℕ) → lookup (nat_eq q) (with_cleared old r).attachments ≡ attachment_after_clear r (lookup (nat_eq q) old.attachments)
  cleared_attachments old (Ok m) q = lookup-mapped (λ k a. left None a) old.attachments q ∙ cleared_one (lookup (nat_eq q) old.attachments)
  cleared_attachments old (Err why) q = refl

  pub clear_goes : (old : Held X G) (st : Option (Match X G)) → old.running ≡ option_map (running_of rules) st → (pass serial : ℕ) (reply : RoomReply) (new : Held X G)
      → Does old reply new (reply_by (λ (m : Match X G). answer.Cleared) (named_match st serial)) (with_cleared old (named_match st serial)) → GoesBy rules old st pass (Clear serial) reply new
  clear_goes old st e pass serial reply new d =
      let r : Result (Match X G) RoomReply = named_match st serial in
      does_goes old st pass (Clear serial) reply new (reply_by (λ (m : Match X G). answer.Cleared) r) (with_cleared old r) d
      (record { replied = refl; room = cleared_room old r; serials = cleared_serials old r; running = cleared_running old st r e; attachments = cleared_attachments old r })

  pub look_goes : (old : Held X G) (st : Option (Match X G)) → old.running ≡ option_map (running_of rules) st → (pass : ℕ) (serial : Option ℕ) (reply : RoomReply)
      → Says reply (reply_by (λ m. answer.Looked (match_row rules old.room m)) (looked_match st serial)) → GoesBy rules old st pass (Look serial) reply old
  look_goes old st e pass serial reply d = by (is_starved reply) d
    where
      by : (b : Bool) → MatchBool b (Unit {0}) (reply ≡ reply_by (λ m. answer.Looked (match_row rules old.room m)) (looked_match st serial)) → MatchBool b (old ≡ old) (Answers rules old st pass (Look serial) reply old)
      by true d = refl
      by false d = record { replied = d; room = refl; serials = refl; running = e; attachments = λ q. refl }

  -- ---- looking, and taking what waits

  begun_room : (old : Held X G) (pass : ℕ) (viewer : Viewer) (protocol : Protocol) (r : Result (Match X G) RoomReply) → (with_attachment rules old pass viewer protocol r).room ≡ old.room
  begun_room old pass viewer protocol (Ok m) = refl
  begun_room old pass viewer protocol (Err why) = refl

  begun_serials : (old : Held X G) (pass : ℕ) (viewer : Viewer) (protocol : Protocol) (r : Result (Match X G) RoomReply) → (with_attachment rules old pass viewer protocol r).serials ≡ old.serials
  begun_serials old pass viewer protocol (Ok m) = refl
  begun_serials old pass viewer protocol (Err why) = refl

  begun_running : (old : Held X G) (pass : ℕ) (viewer : Viewer) (protocol : Protocol) (r : Result (Match X G) RoomReply) → (with_attachment rules old pass viewer protocol r).running ≡ old.running
  begun_running old pass viewer protocol (Ok m) = refl
  begun_running old pass viewer protocol (Err why) = refl

  same_either : (b : Bool) (a : Option Attachment) → a ≡ (if b then a else a)
  same_either true a = refl
  same_either false a = refl

  begun_attachments : (old : Held X G) (pass : ℕ) (viewer : Viewer) (protocol : Protocol) (r : Result (Match X G) RoomReply) (q : ℕ)
      → lookup (nat_eq q) (with_attachment rules old pass viewer protocol r).attachments
      ≡ (if nat_eq pass q then attachment_after_attach rules old.room viewer protocol r (lookup (nat_eq q) old.attachments) else lookup (nat_eq q) old.attachments)
  begun_attachments old pass viewer protocol (Ok m) q = lookup-put old.attachments pass q (new_attachment rules old.room viewer protocol m)
  begun_attachments old pass viewer protocol (Err why) q = same_either (nat_eq pass q) (lookup (nat_eq q) old.attachments)

  pub attach_goes : (old : Held X G) (st : Option (Match X G)) → old.running ≡ option_map (running_of rules) st → (pass serial : ℕ) (viewer : Viewer) (protocol : Protocol) (reply : RoomReply) (new : Held X G)
      → Does old reply new (reply_by (λ (m : Match X G). answer.Attached) (attached_match st (attachment_state (lookup (nat_eq pass) old.attachments)) serial viewer))
      (with_attachment rules old pass viewer protocol (attached_match st (attachment_state (lookup (nat_eq pass) old.attachments)) serial viewer))
      → GoesBy rules old st pass (Attach serial viewer protocol) reply new
  attach_goes old st e pass serial viewer protocol reply new d =
      let r : Result (Match X G) RoomReply = attached_match st (attachment_state (lookup (nat_eq pass) old.attachments)) serial viewer in
      does_goes old st pass (Attach serial viewer protocol) reply new (reply_by (λ (m : Match X G). answer.Attached) r) (with_attachment rules old pass viewer protocol r) d
      (record {
        replied = refl;
        room = begun_room old pass viewer protocol r;
        serials = begun_serials old pass viewer protocol r;
        running = begun_running old pass viewer protocol r ∙ e;
        attachments = begun_attachments old pass viewer protocol r;
      })

  pub take_goes : (old : Held X G) (st : Option (Match X G)) → old.running ≡ option_map (running_of rules) st → (pass : ℕ) (reply : RoomReply) (new : Held X G) → is_starved reply ≡ false
      → reply ≡ attachment_take_reply (lookup (nat_eq pass) old.attachments) → new ≡ record old { attachments = new.attachments }
      → Becomes pass (attachment_with Mark (lookup (nat_eq pass) old.attachments)) old.attachments new.attachments → GoesBy rules old st pass Take reply new
  take_goes old st e pass reply new f r same b =
      answers_goes old st pass Take reply new f
      (record {
        replied = r;
        room = ap (λ x. x.room) same;
        serials = ap (λ x. x.serials) same;
        running = ap (λ x. x.running) same ∙ e;
        attachments = λ q. b q ∙ made_at old.attachments pass q (attachment_with Mark);
      })

  pub detach_goes : (old : Held X G) (st : Option (Match X G)) → old.running ≡ option_map (running_of rules) st → (pass : ℕ) (reply : RoomReply) (new : Held X G) → is_starved reply ≡ false
      → reply ≡ detach_reply (attachment_state (lookup (nat_eq pass) old.attachments)) → new ≡ record old { attachments = new.attachments }
      → Becomes pass None old.attachments new.attachments → GoesBy rules old st pass Detach reply new
  detach_goes old st e pass reply new f r same b =
      answers_goes old st pass Detach reply new f
      (record { replied = r; room = ap (λ x. x.room) same; serials = ap (λ x. x.serials) same; running = ap (λ x. x.running) same ∙ e; attachments = b })

  -- ---- a submission

  -- a line whose bytes all count
  same_count : (message : ServerMsg) (o : Outbox) → counted_size message ≡ length (text message)
      → unless_ended o.end o (line_or_lagging (nat_lt most_waiting (o.count + counted_size message)) message o) ≡ with_line (text message) o
  same_count message o c =
      ap (λ j. unless_ended o.end o (line_or_lagging (nat_lt most_waiting (o.count + j)) message o)) c
      ∙ ap (unless_ended o.end o) (lagging (nat_lt most_waiting (o.count + length (text message))) c)
    where
      lagging : (b : Bool) → counted_size message ≡ length (text message) → line_or_lagging b message o ≡ with_line_if b (text message) o
      lagging true c = refl
      lagging false c = ap (λ j. let x : Outbox = record { waiting = o.waiting ++ text message ∷ []; count = o.count + j; end = o.end } in x) c

  counted_line : (message : ServerMsg) → counted_size message ≡ length (text message) → (o : Outbox) → outbox_with (Line message) o ≡ Some (with_line (text message) o)
  counted_line message h o = ap Some (same_count message o h)

  update_counts : (protocol : Protocol) (sheet : Sheet) (before after : Snap) → counted_size (update_message protocol sheet before after) ≡ length (text (update_message protocol sheet before after))
  update_counts One sheet before after = refl
  update_counts Two sheet before after = refl

  with_counted : (message : ServerMsg) → counted_size message ≡ length (text message) → (a : Attachment) → attachment_with (Line message) (Some a) ≡ Some (record a { outbox = with_line (text message) a.outbox })
  with_counted message h a = ap (option_map (λ o. record a { outbox = o })) (counted_line message h a.outbox)

  module _ (m n : Match X G) (ticket : ℕ) where
    abbrev verdict : List ℕ
    verdict = text (Accepts (number_of m + 1) ticket)

    abbrev lines : Lines
    lines seat protocol = text (update_for rules m n seat protocol)

    told_one : (own : Bool) (o : Option Attachment)
        → option_map (λ (a : Attachment). record a { outbox = gained own verdict (lines (seat_of a.viewer) a.protocol) a.outbox }) o ≡ attachment_after_submission rules (Some m) (Goes n) own ticket o
    told_one true None = refl
    told_one false None = refl
    told_one true (Some a) =
        sym (ap (attachment_with (Line (Accepts (number_of m + 1) ticket))) (with_counted (update_for rules m n (seat_of a.viewer) a.protocol) (update_counts a.protocol (rules m.game).sheet (snapshot rules m (seat_of a.viewer)) (snapshot rules n (seat_of a.viewer))) a)
        ∙ with_counted (Accepts (number_of m + 1) ticket) refl (record a { outbox = with_line (lines (seat_of a.viewer) a.protocol) a.outbox }))
    told_one false (Some a) =
        sym (with_counted (update_for rules m n (seat_of a.viewer) a.protocol) (update_counts a.protocol (rules m.game).sheet (snapshot rules m (seat_of a.viewer)) (snapshot rules n (seat_of a.viewer))) a)

    same_key : (p q : ℕ) → (q == p) ≡ nat_eq p q
    same_key p q = grind (arith, nat_tests)

    told_all : (es : List (ℕ × Attachment)) (pass q : ℕ) → lookup (nat_eq q) (all_told pass verdict lines es) ≡ attachment_after_submission rules (Some m) (Goes n) (nat_eq pass q) ticket (lookup (nat_eq q) es)
    told_all es pass q =
        lookup-mapped (λ k (a : Attachment). record a { outbox = gained (k == pass) verdict (lines (seat_of a.viewer) a.protocol) a.outbox }) es q
        ∙ told_one (q == pass) (lookup (nat_eq q) es)
        ∙ ap (λ b. attachment_after_submission rules (Some m) (Goes n) b ticket (lookup (nat_eq q) es)) (same_key pass q)

  refused_at : (es : List (ℕ × Attachment)) (pass q number : ℕ) (reason : Reason) (ticket : ℕ) (o : Option Attachment) → lookup (nat_eq pass) es ≡ o
      → lookup (nat_eq q) (told_at pass (text (No number reason ticket)) o es) ≡ (if nat_eq pass q then attachment_with (Line (No number reason ticket)) o else lookup (nat_eq q) es)
  refused_at es pass q number reason ticket None e = sym (found_at es pass q None e)
  refused_at es pass q number reason ticket (Some a) e =
      lookup-put es pass q (record a { outbox = with_line (text (No number reason ticket)) a.outbox })
      ∙ ap (λ x. if nat_eq pass q then x else lookup (nat_eq q) es) (sym (with_counted (No number reason ticket) refl a))

  refused_all : (es : List (ℕ × Attachment)) (pass q number : ℕ) (reason : Reason) (ticket : ℕ)
      → lookup (nat_eq q) (own_told pass (text (No number reason ticket)) es) ≡ (if nat_eq pass q then attachment_with (Line (No number reason ticket)) (lookup (nat_eq q) es) else lookup (nat_eq q) es)
  refused_all es pass q number reason ticket =
      refused_at es pass q number reason ticket (lookup (nat_eq pass) es) refl ∙ made_at es pass q (attachment_with (Line (No number reason ticket)))

  after_room : (old : Held X G) (pass ticket : ℕ) (m : Match X G) (f : Fate X G) → (after_fate rules old pass ticket m f).room ≡ old.room
  after_room old pass ticket m Unheard = refl
  after_room old pass ticket m (Turned n reason) = refl
  after_room old pass ticket m (Goes n) = refl

  after_serials : (old : Held X G) (pass ticket : ℕ) (m : Match X G) (f : Fate X G) → (after_fate rules old pass ticket m f).serials ≡ old.serials
  after_serials old pass ticket m Unheard = refl
  after_serials old pass ticket m (Turned n reason) = refl
  after_serials old pass ticket m (Goes n) = refl

  after_running : (old : Held X G) (pass ticket : ℕ) (m : Match X G) (f : Fate X G) → old.running ≡ Some (running_of rules m) → (after_fate rules old pass ticket m f).running ≡ option_map (running_of rules) (match_by_fate (Some m) f)
  after_running old pass ticket m Unheard e = e
  after_running old pass ticket m (Turned n reason) e = e
  after_running old pass ticket m (Goes n) e = refl

  after_attachments : (old : Held X G) (pass ticket : ℕ) (m : Match X G) (f : Fate X G) (q : ℕ)
      → lookup (nat_eq q) (after_fate rules old pass ticket m f).attachments ≡ attachment_after_submission rules (Some m) f (nat_eq pass q) ticket (lookup (nat_eq q) old.attachments)
  after_attachments old pass ticket m Unheard q = refl
  after_attachments old pass ticket m (Turned n reason) q = refused_all old.attachments pass q n reason ticket
  after_attachments old pass ticket m (Goes n) q = told_all m n ticket old.attachments pass q

  -- what becomes of it where somebody hears it
  heard_goes : (old : Held X G) (m : Match X G) → old.running ≡ Some (running_of rules m) → (pass : ℕ) (s : Submission) (reply : RoomReply) (new : Held X G) (f : Fate X G)
      → attachment_fate rules old.room (Some m) (lookup (nat_eq pass) old.attachments) s ≡ f → Does old reply new (submit_reply f) (after_fate rules old pass s.ticket m f) → GoesBy rules old (Some m) pass (Submit s) reply new
  heard_goes old m e pass s reply new f same d =
      does_goes old (Some m) pass (Submit s) reply new (submit_reply f) (after_fate rules old pass s.ticket m f) d
      (record {
        replied = ap submit_reply (sym same);
        room = after_room old pass s.ticket m f;
        serials = after_serials old pass s.ticket m f;
        running = after_running old pass s.ticket m f e ∙ ap (λ x. option_map (running_of rules) (match_by_fate (Some m) x)) (sym same);
        attachments = λ q. after_attachments old pass s.ticket m f q ∙ ap (λ x. attachment_after_submission rules (Some m) x (nat_eq pass q) s.ticket (lookup (nat_eq q) old.attachments)) (sym same);
      })

  -- and where nobody does
  unheard_same : (st : Option (Match X G)) (own : Bool) (ticket : ℕ) (o : Option Attachment) → o ≡ attachment_after_submission rules st Unheard own ticket o
  unheard_same None own ticket o = refl
  unheard_same (Some m) own ticket o = refl

  unheard_goes : (old : Held X G) (st : Option (Match X G)) → old.running ≡ option_map (running_of rules) st → (pass : ℕ) (s : Submission) (reply : RoomReply) (new : Held X G)
      → attachment_fate rules old.room st (lookup (nat_eq pass) old.attachments) s ≡ Unheard → Does old reply new answer.NotAttached old → GoesBy rules old st pass (Submit s) reply new
  unheard_goes old st e pass s reply new same d =
      does_goes old st pass (Submit s) reply new answer.NotAttached old d
      (record {
        replied = ap submit_reply (sym same);
        room = refl;
        serials = refl;
        running = e ∙ ap (λ x. option_map (running_of rules) (match_by_fate st x)) (sym same);
        attachments = λ q. unheard_same st (nat_eq pass q) s.ticket (lookup (nat_eq q) old.attachments)
            ∙ ap (λ x. attachment_after_submission rules st x (nat_eq pass q) s.ticket (lookup (nat_eq q) old.attachments)) (sym same);
      })

  ended_fate : (room : ℕ) (st : Option (Match X G)) (a : Attachment) (why : Bye) (s : Submission) → a.outbox.end ≡ Some why → attachment_fate rules room st (Some a) s ≡ Unheard
  ended_fate room None a why s e = refl
  ended_fate room (Some m) a why s e = rw e refl

  open_fate : (room : ℕ) (m : Match X G) (a : Attachment) (s : Submission) → a.outbox.end ≡ None → attachment_fate rules room (Some m) (Some a) s ≡ fate_by rules room m a.viewer s (first_reason rules room m a.viewer s)
  open_fate room m a s e = rw e refl

  by_end : (old : Held X G) (st : Option (Match X G)) → old.running ≡ option_map (running_of rules) st → (pass : ℕ) (s : Submission) (reply : RoomReply) (new : Held X G) (a : Attachment) (end : Option Bye)
      → lookup (nat_eq pass) old.attachments ≡ Some a → a.outbox.end ≡ end → SubmitDoes rules old pass s reply new (viewer_if end a.viewer) st → GoesBy rules old st pass (Submit s) reply new
  by_end old st e pass s reply new a (Some why) found ended d =
      unheard_goes old st e pass s reply new (ap (λ o. attachment_fate rules old.room st o s) found ∙ ended_fate old.room st a why s ended) d
  by_end old None e pass s reply new a None found goes_on d = unheard_goes old None e pass s reply new (ap (λ o. attachment_fate rules old.room None o s) found) d
  by_end old (Some m) e pass s reply new a None found goes_on d =
      heard_goes old m e pass s reply new (fate_by rules old.room m a.viewer s (first_reason rules old.room m a.viewer s)) (ap (λ o. attachment_fate rules old.room (Some m) o s) found ∙ open_fate old.room m a s goes_on) d

  by_caller : (old : Held X G) (st : Option (Match X G)) → old.running ≡ option_map (running_of rules) st → (pass : ℕ) (s : Submission) (reply : RoomReply) (new : Held X G) (caller : Option Attachment)
      → lookup (nat_eq pass) old.attachments ≡ caller → SubmitDoes rules old pass s reply new (open_viewer caller) st → GoesBy rules old st pass (Submit s) reply new
  by_caller old st e pass s reply new None found d = unheard_goes old st e pass s reply new (ap (λ o. attachment_fate rules old.room st o s) found) d
  by_caller old st e pass s reply new (Some a) found d = by_end old st e pass s reply new a a.outbox.end found refl d

  pub submit_goes : (old : Held X G) (st : Option (Match X G)) → old.running ≡ option_map (running_of rules) st → (pass : ℕ) (s : Submission) (reply : RoomReply) (new : Held X G)
      → SubmitDoes rules old pass s reply new (open_viewer (lookup (nat_eq pass) old.attachments)) st → GoesBy rules old st pass (Submit s) reply new
  submit_goes old st e pass s reply new d = by_caller old st e pass s reply new (lookup (nat_eq pass) old.attachments) refl d
