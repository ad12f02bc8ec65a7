-- What each call makes of what a Book holds.
use Rattle.std.specs.Prelude.{◌≡◌, ◌+◌, ◌==◌, ℕ, nat_eq, List, [], ◌∷◌, ◌++◌, Bool, true, false, if◌then◌else◌, MatchBool, is_some, Option, Some, None, option_map, Result, Ok, Err}
use Rattle.std.specs.Map.{lookup}
use Rattle.std.specs.Option.{option_map_or}
use Rattle.indexmap.specs.IndexMap.{insert_entry}
use Rattle.game_sheet.specs.Viewer.{Viewer, seat_of}
use Rattle.game_trait.specs.Rules.{Rules}
use Rattle.move_log.specs.declared.entry.Entry.{Entry}
use Rattle.player_sight.specs.Seen.{seen, snap_of}
use Rattle.player_sight.specs.SnapshotData.{Snap, snapshot_data}
use Rattle.reducer.specs.Prepared.{Coming}
use Rattle.reducer.specs.Standing.{Standing}
use Rattle.reducer.specs.Steps.{state_after}
use Rattle.seat_roster.specs.Player.{Seats}
use Rattle.seat_roster.specs.Roster.{is_empty, join, key_fits, rename, leave, public_rows}
use Rattle.wire_json.specs.declared.match_row.MatchRow.{MatchRow}
use Rattle.wire_json.specs.declared.protocol.Protocol.{Protocol}
use Rattle.wire_json.specs.declared.reason.Reason.{Reason}
use Rattle.wire_json.specs.declared.submission.Submission.{Submission}
use Rattle.room_history.specs.Held.{attachment_after, attachment_fate, new_attachment, reply_held, update_for}
use Rattle.room_history.specs.Match.{Match, number_of}
use Rattle.wire_json.specs.declared.server.ServerMsg.TheVariants.{No, Ok as Accepts, Sync}
use Rattle.wire_json.specs.ServerText.{text}
use Rattle.room_history.specs.Outbox.{Attachment}
use Rattle.room_history.specs.Piece.{Open}
use Rattle.room_history.specs.Reply.{Fate, Unheard, Turned, Goes, created_match, fate_in, named_match, reseated_match, submit_reply}
use Rattle.room_history.specs.declared.call.RoomCall.{RoomCall}
use Rattle.room_history.specs.declared.call.RoomCall.TheVariants.{Create, Join, Rename, Leave, Submit, Clear}
use Rattle.room_history.specs.declared.reply.RoomReply.{RoomReply}
use Rattle.room_history.specs.declared.reply.RoomReply.TheVariants as answer
use Rattle.match_master.specs.declared.running_match.RunningMatch.{RunningMatch}
use Rattle.match_master.specs.Attached.{all_left, all_told, leaver, own_told}
use Rattle.match_master.specs.Held.{Held, is_starved, running_of}
use Rattle.match_master.specs.Outgoing.{with_sync}
use Rattle.match_master.specs.UpdateText.{action_line}

-- unless there was no memory, the reply is this one
abbrev pub Says : RoomReply → RoomReply → Type 0
Says reply wanted = MatchBool (is_starved reply) (Unit {0}) (reply ≡ wanted)

-- unless there was no memory, the reply is this one, and the Book then holds this
abbrev pub Does : {X G : Type 0} → Held X G → RoomReply → Held X G → RoomReply → Held X G → Type 0
Does old reply new wanted held = MatchBool (is_starved reply) (new ≡ old) ((reply ≡ wanted) × (new ≡ held))

-- why an Attach doesn't let a viewer look at the match of a serial and these seats; none where it does
abbrev pub unless_key : Bool → Option RoomReply
unless_key true = None
unless_key false = Some answer.Unauthorized

abbrev pub barred_by : Option (ℕ × Seats) → Bool → ℕ → Viewer → Option RoomReply
barred_by at true serial viewer = Some answer.AlreadyAttached
barred_by None false serial viewer = Some answer.NoMatch
barred_by (Some at) false serial viewer = if at.0 == serial then unless_key (option_map_or (λ claim. key_fits at.1 claim.0 claim.1) viewer true) else Some answer.NoMatch

-- what the player of a seat, or a spectator, sees of a state with its log
abbrev pub seen_at : {G : Type 0} → Rules G → Standing G → List Entry → Option ℕ → Snap
seen_at rules state log seat = snap_of rules (seen rules state.number state.table.ctx state.table.g log seat)

abbrev pub with_refused : {X G : Type 0} → Held X G → ℕ → ℕ → Reason → ℕ → Held X G
with_refused old pass number reason ticket = record old { attachments = own_told pass (text (No number reason ticket)) old.attachments }

-- the match is removed, and all leave it
abbrev pub without_match : {X G : Type 0} → Held X G → Held X G
without_match old = record old { running = None; attachments = all_left None old.attachments }

abbrev pub with_cleared : {X G : Type 0} → Held X G → Result (Match X G) RoomReply → Held X G
with_cleared old (Ok m) = without_match old
with_cleared old (Err why) = old

module _ {X G : Type 0} (rules : X → Rules G) where
  -- what everybody may see of a match, by what is held of it
  abbrev pub row_at : ℕ → RunningMatch X G → MatchRow
  row_at room r = record {
    game = (rules r.game).sheet.name;
    name = record { room = room; serial = r.serial };
    over = is_some r.state.table.ctx.over;
    players = public_rows r.roster;
  }

  -- an action is taken in, with its entry of the log
  abbrev pub grown : RunningMatch X G → Coming G → Entry → RunningMatch X G
  grown r coming entry = record r { state = state_after (rules r.game) r.state coming.action; log = r.log ++ entry ∷ [] }

  abbrev pub with_accepted : Held X G → RunningMatch X G → ℕ → Coming G → Entry → ℕ → Held X G
  with_accepted old r pass coming entry ticket = record old {
    running = Some (grown r coming entry);
    attachments = all_told pass (text (Accepts coming.number ticket)) (action_line (rules r.game) r.state coming entry) old.attachments;
  }

  -- an attachment begins with the snapshot of the match, by what is held of it
  abbrev pub sync_at : ℕ → RunningMatch X G → Viewer → Protocol → Attachment
  sync_at room r viewer protocol = record {
    viewer = viewer;
    protocol = protocol;
    outbox = with_sync (text (Sync (record { room = room; serial = r.serial }) (seat_of viewer) protocol (snapshot_data (rules r.game).sheet (seen_at (rules r.game) r.state r.log (seat_of viewer)))));
  }

  -- what is held after each kind of call
  abbrev pub with_new_match : Held X G → Result (Match X G) RoomReply → Held X G
  with_new_match old (Ok m) = record old { serials = m.serial; running = Some (running_of rules m) }
  with_new_match old (Err why) = old

  abbrev pub with_match : Held X G → Result (Match X G) RoomReply → Held X G
  with_match old (Ok m) = record old { running = Some (running_of rules m) }
  with_match old (Err why) = old

  abbrev pub running_unless : Bool → Match X G → Option (RunningMatch X G)
  running_unless removed m = if removed then None else Some (running_of rules m)

  abbrev pub with_left_seat : ℕ → Held X G → Result (Match X G) RoomReply → Held X G
  with_left_seat seat old (Ok m) = record old {
    running = running_unless (is_empty m.roster) m;
    attachments = all_left (leaver seat (is_empty m.roster)) old.attachments;
  }
  with_left_seat seat old (Err why) = old

  abbrev pub with_attachment : Held X G → ℕ → Viewer → Protocol → Result (Match X G) RoomReply → Held X G
  with_attachment old pass viewer protocol (Ok m) = record old { attachments = insert_entry nat_eq old.attachments pass (new_attachment rules old.room viewer protocol m) }
  with_attachment old pass viewer protocol (Err why) = old

  abbrev pub after_fate : Held X G → ℕ → ℕ → Match X G → Fate X G → Held X G
  after_fate old pass ticket m Unheard = old
  after_fate old pass ticket m (Turned number reason) = with_refused old pass number reason ticket
  after_fate old pass ticket m (Goes n) = record old {
    running = Some (running_of rules n);
    attachments = all_told pass (text (Accepts (number_of m + 1) ticket)) (λ seat protocol. text (update_for rules m n seat protocol)) old.attachments;
  }

  -- by who looks by the pass, if its attachment goes on, and the match that stands
  abbrev pub SubmitDoes : Held X G → ℕ → Submission → RoomReply → Held X G → Option Viewer → Option (Match X G) → Type 0
  SubmitDoes old pass s reply new None standing = Does old reply new answer.NotAttached old
  SubmitDoes old pass s reply new (Some viewer) None = Does old reply new answer.NotAttached old
  SubmitDoes old pass s reply new (Some viewer) (Some m) =
      Does old reply new (submit_reply (fate_in rules old.room (Some m) Open viewer s))
      (after_fate old pass s.ticket m (fate_in rules old.room (Some m) Open viewer s))

-- how many matches were made, and which stands, after a call
abbrev pub serials_made : {X G : Type 0} → ℕ → Result (Match X G) RoomReply → ℕ
serials_made serials (Ok m) = m.serial
serials_made serials (Err why) = serials

abbrev pub match_made : {X G : Type 0} → Option (Match X G) → Result (Match X G) RoomReply → Option (Match X G)
match_made standing (Ok m) = Some m
match_made standing (Err why) = standing

abbrev pub match_left : {X G : Type 0} → Option (Match X G) → Result (Match X G) RoomReply → Option (Match X G)
match_left standing (Ok m) = if is_empty m.roster then None else Some m
match_left standing (Err why) = standing

abbrev pub match_cleared : {X G : Type 0} → Option (Match X G) → Result (Match X G) RoomReply → Option (Match X G)
match_cleared standing (Ok m) = None
match_cleared standing (Err why) = standing

abbrev pub match_by_fate : {X G : Type 0} → Option (Match X G) → Fate X G → Option (Match X G)
match_by_fate standing (Goes m) = Some m
match_by_fate standing other = standing

module _ {X G : Type 0} (rules : X → Rules G) where
  abbrev pub serials_after : ℕ → Option (Match X G) → RoomCall X → ℕ
  serials_after serials standing (Create game seats seed) = serials_made serials (created_match rules serials standing game seats seed)
  serials_after serials standing call = serials

  abbrev pub match_after : ℕ → ℕ → Option (Match X G) → Option Attachment → RoomCall X → Option (Match X G)
  match_after room serials standing caller (Create game seats seed) = match_made standing (created_match rules serials standing game seats seed)
  match_after room serials standing caller (Join serial seat name key) = match_made standing (reseated_match (named_match standing serial) (λ roster. join roster seat name key))
  match_after room serials standing caller (Rename serial seat key name) = match_made standing (reseated_match (named_match standing serial) (λ roster. rename roster seat key name))
  match_after room serials standing caller (Leave serial seat key) = match_left standing (reseated_match (named_match standing serial) (λ roster. leave roster seat key))
  match_after room serials standing caller (Submit s) = match_by_fate standing (attachment_fate rules room standing caller s)
  match_after room serials standing caller (Clear serial) = match_cleared standing (named_match standing serial)
  match_after room serials standing caller call = standing

  -- a call that didn't starve, by what was held and the match that stood: its reply, and what is then held
  pub record Answers (old : Held X G) (standing : Option (Match X G)) (pass : ℕ) (call : RoomCall X) (reply : RoomReply) (new : Held X G) : Type 0 where
    pub replied : reply ≡ reply_held rules old.room old.serials standing (lookup (nat_eq pass) old.attachments) call
    pub room : new.room ≡ old.room
    pub serials : new.serials ≡ serials_after old.serials standing call
    pub running : new.running ≡ option_map (running_of rules) (match_after old.room old.serials standing (lookup (nat_eq pass) old.attachments) call)
    pub attachments : (q : ℕ) → lookup (nat_eq q) new.attachments
        ≡ attachment_after rules old.room standing (lookup (nat_eq pass) old.attachments) (nat_eq pass q) (lookup (nat_eq q) old.attachments) call

  -- every call: want of memory leaves all as it was
  abbrev pub GoesBy : Held X G → Option (Match X G) → ℕ → RoomCall X → RoomReply → Held X G → Type 0
  GoesBy old standing pass call reply new = MatchBool (is_starved reply) (new ≡ old) (Answers old standing pass call reply new)
