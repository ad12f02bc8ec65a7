-- What a room replies where it is asked for the match that stands, and for a spectator's first line.
use Rattle.std.proofs.Common.{◌≡◌, ℕ, ◌==◌, Bool, true, false, if◌then◌else◌, List, [], ◌∷◌, ◌++◌, Option, Some, None, Result, Ok, IfOk, refl, sym, ap, ◌∙◌, subst, append-nil}
use Rattle.any_game.specs.AnyRules.{any_rules}
use Rattle.any_game.specs.GameKind.{GameKind}
use Rattle.any_game.specs.declared.any_g.AnyG.{AnyG}
use Rattle.game_sheet.specs.MatchName.{Name}
use Rattle.game_sheet.specs.declared.memory.NoMemory.{NoMemory}
use Rattle.room_history.specs.Does.{Room, new_session, with_session}
use Rattle.room_history.specs.Match.{Match}
use Rattle.room_history.specs.Piece.{State}
use Rattle.room_history.specs.Reply.{attached_match, looked_match, match_row, named_match, open_match, reply_by}
use Rattle.room_history.specs.Room.{reply, room_of, standing}
use Rattle.room_history.specs.Session.{Session, latest_state, latest_take_reply}
use Rattle.room_history.proofs.Names.{take_reply}
use Rattle.room_history.specs.Stream.{stream}
use Rattle.room_history.specs.Shown.{snapshot}
use Rattle.player_sight.specs.SnapshotData.{snapshot_data}
use Rattle.serde_json.specs.Data.{Data}
use Rattle.room_history.specs.declared.call.RoomCall.{RoomCall}
use Rattle.room_history.specs.declared.call.RoomCall.TheVariants.{Attach, Detach, Look, Take}
use Rattle.room_history.specs.declared.reply.RoomReply.{RoomReply}
use Rattle.room_history.specs.declared.reply.RoomReply.TheVariants as answer
use Rattle.match_master.specs.Held.{is_starved}
use Rattle.room_object.specs.Entry.{Entry, entry}
use Rattle.room_journal.proofs.Acting.{before, closed, itself, named}
use Rattle.wire_json.specs.ServerText.{text as server_text}
use Rattle.wire_json.specs.declared.protocol.Protocol.TheVariants.{One}
use Rattle.journal_replay.specs.Showing.{name_said, standing_name, sync_of}

abbrev Entries : Type 0
Entries = List (Entry (RoomCall GameKind))

abbrev Is : Bool → Type 0
Is true = Unit {0}
Is false = ⊥

true_false : {P : Type 0} → true ≡ false → P
true_false e = absurd (subst Is e tt)

-- a call that takes no memory isn't starved
pub fed : (b : Bool) → (b ≡ true → false ≡ true) → b ≡ false
fed true h = sym (h refl)
fed false h = refl

-- ---- the name

looked : (room : ℕ) (h : Entries) (p : ℕ) (starved : Bool) → IfOk (name_said (reply any_rules room h (entry p (Look None) starved))) (λ name. name ≡ standing_name room (standing any_rules room h))
unfolding reply
looked room h p true = tt
looked room h p false = by (standing any_rules room h)
  where
    by : (st : Option (Match GameKind AnyG)) → IfOk (name_said (reply_by (λ (m : Match GameKind AnyG). answer.Looked (match_row any_rules room m)) (looked_match st None))) (λ name. name ≡ standing_name room st)
    by None = refl
    by (Some m) = refl

pub name_told : (room : ℕ) (h : Entries) (p : ℕ) (r : RoomReply) (said : Result (Option Name) NoMemory) → r ≡ reply any_rules room h (entry p (Look None) (is_starved r)) → said ≡ name_said r
    → IfOk said (λ name. name ≡ standing_name room (standing any_rules room h))
name_told room h p r said is told =
    subst (λ (x : Result (Option Name) NoMemory). IfOk x (λ name. name ≡ standing_name room (standing any_rules room h))) (sym (told ∙ ap name_said is)) (looked room h p (is_starved r))

-- ---- the line

module _ (room : ℕ) (h : Entries) (p : ℕ) (m : Match GameKind AnyG) (stands : standing any_rules room h ≡ Some m) where
  abbrev detached : Entries
  detached = before room h p

  abbrev attached : Entries
  attached = entry p (Attach m.serial None One) false ∷ detached

  finds : attached_match (standing any_rules room detached) (latest_state ((room_of any_rules room detached).sessions p)) m.serial None ≡ Ok m
  finds =
      ap (λ (state : State). attached_match (standing any_rules room h) state m.serial None) (closed room h p)
      ∙ ap (λ (st : Option (Match GameKind AnyG)). open_match None (named_match st m.serial)) stands
      ∙ ap (open_match None) (named m m.serial refl)

  abbrev made_room : Room GameKind AnyG
  made_room = with_session any_rules room p None One (room_of any_rules room detached) (Ok m)

  room_is : room_of any_rules room attached ≡ made_room
  room_is = ap (with_session any_rules room p None One (room_of any_rules room detached)) finds

  abbrev session : Session
  session = new_session any_rules room m None One

  sessions_are : made_room.sessions p ≡ session ∷ (room_of any_rules room detached).sessions p
  sessions_are = by (p == p) (itself p)
    where
      by : (b : Bool) → b ≡ true → (if b then session ∷ (room_of any_rules room detached).sessions p else (room_of any_rules room detached).sessions p) ≡ session ∷ (room_of any_rules room detached).sessions p
      by true e = refl
      by false e = true_false (sym e)

  taken : take_reply session ≡ answer.Taken (server_text (sync_of room m) ++ []) None
  unfolding stream
  taken = refl

  shown : reply any_rules room attached (entry p Take false) ≡ answer.Taken (server_text (sync_of room m)) None
  unfolding reply
  shown =
      ap (λ (r : Room GameKind AnyG). latest_take_reply (r.sessions p)) room_is
      ∙ ap latest_take_reply sessions_are
      ∙ taken
      ∙ ap (λ (bytes : List ℕ). answer.Taken bytes None) (append-nil (server_text (sync_of room m)))

-- the line by the flags of the three calls
pub line_shown : (room : ℕ) (h : Entries) (p : ℕ) (m : Match GameKind AnyG) (serial : ℕ) (a b c : Bool) → standing any_rules room h ≡ Some m → m.serial ≡ serial → a ≡ false → b ≡ false → c ≡ false
    → reply any_rules room (entry p (Attach serial None One) b ∷ entry p Detach a ∷ h) (entry p Take c) ≡ answer.Taken (server_text (sync_of room m)) None
line_shown room h p m serial a b c stands is x y z =
    ap (λ (a : Bool). reply any_rules room (entry p (Attach serial None One) b ∷ entry p Detach a ∷ h) (entry p Take c)) x
    ∙ ap (λ (b : Bool). reply any_rules room (entry p (Attach serial None One) b ∷ entry p Detach false ∷ h) (entry p Take c)) y
    ∙ ap (λ (c : Bool). reply any_rules room (entry p (Attach serial None One) false ∷ entry p Detach false ∷ h) (entry p Take c)) z
    ∙ ap (λ (n : ℕ). reply any_rules room (entry p (Attach n None One) false ∷ entry p Detach false ∷ h) (entry p Take false)) (sym is)
    ∙ shown room h p m stands

pub line_taken : (room n : ℕ) → n ≡ room → (h : Entries) (p : ℕ) (m : Match GameKind AnyG) (serial : ℕ) (a b c : Bool) (r : RoomReply) → standing any_rules room h ≡ Some m → m.serial ≡ serial → a ≡ false → b ≡ false → c ≡ false
    → r ≡ reply any_rules n (entry p (Attach serial None One) b ∷ entry p Detach a ∷ h) (entry p Take c) → r ≡ answer.Taken (server_text (sync_of room m)) None
line_taken room n e h p m serial a b c r stands is x y z said =
    said ∙ ap (λ (k : ℕ). reply any_rules k (entry p (Attach serial None One) b ∷ entry p Detach a ∷ h) (entry p Take c)) e ∙ line_shown room h p m serial a b c stands is x y z

-- what a spectator is shown of a match
abbrev pub shown_of : Match GameKind AnyG → Data
shown_of m = snapshot_data (any_rules m.game).sheet (snapshot any_rules m None)
