-- What each line of a world makes of it, and prints.
use Rattle.std.specs.Prelude.{ℕ, List, [], ◌∷◌, ◌++◌, Bool, true, false, codes, drop, if◌then◌else◌, length, nat_lt, Option, Some, None, option_map}
use Rattle.game_trait.specs.Rules.{Rules}
use Rattle.game_sheet.specs.Lines.{lines}
use Rattle.game_sheet.specs.MatchName.{Name}
use Rattle.game_sheet.specs.Viewer.{Viewer}
use Rattle.client_predict.specs.Acting.{act_no, act_told, submitted, with_act}
use Rattle.client_predict.specs.Client.{Held, Playing, fresh, settled_in, shown_in}
use Rattle.client_predict.specs.Reading.{reads}
use Rattle.client_predict.specs.declared.told.ActNo.{ActNo}
use Rattle.player_sight.specs.Seen.{snap_of}
use Rattle.player_sight.specs.SnapshotData.{snapshot_data}
use Rattle.player_sight.specs.declared.shown.Snapshot.{Snapshot}
use Rattle.game_hall.specs.Answers.{line_of}
use Rattle.game_hall.specs.Core.{is_again}
use Rattle.game_hall.specs.Requests.{refusal_by}
use Rattle.game_hall.specs.declared.answer.Answer.{Answer}
use Rattle.room_history.specs.Session.{bytes_handed_out}
use Rattle.room_history.specs.declared.call.RoomCall.{RoomCall}
use Rattle.room_history.specs.declared.call.RoomCall.TheVariants as call
use Rattle.room_history.specs.declared.reply.RoomReply.{RoomReply}
use Rattle.room_history.specs.declared.reply.RoomReply.TheVariants as reply
use Rattle.room_object.specs.Entry.{Entry}
use Rattle.serde_json.specs.Written.{compact_text}
use Rattle.wire_json.specs.ClientText.{client_text}
use Rattle.wire_json.specs.RefusalText.{refusal_text}
use Rattle.wire_json.specs.declared.asked.Asked.{Asked}
use Rattle.wire_json.specs.declared.client.ClientMsg.TheVariants.{Sync, Act}
use Rattle.wire_json.specs.declared.protocol.Protocol.{Protocol}
use Rattle.wire_json.specs.declared.refusal.Refusal.TheVariants.{NoMatch}
use Rattle.hall_history.specs.Freeing.{frees}
use Rattle.hall_history.specs.Hall.{Hall, after_line}
use Rattle.hall_history.specs.Mark.{Mark, Served, Unread, Starved}
use Rattle.hall_history.specs.Opening.{after_open, opened_text, own_entry, seat_key}
use Rattle.hall_history.specs.Rooms.{reply_in, with_entry}
use Rattle.hall_history.specs.Script.{first_mark}
use Rattle.world_history.specs.Words.{act_no_word, heard_word, of_client, predicted_word}
use Rattle.world_history.specs.World.{World, Step, Nothing, Seeds, Opens, Attaches, Acts, Arrives, Takes, Reads, Drops, Leaves, Shows, with_client, with_down, with_hall, with_up}
use Rattle.std.specs.Option.{option_map_or}

abbrev pub claim_of : Option ℕ → Viewer
claim_of seat = option_map (λ seat. (seat, seat_key seat)) seat

abbrev pub key_of : Option ℕ → Option (List ℕ)
key_of seat = option_map seat_key seat

abbrev pub has_starved : Mark → Bool
has_starved Served = false
has_starved Unread = true
has_starved (Starved calls there) = true

abbrev pub Done : Type 0 → Type 0 → Type 0
Done X G = World X G × List ℕ

abbrev pub prints_word : {X G : Type 0} → World X G → ℕ → List ℕ → Done X G
prints_word w c word = (w, of_client c word)

-- ---- a leaving by the seat's key

abbrev pub refused_text : List ℕ → List ℕ
refused_text why = codes "no " ++ why ++ 10 ∷ []

abbrev pub left_text : RoomReply → List ℕ
left_text reply.Left = codes "left" ++ 10 ∷ []
left_text told = refused_text (refusal_text (refusal_by told))

module _ {X G : Type 0} (rules : X → Rules G) where
  abbrev pub leaves_by : World X G → ℕ → Entry (RoomCall X) → Done X G
  leaves_by w room e = (with_hall w (record w.hall { rooms = with_entry w.hall.rooms room e }), left_text (reply_in rules w.hall.rooms room e))

  abbrev pub leaves : World X G → Name → ℕ → Done X G
  leaves w name seat = if nat_lt name.room (length w.hall.rooms) then leaves_by w name.room (own_entry (call.Leave name.serial seat (seat_key seat)))
      else (w, refused_text (refusal_text NoMatch))

  -- ---- a client comes and goes

  -- both links are emptied and the session is detached; the client stays
  abbrev pub drops : World X G → ℕ → World X G
  drops w c = with_down (with_up (with_hall w (frees rules w.hall c call.Detach).0) c []) c []

  abbrev pub attaches : World X G → ℕ → X → Name → Option ℕ → Protocol → World X G
  attaches w c game name seat protocol =
      with_up (with_client (drops w c) c (record { game = game; key = key_of seat; client = fresh })) c (client_text (Sync name (claim_of seat) protocol) ∷ [])

  -- ---- an action: its line goes on the up link

  abbrev pub acts_in : World X G → ℕ → Held X G → Option (Playing G) → Asked → Option ActNo → Done X G
  acts_in w c held playing asked (Some why) = prints_word w c (act_no_word why)
  acts_in w c held None asked None = prints_word w c (codes "not-synced")
  acts_in w c held (Some p) asked None =
      let acted = record held { client = record held.client { playing = Some (with_act (rules held.game) p asked) } } in
      let line = client_text (Act (submitted (rules held.game) held.key p asked)) in
      prints_word (with_up (with_client w c acted) c (w.up c ++ line ∷ [])) c (predicted_word (act_told (rules held.game) p asked))

  -- a client that never was attached asks for no memory
  abbrev pub acts : Bool → World X G → ℕ → Option (Held X G) → Asked → Done X G
  acts starved w c None asked = prints_word w c (codes "not-synced")
  acts true w c (Some held) asked = prints_word w c (codes "again")
  acts false w c (Some held) asked = acts_in w c held held.client.playing asked (act_no held.client.gone held.client.playing)

  -- ---- what goes down

  abbrev pub takes : World X G → ℕ → Hall X × Option RoomReply → Done X G
  takes w c (hall, None) = prints_word w c (codes "unattached")
  takes w c (hall, Some reply.NotAttached) = prints_word (with_hall w hall) c (codes "unattached")
  takes w c (hall, Some told) = (with_down (with_hall w hall) c (w.down c ++ lines (bytes_handed_out told)), [])

abbrev pub answer_lines : Option Answer → List (List ℕ)
answer_lines answer = option_map_or (λ answer. line_of answer ∷ []) answer []

-- a line that arrives is the session's; its direct answer goes on the down link, `again` too
abbrev pub arrived : {X G : Type 0} → World X G → ℕ → List (List ℕ) → Hall X × Option Answer → Done X G
arrived w c rest done = (
  with_down (with_up (with_hall w done.0) c rest) c (w.down c ++ answer_lines done.1),
  if is_again done.1 then of_client c (codes "again") else [],
)

module _ {X G : Type 0} (named : List ℕ → Option X) (rules : X → Rules G) (tape : ℕ → List ℕ) where
  abbrev pub arrives : Mark → World X G → ℕ → List (List ℕ) → Done X G
  arrives mark w c [] = prints_word w c (codes "quiet")
  arrives mark w c (line ∷ rest) = arrived w c rest (after_line named rules tape mark w.hall c line)

-- ---- what a client reads, and what it holds

module _ {X G : Type 0} (rules : X → Rules G) where
  abbrev pub reads_in : World X G → ℕ → Option (Held X G) → List (List ℕ) → Done X G
  reads_in w c None waiting = prints_word w c (codes "quiet")
  reads_in w c (Some held) [] = prints_word w c (codes "quiet")
  reads_in w c (Some held) (line ∷ rest) = let heard = reads (rules held.game) held.client line in
      prints_word (with_down (with_client w c (record { game = held.game; key = held.key; client = heard.client })) c rest) c (heard_word heard.told)

  abbrev pub snapshot_text : X → Snapshot G → List ℕ
  snapshot_text game s = compact_text (snapshot_data (rules game).sheet (snap_of (rules game) s))

  abbrev pub shown_text : ℕ → X → Option (Snapshot G) → Option (Snapshot G) → List ℕ
  shown_text c game (Some settled) (Some shown) =
      of_client c (codes "settled " ++ snapshot_text game settled) ++ of_client c (codes "shown " ++ snapshot_text game shown)
  shown_text c game settled shown = of_client c (codes "none")

  abbrev pub shows : ℕ → Option (Held X G) → List ℕ
  shows c None = of_client c (codes "none")
  shows c (Some held) = shown_text c held.game (settled_in held.client) (shown_in (rules held.game) held.client)

-- ---- the transcript

module _ {X G : Type 0} (named : List ℕ → Option X) (rules : X → Rules G) (tape : ℕ → List ℕ) where
  -- the world after a step, and what the step prints
  abbrev pub does : Mark → Step X → World X G → Done X G
  does mark Nothing w = (w, [])
  does mark (Seeds seed) w = (with_hall w (record w.hall { seed = Some seed }), [])
  does mark (Opens game seats) w = let done = after_open named rules tape w.hall game seats in (with_hall w done.0, opened_text done.1)
  does mark (Attaches c game name seat protocol) w = (attaches rules w c game name seat protocol, [])
  does mark (Acts c asked) w = acts rules (has_starved mark) w c (w.clients c) asked
  does mark (Arrives c) w = arrives named rules tape mark w c (w.up c)
  does mark (Takes c) w = takes rules w c (frees rules w.hall c call.Take)
  does mark (Reads c) w = reads_in rules w c (w.clients c) (w.down c)
  does mark (Drops c) w = (drops rules w c, [])
  does mark (Leaves name seat) w = leaves rules w name seat
  does mark (Shows c) w = (w, shows rules c (w.clients c))

  -- the world after these steps, the first one first, and what they print
  abbrev pub runs_world : List Mark → List (Step X) → World X G → Done X G
  runs_world marks [] w = (w, [])
  runs_world marks (step ∷ steps) w =
      let done = does (first_mark marks) step w in let rest = runs_world (drop 1 marks) steps done.0 in (rest.0, done.1 ++ rest.1)
