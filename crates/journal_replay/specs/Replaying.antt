-- How a replay ends, and what it prints.
use Rattle.std.specs.Prelude.{◌≡◌, ◌<◌, ℕ, List, [], ◌++◌, length, take, Option, Some}
use Rattle.any_game.specs.AnyRules.{any_rules}
use Rattle.any_game.specs.GameKind.{GameKind}
use Rattle.any_game.specs.declared.any_g.AnyG.{AnyG}
use Rattle.board_links.specs.Faults.{HasRisen}
use Rattle.line_runner.specs.declared.exit.Exit.{Exit}
use Rattle.line_runner.specs.declared.exit.Exit.TheVariants.{Done, ReadFault, WriteFault, NoMemory, BadRecord, LongJournal}
use Rattle.object_journal.specs.declared.replaying.OpenNo.{OpenNo}
use Rattle.object_journal.specs.declared.replaying.OpenNo.TheVariants as open_no
use Rattle.record_file.specs.Damage.{AllFollow, IsDamaged}
use Rattle.record_file.specs.Ready.{longest}
use Rattle.record_file.specs.Records.{HasRecords}
use Rattle.room_changes.specs.Kept.{Kept, kept}
use Rattle.room_changes.specs.declared.change.Change.{Change}
use Rattle.room_changes.specs.ChangesOf.{changes_of}
use Rattle.room_history.specs.declared.call.RoomCall.{RoomCall}
use Rattle.room_journal.specs.Coming.{ReadsBack, StandsIn}
use Rattle.room_journal.specs.Kept.{changes_read, may_follow, room_records, texts}
use Rattle.room_journal.specs.declared.room_book.RoomBook.{RoomBook}
use Rattle.room_object.specs.Entry.{Entry}
use Rattle.journal_replay.specs.ReplayText.{replay_text}

-- the file has just the records that are the texts of these changes and read back as them, the first room accepts them one after another, and
-- the text is of what they make
pub record Replays (file text : List ℕ) : Type 0 where
  pub changes : List (Change GameKind)
  pub room : Kept GameKind AnyG
  pub has : HasRecords file (texts changes)
  pub reads : changes_read (texts changes) ≡ Some changes
  pub follow : AllFollow (may_follow 0) [] (texts changes)
  pub makes : kept any_rules 0 changes ≡ Some room
  pub says : text ≡ replay_text 0 (length changes) room.standing

-- why the bytes of a journal have no text
abbrev pub IsUnread : List ℕ → Exit → Type 0
IsUnread file (BadRecord place) = (1 < length file) × IsDamaged (may_follow 0) file place
IsUnread file LongJournal = longest < length file
IsUnread file NoMemory = Unit {0}
IsUnread file other = ⊥

abbrev pub exit_as : OpenNo → Exit
exit_as open_no.DiskFault = NoMemory
exit_as open_no.Long = LongJournal
exit_as (open_no.Damaged place) = BadRecord place
exit_as open_no.NoMemory = NoMemory

-- a book was opened from a file, and nothing has happened since
pub record Opens (file : List ℕ) (count : ℕ) (book : RoomBook) : Type 0 where
  pub h : List (Entry (RoomCall GameKind))
  pub first : book.room ≡ 0
  pub stands : StandsIn book.room book.book h
  pub has : HasRecords file (room_records 0 h)
  pub reads : ReadsBack 0 h
  pub follow : AllFollow (may_follow 0) [] (room_records 0 h)
  pub counts : count ≡ length (changes_of any_rules 0 h)

-- what the bytes of a journal add to those that a sink held: their text, or a first part of it where the sink fails
abbrev pub JournalEnds : List ℕ → List ℕ → Option (List ℕ) → Exit → Type 0
JournalEnds file before after Done = (text : List ℕ) × Replays file text × (after ≡ Some (before ++ text))
JournalEnds file before after WriteFault = (text : List ℕ) × (n : ℕ) × Replays file text × (after ≡ Some (before ++ take n text))
JournalEnds file before after exit = IsUnread file exit × (after ≡ Some before)

-- by the bytes that the source had left before and has left after
abbrev pub ReplayEnds : List ℕ → Option (List ℕ) → List ℕ → Option (List ℕ) → Exit → Type 0
ReplayEnds file left before after ReadFault = after ≡ Some before
ReplayEnds file left before after NoMemory = after ≡ Some before
ReplayEnds file left before after LongJournal = (longest < length file) × (after ≡ Some before)
ReplayEnds file left before after exit = (left ≡ Some []) × JournalEnds file before after exit

abbrev pub PrintRaises : Exit → ℕ → ℕ → Type 0
PrintRaises Done old new = new ≡ old
PrintRaises WriteFault old new = HasRisen old new
PrintRaises (BadRecord place) old new = new ≡ old
PrintRaises LongJournal old new = new ≡ old
PrintRaises NoMemory old new = new ≡ old
PrintRaises other old new = ⊥

-- a fault of the source or the sink comes only where its count of faults rose
abbrev pub ReplayRaises : Exit → ℕ → ℕ → ℕ → ℕ → Type 0
ReplayRaises ReadFault source_old source_new sink_old sink_new = HasRisen source_old source_new × (sink_new ≡ sink_old)
ReplayRaises exit source_old source_new sink_old sink_new = (source_new ≡ source_old) × PrintRaises exit sink_old sink_new
