-- One turn of a session: what came, the calls that its line made, what was sent, and the Take.
use Rattle.std.specs.Prelude.{◌≡◌, ◌⊎◌, ℕ, Bool, List, ◌++◌, Option, Some, None}
use Rattle.std.specs.List.{concat}
use Rattle.any_game.specs.GameKind.{GameKind}
use Rattle.board_links.specs.Answers.{with_answer}
use Rattle.board_links.specs.declared.link.Came.{Came}
use Rattle.board_links.specs.declared.link.Came.TheVariants as came
use Rattle.board_links.specs.declared.link.SessionEnd.{SessionEnd}
use Rattle.board_links.specs.declared.link.SessionEnd.TheVariants as end
use Rattle.dice_words.specs.Strip.{Strip}
use Rattle.bench_wishes.specs.declared.call.WishCall.TheVariants as wish
use Rattle.bench_wishes.specs.declared.call.WishReply.{WishReply}
use Rattle.game_hall.specs.Bench.{wanted}
use Rattle.game_hall.specs.Core.{Core, plain, written}
use Rattle.game_sheet.specs.MatchName.{Name}
use Rattle.session_bench.specs.Wishing.{Asks, Readies, Seen, Sought}
use Rattle.game_sheet.specs.declared.act.Bye.{Bye}
use Rattle.room_history.specs.Session.{bye_lines}
use Rattle.room_history.specs.declared.call.RoomCall.{RoomCall}
use Rattle.room_history.specs.declared.call.RoomCall.TheVariants as call
use Rattle.room_history.specs.declared.reply.RoomReply.{RoomReply}
use Rattle.room_history.specs.declared.reply.RoomReply.TheVariants as reply
use Rattle.session_driver.specs.Calls.{Did}
use Rattle.session_driver.specs.Freeing.{Frees}
use Rattle.session_driver.specs.Hearing.{Hears, Side, draws, side}
use Rattle.session_pool.specs.Passes.{CallsDesk}
use Rattle.session_driver.specs.declared.tally.Tally.{Tally}
use Rattle.session_pool.specs.Lines.{IsSendEnd, SentAs}
use Rattle.session_pool.specs.Passes.{Pass}

-- where a session stands: its side of the rooms, the words that its lines draw, its pass at the bench, and its bot's seat, if its link told one
-- before the last turn
pub record Stand : Type 0 where
  pub passes : List Pass
  pub core : Core GameKind
  pub words : Strip
  pub bench : Seen
  pub seat : Option (Name × ℕ)

abbrev pub stand : List Pass → Core GameKind → Strip → Seen → Option (Name × ℕ) → Stand
stand passes core words bench seat = record { passes = passes; core = core; words = words; bench = bench; seat = seat }

-- a session's side of its rooms: its passes there, and its core
abbrev pub side_of : Stand → Side (List Pass)
side_of s = side s.passes s.core

-- a call by a session's passes, which have its number
abbrev pub Calls : (RoomCall GameKind → Bool) → List Pass → ℕ → Did → List Pass → Type 0
Calls may_refuse passes number made after = CallsDesk may_refuse passes made after

-- a line is heard, and the calls of its request are made; no seed stands ready for a match
abbrev pub Heeds : (RoomCall GameKind → Bool) → List ℕ → Side (List Pass) → Strip → Side (List Pass) → Strip → Type 0
Heeds may_refuse line s words t left = (tally : Tally) × Hears (Calls may_refuse) line s (draws words None) t (draws left None) tally

-- ---- what is sent

-- these bytes, at whose end the bye line stands, were sent, and the session ended so; or a send ended it
abbrev pub Closes : Bye → List ℕ → List ℕ → Option SessionEnd → Option (List ℕ) → Type 0
Closes bye bytes sent why after = ((why ≡ Some (end.Bye bye)) × (after ≡ Some (sent ++ bytes)))
    ⊎ ((w : SessionEnd) × (why ≡ Some w) × IsSendEnd why × SentAs why bytes sent after)

-- what a Take handed out was sent, and the bye line where it handed out an end
abbrev pub Hands : List ℕ → Option Bye → List ℕ → Option SessionEnd → Option (List ℕ) → Type 0
Hands bytes None sent why after = IsSendEnd why × SentAs why bytes sent after
Hands bytes (Some bye) sent why after = Closes bye (bytes ++ concat (bye_lines (Some bye))) sent why after

-- what is sent of a Take, by its reply; where nothing was taken, nothing is sent, and a Take that was refused ends the session
abbrev pub HandsTaken : Option RoomReply → List ℕ → Option SessionEnd → Option (List ℕ) → Type 0
HandsTaken None sent why after = (why ≡ None) × (after ≡ Some sent)
HandsTaken (Some (reply.Taken bytes over)) sent why after = Hands bytes over sent why after
HandsTaken (Some reply.NoMemory) sent why after = (why ≡ Some end.NoMemory) × (after ≡ Some sent)
HandsTaken told sent why after = ⊥

-- a session that is attached takes what waits there
abbrev pub Takes : (RoomCall GameKind → Bool) → Side (List Pass) → List ℕ → Option SessionEnd → Side (List Pass) → Option (List ℕ) → Type 0
Takes may_refuse s sent why new after = (told : Option RoomReply) × Frees (Calls may_refuse) call.Take s told new × HandsTaken told sent why after

-- the direct answer was sent, and then what the Take gave; or a send of the answer ended the session, and nothing was taken
abbrev pub Says : (RoomCall GameKind → Bool) → Side (List Pass) → List ℕ → Option SessionEnd → Side (List Pass) → Option (List ℕ) → Type 0
Says may_refuse s sent why new after =
    Takes may_refuse (side s.rooms (plain s.core)) (sent ++ written s.core) why new after
    ⊎ ((w : SessionEnd) × (why ≡ Some w) × IsSendEnd why × (new ≡ side s.rooms (plain s.core)) × SentAs why (written s.core) sent after)

-- ---- the turn

abbrev pub Stops : SessionEnd → Stand → List ℕ → Option SessionEnd → Stand → Option (List ℕ) → Type 0
Stops w s sent why new after = (why ≡ Some w) × (new ≡ s) × (after ≡ Some sent)

-- a session that is ready for a turn: its link told this seat, and what the bench was asked before the turn came to this
abbrev pub readied : Stand → Option (Name × ℕ) → Seen → Bool → Stand
readied s seat p sat = record s { core = record s.core { sat = sat }; bench = p; seat = seat }

-- what a turn does, by what came; a takeover that the line leaves waiting is put to the bench before anything is said
abbrev pub Goes : (RoomCall GameKind → Bool) → Came → Stand → List ℕ → Option SessionEnd → Stand → Option (List ℕ) → Type 0
Goes may_refuse (came.Line line) s sent why new after = (m : Side (List Pass)) × (d : Core GameKind) × Heeds may_refuse line (side_of s) s.words m new.words
    × Sought (wanted m.core.bench) m.core s.bench d new.bench × Says may_refuse (side m.rooms d) sent why (side_of new) after × (new.seat ≡ s.seat)
Goes may_refuse came.Quiet s sent why new after = Says may_refuse (side_of s) sent why (side_of new) after × (new.words ≡ s.words) × (new.bench ≡ s.bench) × (new.seat ≡ s.seat)
Goes may_refuse came.Ended s sent why new after = Stops end.Ended s sent why new after
Goes may_refuse came.TooLong s sent why new after = Stops end.TooLong s sent why new after
Goes may_refuse came.Failed s sent why new after = Stops end.LinkFault s sent why new after
Goes may_refuse came.NoMemory s sent why new after = Stops end.NoMemory s sent why new after

-- a receive, and what it leads to, over a link that tells its answers and its bytes
abbrev pub GoesOn : (RoomCall GameKind → Bool) → Stand → List Came → List ℕ → Option SessionEnd → Stand → Option (List Came) → Option (List ℕ) → Type 0
GoesOn may_refuse s heard sent why new answers after = (c : Came) × (answers ≡ Some (with_answer c heard)) × Goes may_refuse c s sent why new after

-- One turn: a bot whose seat the link tells gets ready, and then the link is asked for a line. It is over a link that tells its answers and its
-- bytes: those before it, how it ended the session if it did, and those after it.
abbrev pub Turn : (RoomCall GameKind → Bool) → Stand → List Came → List ℕ → Option SessionEnd → Stand → Option (List Came) → Option (List ℕ) → Type 0
Turn may_refuse s heard sent why new answers after = (asked : Bool) × (now : Bool) × (p : Seen) × (sat : Bool)
    × Readies new.seat s.bench s.core.sat asked p sat now × GoesOn may_refuse (readied s new.seat p sat) heard sent why new answers after

-- after a bot got ready, the turn asked the bench of a takeover at most
abbrev pub AsksOnce : Seen → Seen → Type 0
AsksOnce p q = (q ≡ p) ⊎ ((seat : Name × ℕ) × (told : WishReply) × Asks p (wish.Ask seat.0 seat.1) told q)
