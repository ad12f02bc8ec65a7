-- The stream of a session, made of the match's name, the sheet, who looks with which key, the protocol, what that viewer was shown and
-- what the session did, and of nothing else. Lists have the latest first.
use Rattle.std.specs.Prelude.{ℕ, ◌+◌, List, [], ◌∷◌, ◌++◌, nat_lt, Option, Some, None, if◌then◌else◌, map}
use Rattle.game_sheet.specs.MatchName.{Name}
use Rattle.game_sheet.specs.declared.act.Bye.TheVariants as bye
use Rattle.game_sheet.specs.declared.sheet.Sheet.{Sheet}
use Rattle.player_sight.specs.SnapshotData.{Snap}
use Rattle.wire_json.specs.declared.protocol.Protocol.{Protocol}
use Rattle.wire_json.specs.declared.reason.Reason.{Reason}
use Rattle.room_history.specs.Item.{GameAnswer, Starved, Unasked, Accepted, Refused, Item, Submitted, Took, Left, Detached, number_after}
use Rattle.wire_json.specs.declared.server.ServerMsg.TheVariants.{Ok, No}
use Rattle.room_history.specs.Piece.{Piece, Line, Mark, End, State, Open, state_of, counted_size, waiting_size}
use Rattle.room_history.specs.Rule.{public, has_key}
use Rattle.room_history.specs.Showing.{Showing, showings, showings_above, showings_up_to, snapshot_of_number}
use Rattle.room_history.specs.Verdict.{is_named}
use Rattle.game_sheet.specs.Viewer.{Viewer, seat_of}
use Rattle.wire_json.specs.declared.submission.Submission.{Submission}

abbrev pub lines_of_showings : List Showing → List Piece
lines_of_showings shown = map (λ t. Line t.message) shown

module _ (name : Name) (sheet : Sheet) (viewer : Viewer) where
  -- the public rule that a submission breaks, found from a snapshot, the key and the line
  abbrev pub public_reason_on : Option Snap → Submission → Option Reason
  public_reason_on None s = None
  public_reason_on (Some shown) s =
      public sheet shown.ctx shown.number (is_named name.room name.serial s.name) (seat_of viewer) (has_key viewer s.key) s.asked s.number

-- what a submission adds at a state number: without memory there is no verdict; else the public rule that is broken comes before the game's
-- answer
abbrev pub verdict_pieces : ℕ → ℕ → Option Reason → GameAnswer → List Piece
verdict_pieces n ticket reason Starved = []
verdict_pieces n ticket (Some reason) answer = Line (No n reason ticket) ∷ []
verdict_pieces n ticket None Accepted = Line (Ok (n + 1) ticket) ∷ []
verdict_pieces n ticket None (Refused reason) = Line (No n reason ticket) ∷ []
verdict_pieces n ticket None Unasked = []

module _ (name : Name) (sheet : Sheet) (viewer : Viewer) where
  -- what an item adds
  abbrev pub item_pieces : Item → List Showing → List Piece
  item_pieces (Submitted n s answer) shown = verdict_pieces n s.ticket (public_reason_on name sheet viewer (snapshot_of_number n shown) s) answer
  item_pieces (Took n) shown = Mark ∷ []
  item_pieces (Left n) shown = End bye.Left ∷ []
  item_pieces (Detached n) shown = []

  -- the long list: each item stands after the lines of the snapshots up to its number, and the other lines come after the last item
  abbrev pub long_list : List Showing → List Item → List Piece
  long_list shown [] = lines_of_showings shown
  long_list shown (item ∷ own) =
      lines_of_showings (showings_above (number_after item) shown) ++ (item_pieces item shown ++ long_list (showings_up_to (number_after item) shown) own)

-- the most bytes that may wait
abbrev pub most_waiting : ℕ
most_waiting = 4194304

-- a line that would wait beyond the limit is left out, and ends the stream; after an end there are marks alone
abbrev pub with_piece : State → Piece → List Piece → List Piece
with_piece state Mark pieces = Mark ∷ pieces
with_piece Open (End why) pieces = End why ∷ pieces
with_piece Open (Line message) pieces = if nat_lt most_waiting (waiting_size pieces + counted_size message) then End bye.Lagging ∷ pieces else Line message ∷ pieces
with_piece state piece pieces = pieces

-- the cut of a long list
abbrev pub cut : List Piece → List Piece
cut [] = []
cut (piece ∷ pieces) = with_piece (state_of (cut pieces)) piece (cut pieces)

unfoldable pub stream : Name → Sheet → Viewer → Protocol → List Snap → List Item → List Piece
stream name sheet viewer protocol sight own = cut (long_list name sheet viewer (showings name sheet viewer protocol sight) own)
