-- What holds of the message of each snapshot that a session was shown, and of verdicts, holds of each line of its stream.
use Rattle.std.proofs.Common.{◌≤◌, ◌+◌, ℕ, Bool, true, false, nat_lt, if◌then◌else◌, List, [], ◌∷◌, ◌++◌, Option, Some, None, arith}
use Rattle.game_sheet.specs.MatchName.{Name}
use Rattle.game_sheet.specs.Viewer.{Viewer}
use Rattle.game_sheet.specs.declared.act.Bye.TheVariants as bye
use Rattle.game_sheet.specs.declared.sheet.Sheet.{Sheet}
use Rattle.room_history.specs.Item.{GameAnswer, Starved, Unasked, Accepted as IsAccepted, Refused, Item, Submitted, Took, Left, Detached, number_after}
use Rattle.wire_json.specs.declared.server.ServerMsg.{ServerMsg}
use Rattle.wire_json.specs.declared.server.ServerMsg.TheVariants.{No, Ok as Accepts}
use Rattle.room_history.specs.Piece.{Piece, Line, Mark, End, State, Open, Ended, Closed, counted_size, state_of, waiting_size}
use Rattle.room_history.specs.Session.{Session, stream_of}
use Rattle.room_history.specs.Showing.{Showing, showings, showings_above, showings_up_to, snapshot_of_number}
use Rattle.room_history.specs.Stream.{cut, item_pieces, lines_of_showings, long_list, most_waiting, public_reason_on, stream, verdict_pieces, with_piece}
use Rattle.room_history.proofs.Names.{line_or_end}
use Rattle.room_history.proofs.Growing.{CameTo, InOrder, number_at}
use Rattle.wire_json.specs.declared.reason.Reason.{Reason}
use Rattle.convergence.specs.Lines.{AllLines}
use Rattle.convergence.proofs.Grounding.{TicketsFit}

-- each submission fell at a low number, with a ticket of its type
abbrev pub ItemsFit : List Item → Type 0
ItemsFit [] = Unit {0}
ItemsFit (Submitted n s answer ∷ own) = (n + 1 ≤ 4294967295) × (s.ticket ≤ 4294967295) × ItemsFit own
ItemsFit (item ∷ own) = ItemsFit own

-- ---- numbers of items

low_before : (n k : ℕ) (own : List Item) → k ≤ n → CameTo k own → CameTo n own
low_before n k [] h c = tt
low_before n k (item ∷ own) h c = omega (arith, h, c)

after_at : (item : Item) → number_at item ≤ number_after item
after_at (Submitted n s IsAccepted) = omega arith
after_at (Submitted n s (Refused reason)) = omega arith
after_at (Submitted n s Starved) = omega arith
after_at (Submitted n s Unasked) = omega arith
after_at (Took n) = omega arith
after_at (Left n) = omega arith
after_at (Detached n) = omega arith

pub items_fit : (n : ℕ) (own : List Item) → n ≤ 4096 → CameTo n own → InOrder own → TicketsFit own → ItemsFit own
items_fit n [] h c o t = tt
items_fit n (Submitted k s answer ∷ own) h c o t =
    let low : k ≤ n = omega (arith, after_at (Submitted k s answer), c) in
    (omega (arith, low, h), t.0, items_fit n own h (low_before n k own low o.0) o.1 t.1)
items_fit n (Took k ∷ own) h c o t = items_fit n own h (low_before n k own c o.0) o.1 t
items_fit n (Left k ∷ own) h c o t = items_fit n own h (low_before n k own c o.0) o.1 t
items_fit n (Detached k ∷ own) h c o t = items_fit n own h (low_before n k own c o.0) o.1 t

abbrev pub AllHave : (ServerMsg → Type 0) → List Showing → Type 0
AllHave Has [] = Unit {0}
AllHave Has (t ∷ shown) = Has t.message × AllHave Has shown

module _ (Has : ServerMsg → Type 0) (oks : (n ticket : ℕ) → n ≤ 4294967295 → ticket ≤ 4294967295 → Has (Accepts n ticket))
    (nos : (n : ℕ) (reason : Reason) (ticket : ℕ) → n ≤ 4294967295 → ticket ≤ 4294967295 → Has (No n reason ticket)) where
  -- ---- the long list

  above_have : (n : ℕ) (shown : List Showing) → AllHave Has shown → AllHave Has (showings_above n shown)
  above_have n [] h = tt
  above_have n (t ∷ shown) h = by (nat_lt n t.snapshot.number) (above_have n shown h.1)
    where
      by : (b : Bool) → AllHave Has (showings_above n shown) → AllHave Has (if b then t ∷ showings_above n shown else [])
      by true later = (h.0, later)
      by false later = tt

  up_to_have : (n : ℕ) (shown : List Showing) → AllHave Has shown → AllHave Has (showings_up_to n shown)
  up_to_have n [] h = tt
  up_to_have n (t ∷ shown) h = by (nat_lt n t.snapshot.number) (up_to_have n shown h.1)
    where
      by : (b : Bool) → AllHave Has (showings_up_to n shown) → AllHave Has (if b then showings_up_to n shown else t ∷ shown)
      by true later = later
      by false later = h

  append_lines : (xs ys : List Piece) → AllLines Has xs → AllLines Has ys → AllLines Has (xs ++ ys)
  append_lines [] ys h k = k
  append_lines (Line m ∷ xs) ys h k = (h.0, append_lines xs ys h.1 k)
  append_lines (Mark ∷ xs) ys h k = append_lines xs ys h k
  append_lines (End why ∷ xs) ys h k = append_lines xs ys h k

  shown_lines : (shown : List Showing) → AllHave Has shown → AllLines Has (lines_of_showings shown)
  shown_lines [] h = tt
  shown_lines (t ∷ shown) h = (h.0, shown_lines shown h.1)

  verdict_lines : (n ticket : ℕ) (reason : Option Reason) (answer : GameAnswer) → n + 1 ≤ 4294967295 → ticket ≤ 4294967295 → AllLines Has (verdict_pieces n ticket reason answer)
  verdict_lines n ticket None IsAccepted h t = (oks (n + 1) ticket h t, tt)
  verdict_lines n ticket None (Refused reason) h t = (nos n reason ticket (omega arith) t, tt)
  verdict_lines n ticket None Unasked h t = tt
  verdict_lines n ticket reason Starved h t = tt
  verdict_lines n ticket (Some reason) IsAccepted h t = (nos n reason ticket (omega arith) t, tt)
  verdict_lines n ticket (Some reason) (Refused other) h t = (nos n reason ticket (omega arith) t, tt)
  verdict_lines n ticket (Some reason) Unasked h t = (nos n reason ticket (omega arith) t, tt)

  long_lines : (name : Name) (sheet : Sheet) (viewer : Viewer) (shown : List Showing) (own : List Item) → AllHave Has shown → ItemsFit own → AllLines Has (long_list name sheet viewer shown own)
  long_lines name sheet viewer shown [] h f = shown_lines shown h
  long_lines name sheet viewer shown (Submitted n s answer ∷ own) h f =
      let at : ℕ = number_after (Submitted n s answer) in
      append_lines (lines_of_showings (showings_above at shown)) (item_pieces name sheet viewer (Submitted n s answer) shown ++ long_list name sheet viewer (showings_up_to at shown) own)
      (shown_lines (showings_above at shown) (above_have at shown h))
      (append_lines (item_pieces name sheet viewer (Submitted n s answer) shown) (long_list name sheet viewer (showings_up_to at shown) own)
      (verdict_lines n s.ticket (public_reason_on name sheet viewer (snapshot_of_number n shown) s) answer f.0 f.1)
      (long_lines name sheet viewer (showings_up_to at shown) own (up_to_have at shown h) f.2))
  long_lines name sheet viewer shown (Took n ∷ own) h f =
      append_lines (lines_of_showings (showings_above n shown)) (Mark ∷ long_list name sheet viewer (showings_up_to n shown) own)
      (shown_lines (showings_above n shown) (above_have n shown h)) (long_lines name sheet viewer (showings_up_to n shown) own (up_to_have n shown h) f)
  long_lines name sheet viewer shown (Left n ∷ own) h f =
      append_lines (lines_of_showings (showings_above n shown)) (End bye.Left ∷ long_list name sheet viewer (showings_up_to n shown) own)
      (shown_lines (showings_above n shown) (above_have n shown h)) (long_lines name sheet viewer (showings_up_to n shown) own (up_to_have n shown h) f)
  long_lines name sheet viewer shown (Detached n ∷ own) h f =
      append_lines (lines_of_showings (showings_above n shown)) (long_list name sheet viewer (showings_up_to n shown) own)
      (shown_lines (showings_above n shown) (above_have n shown h)) (long_lines name sheet viewer (showings_up_to n shown) own (up_to_have n shown h) f)

  -- ---- the cut

  line_put : (b : Bool) (m : ServerMsg) (ps : List Piece) → Has m → AllLines Has ps → AllLines Has (line_or_end b m ps)
  line_put true m ps h k = k
  line_put false m ps h k = (h, k)

  piece_put : (st : State) (p : Piece) (ps : List Piece) → AllLines Has (p ∷ []) → AllLines Has ps → AllLines Has (with_piece st p ps)
  piece_put Open (Line m) ps h k = line_put (nat_lt most_waiting (waiting_size ps + counted_size m)) m ps h.0 k
  piece_put Open Mark ps h k = k
  piece_put Open (End why) ps h k = k
  piece_put (Ended by) (Line m) ps h k = k
  piece_put (Ended by) Mark ps h k = k
  piece_put (Ended by) (End why) ps h k = k
  piece_put Closed (Line m) ps h k = k
  piece_put Closed Mark ps h k = k
  piece_put Closed (End why) ps h k = k

  cut_lines : (ps : List Piece) → AllLines Has ps → AllLines Has (cut ps)
  cut_lines [] h = tt
  cut_lines (Line m ∷ ps) h = piece_put (state_of (cut ps)) (Line m) (cut ps) (h.0, tt) (cut_lines ps h.1)
  cut_lines (Mark ∷ ps) h = piece_put (state_of (cut ps)) Mark (cut ps) tt (cut_lines ps h)
  cut_lines (End why ∷ ps) h = piece_put (state_of (cut ps)) (End why) (cut ps) tt (cut_lines ps h)

  pub stream_have : (s : Session) → AllHave Has (showings s.name s.sheet s.viewer s.protocol s.sight) → ItemsFit s.own → AllLines Has (stream_of s)
  unfolding stream
  stream_have s h f =
      cut_lines (long_list s.name s.sheet s.viewer (showings s.name s.sheet s.viewer s.protocol s.sight) s.own)
      (long_lines s.name s.sheet s.viewer (showings s.name s.sheet s.viewer s.protocol s.sight) s.own h f)
