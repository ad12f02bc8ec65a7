-- How many lines are such, and how many that a session was sent.
use Rattle.std.proofs.Common.{◌≡◌, ◌≤◌, ◌==◌, ℕ, ◌+◌, Bool, true, false, nat_lt, if◌then◌else◌, List, [], ◌∷◌, ◌++◌, Option, Some, None, Ok, refl, ap, ◌∙◌, arith}
use Rattle.std.specs.Prelude.{Result}
use Rattle.game_sheet.specs.MatchName.{Name}
use Rattle.game_sheet.specs.Viewer.{Viewer}
use Rattle.game_sheet.specs.declared.act.Bye.{Bye}
use Rattle.game_sheet.specs.declared.sheet.Sheet.{Sheet}
use Rattle.player_sight.specs.SnapshotData.{Snap}
use Rattle.room_history.specs.Item.{GameAnswer, Item, Submitted, Took, Left, Detached, Starved, Unasked, Accepted, Refused, number_after}
use Rattle.wire_json.specs.declared.server.ServerMsg.{ServerMsg}
use Rattle.wire_json.specs.declared.server.ServerMsg.TheVariants.{Bye as Farewell}
use Rattle.wire_json.specs.ServerText.{text}
use Rattle.room_history.specs.Piece.{Piece, Line, Mark, End, State, Open, Ended, Closed, all_lines, counted_size, lines_to_mark, message_lines, message_lines_to_mark, state_of, waiting_size}
use Rattle.room_history.specs.Session.{Session, stream_of}
use Rattle.room_history.specs.Showing.{Showing, showings, showings_above, showings_up_to, snapshot_of_number, update_message}
use Rattle.room_history.specs.Stream.{cut, item_pieces, lines_of_showings, long_list, most_waiting, public_reason_on, stream, verdict_pieces, with_piece}
use Rattle.room_history.proofs.Names.{line_or_end}
use Rattle.wire_json.specs.Refusals.{Refusal}
use Rattle.wire_json.specs.ServerReading.{server_read}
use Rattle.wire_json.specs.declared.protocol.Protocol.{Protocol}
use Rattle.wire_json.specs.declared.protocol.Protocol.TheVariants.{One, Two}
use Rattle.wire_json.specs.declared.reason.Reason.{Reason}
use Rattle.wire_json.specs.declared.server.ServerMsg.TheVariants as to_client
use Rattle.convergence.specs.Doing.{ticket_in}
use Rattle.client_predict.specs.Following.{is_bye, is_sync}
use Rattle.convergence.specs.Lines.{AllLines, ReadsBack}
use Rattle.convergence.proofs.Messages.{bye_reads}
use Rattle.world_convergence.proofs.Entries.{one_if, submitted}

abbrev pub is_number : Option ℕ → ℕ → Bool
is_number None n = false
is_number (Some m) n = m == n

-- a line answers the act with a ticket
abbrev pub answers : ℕ → Result ServerMsg Refusal → Bool
answers ticket read = is_number (ticket_in read) ticket

abbrev pub count : (Result ServerMsg Refusal → Bool) → List (List ℕ) → ℕ
count is [] = 0
count is (line ∷ lines) = one_if (is (server_read line)) + count is lines

pub count_append : (is : Result ServerMsg Refusal → Bool) (xs ys : List (List ℕ)) → count is (xs ++ ys) ≡ count is xs + count is ys
count_append is [] ys = omega arith
count_append is (x ∷ xs) ys = omega (arith, count_append is xs ys)

-- ---- the pieces of a stream

abbrev pub tally : (Result ServerMsg Refusal → Bool) → List Piece → ℕ
tally is [] = 0
tally is (Line m ∷ pieces) = one_if (is (Ok m)) + tally is pieces
tally is (Mark ∷ pieces) = tally is pieces
tally is (End why ∷ pieces) = tally is pieces

abbrev pub in_showings : (Result ServerMsg Refusal → Bool) → List Showing → ℕ
in_showings is [] = 0
in_showings is (t ∷ shown) = one_if (is (Ok t.message)) + in_showings is shown

module _ (is : Result ServerMsg Refusal → Bool) where
  last_counts : (xs : List (List ℕ)) (x : List ℕ) (b : Bool) → is (server_read x) ≡ b → count is (xs ++ x ∷ []) ≡ one_if b + count is xs
  last_counts xs x b e = count_append is xs (x ∷ []) ∙ omega (arith, ap one_if e)

  read_as : (m : ServerMsg) → ReadsBack m → is (server_read (text m)) ≡ is (Ok m)
  read_as m back = ap is back

  module _ (no_bye : (why : Bye) → is (Ok (to_client.Bye why)) ≡ false) where
    all_counted : (ps : List Piece) → AllLines ReadsBack ps → count is (all_lines ps) ≤ tally is ps
    all_counted [] h = omega arith
    all_counted (Line m ∷ ps) h = omega (arith, last_counts (all_lines ps) (text m) (is (Ok m)) (read_as m h.0), all_counted ps h.1)
    all_counted (Mark ∷ ps) h = all_counted ps h
    all_counted (End why ∷ ps) h =
        omega (arith, last_counts (all_lines ps) (text (Farewell why)) false (ap is (bye_reads why) ∙ no_bye why), all_counted ps h)

    pub mark_counted : (ps : List Piece) → AllLines ReadsBack ps → count is (lines_to_mark ps) ≤ tally is ps
    mark_counted [] h = omega arith
    mark_counted (Line m ∷ ps) h = omega (arith, mark_counted ps h.1)
    mark_counted (Mark ∷ ps) h = all_counted ps h
    mark_counted (End why ∷ ps) h = mark_counted ps h

  messages_counted : (ps : List Piece) → AllLines ReadsBack ps → count is (message_lines ps) ≤ tally is ps
  messages_counted [] h = omega arith
  messages_counted (Line m ∷ ps) h = omega (arith, last_counts (message_lines ps) (text m) (is (Ok m)) (read_as m h.0), messages_counted ps h.1)
  messages_counted (Mark ∷ ps) h = messages_counted ps h
  messages_counted (End why ∷ ps) h = messages_counted ps h

  marked_counted : (ps : List Piece) → AllLines ReadsBack ps → count is (message_lines_to_mark ps) ≤ tally is ps
  marked_counted [] h = omega arith
  marked_counted (Line m ∷ ps) h = omega (arith, marked_counted ps h.1)
  marked_counted (Mark ∷ ps) h = messages_counted ps h
  marked_counted (End why ∷ ps) h = marked_counted ps h

  put_counted : (state : State) (p : Piece) (ps : List Piece) → tally is (with_piece state p ps) ≤ tally is (p ∷ ps)
  put_counted state Mark ps = omega arith
  put_counted Open (End why) ps = omega arith
  put_counted (Ended by) (End why) ps = omega arith
  put_counted Closed (End why) ps = omega arith
  put_counted Open (Line m) ps = by (nat_lt most_waiting (waiting_size ps + counted_size m))
    where
      by : (b : Bool) → tally is (line_or_end b m ps) ≤ one_if (is (Ok m)) + tally is ps
      by true = omega arith
      by false = omega arith
  put_counted (Ended by) (Line m) ps = omega arith
  put_counted Closed (Line m) ps = omega arith

  more_counted : (p : Piece) (ps qs : List Piece) → tally is ps ≤ tally is qs → tally is (p ∷ ps) ≤ tally is (p ∷ qs)
  more_counted (Line m) ps qs h = omega (arith, h)
  more_counted Mark ps qs h = h
  more_counted (End why) ps qs h = h

  cut_counted : (ps : List Piece) → tally is (cut ps) ≤ tally is ps
  cut_counted [] = omega arith
  cut_counted (p ∷ ps) = omega (arith, put_counted (state_of (cut ps)) p (cut ps), more_counted p (cut ps) ps (cut_counted ps))

  tally_append : (xs ys : List Piece) → tally is (xs ++ ys) ≡ tally is xs + tally is ys
  tally_append [] ys = omega arith
  tally_append (Line m ∷ xs) ys = omega (arith, tally_append xs ys)
  tally_append (Mark ∷ xs) ys = tally_append xs ys
  tally_append (End why ∷ xs) ys = tally_append xs ys

  shown_counted : (shown : List Showing) → tally is (lines_of_showings shown) ≡ in_showings is shown
  shown_counted [] = refl
  shown_counted (t ∷ shown) = ap (λ n. one_if (is (Ok t.message)) + n) (shown_counted shown)

  parted_counted : (n : ℕ) (shown : List Showing) → in_showings is (showings_above n shown) + in_showings is (showings_up_to n shown) ≡ in_showings is shown
  parted_counted n [] = refl
  parted_counted n (t ∷ shown) = by (nat_lt n t.snapshot.number) (parted_counted n shown)
    where
      by : (b : Bool) → in_showings is (showings_above n shown) + in_showings is (showings_up_to n shown) ≡ in_showings is shown
          → in_showings is (if b then t ∷ showings_above n shown else []) + in_showings is (if b then showings_up_to n shown else t ∷ shown) ≡ one_if (is (Ok t.message)) + in_showings is shown
      by true e = omega (arith, e)
      by false e = omega arith

  module _ (name : Name) (sheet : Sheet) (viewer : Viewer) (most : List Item → ℕ)
      (none : most [] ≡ 0)
      (one_more : (item : Item) (shown : List Showing) (own : List Item) → tally is (item_pieces name sheet viewer item shown) + most own ≤ most (item ∷ own)) where
    long_counted : (shown : List Showing) (own : List Item) → tally is (long_list name sheet viewer shown own) ≤ in_showings is shown + most own
    long_counted shown [] = omega (arith, shown_counted shown)
    long_counted shown (item ∷ own) =
        let above = showings_above (number_after item) shown in
        let up_to = showings_up_to (number_after item) shown in
        let pieces = item_pieces name sheet viewer item shown in
        let older = long_list name sheet viewer up_to own in
        omega (arith, tally_append (lines_of_showings above) (pieces ++ older), tally_append pieces older, shown_counted above, parted_counted (number_after item) shown, long_counted up_to own, one_more item shown own)

  pub stream_tallied : (s : Session) (most : List Item → ℕ) → most [] ≡ 0
      → ((item : Item) (shown : List Showing) (own : List Item) → tally is (item_pieces s.name s.sheet s.viewer item shown) + most own ≤ most (item ∷ own))
      → tally is (stream_of s) ≤ in_showings is (showings s.name s.sheet s.viewer s.protocol s.sight) + most s.own
  unfolding stream
  stream_tallied s most none one_more =
      let shown = showings s.name s.sheet s.viewer s.protocol s.sight in
      let pieces = long_list s.name s.sheet s.viewer shown s.own in
      omega (arith, cut_counted pieces, long_counted s.name s.sheet s.viewer most none one_more shown s.own)

-- ---- verdicts: one for each submission at most

no_bye_answers : (ticket : ℕ) (why : Bye) → answers ticket (Ok (to_client.Bye why)) ≡ false
no_bye_answers ticket why = refl

verdict_counted : (ticket n : ℕ) (s : ℕ) (reason : Option Reason) (game : GameAnswer) → tally (answers ticket) (verdict_pieces n s reason game) ≤ one_if (s == ticket)
verdict_counted ticket n s reason Starved = omega arith
verdict_counted ticket n s (Some reason) Unasked = omega arith
verdict_counted ticket n s (Some reason) Accepted = omega arith
verdict_counted ticket n s (Some reason) (Refused why) = omega arith
verdict_counted ticket n s None Unasked = omega arith
verdict_counted ticket n s None Accepted = omega arith
verdict_counted ticket n s None (Refused why) = omega arith

item_counted : (ticket : ℕ) (name : Name) (sheet : Sheet) (viewer : Viewer) (item : Item) (shown : List Showing) (own : List Item)
    → tally (answers ticket) (item_pieces name sheet viewer item shown) + submitted ticket own ≤ submitted ticket (item ∷ own)
item_counted ticket name sheet viewer (Submitted n s Starved) shown own = omega arith
item_counted ticket name sheet viewer (Submitted n s Unasked) shown own =
    omega (arith, verdict_counted ticket n s.ticket (public_reason_on name sheet viewer (snapshot_of_number n shown) s) Unasked)
item_counted ticket name sheet viewer (Submitted n s Accepted) shown own =
    omega (arith, verdict_counted ticket n s.ticket (public_reason_on name sheet viewer (snapshot_of_number n shown) s) Accepted)
item_counted ticket name sheet viewer (Submitted n s (Refused why)) shown own =
    omega (arith, verdict_counted ticket n s.ticket (public_reason_on name sheet viewer (snapshot_of_number n shown) s) (Refused why))
item_counted ticket name sheet viewer (Took n) shown own = omega arith
item_counted ticket name sheet viewer (Left n) shown own = omega arith
item_counted ticket name sheet viewer (Detached n) shown own = omega arith

update_no_answer : (ticket : ℕ) (protocol : Protocol) (sheet : Sheet) (before s : Snap) → answers ticket (Ok (update_message protocol sheet before s)) ≡ false
update_no_answer ticket One sheet before s = refl
update_no_answer ticket Two sheet before s = refl

module _ (name : Name) (sheet : Sheet) (viewer : Viewer) (protocol : Protocol) where
  no_answers : (ticket : ℕ) (sight : List Snap) → in_showings (answers ticket) (showings name sheet viewer protocol sight) ≡ 0
  no_answers ticket [] = refl
  no_answers ticket (s ∷ []) = refl
  no_answers ticket (s ∷ before ∷ sight) = omega (arith, ap one_if (update_no_answer ticket protocol sheet before s), no_answers ticket (before ∷ sight))

pub verdicts_sent : (ticket : ℕ) (s : Session) → AllLines ReadsBack (stream_of s) → s.sent ≡ lines_to_mark (stream_of s) → count (answers ticket) s.sent ≤ submitted ticket s.own
verdicts_sent ticket s back tied =
    omega (
      arith,
      ap (count (answers ticket)) tied,
      mark_counted (answers ticket) (no_bye_answers ticket) (stream_of s) back,
      stream_tallied (answers ticket) s (submitted ticket) refl (item_counted ticket s.name s.sheet s.viewer),
      no_answers s.name s.sheet s.viewer s.protocol ticket s.sight,
    )

-- ---- syncs: one at most

no_bye_syncs : (why : Bye) → is_sync (Ok (to_client.Bye why)) ≡ false
no_bye_syncs why = refl

abbrev pub no_items : List Item → ℕ
no_items own = 0

verdict_no_sync : (n ticket : ℕ) (reason : Option Reason) (game : GameAnswer) → tally is_sync (verdict_pieces n ticket reason game) ≡ 0
verdict_no_sync n ticket reason Starved = refl
verdict_no_sync n ticket (Some reason) Unasked = refl
verdict_no_sync n ticket (Some reason) Accepted = refl
verdict_no_sync n ticket (Some reason) (Refused why) = refl
verdict_no_sync n ticket None Unasked = refl
verdict_no_sync n ticket None Accepted = refl
verdict_no_sync n ticket None (Refused why) = refl

item_no_sync : (name : Name) (sheet : Sheet) (viewer : Viewer) (item : Item) (shown : List Showing) (own : List Item) → tally is_sync (item_pieces name sheet viewer item shown) + 0 ≤ 0
item_no_sync name sheet viewer (Submitted n s game) shown own = omega (arith, verdict_no_sync n s.ticket (public_reason_on name sheet viewer (snapshot_of_number n shown) s) game)
item_no_sync name sheet viewer (Took n) shown own = omega arith
item_no_sync name sheet viewer (Left n) shown own = omega arith
item_no_sync name sheet viewer (Detached n) shown own = omega arith

update_no_sync : (protocol : Protocol) (sheet : Sheet) (before s : Snap) → is_sync (Ok (update_message protocol sheet before s)) ≡ false
update_no_sync One sheet before s = refl
update_no_sync Two sheet before s = refl

module _ (name : Name) (sheet : Sheet) (viewer : Viewer) (protocol : Protocol) where
  one_sync : (sight : List Snap) → in_showings is_sync (showings name sheet viewer protocol sight) ≤ 1
  one_sync [] = omega arith
  one_sync (s ∷ []) = omega arith
  one_sync (s ∷ before ∷ sight) = omega (arith, ap one_if (update_no_sync protocol sheet before s), one_sync (before ∷ sight))

pub syncs_sent : (s : Session) → AllLines ReadsBack (stream_of s) → s.sent ≡ lines_to_mark (stream_of s) → count is_sync s.sent ≤ 1
syncs_sent s back tied =
    omega (
      arith,
      ap (count is_sync) tied,
      mark_counted is_sync no_bye_syncs (stream_of s) back,
      stream_tallied is_sync s no_items refl (item_no_sync s.name s.sheet s.viewer),
      one_sync s.name s.sheet s.viewer s.protocol s.sight,
    )

-- ---- byes: none but the one at the end

verdict_no_bye : (n ticket : ℕ) (reason : Option Reason) (game : GameAnswer) → tally is_bye (verdict_pieces n ticket reason game) ≡ 0
verdict_no_bye n ticket reason Starved = refl
verdict_no_bye n ticket (Some reason) Unasked = refl
verdict_no_bye n ticket (Some reason) Accepted = refl
verdict_no_bye n ticket (Some reason) (Refused why) = refl
verdict_no_bye n ticket None Unasked = refl
verdict_no_bye n ticket None Accepted = refl
verdict_no_bye n ticket None (Refused why) = refl

item_no_bye : (name : Name) (sheet : Sheet) (viewer : Viewer) (item : Item) (shown : List Showing) (own : List Item) → tally is_bye (item_pieces name sheet viewer item shown) + 0 ≤ 0
item_no_bye name sheet viewer (Submitted n s game) shown own = omega (arith, verdict_no_bye n s.ticket (public_reason_on name sheet viewer (snapshot_of_number n shown) s) game)
item_no_bye name sheet viewer (Took n) shown own = omega arith
item_no_bye name sheet viewer (Left n) shown own = omega arith
item_no_bye name sheet viewer (Detached n) shown own = omega arith

update_no_bye : (protocol : Protocol) (sheet : Sheet) (before s : Snap) → is_bye (Ok (update_message protocol sheet before s)) ≡ false
update_no_bye One sheet before s = refl
update_no_bye Two sheet before s = refl

module _ (name : Name) (sheet : Sheet) (viewer : Viewer) (protocol : Protocol) where
  no_byes : (sight : List Snap) → in_showings is_bye (showings name sheet viewer protocol sight) ≡ 0
  no_byes [] = refl
  no_byes (s ∷ []) = refl
  no_byes (s ∷ before ∷ sight) = omega (arith, ap one_if (update_no_bye protocol sheet before s), no_byes (before ∷ sight))

pub byes_sent : (s : Session) → AllLines ReadsBack (stream_of s) → count is_bye (message_lines_to_mark (stream_of s)) ≡ 0
byes_sent s back =
    omega (arith, marked_counted is_bye (stream_of s) back, stream_tallied is_bye s no_items refl (item_no_bye s.name s.sheet s.viewer), no_byes s.name s.sheet s.viewer s.protocol s.sight)
