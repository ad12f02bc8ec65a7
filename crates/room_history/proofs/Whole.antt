-- A stream that doesn't lag is its long list up to the first end; so it is the same for sessions that are alike but for Takes.
use Rattle.std.proofs.Common.{◌≡◌, ◌+◌, Bool, true, false, nat_lt, if◌then◌else◌, List, [], ◌∷◌, ◌++◌, refl, sym, ap, ◌∙◌}
use Rattle.game_sheet.specs.declared.act.Bye.{Bye}
use Rattle.game_sheet.specs.declared.act.Bye.TheVariants as bye
use Rattle.room_history.specs.Alike.{AreAlikeButForTakes, NotLagging, SeeAlike}
use Rattle.room_history.specs.Item.{without_takes}
use Rattle.room_history.specs.Item.{Item}
use Rattle.wire_json.specs.declared.server.ServerMsg.{ServerMsg}
use Rattle.wire_json.specs.declared.server.ServerMsg.TheVariants.{Bye as Farewell}
use Rattle.wire_json.specs.ServerText.{text}
use Rattle.room_history.specs.Piece.{Closed, End, Ended, Line, Mark, Open, Piece, State, all_lines, counted_size, state_after_take, state_of, waiting_size, without_marks}
use Rattle.room_history.specs.Session.{Session, stream_of}
use Rattle.room_history.specs.Showing.{showings}
use Rattle.room_history.specs.Stream.{cut, long_list, most_waiting, stream, with_piece}
use Rattle.room_history.proofs.Names.{line_or_end}
use Rattle.room_history.proofs.Growing.{same_unmarked}
use Rattle.room_history.proofs.Sessions.{Good, pieces_of}

abbrev is_over : List Piece → Bool
is_over [] = false
is_over (End why ∷ ps) = true
is_over (p ∷ ps) = is_over ps

abbrev until_end : List Piece → List Piece
until_end [] = []
until_end (p ∷ ps) = if is_over (until_end ps) then until_end ps else p ∷ until_end ps

abbrev over_in : State → Bool
over_in Open = false
over_in (Ended why) = true
over_in Closed = true

record Same (st : State) (ps whole : List Piece) : Type 0 where
  pub is : without_marks ps ≡ until_end (without_marks whole)
  pub over : is_over (until_end (without_marks whole)) ≡ over_in st

over_taken : (st : State) → over_in (state_after_take st) ≡ over_in st
over_taken Open = refl
over_taken (Ended why) = refl
over_taken Closed = refl

same_mark : (st : State) (ps whole : List Piece) → state_of ps ≡ st → Same st ps whole → Same (state_of (Mark ∷ ps)) (Mark ∷ ps) (Mark ∷ whole)
same_mark st ps whole e s = record { is = s.is; over = s.over ∙ sym (over_taken st) ∙ ap (λ x. over_in (state_after_take x)) (sym e) }

same_told : (b : Bool) (m : ServerMsg) (ps whole : List Piece) → state_of ps ≡ Open → NotLagging (line_or_end b m ps) → Same Open ps whole → Same (state_of (line_or_end b m ps)) (line_or_end b m ps) (Line m ∷ whole)
same_told true m ps whole e n s = absurd n
same_told false m ps whole e n s = record { is = rw s.over (ap (λ x. Line m ∷ x) s.is); over = rw (s.over, e) s.over }

same_ended : (st : State) (p : Piece) (ps whole more : List Piece) → without_marks more ≡ p ∷ without_marks whole → over_in st ≡ true → state_of ps ≡ st → Same st ps whole → Same (state_of ps) ps more
same_ended st p ps whole more m o e s = record { is = rw (m, s.over, o) s.is; over = rw (m, s.over, o, e) s.over }

same_put : (st : State) (p : Piece) (ps whole : List Piece) → state_of ps ≡ st → NotLagging (with_piece st p ps) → Same st ps whole → Same (state_of (with_piece st p ps)) (with_piece st p ps) (p ∷ whole)
same_put Open (Line m) ps whole e n s = same_told (nat_lt most_waiting (waiting_size ps + counted_size m)) m ps whole e n s
same_put Open Mark ps whole e n s = same_mark Open ps whole e s
same_put Open (End why) ps whole e n s = record { is = rw s.over (ap (λ x. End why ∷ x) s.is); over = rw s.over refl }
same_put (Ended by) (Line m) ps whole e n s = same_ended (Ended by) (Line m) ps whole (Line m ∷ whole) refl refl e s
same_put (Ended by) Mark ps whole e n s = same_mark (Ended by) ps whole e s
same_put (Ended by) (End why) ps whole e n s = same_ended (Ended by) (End why) ps whole (End why ∷ whole) refl refl e s
same_put Closed (Line m) ps whole e n s = same_ended Closed (Line m) ps whole (Line m ∷ whole) refl refl e s
same_put Closed Mark ps whole e n s = same_mark Closed ps whole e s
same_put Closed (End why) ps whole e n s = same_ended Closed (End why) ps whole (End why ∷ whole) refl refl e s

lag_told : (b : Bool) (m : ServerMsg) (ps : List Piece) → NotLagging (line_or_end b m ps) → NotLagging ps
lag_told true m ps n = absurd n
lag_told false m ps n = n

lag_end : (why : Bye) (ps : List Piece) → NotLagging (End why ∷ ps) → NotLagging ps
lag_end bye.Left ps n = n
lag_end bye.Lagging ps n = absurd n

lag_put : (st : State) (p : Piece) (ps : List Piece) → NotLagging (with_piece st p ps) → NotLagging ps
lag_put Open (Line m) ps n = lag_told (nat_lt most_waiting (waiting_size ps + counted_size m)) m ps n
lag_put Open Mark ps n = n
lag_put Open (End why) ps n = lag_end why ps n
lag_put (Ended by) (Line m) ps n = n
lag_put (Ended by) Mark ps n = n
lag_put (Ended by) (End why) ps n = n
lag_put Closed (Line m) ps n = n
lag_put Closed Mark ps n = n
lag_put Closed (End why) ps n = n

same_cut : (ps : List Piece) → NotLagging (cut ps) → Same (state_of (cut ps)) (cut ps) ps
same_cut [] n = record { is = refl; over = refl }
same_cut (p ∷ ps) n = same_put (state_of (cut ps)) p (cut ps) ps refl n (same_cut ps (lag_put (state_of (cut ps)) p (cut ps) n))

pub lines_unmarked : (ps : List Piece) → all_lines (without_marks ps) ≡ all_lines ps
lines_unmarked [] = refl
lines_unmarked (Line m ∷ ps) = ap (λ x. x ++ text m ∷ []) (lines_unmarked ps)
lines_unmarked (Mark ∷ ps) = lines_unmarked ps
lines_unmarked (End why ∷ ps) = ap (λ x. x ++ text (Farewell why) ∷ []) (lines_unmarked ps)

without : (s : Session) → Good s → without_marks (pieces_of s) ≡ without_marks (long_list s.name s.sheet s.viewer (showings s.name s.sheet s.viewer s.protocol s.sight) (without_takes s.own))
without s g = same_unmarked s.name s.sheet s.viewer s.own (showings s.name s.sheet s.viewer s.protocol s.sight) g.order

same_seen : (s t : Session) → SeeAlike s t → (own : List Item) → long_list s.name s.sheet s.viewer (showings s.name s.sheet s.viewer s.protocol s.sight) own ≡ long_list t.name t.sheet t.viewer (showings t.name t.sheet t.viewer t.protocol t.sight) own
same_seen s t a own = rw (a.name, a.sheet, a.viewer, a.protocol, a.sight) refl

-- sessions that are alike but for Takes and don't lag have the same lines, the bye line too
pub same_whole : (s t : Session) → Good s → Good t → AreAlikeButForTakes s t → NotLagging (stream_of s) → NotLagging (stream_of t) → all_lines (stream_of s) ≡ all_lines (stream_of t)
unfolding stream
same_whole s t g k al n o =
    sym (lines_unmarked (cut (pieces_of s))) ∙ ap all_lines ((same_cut (pieces_of s) n).is ∙ ap until_end (without s g ∙ ap without_marks (same_seen s t al.see (without_takes s.own)
    ∙ ap (λ own. long_list t.name t.sheet t.viewer (showings t.name t.sheet t.viewer t.protocol t.sight) own) al.own) ∙ sym (without t k)) ∙ sym (same_cut (pieces_of t) o).is) ∙ lines_unmarked (cut (pieces_of t))
