-- What the cut makes of a stream: it grows at its end alone; what waits is what isn't handed out.
use Rattle.std.proofs.Common.{◌≡◌, ℕ, ◌+◌, Bool, true, false, nat_lt, List, [], ◌∷◌, ◌++◌, refl, sym, ap, ◌∙◌, subst, append_assoc, append-nil}
use Rattle.game_sheet.specs.declared.act.Bye.TheVariants as bye
use Rattle.room_history.specs.Course.{Grows, IsFirstPart, IsOpen}
use Rattle.wire_json.specs.declared.server.ServerMsg.{ServerMsg}
use Rattle.wire_json.specs.declared.server.ServerMsg.TheVariants.{Bye as Farewell}
use Rattle.wire_json.specs.ServerText.{text}
use Rattle.room_history.specs.Piece.{Closed, End, Ended, Line, Mark, Open, Piece, State, all_lines, counted_size, lines_to_mark, message_lines, state_after_take, state_of, waiting_lines, waiting_size}
use Rattle.room_history.specs.Session.{lines_handed_out}
use Rattle.room_history.specs.Stream.{cut, most_waiting, with_piece}
use Rattle.room_history.proofs.Names.{line_or_end}

pub grows_same : (ps : List Piece) → Grows ps ps
grows_same ps = record { more = []; is = refl; was_open = λ h. h; stops = λ h. refl }

pub grows_more : (a b c : List Piece) → Grows a b → Grows b c → Grows a c
grows_more a b c g h = record {
  more = h.more ++ g.more;
  is = h.is ∙ ap (λ x. h.more ++ x) g.is ∙ sym (append_assoc h.more g.more a);
  was_open = λ o. g.was_open (h.was_open o);
  stops = λ n. h.stops (λ o. n (g.was_open o)) ∙ g.stops n;
}

-- a stream that goes on went on before
open_marked : (st : State) → IsOpen (state_after_take st) → IsOpen st
open_marked Open h = h
open_marked (Ended why) h = absurd h
open_marked Closed h = absurd h

open_is : (st : State) → st ≡ Open → IsOpen st
open_is st e = subst IsOpen (sym e) tt

mark_grows : (ps : List Piece) → Grows ps (Mark ∷ ps)
mark_grows ps = record { more = Mark ∷ []; is = refl; was_open = λ h. open_marked (state_of ps) h; stops = λ n. refl }

line_grows : (b : Bool) (m : ServerMsg) (ps : List Piece) → state_of ps ≡ Open → Grows ps (line_or_end b m ps)
line_grows true m ps e = record { more = End bye.Lagging ∷ []; is = refl; was_open = λ h. absurd h; stops = λ n. absurd (n (open_is (state_of ps) e)) }
line_grows false m ps e = record { more = Line m ∷ []; is = refl; was_open = λ h. h; stops = λ n. absurd (n (open_is (state_of ps) e)) }

piece_grows : (st : State) (p : Piece) (ps : List Piece) → state_of ps ≡ st → Grows ps (with_piece st p ps)
piece_grows Open (Line m) ps e = line_grows (nat_lt most_waiting (waiting_size ps + counted_size m)) m ps e
piece_grows Open Mark ps e = mark_grows ps
piece_grows Open (End why) ps e = record { more = End why ∷ []; is = refl; was_open = λ h. absurd h; stops = λ n. absurd (n (open_is (state_of ps) e)) }
piece_grows (Ended by) (Line m) ps e = grows_same ps
piece_grows (Ended by) Mark ps e = mark_grows ps
piece_grows (Ended by) (End why) ps e = grows_same ps
piece_grows Closed (Line m) ps e = grows_same ps
piece_grows Closed Mark ps e = mark_grows ps
piece_grows Closed (End why) ps e = grows_same ps

-- the cut of a longer list is longer
pub cut_grows : (more ps : List Piece) → Grows (cut ps) (cut (more ++ ps))
cut_grows [] ps = grows_same (cut ps)
cut_grows (p ∷ more) ps =
    grows_more (cut ps) (cut (more ++ ps)) (with_piece (state_of (cut (more ++ ps))) p (cut (more ++ ps))) (cut_grows more ps)
    (piece_grows (state_of (cut (more ++ ps))) p (cut (more ++ ps)) refl)

-- the lines since the last mark, and the bye line
abbrev pub rest : List Piece → List (List ℕ)
rest [] = []
rest (Line m ∷ ps) = rest ps ++ text m ∷ []
rest (Mark ∷ ps) = []
rest (End why ∷ ps) = rest ps ++ text (Farewell why) ∷ []

-- all lines are those that were handed out and the rest
pub parted : (ps : List Piece) → all_lines ps ≡ lines_to_mark ps ++ rest ps
parted [] = refl
parted (Line m ∷ ps) = ap (λ x. x ++ text m ∷ []) (parted ps) ∙ append_assoc (lines_to_mark ps) (rest ps) (text m ∷ [])
parted (Mark ∷ ps) = sym (append-nil (all_lines ps))
parted (End why ∷ ps) = ap (λ x. x ++ text (Farewell why) ∷ []) (parted ps) ∙ append_assoc (lines_to_mark ps) (rest ps) (text (Farewell why) ∷ [])

-- what a Take hands out in each state
abbrev pub IsRest : State → List Piece → Type 0
IsRest Open ps = rest ps ≡ waiting_lines ps
IsRest (Ended why) ps = rest ps ≡ waiting_lines ps ++ text (Farewell why) ∷ []
IsRest Closed ps = rest ps ≡ []

rest_told : (b : Bool) (m : ServerMsg) (ps : List Piece) → state_of ps ≡ Open → rest ps ≡ waiting_lines ps → IsRest (state_of (line_or_end b m ps)) (line_or_end b m ps)
rest_told true m ps e h = ap (λ x. x ++ text (Farewell bye.Lagging) ∷ []) h
rest_told false m ps e h = subst (λ st. IsRest st (Line m ∷ ps)) (sym e) (ap (λ x. x ++ text m ∷ []) h)

rest_mark : (st : State) (ps : List Piece) → IsRest (state_after_take st) (Mark ∷ ps)
rest_mark Open ps = refl
rest_mark (Ended why) ps = refl
rest_mark Closed ps = refl

rest_put : (st : State) (p : Piece) (ps : List Piece) → state_of ps ≡ st → IsRest st ps → IsRest (state_of (with_piece st p ps)) (with_piece st p ps)
rest_put Open (Line m) ps e h = rest_told (nat_lt most_waiting (waiting_size ps + counted_size m)) m ps e h
rest_put Open Mark ps e h = rest_mark (state_of ps) ps
rest_put Open (End why) ps e h = ap (λ x. x ++ text (Farewell why) ∷ []) h
rest_put (Ended by) (Line m) ps e h = subst (λ st. IsRest st ps) (sym e) h
rest_put (Ended by) Mark ps e h = rest_mark (state_of ps) ps
rest_put (Ended by) (End why) ps e h = subst (λ st. IsRest st ps) (sym e) h
rest_put Closed (Line m) ps e h = subst (λ st. IsRest st ps) (sym e) h
rest_put Closed Mark ps e h = rest_mark (state_of ps) ps
rest_put Closed (End why) ps e h = subst (λ st. IsRest st ps) (sym e) h

pub rest_is : (ps : List Piece) → IsRest (state_of (cut ps)) (cut ps)
rest_is [] = refl
rest_is (p ∷ ps) = rest_put (state_of (cut ps)) p (cut ps) refl (rest_is ps)

-- the next Take hands out the rest
handed_where : (st : State) (ps : List Piece) → IsRest st ps → lines_handed_out st ps ≡ rest ps
handed_where Open ps h = sym h
handed_where (Ended why) ps h = sym h
handed_where Closed ps h = sym h

pub hands_rest : (ps : List Piece) → lines_handed_out (state_of (cut ps)) (cut ps) ≡ rest (cut ps)
hands_rest ps = handed_where (state_of (cut ps)) (cut ps) (rest_is ps)

-- the told lines of a cut list are a first part of those of the list
first_more : (a b c : List (List ℕ)) → IsFirstPart a b → IsFirstPart a (b ++ c)
first_more a b c f = (f.0 ++ c, ap (λ x. x ++ c) f.1 ∙ append_assoc a f.0 c)

first_told : (b : Bool) (m : ServerMsg) (ps qs : List Piece) → message_lines ps ≡ message_lines qs → IsFirstPart (message_lines (line_or_end b m ps)) (message_lines (Line m ∷ qs))
first_told true m ps qs h = (text m ∷ [], ap (λ x. x ++ text m ∷ []) (sym h))
first_told false m ps qs h = ([], ap (λ x. x ++ text m ∷ []) (sym h) ∙ sym (append-nil (message_lines ps ++ text m ∷ [])))

-- where the stream goes on nothing was dropped; else what was told is a first part
abbrev IsTold : State → List Piece → List Piece → Type 0
IsTold Open ps whole = message_lines ps ≡ message_lines whole
IsTold (Ended why) ps whole = IsFirstPart (message_lines ps) (message_lines whole)
IsTold Closed ps whole = IsFirstPart (message_lines ps) (message_lines whole)

same_first : (a b : List (List ℕ)) → a ≡ b → IsFirstPart a b
same_first a b e = ([], sym e ∙ sym (append-nil a))

told_step : (b : Bool) (m : ServerMsg) (ps whole : List Piece) → state_of ps ≡ Open → message_lines ps ≡ message_lines whole → IsTold (state_of (line_or_end b m ps)) (line_or_end b m ps) (Line m ∷ whole)
told_step true m ps whole e h = first_told true m ps whole h
told_step false m ps whole e h = subst (λ st. IsTold st (Line m ∷ ps) (Line m ∷ whole)) (sym e) (ap (λ x. x ++ text m ∷ []) h)

told_put : (st : State) (p : Piece) (ps whole : List Piece) → state_of ps ≡ st → IsTold st ps whole → IsTold (state_of (with_piece st p ps)) (with_piece st p ps) (p ∷ whole)
told_put Open (Line m) ps whole e h = told_step (nat_lt most_waiting (waiting_size ps + counted_size m)) m ps whole e h
told_put Open Mark ps whole e h = subst (λ st. IsTold (state_after_take st) (Mark ∷ ps) (Mark ∷ whole)) (sym e) h
told_put Open (End why) ps whole e h = same_first (message_lines ps) (message_lines whole) h
told_put (Ended by) (Line m) ps whole e h = subst (λ st. IsTold st ps (Line m ∷ whole)) (sym e) (first_more (message_lines ps) (message_lines whole) (text m ∷ []) h)
told_put (Ended by) Mark ps whole e h = subst (λ st. IsTold (state_after_take st) (Mark ∷ ps) (Mark ∷ whole)) (sym e) h
told_put (Ended by) (End why) ps whole e h = subst (λ st. IsTold st ps (End why ∷ whole)) (sym e) h
told_put Closed (Line m) ps whole e h = subst (λ st. IsTold st ps (Line m ∷ whole)) (sym e) (first_more (message_lines ps) (message_lines whole) (text m ∷ []) h)
told_put Closed Mark ps whole e h = subst (λ st. IsTold (state_after_take st) (Mark ∷ ps) (Mark ∷ whole)) (sym e) h
told_put Closed (End why) ps whole e h = subst (λ st. IsTold st ps (End why ∷ whole)) (sym e) h

told_is : (ps : List Piece) → IsTold (state_of (cut ps)) (cut ps) ps
told_is [] = refl
told_is (p ∷ ps) = told_put (state_of (cut ps)) p (cut ps) ps refl (told_is ps)

first_where : (st : State) (ps whole : List Piece) → IsTold st ps whole → IsFirstPart (message_lines ps) (message_lines whole)
first_where Open ps whole h = same_first (message_lines ps) (message_lines whole) h
first_where (Ended why) ps whole h = h
first_where Closed ps whole h = h

pub told_first : (ps : List Piece) → IsFirstPart (message_lines (cut ps)) (message_lines ps)
told_first ps = first_where (state_of (cut ps)) (cut ps) ps (told_is ps)
