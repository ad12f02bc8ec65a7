-- What becomes of a session by one entry: its stream grows, and what it was sent stays what its Takes handed out.
use Rattle.std.proofs.Common.{◌≡◌, ◌≤◌, ◌<◌, ℕ, ◌+◌, Bool, true, false, nat_lt, if◌then◌else◌, List, [], ◌∷◌, ◌++◌, Option, Some, None, refl, sym, ap, ◌∙◌, subst, append_assoc, append-nil, arith}
use Rattle.game_sheet.specs.MatchName.{Name}
use Rattle.game_sheet.specs.declared.act.Bye.{Bye}
use Rattle.game_sheet.specs.declared.act.Bye.TheVariants as bye
use Rattle.game_sheet.specs.declared.sheet.Sheet.{Sheet}
use Rattle.player_sight.specs.SnapshotData.{Snap}
use Rattle.wire_json.specs.declared.protocol.Protocol.{Protocol}
use Rattle.wire_json.specs.declared.reason.Reason.{Reason}
use Rattle.room_history.specs.Course.{Grows, IsOpen, SameView}
use Rattle.room_history.specs.Item.{Starved, Unasked, Refused, Accepted, Detached, GameAnswer, Item, Left, Submitted, Took, number_after}
use Rattle.wire_json.specs.declared.server.ServerMsg.{ServerMsg}
use Rattle.room_history.specs.Piece.{Closed, End, Ended, Line, Mark, Open, Piece, State, counted_size, lines_to_mark, state_of, waiting_size}
use Rattle.room_history.specs.Session.{Session, is_detached, is_looking, lines_handed_out, number_in, session_state, stream_of, with_item}
use Rattle.room_history.specs.Showing.{Showing, showings, snapshot_of_number, update_message}
use Rattle.room_history.specs.Stream.{cut, item_pieces, long_list, most_waiting, public_reason_on, stream, verdict_pieces, with_piece}
use Rattle.room_history.proofs.Names.{after_take, line_or_end}
use Rattle.game_sheet.specs.Viewer.{Viewer}
use Rattle.wire_json.specs.declared.submission.Submission.{Submission}
use Rattle.room_history.proofs.Cutting.{grows_same, cut_grows, rest, parted, hands_rest}
use Rattle.room_history.proofs.Growing.{TopBy, CameTo, InOrder, number_at, item_grows, snapshot_grows}

-- no mark is among these
abbrev pub AreQuiet : List Piece → Type 0
AreQuiet [] = Unit {0}
AreQuiet (Line m ∷ ps) = AreQuiet ps
AreQuiet (Mark ∷ ps) = ⊥
AreQuiet (End why ∷ ps) = AreQuiet ps

handed_told : (b : Bool) (m : ServerMsg) (ps : List Piece) → lines_to_mark (line_or_end b m ps) ≡ lines_to_mark ps
handed_told true m ps = refl
handed_told false m ps = refl

handed_tells : (st : State) (m : ServerMsg) (ps : List Piece) → lines_to_mark (with_piece st (Line m) ps) ≡ lines_to_mark ps
handed_tells Open m ps = handed_told (nat_lt most_waiting (waiting_size ps + counted_size m)) m ps
handed_tells (Ended why) m ps = refl
handed_tells Closed m ps = refl

handed_end : (st : State) (why : Bye) (ps : List Piece) → lines_to_mark (with_piece st (End why) ps) ≡ lines_to_mark ps
handed_end Open why ps = refl
handed_end (Ended by) why ps = refl
handed_end Closed why ps = refl

-- without a mark nothing is handed out
pub quiet_handed : (more ps : List Piece) → AreQuiet more → lines_to_mark (cut (more ++ ps)) ≡ lines_to_mark (cut ps)
quiet_handed [] ps q = refl
quiet_handed (Line m ∷ more) ps q = handed_tells (state_of (cut (more ++ ps))) m (cut (more ++ ps)) ∙ quiet_handed more ps q
quiet_handed (Mark ∷ more) ps q = absurd q
quiet_handed (End why ∷ more) ps q = handed_end (state_of (cut (more ++ ps))) why (cut (more ++ ps)) ∙ quiet_handed more ps q

pub put_mark : (st : State) (ps : List Piece) → with_piece st Mark ps ≡ Mark ∷ ps
put_mark Open ps = refl
put_mark (Ended why) ps = refl
put_mark Closed ps = refl

end_put : (st : State) (why : Bye) (ps : List Piece) → state_of ps ≡ st → IsOpen (state_of (with_piece st (End why) ps)) → ⊥
end_put Open why ps e h = h
end_put (Ended by) why ps e h = subst IsOpen e h
end_put Closed why ps e h = subst IsOpen e h

-- what holds of every session after every history
pub record Good (s : Session) : Type 0 where
  pub order : InOrder s.own
  pub came : CameTo (number_in s.sight) s.own
  pub tied : s.sent ≡ lines_to_mark (stream_of s)
  pub goes_on : IsOpen (session_state s) → is_looking s.own ≡ true

pub record Onward (s t : Session) : Type 0 where
  pub good : Good t
  pub view : SameView s t
  pub grows : Grows (stream_of s) (stream_of t)

pub stays : (s : Session) → Good s → Onward s s
stays s g = record { good = g; view = record { name = refl; sheet = refl; viewer = refl; protocol = refl }; grows = grows_same (stream_of s) }

abbrev pub pieces_of : Session → List Piece
pieces_of s = long_list s.name s.sheet s.viewer (showings s.name s.sheet s.viewer s.protocol s.sight) s.own

pub told_top : (name : Name) (sheet : Sheet) (viewer : Viewer) (protocol : Protocol) (sight : List Snap) → TopBy (number_in sight) (showings name sheet viewer protocol sight)
told_top name sheet viewer protocol [] = tt
told_top name sheet viewer protocol (s ∷ []) = omega arith
told_top name sheet viewer protocol (s ∷ before ∷ sight) = omega arith

pub came_more : (k n : ℕ) (own : List Item) → k ≤ n → CameTo k own → CameTo n own
came_more k n [] h c = tt
came_more k n (item ∷ own) h c = omega (arith, h, c)

quiet_verdict : (n ticket : ℕ) (o : Option Reason) (answer : GameAnswer) → AreQuiet (verdict_pieces n ticket o answer)
quiet_verdict n ticket None Starved = tt
quiet_verdict n ticket None Unasked = tt
quiet_verdict n ticket None Accepted = tt
quiet_verdict n ticket None (Refused reason) = tt
quiet_verdict n ticket (Some r) Starved = tt
quiet_verdict n ticket (Some r) Unasked = tt
quiet_verdict n ticket (Some r) Accepted = tt
quiet_verdict n ticket (Some r) (Refused reason) = tt

abbrev pub says_in : Session → Item → List Piece
says_in s item = item_pieces s.name s.sheet s.viewer item (showings s.name s.sheet s.viewer s.protocol s.sight)

abbrev pub plus_item : Session → Item → Session
plus_item s item = record s { own = item ∷ s.own }

module _ (s : Session) (g : Good s) (item : Item) where
  pub item_adds : number_after item ≡ number_in s.sight → pieces_of (plus_item s item) ≡ says_in s item ++ pieces_of s
  item_adds e =
      item_grows s.name s.sheet s.viewer item (showings s.name s.sheet s.viewer s.protocol s.sight) s.own
      (subst (λ n. TopBy n (showings s.name s.sheet s.viewer s.protocol s.sight)) (sym e) (told_top s.name s.sheet s.viewer s.protocol s.sight))

  pub item_open : number_after item ≡ number_in s.sight → is_detached s.own ≡ false → IsOpen (state_of (cut (pieces_of (plus_item s item)))) → is_looking s.own ≡ true
  unfolding stream
  item_open e c h =
      let was : IsOpen (state_of (stream_of s)) = (cut_grows (says_in s item) (pieces_of s)).was_open (subst (λ ps. IsOpen (state_of (cut ps))) (item_adds e) h) in
      g.goes_on (rw c was)

  item_onward : number_after item ≡ number_in s.sight → number_at item ≡ number_in s.sight → AreQuiet (says_in s item) → (IsOpen (session_state (plus_item s item)) → is_looking (item ∷ s.own) ≡ true) → Onward s (plus_item s item)
  unfolding stream
  item_onward e f q o = record {
    good = record {
      order = (subst (λ n. CameTo n s.own) (sym f) g.came, g.order);
      came = omega (arith, e);
      tied = g.tied ∙ sym (ap (λ ps. lines_to_mark (cut ps)) (item_adds e) ∙ quiet_handed (says_in s item) (pieces_of s) q);
      goes_on = o;
    };
    view = record { name = refl; sheet = refl; viewer = refl; protocol = refl };
    grows = subst (λ ps. Grows (cut (pieces_of s)) (cut ps)) (sym (item_adds e)) (cut_grows (says_in s item) (pieces_of s));
  }

-- a session's own submission, but for one that is accepted
pub submitted_onward : (s : Session) → Good s → (sub : Submission) (answer : GameAnswer) → number_after (Submitted (number_in s.sight) sub answer) ≡ number_in s.sight → Onward s (with_item (Submitted (number_in s.sight) sub answer) s)
unfolding stream
submitted_onward s g sub answer e = by (is_detached s.own) refl
  where
    by : (b : Bool) → is_detached s.own ≡ b → Onward s (if b then s else plus_item s (Submitted (number_in s.sight) sub answer))
    by true c = stays s g
    by false c = item_onward s g (Submitted (number_in s.sight) sub answer) e refl
        (quiet_verdict (number_in s.sight) sub.ticket (public_reason_on s.name s.sheet s.viewer (snapshot_of_number (number_in s.sight) (showings s.name s.sheet s.viewer s.protocol s.sight)) sub) answer)
        (item_open s g (Submitted (number_in s.sight) sub answer) e c)

pub detached_onward : (s : Session) → Good s → Onward s (with_item (Detached (number_in s.sight)) s)
detached_onward s g = by (is_detached s.own)
  where
    by : (b : Bool) → Onward s (if b then s else plus_item s (Detached (number_in s.sight)))
    by true = stays s g
    by false = item_onward s g (Detached (number_in s.sight)) refl refl tt (λ h. absurd h)

pub left_onward : (s : Session) → Good s → Onward s (plus_item s (Left (number_in s.sight)))
unfolding stream
left_onward s g = item_onward s g (Left (number_in s.sight)) refl refl tt
    (λ h. absurd (end_put (state_of (cut (pieces_of s))) bye.Left (cut (pieces_of s)) refl (subst (λ ps. IsOpen (state_of (cut ps))) (item_adds s g (Left (number_in s.sight)) refl) h)))

abbrev with_sent : Session → List (List ℕ) → Session
with_sent s sent = record s { sent = sent }

abbrev took : Session → Session
took s = plus_item s (Took (number_in s.sight))

taken_closed : (s : Session) → Good s → Onward s (with_sent s (s.sent ++ []))
taken_closed s g = record {
  good = record { order = g.order; came = g.came; tied = append-nil s.sent ∙ g.tied; goes_on = g.goes_on };
  view = record { name = refl; sheet = refl; viewer = refl; protocol = refl };
  grows = grows_same (stream_of s);
}

marked_lines : (ps : List Piece) (sent : List (List ℕ)) → sent ≡ lines_to_mark (cut ps) → sent ++ lines_handed_out (state_of (cut ps)) (cut ps) ≡ lines_to_mark (cut (Mark ∷ ps))
marked_lines ps sent h =
    ap (λ x. x ++ lines_handed_out (state_of (cut ps)) (cut ps)) h ∙ ap (λ x. lines_to_mark (cut ps) ++ x) (hands_rest ps) ∙ sym (parted (cut ps))
    ∙ sym (ap lines_to_mark (put_mark (state_of (cut ps)) (cut ps)))

taken_live : (s : Session) → Good s → is_detached s.own ≡ false → Onward s (with_sent (took s) (s.sent ++ lines_handed_out (state_of (stream_of s)) (stream_of s)))
unfolding stream
taken_live s g c = record {
  good = record {
    order = (g.came, g.order);
    came = omega arith;
    tied = marked_lines (pieces_of s) s.sent g.tied ∙ ap (λ ps. lines_to_mark (cut ps)) (sym (item_adds s g (Took (number_in s.sight)) refl));
    goes_on = item_open s g (Took (number_in s.sight)) refl c;
  };
  view = record { name = refl; sheet = refl; viewer = refl; protocol = refl };
  grows = subst (λ ps. Grows (cut (pieces_of s)) (cut ps)) (sym (item_adds s g (Took (number_in s.sight)) refl)) (cut_grows (Mark ∷ []) (pieces_of s));
}

-- a Take hands out the rest
pub taken_onward : (s : Session) → Good s → Onward s (after_take s)
taken_onward s g = by (is_detached s.own) refl
  where
    by : (b : Bool) → is_detached s.own ≡ b → Onward s (after_take s)
    by true c = rw c (taken_closed s g)
    by false c = rw c (taken_live s g c)

-- one more snapshot
abbrev pub with_snap : Session → Snap → Session
with_snap s y = record s { sight = y ∷ s.sight }

abbrev pub next_told : Session → Snap → Snap → Showing
next_told s x y = record { snapshot = y; message = update_message s.protocol s.sheet x y }

pub told_next : (s : Session) (x y : Snap) (rest : List Snap) → s.sight ≡ x ∷ rest
    → showings s.name s.sheet s.viewer s.protocol (y ∷ s.sight) ≡ next_told s x y ∷ showings s.name s.sheet s.viewer s.protocol s.sight
told_next s x y rest e =
    subst (λ l. showings s.name s.sheet s.viewer s.protocol (y ∷ l) ≡ next_told s x y ∷ showings s.name s.sheet s.viewer s.protocol l) (sym e) refl

module _ (s : Session) (g : Good s) (x y : Snap) (before : List Snap) (top : s.sight ≡ x ∷ before) where
  pub snap_pieces : x.number < y.number → pieces_of (with_snap s y) ≡ Line (update_message s.protocol s.sheet x y) ∷ pieces_of s
  snap_pieces h =
      ap (λ l. long_list s.name s.sheet s.viewer l s.own) (told_next s x y before top)
      ∙ snapshot_grows s.name s.sheet s.viewer (next_told s x y) (showings s.name s.sheet s.viewer s.protocol s.sight) s.own x.number (subst (λ l. CameTo (number_in l) s.own) top g.came) h

  pub shown_onward : x.number < y.number → is_looking s.own ≡ true → Onward s (with_snap s y)
  unfolding stream
  shown_onward h l = record {
    good = record {
      order = g.order;
      came = came_more x.number y.number s.own (omega (arith, h)) (subst (λ l. CameTo (number_in l) s.own) top g.came);
      tied = g.tied ∙ sym (ap (λ ps. lines_to_mark (cut ps)) (snap_pieces h) ∙ quiet_handed (Line (update_message s.protocol s.sheet x y) ∷ []) (pieces_of s) tt);
      goes_on = λ o. l;
    };
    view = record { name = refl; sheet = refl; viewer = refl; protocol = refl };
    grows = subst (λ ps. Grows (cut (pieces_of s)) (cut ps)) (sym (snap_pieces h)) (cut_grows (Line (update_message s.protocol s.sheet x y) ∷ []) (pieces_of s));
  }

  -- the session's own submission is accepted: the update stands before the verdict
  abbrev accepted_item : Submission → Item
  accepted_item sub = Submitted (number_in s.sight) sub Accepted

  abbrev accepted_says : Submission → List Piece
  accepted_says sub = item_pieces s.name s.sheet s.viewer (accepted_item sub) (showings s.name s.sheet s.viewer s.protocol (y ∷ s.sight))

  abbrev update : Piece
  update = Line (update_message s.protocol s.sheet x y)

  number_top : number_in s.sight ≡ x.number
  number_top = ap number_in top

  pub accepted_pieces : (sub : Submission) → y.number ≡ x.number + 1 → pieces_of (with_snap (plus_item s (accepted_item sub)) y) ≡ accepted_says sub ++ (update ∷ pieces_of s)
  accepted_pieces sub e =
      item_grows s.name s.sheet s.viewer (accepted_item sub) (showings s.name s.sheet s.viewer s.protocol (y ∷ s.sight)) s.own
      (subst (λ n. TopBy n (showings s.name s.sheet s.viewer s.protocol (y ∷ s.sight))) (e ∙ ap (λ n. n + 1) (sym number_top)) (told_top s.name s.sheet s.viewer s.protocol (y ∷ s.sight)))
      ∙ ap (λ ps. accepted_says sub ++ ps) (snap_pieces (omega (arith, e)))

  quiet_more : (a : List Piece) → AreQuiet a → AreQuiet (a ++ update ∷ [])
  quiet_more [] q = tt
  quiet_more (Line m ∷ a) q = quiet_more a q
  quiet_more (Mark ∷ a) q = absurd q
  quiet_more (End why ∷ a) q = quiet_more a q

  pub accepted_onward : (sub : Submission) → y.number ≡ x.number + 1 → is_looking s.own ≡ true → Onward s (with_snap (plus_item s (accepted_item sub)) y)
  unfolding stream
  accepted_onward sub e l =
      let shape : pieces_of (with_snap (plus_item s (accepted_item sub)) y) ≡ (accepted_says sub ++ update ∷ []) ++ pieces_of s
      = accepted_pieces sub e ∙ sym (append_assoc (accepted_says sub) (update ∷ []) (pieces_of s)) in
      let quiet : AreQuiet (accepted_says sub ++ update ∷ [])
      = quiet_more (accepted_says sub) (quiet_verdict (number_in s.sight) sub.ticket
      (public_reason_on s.name s.sheet s.viewer (snapshot_of_number (number_in s.sight) (showings s.name s.sheet s.viewer s.protocol (y ∷ s.sight))) sub) Accepted) in
      record {
        good = record {
          order = (g.came, g.order);
          came = omega (arith, e, number_top);
          tied = g.tied ∙ sym (ap (λ ps. lines_to_mark (cut ps)) shape ∙ quiet_handed (accepted_says sub ++ update ∷ []) (pieces_of s) quiet);
          goes_on = λ o. l;
        };
        view = record { name = refl; sheet = refl; viewer = refl; protocol = refl };
        grows = subst (λ ps. Grows (cut (pieces_of s)) (cut ps)) (sym shape) (cut_grows (accepted_says sub ++ update ∷ []) (pieces_of s));
      }
