-- Verdicts aside, a stream is what the session was shown, each snapshot once and in order, up to its end.
use Rattle.std.proofs.Common.{◌≡◌, ℕ, ◌+◌, Bool, true, false, nat_lt, if◌then◌else◌, List, [], ◌∷◌, ◌++◌, Option, Some, None, refl, sym, ap, ◌∙◌, subst}
use Rattle.game_sheet.specs.MatchName.{Name}
use Rattle.game_sheet.specs.declared.sheet.Sheet.{Sheet}
use Rattle.player_sight.specs.SnapshotData.{Snap}
use Rattle.wire_json.specs.declared.protocol.Protocol.{Protocol}
use Rattle.wire_json.specs.declared.protocol.Protocol.TheVariants.{One, Two}
use Rattle.wire_json.specs.declared.reason.Reason.{Reason}
use Rattle.room_history.specs.Item.{Accepted, Detached, GameAnswer, Item, Left, Refused, Starved, Submitted, Took, Unasked, number_after}
use Rattle.wire_json.specs.declared.server.ServerMsg.{ServerMsg}
use Rattle.room_history.specs.News.{TellsSight, is_answer, messages, messages_of, news}
use Rattle.room_history.specs.Piece.{Closed, End, Ended, Line, Mark, Open, Piece, State, counted_size, state_after_take, state_of, waiting_size}
use Rattle.room_history.specs.Session.{Session, stream_of}
use Rattle.room_history.specs.Showing.{Showing, showings, showings_above, showings_up_to, snapshot_of_number, update_message}
use Rattle.room_history.specs.Stream.{cut, item_pieces, lines_of_showings, long_list, most_waiting, public_reason_on, stream, verdict_pieces, with_piece}
use Rattle.room_history.proofs.Names.{line_or_end}
use Rattle.game_sheet.specs.Viewer.{Viewer}
use Rattle.room_history.proofs.Growing.{tells_parts}
use Rattle.room_history.proofs.Sessions.{pieces_of}

abbrev AllNews : List Showing → Type 0
AllNews [] = Unit {0}
AllNews (t ∷ shown) = (is_answer t.message ≡ false) × AllNews shown

news_append : (a b : List Piece) → news (a ++ b) ≡ news a ++ news b
news_append [] b = refl
news_append (Line m ∷ a) b = by (is_answer m) (news_append a b)
  where
    by : (v : Bool) → news (a ++ b) ≡ news a ++ news b → (if v then news (a ++ b) else m ∷ news (a ++ b)) ≡ (if v then news a else m ∷ news a) ++ news b
    by true h = h
    by false h = ap (λ x. m ∷ x) h
news_append (Mark ∷ a) b = news_append a b
news_append (End why ∷ a) b = news_append a b

up_to_step : (b : Bool) (n : ℕ) (t : Showing) (shown : List Showing) → nat_lt n t.snapshot.number ≡ b → AllNews (t ∷ shown) → AllNews (showings_up_to n shown) → AllNews (showings_up_to n (t ∷ shown))
up_to_step true n t shown e a h = rw e h
up_to_step false n t shown e a h = rw e a

up_to_news : (n : ℕ) (shown : List Showing) → AllNews shown → AllNews (showings_up_to n shown)
up_to_news n [] a = tt
up_to_news n (t ∷ shown) a = up_to_step (nat_lt n t.snapshot.number) n t shown refl a (up_to_news n shown a.1)

news_tells : (shown : List Showing) → AllNews shown → news (lines_of_showings shown) ≡ messages shown
news_tells [] a = refl
news_tells (t ∷ shown) a = rw a.0 (ap (λ x. t.message ∷ x) (news_tells shown a.1))

module _ (name : Name) (sheet : Sheet) (viewer : Viewer) (protocol : Protocol) where
  news_verdict : (n ticket : ℕ) (o : Option Reason) (answer : GameAnswer) → news (verdict_pieces n ticket o answer) ≡ []
  news_verdict n ticket None Starved = refl
  news_verdict n ticket None Unasked = refl
  news_verdict n ticket None Accepted = refl
  news_verdict n ticket None (Refused reason) = refl
  news_verdict n ticket (Some r) Starved = refl
  news_verdict n ticket (Some r) Unasked = refl
  news_verdict n ticket (Some r) Accepted = refl
  news_verdict n ticket (Some r) (Refused reason) = refl

  news_says : (item : Item) (shown : List Showing) → news (item_pieces name sheet viewer item shown) ≡ []
  news_says (Submitted n s answer) shown = news_verdict n s.ticket (public_reason_on name sheet viewer (snapshot_of_number n shown) s) answer
  news_says (Took n) shown = refl
  news_says (Left n) shown = refl
  news_says (Detached n) shown = refl

  news_long : (own : List Item) (shown : List Showing) → AllNews shown → news (long_list name sheet viewer shown own) ≡ messages shown
  news_long [] shown a = news_tells shown a
  news_long (item ∷ own) shown a =
      let n : ℕ = number_after item in
      let more : List Piece = long_list name sheet viewer (showings_up_to (number_after item) shown) own in
      news_append (lines_of_showings (showings_above (number_after item) shown)) (item_pieces name sheet viewer item shown ++ more)
      ∙ ap (λ x. news (lines_of_showings (showings_above (number_after item) shown)) ++ x) (news_append (item_pieces name sheet viewer item shown) more
      ∙ ap (λ x. x ++ news more) (news_says item shown) ∙ news_long own (showings_up_to (number_after item) shown) (up_to_news (number_after item) shown a)
      ∙ sym (news_tells (showings_up_to (number_after item) shown) (up_to_news (number_after item) shown a)))
      ∙ sym (news_append (lines_of_showings (showings_above (number_after item) shown)) (lines_of_showings (showings_up_to (number_after item) shown)))
      ∙ ap news (sym (tells_parts name sheet viewer (number_after item) shown)) ∙ news_tells shown a

  all_news : (sight : List Snap) → AllNews (showings name sheet viewer protocol sight)
  all_news [] = tt
  all_news (s ∷ []) = (refl, tt)
  all_news (s ∷ before ∷ sight) = (by protocol, all_news (before ∷ sight))
    where
      by : (p : Protocol) → is_answer (update_message p sheet before s) ≡ false
      by One = refl
      by Two = refl

-- what the cut leaves is the older part
abbrev Older : List Piece → List Piece → Type 0
Older ps whole = (more : List ServerMsg) × (news whole ≡ more ++ news ps)

abbrev IsNews : State → List Piece → List Piece → Type 0
IsNews Open ps whole = news ps ≡ news whole
IsNews (Ended why) ps whole = Older ps whole
IsNews Closed ps whole = Older ps whole

older_told : (b : Bool) (m : ServerMsg) (ps whole : List Piece) → is_answer m ≡ b → Older ps whole → Older ps (Line m ∷ whole)
older_told true m ps whole e o = (o.0, rw e o.1)
older_told false m ps whole e o = (m ∷ o.0, rw e (ap (λ x. m ∷ x) o.1))

same_older : (ps whole : List Piece) → news ps ≡ news whole → Older ps whole
same_older ps whole h = ([], sym h)

news_told : (b : Bool) (m : ServerMsg) (ps whole : List Piece) → state_of ps ≡ Open → news ps ≡ news whole → IsNews (state_of (line_or_end b m ps)) (line_or_end b m ps) (Line m ∷ whole)
news_told true m ps whole e h = older_told (is_answer m) m ps whole refl (same_older ps whole h)
news_told false m ps whole e h = subst (λ st. IsNews st (Line m ∷ ps) (Line m ∷ whole)) (sym e) (ap (λ x. if is_answer m then x else m ∷ x) h)

news_put : (st : State) (p : Piece) (ps whole : List Piece) → state_of ps ≡ st → IsNews st ps whole → IsNews (state_of (with_piece st p ps)) (with_piece st p ps) (p ∷ whole)
news_put Open (Line m) ps whole e h = news_told (nat_lt most_waiting (waiting_size ps + counted_size m)) m ps whole e h
news_put Open Mark ps whole e h = subst (λ st. IsNews (state_after_take st) (Mark ∷ ps) (Mark ∷ whole)) (sym e) h
news_put Open (End why) ps whole e h = same_older ps whole h
news_put (Ended by) (Line m) ps whole e h = subst (λ st. IsNews st ps (Line m ∷ whole)) (sym e) (older_told (is_answer m) m ps whole refl h)
news_put (Ended by) Mark ps whole e h = subst (λ st. IsNews (state_after_take st) (Mark ∷ ps) (Mark ∷ whole)) (sym e) h
news_put (Ended by) (End why) ps whole e h = subst (λ st. IsNews st ps (End why ∷ whole)) (sym e) h
news_put Closed (Line m) ps whole e h = subst (λ st. IsNews st ps (Line m ∷ whole)) (sym e) (older_told (is_answer m) m ps whole refl h)
news_put Closed Mark ps whole e h = subst (λ st. IsNews (state_after_take st) (Mark ∷ ps) (Mark ∷ whole)) (sym e) h
news_put Closed (End why) ps whole e h = subst (λ st. IsNews st ps (End why ∷ whole)) (sym e) h

news_cut : (ps : List Piece) → IsNews (state_of (cut ps)) (cut ps) ps
news_cut [] = refl
news_cut (p ∷ ps) = news_put (state_of (cut ps)) p (cut ps) ps refl (news_cut ps)

pub tells_sight : (s : Session) → TellsSight (state_of (stream_of s)) s
unfolding stream
tells_sight s = by (state_of (cut (pieces_of s))) (news_cut (pieces_of s))
  where
    all : news (pieces_of s) ≡ messages_of s
    all = news_long s.name s.sheet s.viewer s.protocol s.own (showings s.name s.sheet s.viewer s.protocol s.sight) (all_news s.name s.sheet s.viewer s.protocol s.sight)

    by : (st : State) → IsNews st (cut (pieces_of s)) (pieces_of s) → TellsSight st s
    by Open h = h ∙ all
    by (Ended why) h = (h.0, sym all ∙ h.1)
    by Closed h = (h.0, sym all ∙ h.1)
