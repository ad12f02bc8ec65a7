-- The laws of a room over every history.
use Rattle.std.proofs.Common.{◌≡◌, ◌⊎◌, inl, inr, ℕ, ◌==◌, Bool, true, false, if◌then◌else◌, List, [], ◌∷◌, ◌++◌, Option, Some, refl, sym, ap, ◌∙◌, subst, arith}
use Rattle.std.proofs.lemmas.Bool.Decides.{nat_tests}
use Rattle.game_trait.specs.Rules.{Rules}
use Rattle.game_sheet.specs.MatchName.{Name}
use Rattle.game_sheet.specs.declared.sheet.Sheet.{Sheet}
use Rattle.room_object.specs.Entry.{Entry}
use Rattle.player_sight.specs.SnapshotData.{Snap}
use Rattle.wire_json.specs.declared.protocol.Protocol.{Protocol}
use Rattle.room_history.specs.Alike.{AreAlike, AreAlikeButForTakes, SeeAlike}
use Rattle.room_history.specs.Course.{IsFirstPart}
use Rattle.room_history.specs.Item.{Item, Took, without_takes}
use Rattle.room_history.specs.Judgment.{present_snapshot}
use Rattle.room_history.specs.Match.{Match}
use Rattle.room_history.specs.Piece.{Piece, all_lines, lines_to_mark, message_lines, message_lines_to_mark}
use Rattle.room_history.specs.Room.{room_of}
use Rattle.room_history.specs.Session.{Session, handful, is_detached, number_in, stream_of}
use Rattle.room_history.proofs.Names.{after_take}
use Rattle.room_history.specs.Showing.{showings, snapshot_of_number}
use Rattle.room_history.specs.Shown.{snapshot}
use Rattle.room_history.specs.Stream.{long_list, public_reason_on, stream}
use Rattle.room_history.specs.Verdict.{public_reason}
use Rattle.game_sheet.specs.Viewer.{Viewer, seat_of}
use Rattle.room_history.specs.declared.call.RoomCall.{RoomCall}
use Rattle.wire_json.specs.declared.submission.Submission.{Submission}
use Rattle.room_history.proofs.Apart.{OneIsFirst, one_is_first, told_unmarked}
use Rattle.room_history.proofs.Aside.{out_first, first_of_first}
use Rattle.room_history.proofs.Cutting.{parted, hands_rest, told_first}
use Rattle.room_history.proofs.Growing.{same_unmarked}
use Rattle.room_history.proofs.Keeps.{Fits, kept, AllGood, Listed}
use Rattle.room_history.proofs.Sessions.{Good, plus_item, pieces_of}

-- a session of a list
abbrev pub Among : Session → List Session → Type 0
Among s [] = ⊥
Among s (t ∷ l) = (s ≡ t) ⊎ Among s l

-- what a Take adds to what a session was sent is what its reply hands out
pub take_adds : (s : Session) → (after_take s).sent ≡ s.sent ++ handful s
take_adds s = by (is_detached s.own)
  where
    t : Session
    t = record s { sent = s.sent ++ handful s }

    by : (b : Bool) → (if b then record s { sent = s.sent ++ handful s } else plus_item (record s { sent = s.sent ++ handful s }) (Took (number_in s.sight))).sent ≡ s.sent ++ handful s
    by true = refl
    by false = refl

-- all lines of a stream are what was sent and what the next Take hands out, unless a Detach has lost that
pub rest_waits : (s : Session) → Good s → is_detached s.own ≡ false → all_lines (stream_of s) ≡ s.sent ++ handful s
unfolding stream
rest_waits s g c = rw c (parted (stream_of s) ∙ ap (λ x. x ++ rest_of) (sym g.tied) ∙ ap (λ x. s.sent ++ x) (sym (hands_rest (pieces_of s))))
  where
    rest_of : List (List ℕ)
    rest_of = Rattle.room_history.proofs.Cutting.rest (stream_of s)

pub same_streams : (s t : Session) → SeeAlike s t → s.own ≡ t.own → stream_of s ≡ stream_of t
same_streams s t a e = rw (a.name, a.sheet, a.viewer, a.protocol, a.sight, e) refl

module _ {X G : Type 0} (rules : X → Rules G) (room : ℕ) where
  good_among : (l : List Session) (s : Session) → AllGood rules room l → Among s l → Good s
  good_among [] s k a = absurd a
  good_among (t ∷ l) s k (inl e) = subst Good (sym e) k.0
  good_among (t ∷ l) s k (inr a) = good_among l s k.1 a

  good_listed : (st : Option (Match X G)) (l : List Session) (s : Session) → Listed rules room st l → Among s l → Good s
  good_listed st [] s k a = absurd a
  good_listed st (t ∷ l) s k (inl e) = subst Good (sym e) k.good
  good_listed st (t ∷ l) s k (inr a) = good_among l s k.others a

  -- after every history, every session of every pass
  pub good : (h : List (Entry (RoomCall X))) (pass : ℕ) (s : Session) → Among s ((room_of rules room h).sessions pass) → Good s
  good h pass s a = good_listed (room_of rules room h).standing ((room_of rules room h).sessions pass) s ((kept rules room h).all pass) a

  -- what a session was sent is the first part of its stream that its Takes handed out
  pub sent_is : (h : List (Entry (RoomCall X))) (pass : ℕ) (s : Session) → Among s ((room_of rules room h).sessions pass) → s.sent ≡ lines_to_mark (stream_of s)
  sent_is h pass s a = (good h pass s a).tied

module _ {X G Y H : Type 0} (rules : X → Rules G) (others : Y → Rules H) where
  -- isolation: alike sessions were sent the same lines
  pub alike_sent : (room : ℕ) (h : List (Entry (RoomCall X))) (pass : ℕ) (s : Session) → Among s ((room_of rules room h).sessions pass)
      → (other_room : ℕ) (k : List (Entry (RoomCall Y))) (other : ℕ) (t : Session) → Among t ((room_of others other_room k).sessions other) → AreAlike s t → s.sent ≡ t.sent
  alike_sent room h pass s a other_room k other t b al =
      sent_is rules room h pass s a ∙ ap lines_to_mark (same_streams s t al.see al.own) ∙ sym (sent_is others other_room k other t b)

  same_long : (s t : Session) → SeeAlike s t → (own : List Item) → long_list s.name s.sheet s.viewer (showings s.name s.sheet s.viewer s.protocol s.sight) own ≡ long_list t.name t.sheet t.viewer (showings t.name t.sheet t.viewer t.protocol t.sight) own
  same_long s t a own = rw (a.name, a.sheet, a.viewer, a.protocol, a.sight) refl

  told_without : (s : Session) → Good s → message_lines (pieces_of s) ≡ message_lines (long_list s.name s.sheet s.viewer (showings s.name s.sheet s.viewer s.protocol s.sight) (without_takes s.own))
  told_without s g =
      let quiet : List Piece = long_list s.name s.sheet s.viewer (showings s.name s.sheet s.viewer s.protocol s.sight) (without_takes s.own) in
      sym (told_unmarked (pieces_of s)) ∙ ap message_lines (same_unmarked s.name s.sheet s.viewer s.own (showings s.name s.sheet s.viewer s.protocol s.sight) g.order) ∙ told_unmarked quiet

  -- sessions that are alike but for Takes: the lines of one's stream are a first part of the other's
  pub alike_but_for_takes : (s t : Session) → Good s → Good t → AreAlikeButForTakes s t → OneIsFirst (message_lines (stream_of s)) (message_lines (stream_of t))
  unfolding stream
  alike_but_for_takes s t g k al =
      let same : message_lines (pieces_of s) ≡ message_lines (pieces_of t)
      = told_without s g ∙ ap message_lines (same_long s t al.see (without_takes s.own) ∙ ap (λ own. long_list t.name t.sheet t.viewer (showings t.name t.sheet t.viewer t.protocol t.sight) own) al.own) ∙ sym (told_without t k) in
      one_is_first (message_lines (stream_of s)) (message_lines (stream_of t)) (message_lines (pieces_of s)) (told_first (pieces_of s))
      (subst (λ whole. IsFirstPart (message_lines (stream_of t)) whole) (sym same) (told_first (pieces_of t)))

  pub handed_alike : (s t : Session) → Good s → Good t → AreAlikeButForTakes s t → OneIsFirst (message_lines_to_mark (stream_of s)) (message_lines_to_mark (stream_of t))
  unfolding stream
  handed_alike s t g k al =
      let same : message_lines (pieces_of s) ≡ message_lines (pieces_of t)
      = told_without s g ∙ ap message_lines (same_long s t al.see (without_takes s.own) ∙ ap (λ own. long_list t.name t.sheet t.viewer (showings t.name t.sheet t.viewer t.protocol t.sight) own) al.own) ∙ sym (told_without t k) in
      one_is_first (message_lines_to_mark (stream_of s)) (message_lines_to_mark (stream_of t)) (message_lines (pieces_of s)) (first_of_first (message_lines_to_mark (stream_of s)) (message_lines (stream_of s)) (message_lines (pieces_of s)) (out_first (stream_of s)) (told_first (pieces_of s)))
      (subst (λ whole. IsFirstPart (message_lines_to_mark (stream_of t)) whole) (sym same) (first_of_first (message_lines_to_mark (stream_of t)) (message_lines (stream_of t)) (message_lines (pieces_of t)) (out_first (stream_of t)) (told_first (pieces_of t))))

-- the verdict that is found from the snapshot
same_number : (n : ℕ) → (n == n) ≡ true
same_number n = grind (arith, nat_tests)

found_top : (name : Name) (sheet : Sheet) (viewer : Viewer) (protocol : Protocol) (x : Snap) (before : List Snap) → snapshot_of_number x.number (showings name sheet viewer protocol (x ∷ before)) ≡ Some x
found_top name sheet viewer protocol x [] = rw (same_number x.number) refl
found_top name sheet viewer protocol x (y ∷ before) = rw (same_number x.number) refl

module _ {X G : Type 0} (rules : X → Rules G) (room : ℕ) where
  found_present : (m : Match X G) (s : Session) → (f : Fits rules room m s) → present_snapshot s ≡ Some (snapshot rules m (seat_of s.viewer))
  found_present m s f =
      subst (λ l. snapshot_of_number (number_in l) (showings s.name s.sheet s.viewer s.protocol l) ≡ Some (snapshot rules m (seat_of s.viewer))) (sym f.top)
      (found_top s.name s.sheet s.viewer s.protocol (snapshot rules m (seat_of s.viewer)) f.before)

  -- the public rule found from the snapshot, the key and the line is the one found from the whole state
  pub public_found : (m : Match X G) (s : Session) → Fits rules room m s → (sub : Submission) → public_reason_on s.name s.sheet s.viewer (present_snapshot s) sub ≡ public_reason rules room m s.viewer sub
  public_found m s f sub = rw (found_present m s f, f.name, f.sheet) refl
