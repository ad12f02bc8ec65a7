-- How the long list of a session grows: by what one more snapshot tells, and by what one more item says.
use Rattle.std.proofs.Common.{◌≡◌, ◌≤◌, ◌<◌, ℕ, ◌==◌, Bool, true, false, nat_lt, List, [], ◌∷◌, ◌++◌, refl, sym, ap, ◌∙◌, append_assoc, arith}
use Rattle.std.proofs.lemmas.Bool.Decides.{nat_tests}
use Rattle.game_sheet.specs.MatchName.{Name}
use Rattle.game_sheet.specs.declared.sheet.Sheet.{Sheet}
use Rattle.room_history.specs.Item.{Accepted, Detached, GameAnswer, Item, Left, Refused, Starved, Submitted, Took, Unasked, number_after, without_takes}
use Rattle.room_history.specs.Piece.{End, Line, Mark, Piece, without_marks}
use Rattle.room_history.specs.Showing.{Showing, showings_above, showings_up_to, snapshot_of_number}
use Rattle.room_history.specs.Stream.{item_pieces, lines_of_showings, long_list, public_reason_on, verdict_pieces}
use Rattle.game_sheet.specs.Viewer.{Viewer}
use Rattle.wire_json.specs.declared.submission.Submission.{Submission}

-- the newest told number is at most n
abbrev pub TopBy : ℕ → List Showing → Type 0
TopBy n [] = Unit {0}
TopBy n (t ∷ shown) = t.snapshot.number ≤ n

-- the number at which an item fell
abbrev pub number_at : Item → ℕ
number_at (Submitted n s answer) = n
number_at (Took n) = n
number_at (Left n) = n
number_at (Detached n) = n

-- the newest item came to at most n
abbrev pub CameTo : ℕ → List Item → Type 0
CameTo n [] = Unit {0}
CameTo n (item ∷ own) = number_after item ≤ n

-- the items fell one after the other
abbrev pub InOrder : List Item → Type 0
InOrder [] = Unit {0}
InOrder (item ∷ own) = CameTo (number_at item) own × InOrder own

above_test : (n k : ℕ) → n < k → nat_lt n k ≡ true
above_test n k h = grind (arith, nat_tests)

up_to_test : (n k : ℕ) → k ≤ n → nat_lt n k ≡ false
up_to_test n k h = grind (arith, nat_tests)

pub above_none : (n : ℕ) (shown : List Showing) → TopBy n shown → showings_above n shown ≡ []
above_none n [] h = refl
above_none n (t ∷ shown) h = rw (up_to_test n t.snapshot.number h) refl

pub up_to_all : (n : ℕ) (shown : List Showing) → TopBy n shown → showings_up_to n shown ≡ shown
up_to_all n [] h = refl
up_to_all n (t ∷ shown) h = rw (up_to_test n t.snapshot.number h) refl

above_new : (n : ℕ) (t : Showing) (shown : List Showing) → n < t.snapshot.number → showings_above n (t ∷ shown) ≡ t ∷ showings_above n shown
above_new n t shown h = rw (above_test n t.snapshot.number h) refl

up_to_new : (n : ℕ) (t : Showing) (shown : List Showing) → n < t.snapshot.number → showings_up_to n (t ∷ shown) ≡ showings_up_to n shown
up_to_new n t shown h = rw (above_test n t.snapshot.number h) refl

module _ (name : Name) (sheet : Sheet) (viewer : Viewer) where
  abbrev pub list : List Showing → List Item → List Piece
  list shown own = long_list name sheet viewer shown own

  -- one more item, at the present number or beyond
  pub item_grows : (item : Item) (shown : List Showing) (own : List Item) → TopBy (number_after item) shown → list shown (item ∷ own) ≡ item_pieces name sheet viewer item shown ++ list shown own
  item_grows item shown own h = rw (above_none (number_after item) shown h, up_to_all (number_after item) shown h) refl

  other_test : (n k : ℕ) → n < k → (k == n) ≡ false
  other_test n k h = grind (arith, nat_tests)

  pub shown_new : (n : ℕ) (t : Showing) (shown : List Showing) → n < t.snapshot.number → snapshot_of_number n (t ∷ shown) ≡ snapshot_of_number n shown
  shown_new n t shown h = rw (other_test n t.snapshot.number h) refl

  number_reached : (n : ℕ) (s : Submission) (answer : GameAnswer) → n ≤ number_after (Submitted n s answer)
  number_reached n s Starved = omega arith
  number_reached n s Unasked = omega arith
  number_reached n s Accepted = omega arith
  number_reached n s (Refused reason) = omega arith

  -- an item says the same where the snapshot of its number is the same
  says_by : (n : ℕ) (s : Submission) (answer : GameAnswer) (a b : List Showing) → snapshot_of_number n a ≡ snapshot_of_number n b → item_pieces name sheet viewer (Submitted n s answer) a ≡ item_pieces name sheet viewer (Submitted n s answer) b
  says_by n s answer a b e = ap (λ o. verdict_pieces n s.ticket (public_reason_on name sheet viewer o s) answer) e

  says_new : (item : Item) (t : Showing) (shown : List Showing) → number_after item < t.snapshot.number → item_pieces name sheet viewer item (t ∷ shown) ≡ item_pieces name sheet viewer item shown
  says_new (Submitted n s answer) t shown h = says_by n s answer (t ∷ shown) shown (shown_new n t shown (omega (arith, h, number_reached n s answer)))
  says_new (Took n) t shown h = refl
  says_new (Left n) t shown h = refl
  says_new (Detached n) t shown h = refl

  -- one more snapshot, beyond what the items came to
  pub snapshot_grows : (t : Showing) (shown : List Showing) (own : List Item) (n : ℕ) → CameTo n own → n < t.snapshot.number → list (t ∷ shown) own ≡ Line t.message ∷ list shown own
  snapshot_grows t shown [] n c h = refl
  snapshot_grows t shown (item ∷ own) n c h =
      rw (above_new (number_after item) t shown (omega (arith, c, h)), up_to_new (number_after item) t shown (omega (arith, c, h)), says_new item t shown (omega (arith, c, h))) refl

  lower_test : (k n m : ℕ) → k ≤ n → nat_lt n m ≡ true → nat_lt k m ≡ true
  lower_test k n m h e = grind (arith, nat_tests)

  past_test : (k n m : ℕ) → k ≤ n → nat_lt n m ≡ true → (m == k) ≡ false
  past_test k n m h e = grind (arith, nat_tests)

  -- the list parts at each number that the items came to
  above_step : (b : Bool) (k n : ℕ) (t : Showing) (shown : List Showing) → k ≤ n → nat_lt n t.snapshot.number ≡ b → lines_of_showings (showings_above k shown) ≡ lines_of_showings (showings_above n shown) ++ lines_of_showings (showings_above k (showings_up_to n shown))
      → lines_of_showings (showings_above k (t ∷ shown)) ≡ lines_of_showings (showings_above n (t ∷ shown)) ++ lines_of_showings (showings_above k (showings_up_to n (t ∷ shown)))
  above_step true k n t shown h e ih = rw (e, lower_test k n t.snapshot.number h e) (ap (λ x. Line t.message ∷ x) ih)
  above_step false k n t shown h e ih = rw e refl

  above_parts : (k n : ℕ) (shown : List Showing) → k ≤ n → lines_of_showings (showings_above k shown) ≡ lines_of_showings (showings_above n shown) ++ lines_of_showings (showings_above k (showings_up_to n shown))
  above_parts k n [] h = refl
  above_parts k n (t ∷ shown) h = above_step (nat_lt n t.snapshot.number) k n t shown h refl (above_parts k n shown h)

  up_to_step : (b : Bool) (k n : ℕ) (t : Showing) (shown : List Showing) → k ≤ n → nat_lt n t.snapshot.number ≡ b → showings_up_to k (showings_up_to n shown) ≡ showings_up_to k shown → showings_up_to k (showings_up_to n (t ∷ shown)) ≡ showings_up_to k (t ∷ shown)
  up_to_step true k n t shown h e ih = rw (e, lower_test k n t.snapshot.number h e) ih
  up_to_step false k n t shown h e ih = rw e refl

  up_to_twice : (k n : ℕ) (shown : List Showing) → k ≤ n → showings_up_to k (showings_up_to n shown) ≡ showings_up_to k shown
  up_to_twice k n [] h = refl
  up_to_twice k n (t ∷ shown) h = up_to_step (nat_lt n t.snapshot.number) k n t shown h refl (up_to_twice k n shown h)

  found_step : (b : Bool) (k n : ℕ) (t : Showing) (shown : List Showing) → k ≤ n → nat_lt n t.snapshot.number ≡ b → snapshot_of_number k (showings_up_to n shown) ≡ snapshot_of_number k shown → snapshot_of_number k (showings_up_to n (t ∷ shown)) ≡ snapshot_of_number k (t ∷ shown)
  found_step true k n t shown h e ih = rw (e, past_test k n t.snapshot.number h e) ih
  found_step false k n t shown h e ih = rw e refl

  found_below : (k n : ℕ) (shown : List Showing) → k ≤ n → snapshot_of_number k (showings_up_to n shown) ≡ snapshot_of_number k shown
  found_below k n [] h = refl
  found_below k n (t ∷ shown) h = found_step (nat_lt n t.snapshot.number) k n t shown h refl (found_below k n shown h)

  says_below : (item : Item) (n : ℕ) (shown : List Showing) → number_after item ≤ n → item_pieces name sheet viewer item (showings_up_to n shown) ≡ item_pieces name sheet viewer item shown
  says_below (Submitted k s answer) n shown h = says_by k s answer (showings_up_to n shown) shown (found_below k n shown (omega (arith, h, number_reached k s answer)))
  says_below (Took k) n shown h = refl
  says_below (Left k) n shown h = refl
  says_below (Detached k) n shown h = refl

  pub tells_parts : (n : ℕ) (shown : List Showing) → lines_of_showings shown ≡ lines_of_showings (showings_above n shown) ++ lines_of_showings (showings_up_to n shown)
  tells_parts n [] = refl
  tells_parts n (t ∷ shown) = tells_step (nat_lt n t.snapshot.number) n t shown refl (tells_parts n shown)
    where
      tells_step : (b : Bool) (n : ℕ) (t : Showing) (shown : List Showing) → nat_lt n t.snapshot.number ≡ b → lines_of_showings shown ≡ lines_of_showings (showings_above n shown) ++ lines_of_showings (showings_up_to n shown)
          → lines_of_showings (t ∷ shown) ≡ lines_of_showings (showings_above n (t ∷ shown)) ++ lines_of_showings (showings_up_to n (t ∷ shown))
      tells_step true n t shown e ih = rw e (ap (λ x. Line t.message ∷ x) ih)
      tells_step false n t shown e ih = rw e refl

  pub parts : (n : ℕ) (shown : List Showing) (own : List Item) → CameTo n own → list shown own ≡ lines_of_showings (showings_above n shown) ++ list (showings_up_to n shown) own
  parts n shown [] c = tells_parts n shown
  parts n shown (item ∷ own) c =
      rw (up_to_twice (number_after item) n shown c, says_below item n shown c)
      (ap (λ x. x ++ (item_pieces name sheet viewer item shown ++ list (showings_up_to (number_after item) shown) own)) (above_parts (number_after item) n shown c)
      ∙ append_assoc (lines_of_showings (showings_above n shown)) (lines_of_showings (showings_above (number_after item) (showings_up_to n shown))) (item_pieces name sheet viewer item shown ++ list (showings_up_to (number_after item) shown) own))

  pub unmarked_append : (a b : List Piece) → without_marks (a ++ b) ≡ without_marks a ++ without_marks b
  unmarked_append [] b = refl
  unmarked_append (Line m ∷ a) b = ap (λ x. Line m ∷ x) (unmarked_append a b)
  unmarked_append (Mark ∷ a) b = unmarked_append a b
  unmarked_append (End why ∷ a) b = ap (λ x. End why ∷ x) (unmarked_append a b)

  same_after : (a s b c : List Piece) → without_marks b ≡ without_marks c → without_marks (a ++ (s ++ b)) ≡ without_marks (a ++ (s ++ c))
  same_after a s b c h =
      unmarked_append a (s ++ b) ∙ ap (λ x. without_marks a ++ x) (unmarked_append s b ∙ ap (λ x. without_marks s ++ x) h ∙ sym (unmarked_append s c)) ∙ sym (unmarked_append a (s ++ c))

  -- the pieces are the same without the Takes, but for the marks
  pub same_unmarked : (own : List Item) (shown : List Showing) → InOrder own → without_marks (list shown own) ≡ without_marks (list shown (without_takes own))
  same_unmarked [] shown o = refl
  same_unmarked (Took n ∷ own) shown o =
      unmarked_append (lines_of_showings (showings_above n shown)) (Mark ∷ list (showings_up_to n shown) own) ∙ sym (unmarked_append (lines_of_showings (showings_above n shown)) (list (showings_up_to n shown) own))
      ∙ ap without_marks (sym (parts n shown own o.0)) ∙ same_unmarked own shown o.1
  same_unmarked (Submitted n s answer ∷ own) shown o =
      same_after (lines_of_showings (showings_above (number_after (Submitted n s answer)) shown)) (item_pieces name sheet viewer (Submitted n s answer) shown) (list (showings_up_to (number_after (Submitted n s answer)) shown) own)
      (list (showings_up_to (number_after (Submitted n s answer)) shown) (without_takes own)) (same_unmarked own (showings_up_to (number_after (Submitted n s answer)) shown) o.1)
  same_unmarked (Left n ∷ own) shown o =
      same_after (lines_of_showings (showings_above n shown)) (item_pieces name sheet viewer (Left n) shown) (list (showings_up_to n shown) own) (list (showings_up_to n shown) (without_takes own)) (same_unmarked own (showings_up_to n shown) o.1)
  same_unmarked (Detached n ∷ own) shown o =
      same_after (lines_of_showings (showings_above n shown)) [] (list (showings_up_to n shown) own) (list (showings_up_to n shown) (without_takes own)) (same_unmarked own (showings_up_to n shown) o.1)
