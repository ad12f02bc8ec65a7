-- The books and the cores of a hall in which nothing has happened, one after another.
use Rattle.std.proofs.Common.{◌≡◌, ◌<◌, ℕ, zero, suc, ◌+◌, ◌==◌, Bool, true, false, List, [], ◌∷◌, ◌++◌, length, slice_index_or, refl, sym, ap, ◌∙◌, subst, arith}
use Rattle.std.specs.Prelude.{replicate}
use Rattle.std.proofs.lemmas.List.{get_or_append_left, get_or_push, length-replicate, length_push}
use Rattle.any_game.specs.AnyRules.{any_rules}
use Rattle.any_game.specs.GameKind.{GameKind}
use Rattle.any_game.specs.declared.any_g.AnyG.{AnyG}
use Rattle.dice_words.specs.Strip.{live}
use Rattle.game_hall.specs.Core.{Core, fresh}
use Rattle.hall_history.specs.Rooms.{Rooms, history_of}
use Rattle.hall_history.proofs.Rooming.{not_same, same_number}
use Rattle.match_master.specs.Held.{Held, StandsFor}
use Rattle.session_hall.specs.Held.{AreBooks, IsBook, IsTape, tape_of}
use Rattle.session_hall.proofs.Books.{Books}

abbrev pub new_rooms : ℕ → Rooms GameKind
new_rooms rooms = replicate rooms []

none_yet : (rooms room : ℕ) → history_of (new_rooms rooms) room ≡ []
none_yet zero room = refl
none_yet (suc rooms) zero = refl
none_yet (suc rooms) (suc room) = none_yet rooms room

below_last : (r n : ℕ) → r < n + 1 → (n ≡ r → ⊥) → r < n
below_last r n l other = omega (arith, l, other)

pub push_book : (books : Books) (rooms : ℕ) (b : Held GameKind AnyG) → AreBooks books (new_rooms rooms) → b.room ≡ rooms → StandsFor any_rules b []
    → AreBooks (books ++ b ∷ []) (new_rooms (rooms + 1))
push_book books rooms b a n s = record {
  count = length_push books b ∙ ap (λ k. k + 1) counted ∙ sym (length-replicate (rooms + 1) []);
  each = λ r d below. by r d (subst (λ k. r < k) (length-replicate (rooms + 1) []) below) (rooms == r) refl;
}
  where
    counted : length books ≡ rooms
    counted = a.count ∙ length-replicate rooms []

    number_of : (r : ℕ) (x : Held GameKind AnyG) → x.room ≡ r → StandsFor any_rules x [] → IsBook r (new_rooms (rooms + 1)) x
    number_of r x e h = record { number = e; stands = subst (λ k. StandsFor any_rules x k) (sym (none_yet (rooms + 1) r)) h }

    earlier : (r : ℕ) (d : Held GameKind AnyG) → r < rooms → IsBook r (new_rooms (rooms + 1)) (slice_index_or (books ++ b ∷ []) r d)
    earlier r d below =
        let old : IsBook r (new_rooms rooms) (slice_index_or books r d) = a.each r d (subst (λ k. r < k) (sym (length-replicate rooms [])) below) in
        subst (λ x. IsBook r (new_rooms (rooms + 1)) x) (sym (get_or_append_left books (b ∷ []) d r (subst (λ k. r < k) (sym counted) below)))
        (number_of r (slice_index_or books r d) old.number (subst (λ k. StandsFor any_rules (slice_index_or books r d) k) (none_yet rooms r) old.stands))

    by : (r : ℕ) (d : Held GameKind AnyG) → r < rooms + 1 → (found : Bool) → (rooms == r) ≡ found → IsBook r (new_rooms (rooms + 1)) (slice_index_or (books ++ b ∷ []) r d)
    by r d below true e =
        let same : rooms ≡ r = same_number rooms r e in
        subst (λ x. IsBook r (new_rooms (rooms + 1)) x) (sym (get_or_push books b d r (counted ∙ same))) (number_of r b (n ∙ same) s)
    by r d below false e = earlier r d (below_last r rooms below (not_same rooms r e))

-- so many cores, in the order of their passes
pub record CoresTo (passes rooms : ℕ) (cores : List (Core GameKind)) : Type 0 where
  pub count : length cores ≡ passes
  pub each : (pass : ℕ) (d : Core GameKind) → pass < passes → slice_index_or cores pass d ≡ fresh pass rooms

pub no_cores : (rooms : ℕ) → CoresTo 0 rooms []
no_cores rooms = record { count = refl; each = λ pass d below. absurd (omega (arith, below)) }

pub push_core : (passes rooms : ℕ) (cores : List (Core GameKind)) (c : Core GameKind) → CoresTo passes rooms cores → c ≡ fresh passes rooms → CoresTo (passes + 1) rooms (cores ++ c ∷ [])
push_core passes rooms cores c a is_new = record {
  count = length_push cores c ∙ ap (λ k. k + 1) a.count;
  each = λ q d below. by q d below (passes == q) refl;
}
  where
    by : (q : ℕ) (d : Core GameKind) → q < passes + 1 → (found : Bool) → (passes == q) ≡ found → slice_index_or (cores ++ c ∷ []) q d ≡ fresh q rooms
    by q d below true e =
        let same : passes ≡ q = same_number passes q e in
        get_or_push cores c d q (a.count ∙ same) ∙ is_new ∙ ap (λ k. fresh k rooms) same
    by q d below false e =
        let before : q < passes = below_last q passes below (not_same passes q e) in
        get_or_append_left cores (c ∷ []) d q (subst (λ k. q < k) (sym a.count) before) ∙ a.each q d before

pub new_tape : (seed : List ℕ) → IsTape (tape_of seed) 0 (live seed 0 0)
new_tape seed = record { live = refl; gives = λ at. refl; stands_at = refl }
