-- A call in one of the rooms, which leaves the others as they were.
use Rattle.std.proofs.Common.{◌≡◌, ◌<◌, ◌≤◌, ◌∷◌, ℕ, ◌==◌, Bool, true, false, List, length, slice_index_or, slice_set, refl, sym, ◌∙◌, subst, arith}
use Rattle.std.proofs.lemmas.Bool.Decides.{nat_tests}
use Rattle.std.proofs.lemmas.List.{get_or-set_same, get_or-set_other, length-set}
use Rattle.any_game.specs.AnyRules.{any_rules}
use Rattle.any_game.specs.GameKind.{GameKind}
use Rattle.game_hall.specs.Kept.{IsNamed}
use Rattle.match_master.specs.Held.{is_starved, may_starve}
use Rattle.room_history.specs.Room.{reply}
use Rattle.room_history.specs.declared.call.RoomCall.{RoomCall}
use Rattle.room_history.specs.declared.reply.RoomReply.{RoomReply}
use Rattle.room_object.specs.Entry.{entry}
use Rattle.game_hall.proofs.Replies.{named_by}
use Rattle.session_driver.specs.Calls.{Did, did}
use Rattle.session_driver.specs.OfBooks.{AreInOrder, CallsBook, RoomCalls}

same_number : (m n : ℕ) → (m == n) ≡ true → m ≡ n
same_number m n h = grind (arith, nat_tests)

not_same : (m n : ℕ) → (m == n) ≡ false → m ≡ n → ⊥
not_same m n e f = grind (arith, nat_tests)

module _ {B : Type 0} (number : B → ℕ) (stands_for : B → RoomCalls → Type 0) (whole : B → Bool) where
  pub one_call : (books : List B) (room : ℕ) (old book : B) (pass : ℕ) (made : RoomCall GameKind) (told : RoomReply) → room < length books → old ≡ slice_index_or books room old → number book ≡ number old
      → ((h : RoomCalls) → stands_for old h → told ≡ reply any_rules (number old) h (entry pass made (is_starved told)))
      → ((h : RoomCalls) → stands_for old h → stands_for book (entry pass made (is_starved told) ∷ h))
      → (whole book ≡ true → is_starved told ≡ true → may_starve made ≡ true) → (whole book ≡ true → whole old ≡ true)
      → CallsBook number stands_for whole books pass (did room made told) (slice_set books room book)
  one_call books room old book pass made told here is same answered stands fed stopped =
      record { old = old; book = book; here = here; is = is; room = same; told = answered; stands = stands; fed = fed; stopped = stopped; set = refl }

  pub as_many_books : (books : List B) (room : ℕ) (book : B) → length books ≤ 255 → length (slice_set books room book) ≤ 255
  as_many_books books room book few = subst (λ n. n ≤ 255) (sym (length-set books room book)) few

  abbrev IsInOrder : ℕ → B → Type 0
  IsInOrder room b = (number b ≡ room) × ((h : RoomCalls) × stands_for b h)

  pub stands_there : (books : List B) → AreInOrder number stands_for books → (room : ℕ) (old : B) → room < length books → old ≡ slice_index_or books room old → (h : RoomCalls) × stands_for old h
  stands_there books a room old here is = (subst (λ x. IsInOrder room x) (sym is) (a room old here)).1

  there : (books : List B) (pass : ℕ) (made : Did) (after : List B) → AreInOrder number stands_for books → (c : CallsBook number stands_for whole books pass made after) → IsInOrder made.room c.old
  there books pass made after a c = subst (λ x. IsInOrder made.room x) (sym c.is) (a made.room c.old c.here)

  pub keeps_order : (books : List B) (pass : ℕ) (made : Did) (after : List B) → AreInOrder number stands_for books → CallsBook number stands_for whole books pass made after
      → AreInOrder number stands_for after
  keeps_order books pass made after a c = subst (λ xs. AreInOrder number stands_for xs) (sym c.set) (λ room d low. by room d low (made.room == room) refl)
    where
      old : IsInOrder made.room c.old
      old = there books pass made after a c

      new : IsInOrder made.room c.book
      new = (c.room ∙ old.0, (entry pass made.call (is_starved made.reply) ∷ old.1.0, c.stands old.1.0 old.1.1))

      by : (room : ℕ) (d : B) → room < length (slice_set books made.room c.book) → (same : Bool) → (made.room == room) ≡ same
          → IsInOrder room (slice_index_or (slice_set books made.room c.book) room d)
      by room d low true e =
          subst (λ r. IsInOrder r (slice_index_or (slice_set books made.room c.book) r d)) (same_number made.room room e)
          (subst (λ x. IsInOrder made.room x) (sym (get_or-set_same books made.room c.book d c.here)) new)
      by room d low false e =
          subst (λ x. IsInOrder room x) (sym (get_or-set_other books made.room room c.book d (λ same. not_same made.room room e (sym same))))
          (a room d (subst (λ k. room < k) (length-set books made.room c.book) low))

  pub named_call : (books : List B) (pass : ℕ) (made : Did) (after : List B) → AreInOrder number stands_for books → CallsBook number stands_for whole books pass made after → IsNamed made.reply
  named_call books pass made after a c =
      let old : IsInOrder made.room c.old = there books pass made after a c in
      named_by any_rules (number c.old) old.1.0 (entry pass made.call (is_starved made.reply)) made.reply (c.told old.1.0 old.1.1)
