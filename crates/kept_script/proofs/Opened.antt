-- A room that was opened, and the hall of its script.
use Rattle.std.proofs.Common.{◌≡◌, ◌≤◌, ℕ, Bool, List, [], ◌∷◌, replicate, slice_index_or, None, refl, sym, ◌∙◌, subst, arith}
use Rattle.any_game.specs.GameKind.{GameKind}
use Rattle.std.specs.Prelude.{Vec}
use Rattle.std.specs.declared.alloc.Global.{Global}
use Rattle.dice_words.specs.Strip.{Strip, live}
use Rattle.game_hall.specs.Core.{Core}
use Rattle.hall_history.specs.Hall.{new_hall}
use Rattle.hall_history.specs.Tapes.{hall_tape}
use Rattle.session_hall.specs.Held.{AreBooks, AreCores, IsBook, IsTape, StandsForHall}
use Rattle.session_hall.proofs.Beginning.{new_tape}
use Rattle.kept_room.specs.Journal.{Calls}
use Rattle.kept_room.specs.Opened.{IsOpenedRoom}
use Rattle.kept_room.specs.declared.room.KeptRoom.{KeptRoom}
use Rattle.kept_script.specs.KeptDoing.{IsKept}
use Rattle.kept_script.specs.KeptPlay.{hall_of, opened_hall, opened_state}
use Rattle.kept_script.specs.declared.hall.KeptHall.{KeptHall}
use Rattle.kept_script.proofs.OneCall.{zero_of}

the_tape : IsTape hall_tape 0 (live (replicate 32 0) 0 0)
unfolding hall_tape
the_tape = new_tape (replicate 32 0)

-- the hall of a room that was opened, over whose sessions nothing has happened
module _ {D : Type 0} (is_told : D → Type 0) (seen : D → List ℕ) (may_leave : D → List ℕ → Type 0) (moment : D → ℕ) (left_since : D → ℕ → List ℕ → Type 0) (faults : D → ℕ) where
  abbrev WasOpened : D → Calls → Bool → KeptRoom D → Type 0
  WasOpened start first told r = IsOpenedRoom is_told seen may_leave moment left_since faults 0 start first told r

  module _ (start : D) (first : Calls) (told : Bool) (held : KeptHall D) (o : WasOpened start first told held.room) (cores : AreCores held.cores.items (new_hall 1))
      (tape_is : held.tape ≡ live (replicate 32 0) 0 0) (seed_is : held.seed ≡ None) where
    own_book : IsBook 0 (first ∷ []) held.room.object.book
    own_book = record { number = o.stands.same ∙ o.numbered; stands = o.stands.stands }

    books : AreBooks (held.room.object.book ∷ []) (first ∷ [])
    books = record {
      count = refl;
      each = λ room d low. subst (λ (n : ℕ). IsBook n (first ∷ []) (slice_index_or (held.room.object.book ∷ []) n d)) (sym (zero_of room low)) own_book;
    }

    one : 1 ≤ 1
    one = omega arith

    few : 1 ≤ 64
    few = omega arith

    hall_stands : StandsForHall hall_tape (hall_of held) (opened_hall first)
    hall_stands = record {
      least = one;
      most = few;
      books_held = books;
      cores_held = record { count = cores.count; each = cores.each };
      tape_held = subst (λ (strip : Strip). IsTape hall_tape 0 strip) (sym tape_is) the_tape;
      seed_held = seed_is;
    }

    pub kept_first : IsKept is_told seen may_leave moment left_since faults held (opened_state start first told)
    kept_first = record { made = []; is = refl; stands = hall_stands; numbered = o.numbered; whole = o.whole; journal = o.journal }

  pub kept_hall : (start : D) (first : Calls) (told : Bool) (held : KeptHall D) (room : KeptRoom D) (cores : Vec (Core GameKind) Global) → held.room ≡ room → held.cores ≡ cores → AreCores cores.items (new_hall 1)
      → held.tape ≡ live (replicate 32 0) 0 0 → held.seed ≡ None → WasOpened start first told room → IsKept is_told seen may_leave moment left_since faults held (opened_state start first told)
  kept_hall start first told held room cores room_is cores_are are tape_is seed_is o =
      kept_first start first told held (subst (λ (r : KeptRoom D). WasOpened start first told r) (sym room_is) o)
      (subst (λ (v : Vec (Core GameKind) Global). AreCores v.items (new_hall 1)) (sym cores_are) are) tape_is seed_is
