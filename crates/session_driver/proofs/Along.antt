-- What is known of rooms by one view of them is known by another that it gives.
use Rattle.std.proofs.Common.{◌≡◌, ℕ, true, false, if◌then◌else◌, inl, inr, List, [], ◌∷◌, Option, Some, None, refl, ap, sym, ◌∙◌}
use Rattle.any_game.specs.GameKind.{GameKind}
use Rattle.game_hall.specs.Core.{Core, is_again, starved}
use Rattle.game_hall.specs.Words.{drawn, next_action, seed_left_by, words_drawn_by}
use Rattle.wire_json.specs.ClientReading.{client_read}
use Rattle.room_history.specs.declared.call.RoomCall.{RoomCall}
use Rattle.room_history.specs.declared.reply.RoomReply.{RoomReply}
use Rattle.session_driver.specs.Calls.{Did, did}
use Rattle.session_driver.specs.Freeing.{Frees, FreesAt}
use Rattle.session_driver.specs.Hearing.{Draws, Hears, HearsLine, Makes, RunsOut, Side, draws, side}
use Rattle.session_driver.specs.declared.tally.Tally.{Tally}

module _ {S T : Type 0} (calls : S → ℕ → Did → S → Type 0) (there : T → ℕ → Did → T → Type 0) (f : S → T)
    (same : (s : S) (pass : ℕ) (made : Did) (t : S) → calls s pass made t → there (f s) pass made (f t)) where
  abbrev by_view : Side S → Side T
  by_view s = side (f s.rooms) s.core

  pub makes_by : (s : Side S) (all : List Did) (t : Side S) → Makes calls s all t → Makes there (side (f s.rooms) s.core) all (side (f t.rooms) t.core)
  makes_by s [] t e = ap by_view e
  makes_by s (made ∷ earlier) t (m, before, (wanted, called, heard_it)) =
      (by_view m, makes_by s earlier m before, (wanted, same m.rooms m.core.pass made t.rooms called, heard_it))

  runs_by : (s : Side S) (tally : Tally) (t : Side S) → RunsOut calls s tally t → RunsOut there (side (f s.rooms) s.core) tally (side (f t.rooms) t.core)
  runs_by s tally t r = record {
    n = r.n;
    most = r.most;
    makes = record { all = r.makes.all; made = makes_by s r.makes.all t r.makes.made; many = r.makes.many; accepted = r.makes.accepted; refused = r.makes.refused };
    done = r.done;
    closed = r.closed;
  }

  pub hears_by : (line : List ℕ) (s : Side S) (before : Draws) (t : Side S) (after : Draws) (tally : Tally) → Hears calls line s before t after tally
      → Hears there line (side (f s.rooms) s.core) before (side (f t.rooms) t.core) after tally
  hears_by line s before t after tally h = record {
    core = h.core;
    left = h.left;
    line_heard = h.line_heard;
    runs = runs_by (side s.rooms h.core) tally t h.runs;
    draws_after = h.draws_after;
  }

  frees_at_by : (made : RoomCall GameKind) (at : Option ℕ) (s : Side S) (told : Option RoomReply) (t : Side S) → FreesAt calls made at s told t
      → FreesAt there made at (side (f s.rooms) s.core) told (side (f t.rooms) t.core)
  frees_at_by made None s told t (none, stays) = (none, ap by_view stays)
  frees_at_by made (Some room) s told t (reply, is, called, core) = (reply, is, same s.rooms s.core.pass (did room made reply) t.rooms called, core)

  pub frees_by : (made : RoomCall GameKind) (s : Side S) (told : Option RoomReply) (t : Side S) → Frees calls made s told t → Frees there made (side (f s.rooms) s.core) told (side (f t.rooms) t.core)
  frees_by made s told t h = frees_at_by made s.core.at s told t h

-- with no call to make none was made
module _ {S : Type 0} (calls : S → ℕ → Did → S → Type 0) where
  pub none_made : (s : Side S) (all : List Did) (t : Side S) → s.core.call ≡ None → Makes calls s all t → t ≡ s
  none_made s [] t none e = e
  none_made s (made ∷ earlier) t none (m, before, (wanted, called, heard_it)) =
      let stays : m ≡ s = none_made s earlier m none before in
      absurd (none_some (made.room, made.call) (sym none ∙ ap (λ (x : Side S). x.core.call) (sym stays) ∙ wanted))
    where
      none_some : {A : Type 0} (x : A) → None ≡ Some x → ⊥
      none_some x e = cc

  pub none_called : (s : Side S) (all : List Did) (t : Side S) → s.core.call ≡ None → Makes calls s all t → all ≡ []
  none_called s [] t none e = refl
  none_called s (made ∷ earlier) t none (m, before, (wanted, called, heard_it)) =
      let stays : m ≡ s = none_made s earlier m none before in
      absurd (none_is (made.room, made.call) (sym none ∙ ap (λ (x : Side S). x.core.call) (sym stays) ∙ wanted))
    where
      none_is : {A : Type 0} (x : A) → None ≡ Some x → ⊥
      none_is x e = cc

  -- what no call changes is as it was
  pub kept_along : {A : Type 0} (f : S → A) → ((s : S) (pass : ℕ) (made : Did) (t : S) → calls s pass made t → f t ≡ f s) → (s : Side S) (all : List Did) (t : Side S) → Makes calls s all t → f t.rooms ≡ f s.rooms
  kept_along f same s [] t e = ap (λ (x : Side S). f x.rooms) e
  kept_along f same s (made ∷ earlier) t (m, before, (wanted, called, heard_it)) = same m.rooms m.core.pass made t.rooms called ∙ kept_along f same s earlier m before

  -- what was drawn where the line isn't answered `again`
  pub drawn_served : (line : List ℕ) (s : Side S) (before : Draws) (t : Side S) (after : Draws) (tally : Tally) → Hears calls line s before t after tally → is_again t.core.said ≡ false
      → after ≡ draws (drawn (words_drawn_by (client_read line) before.seed) (next_action before.words)) (seed_left_by (client_read line) before.seed)
  drawn_served line s before t after tally k served = k.draws_after ∙ ap (λ b. if b then draws (next_action before.words) before.seed else k.left) served ∙ by k.line_heard
    where
      false_true : {A : Type 0} → true ≡ false → A
      false_true e = absurd (cc)

      by : HearsLine line s.core before k.core k.left → k.left ≡ draws (drawn (words_drawn_by (client_read line) before.seed) (next_action before.words)) (seed_left_by (client_read line) before.seed)
      by (inl e) = e.1
      by (inr e) =
          let none : k.core.call ≡ None = ap (λ (y : Core GameKind). y.call) e.0 in
          let stays : t ≡ side s.rooms k.core = none_made (side s.rooms k.core) k.runs.makes.all t none k.runs.makes.made in
          let is : t.core ≡ starved s.core None = ap (λ (y : Side S). y.core) stays ∙ e.0 in
          false_true (sym (ap (λ (y : Core GameKind). is_again y.said) is) ∙ served)
