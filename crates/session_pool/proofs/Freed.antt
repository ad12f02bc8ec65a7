-- What each call keeps, a call that frees a session's place keeps too.
use Rattle.std.proofs.Common.{◌≡◌, ℕ, Option, Some, None, ap}
use Rattle.any_game.specs.GameKind.{GameKind}
use Rattle.room_history.specs.declared.call.RoomCall.{RoomCall}
use Rattle.room_history.specs.declared.reply.RoomReply.{RoomReply}
use Rattle.session_driver.specs.Calls.{Did, did}
use Rattle.session_driver.specs.Freeing.{Frees, FreesAt}
use Rattle.session_driver.specs.Hearing.{Side}

module _ {S : Type 0} (calls : S → ℕ → Did → S → Type 0) where
  pub kept_freed : {A : Type 0} (f : S → A) → ((s : S) (pass : ℕ) (made : Did) (t : S) → calls s pass made t → f t ≡ f s)
      → (made : RoomCall GameKind) (s : Side S) (told : Option RoomReply) (t : Side S) → Frees calls made s told t → f t.rooms ≡ f s.rooms
  kept_freed f same made s told t h = by s.core.at h
    where
      by : (at : Option ℕ) → FreesAt calls made at s told t → f t.rooms ≡ f s.rooms
      by None (none, stays) = ap (λ (x : Side S). f x.rooms) stays
      by (Some room) (reply, is, called, core) = same s.rooms s.core.pass (did room made reply) t.rooms called
