-- A Take or a Detach, by whether the session is attached and what it is replied.
use Rattle.std.proofs.Common.{◌≡◌, ℕ, true, false, if◌then◌else◌, Some, refl, sym, ap, ◌∙◌, subst}
use Rattle.any_game.specs.GameKind.{GameKind}
use Rattle.game_hall.specs.Core.{Core, released}
use Rattle.room_history.specs.Presence.{attached_after}
use Rattle.room_history.specs.declared.call.RoomCall.{RoomCall}
use Rattle.room_history.specs.declared.reply.RoomReply.{RoomReply}
use Rattle.session_driver.specs.Calls.{Did, did}
use Rattle.session_driver.specs.Freeing.{Frees, FreesAt, freed_by}
use Rattle.session_driver.specs.Hearing.{Side, side}

pub freed_stays : (made : RoomCall GameKind) (told : RoomReply) (core : Core GameKind) → attached_after true made told ≡ true → core ≡ freed_by made told core
freed_stays made told core e = sym (ap (λ b. if b then core else released core) e)

pub freed_goes : (made : RoomCall GameKind) (told : RoomReply) (core d : Core GameKind) → attached_after true made told ≡ false → d ≡ released core → d ≡ freed_by made told core
freed_goes made told core d e is = is ∙ sym (ap (λ b. if b then core else released core) e)

module _ {S : Type 0} (calls : S → ℕ → Did → S → Type 0) where
  pub one_freed : (made : RoomCall GameKind) (s : Side S) (room : ℕ) (told : RoomReply) (after : S) (d : Core GameKind) → Some room ≡ s.core.at
      → (pass : ℕ) → pass ≡ s.core.pass → calls s.rooms pass (did room made told) after → d ≡ freed_by made told s.core → Frees calls made s (Some told) (side after d)
  one_freed made s room told after d at pass is_pass called is =
      subst (λ o. FreesAt calls made o s (Some told) (side after d)) at (told, refl, subst (λ p. calls s.rooms p (did room made told) after) is_pass called, is)
