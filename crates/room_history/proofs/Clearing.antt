-- What a Clear makes of a room, by the match that is named.
use Rattle.std.proofs.Common.{◌≡◌, ◌≢◌, ◌==◌, ℕ, Bool, true, false, if◌then◌else◌, List, Option, Some, None, Result, Ok, Err, refl, ap, ◌∙◌}
use Rattle.game_trait.specs.Rules.{Rules}
use Rattle.room_object.specs.Entry.{Entry, entry}
use Rattle.room_history.specs.Does.{Room, with_cleared}
use Rattle.room_history.specs.Held.{attachment_after_clear}
use Rattle.room_history.specs.Match.{Match}
use Rattle.room_history.specs.Outbox.{attachment_of}
use Rattle.room_history.specs.Removal.{ClearsMatch, ClearsNothing}
use Rattle.room_history.specs.Reply.{named_match, reply_by}
use Rattle.room_history.specs.Room.{reply as reply_after, room_of, standing}
use Rattle.room_history.specs.declared.call.RoomCall.{RoomCall}
use Rattle.room_history.specs.declared.call.RoomCall.TheVariants.{Clear}
use Rattle.room_history.specs.declared.reply.RoomReply.{RoomReply}
use Rattle.room_history.specs.declared.reply.RoomReply.TheVariants as reply
use Rattle.room_history.proofs.Attachments.{attachment_step}
use Rattle.room_history.proofs.Responses.{same_number}

module _ {X G : Type 0} where
  abbrev said : Result (Match X G) RoomReply → RoomReply
  said = reply_by (λ (m : Match X G). reply.Cleared)

  named_is : (st : Option (Match X G)) (m : Match X G) → st ≡ Some m → named_match st m.serial ≡ Ok m
  named_is st m e = rw (e, same_number m.serial) refl

  -- a Clear that isn't replied so finds no such match
  abbrev IsMissing : Result (Match X G) RoomReply → Type 0
  IsMissing (Ok m) = Unit {0}
  IsMissing (Err why) = why ≡ reply.NoMatch

  named_missing : (st : Option (Match X G)) (serial : ℕ) → IsMissing (named_match st serial)
  named_missing None serial = refl
  named_missing (Some m) serial = by (m.serial == serial)
    where
      by : (b : Bool) → IsMissing (if b then Ok m else Err reply.NoMatch)
      by true = tt
      by false = refl

  refused_by : (r : Room X G) (result : Result (Match X G) RoomReply) → IsMissing result → said result ≢ reply.Cleared → (said result ≡ reply.NoMatch) × (with_cleared r result ≡ r)
  refused_by r (Ok m) h n = absurd (n refl)
  refused_by r (Err why) h n = (h, refl)

module _ {X G : Type 0} (rules : X → Rules G) (room : ℕ) (h : List (Entry (RoomCall X))) (pass : ℕ) where
  reply_is : (serial : ℕ) → reply_after rules room h (entry pass (Clear serial) false) ≡ said (named_match (standing rules room h) serial)
  unfolding reply_after
  reply_is serial = refl

  pub clears_match : (m : Match X G) → standing rules room h ≡ Some m → ClearsMatch rules room h pass m.serial
  clears_match m e =
      let is : named_match (standing rules room h) m.serial ≡ Ok m = named_is (standing rules room h) m e in
      record {
        replied = reply_is m.serial ∙ ap said is;
        standing = ap (λ x. (with_cleared (room_of rules room h) x).standing) is;
        serials = ap (λ x. (with_cleared (room_of rules room h) x).serials) is;
        ended = λ q. attachment_step rules room h pass q (Clear m.serial) ∙ ap (λ x. attachment_after_clear x (attachment_of ((room_of rules room h).sessions q))) is;
      }

  pub clears_nothing : (serial : ℕ) → reply_after rules room h (entry pass (Clear serial) false) ≢ reply.Cleared → ClearsNothing rules room h pass serial
  clears_nothing serial n =
      let by = refused_by (room_of rules room h) (named_match (standing rules room h) serial) (named_missing (standing rules room h) serial) (λ e. n (reply_is serial ∙ e)) in
      record { replied = reply_is serial ∙ by.0; same = by.1 }
