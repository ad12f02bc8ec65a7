-- Whether a pass is attached follows from its own calls, whatever other passes did between them.
use Rattle.std.proofs.Common.{◌≡◌, ℕ, ◌==◌, cond, Bool, true, false, if◌then◌else◌, List, [], ◌∷◌, ◌++◌, refl, ap, sym, ◌∙◌}
use Rattle.game_trait.specs.Rules.{Rules}
use Rattle.match_master.specs.Held.{is_starved}
use Rattle.room_desk.proofs.Histories.{none_own, own_entry}
use Rattle.room_desk.specs.History.{Called, of_pass}
use Rattle.room_history.proofs.Presence.{presence, want_presence}
use Rattle.room_history.specs.Presence.{attached_after, is_attached}
use Rattle.room_history.specs.Room.{reply}
use Rattle.room_history.specs.declared.call.RoomCall.{RoomCall}
use Rattle.room_history.specs.declared.call.RoomCall.TheVariants as call
use Rattle.room_history.specs.declared.reply.RoomReply.{RoomReply}
use Rattle.room_history.specs.declared.reply.RoomReply.TheVariants as told_as
use Rattle.room_object.specs.Entry.{Entry, entry}
use Rattle.hall_history.proofs.Rooming.{is_same}

rest : {C : Type 0} → List C → List C
rest [] = []
rest (x ∷ xs) = xs

rest_of : {C : Type 0} (x : C) (xs ys : List C) → (x ∷ xs) ≡ (x ∷ ys) → xs ≡ ys
unfolding rest
rest_of x xs ys e = ap rest e

unseen_by : {C : Type 0} (b : Bool) (x : C) (xs : List C) → cond b (x ∷ xs) xs ≡ [] → (b ≡ false) × (xs ≡ [])
unseen_by true x xs e = absurd (cc)
unseen_by false x xs e = (refl, e)

after_want : {X : Type 0} (before : Bool) (made : RoomCall X) → attached_after before made told_as.NoMemory ≡ before
after_want before (call.Create game seats seed) = refl
after_want before (call.Join serial seat name key) = refl
after_want before (call.Rename serial seat key name) = refl
after_want before (call.Leave serial seat key) = refl
after_want before (call.Clear serial) = refl
after_want before (call.Look serial) = refl
after_want before (call.Attach serial viewer protocol) = refl
after_want before (call.Submit s) = refl
after_want before call.Take = refl
after_want before call.Detach = refl

module _ {X G : Type 0} (rules : X → Rules G) (room : ℕ) where
  other : (pass : ℕ) (made : RoomCall X) (b : Bool) (h : List (Entry (RoomCall X))) (p : ℕ) → (pass == p) ≡ false
      → is_attached rules room (entry pass made b ∷ h) p ≡ is_attached rules room h p
  other pass made true h p f = want_presence rules room h pass p made
  other pass made false h p f =
      presence rules room h pass p made
      ∙ ap (λ b. if b then attached_after (is_attached rules room h p) made (reply rules room h (entry pass made false)) else is_attached rules room h p) f

  -- entries of others attach and free nobody else
  others : (p : ℕ) (between seen : List (Entry (RoomCall X))) → of_pass p between ≡ [] → is_attached rules room (between ++ seen) p ≡ is_attached rules room seen p
  others p [] seen none = refl
  others p (e ∷ es) seen none =
      let h = unseen_by (e.pass == p) e (of_pass p es) none in
      other e.pass e.call e.starved (es ++ seen) p h.0 ∙ others p es seen h.1

  want_reply : (h : List (Entry (RoomCall X))) (p : ℕ) (made : RoomCall X) → reply rules room h (entry p made true) ≡ told_as.NoMemory
  unfolding reply
  want_reply h p made = refl

  own : (b : Bool) (h : List (Entry (RoomCall X))) (p : ℕ) (made : RoomCall X)
      → is_attached rules room (entry p made b ∷ h) p ≡ attached_after (is_attached rules room h p) made (reply rules room h (entry p made b))
  own true h p made =
      want_presence rules room h p p made
      ∙ sym (after_want (is_attached rules room h p) made)
      ∙ ap (λ r. attached_after (is_attached rules room h p) made r) (sym (want_reply h p made))
  own false h p made =
      presence rules room h p p made
      ∙ ap (λ b. if b then attached_after (is_attached rules room h p) made (reply rules room h (entry p made false)) else is_attached rules room h p) (is_same p)

  module _ (p : ℕ) (made : RoomCall X) (r : RoomReply) (seen after : List (Entry (RoomCall X))) (called : Called (reply rules room) seen (entry p made (is_starved r)) r after) where
    same_own : of_pass p (called.between ++ seen) ≡ of_pass p seen
    same_own =
        let e = entry p made (is_starved r) in
        let h = called.between ++ seen in
        rest_of e (of_pass p h) (of_pass p seen) (sym (own_entry p e h refl) ∙ sym (ap (λ l. of_pass p l) called.ends) ∙ called.own)

    -- the call finds the pass as what it had seen leaves it
    pub found_as_seen : is_attached rules room (called.between ++ seen) p ≡ is_attached rules room seen p
    found_as_seen = others p called.between seen (none_own p (called.between ++ seen) called.between seen refl same_own)

    pub called_attached : is_attached rules room after p ≡ attached_after (is_attached rules room seen p) made r
    called_attached =
        let h = called.between ++ seen in
        ap (λ l. is_attached rules room l p) called.ends
        ∙ own (is_starved r) h p made
        ∙ ap (λ x. attached_after (is_attached rules room h p) made x) (sym called.answered)
        ∙ ap (λ b. attached_after b made r) found_as_seen
