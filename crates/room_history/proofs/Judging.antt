-- What a session sees is the match that stands, so its submissions are judged by what it sees.
use Rattle.std.proofs.Common.{◌≡◌, ℕ, true, false, List, [], ◌∷◌, Option, Some, None, refl, sym, ap, ◌∙◌, subst}
use Rattle.game_trait.specs.Rules.{Rules}
use Rattle.room_object.specs.Entry.{Entry}
use Rattle.room_history.specs.Judgment.{SeesPresent, IsJudged}
use Rattle.room_history.specs.Match.{Match}
use Rattle.room_history.specs.Room.{room_of, reply, standing, latest_in, latest_session}
use Rattle.room_history.specs.Session.{Session, is_looking, number_in}
use Rattle.room_history.specs.declared.call.RoomCall.{RoomCall}
use Rattle.room_history.proofs.Clauses.{some_session, none_session}
use Rattle.room_history.proofs.Keeps.{Head, Listed, kept}
use Rattle.room_history.proofs.Isolation.{public_found}
use Rattle.room_history.proofs.Replies.{submission_answered}

no_both : false ≡ true → ⊥
no_both h = cc

-- a latest session with those before it
pub record Latest (l : List Session) (s : Session) : Type 0 where
  pub before : List Session
  pub is : l ≡ s ∷ before

pub latest_is : (l : List Session) (s : Session) → latest_in l ≡ Some s → Latest l s
latest_is [] s e = absurd (none_session s e)
latest_is (t ∷ before) s e = record { before = before; is = ap (λ x. x ∷ before) (some_session t s e) }

module _ {X G : Type 0} (rules : X → Rules G) (room : ℕ) where
  pub head_of : (h : List (Entry (RoomCall X))) (pass : ℕ) (s : Session) → (l : Latest ((room_of rules room h).sessions pass) s) → Head rules room (standing rules room h) s l.before
  head_of h pass s l = subst (λ x. Listed rules room (standing rules room h) x) l.is ((kept rules room h).all pass)

  pub sees_present : (h : List (Entry (RoomCall X))) (pass : ℕ) (s : Session) → latest_session rules room h pass ≡ Some s → is_looking s.own ≡ true → SeesPresent rules room h s
  sees_present h pass s e looks =
      let l : Latest ((room_of rules room h).sessions pass) s = latest_is ((room_of rules room h).sessions pass) s e in
      by (standing rules room h) refl (head_of h pass s l)
    where
      by : (st : Option (Match X G)) → standing rules room h ≡ st → {before : List Session} → Head rules room st s before → SeesPresent rules room h s
      by None q k = absurd (no_both (sym k.fits ∙ looks))
      by (Some m) q k = record { m = m; stands = q; number = ap number_in (k.fits looks).top; reason = public_found rules room m s (k.fits looks) }

  pub is_judged : (h : List (Entry (RoomCall X))) (pass : ℕ) (s : Session) → latest_session rules room h pass ≡ Some s → IsJudged rules room h pass s
  unfolding reply
  is_judged h pass s e sub =
      let l : Latest ((room_of rules room h).sessions pass) s = latest_is ((room_of rules room h).sessions pass) s e in
      rw l.is (submission_answered rules room (standing rules room h) s l.before (head_of h pass s l) sub)
