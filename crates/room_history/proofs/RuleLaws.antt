-- What follows where no rule is broken: the submission is a seat's, and the sheet has what it asks for.
use Rattle.std.proofs.Common.{◌≡◌, ◌==◌, ℕ, Bool, true, false, not, List, [], ◌∷◌, Option, Some, None, refl, subst}
use Rattle.std.proofs.lemmas.Bool.{true≢false}
use Rattle.game_sheet.specs.declared.act.Act.{Act}
use Rattle.game_sheet.specs.declared.ctx.Ctx.{Ctx}
use Rattle.game_sheet.specs.declared.sheet.Sheet.{Sheet}
use Rattle.stage_map.specs.Moves.{may}
use Rattle.wire_json.specs.Resolve.{act_of}
use Rattle.wire_json.specs.declared.asked.Asked.{Asked}
use Rattle.wire_json.specs.declared.reason.Reason.{Reason}
use Rattle.wire_json.specs.declared.reason.Reason.TheVariants.{NoMatch, Unauthorized}
use Rattle.room_history.specs.Rule.{first_broken, has_act, most_actions, public, seat_rules}
use Rattle.std.specs.Option.{option_or, option_map_or}

-- what a submission that breaks no public rule is: a seat's that may act, and of an action that the seat has
pub record IsAdmitted (sheet : Sheet) (ctx : Ctx) (number : ℕ) (viewer : Option ℕ) (a : Asked) : Type 0 where
  pub seat : ℕ
  pub act : Act
  pub viewer_is : viewer ≡ Some seat
  pub act_is : act_of sheet a ≡ Some act
  pub active : may ctx seat ≡ true
  pub below : (number == most_actions) ≡ false
  pub has : has_act sheet ctx seat a (Some act) ≡ true

abbrev NoneHolds : List (Bool × Reason) → Type 0
NoneHolds [] = Unit {0}
NoneHolds (rule ∷ rules) = (rule.0 ≡ false) × NoneHolds rules

apart : (r : Reason) → Some r ≡ None → ⊥
apart r h = cc

none_holds : (rules : List (Bool × Reason)) → first_broken rules ≡ None → NoneHolds rules
none_holds [] h = tt
none_holds ((true, r) ∷ rules) h = absurd (apart r h)
none_holds ((false, r) ∷ rules) h = (refl, none_holds rules h)

known_act : (sheet : Sheet) (ctx : Ctx) (seat : ℕ) (a : Asked) (o : Option Act) → not (has_act sheet ctx seat a o) ≡ false → (act : Act) × (o ≡ Some act)
known_act sheet ctx seat a None h = cc
known_act sheet ctx seat a (Some act) h = (act, refl)

not_false : (b : Bool) → not b ≡ false → b ≡ true
not_false true h = refl
not_false false h = cc

seat_admitted : (sheet : Sheet) (ctx : Ctx) (number seat : ℕ) (a : Asked) (at : ℕ) → NoneHolds (seat_rules sheet ctx number seat a at) → IsAdmitted sheet ctx number (Some seat) a
seat_admitted sheet ctx number seat a at h =
    let found : (act : Act) × (act_of sheet a ≡ Some act) = known_act sheet ctx seat a (act_of sheet a) h.1.1.1.1.0 in
    record {
      seat = seat;
      act = found.0;
      viewer_is = refl;
      act_is = found.1;
      active = not_false (may ctx seat) h.1.1.1.0;
      below = h.1.0;
      has = subst (λ o. has_act sheet ctx seat a o ≡ true) found.1 (not_false (has_act sheet ctx seat a (act_of sheet a)) h.1.1.1.1.0);
    }

spectator_refused : NoneHolds ((true, Unauthorized) ∷ []) → ⊥
spectator_refused h = true≢false h.0

pub public_admits : (sheet : Sheet) (ctx : Ctx) (number : ℕ) (same : Bool) (viewer : Option ℕ) (fits : Bool) (a : Asked) (at : ℕ) → public sheet ctx number same viewer fits a at ≡ None → IsAdmitted sheet ctx number viewer a
unfolding public
public_admits sheet ctx number same None fits a at h =
    absurd (spectator_refused ((none_holds ((not same, NoMatch) ∷ option_map_or (λ seat. (not fits, Unauthorized) ∷ seat_rules sheet ctx number seat a at) None ((true, Unauthorized) ∷ [])) h).1))
public_admits sheet ctx number same (Some seat) fits a at h =
    seat_admitted sheet ctx number seat a at ((none_holds ((not same, NoMatch) ∷ option_map_or (λ seat. (not fits, Unauthorized) ∷ seat_rules sheet ctx number seat a at) (Some seat) ((true, Unauthorized) ∷ [])) h).1.1)

pub or_none : (p g : Option Reason) → option_or p g ≡ None → (p ≡ None) × (g ≡ None)
or_none None g h = (refl, h)
or_none (Some r) g h = absurd (apart r h)
