-- What a game offers a seat is accepted: where a match stands that began as its game begins and accepted only what broke no rule, an offered
-- move breaks none either, as long as the match may accept one more action.
use Rattle.std.specs.Prelude.{◌≡◌, ◌<◌, ◌≤◌, ℕ, List, length, Some, None, Ok}
use Rattle.std.specs.List.{AllByRecursion}
use Rattle.any_game.specs.AnyRules.{any_rules}
use Rattle.any_game.specs.GameKind.{GameKind, HighHand}
use Rattle.any_game.specs.declared.any_g.AnyG.{AnyG}
use Rattle.game_sheet.specs.declared.act.Act.{Act}
use Rattle.game_sheet.specs.declared.act.Act.TheVariants.{Move}
use Rattle.game_sheet.specs.declared.args.Arg.{Arg}
use Rattle.game_sheet.specs.declared.ctx.Ctx.{Ctx}
use Rattle.game_sheet.specs.declared.ids.TheConstants.{MOST_ACTIONS}
use Rattle.game_trait.specs.Rules.{Rules}
use Rattle.phase_flow.specs.Action.{begin}
use Rattle.phase_flow.specs.Reached.{Reached}
use Rattle.reducer.specs.Accepted.{Accepted}
use Rattle.reducer.specs.Fold.{answer, fold}
use Rattle.offered_moves.specs.Admitted.{IsAdmitted, IsPlayed}

-- an action of a seat breaks no rule of a match where it stands: no public one, and none of the game's own
pub record IsAllowed {G : Type 0} (rules : Rules G) (first : Reached G) (accepted : List Accepted) (seat : ℕ) (act : Act) : Type 0 where
  pub admitted : IsAdmitted rules.sheet (fold rules first accepted).ctx seat act
  pub answer : answer rules first accepted seat act ≡ None

-- a High Hand of a deck in a fixed order has a card for each draw of four seats; a shuffled pack always has
abbrev pub HasCards : GameKind → Type 0
HasCards (HighHand (Some deck)) = 8 ≤ length deck.cards
HasCards _ = Unit {0}

-- a match of a game that began as the game begins, and accepted only actions that broke no public rule
pub record IsMatch (kind : GameKind) (seats : ℕ) (seed : List ℕ) (first : Reached AnyG) (accepted : List Accepted) : Type 0 where
  pub cards : HasCards kind
  pub least : (any_rules kind).sheet.min_seats ≤ seats
  pub most : seats ≤ (any_rules kind).sheet.max_seats
  pub begun : begin (any_rules kind) seats seed ≡ Ok first
  pub played : IsPlayed (any_rules kind) first accepted

-- the moves that a seat is offered where a match stands
abbrev pub offers_at : GameKind → Reached AnyG → List Accepted → ℕ → List (ℕ × List Arg)
offers_at kind first accepted seat = (any_rules kind).options (fold (any_rules kind) first accepted).g (fold (any_rules kind) first accepted).ctx seat

abbrev pub OffersAreAllowed : GameKind → Type 0
OffersAreAllowed kind =
    (seats : ℕ) (seed : List ℕ) (first : Reached AnyG) (accepted : List Accepted) → IsMatch kind seats seed first accepted → length accepted < MOST_ACTIONS
    → (seat : ℕ) → seat < seats → AllByRecursion (λ (offer : ℕ × List Arg). IsAllowed (any_rules kind) first accepted seat (Move offer.0 offer.1)) (offers_at kind first accepted seat)

-- a seat is offered the same on what it sees of a state as on the state
abbrev pub OffersAreSeen : GameKind → Type 0
OffersAreSeen kind = (g : AnyG) (ctx : Ctx) (seat : ℕ) → (any_rules kind).options ((any_rules kind).view g ctx (Some seat)) ctx seat ≡ (any_rules kind).options g ctx seat
