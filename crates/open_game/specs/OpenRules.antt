-- What a game without hooks and secrets means, its laws, and the game that it makes.
use Rattle.std.specs.Prelude.{◌≡◌, ◌<◌, ◌≤◌, ℕ, Bool, IsTrue, List, [], length, Option, IfSome}
use Rattle.std.specs.List.{AllByRecursion}
use Rattle.game_sheet.specs.SheetRules.{broken}
use Rattle.game_sheet.specs.declared.act.Outcome.{Outcome}
use Rattle.game_sheet.specs.declared.args.Arg.{Arg}
use Rattle.game_sheet.specs.declared.sheet.Sheet.{Sheet}
use Rattle.game_trait.specs.Deed.{Barred, Deed, Done, GaveUp, Invalid}
use Rattle.game_trait.specs.InSheet.{OutcomeFits}
use Rattle.game_trait.specs.Lawful.{GivesOwn}
use Rattle.game_trait.specs.Offers.{offered}
use Rattle.game_trait.specs.Queues.{QueuesInSheet}
use Rattle.game_trait.specs.Rules.{Rules, plain}
use Rattle.open_game.specs.Form.{Form}
use Rattle.std.specs.Option.{option_map_or}

pub record OpenRules (G : Type 0) : Type 0 where
  -- the fixed description of the game
  pub sheet : Sheet
  -- the first state, of the number of seats
  pub opening : ℕ → G
  -- the state after a move, of the seat, the place of the move, the arguments and the words left
  pub play : G → ℕ → ℕ → List Arg → List ℕ → Deed G Barred
  -- how the match ends in a state, if it does
  pub end_if : G → Option Outcome
  -- whether moves may be undone
  pub may_undo : Bool
  -- the moves that a seat which may act is offered
  pub offers : G → ℕ → List (ℕ × List Arg)

pub record OpenLaws {G : Type 0} (own : G → Bool) (rules : OpenRules G) : Type 0 where
  pub fits : broken rules.sheet ≡ 0
  pub opening : (seats : ℕ) → rules.sheet.min_seats ≤ seats → seats ≤ rules.sheet.max_seats → IsTrue (own (rules.opening seats))
  pub play : (g : G) (seat id : ℕ) (args : List Arg) (words : List ℕ) → IsTrue (own g) → GivesOwn own (rules.play g seat id args words)
  pub in_sheet : (g : G) (seat id : ℕ) (args : List Arg) (words : List ℕ) → id < length rules.sheet.moves → QueuesInSheet rules.sheet (rules.play g seat id args words)
  pub ends : (g : G) → IsTrue (own g) → IfSome (rules.end_if g) OutcomeFits
  pub offers : (g : G) (seat : ℕ) → AllByRecursion (λ (offer : ℕ × List Arg). offer.0 < length rules.sheet.moves) (rules.offers g seat)

-- the game of these rules, whose states have this form
abbrev pub of_open : {G : Type 0} → Form G → OpenRules G → Rules G
of_open form r = record (plain r.sheet (λ seats words. Done (r.opening seats) words []) (λ g ctx seat id args words. r.play g seat id args words) form.own form.value form.read) {
  end_if = λ g ctx. r.end_if g;
  undoable = λ g ctx id. r.may_undo;
  options = λ g ctx seat. offered ctx seat (r.offers g seat);
}

-- a move that gives a state is made without a word or an event, and another isn't allowed
abbrev pub made : {G : Type 0} → Option G → List ℕ → Deed G Barred
made result words = option_map_or (λ g. Done g words []) result (GaveUp Invalid)
