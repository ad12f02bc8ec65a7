-- The laws of a game. Its sheet fits; all that it does keeps its own states; who sees a view of a state sees all that is in it; an own
-- state is written as an object that can be written as text, which reads back as it, and nothing else in canonical form reads as it;
-- it ends with a seat that can be there; the moves that are offered are the sheet's, and none is offered once the match has ended or
-- to a seat that may not act.
use Rattle.std.specs.Prelude.{◌≡◌, ◌<◌, ◌≤◌, ℕ, Bool, false, IsTrue, List, [], length, Option, Some, IsSome}
use Rattle.std.specs.List.{AllByRecursion}
use Rattle.game_sheet.specs.SheetFits.{SheetFits}
use Rattle.game_sheet.specs.declared.act.Outcome.{Outcome}
use Rattle.game_sheet.specs.declared.args.Arg.{Arg}
use Rattle.game_sheet.specs.declared.ctx.Ctx.{Ctx}
use Rattle.game_trait.specs.Deed.{Deed, Done, GaveUp}
use Rattle.game_trait.specs.InSheet.{OutcomeFits}
use Rattle.game_trait.specs.Offers.{may_be_offered}
use Rattle.game_trait.specs.Rules.{Rules}
use Rattle.json_tree.specs.Canonical.{IsCanonical}
use Rattle.json_tree.specs.Writable.{IsWritable}
use Rattle.serde_json.specs.Data.{Data}
use Rattle.serde_json.specs.Find.{as_object}

-- the state that is made, if one is, is among these states
abbrev pub GivesOwn : {G E : Type 0} → (G → Bool) → Deed G E → Type 0
GivesOwn own (Done g left queued) = IsTrue (own g)
GivesOwn own (GaveUp why) = Unit {0}

pub record Lawful {G : Type 0} (rules : Rules G) : Type 0 where
  pub fits : SheetFits rules.sheet
  pub setup : (seats : ℕ) (words : List ℕ) → rules.sheet.min_seats ≤ seats → seats ≤ rules.sheet.max_seats → GivesOwn rules.own (rules.setup seats words)
  pub play : (g : G) (ctx : Ctx) (seat id : ℕ) (args : List Arg) (words : List ℕ) → IsTrue (rules.own g) → GivesOwn rules.own (rules.play g ctx seat id args words)
  pub on_move : (g : G) (ctx : Ctx) (seat : ℕ) (words : List ℕ) → IsTrue (rules.own g) → GivesOwn rules.own (rules.on_move g ctx seat words)
  pub turn_begin : (g : G) (ctx : Ctx) (words : List ℕ) → IsTrue (rules.own g) → GivesOwn rules.own (rules.turn_begin g ctx words)
  pub turn_end : (g : G) (ctx : Ctx) (words : List ℕ) → IsTrue (rules.own g) → GivesOwn rules.own (rules.turn_end g ctx words)
  pub phase_begin : (g : G) (ctx : Ctx) (phase : ℕ) (words : List ℕ) → IsTrue (rules.own g) → GivesOwn rules.own (rules.phase_begin g ctx phase words)
  pub phase_end : (g : G) (ctx : Ctx) (phase : ℕ) (words : List ℕ) → IsTrue (rules.own g) → GivesOwn rules.own (rules.phase_end g ctx phase words)
  pub game_end : (g : G) (ctx : Ctx) (words : List ℕ) → IsTrue (rules.own g) → GivesOwn rules.own (rules.game_end g ctx words)
  pub view : (g : G) (ctx : Ctx) (viewer : Option ℕ) → IsTrue (rules.own g) → IsTrue (rules.own (rules.view g ctx viewer))
  -- a view of a view is the view
  pub view_again : (g : G) (ctx : Ctx) (viewer : Option ℕ) → IsTrue (rules.own g) → rules.view (rules.view g ctx viewer) ctx viewer ≡ rules.view g ctx viewer
  pub written_object : (g : G) → IsTrue (rules.own g) → IsSome (as_object (rules.value g))
  pub written : (g : G) → IsTrue (rules.own g) → IsWritable (rules.value g)
  pub reads_back : (g : G) → IsTrue (rules.own g) → rules.read (rules.value g) ≡ Some g
  pub read_own : (v : Data) (g : G) → rules.read v ≡ Some g → IsTrue (rules.own g)
  -- canonical is every value that a JSON text reads as
  pub read_only : (v : Data) (g : G) → IsCanonical v → rules.read v ≡ Some g → rules.value g ≡ v
  pub ends : (g : G) (ctx : Ctx) (outcome : Outcome) → IsTrue (rules.own g) → rules.end_if g ctx ≡ Some outcome → OutcomeFits outcome
  pub offers_known : (g : G) (ctx : Ctx) (seat : ℕ) → AllByRecursion (λ (offer : ℕ × List Arg). offer.0 < length rules.sheet.moves) (rules.options g ctx seat)
  pub offers_none : (g : G) (ctx : Ctx) (seat : ℕ) → may_be_offered ctx seat ≡ false → rules.options g ctx seat ≡ []
