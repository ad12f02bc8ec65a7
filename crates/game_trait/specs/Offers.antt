-- Who is offered moves: while the match goes on, a seat that may act.
use Rattle.std.specs.Prelude.{◌≡◌, ◌&&◌, ℕ, Bool, true, false, List, [], is_none, if◌then◌else◌}
use Rattle.std.specs.List.{AllByRecursion}
use Rattle.std.proofs.Common.{ap}
use Rattle.game_sheet.specs.declared.args.Arg.{Arg}
use Rattle.game_sheet.specs.declared.ctx.Ctx.{Ctx}
use Rattle.stage_map.specs.Moves.{may}

abbrev pub may_be_offered : Ctx → ℕ → Bool
may_be_offered ctx seat = is_none ctx.over && may ctx seat

-- these moves, where the seat may be offered some
abbrev pub offered : Ctx → ℕ → List (ℕ × List Arg) → List (ℕ × List Arg)
offered ctx seat offers = if may_be_offered ctx seat then offers else []

-- what laws of games say of the moves that are offered
pub offered_none : (ctx : Ctx) (seat : ℕ) (offers : List (ℕ × List Arg)) → may_be_offered ctx seat ≡ false → offered ctx seat offers ≡ []
offered_none ctx seat offers none = ap (λ may_be. if may_be then offers else []) none

either_known : (P : ℕ × List Arg → Type 0) (test : Bool) (offers : List (ℕ × List Arg)) → AllByRecursion P offers → AllByRecursion P (if test then offers else [])
either_known P true offers known = known
either_known P false offers known = tt

pub offered_known : (P : ℕ × List Arg → Type 0) (ctx : Ctx) (seat : ℕ) (offers : List (ℕ × List Arg)) → AllByRecursion P offers → AllByRecursion P (offered ctx seat offers)
offered_known P ctx seat offers known = either_known P (may_be_offered ctx seat) offers known
