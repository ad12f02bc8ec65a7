-- A list of arguments as a list of values, one by one.
use Rattle.std.proofs.Common.{◌≡◌, ℕ, List, take, map, true, Vec, Global}
use Rattle.std.specs.List.{AllByRecursion}
use Rattle.serde_json.specs.Data.{array}
use Rattle.serde_json.specs.View.{view, items_view}
use Rattle.serde_json.specs.declared.value.Value.{Value, Array}
use Rattle.serde_json.proofs.Views.{view-Array}
use Rattle.game_sheet.specs.declared.args.Arg.{Arg}
use Rattle.sheet_json.specs.Arguments.{argument, is_argument}

pub array_view : (list : Vec Value Global) → view (Array list) ≡ array (items_view list.items)
array_view list = view-Array list

abbrev Fit : List Arg → Type 0
Fit args = AllByRecursion (λ a. is_argument a ≡ true) args

-- the values are those of the first n arguments
pub record Made (vs : List Value) (args : List Arg) (n : ℕ) : Type 0 where
  pub values : map view vs ≡ map argument (take n args)
  pub fit : Fit (take n args)
