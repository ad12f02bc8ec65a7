use Rattle.std.proofs.Common.{◌≡◌, ◌++◌, drop, map, true, false}
use Rattle.std.specs.List.{AllByRecursion}
use Rattle.serde_json.specs.View.{items_of}
use Rattle.serde_json.specs.Written.{items_text}
use Rattle.sheet_json.specs.Arguments.{argument, is_argument}
use Rattle.sheet_json.proofs.arguments.put_list.Given as goal

-- what is written and the text of the rest are the whole text, and the arguments fit where the rest does
abbrev pub invariant-loop-arg : goal.invariant-loop-arg
invariant-loop-arg l = record {
  text : l.out.items ++ items_text l.later (items_of (map argument (drop l.arg-index l.args))) ≡ l.initial.out.items ++ items_text false (items_of (map argument l.args));
  fit : AllByRecursion (λ a. is_argument a ≡ true) (drop l.arg-index l.args) → AllByRecursion (λ a. is_argument a ≡ true) l.args;
}
