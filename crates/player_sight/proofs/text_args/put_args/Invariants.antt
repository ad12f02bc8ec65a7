use Rattle.std.proofs.Common.{◌≡◌, ◌++◌, drop, map, false}
use Rattle.serde_json.specs.View.{items_of}
use Rattle.serde_json.specs.Written.{items_text}
use Rattle.sheet_json.specs.Arguments.{argument}
use Rattle.player_sight.proofs.text_args.put_args.Given as goal

-- what is written and the text of the rest are the whole text
abbrev pub invariant-loop-arg : goal.invariant-loop-arg
invariant-loop-arg l = l.out.items ++ items_text l.later (items_of (map argument (drop l.arg-index l.args))) ≡ l.initial.out.items ++ items_text false (items_of (map argument l.args))
