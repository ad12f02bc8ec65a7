use Rattle.std.proofs.Common.{◌≡◌, ◌++◌, false, map, drop}
use Rattle.serde_json.specs.View.{items_of}
use Rattle.serde_json.specs.Written.{items_text}
use Rattle.json_text.specs.Numbers.{natural}
use Rattle.json_text.proofs.put.put_naturals.Given as goal

-- what is written and the text of the rest are the whole text
abbrev pub invariant-loop-n : goal.invariant-loop-n
invariant-loop-n l = l.out.items ++ items_text l.later (items_of (map natural (drop l.n-index l.ns))) ≡ l.initial.out.items ++ items_text false (items_of (map natural l.ns))
