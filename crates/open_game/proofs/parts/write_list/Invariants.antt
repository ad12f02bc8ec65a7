use Rattle.std.proofs.Common.{◌≡◌, ◌++◌, false, map, drop}
use Rattle.serde_json.specs.View.{items_of}
use Rattle.serde_json.specs.Written.{items_text}
use Rattle.open_game.proofs.parts.write_list.Given as goal

-- what is written and the text of the rest are the whole text
abbrev pub invariant-loop-part : goal.invariant-loop-part
invariant-loop-part g l = l.out.items ++ items_text l.later (items_of (map g.T.Part.written (drop l.part-index l.parts))) ≡ l.initial.out.items ++ items_text false (items_of (map g.T.Part.written l.parts))
