use Rattle.std.proofs.Common.{◌≡◌, ◌++◌, false, drop}
use Rattle.serde_json.specs.Written.{items_text}
use Rattle.json_tree.specs.Writable.{ItemsAreWritable}
use Rattle.wire_json.specs.ServerText.{names_data}
use Rattle.wire_json.proofs.answer_put.put_names.Given as goal

-- what is written and the text of the rest are the whole text, and where the rest is writable, all is
abbrev pub invariant-loop-name : goal.invariant-loop-name
invariant-loop-name l = record {
  text : l.out.items ++ items_text l.later (names_data (drop l.name-index l.names)) ≡ l.initial.out.items ++ items_text false (names_data l.names);
  writable : ItemsAreWritable (names_data (drop l.name-index l.names)) → ItemsAreWritable (names_data l.names);
}
