use Rattle.std.proofs.Common.{rules}
use Rattle.json_tree.proofs.Canonicals.{canonical_read}
use Rattle.json_tree.proofs.LineLaws.{is_not_json, is_no_object, has_a_float, is_object}
use Rattle.json_tree.proofs.lines.read_text.Goals as goal

pub returns-in-Err-2-clause-exact : goal.returns-in-Err-2-clause-exact
returns-in-Err-2-clause-exact c = is_not_json _ (c.in-Err.ensures.err (search rules))

pub returns-then-not-is_object-clause-exact : goal.returns-then-not-is_object-clause-exact
returns-then-not-is_object-clause-exact c = is_no_object _ _ c.in-Ok.ensures.ok.0 c.in-Ok.ensures.ok.1 (search rules)

pub returns-then-contains_float-clause-exact : goal.returns-then-contains_float-clause-exact
returns-then-contains_float-clause-exact c = has_a_float _ _ c.in-Ok.ensures.ok.0 c.in-Ok.ensures.ok.1 (search rules) (search rules)

pub returns-clause-exact : goal.returns-clause-exact
returns-clause-exact c = is_object _ _ c.in-Ok.ensures.ok.0 c.in-Ok.ensures.ok.1 (search rules) (search rules)

pub returns-clause-canonical : goal.returns-clause-canonical
returns-clause-canonical c = canonical_read _ _ c.in-Ok.ensures.ok.1
