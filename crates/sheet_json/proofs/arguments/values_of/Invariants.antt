use Rattle.sheet_json.proofs.Writing.{Made}
use Rattle.sheet_json.proofs.arguments.values_of.Given as goal

-- the list has the values of the arguments up to here
abbrev pub invariant-loop-arg : goal.invariant-loop-arg
invariant-loop-arg l = Made l.list.items l.args l.arg-index
