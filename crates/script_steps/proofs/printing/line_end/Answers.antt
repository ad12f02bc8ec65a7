use Rattle.script_steps.proofs.Printed.{cut_found, cut_whole}
use Rattle.script_steps.proofs.printing.line_end.Goals as goal

pub returns-in-Some-clause-cuts : goal.returns-in-Some-clause-cuts
returns-in-Some-clause-cuts c = cut_found c.args.bytes.now c.in-Some.at c.in-Some.ensures c.requires

pub returns-in-None-clause-cuts : goal.returns-in-None-clause-cuts
returns-in-None-clause-cuts c = cut_whole c.args.bytes.now c.in-None.ensures c.requires
