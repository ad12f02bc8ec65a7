use Rattle.std.proofs.Common.{◌≡◌, ◌++◌, length}
use Rattle.hall_history.specs.Script.{all_to_session}
use Rattle.script_steps.proofs.printing.put_whole.Given as goal

-- what was added, and the lines that are left
abbrev pub invariant-loop-rest : goal.invariant-loop-rest
invariant-loop-rest l = l.text.items ++ all_to_session l.pass l.rest ≡ l.initial.text.items ++ all_to_session l.pass l.bytes

abbrev pub decreases-loop-rest : goal.decreases-loop-rest
decreases-loop-rest l = length l.rest
