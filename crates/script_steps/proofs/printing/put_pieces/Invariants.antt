use Rattle.std.proofs.Common.{◌≡◌, ◌++◌, take}
use Rattle.std.specs.List.{flat_map}
use Rattle.game_sheet.specs.Lines.{lines}
use Rattle.hall_history.specs.Script.{to_session}
use Rattle.script_steps.proofs.printing.put_pieces.Given as goal

-- the lines before the place were added
abbrev pub invariant-loop-place : goal.invariant-loop-place
invariant-loop-place l = l.text.items ≡ l.initial.text.items ++ flat_map (to_session l.pass) (take l.place (lines l.bytes))
