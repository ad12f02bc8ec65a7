use Rattle.std.proofs.Common.{◌≡◌}
use Rattle.match_master.specs.Attached.{staged}
use Rattle.match_master.specs.Places.{up_to_place}
use Rattle.match_master.specs.UpdateText.{AreMade, action_line}
use Rattle.match_master.proofs.staging.stage_all.Given as goal

-- the lines are staged at the attachments before the place, and those that were made are right
abbrev pub invariant-loop-place : goal.invariant-loop-place
invariant-loop-place g l = record {
  made : AreMade (action_line (g.X.Game.rules l.action.game.now) l.action.state.now l.action.prepared.now l.action.entry.now) l.made.items;
  staged : l.attachments.entries
      ≡ up_to_place l.place (staged l.pass l.verdict.value.items (action_line (g.X.Game.rules l.action.game.now) l.action.state.now l.action.prepared.now l.action.entry.now)) l.initial.attachments.entries;
}
