-- What holds of every state of a match: it has accepted at most 4,096 actions, its table is sound with counts of at most so many moves,
-- its turns are far from the end of their range, and what it keeps is a trail of the game's machine.
use Rattle.std.specs.Prelude.{◌+◌, ◌*◌, ◌≤◌, length}
use Rattle.game_sheet.specs.declared.ids.TheConstants.{MOST_ACTIONS}
use Rattle.game_trait.specs.Rules.{Rules}
use Rattle.phase_flow.specs.IsSound.{IsSound as TableIsSound}
use Rattle.undo_redo.specs.IsTrail.{IsTrail}
use Rattle.reducer.specs.Standing.{Standing}
use Rattle.reducer.specs.Trails.{trail_of}
use Rattle.reducer.specs.Walk.{Fits, InSheet, walked}

pub record IsSound {G : Type 0} (rules : Rules G) (s : Standing G) : Type 0 where
  pub number : s.number ≤ MOST_ACTIONS
  pub done : length s.done ≤ s.number
  pub table : TableIsSound rules.sheet s.number s.table.ctx s.table.active
  pub turn : s.table.ctx.turn ≤ 65 + 64 * s.number
  pub trail : IsTrail (walked rules) (Fits rules) (InSheet rules) (trail_of s)
