-- A script's steps are run one by one.
use Rattle.std.proofs.Common.{ℕ, List, [], refl, sym, ap, ◌∙◌}
use Rattle.any_game.specs.AnyRules.{any_rules, named}
use Rattle.room_history.proofs.Clauses.{are_sent_alike, are_told}
use Rattle.hall_history.specs.Hall.{new_hall}
use Rattle.hall_history.specs.Mark.{Mark}
use Rattle.hall_history.specs.Script.{transcript}
use Rattle.hall_history.specs.Tapes.{hall_tape}
use Rattle.script_steps.specs.Forms.{step_of}
use Rattle.script_steps.specs.ScriptDoing.{script_doing}
use Rattle.script_steps.proofs.MarkLaws.{all_served}
use Rattle.script_steps.proofs.PieceLaws.{all_text, told_is_sent}
use Rattle.line_runner.specs.Play.{IsPlay, steps_of}
use Rattle.world_script.specs.ScriptPlay.{script_play}
use Rattle.world_script.specs.Sessions.{TellsSessions, pieces_of, room_after, room_count}

tells : (marks : List Mark) (lines : List (List ℕ)) → TellsSessions marks lines
unfolding pieces_of room_after transcript
tells marks lines = record {
  text = sym (all_text named any_rules hall_tape marks (steps_of step_of lines) (new_hall room_count));
  sent = λ room pass j s e. told_is_sent pass room j named any_rules hall_tape room_count marks (steps_of step_of lines) s e;
  told = λ room pass j s e. are_told any_rules room (room_after marks lines room) pass j s e;
  alike = λ room pass j s e other_room h other i t f a.
      told_is_sent pass room j named any_rules hall_tape room_count marks (steps_of step_of lines) s e
      ∙ are_sent_alike any_rules any_rules room (room_after marks lines room) pass j s e other_room h other i t f a;
  served = λ h. ap (λ done. done.1) (all_served named any_rules hall_tape marks (steps_of step_of lines) (new_hall room_count) h);
}

pub script_is_played : IsPlay script_play script_doing
unfolding script_play script_doing
script_is_played = record { none = λ marks h. refl; more = λ mark marks step steps h. refl; tells = tells }
