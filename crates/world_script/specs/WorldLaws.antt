-- A world's steps are run one by one, and its Takes put on down links what sessions are sent.
use Rattle.std.proofs.Common.{ℕ, List, refl, ap, ◌∙◌}
use Rattle.any_game.specs.AnyRules.{any_rules, named}
use Rattle.client_world.specs.Reading.{world_step_of}
use Rattle.room_history.proofs.Clauses.{are_sent_alike, are_told}
use Rattle.hall_history.specs.Mark.{Mark}
use Rattle.hall_history.specs.Tapes.{hall_tape}
use Rattle.world_script.specs.DeliveredLaws.{put_is_sent, world_served}
use Rattle.world_script.specs.Deliveries.{DeliversLines, delivered_for, first_world, world_room_after}
use Rattle.world_script.specs.Sessions.{room_count}
use Rattle.line_runner.specs.Play.{IsPlay, steps_of}
use Rattle.world_script.specs.WorldDoing.{world_doing}
use Rattle.world_script.specs.WorldPlay.{world_play}

delivers : (marks : List Mark) (lines : List (List ℕ)) → DeliversLines marks lines
unfolding delivered_for world_room_after
delivers marks lines = record {
  sent = λ room pass j s e. put_is_sent named any_rules hall_tape pass room j room_count marks (steps_of world_step_of lines) s e;
  told = λ room pass j s e. are_told any_rules room (world_room_after marks lines room) pass j s e;
  alike = λ room pass j s e other_room h other i t f a.
      put_is_sent named any_rules hall_tape pass room j room_count marks (steps_of world_step_of lines) s e
      ∙ are_sent_alike any_rules any_rules room (world_room_after marks lines room) pass j s e other_room h other i t f a;
  served = λ h. ap (λ done. done.1) (world_served named any_rules hall_tape marks (steps_of world_step_of lines) first_world h);
}

pub world_is_played : IsPlay world_play world_doing
unfolding world_play world_doing
world_is_played = record { none = λ marks w. refl; more = λ mark marks step steps w. refl; tells = delivers }
