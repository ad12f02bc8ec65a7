-- What a line comes to, by what its step comes to.
use Rattle.std.proofs.Common.{◌≡◌, ℕ, List, ◌++◌, Some, None, Result, Ok, Err, OnOk, ap, ◌∙◌}
use Rattle.any_game.specs.GameKind.{GameKind}
use Rattle.any_game.specs.declared.any_g.AnyG.{AnyG}
use Rattle.client_world.specs.IsWorld.{HasDone, HeldWorld, IsWorld}
use Rattle.client_world.specs.Reading.{world_step_of}
use Rattle.hall_history.specs.Hall.{Hall}
use Rattle.hall_history.specs.Script as script
use Rattle.hall_history.specs.Tapes.{hall_tape}
use Rattle.world_history.specs.World.{World}
use Rattle.world_history.specs.World as world
use Rattle.session_hall.specs.Held.{HeldHall, StandsForHall}
use Rattle.script_steps.specs.Forms.{step_of}
use Rattle.line_runner.specs.Play.{Does, RunsLine, ended_by}
use Rattle.script_steps.specs.ScriptDoing.{script_doing}
use Rattle.world_script.specs.ScriptPlay.{script_play}
use Rattle.world_script.specs.WorldDoing.{world_doing}
use Rattle.world_script.specs.WorldPlay.{world_play}

-- how a line goes by its step: what `ended` answers
module _ {A E : Type 0} (told : Result A E) (old new : HeldHall) (line before after : List ℕ) where
  pub script_line : (step : script.Step) → step_of line ≡ Some step
      → ((h : Hall GameKind) → StandsForHall hall_tape old h → OnOk told (Does script_doing h step new before after))
      → (h : Hall GameKind) → script_doing.Stands old h → RunsLine script_play script_doing h line new before after (ended_by told)
  unfolding script_play script_doing
  script_line step e f h s = by told (f h s)
    where
      by : (r : Result A E) → OnOk r (Does script_doing h step new before after) → RunsLine script_play script_doing h line new before after (ended_by r)
      by (Ok x) d = record { step = step; in_form = e; does = d }
      by (Err x) d = tt

module _ (old : HeldHall) (line : List ℕ) where
  pub script_bad : step_of line ≡ None → (h : Hall GameKind) → script_doing.Stands old h → (script_play.form line ≡ None) × script_doing.Stands old h
  unfolding script_play script_doing
  script_bad e h s = (e, s)

module _ {A E : Type 0} (told : Result A E) (old new : HeldWorld) (line before after : List ℕ) where
  pub world_line : (step : world.Step GameKind) → world_step_of line ≡ Some step
      → ((w : World GameKind AnyG) → IsWorld hall_tape old w → OnOk told (Does world_doing w step new before after))
      → (w : World GameKind AnyG) → world_doing.Stands old w → RunsLine world_play world_doing w line new before after (ended_by told)
  unfolding world_play world_doing
  world_line step e f w s = by told (f w s)
    where
      by : (r : Result A E) → OnOk r (Does world_doing w step new before after) → RunsLine world_play world_doing w line new before after (ended_by r)
      by (Ok x) d = record { step = step; in_form = e; does = d }
      by (Err x) d = tt

module _ (old : HeldWorld) (line : List ℕ) where
  pub world_bad : world_step_of line ≡ None → (w : World GameKind AnyG) → world_doing.Stands old w → (world_play.form line ≡ None) × world_doing.Stands old w
  unfolding world_play world_doing
  world_bad e w s = (e, s)

-- a step's text was added
pub world_did : (w : World GameKind AnyG) (step : world.Step GameKind) (new : HeldWorld) (before said after : List ℕ) → HasDone hall_tape w step new said → after ≡ before ++ said
    → Does world_doing w step new before after
unfolding world_doing
world_did w step new before said after d e = record { mark = d.mark; stands = d.stands; added = e ∙ ap (λ t. before ++ t) d.prints }
