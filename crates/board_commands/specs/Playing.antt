-- Who plays what, by the words of `play`, what the playing comes to, and the ends where the words are in no form.
use Rattle.std.specs.Prelude.{ℕ, List, Option}
use Rattle.any_game.specs.AnyRules.{any_rules}
use Rattle.any_game.specs.GameKind.{GameKind}
use Rattle.any_game.specs.declared.any_g.AnyG.{AnyG}
use Rattle.board_links.specs.declared.link.Came.{Came}
use Rattle.client_predict.specs.Client.{Client, fresh}
use Rattle.command_words.specs.declared.play.PlayWords.{PlayWords}
use Rattle.link_play.specs.Doing.{Who}
use Rattle.link_play.specs.Ends.{Ends}
use Rattle.link_play.specs.Sitting.{sitting}
use Rattle.line_runner.specs.declared.exit.Exit.{Exit}
use Rattle.line_runner.specs.declared.exit.Exit.TheVariants.{Usage, NoMemory}

abbrev pub who_asks : PlayWords → Who
who_asks asked = record { name = asked.name; viewer = asked.viewer }

-- A client of the game that has read nothing sits down, and the run ends so. The source had these bytes left, and has these; the sink held this,
-- the link was sent this and has answered this, before and after.
abbrev pub Plays : GameKind → Who → Exit → List ℕ → List ℕ → Option (List ℕ) → Option (List ℕ) → Option (List Came) → Option (List ℕ) → Option (List ℕ) → Option (List Came) → Type 0
Plays game who exit bytes left held sent answers held_after sent_after answers_after =
    (c : Client AnyG) × Ends (any_rules game) who exit bytes left (sitting fresh held sent answers) (sitting c held_after sent_after answers_after)

-- the words are in no form, or there was no memory to read them
abbrev pub IsRefused : Exit → Type 0
IsRefused Usage = Unit {0}
IsRefused NoMemory = Unit {0}
IsRefused other = ⊥
