-- A player for whom there is no memory.
use Rattle.std.proofs.Common.{ℕ, List, [], Option, inl, refl}
use Rattle.any_game.specs.GameKind.{GameKind}
use Rattle.board_links.specs.declared.link.Came.{Came}
use Rattle.client_predict.specs.Client.{fresh}
use Rattle.link_play.specs.Doing.{Who}
use Rattle.link_play.specs.Plan.{plan_of}
use Rattle.line_runner.specs.declared.exit.Exit.TheVariants.{NoMemory}
use Rattle.line_runner.specs.ScriptLines.{script}
use Rattle.board_commands.specs.Playing.{Plays}

-- nothing is done
pub starved : (game : GameKind) (who : Who) (bytes : List ℕ) (held sent : Option (List ℕ)) (answers : Option (List Came)) → Plays game who NoMemory bytes bytes held sent answers held sent answers
starved game who bytes held sent answers = (fresh, inl (record { done = []; rest = (plan_of (script bytes).lines).commands; parts = refl; runs = refl }))
