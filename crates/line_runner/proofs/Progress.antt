-- What a reader keeps from one step to the next, until it has an answer.
use Rattle.std.proofs.Common.{◌≡◌, ℕ, List, Option, None}
use Rattle.std.specs.Prelude.{IsSome}
use Rattle.board_links.specs.Pieces.{told_bytes}
use Rattle.line_runner.specs.Reader.{Reader}
use Rattle.line_runner.specs.Reading.{Moves}

pub record Keeps (left_then left_now : Option (List ℕ)) (faults_then faults_now : ℕ) (then now : Reader) : Type 0 where
  pub stays : faults_now ≡ faults_then
  pub given : now.given ≡ then.given
  pub tells : IsSome left_then → IsSome left_now
  pub moves : IsSome left_then → Moves None now.line then now (told_bytes left_then) (told_bytes left_now)
