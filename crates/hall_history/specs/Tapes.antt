-- The tapes that scripts, worlds and workloads draw from. A request draws far fewer words than the 256 of an action.
use Rattle.std.specs.Prelude.{ℕ, List, ◌++◌, replicate}
use Rattle.std.specs.Int.{w64, to_le_bytes}
use Rattle.dice_words.specs.Words.{words}

-- the words from a place on
unfoldable pub hall_tape : ℕ → List ℕ
hall_tape place = words (replicate 32 0) 0 place 256

-- the tape of a workload's steps, by its seed
unfoldable pub steps_tape : ℕ → ℕ → List ℕ
steps_tape seed place = words (to_le_bytes w64 seed ++ replicate 24 0) 0 place 256
