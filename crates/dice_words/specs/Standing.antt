-- A reader of one stream: the stream that it reads, and where it stands there.
use Rattle.std.specs.Prelude.{ℕ, List}

-- a seed with the stream's number, and the place of the next word
pub record Standing : Type 0 where
  pub source : List ℕ × ℕ
  pub place : ℕ
