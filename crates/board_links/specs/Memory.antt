-- What a source and a sink in memory are: their bytes, the calls made so far, the numbers of the calls that are to fail,
-- counted from 1, and the count of faults.
use Rattle.std.specs.Prelude.{◌≡◌, ℕ, ◌+◌, ◌==◌, min, List, Bool, true, false, if◌then◌else◌}
use Rattle.std.specs.List.{list_any}
use Rattle.board_links.specs.declared.source.Piece.{Piece}
use Rattle.board_links.specs.declared.source.Piece.TheVariants.{Got, End, Failed}
use Rattle.board_links.specs.declared.sink.Put as sink
use Rattle.board_links.specs.declared.sink.Put.TheVariants as put
use Rattle.board_links.specs.Faults.{last_count}

pub record SourceState : Type 0 where
  pub left : List ℕ
  pub calls : ℕ
  pub failing : List ℕ
  pub faults : ℕ

pub record SinkState : Type 0 where
  pub held : List ℕ
  pub calls : ℕ
  pub failing : List ℕ
  pub faults : ℕ

-- one more, up to the last value
abbrev pub next_count : ℕ → ℕ
next_count n = min (n + 1) last_count

-- whether the call of this number is to fail
abbrev pub is_failing : List ℕ → ℕ → Bool
is_failing failing call = list_any (λ n. n == call) failing

abbrev pub is_failed : Piece → Bool
is_failed (Got n) = false
is_failed End = false
is_failed Failed = true

abbrev pub is_refused : sink.Put → Bool
is_refused put.Done = false
is_refused put.Failed = true

-- the counts of a source after a call with this answer
abbrev pub SourceCounts : Piece → SourceState → SourceState → Type 0
SourceCounts piece old new = new ≡ record old {
  left = new.left;
  calls = next_count old.calls;
  faults = if is_failed piece then next_count old.faults else old.faults;
}

-- the counts of a sink after a call with this answer
abbrev pub SinkCounts : sink.Put → SinkState → SinkState → Type 0
SinkCounts answer old new = new ≡ record old {
  held = new.held;
  calls = next_count old.calls;
  faults = if is_refused answer then next_count old.faults else old.faults;
}
