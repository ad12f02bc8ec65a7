-- What waits to be written, and what a write takes of it.
use Rattle.std.specs.Prelude.{◌≤◌, ◌<◌, ℕ, List, length, take, drop, Option}
use Rattle.std.specs.Io.KnownBytes.{Appends, Keeps}
use Rattle.poll_links.specs.declared.outgoing.Wrote.{Wrote}
use Rattle.poll_links.specs.declared.outgoing.Wrote.TheVariants as wrote

-- what the writer holds grew by the first of these bytes, as many as it took; or it took none
abbrev pub Takes : Wrote → Option (List ℕ) → Option (List ℕ) → List ℕ → Type 0
Takes (wrote.Some n) held after bytes = (0 < n) × (n ≤ length bytes) × Appends held after (take n bytes)
Takes answer held after bytes = Keeps held after

-- the rest waits: all but the first bytes, as many as were taken
abbrev pub rest_after : Wrote → List ℕ → List ℕ
rest_after (wrote.Some n) bytes = drop n bytes
rest_after answer bytes = bytes
