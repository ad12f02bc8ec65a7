-- How a tape is kept: a reader of its stream stands where the action's next word is.
use Rattle.std.specs.Prelude.{◌≡◌, ℕ, ◌+◌, ◌-◌, ◌%◌, ◌^◌, ◌≤◌, Option, Some, None, option_map}
use Rattle.dice_words.specs.Standing.{Standing}
use Rattle.dice_words.specs.Strip.{Strip, words_of}

-- the strip of a tape that keeps this reader, start and count
abbrev pub strip_of : Option Standing → ℕ → ℕ → Strip
strip_of reader start used =
    let source = option_map (λ r. r.source) reader in
    record {
      source = source;
      start = start;
      used = used;
      left = words_of source (start + used) (256 - used);
    }

-- at most 256 words are drawn, and the reader stands at the next; with no reader, nothing was ever drawn
abbrev pub IsKept : Option Standing → ℕ → ℕ → Type 0
IsKept None start used = (start ≡ 0) × (used ≡ 0)
IsKept (Some reader) start used = (used ≤ 256) × (reader.place ≡ (start + used) % 2 ^ 64)
