-- A tape as contracts see it. An action may draw 256 words; they come from one stream of a seed, one after another, or there are none at all.
use Rattle.std.specs.Prelude.{◌≡◌, ℕ, ◌+◌, ◌%◌, ◌^◌, Option, Some, None, List, [], length}
use Rattle.dice_words.specs.Words.{words}

-- What contracts see of a tape: where its words come from (a seed and a stream, or nothing), the place at which the action began, how many words the action has drawn, and the words that it has left.
pub record Strip : Type 0 where
  pub source : Option (List ℕ × ℕ)
  pub start : ℕ
  pub used : ℕ
  pub left : List ℕ

-- so many words of a source, from a place on
abbrev pub words_of : Option (List ℕ × ℕ) → ℕ → ℕ → List ℕ
words_of None place n = []
words_of (Some source) place n = words source.0 source.1 place n

-- a live tape that begins an action at a place
abbrev pub live : List ℕ → ℕ → ℕ → Strip
live seed stream place = record {
  source = Some (seed, stream);
  start = place;
  used = 0;
  left = words seed stream place 256;
}

-- the tape without words, which stays at place 0
abbrev pub blank : Strip
blank = record { source = None; start = 0; used = 0; left = [] }

-- a tape of this source that begins an action at a place
abbrev pub begun : Option (List ℕ × ℕ) → ℕ → Strip
begun None place = blank
begun (Some source) place = live source.0 source.1 place

-- the place of the next word
abbrev pub place_of : Strip → ℕ
place_of strip = (strip.start + strip.used) % 2 ^ 64

-- what no drawing of words changes: the source, the place at which the action began, and how many words it may draw in all
pub record Follows (before after : Strip) : Type 0 where
  pub same_source : after.source ≡ before.source
  pub same_start : after.start ≡ before.start
  pub same_total : after.used + length after.left ≡ before.used + length before.left
