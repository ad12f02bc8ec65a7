-- The words that a line draws, and what is made of them: a match's seed of eight words, and a key of four, each word least byte first.
use Rattle.std.specs.Prelude.{ℕ, ◌+◌, List, Option, None, take, drop, Result, Ok, Err, unwrap_or}
use Rattle.std.specs.Int.{w32, to_le_bytes}
use Rattle.std.specs.List.{flat_map}
use Rattle.dice_words.specs.Strip.{Strip, begun, place_of}
use Rattle.wire_json.specs.Refusals.{Refusal}
use Rattle.wire_json.specs.declared.client.ClientMsg.{ClientMsg}
use Rattle.wire_json.specs.declared.client.ClientMsg.TheVariants.{Create, Join}
use Rattle.std.specs.Option.{option_map_or}

-- the bytes of words, each least byte first
abbrev pub bytes_of_words : List ℕ → List ℕ
bytes_of_words words = flat_map (to_le_bytes w32) words

-- a tape that begins its next action
abbrev pub next_action : Strip → Strip
next_action strip = begun strip.source (place_of strip)

-- a tape from which so many words were drawn
abbrev pub drawn : ℕ → Strip → Strip
drawn n strip = record strip { used = strip.used + n; left = drop n strip.left }

-- a match's seed is the one that stands ready, else it is made of eight words
abbrev pub seed_of : Option (List ℕ) → List ℕ → List ℕ
seed_of given words = unwrap_or given (bytes_of_words (take 8 words))

abbrev pub key_of : List ℕ → List ℕ
key_of words = bytes_of_words (take 4 words)

abbrev pub seed_words : Option (List ℕ) → ℕ
seed_words given = option_map_or (λ seed. 0) given 8

-- how many words a message draws, whatever its answer is then
abbrev pub words_drawn : ClientMsg → Option (List ℕ) → ℕ
words_drawn (Create game seats) seed = seed_words seed
words_drawn (Join name player seat) seed = 4
words_drawn message seed = 0

-- the seed that stands ready then
abbrev pub seed_left : ClientMsg → Option (List ℕ) → Option (List ℕ)
seed_left (Create game seats) seed = None
seed_left message seed = seed

-- a line that is no message draws nothing
abbrev pub words_drawn_by : Result ClientMsg Refusal → Option (List ℕ) → ℕ
words_drawn_by (Ok message) seed = words_drawn message seed
words_drawn_by (Err fault) seed = 0

abbrev pub seed_left_by : Result ClientMsg Refusal → Option (List ℕ) → Option (List ℕ)
seed_left_by (Ok message) seed = seed_left message seed
seed_left_by (Err fault) seed = seed
