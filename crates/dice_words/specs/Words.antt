-- The words of a seed: the stream of ChaCha20 that the seed and a stream's number give, cut into 32-bit words.
-- A word's place in its stream is a number of 64 bits, and after the last place comes place 0.
use Rattle.std.specs.Prelude.{ℕ, zero, suc, ◌+◌, ◌%◌, ◌^◌, List, [], ◌∷◌}
use Rattle.rand_chacha.specs.ChaCha.{word_at, key_of}

-- word k of a stream, after the ten double rounds of ChaCha20
unfoldable pub word : List ℕ → ℕ → ℕ → ℕ
word seed stream k = word_at 10 (key_of seed) stream k

-- so many words of a stream, from a place on
unfoldable pub words : List ℕ → ℕ → ℕ → ℕ → List ℕ
words seed stream place zero = []
words seed stream place (suc n) = word seed stream (place % 2 ^ 64) ∷ words seed stream (place + 1) n
