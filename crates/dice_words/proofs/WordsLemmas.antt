-- How the words of a stream begin, and how many they are.
use Rattle.std.proofs.Common.{◌≡◌, ℕ, zero, suc, ◌+◌, ◌%◌, ◌^◌, List, [], ◌∷◌, length, refl, ap, arith}
use Rattle.dice_words.specs.Words.{word, words}

pub length_words : (seed : List ℕ) (stream place n : ℕ) → length (words seed stream place n) ≡ n
unfolding words
length_words seed stream place zero = refl
length_words seed stream place (suc n) = omega (arith, length_words seed stream (place + 1) n)

pub words_none : (seed : List ℕ) (stream place n : ℕ) → n ≡ 0 → words seed stream place n ≡ []
unfolding words
words_none seed stream place n z = ap (words seed stream place) z

pub words_next : (seed : List ℕ) (stream place n m : ℕ) → n ≡ suc m → words seed stream place n ≡ word seed stream (place % 2 ^ 64) ∷ words seed stream (place + 1) m
unfolding words
words_next seed stream place n m e = ap (words seed stream place) e
