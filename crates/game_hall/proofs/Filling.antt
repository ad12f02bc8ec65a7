-- How drawn words fill bytes, one after another.
use Rattle.std.proofs.Common.{◌≡◌, ℕ, suc, ◌+◌, ◌-◌, ◌*◌, ◌<◌, ◌≤◌, List, ◌∷◌, ◌++◌, length, take, drop, refl, sym, ap, ◌∙◌, append_assoc, drop-drop, arith}
use Rattle.std.specs.Int.{w32, to_le_bytes}
use Rattle.std.proofs.lemmas.List.{length-take-le, length-append}
use Rattle.std.proofs.Math.Seq.{take-append_seam}
use Rattle.dice_words.specs.Strip.{Strip, Follows}
use Rattle.game_hall.specs.Words.{bytes_of_words, drawn}

seam : (n : ℕ) (xs ys zs : List ℕ) → n ≡ length xs + length ys → take n (xs ++ ys ++ zs) ≡ xs ++ ys
seam n xs ys zs e = ap (λ m. take m (xs ++ ys ++ zs)) (e ∙ sym (length-append xs ys)) ∙ take-append_seam (xs ++ ys) zs

four : (word : ℕ) → length (to_le_bytes w32 word) ≡ 4
four word = refl

-- a word is drawn and written at its place
pub goes_on : (words place word : ℕ) (old new left after all : List ℕ) → place < words → length old ≡ 4 * words → left ≡ word ∷ after
    → new ≡ take (4 * place) old ++ to_le_bytes w32 word ++ drop (4 * place + 4) old
    → take (4 * place) old ++ bytes_of_words (take (words - place) left) ≡ all
    → take (4 * (place + 1)) new ++ bytes_of_words (take (words - (place + 1)) after) ≡ all
goes_on words place word old new left after all h l first written so_far =
    ap (λ bytes. bytes ++ rest) written_so_far ∙ append_assoc begun (to_le_bytes w32 word) rest ∙ ap (λ some. begun ++ bytes_of_words some) (sym first_of_those) ∙ so_far
  where
    begun : List ℕ
    begun = take (4 * place) old

    rest : List ℕ
    rest = bytes_of_words (take (words - (place + 1)) after)

    within : 4 * place ≤ length old
    within = omega (arith, h, l)

    written_so_far : take (4 * (place + 1)) new ≡ begun ++ to_le_bytes w32 word
    written_so_far = ap (take (4 * (place + 1))) written
        ∙ seam (4 * (place + 1)) begun (to_le_bytes w32 word) (drop (4 * place + 4) old) (omega (arith, length-take-le (4 * place) old within, four word))

    one_less : words - place ≡ suc (words - (place + 1))
    one_less = omega (arith, h)

    first_of_those : take (words - place) left ≡ word ∷ take (words - (place + 1)) after
    first_of_those = ap (take (words - place)) first ∙ ap (λ n. take n (word ∷ after)) one_less

-- a tape from which one more word was drawn
pub one_more : (n word : ℕ) (first before after : Strip) → before ≡ drawn n first → before.left ≡ word ∷ after.left → after.used ≡ before.used + 1 → Follows before after
    → after ≡ drawn (n + 1) first
one_more n word first before after so_far next counted follows = λ i. record { source = source i; start = start i; used = used i; left = left i }
  where
    source : after.source ≡ first.source
    source = follows.same_source ∙ ap (λ s. s.source) so_far

    start : after.start ≡ first.start
    start = follows.same_start ∙ ap (λ s. s.start) so_far

    used : after.used ≡ first.used + (n + 1)
    used = omega (arith, counted, ap (λ s. s.used) so_far)

    left : after.left ≡ drop (n + 1) first.left
    left = ap (drop 1) (sym next ∙ ap (λ s. s.left) so_far) ∙ drop-drop 1 n first.left
