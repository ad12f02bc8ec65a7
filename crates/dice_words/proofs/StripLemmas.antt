-- What a tape has left, from what it keeps.
use Rattle.std.proofs.Common.{◌≡◌, ℕ, ◌+◌, ◌-◌, Option, Some, None, [], ◌∷◌, length, refl, ap, ◌∙◌, sym, subst, option_map, arith}
use Rattle.dice_words.specs.Words.{word, words}
use Rattle.dice_words.specs.Standing.{Standing}
use Rattle.dice_words.specs.Strip.{Strip, Follows}
use Rattle.dice_words.specs.Reading.{strip_of, IsKept}
use Rattle.dice_words.proofs.WordsLemmas.{length_words, words_none, words_next}

pub none_left : (o : Option Standing) (start used : ℕ) → used ≡ 256 → (strip_of o start used).left ≡ []
none_left None start used e = refl
none_left (Some r) start used e = words_none r.source.0 r.source.1 (start + used) (256 - used) (omega arith)

pub next_left : (o : Option Standing) (r : Standing) (start used : ℕ) → o ≡ Some r → IsKept o start used → ¬ (used ≡ 256) → (strip_of o start used).left ≡ word r.source.0 r.source.1 r.place ∷ words r.source.0 r.source.1 (start + (used + 1)) (256 - (used + 1))
next_left o r start used is kept more =
    let h : IsKept (Some r) start used = subst (λ p. IsKept p start used) is kept in
    ap (λ p. (strip_of p start used).left) is
    ∙ words_next r.source.0 r.source.1 (start + used) (256 - used) (256 - (used + 1)) (omega arith)
    ∙ ap (λ place. word r.source.0 r.source.1 place ∷ words r.source.0 r.source.1 (start + used + 1) (256 - (used + 1))) (sym h.1)
    ∙ ap (λ place. word r.source.0 r.source.1 r.place ∷ words r.source.0 r.source.1 place (256 - (used + 1))) (omega arith)

-- the next word was drawn, and the reader moved on
pub drew_next : (o : Option Standing) (r moved : Standing) (start used : ℕ) → o ≡ Some r → ¬ (used ≡ 256) → IsKept o start used → moved.source ≡ r.source → Follows (strip_of o start used) (strip_of (Some moved) start (used + 1))
drew_next o r moved start used is more kept same =
    let h : IsKept (Some r) start used = subst (λ p. IsKept p start used) is kept in
    let before : length (strip_of o start used).left ≡ 256 - used = ap (λ p. length (strip_of p start used).left) is ∙ length_words r.source.0 r.source.1 (start + used) (256 - used) in
    let after : length (strip_of (Some moved) start (used + 1)).left ≡ 256 - (used + 1) = length_words moved.source.0 moved.source.1 (start + (used + 1)) (256 - (used + 1)) in
    record {
      same_source = ap Some same ∙ sym (ap (option_map (λ p. p.source)) is);
      same_start = refl;
      same_total = omega (arith, before, after);
    }

pub follows_trans : (a b c : Strip) → Follows a b → Follows b c → Follows a c
follows_trans a b c before after = record {
  same_source = after.same_source ∙ before.same_source;
  same_start = after.same_start ∙ before.same_start;
  same_total = after.same_total ∙ before.same_total;
}
