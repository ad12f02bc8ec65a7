-- The words that a hall's tape gives, from one action to the next.
use Rattle.std.proofs.Common.{◌≡◌, ℕ, zero, suc, ◌+◌, ◌%◌, ◌^◌, true, false, List, ◌∷◌, Option, Some, None, IsSome, refl, sym, ap, ◌∙◌, subst, arith}
use Rattle.std.proofs.Math.Nat.{mod-add-mod, mod-mod}
use Rattle.dice_words.specs.Strip.{Strip, begun, place_of, words_of}
use Rattle.dice_words.specs.Words.{word, words}
use Rattle.game_hall.specs.Words.{drawn, next_action}
use Rattle.session_hall.specs.Held.{IsTape}

-- after the last place of a stream comes place 0
words_wrap : (seed : List ℕ) (stream place n : ℕ) → words seed stream (place % 2 ^ 64) n ≡ words seed stream place n
unfolding words
words_wrap seed stream place zero = refl
words_wrap seed stream place (suc n) =
    ap (λ k. word seed stream k ∷ words seed stream (place % 2 ^ 64 + 1) n) (mod-mod place (2 ^ 64))
    ∙ ap (λ rest. word seed stream (place % 2 ^ 64) ∷ rest)
    (sym (words_wrap seed stream (place % 2 ^ 64 + 1) n) ∙ ap (λ k. words seed stream k n) (mod-add-mod place (2 ^ 64) 1) ∙ words_wrap seed stream (place + 1) n)

source_wrap : (source : Option (List ℕ × ℕ)) (place : ℕ) → words_of source (place % 2 ^ 64) 256 ≡ words_of source place 256
source_wrap None place = refl
source_wrap (Some source) place = words_wrap source.0 source.1 place 256

begun_left : (source : Option (List ℕ × ℕ)) (place : ℕ) → (begun source place).left ≡ words_of source place 256
begun_left None place = refl
begun_left (Some source) place = refl

begun_source : (source : Option (List ℕ × ℕ)) (place : ℕ) → (begun source place).source ≡ source
begun_source None place = refl
begun_source (Some source) place = refl

none_there : false ≡ true → ⊥
none_there e = cc

begun_place : (source : Option (List ℕ × ℕ)) (place n : ℕ) → IsSome source → place_of (drawn n (begun source place)) ≡ (place + n) % 2 ^ 64
begun_place None place n live = absurd (none_there live)
begun_place (Some source) place n live = ap (λ k. (place + k) % 2 ^ 64) (zero_more n)
  where
    zero_more : (n : ℕ) → 0 + n ≡ n
    zero_more n = omega arith

begins_at : (source : Option (List ℕ × ℕ)) (place : ℕ) → IsSome source → place_of (begun source place) ≡ place % 2 ^ 64
begins_at None place live = absurd (none_there live)
begins_at (Some source) place live = ap (λ k. k % 2 ^ 64) (no_more place)
  where
    no_more : (n : ℕ) → n + 0 ≡ n
    no_more n = omega arith

module _ (tape : ℕ → List ℕ) (place : ℕ) (strip : Strip) (t : IsTape tape place strip) where
  -- the next action draws the tape's words
  pub next_words : (next_action strip).left ≡ tape place
  next_words =
      begun_left strip.source (place_of strip) ∙ ap (λ k. words_of strip.source k 256) t.stands_at ∙ source_wrap strip.source place ∙ t.gives place

  with_source : (new : Strip) → new.source ≡ strip.source → (at : ℕ) → place_of new ≡ at % 2 ^ 64 → IsTape tape at new
  with_source new e at p = record {
    live = subst (λ source. IsSome source) (sym e) t.live;
    gives = λ k. ap (λ source. words_of source k 256) e ∙ t.gives k;
    stands_at = p;
  }

  -- an action has drawn so many words
  pub after_drawing : (n : ℕ) (new : Strip) → new ≡ drawn n (next_action strip) → IsTape tape (place + n) new
  after_drawing n new e =
      with_source new (ap (λ (s : Strip). s.source) e ∙ begun_source strip.source (place_of strip)) (place + n)
      (ap (λ (s : Strip). place_of s) e ∙ begun_place strip.source (place_of strip) n t.live ∙ ap (λ k. (k + n) % 2 ^ 64) t.stands_at ∙ mod-add-mod place (2 ^ 64) n)

  -- the words were given back
  pub after_rewinding : (last new : Strip) → last.source ≡ strip.source → new ≡ begun last.source (place_of strip) → IsTape tape place new
  after_rewinding last new same e =
      let is : new ≡ begun strip.source (place_of strip) = e ∙ ap (λ source. begun source (place_of strip)) same in
      with_source new (ap (λ (s : Strip). s.source) is ∙ begun_source strip.source (place_of strip)) place
      (ap (λ (s : Strip). place_of s) is ∙ begins_at strip.source (place_of strip) t.live ∙ ap (λ k. k % 2 ^ 64) t.stands_at ∙ mod-mod place (2 ^ 64))
