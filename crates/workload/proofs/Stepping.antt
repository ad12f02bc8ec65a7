-- The steps of a workload.
use Rattle.std.proofs.Common.{◌≡◌, ◌<◌, ◌+◌, ◌-◌, ◌%◌, ◌^◌, ◌==◌, ℕ, suc, Bool, true, false, nat_le, List, [], ◌∷◌, length, if◌then◌else◌, Option, Some, None, IsSome, refl, sym, ap, subst, ◌∙◌, arith, ◌&&◌}
use Rattle.std.specs.Prelude.{IfSome, slice_get, not}
use Rattle.std.proofs.Math.Nat.{mod-add-mod}
use Rattle.any_game.specs.AnyRules.{any_rules, named}
use Rattle.any_game.specs.GameKind.{GameKind}
use Rattle.any_game.specs.declared.any_g.AnyG.{AnyG}
use Rattle.dice_words.specs.Dice.{die}
use Rattle.dice_words.specs.Strip.{Strip, live, place_of, words_of}
use Rattle.game_hall.specs.Words.{next_action}
use Rattle.world_history.specs.Workload.{Workload, after_step, begins_round, choice, choice_words, ends_round, goes, step_by, step_of, steps_from, takes_step, round_steps}
use Rattle.world_history.specs.World.{World, Step, Acts, Arrives, Reads, Takes}
use Rattle.game_sheet.specs.declared.act.EventKind.TheVariants.{EndTurn}
use Rattle.wire_json.specs.declared.asked.Asked.TheVariants as asked
use Rattle.wire_json.specs.declared.asked.AskedTo.TheVariants as to
use Rattle.session_hall.specs.Held.{IsTape, tape_of}
use Rattle.session_hall.proofs.Tapes.{after_drawing}
use Rattle.workload.specs.IsLoad.{HeldLoad, IsLoad, deed_words, draws}

-- ---- words are drawn

-- before the first step
pub first_tape : (seed : List ℕ) → IsTape (tape_of seed) 0 (live seed 0 0)
first_tape seed = record { live = refl; gives = λ at. refl; stands_at = refl }

module _ (tape words : ℕ → List ℕ) where
  -- of a Load, only the tape changed
  abbrev pub with_tape : HeldLoad → Strip → HeldLoad
  with_tape load strip = record { world = load.world; places = load.places; tape = strip; counts = load.counts }

  pub other_tape : (lines : ℕ) (load : HeldLoad) (strip : Strip) (l : Workload GameKind AnyG) (n : ℕ) → IsLoad tape words lines load l → IsTape words (l.drawn + n) strip → IsLoad tape words lines (with_tape load strip) (draws n l)
  other_tape lines load strip l n is drawn = record { world = is.world; places = is.places; drawn = drawn; counted = is.counted; few = is.few; held = is.held; read = is.read }

  none_more : (n : ℕ) → n + 0 ≡ n
  none_more n = omega arith

  -- a step begins
  pub begins : (lines : ℕ) (load : HeldLoad) (l : Workload GameKind AnyG) → IsLoad tape words lines load l → IsLoad tape words lines (with_tape load (next_action load.tape)) l
  begins lines load l is = record {
    world = is.world;
    places = is.places;
    drawn = subst (λ n. IsTape words n (next_action load.tape)) (none_more l.drawn) (after_drawing words l.drawn load.tape is.drawn 0 (next_action load.tape) (whole load.tape is.drawn.live));
    counted = is.counted;
    few = is.few;
    held = is.held;
    read = is.read;
  }
    where
      whole : (strip : Strip) → IsSome strip.source → next_action strip ≡ record (next_action strip) { used = (next_action strip).used + 0; left = (next_action strip).left }
      whole strip live = ap (λ n. record (next_action strip) { used = n }) (sym (none_more (next_action strip).used))

  with_source : (place : ℕ) (strip : Strip) → IsTape words place strip → (new : Strip) → new.source ≡ strip.source → (at : ℕ) → place_of new ≡ at % 2 ^ 64 → IsTape words at new
  with_source place strip t new e at p = record {
    live = subst (λ source. IsSome source) (sym e) t.live;
    gives = λ k. ap (λ source. words_of source k 256) e ∙ t.gives k;
    stands_at = p;
  }

  -- so many words more were drawn
  pub drawn_more : (lines : ℕ) (load : HeldLoad) (strip : Strip) (l : Workload GameKind AnyG) (n : ℕ) → IsLoad tape words lines load l → strip.source ≡ load.tape.source → strip.start ≡ load.tape.start
      → strip.used ≡ load.tape.used + n → IsLoad tape words lines (with_tape load strip) (draws n l)
  drawn_more lines load strip l n is source start used =
      other_tape lines load strip l n is
      (with_source l.drawn load.tape is.drawn strip source (l.drawn + n)
      (ap (λ s. (s + strip.used) % 2 ^ 64) start
      ∙ ap (λ k. (load.tape.start + k) % 2 ^ 64) used
      ∙ ap (λ k. k % 2 ^ 64) (regroup load.tape.start load.tape.used n)
      ∙ sym (mod-add-mod (load.tape.start + load.tape.used) (2 ^ 64) n)
      ∙ ap (λ k. (k + n) % 2 ^ 64) is.drawn.stands_at
      ∙ mod-add-mod l.drawn (2 ^ 64) n))
    where
      regroup : (a b c : ℕ) → a + (b + c) ≡ a + b + c
      regroup a b c = omega arith

-- ---- a step by its words

pub of_some : {A : Type 0} (found : Option A) (P : Type 0) → IsSome found → IfSome found (λ x. P) → P
of_some None P some h = absurd (cc)
of_some (Some x) P some h = h

pub first_is : {A : Type 0} (xs : List A) (x : A) → slice_get xs 0 ≡ Some x → (rest : List A) × (xs ≡ x ∷ rest)
first_is [] x e = absurd (cc)
first_is (y ∷ ys) x e = (ys, same e)
  where
    same : Some y ≡ Some x → y ∷ ys ≡ x ∷ ys
    same e = cc

pub some_first : {A : Type 0} (xs : List A) → 0 < length xs → (x : A) × (slice_get xs 0 ≡ Some x)
some_first [] e = absurd (omega (arith, e))
some_first (x ∷ xs) e = (x, refl)

module _ (tape words : ℕ → List ℕ) (l : Workload GameKind AnyG) where
  draws_twice : (n : ℕ) → draws n (draws 1 (draws 1 l)) ≡ draws (2 + n) l
  draws_twice n = ap (λ k. record l { drawn = k }) (all l.drawn n)
    where
      all : (d n : ℕ) → d + 1 + 1 + n ≡ d + (2 + n)
      all d n = omega arith

  pub steps_by : (lines c k first second third client deed : ℕ) (one two rest : List ℕ) (new : HeldLoad)
      → words l.drawn ≡ one → one ≡ first ∷ two → two ≡ second ∷ third ∷ rest → c ≡ die 14 first → k ≡ die 16 second → client ≡ c - 1 → deed ≡ k
      → IsLoad tape words lines new (goes named any_rules tape (step_of any_rules l.world client deed third) (draws (deed_words l.world client deed) (draws 1 (draws 1 l))))
      → IsLoad tape words lines new (takes_step named any_rules tape words l)
  steps_by lines c k first second third client deed one two rest new e f g p q r s is =
      subst (IsLoad tape words lines new)
      (ap (λ m. goes named any_rules tape (step_of any_rules l.world client deed third) m) (draws_twice (deed_words l.world client deed))
      ∙ ap (λ x. goes named any_rules tape (step_of any_rules l.world x deed third) (draws (2 + deed_words l.world x deed) l)) (r ∙ ap (λ x. x - 1) p)
      ∙ ap (λ x. goes named any_rules tape (step_of any_rules l.world (die 14 first - 1) x third) (draws (2 + deed_words l.world (die 14 first - 1) x) l)) (s ∙ q)
      ∙ sym (ap (λ ws. step_by named any_rules tape words l ws) (e ∙ f ∙ ap (λ ws. first ∷ ws) g)))
      is

-- ---- steps, one by one

pub record StepsLeft (tape words : ℕ → List ℕ) (lines : ℕ) (now : HeldLoad) (done left : ℕ) (end : Workload GameKind AnyG) : Type 0 where
  pub at : Workload GameKind AnyG
  pub stands : IsLoad tape words lines now at
  pub comes : steps_from named any_rules tape words done left at ≡ end

module _ (tape words : ℕ → List ℕ) where
  pub steps_first : (lines : ℕ) (now : HeldLoad) (l : Workload GameKind AnyG) (steps : ℕ) → IsLoad tape words lines now l → StepsLeft tape words lines now 0 steps (steps_from named any_rules tape words 0 steps l)
  steps_first lines now l steps is = record { at = l; stands = is; comes = refl }

  pub steps_last : (lines : ℕ) (now : HeldLoad) (done left : ℕ) (end : Workload GameKind AnyG) → StepsLeft tape words lines now done left end → left ≡ 0 → IsLoad tape words lines now end
  steps_last lines now done left end u none = subst (IsLoad tape words lines now) (ap (λ n. steps_from named any_rules tape words done n u.at) (sym none) ∙ u.comes) u.stands

  pub steps_next : (lines after : ℕ) (now new : HeldLoad) (done left rest : ℕ) (end : Workload GameKind AnyG) → (u : StepsLeft tape words lines now done left end) → left ≡ suc rest
      → IsLoad tape words after new (after_step named any_rules tape words (done + 1) rest (takes_step named any_rules tape words u.at)) → StepsLeft tape words after new (done + 1) rest end
  steps_next lines after now new done left rest end u e is = record {
    at = after_step named any_rules tape words (done + 1) rest (takes_step named any_rules tape words u.at);
    stands = is;
    comes = ap (λ n. steps_from named any_rules tape words done n u.at) (sym e) ∙ u.comes;
  }

-- ---- what a client does

module _ (w : World GameKind AnyG) (c word : ℕ) where
  -- by which of the numbers it is
  step_when : Bool → Bool → Bool → Bool → Bool → Step GameKind
  step_when two three four eight eleven =
      if two then Acts c (choice any_rules (w.clients c) word)
      else if three then Acts c (asked.Event EndTurn to.Nothing)
      else if four then Acts c asked.Undo
      else if eight then Arrives c
      else if eleven then Takes c
      else Reads c

  step_is : (k : ℕ) → step_of any_rules w c k word ≡ step_when (nat_le k 2) (k == 3) (k == 4) (nat_le k 8) (nat_le k 11)
  unfolding step_when
  step_is k = refl

  -- a number is above the first two
  step_above : (k : ℕ) (step : Step GameKind) → nat_le k 2 ≡ false → step_when false (k == 3) (k == 4) (nat_le k 8) (nat_le k 11) ≡ step → step_of any_rules w c k word ≡ step
  step_above k step e f = step_is k ∙ ap (λ b. step_when b (k == 3) (k == 4) (nat_le k 8) (nat_le k 11)) e ∙ f

  pub is_three : (k : ℕ) → nat_le k 2 ≡ false → (k == 3) ≡ true → step_of any_rules w c k word ≡ Acts c (asked.Event EndTurn to.Nothing)
  unfolding step_when
  is_three k e f = step_above k _ e (ap (λ b. step_when false b (k == 4) (nat_le k 8) (nat_le k 11)) f)

  above_three : (k : ℕ) (step : Step GameKind) → nat_le k 2 ≡ false → (k == 3) ≡ false → step_when false false (k == 4) (nat_le k 8) (nat_le k 11) ≡ step → step_of any_rules w c k word ≡ step
  above_three k step e f g = step_above k step e (ap (λ b. step_when false b (k == 4) (nat_le k 8) (nat_le k 11)) f ∙ g)

  pub is_four : (k : ℕ) → nat_le k 2 ≡ false → (k == 3) ≡ false → (k == 4) ≡ true → step_of any_rules w c k word ≡ Acts c asked.Undo
  unfolding step_when
  is_four k e f g = above_three k _ e f (ap (λ b. step_when false false b (nat_le k 8) (nat_le k 11)) g)

  above_four : (k : ℕ) (step : Step GameKind) → nat_le k 2 ≡ false → (k == 3) ≡ false → (k == 4) ≡ false → step_when false false false (nat_le k 8) (nat_le k 11) ≡ step → step_of any_rules w c k word ≡ step
  above_four k step e f g h = above_three k step e f (ap (λ b. step_when false false b (nat_le k 8) (nat_le k 11)) g ∙ h)

  pub is_eight : (k : ℕ) → nat_le k 2 ≡ false → (k == 3) ≡ false → (k == 4) ≡ false → nat_le k 8 ≡ true → step_of any_rules w c k word ≡ Arrives c
  unfolding step_when
  is_eight k e f g h = above_four k _ e f g (ap (λ b. step_when false false false b (nat_le k 11)) h)

  pub is_eleven : (k : ℕ) → nat_le k 2 ≡ false → (k == 3) ≡ false → (k == 4) ≡ false → nat_le k 8 ≡ false → nat_le k 11 ≡ true → step_of any_rules w c k word ≡ Takes c
  unfolding step_when
  is_eleven k e f g h i = above_four k _ e f g (ap (λ b. step_when false false false b (nat_le k 11)) h ∙ ap (λ b. step_when false false false false b) i)

  pub is_above : (k : ℕ) → nat_le k 2 ≡ false → (k == 3) ≡ false → (k == 4) ≡ false → nat_le k 8 ≡ false → nat_le k 11 ≡ false → step_of any_rules w c k word ≡ Reads c
  unfolding step_when
  is_above k e f g h i = above_four k _ e f g (ap (λ b. step_when false false false b (nat_le k 11)) h ∙ ap (λ b. step_when false false false false b) i)

-- a step for which no word is drawn
pub goes_as : (tape words : ℕ → List ℕ) (lines : ℕ) (new : HeldLoad) (l : Workload GameKind AnyG) (c k word : ℕ) (step : Step GameKind) → nat_le k 2 ≡ false → step_of any_rules l.world c k word ≡ step
    → IsLoad tape words lines new (goes named any_rules tape step l)
    → IsLoad tape words lines new (goes named any_rules tape (step_of any_rules l.world c k word) (draws (deed_words l.world c k) l))
goes_as tape words lines new l c k word step above e is =
    subst (IsLoad tape words lines new)
    (ap (λ x. goes named any_rules tape x l) (sym e)
    ∙ ap (λ n. goes named any_rules tape (step_of any_rules l.world c k word) (record l { drawn = n })) (no_more l.drawn)
    ∙ ap (λ b. goes named any_rules tape (step_of any_rules l.world c k word) (draws (if b then choice_words any_rules (l.world.clients c) else 0) l)) (sym above))
    is
  where
    no_more : (n : ℕ) → n ≡ n + 0
    no_more n = omega arith

-- ---- a new round

pub new_round : (tape words : ℕ → List ℕ) (done left : ℕ) (l : Workload GameKind AnyG) → ((done % round_steps == 0) && not (left == 0)) ≡ true
    → begins_round named any_rules tape (ends_round named any_rules tape l) ≡ after_step named any_rules tape words done left l
new_round tape words done left l e = sym (ap (λ b. if b then begins_round named any_rules tape (ends_round named any_rules tape l) else l) e)
