-- What a line has printed on top of whatever a sink held, also where the sink doesn't tell it.
use Rattle.std.proofs.Common.{◌≡◌, ℕ, List, [], ◌++◌, take, Option, Some, None, IsSome, refl, sym, ap, ◌∙◌, subst}
use Rattle.board_links.specs.Pieces.{Writes, told_bytes}
use Rattle.board_links.specs.declared.sink.Put.TheVariants as put
use Rattle.line_runner.specs.Play.{Doing, DoesLine, Play}
use Rattle.line_runner.specs.Running.{RanOn, StoppedIn}

same_some : {A : Type 0} (x y : A) → Some x ≡ Some y → x ≡ y
same_some x y e = cc

no_some : {A : Type 0} (x : A) → None ≡ Some x → ⊥
no_some x e = cc

module _ {Mark Step State Held : Type 0} (p : Play Mark Step State) (d : Doing Mark Step State Held) (s : State) (line : List ℕ) (hall : Held) (before text shown : List ℕ) (none : before ≡ []) (is : shown ≡ text) (does : DoesLine p d s line hall before text) where
  text_is : shown ≡ (d.does does.does.mark does.step s).1
  text_is = is ∙ does.does.added ∙ ap (λ b. b ++ (d.does does.does.mark does.step s).1) none

  -- all of it
  pub printed_on : (old new : Option (List ℕ)) → (IsSome old → Writes put.Done shown (told_bytes old) new) → (held : List ℕ)
      → (after : Option (List ℕ)) × RanOn p d s line hall held after × (old ≡ Some held → new ≡ after)
  printed_on old new writes held = (
    Some (held ++ (d.does does.does.mark does.step s).1),
    record { mark = does.does.mark; step = does.step; in_form = does.in_form; stands = does.does.stands; added = refl },
    λ e. writes (subst IsSome (sym e) refl) ∙ ap (λ o. Some (told_bytes o ++ shown)) e ∙ ap (λ t. Some (held ++ t)) text_is,
  )

  -- a first part of it
  stopped_by : (n : ℕ) (old new : Option (List ℕ)) (held : List ℕ) → (old ≡ Some held → new ≡ Some (held ++ take n (d.does does.does.mark does.step s).1))
      → (after : Option (List ℕ)) × StoppedIn p d s line hall held after × (old ≡ Some held → new ≡ after)
  stopped_by n old new held tells = (
    Some (held ++ take n (d.does does.does.mark does.step s).1),
    record { mark = does.does.mark; step = does.step; in_form = does.in_form; stands = does.does.stands; printed_bytes = n; added = refl },
    tells,
  )

  pub stopped_on : (old new : Option (List ℕ)) → (IsSome old → Writes put.Failed shown (told_bytes old) new) → (held : List ℕ)
      → (after : Option (List ℕ)) × StoppedIn p d s line hall held after × (old ≡ Some held → new ≡ after)
  stopped_on None new writes held = stopped_by 0 None new held (λ e. absurd (no_some held e))
  stopped_on (Some xs) new writes held =
      let wrote = writes refl in
      stopped_by wrote.0 (Some xs) new held (λ e. wrote.1 ∙ ap (λ h. Some (h ++ take wrote.0 shown)) (same_some xs held e) ∙ ap (λ t. Some (held ++ take wrote.0 t)) text_is)
