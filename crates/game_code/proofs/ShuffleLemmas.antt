-- A shuffle, one exchange at a time.
use Rattle.std.proofs.Common.{◌≡◌, ℕ, zero, suc, ◌+◌, ◌-◌, ◌<◌, List, [], ◌∷◌, ap, ◌∙◌, sym, arith}
use Rattle.dice_words.specs.Dice.{die}
use Rattle.game_code.specs.Runs.{shuffled_down}
use Rattle.game_sheet.specs.declared.act.Event.{Event}
use Rattle.game_slots.specs.declared.work_table.WorkTable.{WorkTable}
use Rattle.game_trait.specs.Deed.{Deed, Done, GaveUp, Lack, Spent}

module _ (swap : ℕ → ℕ → WorkTable → WorkTable) where
  pub down_done : (i : ℕ) (held : WorkTable) (left : List ℕ) (queued : List Event) → i ≡ 0 → shuffled_down swap i held left queued ≡ Done held left queued
  down_done i held left queued none = ap (λ k. shuffled_down swap k held left queued) none

  pub down_out : (i : ℕ) (held : WorkTable) (left : List ℕ) (queued : List Event) → 0 < i → left ≡ [] → shuffled_down swap i held left queued ≡ GaveUp Spent
  down_out zero held left queued more none = absurd (omega (arith, more))
  down_out (suc i) held left queued more none = ap (λ words. shuffled_down swap (suc i) held words queued) none

  pub down_step : (i j word : ℕ) (held : WorkTable) (left rest : List ℕ) (queued : List Event) → i ≡ suc j → left ≡ word ∷ rest
      → shuffled_down swap i held left queued ≡ shuffled_down swap j (swap i (die (i + 1) word - 1) held) rest queued
  down_step i j word held left rest queued at first =
      ap (λ k. shuffled_down swap k held left queued) at ∙ ap (λ words. shuffled_down swap (suc j) held words queued) first
      ∙ ap (λ k. shuffled_down swap j (swap k (die (k + 1) word - 1) held) rest queued) (sym at)
