-- One round more is done, or the rounds give up at it.
use Rattle.std.proofs.Common.{◌≡◌, ℕ, suc, ◌+◌, ◌-◌, ◌<◌, ℤ, Option, List, Result, Err, sym, ap, ◌∙◌, arith}
use Rattle.game_code.specs.Runs.{Runs, Step, rounds, then_do}
use Rattle.game_sheet.specs.declared.act.Event.{Event}
use Rattle.game_slots.specs.declared.work_table.WorkTable.{WorkTable}
use Rattle.game_trait.specs.Deed.{Deed, Done, GaveUp, Lack}
use Rattle.game_trait.specs.declared.halt.HookHalt.{HookHalt}
use Rattle.game_trait.specs.declared.halt.HookHalt.TheVariants.{Spent as HookSpent, Crowded as HookCrowded, NoMemory as HookNoMemory}
use Rattle.slot_values.specs.Spans.{next}

module _ (body : Option ℤ → Step) (n k : ℕ) (i : Option ℤ) (held : WorkTable) (left : List ℕ) (queued : List Event) (below : k < n) where
  one_round : rounds body (n - k) i held left queued ≡ then_do (body i held left queued) (rounds body (n - (k + 1)) (next i))
  one_round = let one : n - k ≡ suc (n - (k + 1)) = omega (arith, below) in ap (λ m. rounds body m i held left queued) one

  pub round_more : (j : Option ℤ) (after : WorkTable) (rest : List ℕ) (events : List Event) (all : Deed WorkTable Lack) → j ≡ next i → body i held left queued ≡ Done after rest events
      → rounds body (n - k) i held left queued ≡ all → rounds body (n - (k + 1)) j after rest events ≡ all
  round_more j after rest events all is_next done known =
      ap (λ at. rounds body (n - (k + 1)) at after rest events) is_next ∙ sym (ap (λ m. then_do m (rounds body (n - (k + 1)) (next i))) done) ∙ sym one_round ∙ known

  pub round_stops : (A B : Type 0) (e : HookHalt) (after : WorkTable) (rest : List ℕ) (events : List Event) (all : Deed WorkTable Lack) → Runs {A = A} (Err e) after rest events (body i held left queued)
      → rounds body (n - k) i held left queued ≡ all → Runs {A = B} (Err e) after rest events all
  round_stops A B HookSpent after rest events all is known = (sym known ∙ one_round ∙ ap (λ m. then_do m (rounds body (n - (k + 1)) (next i))) is.0, is.1)
  round_stops A B HookCrowded after rest events all is known = (sym known ∙ one_round ∙ ap (λ m. then_do m (rounds body (n - (k + 1)) (next i))) is.0, is.1)
  round_stops A B HookNoMemory after rest events all is known = tt
