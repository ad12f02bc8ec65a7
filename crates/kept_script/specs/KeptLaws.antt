-- The steps of a script over a kept room are run one by one.
use Rattle.std.proofs.Common.{ℕ, List, refl}
use Rattle.line_runner.specs.Play.{IsPlay}
use Rattle.kept_script.specs.KeptDoing.{kept_doing}
use Rattle.kept_script.specs.KeptPlay.{kept_play}

module _ {D : Type 0} (is_told : D → Type 0) (seen : D → List ℕ) (may_leave : D → List ℕ → Type 0) (moment : D → ℕ) (left_since : D → ℕ → List ℕ → Type 0) (faults : D → ℕ) where
  pub kept_is_played : IsPlay kept_play (kept_doing is_told seen may_leave moment left_since faults)
  unfolding kept_play kept_doing
  kept_is_played = record { none = λ marks s. refl; more = λ mark marks step steps s. refl; tells = λ marks lines. tt }
