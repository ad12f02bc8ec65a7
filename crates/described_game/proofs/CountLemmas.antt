-- Counts that are told apart so far.
use Rattle.std.proofs.Common.{◌≡◌, ℕ, zero, suc, ◌+◌, ◌*◌, ◌<◌, arith}
use Rattle.std.proofs.Math.Nat.{mul-zero}
use Rattle.described_game.specs.Offers.{capped}

-- where there is a row of several ranges, there is one of all but the first
pub counted : (n a c : ℕ) → n < capped (a * c) → 0 < c
counted n a zero less = absurd (omega (arith, less, mul-zero a))
counted n a (suc c) less = omega arith

pub capped_sum : (a b : ℕ) → capped (capped a + b) ≡ capped (a + b)
capped_sum a b = omega arith
