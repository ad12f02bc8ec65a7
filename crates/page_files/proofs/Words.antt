-- Where bytes begin so.
use Rattle.std.proofs.Common.{◌≡◌, ◌<◌, ◌≤◌, ◌||◌, ◌∙◌, ℕ, zero, suc, List, [], ◌∷◌, Bool, true, false, drop, length, refl, sym, ap, arith}
use Rattle.page_files.specs.Heads.{anywhere}

-- they do at this place, or behind it
pub anywhere_at : (starts : List ℕ → Bool) (bytes : List ℕ) (at : ℕ) → at < length bytes → starts (drop at bytes) ≡ true → anywhere starts (drop at bytes) ≡ true
unfolding anywhere
anywhere_at starts [] at within now = absurd (omega (arith, within))
anywhere_at starts (b ∷ bytes) zero within now = ap (λ x. x || anywhere starts bytes) now
anywhere_at starts (b ∷ bytes) (suc at) within now = anywhere_at starts bytes at (omega (arith, within)) now

pub anywhere_behind : (starts : List ℕ → Bool) (bytes : List ℕ) (at : ℕ) → at < length bytes → starts (drop at bytes) ≡ false → anywhere starts (drop 1 (drop at bytes)) ≡ anywhere starts (drop at bytes)
unfolding anywhere
anywhere_behind starts [] at within now = absurd (omega (arith, within))
anywhere_behind starts (b ∷ bytes) zero within now = sym (ap (λ x. x || anywhere starts bytes) now)
anywhere_behind starts (b ∷ bytes) (suc at) within now = anywhere_behind starts bytes at (omega (arith, within)) now

-- they do nowhere behind the last byte
pub anywhere_past : (starts : List ℕ → Bool) (bytes : List ℕ) (at : ℕ) → length bytes ≤ at → anywhere starts (drop at bytes) ≡ false
unfolding anywhere
anywhere_past starts [] zero past = refl
anywhere_past starts [] (suc at) past = refl
anywhere_past starts (b ∷ bytes) zero past = absurd (omega (arith, past))
anywhere_past starts (b ∷ bytes) (suc at) past = anywhere_past starts bytes at (omega (arith, past))
