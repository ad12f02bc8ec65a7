-- The seats from 0, as a loop adds them, and that they are a play order.
use Rattle.std.proofs.Common.{◌≡◌, ℕ, zero, suc, ◌+◌, ◌<◌, ◌≤◌, [], ◌∷◌, ◌++◌, length, All, arith, ap, ◌∙◌}
use Rattle.std.specs.List.{range_with_len}
use Rattle.std.proofs.lemmas.List.FromFn.{length-range_with_len, get_or-range_with_len}
use Rattle.turn_order.specs.PlayOrder.{all_seats, IsPlayOrder}

range_next : (a n : ℕ) → range_with_len a n ++ (a + n) ∷ [] ≡ range_with_len a (suc n)
range_next a zero = let e : a + 0 ≡ a = omega arith in ap (λ x. x ∷ []) e
range_next a (suc n) = let e : a + suc n ≡ a + 1 + n = omega arith in ap (λ l. a ∷ l) (ap (λ x. range_with_len (a + 1) n ++ x ∷ []) e ∙ range_next (a + 1) n)

pub range_more : (n : ℕ) → range_with_len 0 n ++ n ∷ [] ≡ range_with_len 0 (n + 1)
range_more n =
    let from : n ≡ 0 + n = omega arith in
    let more : suc n ≡ n + 1 = omega arith in
    ap (λ x. range_with_len 0 n ++ x ∷ []) from ∙ range_next 0 n ∙ ap (range_with_len 0) more

range_below : (n most : ℕ) → n ≤ most → All (λ seat. seat < most) (range_with_len 0 n)
range_below n most h = λ k d lt.
    let inside : k < n = omega (arith, length-range_with_len 0 n) in
    let low : 0 + k < most = omega arith in
    rw (get_or-range_with_len 0 n k d inside) low

pub all_seats_serve : (seats : ℕ) → 1 ≤ seats → seats ≤ 64 → IsPlayOrder seats (all_seats seats)
all_seats_serve seats least most =
    let long : length (range_with_len 0 seats) ≡ seats = length-range_with_len 0 seats in
    record {
      least = omega arith;
      most = omega arith;
      inside = range_below seats seats (omega arith);
    }
