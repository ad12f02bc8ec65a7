use Rattle.std.proofs.Common.{◌≡◌, ◌≤◌, ℕ, zero, suc, Bool, true, false, ◌&&◌, List, [], ◌∷◌, length, take, refl, sym, subst, arith}
use Rattle.std.specs.List.{list_all}
use Rattle.game_sheet.specs.Lines.{is_line}
use Rattle.match_master.proofs.outbox.Outbox.unstage.Goals as goal

all_and : (a b : Bool) → (a && b) ≡ true → (a ≡ true) × (b ≡ true)
all_and true b h = (refl, h)
all_and false b h = cc

-- what holds of all holds of the first of them
all_taken : {A : Type 0} (p : A → Bool) (n : ℕ) (xs : List A) → list_all p xs ≡ true → list_all p (take n xs) ≡ true
all_taken p zero xs h = refl
all_taken p (suc n) [] h = refl
all_taken p (suc n) (x ∷ xs) h = rw ((all_and (p x) (list_all p xs) h).0) (all_taken p n xs (all_and (p x) (list_all p xs) h).1)

taken_long : {A : Type 0} (n : ℕ) (xs : List A) → n ≤ length xs → n ≤ length (take n xs)
taken_long zero xs h = omega arith
taken_long (suc n) [] h = omega arith
taken_long (suc n) (x ∷ xs) h = omega (arith, taken_long n xs (omega arith))

pub invariant_of-self : goal.invariant_of-self
invariant_of-self c =
    let i = c.self.invariant in
    rw c.truncate.ensures.items (taken_long c.self.inside.waiting c.self.inside.lines.items i.0, i.1, i.1, all_taken (λ line. is_line line.value.items) c.self.inside.waiting c.self.inside.lines.items i.3)
