-- The number of passes that belong to the desks.
use Rattle.std.proofs.Common.{◌≡◌, ◌<◌, ℕ, List, [], ◌∷◌, length, arith, ap}
use Rattle.room_desk.specs.History.{SetUp}
use Rattle.session_pool.specs.Passes.{Belong, Pass, dealt_by, number_of, unseen}

pub number_is : (desks : List SetUp) (number : ℕ) (passes : List Pass) → 0 < length desks → Belong desks number passes → number_of passes ≡ number
number_is [] number passes some b = absurd (omega (arith, some))
number_is (d ∷ desks) number [] some b = absurd (cc)
number_is (d ∷ desks) number (p ∷ passes) some b =
    let first : unseen p ≡ dealt_by number d = cc in
    ap (λ (q : Pass). q.number) first
