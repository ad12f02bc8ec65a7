-- Passes of all rooms: those that each room has dealt, those that each place has, and what they have seen.
use Rattle.std.specs.Prelude.{◌≡◌, ℕ, ◌+◌, zero, suc, List, [], ◌∷◌, ◌++◌, map, All}
use Rattle.room_desk.specs.History.{SetUp, dealt}
use Rattle.session_pool.specs.Passes.{Pass, dealt_by}
use Rattle.session_pool.specs.Watched.{History}

-- the first passes of each room, as if they had seen nothing
abbrev pub dealt_to : List SetUp → ℕ → List (List Pass)
dealt_to desks n = map (λ (d : SetUp). dealt [] d.desk n) desks

-- the passes of one number, which have seen nothing
abbrev pub row_of : List SetUp → ℕ → List Pass
row_of desks number = map (dealt_by number) desks

-- the passes of so many numbers, from one on
abbrev pub rows_from : List SetUp → ℕ → ℕ → List (List Pass)
rows_from desks k zero = []
rows_from desks k (suc n) = row_of desks k ∷ rows_from desks (k + 1) n

-- so many numbers, from one on
abbrev pub numbers : ℕ → ℕ → List ℕ
numbers k zero = []
numbers k (suc n) = numbers k n ++ (k + n) ∷ []

-- rooms stand for these histories, one by one
abbrev pub StandFor : {B : Type 0} → (B → History → Type 0) → List B → List History → Type 0
StandFor stands_for [] [] = Unit {0}
StandFor stands_for (room ∷ rooms) (h ∷ histories) = stands_for room h × StandFor stands_for rooms histories
StandFor stands_for rooms histories = ⊥

-- the passes of each room have seen its history, and no more
abbrev pub HaveSeen : List (List Pass) → List History → Type 0
HaveSeen [] [] = Unit {0}
HaveSeen (passes ∷ rooms) (h ∷ histories) = All (λ p. p.seen ≡ h) passes × HaveSeen rooms histories
HaveSeen rooms histories = ⊥
