-- One history for all passes of a desk: what a pass has seen of it, what a call adds to it, and what the passes have together.
-- A history is the list of its entries, the latest first.
use Rattle.std.specs.Prelude.{ℕ, ◌≡◌, ◌==◌, zero, suc, List, [], ◌∷◌, ◌++◌, filter, All, Any}
use Rattle.atomic_table.specs.Seated.{TableId}
use Rattle.room_object.specs.Entry.{Entry}

-- which desk it is, and the number of its object
pub record DeskId : Type 0 where
  pub table : TableId
  pub object : ℕ

-- a desk: which it is, and how many passes it was set up with
pub record SetUp : Type 0 where
  pub desk : DeskId
  pub passes : ℕ

-- a pass: its desk, its number, what its desk's object stood for when the desk was set up, and the history that it has seen
pub record Held (C : Type 0) : Type 0 where
  pub desk : DeskId
  pub number : ℕ
  pub before : List (Entry C)
  pub seen : List (Entry C)

abbrev pub held : {C : Type 0} → DeskId → ℕ → List (Entry C) → List (Entry C) → Held C
held desk number before seen = record { desk = desk; number = number; before = before; seen = seen }

-- the passes of a new desk, numbered from 0: its object stood for this history, which they have all seen
abbrev pub dealt : {C : Type 0} → List (Entry C) → DeskId → ℕ → List (Held C)
dealt past desk zero = []
dealt past desk (suc n) = dealt past desk n ++ held desk n past past ∷ []

module _ {C : Type 0} where
  -- the entries of one pass
  abbrev pub of_pass : ℕ → List (Entry C) → List (Entry C)
  of_pass number h = filter (λ e. e.pass == number) h

  -- the history began as what was seen, and later entries came on top
  abbrev pub Begins : List (Entry C) → List (Entry C) → Type 0
  Begins h seen = (later : List (Entry C)) × (h ≡ later ++ seen)

  -- A call, as an entry, by a pass that had seen this much. The history after it began as what was seen, and ends with the call; of the pass's own calls it has
  -- those that it had and this one; and the reply is that of the object at this point.
  pub record Called {R : Type 0} (reply : List (Entry C) → Entry C → R) (seen : List (Entry C)) (call : Entry C) (replied : R) (after : List (Entry C)) : Type 0 where
    pub between : List (Entry C)
    pub ends : after ≡ call ∷ (between ++ seen)
    pub own : of_pass call.pass after ≡ call ∷ of_pass call.pass seen
    pub answered : replied ≡ reply (between ++ seen) call

  -- One history, which goes on from what the object stood for when the desk was set up. It begins with what each pass had seen, which goes on from there too;
  -- it has of each pass the calls that it made, each once, and later than what came before the desk it has no others.
  pub record Unites (passes : List (Held C)) (h : List (Entry C)) : Type 0 where
    pub past : List (Entry C)
    pub later : List (Entry C)
    pub split : h ≡ later ++ past
    pub before : All (λ p. p.before ≡ past) passes
    pub since : All (λ p. Begins p.seen past) passes
    pub begins : All (λ p. Begins h p.seen) passes
    pub own : All (λ p. of_pass p.number h ≡ of_pass p.number p.seen) passes
    pub no_others : All (λ e. Any (λ p. p.number ≡ e.pass) passes) later
