-- What a desk's table keeps between any two steps: one history, the tickets that are out, and who may add to the history.
use Rattle.std.specs.Prelude.{ℕ, zero, suc, ◌≡◌, ◌≢◌, ◌+◌, ◌%◌, ◌^◌, ◌<◌, ◌≤◌, ◌⊎◌, Bool, true, false, List, [], ◌∷◌, ◌++◌, length, Option, Some, None}
use mathlib.Core.Option.{some, none}
use mathlib.Core.Option as maybe
use lib.ListN.{get_elem?}
use Rattle.atomic_table.specs.Table.{State}
use Rattle.room_object.specs.Entry.{Entry}
use Rattle.room_desk.specs.History.{of_pass, Begins}
use Rattle.room_desk.specs.declared.desk.TheConstants.{MOST_PASSES}

-- the number of a pass; what came before the desk was open, once it is; and the history that was seen under the number
pub record Past (C : Type 0) : Type 0 where
  pub number : ℕ
  pub before : List (Entry C)
  pub seen : List (Entry C)

-- What a seat knows: the number of the object, once the desk is open; the pasts of the passes that it stands for;
-- its ticket, if it has drawn one; and whether it holds the turn, so that the object's slot is out with it.
pub record View (C : Type 0) : Type 0 where
  pub object : Option ℕ
  pub pasts : List (Past C)
  pub ticket : Option ℕ
  pub turn : Bool

-- x is one of the list
abbrev pub Has : {A : Type 0} → List A → A → Type 0
Has [] x = ⊥
Has (y ∷ ys) x = (y ≡ x) ⊎ Has ys x

abbrev pub total : {A : Type 0} → (A → ℕ) → List A → ℕ
total f [] = 0
total f (x ∷ xs) = f x + total f xs

abbrev pub how_many : Option ℕ → ℕ
how_many None = 0
how_many (Some ticket) = 1

module _ {C : Type 0} where
  abbrev pub past : ℕ → List (Entry C) → List (Entry C) → Past C
  past number before seen = record { number = number; before = before; seen = seen }

  abbrev pub view : Option ℕ → List (Past C) → Option ℕ → Bool → View C
  view object pasts ticket turn = record { object = object; pasts = pasts; ticket = ticket; turn = turn }

  -- n passes, numbered from k: this history came before, and they have seen it
  abbrev pub fresh : List (Entry C) → ℕ → ℕ → List (Past C)
  fresh seen k zero = []
  fresh seen k (suc n) = past k seen seen ∷ fresh seen (k + 1) n

  -- the first seat, before the desk is open
  abbrev pub untold : ℕ → View C
  untold count = view None (fresh [] 0 count) None false

  -- the same passes, told what came before, which they have all seen now
  abbrev pub told : List (Entry C) → List (Past C) → List (Past C)
  told seen [] = []
  told seen (x ∷ xs) = past x.number seen seen ∷ told seen xs

  abbrev pub pasts_of : View C → ℕ
  pasts_of v = length v.pasts

  abbrev pub tickets_of : View C → ℕ
  tickets_of v = how_many v.ticket

  -- of a seat that stands for one pass: its number, what came before, and what was seen under the number
  abbrev pub number_in : List (Past C) → ℕ
  number_in [] = 0
  number_in (x ∷ xs) = x.number

  abbrev pub before_in : List (Past C) → List (Entry C)
  before_in [] = []
  before_in (x ∷ xs) = x.before

  abbrev pub seen_in : List (Past C) → List (Entry C)
  seen_in [] = []
  seen_in (x ∷ xs) = x.seen

  -- no two of these have one number
  abbrev pub Distinct : List (Past C) → Type 0
  Distinct [] = Unit {0}
  Distinct (x ∷ xs) = ((y : Past C) → Has xs y → y.number ≢ x.number) × Distinct xs

  -- The seat j fits the history. The object's number is noted; each of its passes is at this seat alone, once, knows what came before the desk was open, and has seen
  -- a beginning of the history, which has in it all that came before and all of the pass's entries; a ticket is one that is out; and who holds the turn has the
  -- ticket that is next, and has seen the whole history.
  pub record Fits (name : ℕ) (before log : List (Entry C)) (turns drawn : ℕ) (seat_of : ℕ → ℕ) (j : ℕ) (v : View C) : Type 0 where
    pub named : 0 < pasts_of v → v.object ≡ Some name
    pub own : (x : Past C) → Has v.pasts x
        → (seat_of x.number ≡ j) × Begins log x.seen × (of_pass x.number log ≡ of_pass x.number x.seen) × Begins x.seen before × (x.before ≡ before)
    pub distinct : Distinct v.pasts
    pub ticket : (t : ℕ) → v.ticket ≡ Some t → (turns ≤ t) × (t < drawn)
    pub owned : tickets_of v ≤ pasts_of v
    pub turn : v.turn ≡ true → (v.ticket ≡ Some turns) × (v.pasts ≡ past (number_in v.pasts) (before_in v.pasts) log ∷ [])

  -- the seat j has the pass number
  abbrev pub Holder : List (View C) → ℕ → ℕ → Type 0
  Holder views j number = (v : View C) × (get_elem? views j ≡ some v) × ((x : Past C) × Has v.pasts x × (x.number ≡ number))

module _ {C O : Type 0} (number : O → ℕ) (stands_for : O → List (Entry C) → Type 0) where
  -- nobody holds the turn: the slot is at home, and its object stands for the whole history
  abbrev pub AtHome : ℕ → List (Entry C) → List (maybe.Option (Option O)) → List (View C) → Type 0
  AtHome name log homes views = (o : O) × (homes ≡ some (Some o) ∷ []) × (number o ≡ name) × stands_for o log × ((j : ℕ) (v : View C) → get_elem? views j ≡ some v → v.turn ≡ false)

  -- some seat holds the turn, and the slot is out with it
  abbrev pub IsOut : List (maybe.Option (Option O)) → List (View C) → Type 0
  IsOut homes views = (homes ≡ none ∷ []) × ((j : ℕ) × (v : View C) × (get_elem? views j ≡ some v) × (v.turn ≡ true))

  -- an open desk of so many passes, whose words count the tickets drawn and the turns passed on
  pub record Turns (count : ℕ) (s : State (Option O) (View C)) : Type 0 where
    -- The object's number; the history so far, which is what came before the desk was open and what came later; how many turns were passed on and how many
    -- tickets were drawn; and which seat has which pass.
    pub name : ℕ
    pub past : List (Entry C)
    pub later : List (Entry C)
    pub log : List (Entry C)
    pub split : log ≡ later ++ past
    pub turns : ℕ
    pub drawn : ℕ
    pub seat_of : ℕ → ℕ
    pub words : s.words ≡ (drawn % 2 ^ 64) ∷ (turns % 2 ^ 64) ∷ []
    -- the seats have all passes, and the tickets of the turns to come, each once
    pub pasts : total pasts_of s.views ≡ count
    pub small : count ≤ MOST_PASSES
    pub tickets : total tickets_of s.views + turns ≡ drawn
    pub fits : (j : ℕ) (v : View C) → get_elem? s.views j ≡ some v → Fits name past log turns drawn seat_of j v
    pub apart : (i j : ℕ) (v w : View C) (t : ℕ) → get_elem? s.views i ≡ some v → get_elem? s.views j ≡ some w → v.ticket ≡ Some t → w.ticket ≡ Some t → i ≡ j
    -- a pass that no seat has made no call since the desk was open
    pub known : (p : ℕ) → (of_pass p later ≡ []) ⊎ Holder s.views (seat_of p) p
    pub slot : AtHome name log s.homes s.views ⊎ IsOut s.homes s.views

  -- a desk whose object isn't in its slot yet: there is one seat, and both words are 0
  abbrev pub Unopened : ℕ → Bool → maybe.Option (Option O) → State (Option O) (View C) → Type 0
  Unopened count taken home s =
      (s.words ≡ 0 ∷ 0 ∷ []) × (s.views ≡ view None (fresh [] 0 count) None taken ∷ []) × (s.homes ≡ home ∷ []) × (0 < count) × (count ≤ MOST_PASSES)

  -- the rule: the desk isn't open, its slot being at home or taken to put the object in, or it is open
  abbrev pub Desked : ℕ → State (Option O) (View C) → Type 0
  Desked count s = (Unopened count false (some None) s ⊎ Unopened count true none s) ⊎ Turns count s
