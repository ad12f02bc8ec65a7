-- What is known of a door under its lock, and how its serving ends.
use Rattle.std.specs.Prelude.{◌≡◌, ◌≤◌, ◌+◌, ◌⊎◌, min, ℕ, List, [], All, IsSome, is_some, Option, Some, None, Bool, true}
use Rattle.board_links.specs.Faults.{HasRisen}
use Rattle.board_links.specs.Doors.{IsFresh, Returned, one_bot, one_other, sort_of}
use Rattle.board_links.specs.declared.link.Came.{Came}
use Rattle.board_links.specs.declared.link.SessionEnd.{SessionEnd}
use Rattle.link_rounds.specs.Turns.{Session}
use Rattle.link_rounds.specs.declared.gate.DoorEnd.{DoorEnd}
use Rattle.link_rounds.specs.declared.gate.DoorEnd.TheVariants as door
use Rattle.link_rounds.specs.declared.gate.Next.{Next}
use Rattle.link_rounds.specs.declared.gate.Next.TheVariants as next

-- the links that are out, bots' and others, those that were given, and why no more are taken
pub record GateState : Type 0 where
  pub total : ℕ
  pub bots : ℕ
  pub count : ℕ
  pub end : Option DoorEnd

-- of a door that held so many links when it was handed in: so many are left of them as weren't given
abbrev pub Leaves : Option ℕ → Option ℕ → ℕ → Type 0
Leaves None left count = Unit {0}
Leaves (Some held) left count = (l : ℕ) × (left ≡ Some l) × (count + l ≡ held)

-- the lesser of the sessions and the links that the door held, where it told them
abbrev pub IsLesser : Option ℕ → ℕ → ℕ → Type 0
IsLesser None sessions count = Unit {0}
IsLesser (Some held) sessions count = count ≡ min sessions held

-- why no link is taken any more: the door is shut or gave its last session, it failed, or there was no memory. It failed exactly where its count of
-- faults rose.
abbrev pub Ended : ℕ → ℕ → Option ℕ → Bool → ℕ → ℕ → Option DoorEnd → Type 0
Ended sessions before held shut faults count None = faults ≡ before
Ended sessions before held shut faults count (Some door.Done) = ((shut ≡ true) ⊎ (count ≡ sessions)) × IsLesser held sessions count × (faults ≡ before)
Ended sessions before held shut faults count (Some door.DoorFault) = HasRisen before faults
Ended sessions before held shut faults count (Some door.NoMemory) = faults ≡ before

-- so many links were given as are counted, and so many of each sort are out as its ledger says
pub record Counted (sessions before : ℕ) (held : Option ℕ) (given out bots_out : ℕ) (shut : Bool) (faults : ℕ) (left : Option ℕ) (total bots count most : ℕ) (end : Option DoorEnd) : Type 0 where
  pub most_is : sessions ≡ most
  pub given_is : given ≡ count
  pub out_is : out ≡ total
  pub bots_are : bots_out ≡ bots
  pub within : count ≤ most
  pub never_falls : before ≤ faults
  pub leaves : Leaves held left count
  pub ended : Ended sessions before held shut faults count end

module _ {L : Type 0} where
  -- how many bots' links were taken, and how many others
  abbrev pub takes_bot : Bool → (L → Bool) → Next L → ℕ
  takes_bot has_bots is_bot (next.Came link) = one_bot (sort_of has_bots is_bot link)
  takes_bot has_bots is_bot other = 0

  abbrev pub takes_other : Bool → (L → Bool) → Next L → ℕ
  takes_other has_bots is_bot (next.Came link) = one_other (sort_of has_bots is_bot link)
  takes_other has_bots is_bot other = 0

  -- a link that is taken is fresh
  abbrev pub TakesFresh : (L → ℕ) → (L → Option SessionEnd) → (L → Option (List Came)) → (L → Option (List ℕ)) → Next L → Type 0
  TakesFresh faults finished answers sent (next.Came link) = IsFresh (faults link) (finished link) (answers link) (sent link)
  TakesFresh faults finished answers sent other = Unit {0}

  -- no link is taken any more only if there is an end
  abbrev pub IsOver : Next L → Option DoorEnd → Type 0
  IsOver next.Over end = is_some end ≡ true
  IsOver answer end = Unit {0}

module _ {S : Type 0} (turn : S → List Came → List ℕ → Option SessionEnd → S → Option (List Came) → Option (List ℕ) → Type 0) (leave : S → S → Type 0) (rests : S → Type 0) (known : S → Type 0) where
  -- of a link that came back: where the service that served it stood in the end is known, and all that the link tells was told in turns of its
  -- own, from its first byte to its end, by a service that had no session before
  abbrev pub WasServed : SessionEnd → Option (List Came) → Option (List ℕ) → Type 0
  WasServed why answers sent = (last : S) × known last × (IsSome answers → IsSome sent → (first : S) × rests first × Session turn leave first [] [] why last answers sent)

  abbrev pub WereServed : Option (List Returned) → Type 0
  WereServed None = Unit {0}
  WereServed (Some links) = All (λ r. WasServed r.end r.answers r.sent) links
