-- The places of a worker, each with the link that it serves, if any, and what turns make of one.
use Rattle.std.specs.Prelude.{◌≡◌, ◌⊎◌, ◌==◌, ◌<◌, ℕ, zero, suc, Bool, true, false, List, [], length, Option, Some, None, IsSome, is_some, not, ◌&&◌, count_by, sum_by, slice_index_or}
use Rattle.board_links.specs.Doors.{Shows, one_bot, one_other}
use Rattle.board_links.specs.Pieces.{told_bytes}
use Rattle.board_links.specs.declared.link.Came.{Came}
use Rattle.board_links.specs.declared.link.SessionEnd.{SessionEnd}
use Rattle.board_links.specs.declared.link.Stage.{Stage}
use Rattle.link_rounds.specs.Turns.{Runs, Session, Takes, told_answers}

-- a place: what serves there, the link that it serves, and how its session ended, where it has
pub record Seat (S L : Type 0) : Type 0 where
  pub service : S
  pub link : Option L
  pub end : Option SessionEnd

abbrev pub seat : {S L : Type 0} → S → Option L → Option SessionEnd → Seat S L
seat service link end = record { service = service; link = link; end = end }

-- what is known of a link: what it has answered and been sent, where it tells it, its faults, its end, whether it keeps nothing back, and
-- whether it is a bot's
pub record About (L : Type 0) : Type 0 where
  pub answers : L → Option (List Came)
  pub sent : L → Option (List ℕ)
  pub faults : L → ℕ
  pub stage : L → Stage
  pub clear : L → Bool
  pub is_bot : L → Bool

abbrev pub about : {L : Type 0} → (L → Option (List Came)) → (L → Option (List ℕ)) → (L → ℕ) → (L → Stage) → (L → Bool) → (L → Bool) → About L
about answers sent faults stage clear is_bot = record { answers = answers; sent = sent; faults = faults; stage = stage; clear = clear; is_bot = is_bot }

-- whether a session goes on there
abbrev pub goes_on : {S L : Type 0} → Seat S L → Bool
goes_on p = is_some p.link && not (is_some p.end)

-- the place of this number has no link
abbrev pub IsFree : {S L : Type 0} → ℕ → List (Seat S L) → Type 0
IsFree {S} {L} n places = (d : Seat S L) → is_some (slice_index_or places n d).link ≡ false

-- what the link of a place counts for, if it has one, by whether the link is a bot's
abbrev pub weight : {L : Type 0} → (Bool → ℕ) → (L → Bool) → Option L → ℕ
weight one is_bot None = 0
weight one is_bot (Some link) = one (is_bot link)

-- what the links of all places count for
abbrev pub seated : {S L : Type 0} → (Bool → ℕ) → (L → Bool) → List (Seat S L) → ℕ
seated one is_bot places = sum_by (λ p. weight one is_bot p.link) places

-- how many places have a bot's link, and how many another: of a door without bots' links none has a bot's
abbrev pub seated_bots : {S L : Type 0} → Bool → (L → Bool) → List (Seat S L) → ℕ
seated_bots has_bots is_bot places = seated (λ bot. one_bot (has_bots && bot)) is_bot places

abbrev pub seated_others : {S L : Type 0} → Bool → (L → Bool) → List (Seat S L) → ℕ
seated_others has_bots is_bot places = seated (λ bot. one_other (has_bots && bot)) is_bot places

-- how often a number stands in a list
abbrev pub times : ℕ → List ℕ → ℕ
times k numbers = count_by (λ n. n == k) numbers

module _ {S L : Type 0} (turn : S → List Came → List ℕ → Option SessionEnd → S → Option (List Came) → Option (List ℕ) → Type 0) (leave : S → S → Type 0) (a : About L) where
  -- ---- one place, turn by turn

  -- no turn was taken, since the link keeps back what it was sent
  abbrev pub Waits : S → L → Seat S L → L → Type 0
  Waits s link q after = (q.service ≡ s) × (q.end ≡ None) × (a.clear after ≡ false) × (a.answers after ≡ a.answers link) × (a.sent after ≡ a.sent link)

  -- one turn of the session, and what is done where it has ended
  abbrev pub Turns : S → L → Seat S L → L → Type 0
  Turns s link q after = IsSome (a.answers link) → IsSome (a.sent link) → Takes turn leave s (told_answers (a.answers link)) (told_bytes (a.sent link)) q.end q.service (a.answers after) (a.sent after)

  -- the link was asked to hand on what it kept back, kept nothing back any more, and then the session had its turn
  abbrev pub TurnsClear : S → L → Seat S L → L → Type 0
  TurnsClear s link q after = (asked : L) × (a.clear asked ≡ true) × (a.answers asked ≡ a.answers link) × (a.sent asked ≡ a.sent link) × Turns s asked q after

  -- a place without a session that goes on stays as it is
  abbrev pub StepOf : S → Option L → Option SessionEnd → Seat S L → Type 0
  StepOf s None end q = q ≡ seat s None end
  StepOf s (Some link) (Some why) q = q ≡ seat s (Some link) (Some why)
  StepOf s (Some link) None q = (after : L) × (q.link ≡ Some after) × (a.is_bot after ≡ a.is_bot link) × (Waits s link q after ⊎ TurnsClear s link q after)

  abbrev pub Step : Seat S L → Seat S L → Type 0
  Step p q = StepOf p.service p.link p.end q

  abbrev pub Steps : ℕ → Seat S L → Seat S L → Type 0
  Steps zero p q = q ≡ p
  Steps (suc n) p q = (m : Seat S L) × Steps n p m × Step m q

  -- Each place has taken as many steps as its number stands in the list, and nothing else happened to it, whatever steps other places took
  -- before, between and after.
  abbrev pub Round : List ℕ → List (Seat S L) → List (Seat S L) → Type 0
  Round numbers places after = (length after ≡ length places)
      × ((k : ℕ) (d : Seat S L) → k < length places → Steps (times k numbers) (slice_index_or places k d) (slice_index_or after k d))

  -- ---- a link's whole session

  module _ (rests : S → Type 0) where
    -- all that a link tells was told in turns of its own, from its first byte on, by a service that had no session before
    abbrev pub Since : S → L → Type 0
    Since s link = IsSome (a.answers link) → IsSome (a.sent link) → (first : S) × (n : ℕ) × rests first × Runs turn leave n first [] [] s (a.answers link) (a.sent link)

    abbrev pub Served : S → SessionEnd → L → Type 0
    Served s why link = IsSome (a.answers link) → IsSome (a.sent link) → (first : S) × rests first × Session turn leave first [] [] why s (a.answers link) (a.sent link)

    abbrev pub SitsWith : S → Option L → Option SessionEnd → Type 0
    SitsWith s None None = rests s
    SitsWith s None (Some why) = ⊥
    SitsWith s (Some link) None = Since s link
    SitsWith s (Some link) (Some why) = rests s × Shows why (a.stage link) (a.faults link) (a.sent link) × Served s why link

    -- A place without a link has a service without a session. One with a link is between two turns of its session; or the session has ended,
    -- as the link shows.
    abbrev pub Sits : Seat S L → Type 0
    Sits p = SitsWith p.service p.link p.end
