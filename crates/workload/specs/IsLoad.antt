-- What a Load holds, and when that is a workload: its world, the seats of its round, the words that its steps have drawn, and its numbers.
use Rattle.std.specs.Prelude.{◌≡◌, ◌≤◌, ◌+◌, ◌*◌, ◌∷◌, ◌++◌, [], codes, ℕ, List, if◌then◌else◌, nat_le}
use Rattle.any_game.specs.AnyRules.{any_rules}
use Rattle.any_game.specs.GameKind.{GameKind}
use Rattle.any_game.specs.declared.any_g.AnyG.{AnyG}
use Rattle.client_world.specs.IsWorld.{HeldWorld, IsWorld}
use Rattle.dice_words.specs.Strip.{Strip}
use Rattle.hall_history.specs.Counts.{accepts, count_from, hands_out, refuses}
use Rattle.hall_history.specs.Rooms.{Rooms}
use Rattle.world_history.specs.Workload.{Place, Workload, choice_words, number_line}
use Rattle.world_history.specs.World.{World, Step, Arrives, Takes, Reads}
use Rattle.session_hall.specs.Held.{IsTape}
use Rattle.workload.specs.declared.counts.Counts.{Counts}

pub record HeldLoad : Type 0 where
  pub world : HeldWorld
  pub places : List (Place GameKind)
  pub tape : Strip
  pub counts : Counts

-- what rooms have come to
pub record AreCounted (counts : Counts) (rooms : Rooms GameKind) : Type 0 where
  pub accepted : counts.accepted ≡ count_from any_rules accepts 0 rooms
  pub refused : counts.refused ≡ count_from any_rules refuses 0 rooms
  pub bytes : counts.bytes ≡ count_from any_rules hands_out 0 rooms

-- at no line does a count grow by more
abbrev pub most_more : ℕ
most_more = 18446744073709551615

-- so many lines count at most as a round begins: three of each of fourteen clients
abbrev pub round_lines : ℕ
round_lines = 42

-- and in so many steps, each of which may be the last of a round
abbrev pub step_lines : ℕ → ℕ
step_lines steps = round_lines + (round_lines + 1) * steps

-- counts that so many lines may have come to
pub record AreFew (lines : ℕ) (counts : Counts) : Type 0 where
  pub accepted : counts.accepted ≤ lines * most_more
  pub refused : counts.refused ≤ lines * most_more
  pub held : counts.held ≤ lines * most_more
  pub read : counts.read ≤ lines * most_more
  pub bytes : counts.bytes ≤ lines * most_more

-- a Load stands for a workload over the words of one tape, whose steps draw the words of another, and at most so many lines of which were
-- counted
pub record IsLoad (tape words : ℕ → List ℕ) (lines : ℕ) (load : HeldLoad) (l : Workload GameKind AnyG) : Type 0 where
  pub world : IsWorld tape load.world l.world
  pub places : load.places ≡ l.places
  pub drawn : IsTape words l.drawn load.tape
  pub counted : AreCounted load.counts l.world.hall.rooms
  pub few : AreFew lines load.counts
  pub held : load.counts.held ≡ l.held
  pub read : load.counts.read ≡ l.read

-- what a client does to read its first line
abbrev pub reads_first : ℕ → List (Step GameKind)
reads_first c = Arrives c ∷ Takes c ∷ Reads c ∷ []

-- the steps have drawn so many words more
abbrev pub draws : ℕ → Workload GameKind AnyG → Workload GameKind AnyG
draws n l = record l { drawn = l.drawn + n }

-- how many words are drawn for what a client does
abbrev pub deed_words : World GameKind AnyG → ℕ → ℕ → ℕ
deed_words w c k = if nat_le k 2 then choice_words any_rules (w.clients c) else 0

-- the six lines
abbrev pub summary_of : ℕ → Counts → List ℕ
summary_of steps counts =
    number_line (codes "steps") steps
    ++ number_line (codes "accepted") counts.accepted
    ++ number_line (codes "refused") counts.refused
    ++ number_line (codes "held") counts.held
    ++ number_line (codes "read") counts.read
    ++ number_line (codes "bytes") counts.bytes
