-- What a link in memory is: what is left of its script, what it has answered and been sent, the calls made so far, the numbers of
-- the calls that are to fail, counted from 1, the count of faults, and how its session ended.
use Rattle.std.specs.Prelude.{◌≡◌, ◌+◌, ◌++◌, ◌&&◌, ℕ, nat_lt, length, drop, List, [], ◌∷◌, Option, Bool, true, false, if◌then◌else◌}
use Rattle.board_links.specs.Answers.{stage_after}
use Rattle.board_links.specs.Memory.{is_failing, next_count}
use Rattle.board_links.specs.declared.link.Came.{Came}
use Rattle.board_links.specs.declared.link.Came.TheVariants as came
use Rattle.board_links.specs.declared.link.Out.{Out}
use Rattle.board_links.specs.declared.link.Out.TheVariants as out
use Rattle.board_links.specs.declared.link.SessionEnd.{SessionEnd}
use Rattle.board_links.specs.declared.link.Stage.{Stage}
use Rattle.board_links.specs.declared.memory_link.AtEnd.{AtEnd}
use Rattle.board_links.specs.declared.memory_link.AtEnd.TheVariants as at_end
use Rattle.board_links.specs.declared.memory_link.Scripted.{Scripted}
use Rattle.board_links.specs.declared.memory_link.Scripted.TheVariants as scripted

pub record LinkState : Type 0 where
  pub left : List Scripted
  pub at_end : AtEnd
  pub limit : ℕ
  pub answers : List Came
  pub sent : List ℕ
  pub calls : ℕ
  pub failing : List ℕ
  pub faults : ℕ
  pub stage : Stage
  pub finished : Option SessionEnd

abbrev pub ended : AtEnd → Came
ended at_end.Ended = came.Ended
ended at_end.Quiet = came.Quiet

-- what the script says next
abbrev pub said : List Scripted → AtEnd → ℕ → Came
said [] at limit = ended at
said (scripted.Quiet ∷ left) at limit = came.Quiet
said (scripted.Line line ∷ left) at limit = if nat_lt limit (length line.items) then came.TooLong else came.Line line.items

-- the answer to a receive
abbrev pub heard : LinkState → Came
heard link = if is_failing link.failing (next_count link.calls) then came.Failed else said link.left link.at_end link.limit

abbrev pub is_fault : Came → Bool
is_fault came.Failed = true
is_fault answer = false

-- a line and a silence are passed
abbrev pub passes : Came → Bool
passes (came.Line bytes) = true
passes came.Quiet = true
passes answer = false

abbrev pub left_after : Came → List Scripted → List Scripted
left_after answer left = if passes answer then drop 1 left else left

-- the place in a script of this length
abbrev pub place_after : Came → ℕ → ℕ → ℕ
place_after answer place count = if passes answer && nat_lt place count then place + 1 else place

-- the link after a receive with this answer
abbrev pub heard_after : Came → LinkState → LinkState
heard_after answer old = record old {
  left = left_after answer old.left;
  answers = old.answers ++ answer ∷ [];
  calls = next_count old.calls;
  faults = if is_fault answer then next_count old.faults else old.faults;
  stage = stage_after answer old.stage;
}

-- a receive answers what the script says, but for want of memory, which changes nothing
abbrev pub Hears : Came → LinkState → LinkState → Type 0
Hears came.NoMemory old new = new ≡ old
Hears answer old new = (answer ≡ heard old) × (new ≡ heard_after answer old)

-- a send fails where the list says so, and then nothing is kept; nor is anything for want of memory
abbrev pub Keeps : Out → List ℕ → LinkState → LinkState → Type 0
Keeps out.Done bytes old new = (is_failing old.failing (next_count old.calls) ≡ false) × (new ≡ record old { calls = next_count old.calls; sent = old.sent ++ bytes })
Keeps out.Failed bytes old new = (is_failing old.failing (next_count old.calls) ≡ true) × (new ≡ record old { calls = next_count old.calls; faults = next_count old.faults })
Keeps out.NoMemory bytes old new = (is_failing old.failing (next_count old.calls) ≡ false) × (new ≡ record old { calls = next_count old.calls })
