-- What a session does, in the order in which the room heard it.
use Rattle.std.specs.Prelude.{ℕ, ◌+◌, List, [], ◌∷◌}
use Rattle.wire_json.specs.declared.reason.Reason.{Reason}
use Rattle.wire_json.specs.declared.submission.Submission.{Submission}

-- what became of a submission, apart from the public rules: there was no memory, the game wasn't asked, or it answered
pub data GameAnswer : Type 0 where
  Starved : GameAnswer
  Unasked : GameAnswer
  Accepted : GameAnswer
  Refused : Reason → GameAnswer

-- a submission, a Take, the leaving of the session's seat or the removal of its match, and a Detach, each with the state number at which it fell
pub data Item : Type 0 where
  Submitted : ℕ → Submission → GameAnswer → Item
  Took : ℕ → Item
  Left : ℕ → Item
  Detached : ℕ → Item

-- the state number after an item
abbrev pub number_after : Item → ℕ
number_after (Submitted n s Accepted) = n + 1
number_after (Submitted n s answer) = n
number_after (Took n) = n
number_after (Left n) = n
number_after (Detached n) = n

abbrev pub without_takes : List Item → List Item
without_takes [] = []
without_takes (Took n ∷ own) = without_takes own
without_takes (item ∷ own) = item ∷ without_takes own
