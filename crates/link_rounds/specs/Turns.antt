-- A session on a link: its turns, of which the last ends it, and what is done when it has ended.
use Rattle.std.specs.Prelude.{◌≡◌, ℕ, zero, suc, List, Option, Some, None, unwrap_or, []}
use Rattle.board_links.specs.declared.link.Came.{Came}
use Rattle.board_links.specs.declared.link.SessionEnd.{SessionEnd}

abbrev pub told_answers : Option (List Came) → List Came
told_answers told = unwrap_or told []

-- What one turn does: from where a service stands, with what its link has answered and been sent, to how the turn ended the session, if it did,
-- where the service stands then, and what the link tells then. And what a service does where its session has ended.
module _ {S : Type 0} (turn : S → List Came → List ℕ → Option SessionEnd → S → Option (List Came) → Option (List ℕ) → Type 0) (leave : S → S → Type 0) where
  -- so many turns that ended nothing
  abbrev pub Runs : ℕ → S → List Came → List ℕ → S → Option (List Came) → Option (List ℕ) → Type 0
  Runs zero s heard sent t answers after = (t ≡ s) × (answers ≡ Some heard) × (after ≡ Some sent)
  Runs (suc n) s heard sent t answers after = (m : S) × (came : List Came) × (bytes : List ℕ) × Runs n s heard sent m (Some came) (Some bytes) × turn m came bytes None t answers after

  -- one turn, and where it ended the session, the leaving
  abbrev pub Takes : S → List Came → List ℕ → Option SessionEnd → S → Option (List Came) → Option (List ℕ) → Type 0
  Takes s heard sent None t answers after = turn s heard sent None t answers after
  Takes s heard sent (Some why) t answers after = (m : S) × turn s heard sent (Some why) m answers after × leave m t

  -- turns that ended nothing, and the one that ended the session
  abbrev pub Session : S → List Came → List ℕ → SessionEnd → S → Option (List Came) → Option (List ℕ) → Type 0
  Session s heard sent why t answers after = (n : ℕ) × (m : S) × (came : List Came) × (bytes : List ℕ)
      × Runs n s heard sent m (Some came) (Some bytes) × Takes m came bytes (Some why) t answers after
