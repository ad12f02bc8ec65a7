-- How a state is kept: its number, and a trail over checkpoints, of which each tells how many actions led there.
use Rattle.std.specs.Prelude.{◌≡◌, ◌+◌, ◌-◌, ℕ, List, [], ◌∷◌, length, map}
use Rattle.undo_redo.specs.Kept.{Kept}
use Rattle.reducer.specs.Accepted.{Accepted}
use Rattle.reducer.specs.Standing.{Standing}
use Rattle.reducer.specs.Walk.{reached_at, checkpoint}
use Rattle.phase_flow.specs.Reached.{Reached}
use Rattle.reducer.specs.declared.checkpoint.Checkpoint.{Checkpoint}

-- what a match stands at by the trail that it keeps
abbrev pub standing_at : {G : Type 0} → ℕ → Kept (Checkpoint G) Accepted → Standing G
standing_at number t = record {
  number = number;
  table = reached_at t.now;
  first = reached_at t.first;
  done = t.done;
  undone = t.undone;
  past = map (λ w. reached_at w) t.past;
  ahead = map (λ w. reached_at w) t.ahead;
}

-- the checkpoints before one to which so many actions led, the latest first
abbrev pub counted_back : {G : Type 0} → ℕ → List (Reached G) → List (Checkpoint G)
counted_back count [] = []
counted_back count (r ∷ past) = checkpoint (count - 1) r ∷ counted_back (count - 1) past

-- the checkpoints after one to which so many actions led, the next first
abbrev pub counted_on : {G : Type 0} → ℕ → List (Reached G) → List (Checkpoint G)
counted_on count [] = []
counted_on count (r ∷ ahead) = checkpoint (count + 1) r ∷ counted_on (count + 1) ahead

-- its checkpoints count the actions that led there
pub record IsCounted {G : Type 0} (t : Kept (Checkpoint G) Accepted) : Type 0 where
  pub first : t.first.count ≡ 0
  pub now : t.now.count ≡ length t.done
  pub past : t.past ≡ counted_back (length t.done) (map (λ w. reached_at w) t.past)
  pub ahead : t.ahead ≡ counted_on (length t.done) (map (λ w. reached_at w) t.ahead)

-- the trail that a match keeps which stands so
abbrev pub trail_of : {G : Type 0} → Standing G → Kept (Checkpoint G) Accepted
trail_of s = record {
  first = checkpoint 0 s.first;
  done = s.done;
  undone = s.undone;
  now = checkpoint (length s.done) s.table;
  past = counted_back (length s.done) s.past;
  ahead = counted_on (length s.done) s.ahead;
}
