-- What the code keeps: beside the waiting actions a stack of guesses, one for each action that counted. Each holds the state that
-- the action was guessed to lead to and its number alone; the context and the log are the settled snapshot's.
use Rattle.std.specs.Prelude.{◌≡◌, ◌≤◌, ℕ, ◌+◌, List, [], ◌∷◌, length, fold, if◌then◌else◌, Option, Some, None, option_map}
use Rattle.std.specs.Vec.{vec_capacity}
use Rattle.game_trait.specs.Rules.{Rules}
use Rattle.player_sight.specs.declared.shown.Snapshot.{Snapshot}
use Rattle.client_predict.specs.Client.{Playing}
use Rattle.client_predict.specs.Prediction.{guessed}
use Rattle.client_predict.specs.Shown.{counts_on}
use Rattle.client_predict.specs.declared.guess.Guess.{Guess}
use Rattle.client_predict.specs.declared.part.Part.{Part}
use Rattle.client_predict.specs.declared.shown.Shown as by_parts
use Rattle.client_predict.specs.declared.waiting.Waiting.{Waiting}

-- the snapshot that borrowed parts make
abbrev pub snapshot_of : {G : Type 0} → by_parts.Shown G → Snapshot G
snapshot_of s = record { number = s.number; ctx = s.ctx.now; g = s.g.now; log = s.log.now }

-- a snapshot with a guess in place of its state
abbrev pub ahead : {G : Type 0} → Snapshot G → Option (Guess G) → Snapshot G
ahead s None = s
ahead s (Some guess) = record { number = guess.number; ctx = s.ctx; g = guess.g; log = s.log }

-- the snapshot after a stack of guesses, the oldest first
abbrev pub after : {G : Type 0} → Snapshot G → List (Option (Guess G)) → Snapshot G
after s guesses = fold ahead s guesses

abbrev pub guess_of : {G : Type 0} → Snapshot G → G → Guess G
guess_of s g = record { number = s.number + 1; g = g }

-- the guess that a waiting action makes on a snapshot, where it counts and is guessed
abbrev pub tried : {G : Type 0} → Rules G → Option ℕ → Snapshot G → Waiting → Option (Guess G)
tried rules seat s w = if counts_on rules.sheet s w then option_map (guess_of s) (guessed rules s seat w.asked) else None

-- the guesses of waiting actions, each on what those before it came to
abbrev pub guesses : {G : Type 0} → Rules G → Option ℕ → Snapshot G → List Waiting → List (Option (Guess G))
guesses rules seat s [] = []
guesses rules seat s (w ∷ ws) = tried rules seat s w ∷ guesses rules seat (ahead s (tried rules seat s w)) ws

abbrev pub playing_of : {G : Type 0} → Part G → Playing G
playing_of p = record { name = p.name; seat = p.seat; settled = p.settled; waiting = p.waiting.items; ticket = p.ticket }

-- the actions that come and go leave these as they are
abbrev pub StaysSettled : {G : Type 0} → Part G → Part G → Type 0
StaysSettled p q = (q.name ≡ p.name) × (q.seat ≡ p.seat) × (q.settled ≡ p.settled)

abbrev pub KeepsRoom : {G : Type 0} → Part G → Part G → Type 0
KeepsRoom p q = (vec_capacity p.waiting ≤ vec_capacity q.waiting) × (vec_capacity p.guesses ≤ vec_capacity q.guesses)

-- the stack is that of the waiting actions, of which there are at most 32, and both have room for so many
pub record IsKept {G : Type 0} (rules : Rules G) (p : Part G) : Type 0 where
  pub stack : p.guesses.items ≡ guesses rules p.seat p.settled p.waiting.items
  pub few : length p.waiting.items ≤ 32
  pub waiting_room : 32 ≤ vec_capacity p.waiting
  pub guesses_room : 32 ≤ vec_capacity p.guesses

abbrev pub KeptInOrder : {G : Type 0} → Rules G → Option (Part G) → Type 0
KeptInOrder rules None = Unit {0}
KeptInOrder rules (Some p) = IsKept rules p
