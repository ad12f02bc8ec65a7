-- What a game means: its sheet, and each of its functions over states of the type G, the context and the words that the action has left.
-- Seats, places in the sheet's tables and arguments are plain numbers here. A hook that leaves the state gives the same state.
use Rattle.std.specs.Prelude.{ℕ, Bool, true, false, List, [], Option, None}
use Rattle.game_sheet.specs.declared.act.Outcome.{Outcome}
use Rattle.game_sheet.specs.declared.args.Arg.{Arg}
use Rattle.game_sheet.specs.declared.ctx.Ctx.{Ctx}
use Rattle.game_sheet.specs.declared.sheet.Sheet.{Sheet}
use Rattle.game_trait.specs.Deed.{Barred, Deed, Done, Lack}
use Rattle.serde_json.specs.Data.{Data}

pub record Rules (G : Type 0) : Type 0 where
  -- the fixed description of the game
  pub sheet : Sheet
  -- the first state, of the number of seats
  pub setup : ℕ → List ℕ → Deed G Lack
  -- the state after a move, of the seat, the place of the move and the arguments
  pub play : G → Ctx → ℕ → ℕ → List Arg → List ℕ → Deed G Barred
  -- after a move, of the seat that made it
  pub on_move : G → Ctx → ℕ → List ℕ → Deed G Lack
  -- as a turn begins, and as it ends
  pub turn_begin : G → Ctx → List ℕ → Deed G Lack
  pub turn_end : G → Ctx → List ℕ → Deed G Lack
  -- as a phase begins, and as it ends
  pub phase_begin : G → Ctx → ℕ → List ℕ → Deed G Lack
  pub phase_end : G → Ctx → ℕ → List ℕ → Deed G Lack
  -- once the match has ended
  pub game_end : G → Ctx → List ℕ → Deed G Lack
  -- how the match ends in a state, if it does
  pub end_if : G → Ctx → Option Outcome
  -- whether the turn, and whether the phase, ends in a state
  pub turn_end_if : G → Ctx → Bool
  pub phase_end_if : G → Ctx → Bool
  -- the play order of a phase or match whose order is the game's own
  pub play_order : G → Ctx → List ℕ
  -- what a viewer may see of a state: the player of a seat, or a spectator where there is no seat
  pub view : G → Ctx → Option ℕ → G
  -- whether a move, by its place, may be undone once it is made on a state
  pub undoable : G → Ctx → ℕ → Bool
  -- the moves that a seat is offered, each by its place with its arguments
  pub options : G → Ctx → ℕ → List (ℕ × List Arg)
  -- which states are the game's own
  pub own : G → Bool
  -- what of a state is written down
  pub value : G → Data
  -- the own state that is written so, if there is one
  pub read : Data → Option G

-- a hook that does nothing
abbrev pub idle : {G : Type 0} → G → Ctx → List ℕ → Deed G Lack
idle g ctx words = Done g words []

-- the same for a hook that is told a seat or a phase
abbrev pub idle_at : {G : Type 0} → G → Ctx → ℕ → List ℕ → Deed G Lack
idle_at g ctx at words = Done g words []

-- a game whose hooks do nothing, in which nothing ends by itself, nothing is hidden or offered and each move may be undone;
-- another game is this one with some of its parts in their place
abbrev pub plain : {G : Type 0} → Sheet → (ℕ → List ℕ → Deed G Lack) → (G → Ctx → ℕ → ℕ → List Arg → List ℕ → Deed G Barred) → (G → Bool) → (G → Data) → (Data → Option G) → Rules G
plain sheet setup play own value read = record {
  sheet = sheet;
  setup = setup;
  play = play;
  on_move = idle_at;
  turn_begin = idle;
  turn_end = idle;
  phase_begin = idle_at;
  phase_end = idle_at;
  game_end = idle;
  end_if = λ g ctx. None;
  turn_end_if = λ g ctx. false;
  phase_end_if = λ g ctx. false;
  play_order = λ g ctx. [];
  view = λ g ctx viewer. g;
  undoable = λ g ctx id. true;
  options = λ g ctx seat. [];
  own = own;
  value = value;
  read = read;
}
