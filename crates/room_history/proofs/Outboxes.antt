-- What is kept of a stream changes with each piece as an outbox does, and the limit is found by the count that is kept.
use Rattle.std.proofs.Common.{◌≡◌, ◌+◌, Bool, true, false, nat_lt, List, ◌∷◌, Some, None, refl}
use Rattle.wire_json.specs.declared.server.ServerMsg.{ServerMsg}
use Rattle.room_history.specs.Outbox.{line_or_lagging, outbox_in, with_piece_in}
use Rattle.room_history.specs.Piece.{Closed, End, Ended, Line, Mark, Open, Piece, State, counted_size, state_of, waiting_lines, waiting_size}
use Rattle.room_history.specs.Stream.{cut, most_waiting, with_piece}
use Rattle.room_history.proofs.Names.{line_or_end}

kept_told : (b : Bool) (m : ServerMsg) (ps : List Piece) → state_of ps ≡ Open
    → outbox_in (state_of (line_or_end b m ps)) (line_or_end b m ps) ≡ Some (line_or_lagging b m (record { waiting = waiting_lines ps; count = waiting_size ps; end = None }))
kept_told true m ps e = refl
kept_told false m ps e = rw e refl

kept_put : (st : State) (p : Piece) (ps : List Piece) → state_of ps ≡ st → outbox_in (state_of (with_piece st p ps)) (with_piece st p ps) ≡ with_piece_in p (outbox_in st ps)
kept_put Open (Line m) ps e = kept_told (nat_lt most_waiting (waiting_size ps + counted_size m)) m ps e
kept_put Open Mark ps e = rw e refl
kept_put Open (End why) ps e = refl
kept_put (Ended by) (Line m) ps e = rw e refl
kept_put (Ended by) Mark ps e = rw e refl
kept_put (Ended by) (End why) ps e = rw e refl
kept_put Closed (Line m) ps e = rw e refl
kept_put Closed Mark ps e = rw e refl
kept_put Closed (End why) ps e = rw e refl

-- each piece changes what is kept as it changes an outbox
pub kept_cut : (p : Piece) (ps : List Piece) → outbox_in (state_of (cut (p ∷ ps))) (cut (p ∷ ps)) ≡ with_piece_in p (outbox_in (state_of (cut ps)) (cut ps))
kept_cut p ps = kept_put (state_of (cut ps)) p (cut ps) refl
