-- The word that stands for each reason on the wire.
use Rattle.std.specs.Prelude.{ℕ, List, codes}
use Rattle.wire_json.specs.declared.reason.Reason.{Reason}
use Rattle.wire_json.specs.declared.reason.Reason.TheVariants.{NoMatch, Unauthorized, GameOver, MatchFull, CannotUndoNow, NotActive, UnknownMove, WrongNumber, NothingToUndo, NothingToRedo, NotYours, NotUndoable, InvalidMove, TooEarly, TooManyWords, TooManyEvents}

abbrev pub reason_text : Reason → List ℕ
reason_text NoMatch = codes "no-match"
reason_text Unauthorized = codes "unauthorized"
reason_text GameOver = codes "game-over"
reason_text MatchFull = codes "match-full"
reason_text CannotUndoNow = codes "cannot-undo-now"
reason_text NotActive = codes "not-active"
reason_text UnknownMove = codes "unknown-move"
reason_text WrongNumber = codes "wrong-number"
reason_text NothingToUndo = codes "nothing-to-undo"
reason_text NothingToRedo = codes "nothing-to-redo"
reason_text NotYours = codes "not-yours"
reason_text NotUndoable = codes "not-undoable"
reason_text InvalidMove = codes "invalid-move"
reason_text TooEarly = codes "too-early"
reason_text TooManyWords = codes "too-many-words"
reason_text TooManyEvents = codes "too-many-events"
