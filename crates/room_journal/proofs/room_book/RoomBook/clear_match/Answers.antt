use Rattle.std.proofs.Common.{ℕ, ap, ◌∙◌}
use Rattle.any_game.specs.AnyRules.{any_rules}
use Rattle.room_history.specs.Room.{serials}
use Rattle.room_journal.specs.Coming.{replayer}
use Rattle.room_journal.proofs.Made.{made_clear}
use Rattle.room_journal.proofs.room_book.RoomBook.clear_match.Goals as goal

pub returns-clause-does : goal.returns-clause-does
returns-clause-does c h stands fits = made_clear c.args.self.now.room h replayer c.serial-serial.result _ _ _ c.call.result (c.serial-serial.ensures h stands ∙ ap (λ (n : ℕ). serials any_rules n h) c.requires.same) fits c.call.ensures.keys (c.call.ensures.calls h stands)
