use Rattle.std.proofs.Common.{ℕ, ap, ◌∙◌}
use Rattle.any_game.specs.AnyRules.{any_rules}
use Rattle.room_history.specs.Room.{serials}
use Rattle.room_journal.specs.Coming.{replayer}
use Rattle.room_journal.proofs.Made.{made_rename}
use Rattle.room_journal.proofs.room_book.RoomBook.rename_player.Goals as goal

pub returns-clause-does : goal.returns-clause-does
returns-clause-does c h stands fits = made_rename c.args.self.now.room h replayer c.serial-serial.result c.args.seat c.args.key c.args.name _ _ _ c.call.result (c.serial-serial.ensures h stands ∙ ap (λ (n : ℕ). serials any_rules n h) c.requires.same) fits c.call.ensures.keys (c.call.ensures.calls h stands)
