use Rattle.std.proofs.Common.{ℕ, List, slice_set, Option, Some, ap, ◌∙◌}
use Rattle.any_game.specs.AnyRules.{any_rules}
use Rattle.room_history.specs.Room.{serials}
use Rattle.room_journal.specs.Coming.{replayer}
use Rattle.room_journal.proofs.Made.{made_join}
use Rattle.room_journal.proofs.room_book.RoomBook.seat_player.Goals as goal

pub returns-clause-does : goal.returns-clause-does
returns-clause-does c h stands fits =
    made_join c.args.self.now.room h replayer c.serial-serial.result c.args.seat c.args.name c.args.key c.call-made.new.self.book c.args.self.now.keys.items c.set_key.new.keys.items c.call-made.result
    (c.serial-serial.ensures h stands ∙ ap (λ (n : ℕ). serials any_rules n h) c.requires.same) fits
    (c.set_key.ensures ∙ ap (λ (l : List (Option (List ℕ))). slice_set l c.args.seat (Some c.args.key)) c.call-made.ensures.keys) (c.call-made.ensures.calls h stands)
