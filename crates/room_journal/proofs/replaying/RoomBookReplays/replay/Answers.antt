use Rattle.std.proofs.Common.{sym, ◌∙◌}
use Rattle.room_journal.proofs.Made.{not_read, replays_by}
use Rattle.room_journal.proofs.replaying.RoomBookReplays.replay.Goals as goal

pub returns-in-Ok-None-clause-replays : goal.returns-in-Ok-None-clause-replays
returns-in-Ok-None-clause-replays c h stands come = not_read c.args.self.now.room h c.args.payload.now (sym c.in-Ok-None.ensures.exact ∙ c.in-Ok-None.field-0-is)

pub returns-in-Ok-Some-clause-replays : goal.returns-in-Ok-Some-clause-replays
returns-in-Ok-Some-clause-replays c h stands come =
    replays_by c.args.self.now.room h c.args.payload.now c.in-Ok-Some.change c.args.self.now.keys.items c.make.new.self stands.few c.make.ensures.room c.make.ensures.same (sym c.in-Ok-Some.ensures.exact ∙ c.in-Ok-Some.field-0-is) come
    c.make.result (c.make.ensures.does h stands.stands come.fits)
