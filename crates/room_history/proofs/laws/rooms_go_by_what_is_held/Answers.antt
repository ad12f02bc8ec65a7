use Rattle.room_history.proofs.laws.rooms_go_by_what_is_held.Goals as goal
use Rattle.room_history.proofs.Attachments.{attachment_step, reply_by_held}

pub returns-clause-attached : goal.returns-clause-attached
returns-clause-attached g c = attachment_step g.X.Game.rules

pub returns-clause-replied : goal.returns-clause-replied
returns-clause-replied g c = reply_by_held g.X.Game.rules
