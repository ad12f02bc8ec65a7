use Rattle.room_history.proofs.laws.attachments_follow_from_replies.Goals as goal
use Rattle.room_history.proofs.Presence.{presence, want_presence}

pub returns-clause-heard : goal.returns-clause-heard
returns-clause-heard g c = presence g.X.Game.rules

pub returns-clause-starved : goal.returns-clause-starved
returns-clause-starved g c = want_presence g.X.Game.rules
