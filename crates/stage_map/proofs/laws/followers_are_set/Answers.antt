use Rattle.stage_map.proofs.MapLaws.{follows, is_enough}
use Rattle.stage_map.proofs.laws.followers_are_set.Goals as goal

pub returns-clause-follows : goal.returns-clause-follows
returns-clause-follows c = follows

pub returns-clause-is_enough : goal.returns-clause-is_enough
returns-clause-is_enough c = is_enough
