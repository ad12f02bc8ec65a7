use Rattle.stage_map.proofs.MapLaws.{bound_grows, bounded, count_move_keeps, end_stage_keeps, null_is_sound, set_keeps, set_stage_keeps}
use Rattle.stage_map.proofs.laws.maps_stay_sound.Goals as goal

pub returns-clause-null : goal.returns-clause-null
returns-clause-null c = null_is_sound

pub returns-clause-set : goal.returns-clause-set
returns-clause-set c = set_keeps

pub returns-clause-set_stage : goal.returns-clause-set_stage
returns-clause-set_stage c = set_stage_keeps

pub returns-clause-end_stage : goal.returns-clause-end_stage
returns-clause-end_stage c = end_stage_keeps

pub returns-clause-count_move : goal.returns-clause-count_move
returns-clause-count_move c = count_move_keeps

pub returns-clause-greater_bound : goal.returns-clause-greater_bound
returns-clause-greater_bound c = bound_grows

pub returns-clause-bounded : goal.returns-clause-bounded
returns-clause-bounded c = bounded
