use Rattle.stage_map.proofs.MapLaws.{lists, rises}
use Rattle.stage_map.proofs.laws.contexts_show_maps.Goals as goal

pub returns-clause-rises : goal.returns-clause-rises
returns-clause-rises c = rises

pub returns-clause-lists : goal.returns-clause-lists
returns-clause-lists c = lists
