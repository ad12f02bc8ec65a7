use Rattle.stage_map.proofs.plan.+plan_set.Given as goal

abbrev pub decreases-plan_set : goal.decreases-plan_set
decreases-plan_set l = l.left
