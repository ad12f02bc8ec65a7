use Rattle.code_draft.proofs.rows.+joined.Given as goal

-- how many statements are left to be joined
abbrev pub decreases-joined : goal.decreases-joined
decreases-joined l = l.count
