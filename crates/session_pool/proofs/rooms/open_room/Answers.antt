use Rattle.std.proofs.Common.{◌≡◌, ◌≤◌, ◌∙◌, ap, map, arith, subst, sym}
use Rattle.std.specs.Prelude.{All, None}
use Rattle.any_game.specs.AnyRules.{any_rules}
use Rattle.hosted_room.specs.Calls.{NobodyIn}
use Rattle.session_pool.specs.Passes.{Pass, unseen}
use Rattle.session_pool.specs.Placed.{AttachedBy}
use Rattle.session_pool.proofs.Dealing.{dealt_free, unseen_dealt}
use Rattle.session_pool.proofs.Places.{if_ok, if_ok_both}
use Rattle.session_pool.proofs.Seeing.{all_dealt}
use Rattle.session_pool.proofs.rooms.open_room.Goals as goal

pub returns-clause-passes : goal.returns-clause-passes
returns-clause-passes g c = if_ok c.set_up.result (λ r h. ap (map unseen) h.2 ∙ unseen_dealt h.0 r.0.desk c.args.passes) c.set_up.ensures.passes

pub returns-clause-free : goal.returns-clause-free
returns-clause-free g c =
    if_ok_both c.set_up.result
    (λ r h desk.
    let same : c.args.passes ≤ c.args.passes = omega arith in
    let nobody = subst (λ room. NobodyIn any_rules c.args.passes room h.0) (sym desk.1) (c.requires.nobody h.0 h.1) in
    subst (λ passes. AttachedBy passes None) (sym h.2) (dealt_free h.0 r.0.desk c.args.passes c.args.passes same nobody))
    c.set_up.ensures.passes c.set_up.ensures.desk

pub returns-clause-seen : goal.returns-clause-seen
returns-clause-seen g c =
    if_ok c.set_up.result (λ r h. (h.0, h.1, subst (All (λ (p : Pass). p.seen ≡ h.0)) (sym h.2) (all_dealt h.0 r.0.desk c.args.passes))) c.set_up.ensures.passes
