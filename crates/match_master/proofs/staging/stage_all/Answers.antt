use Rattle.std.proofs.Common.{◌≡◌, length, sym, ap, ◌∙◌, add-one, arith}
use Rattle.match_master.specs.Attached.{all_held, all_ready, staged}
use Rattle.match_master.specs.Places.{at_place}
use Rattle.match_master.specs.UpdateText.{action_line}
use Rattle.match_master.proofs.AttachedLaws.{held_staged, ready_staged}
use Rattle.match_master.proofs.PlaceLaws.{at_up_to, length-up_to, up_to_all}
use Rattle.match_master.proofs.staging.stage_all.Goals as goal

pub stage_place-requires-clause-within : goal.stage_place-requires-clause-within
stage_place-requires-clause-within g c =
    let lines = action_line (g.X.Game.rules c.args.action.now.game.now) c.args.action.now.state.now c.args.action.now.prepared.now c.args.action.now.entry.now in
    let many : length c.loop-place.attachments.entries ≡ length c.args.attachments.now.entries
    = ap length c.loop-place.invariant.staged ∙ length-up_to c.loop-place.place (staged c.args.pass c.args.verdict.now.value.items lines) c.args.attachments.now.entries in
    omega (arith, many, c.len-count.ensures.len)

pub loop-place-preserved : goal.loop-place-preserved
loop-place-preserved g c =
    let lines = action_line (g.X.Game.rules c.args.action.now.game.now) c.args.action.now.state.now c.args.action.now.prepared.now c.args.action.now.entry.now in
    record {
      made = c.stage_place.ensures.made;
      staged = c.in_ok-stage_place.ensures.staged ∙ ap (at_place c.loop-place.place (staged c.args.pass c.args.verdict.now.value.items lines)) c.loop-place.invariant.staged
          ∙ rw add-one (at_up_to c.loop-place.place (staged c.args.pass c.args.verdict.now.value.items lines) c.args.attachments.now.entries);
    }

pub returns-in_err-stage_place-clause-same : goal.returns-in_err-stage_place-clause-same
returns-in_err-stage_place-clause-same g c =
    let lines = action_line (g.X.Game.rules c.args.action.now.game.now) c.args.action.now.state.now c.args.action.now.prepared.now c.args.action.now.entry.now in
    c.stage_place.ensures.same ∙ ap all_held c.loop-place.invariant.staged ∙ held_staged c.loop-place.place c.args.pass c.args.verdict.now.value.items lines c.args.attachments.now.entries

pub returns-clause-same : goal.returns-clause-same
returns-clause-same g c =
    let lines = action_line (g.X.Game.rules c.args.action.now.game.now) c.args.action.now.state.now c.args.action.now.prepared.now c.args.action.now.entry.now in
    ap all_held c.loop-place.invariant.staged ∙ held_staged c.loop-place.place c.args.pass c.args.verdict.now.value.items lines c.args.attachments.now.entries

pub returns-clause-staged : goal.returns-clause-staged
returns-clause-staged g c =
    let lines = action_line (g.X.Game.rules c.args.action.now.game.now) c.args.action.now.state.now c.args.action.now.prepared.now c.args.action.now.entry.now in
    ap all_ready
    (c.loop-place.invariant.staged
    ∙ up_to_all c.loop-place.place (staged c.args.pass c.args.verdict.now.value.items lines) c.args.attachments.now.entries
    (let many : length c.args.attachments.now.entries ≡ c.len-count.result = sym c.len-count.ensures.len in omega arith))
    ∙ ready_staged c.args.pass c.args.verdict.now.value.items lines c.args.attachments.now.entries
