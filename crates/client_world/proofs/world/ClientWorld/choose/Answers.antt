use Rattle.std.proofs.Common.{◌≡◌, ℕ, ◌+◌, ◌∙◌, ap, arith, subst, sym}
use Rattle.std.specs.Prelude.{OnOk}
use Rattle.std.proofs.lemmas.Result.{IfOk-weaker}
use Rattle.any_game.specs.AnyRules.{any_rules}
use Rattle.world_history.specs.Workload.{choice, choice_words}
use Rattle.client_world.specs.IsWorld.{IsWorld}
use Rattle.client_world.proofs.world.ClientWorld.choose.Goals as goal

pub returns-in-Some-clause-asked : goal.returns-in-Some-clause-asked
returns-in-Some-clause-asked c = λ words w word is first.
    let held = subst (λ x. IsWorld words x w) (sym c.self.view_is) is in
    IfOk-weaker c.choose.result _ (λ asked. asked ≡ choice any_rules (w.clients c.args.client) word)
    (λ asked e. e ∙ ap (λ o. choice any_rules o word) (c.in-Some.ensures w held.peers)) (c.choose.ensures.asked word first)

pub returns-in-Some-clause-drawn : goal.returns-in-Some-clause-drawn
returns-in-Some-clause-drawn c = λ words w is.
    let held = subst (λ x. IsWorld words x w) (sym c.self.view_is) is in
    subst (λ o. OnOk c.choose.result (c.choose.new.tape.used ≡ c.args.tape.now.used + choice_words any_rules o)) (c.in-Some.ensures w held.peers) c.choose.ensures.drawn

pub returns-in-None-clause-asked : goal.returns-in-None-clause-asked
returns-in-None-clause-asked c = λ words w word is first.
    let held = subst (λ x. IsWorld words x w) (sym c.self.view_is) is in
    ap (λ o. choice any_rules o word) (c.in-None.ensures w held.peers)

nothing_drawn : (used none : ℕ) → none ≡ 0 → used ≡ used + none
nothing_drawn used none e = omega (arith, e)

pub returns-in-None-clause-drawn : goal.returns-in-None-clause-drawn
returns-in-None-clause-drawn c = λ words w is.
    let held = subst (λ x. IsWorld words x w) (sym c.self.view_is) is in
    nothing_drawn _ _ (ap (λ o. choice_words any_rules o) (sym (c.in-None.ensures w held.peers)))
