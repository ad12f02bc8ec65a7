-- One turn of the settling of a table.
use Rattle.std.proofs.Common.{◌≡◌, ℕ, zero, suc, Bool, false, List, [], ◌∷◌, None, ap, ◌∙◌, sym}
use Rattle.game_sheet.specs.declared.refusal.GameRule.TheVariants.{TooManyEvents as Many}
use Rattle.game_trait.specs.Rules.{Rules}
use Rattle.phase_flow.specs.declared.table.Table.{Table}
use Rattle.phase_flow.specs.declared.task.Task.{Task}
use Rattle.phase_flow.specs.Automatic.{with_automatic}
use Rattle.phase_flow.specs.Comes.{Fails, IsDone}
use Rattle.phase_flow.specs.declared.flow_no.FlowNo.{FlowNo}
use Rattle.phase_flow.specs.declared.flow_no.FlowNo.TheVariants.{TooManyEvents, TooManyWords, TooEarly, NoMemory}
use Rattle.phase_flow.specs.Settle.{next_by, run, settle}
use Rattle.phase_flow.specs.Step.{At, Ends, Step, carry_on}

-- the first of some tasks is next, while the match goes on
next_is : {G : Type 0} (t : Table G) (words : List ℕ) (tasks : List Task) (go : Task → List Task → Step G) (task : Task) (rest : List Task) → t.ctx.over ≡ None → tasks ≡ task ∷ rest → next_by t.ctx.over t words tasks go ≡ go task rest
next_is t words tasks go task rest o e = ap (λ p. next_by p t words tasks go) o ∙ ap (λ ts. next_by None t words ts go) e

-- nothing is left to do
pub settle_done : {G : Type 0} (rules : Rules G) (n : ℕ) (t : Table G) (words : List ℕ) (tasks : List Task) (after : Bool) → IsDone t (with_automatic rules after t tasks) → settle rules n t words tasks after ≡ At t words [] false
unfolding settle
settle_done rules zero t words tasks after d = d words _
settle_done rules (suc n) t words tasks after d = d words _

-- a task is next, and none may begin any more
pub settle_full : {G : Type 0} (rules : Rules G) (n : ℕ) (t : Table G) (words : List ℕ) (tasks : List Task) (after : Bool) (task : Task) (rest : List Task) → n ≡ 0 → t.ctx.over ≡ None → with_automatic rules after t tasks ≡ task ∷ rest → settle rules n t words tasks after ≡ Ends Many
unfolding settle
settle_full rules n t words tasks after task rest z o e = ap (λ k. settle rules k t words tasks after) z ∙ next_is t words (with_automatic rules after t tasks) (λ first others. Ends Many) task rest o e

-- a task is next and runs
pub settle_begun : {G : Type 0} (rules : Rules G) (n m : ℕ) (t : Table G) (words : List ℕ) (tasks : List Task) (after : Bool) (task : Task) (rest : List Task) → n ≡ suc m → t.ctx.over ≡ None → with_automatic rules after t tasks ≡ task ∷ rest → settle rules n t words tasks after ≡ carry_on (run rules task.event task.speaker t words rest) (settle rules m)
unfolding settle
settle_begun rules n m t words tasks after task rest z o e =
    ap (λ k. settle rules k t words tasks after) z
    ∙ next_is t words (with_automatic rules after t tasks) (λ first others. carry_on (run rules first.event first.speaker t words others) (settle rules m)) task rest o e

-- what a task fails by, the whole fails by
pub fails_on : {G : Type 0} (why : FlowNo) (part whole : Step G) (go : Table G → List ℕ → List Task → Bool → Step G) → Fails why part → whole ≡ carry_on part go → Fails why whole
fails_on TooManyEvents part whole go f e = e ∙ ap (λ s. carry_on s go) f
fails_on TooManyWords part whole go f e = e ∙ ap (λ s. carry_on s go) f
fails_on TooEarly part whole go f e = e ∙ ap (λ s. carry_on s go) f
fails_on NoMemory part whole go f e = tt

-- a task goes on to what follows it
pub goes_on : {G : Type 0} (part whole : Step G) (go : Table G → List ℕ → List Task → Bool → Step G) (t : Table G) (words : List ℕ) (tasks : List Task) (after : Bool) → part ≡ At t words tasks after → whole ≡ carry_on part go → go t words tasks after ≡ whole
goes_on part whole go t words tasks after p e = sym (e ∙ ap (λ s. carry_on s go) p)
