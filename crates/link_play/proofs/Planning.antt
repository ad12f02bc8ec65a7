-- How a plan and a run grow by a line.
use Rattle.std.proofs.Common.{◌≡◌, ◌≢◌, List, [], ◌∷◌, ◌++◌, refl, sym, ap, subst, append_assoc}
use Rattle.game_trait.specs.Rules.{Rules}
use Rattle.link_play.specs.Commands.{Command, Syncs, Nothing, Acts, Reads, Waits, Shows, Ends}
use Rattle.link_play.specs.Doing.{Does, Runs, Who}
use Rattle.link_play.specs.Plan.{Plan, behind, with_command}
use Rattle.link_play.specs.Sitting.{Sitting}

-- another command than the end stands before those that come after it
pub with_more : (c : Command) (p : Plan) → c ≢ Ends → with_command c p ≡ behind (c ∷ []) p
with_more Syncs p h = refl
with_more Nothing p h = refl
with_more (Acts asked) p h = refl
with_more Reads p h = refl
with_more Waits p h = refl
with_more Shows p h = refl
with_more Ends p h = absurd (h refl)

pub behind_more : (cs : List Command) (c : Command) (p : Plan) → behind cs (behind (c ∷ []) p) ≡ behind (cs ++ c ∷ []) p
behind_more cs c p = ap (λ l. let q : Plan = record { commands = l; close = p.close } in q) (sym (append_assoc cs (c ∷ []) p.commands))

module _ {G : Type 0} (rules : Rules G) (who : Who) where
  -- one more command after others
  pub runs_more : (cs : List Command) (c : Command) (s m t : Sitting G) → Runs rules who cs s m → Does rules who c m t → Runs rules who (cs ++ c ∷ []) s t
  runs_more [] c s m t e d = (t, subst (λ x. Does rules who c x t) e d, refl)
  runs_more (b ∷ cs) c s m t r d = (r.0, r.1, runs_more cs c r.0 m t r.2 d)
