-- Walks from checkpoint to checkpoint: each counts the actions that led there, and what it has come to is the fold over them.
use Rattle.std.proofs.Common.{◌≡◌, ◌+◌, ◌-◌, ◌&&◌, ℕ, Bool, true, false, nat_lt, if◌then◌else◌, List, [], ◌∷◌, length, map, slice_get, Option, Some, None, option_and_then, Result, Ok, Err, arith, refl, ap, sym, ◌∙◌}
use Rattle.game_sheet.specs.declared.refusal.GameRule.{GameRule}
use Rattle.game_sheet.specs.declared.ids.TheConstants.{MOST_ACTIONS}
use Rattle.game_trait.specs.Rules.{Rules}
use Rattle.phase_flow.specs.Action.{once}
use Rattle.phase_flow.specs.Reached.{Reached}
use Rattle.undo_redo.specs.Fold.{fold, CameBy, LeadsTo}
use Rattle.reducer.specs.Accepted.{Accepted}
use Rattle.reducer.specs.Folded.{came_by, folded, leads_to, unless_refused}
use Rattle.reducer.specs.Trails.{counted_back, counted_on}
use Rattle.reducer.specs.Walk.{next_checkpoint, reached_at, walked, checkpoint}
use Rattle.reducer.specs.declared.checkpoint.Checkpoint.{Checkpoint}

-- a walk to a checkpoint went through the one before
last_step : {S A : Type 0} (step : S → A → Option S) (o : Option S) (act : A) (now : S) → option_and_then (λ s. step s act) o ≡ Some now → (before : S) × (o ≡ Some before) × (step before act ≡ Some now)
last_step step None act now e = cc
last_step step (Some before) act now e = (before, refl, e)

one_state : {S : Type 0} (a b : S) → Some a ≡ Some b → a ≡ b
one_state a b e = cc

module _ {G : Type 0} (rules : Rules G) where
  -- an action that leads on is accepted, and counts
  pub record Leads (w : Checkpoint G) (a : Accepted) (next : Checkpoint G) : Type 0 where
    pub count : next.count ≡ w.count + 1
    pub accepted : once rules (reached_at w) a.seat a.act ≡ Ok (reached_at next)

  leads_by : (b : Bool) (w : Checkpoint G) (a : Accepted) (r : Result (Reached G) GameRule) (next : Checkpoint G) → once rules (reached_at w) a.seat a.act ≡ r → (if b then next_checkpoint (w.count + 1) r else None) ≡ Some next → Leads w a next
  leads_by true w a (Ok r) next is e =
      let same : checkpoint (w.count + 1) r ≡ next = one_state (checkpoint (w.count + 1) r) next e in
      record { count = sym (ap (λ (v : Checkpoint G). v.count) same); accepted = is ∙ ap (λ (v : Checkpoint G). Ok (reached_at v)) same }
  leads_by true w a (Err rule) next is e = cc
  leads_by false w a r next is e = cc

  pub leads : (w : Checkpoint G) (a : Accepted) (next : Checkpoint G) → walked rules w a ≡ Some next → Leads w a next
  unfolding walked
  leads w a next e = leads_by (nat_lt w.count MOST_ACTIONS && nat_lt a.seat w.table.ctx.seats) w a (once rules (reached_at w) a.seat a.act) next refl e

  pub counts : (first : Checkpoint G) (done : List Accepted) (now : Checkpoint G) → fold (walked rules) first done ≡ Some now → now.count ≡ first.count + length done
  counts first [] now e =
      let same : first.count ≡ now.count = ap (λ (w : Checkpoint G). w.count) (one_state first now e) in
      omega arith
  counts first (a ∷ done) now e =
      let l = last_step (walked rules) (fold (walked rules) first done) a now e in
      let before : l.0.count ≡ first.count + length done = counts first done l.0 l.1 in
      let more : now.count ≡ l.0.count + 1 = (leads l.0 a now l.2).count in
      omega arith

  pub folds : (first : Checkpoint G) (done : List Accepted) (now : Checkpoint G) → fold (walked rules) first done ≡ Some now → folded rules (reached_at first) done ≡ reached_at now
  folds first [] now e = ap (λ (w : Checkpoint G). reached_at w) (one_state first now e)
  folds first (a ∷ done) now e =
      let l = last_step (walked rules) (fold (walked rules) first done) a now e in
      let before : folded rules (reached_at first) done ≡ reached_at l.0 = folds first done l.0 l.1 in
      ap (λ (r : Reached G). unless_refused r (once rules r a.seat a.act)) before ∙ ap (unless_refused (reached_at l.0)) (leads l.0 a now l.2).accepted

  -- an accepted action leads to the checkpoint that counts one more
  one_way : (b : Bool) (count : ℕ) (o : Result (Reached G) GameRule) (r : Reached G) → b ≡ true → o ≡ Ok r → (if b then next_checkpoint count o else None) ≡ Some (checkpoint count r)
  one_way true count (Ok after) r t e = ap (λ (o : Result (Reached G) GameRule). next_checkpoint count o) e
  one_way true count (Err rule) r t e = cc
  one_way false count o r t e = cc

  pub walks_on : (w : Checkpoint G) (a : Accepted) (r : Reached G) → (nat_lt w.count MOST_ACTIONS && nat_lt a.seat w.table.ctx.seats) ≡ true → once rules (reached_at w) a.seat a.act ≡ Ok r → walked rules w a ≡ Some (checkpoint (w.count + 1) r)
  unfolding walked
  walks_on w a r t e = one_way (nat_lt w.count MOST_ACTIONS && nat_lt a.seat w.table.ctx.seats) (w.count + 1) (once rules (reached_at w) a.seat a.act) r t e

  -- the checkpoints that are kept count the actions that led there
  pub past_counted : (first : Checkpoint G) (done : List Accepted) (past : List (Checkpoint G)) → first.count ≡ 0 → CameBy (walked rules) first done past → past ≡ counted_back (length done) (map (λ w. reached_at w) past)
  past_counted first [] [] none h = refl
  past_counted first [] (w ∷ past) none h = absurd h
  past_counted first (a ∷ done) [] none h = absurd h
  past_counted first (a ∷ done) (w ∷ past) none h =
      let count : w.count ≡ first.count + length done = counts first done w h.0 in
      let one : length (a ∷ done) - 1 ≡ length done = omega arith in
      let same : w.count ≡ length (a ∷ done) - 1 = omega arith in
      let is : w ≡ checkpoint (length (a ∷ done) - 1) (reached_at w) = ap (λ (k : ℕ). record w { count = k }) same in
      let rest : past ≡ counted_back (length (a ∷ done) - 1) (map (λ w. reached_at w) past) =
      past_counted first done past none h.1 ∙ ap (λ (k : ℕ). counted_back k (map (λ w. reached_at w) past)) (sym one) in
      ap (λ (v : Checkpoint G). v ∷ past) is ∙ ap (λ (ps : List (Checkpoint G)). checkpoint (length (a ∷ done) - 1) (reached_at w) ∷ ps) rest

  pub ahead_counted : (now : Checkpoint G) (undone : List Accepted) (ahead : List (Checkpoint G)) (count : ℕ) → now.count ≡ count → LeadsTo (walked rules) now undone ahead → ahead ≡ counted_on count (map (λ w. reached_at w) ahead)
  ahead_counted now [] [] count e h = refl
  ahead_counted now [] (w ∷ ahead) count e h = absurd h
  ahead_counted now (a ∷ undone) [] count e h = absurd h
  ahead_counted now (a ∷ undone) (w ∷ ahead) count e h =
      let more : w.count ≡ now.count + 1 = (leads now a w h.0).count in
      let same : w.count ≡ count + 1 = omega arith in
      let is : w ≡ checkpoint (count + 1) (reached_at w) = ap (λ (k : ℕ). record w { count = k }) same in
      ap (λ (v : Checkpoint G). v ∷ ahead) is ∙ ap (λ (ps : List (Checkpoint G)). checkpoint (count + 1) (reached_at w) ∷ ps) (ahead_counted w undone ahead (count + 1) same h.1)

  -- and each has come to what the fold says
  pub past_folds : (first : Checkpoint G) (done : List Accepted) (past : List (Checkpoint G)) → CameBy (walked rules) first done past → map (λ w. reached_at w) past ≡ came_by rules (reached_at first) done
  past_folds first [] [] h = refl
  past_folds first [] (w ∷ past) h = absurd h
  past_folds first (a ∷ done) [] h = absurd h
  past_folds first (a ∷ done) (w ∷ past) h =
      let is : reached_at w ≡ folded rules (reached_at first) done = sym (folds first done w h.0) in
      let rest : map (λ w. reached_at w) past ≡ came_by rules (reached_at first) done = past_folds first done past h.1 in
      ap (λ (r : Reached G). r ∷ map (λ w. reached_at w) past) is ∙ ap (λ (rs : List (Reached G)). folded rules (reached_at first) done ∷ rs) rest

  pub ahead_folds : (now : Checkpoint G) (undone : List Accepted) (ahead : List (Checkpoint G)) → LeadsTo (walked rules) now undone ahead → map (λ w. reached_at w) ahead ≡ leads_to rules (reached_at now) undone
  ahead_folds now [] [] h = refl
  ahead_folds now [] (w ∷ ahead) h = absurd h
  ahead_folds now (a ∷ undone) [] h = absurd h
  ahead_folds now (a ∷ undone) (w ∷ ahead) h =
      let is : reached_at w ≡ unless_refused (reached_at now) (once rules (reached_at now) a.seat a.act) = sym (ap (unless_refused (reached_at now)) (leads now a w h.0).accepted) in
      let rest : map (λ w. reached_at w) ahead ≡ leads_to rules (reached_at w) undone = ahead_folds w undone ahead h.1 in
      ap (λ (rs : List (Reached G)). reached_at w ∷ rs) rest ∙ ap (λ (r : Reached G). r ∷ leads_to rules r undone) is

  -- the last action and the checkpoint before it, the next action and the checkpoint after it
  pub came_last : (first : Checkpoint G) (done : List Accepted) (past : List (Checkpoint G)) (last : Accepted) (before : Checkpoint G) → CameBy (walked rules) first done past → Some last ≡ slice_get done 0 → Some before ≡ slice_get past 0
      → (rest : List Accepted) × (done ≡ last ∷ rest) × (fold (walked rules) first rest ≡ Some before)
  came_last first [] past last before h l b = absurd (cc)
  came_last first (a ∷ done) [] last before h l b = absurd h
  came_last first (a ∷ done) (w ∷ past) last before h l b =
      let act : a ≡ last = one_of (sym l) in
      let same : w ≡ before = one_of (sym b) in
      (done, ap (λ (x : Accepted). x ∷ done) act, h.0 ∙ ap (λ (v : Checkpoint G). Some v) same)
    where
      one_of : {A : Type 0} {a b : A} → Some a ≡ Some b → a ≡ b
      one_of e = cc

  pub leads_first : (now : Checkpoint G) (undone : List Accepted) (ahead : List (Checkpoint G)) (next : Accepted) (after : Checkpoint G) → LeadsTo (walked rules) now undone ahead → Some next ≡ slice_get undone 0 → Some after ≡ slice_get ahead 0
      → (rest : List Accepted) × (undone ≡ next ∷ rest) × (walked rules now next ≡ Some after)
  leads_first now [] ahead next after h l b = absurd (cc)
  leads_first now (a ∷ undone) [] next after h l b = absurd h
  leads_first now (a ∷ undone) (w ∷ ahead) next after h l b =
      let act : a ≡ next = one_of (sym l) in
      let same : w ≡ after = one_of (sym b) in
      (undone, ap (λ (x : Accepted). x ∷ undone) act, ap (λ (x : Accepted). walked rules now x) (sym act) ∙ h.0 ∙ ap (λ (v : Checkpoint G). Some v) same)
    where
      one_of : {A : Type 0} {a b : A} → Some a ≡ Some b → a ≡ b
      one_of e = cc
