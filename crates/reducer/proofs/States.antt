-- What a state keeps is a trail of the game's machine, and a trail that is one stands for a sound state.
use Rattle.std.proofs.Common.{◌≡◌, ◌+◌, ◌*◌, ◌<◌, ◌≤◌, ℕ, List, ◌∷◌, length, arith, sym, subst, ap, ◌∙◌}
use Rattle.game_sheet.specs.declared.ctx.Ctx.{Ctx}
use Rattle.game_sheet.specs.declared.sheet.Sheet.{Sheet}
use Rattle.game_sheet.specs.declared.ids.TheConstants.{MOST_ACTIONS}
use Rattle.game_trait.specs.Rules.{Rules}
use Rattle.stage_map.specs.Active.{Map}
use Rattle.phase_flow.specs.IsSound.{BoundGrows, IsSound as TableIsSound}
use Rattle.phase_flow.specs.Reached.{Reached}
use Rattle.undo_redo.specs.IsTrail.{IsTrail}
use Rattle.undo_redo.specs.Kept.{Kept}
use Rattle.undo_redo.specs.StruckList.{strike}
use Rattle.reducer.specs.Accepted.{Accepted}
use Rattle.reducer.specs.Folded.{folded, leads_to}
use Rattle.reducer.specs.Sound.{IsSound}
use Rattle.reducer.specs.Standing.{Standing}
use Rattle.reducer.specs.Steps.{state_after, with_lists}
use Rattle.reducer.specs.Struck.{call_of}
use Rattle.reducer.specs.Trails.{IsCounted, standing_at, trail_of}
use Rattle.reducer.specs.Walk.{Fits, InSheet, reached_at, walked, checkpoint}
use Rattle.reducer.specs.declared.checkpoint.Checkpoint.{Checkpoint}
use Rattle.reducer.proofs.Walks.{ahead_counted, ahead_folds, counts, folds, past_counted, past_folds}

-- a copy of a context and a map, with counts of at most so many moves, is sound with room for more
pub copy_sound : (sheet : Sheet) (most more : ℕ) (ctx copied : Ctx) (active shown : Map) → BoundGrows → most ≤ more → copied ≡ ctx → shown ≡ active → TableIsSound sheet most ctx active → TableIsSound sheet more copied shown
copy_sound sheet most more ctx copied active shown grows h c a s =
    let wider : TableIsSound sheet more ctx active = grows sheet most more ctx active h s in
    let as_copied : TableIsSound sheet more copied active = subst (λ (x : Ctx). TableIsSound sheet more x active) (sym c) wider in
    subst (λ (m : Map). TableIsSound sheet more copied m) (sym a) as_copied

-- a list with one entry more is no longer than by one
pub one_longer : {A : Type 0} {xs ys : List A} {x : A} → ys ≡ x ∷ xs → length ys ≤ length xs + 1
one_longer {xs = xs} {ys = ys} {x = x} e =
    let same : length ys ≡ length (x ∷ xs) = ap length e in
    omega arith

kept_same : {G : Type 0} {first first' now now' : Checkpoint G} {done undone : List Accepted} {past past' ahead ahead' : List (Checkpoint G)} → first ≡ first' → now ≡ now' → past ≡ past' → ahead ≡ ahead'
    → let t : Kept (Checkpoint G) Accepted = record { first = first; done = done; undone = undone; now = now; past = past; ahead = ahead } in
    let u : Kept (Checkpoint G) Accepted = record { first = first'; done = done; undone = undone; now = now'; past = past'; ahead = ahead' } in t ≡ u
kept_same f n p a = cc

same_trail : {G : Type 0} (number : ℕ) (t : Kept (Checkpoint G) Accepted) → IsCounted t → trail_of (standing_at number t) ≡ t
same_trail {G = G} number t h =
    let first : checkpoint 0 (reached_at t.first) ≡ t.first = ap (λ (k : ℕ). record t.first { count = k }) (sym h.first) in
    let now : checkpoint (length t.done) (reached_at t.now) ≡ t.now = ap (λ (k : ℕ). record t.now { count = k }) (sym h.now) in
    kept_same first now (sym h.past) (sym h.ahead)

standing_same : {G : Type 0} {number : ℕ} {table table' first : Reached G} {done undone : List Accepted} {past past' ahead ahead' : List (Reached G)} → table ≡ table' → past ≡ past' → ahead ≡ ahead'
    → let s : Standing G = record { number = number; table = table; first = first; done = done; undone = undone; past = past; ahead = ahead } in
    let u : Standing G = record { number = number; table = table'; first = first; done = done; undone = undone; past = past'; ahead = ahead' } in s ≡ u
standing_same t p a = cc

module _ {G : Type 0} (rules : Rules G) where
  -- a trail of the game's machine
  abbrev pub IsWalk : Kept (Checkpoint G) Accepted → Type 0
  IsWalk t = IsTrail (walked rules) (Fits rules) (InSheet rules) t

  pub counted : (t : Kept (Checkpoint G) Accepted) → t.first.count ≡ 0 → IsWalk t → IsCounted t
  counted t none trail =
      let all : t.now.count ≡ t.first.count + length t.done = counts rules t.first t.done t.now trail.stands in
      let now : t.now.count ≡ length t.done = omega arith in
      record {
        first = none;
        now = now;
        past = past_counted rules t.first t.done t.past none trail.came_by;
        ahead = ahead_counted rules t.now t.undone t.ahead (length t.done) now trail.leads_to;
      }

  pub sound_at : (number : ℕ) (t : Kept (Checkpoint G) Accepted) → BoundGrows → t.first.count ≡ 0 → number ≤ MOST_ACTIONS → length t.done ≤ number → IsWalk t → IsSound rules (standing_at number t)
  sound_at number t grows none room most trail =
      let count : IsCounted t = counted t none trail in
      let fits : Fits rules t.now = trail.now_fits in
      let now : t.now.count ≡ length t.done = count.now in
      let turn : t.now.table.ctx.turn ≤ 65 + 64 * t.now.count = fits.turn in
      record {
        number = room;
        done = most;
        table = grows rules.sheet t.now.count number t.now.table.ctx t.now.table.active (omega arith) fits.table;
        turn = omega arith;
        trail = subst IsWalk (sym (same_trail number t count)) trail;
      }

  -- a trail whose lists are struck by an action stands for the state after it
  pub stands_after : (number : ℕ) (t next : Kept (Checkpoint G) Accepted) (a : Accepted) → next.first ≡ t.first → strike (call_of a) (record { done = t.done; undone = t.undone }) ≡ record { done = next.done; undone = next.undone } → IsWalk next
      → standing_at (number + 1) next ≡ state_after rules (standing_at number t) a
  stands_after number t next a first lists trail =
      let table : folded rules (reached_at next.first) next.done ≡ reached_at next.now = folds rules next.first next.done next.now trail.stands in
      let after : Checkpoint G → Standing G = λ w. with_lists rules (standing_at number (record t { first = w })) (record { done = next.done; undone = next.undone }) in
      let whole : standing_at (number + 1) next ≡ after next.first =
      standing_same (sym table) (past_folds rules next.first next.done next.past trail.came_by)
      (ahead_folds rules next.now next.undone next.ahead trail.leads_to ∙ ap (λ (r : Reached G). leads_to rules r next.undone) (sym table)) in
      whole ∙ ap after first ∙ ap (with_lists rules (standing_at number t)) (sym lists)

  -- the state of which the number and the trail are these, as it is opened
  pub record Opened (number : ℕ) (t : Kept (Checkpoint G) Accepted) (s : Standing G) : Type 0 where
    pub shown : standing_at number t ≡ s
    pub counted : IsCounted t
    pub sound : IsSound rules s

  pub trail_held : (number : ℕ) (t copied : Kept (Checkpoint G) Accepted) (s : Standing G) → Opened number t s → copied ≡ t → IsWalk copied
  trail_held number t copied s o same =
      let at : IsSound rules (standing_at number t) = subst (IsSound rules) (sym o.shown) o.sound in
      subst IsWalk (sym same) (subst IsWalk (same_trail number t o.counted) at.trail)

  pub next_counted : (t next : Kept (Checkpoint G) Accepted) → next.first ≡ t.first → IsCounted t → IsWalk next → IsCounted next
  next_counted t next first count trail = counted next (ap (λ (w : Checkpoint G). w.count) first ∙ count.first) trail

  pub next_sound : (number : ℕ) (t next : Kept (Checkpoint G) Accepted) (s : Standing G) → BoundGrows → Opened number t s → s.number < MOST_ACTIONS → next.first ≡ t.first → length next.done ≤ length t.done + 1 → IsWalk next → IsSound rules (standing_at (number + 1) next)
  next_sound number t next s grows o room first more trail =
      let at : IsSound rules (standing_at number t) = subst (IsSound rules) (sym o.shown) o.sound in
      let most : length t.done ≤ number = at.done in
      let same : number ≡ s.number = ap (λ (x : Standing G). x.number) o.shown in
      sound_at (number + 1) next grows (ap (λ (w : Checkpoint G). w.count) first ∙ o.counted.first) (omega arith) (omega arith) trail
