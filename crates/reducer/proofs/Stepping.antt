-- What is prepared on a state is answered as it should be, and the state that takes it in is the one after it.
use Rattle.std.proofs.Common.{◌≡◌, ◌+◌, ◌<◌, ◌≤◌, ◌&&◌, ℕ, Bool, true, false, nat_eq, nat_lt, if◌then◌else◌, List, [], ◌∷◌, length, slice_get, Option, Some, None, option_and_then, Result, Ok, Err, IsOk, arith, refl, sym, subst, ap, ◌∙◌}
use Rattle.std.proofs.lemmas.Bool.Decides.{nat_tests}
use Rattle.game_sheet.specs.declared.act.Act.{Act}
use Rattle.game_sheet.specs.declared.act.Act.TheVariants.{Move, Event as Asks, Undo, Redo}
use Rattle.game_sheet.specs.declared.memory.NoMemory.{NoMemory as Starved}
use Rattle.game_sheet.specs.declared.refusal.GameNo.{GameNo}
use Rattle.game_sheet.specs.declared.refusal.GameNo.TheVariants.{Broken, NoMemory}
use Rattle.game_sheet.specs.declared.refusal.GameRule.{GameRule}
use Rattle.game_sheet.specs.declared.refusal.GameRule.TheVariants.{NotYours}
use Rattle.game_sheet.specs.declared.ids.TheConstants.{MOST_ACTIONS}
use Rattle.game_trait.specs.InSheet.{ActInSheet}
use Rattle.game_trait.specs.Rules.{Rules}
use Rattle.phase_flow.specs.Action.{once}
use Rattle.phase_flow.specs.Reached.{Reached}
use Rattle.stage_map.specs.Moves.{may}
use Rattle.undo_redo.specs.Kept.{Kept}
use Rattle.undo_redo.specs.Moves.{Does, Redoes, Redone, Undoes, Undone}
use Rattle.undo_redo.specs.StruckList.{Call, Struck, advance, strike, undo_last, redo_first}
use Rattle.reducer.specs.Accepted.{Accepted}
use Rattle.reducer.specs.Answer.{answer_on, redo_answer, undo_answer, undo_broken}
use Rattle.std.specs.Result.{result_err}
use Rattle.reducer.specs.Folded.{folded, unless_refused}
use Rattle.reducer.specs.Performs.{Performs}
use Rattle.reducer.specs.Prepared.{Coming, IsReady, Prepares}
use Rattle.reducer.specs.Sound.{IsSound}
use Rattle.reducer.specs.Standing.{Standing}
use Rattle.reducer.specs.Steps.{state_after}
use Rattle.reducer.specs.Struck.{IsDeed, call_of, called}
use Rattle.reducer.specs.Trails.{standing_at}
use Rattle.reducer.specs.Walk.{Fits, reached_at, walked, checkpoint}
use Rattle.reducer.specs.declared.checkpoint.Checkpoint.{Checkpoint}
use Rattle.reducer.proofs.Seats.{may_is_seat}
use Rattle.reducer.proofs.States.{IsWalk, Opened, stands_after, trail_held}
use Rattle.reducer.proofs.Walks.{came_last, folds, leads_first, walks_on}

deed_call : (act : Act) (a : Accepted) → IsDeed act → called act a ≡ advance a
deed_call (Move id args) a d = refl
deed_call (Asks event) a d = refl
deed_call Undo a d = absurd d
deed_call Redo a d = absurd d

both : (a b c d : ℕ) → a < b → c < d → (nat_lt a b && nat_lt c d) ≡ true
both a b c d h k = grind (arith, nat_tests)

ok_of : {G : Type 0} (o : Result (Reached G) GameRule) (r before : Reached G) → result_err o ≡ None → r ≡ unless_refused before o → o ≡ Ok r
ok_of (Ok after) r before none e = ap (λ x. Ok x) (sym e)
ok_of (Err rule) r before none e = absurd (cc)

module _ {G : Type 0} (rules : Rules G) where
  deed_answer : (s : Standing G) (seat : ℕ) (act : Act) → IsDeed act → answer_on rules s seat act ≡ result_err (once rules s.table seat act)
  deed_answer s seat (Move id args) d = refl
  deed_answer s seat (Asks event) d = refl
  deed_answer s seat Undo d = absurd d
  deed_answer s seat Redo d = absurd d

  -- the trail of a state that is opened
  walk : (number : ℕ) (t : Kept (Checkpoint G) Accepted) (s : Standing G) → Opened rules number t s → IsWalk rules t
  walk number t s o = trail_held rules number t t s o refl

  at : (number : ℕ) (t : Kept (Checkpoint G) Accepted) (s : Standing G) → Opened rules number t s → IsSound rules (standing_at number t)
  at number t s o = subst (IsSound rules) (sym o.shown) o.sound

  -- what done actions have come to is the present table
  stood : (t : Kept (Checkpoint G) Accepted) → IsWalk rules t → folded rules (reached_at t.first) t.done ≡ reached_at t.now
  stood t trail = folds rules t.first t.done t.now trail.stands

  -- a move or an event leads from what was done to one more
  deed_table : (t : Kept (Checkpoint G) Accepted) (number : ℕ) (a : Accepted) → IsWalk rules t → IsDeed a.act
      → (state_after rules (standing_at number t) a).table ≡ unless_refused (reached_at t.now) (once rules (reached_at t.now) a.seat a.act)
  deed_table t number a trail d =
      ap (λ (call : Call Accepted). folded rules (reached_at t.first) (strike call (record { done = t.done; undone = t.undone })).done) (deed_call a.act a d)
      ∙ ap (λ (r : Reached G). unless_refused r (once rules r a.seat a.act)) (stood t trail)

  -- ---- what is prepared

  shown_as : (number : ℕ) (t : Kept (Checkpoint G) Accepted) (s : Standing G) (seat : ℕ) (act : Act) (p told : Coming G) → standing_at number t ≡ s → told ≡ p → told.action ≡ record { seat = seat; act = act } → IsReady rules (standing_at number t) told
      → Prepares rules s seat act (Ok p)
  shown_as number t s seat act p told shown is action ready =
      (ap (λ (c : Coming G). c.action) (sym is) ∙ action, subst (λ (c : Coming G). IsReady rules s c) is (subst (λ (x : Standing G). IsReady rules x told) shown ready))

  pub applied : (number : ℕ) (t : Kept (Checkpoint G) Accepted) (s : Standing G) (seat : ℕ) (act : Act) (w next : Checkpoint G) (p : Coming G) → Opened rules number t s → s.number < MOST_ACTIONS → may s.table.ctx seat ≡ true → ActInSheet rules.sheet act → IsDeed act
      → w ≡ t.now → Performs rules w seat act (Ok next) → Fits rules next → p ≡ record { action = record { seat = seat; act = act }; number = number + 1; count = next.count; table = reached_at next } → Prepares rules s seat act (Ok p)
  applied number t s seat act w next p o room active known d is h fits e =
      let a : Accepted = record { seat = seat; act = act } in
      let told : Coming G = record { action = a; number = number + 1; count = next.count; table = reached_at next } in
      let trail : IsWalk rules t = walk number t s o in
      let accepted : once rules (reached_at t.now) seat act ≡ Ok (reached_at next) = ap (λ (v : Checkpoint G). once rules (reached_at v) seat act) (sym is) ∙ h.0 in
      let counts : w.count ≡ length t.done = ap (λ (v : Checkpoint G). v.count) is ∙ o.counted.now in
      let numbers : number ≡ s.number = ap (λ (x : Standing G). x.number) o.shown in
      let more : next.count ≡ length t.done + 1 = omega (arith, h.1) in
      let ready : IsReady rules (standing_at number t) told = record {
        room = omega arith;
        active = subst (λ (x : Standing G). may x.table.ctx seat ≡ true) (sym o.shown) active;
        act = known;
        accepted = deed_answer (standing_at number t) seat act d ∙ ap result_err accepted;
        number = refl;
        table = sym (deed_table t number a trail d ∙ ap (unless_refused (reached_at t.now)) accepted);
        leads_on = λ _. record { count = more; fits = fits };
      } in
      shown_as number t s seat act p told o.shown (sym e) refl ready

  pub refused_on : (number : ℕ) (t : Kept (Checkpoint G) Accepted) (s : Standing G) (w : Checkpoint G) (seat : ℕ) (act : Act) (why : GameNo) → standing_at number t ≡ s → IsDeed act → w ≡ t.now → Performs rules w seat act (Err why) → Prepares rules s seat act (Err why)
  refused_on number t s w seat act (Broken rule) shown d is h =
      deed_answer s seat act d ∙ ap (λ (x : Standing G). result_err (once rules x.table seat act)) (sym shown)
      ∙ ap (λ (v : Checkpoint G). result_err (once rules (reached_at v) seat act)) (sym is) ∙ ap result_err h
  refused_on number t s w seat act NoMemory shown d is h = tt

  -- what an undo is answered, by the last action and the checkpoint before it
  pub undo_asked : (number : ℕ) (t : Kept (Checkpoint G) Accepted) (s : Standing G) (now before : Checkpoint G) (seat : ℕ) (last : Accepted) (told : Option GameRule) → Opened rules number t s → Some last ≡ slice_get t.done 0 → Some before ≡ slice_get t.past 0
      → now ≡ t.now → told ≡ undo_broken rules (reached_at now) before.table.ctx.turn last seat → answer_on rules s seat Undo ≡ told
  undo_asked number t s now before seat last told o l b n e =
      let trail : IsWalk rules t = walk number t s o in
      let came = came_last rules t.first t.done t.past last before trail.came_by l b in
      ap (λ (x : Standing G). answer_on rules x seat Undo) (sym o.shown)
      ∙ ap (λ (done : List Accepted). undo_answer rules (standing_at number t).first (standing_at number t).table done seat) came.1
      ∙ ap (λ (r : Reached G). undo_broken rules (reached_at t.now) r.ctx.turn last seat) (folds rules t.first came.0 before came.2)
      ∙ ap (λ (w : Checkpoint G). undo_broken rules (reached_at w) before.table.ctx.turn last seat) (sym n)
      ∙ sym e

  pub undo_prepared : (number : ℕ) (t : Kept (Checkpoint G) Accepted) (s : Standing G) (before : Checkpoint G) (seat : ℕ) (last : Accepted) (p : Coming G) → Opened rules number t s → s.number < MOST_ACTIONS → may s.table.ctx seat ≡ true
      → Some last ≡ slice_get t.done 0 → Some before ≡ slice_get t.past 0 → answer_on rules s seat Undo ≡ None
      → p ≡ record { action = record { seat = seat; act = Undo }; number = number + 1; count = before.count; table = reached_at before } → Prepares rules s seat Undo (Ok p)
  undo_prepared number t s before seat last p o room active l b none e =
      let told : Coming G = record { action = record { seat = seat; act = Undo }; number = number + 1; count = before.count; table = reached_at before } in
      let trail : IsWalk rules t = walk number t s o in
      let came = came_last rules t.first t.done t.past last before trail.came_by l b in
      let numbers : number ≡ s.number = ap (λ (x : Standing G). x.number) o.shown in
      let ready : IsReady rules (standing_at number t) told = record {
        room = omega arith;
        active = subst (λ (x : Standing G). may x.table.ctx seat ≡ true) (sym o.shown) active;
        act = tt;
        accepted = ap (λ (x : Standing G). answer_on rules x seat Undo) o.shown ∙ none;
        number = refl;
        table = sym (ap (λ (done : List Accepted). folded rules (reached_at t.first) (undo_last done t.undone).done) came.1 ∙ folds rules t.first came.0 before came.2);
        leads_on = λ d. absurd d;
      } in
      shown_as number t s seat Undo p told o.shown (sym e) refl ready

  pub redo_prepared : (number : ℕ) (t : Kept (Checkpoint G) Accepted) (s : Standing G) (after : Checkpoint G) (seat : ℕ) (next : Accepted) (p : Coming G) → Opened rules number t s → s.number < MOST_ACTIONS → may s.table.ctx seat ≡ true
      → Some next ≡ slice_get t.undone 0 → Some after ≡ slice_get t.ahead 0 → nat_eq next.seat seat ≡ true
      → p ≡ record { action = record { seat = seat; act = Redo }; number = number + 1; count = after.count; table = reached_at after } → Prepares rules s seat Redo (Ok p)
  redo_prepared number t s after seat next p o room active l b own e =
      let told : Coming G = record { action = record { seat = seat; act = Redo }; number = number + 1; count = after.count; table = reached_at after } in
      let trail : IsWalk rules t = walk number t s o in
      let leads = leads_first rules t.now t.undone t.ahead next after trail.leads_to l b in
      let numbers : number ≡ s.number = ap (λ (x : Standing G). x.number) o.shown in
      let more : folded rules (reached_at t.first) (next ∷ t.done) ≡ reached_at after =
      folds rules t.first (next ∷ t.done) after (ap (λ q. option_and_then (λ w. walked rules w next) q) trail.stands ∙ leads.2) in
      let ready : IsReady rules (standing_at number t) told = record {
        room = omega arith;
        active = subst (λ (x : Standing G). may x.table.ctx seat ≡ true) (sym o.shown) active;
        act = tt;
        accepted = ap (λ (undone : List Accepted). redo_answer undone seat) leads.1 ∙ ap (λ (b : Bool). if b then None else Some NotYours) own;
        number = refl;
        table = sym (ap (λ (undone : List Accepted). folded rules (reached_at t.first) (redo_first t.done undone).done) leads.1 ∙ more);
        leads_on = λ d. absurd d;
      } in
      shown_as number t s seat Redo p told o.shown (sym e) refl ready

  -- ---- what is taken in

  -- the step of what is ready is one of the game's machine
  pub steps_on : (number : ℕ) (t : Kept (Checkpoint G) Accepted) (s : Standing G) (p : Coming G) (act : Accepted) (after : Checkpoint G) → Opened rules number t s → IsReady rules s p → IsDeed p.action.act → act ≡ p.action → after.count ≡ p.count → reached_at after ≡ p.table
      → walked rules t.now act ≡ Some after
  steps_on number t s p act after o ready d is count table =
      let a = p.action in
      let trail : IsWalk rules t = walk number t s o in
      let here : IsReady rules (standing_at number t) p = subst (λ (x : Standing G). IsReady rules x p) (sym o.shown) ready in
      let sound : IsSound rules (standing_at number t) = at number t s o in
      let seated : a.seat < t.now.table.ctx.seats = may_is_seat rules.sheet number t.now.table.ctx t.now.table.active a.seat sound.table here.active in
      let few : t.now.count < MOST_ACTIONS = let c = o.counted.now in let m = sound.done in let r = here.room in omega arith in
      let none : result_err (once rules (reached_at t.now) a.seat a.act) ≡ None = sym (deed_answer (standing_at number t) a.seat a.act d) ∙ here.accepted in
      let leads : once rules (reached_at t.now) a.seat a.act ≡ Ok (reached_at after) =
      ok_of (once rules (reached_at t.now) a.seat a.act) (reached_at after) (reached_at t.now) none (table ∙ here.table ∙ deed_table t number a trail d) in
      let counted : t.now.count + 1 ≡ after.count = let c = o.counted.now in let l = (here.leads_on d).count in omega arith in
      ap (λ (x : Accepted). walked rules t.now x) is
      ∙ walks_on rules t.now a (reached_at after) (both t.now.count MOST_ACTIONS a.seat t.now.table.ctx.seats few seated) leads
      ∙ ap (λ (k : ℕ). Some (checkpoint k (reached_at after))) counted

  pub fits_on : (s : Standing G) (p : Coming G) (after : Checkpoint G) → IsReady rules s p → IsDeed p.action.act → after.count ≡ p.count → reached_at after ≡ p.table → Fits rules after
  fits_on s p after ready d count table =
      subst (λ (r : Reached G). Fits rules (checkpoint after.count r)) (sym table) (subst (λ (k : ℕ). Fits rules (checkpoint k p.table)) (sym count) (ready.leads_on d).fits)

  pub went_on : (number : ℕ) (t next : Kept (Checkpoint G) Accepted) (s : Standing G) (a act : Accepted) → standing_at number t ≡ s → IsDeed a.act → act ≡ a → Does (walked rules) act t next → IsWalk rules next → standing_at (number + 1) next ≡ state_after rules s a
  went_on number t next s a act shown d is h trail =
      let lists : strike (call_of a) (record { done = t.done; undone = t.undone }) ≡ record { done = next.done; undone = next.undone } =
      ap (λ (call : Call Accepted). strike call (record { done = t.done; undone = t.undone })) (deed_call a.act a d)
      ∙ ap (λ (x : Accepted). record { done = x ∷ t.done; undone = [] }) (sym is)
      ∙ ap (λ (done : List Accepted). record { done = done; undone = [] }) (sym h.done)
      ∙ ap (λ (undone : List Accepted). record { done = next.done; undone = undone }) (sym h.undone) in
      subst (λ (x : Standing G). standing_at (number + 1) next ≡ state_after rules x a) shown (stands_after rules number t next a h.first lists trail)

  -- a trail one move back or on again
  pub record Moved (lists : Struck Accepted) (t next : Kept (Checkpoint G) Accepted) : Type 0 where
    pub first : next.first ≡ t.first
    pub lists_are : lists ≡ record { done = next.done; undone = next.undone }
    pub few : length next.done ≤ length t.done + 1

  pub went_back : (r : Result Bool Starved) (t next : Kept (Checkpoint G) Accepted) → IsOk r → Undone (walked rules) r t next → Moved (undo_last t.done t.undone) t next
  went_back (Ok true) t next sure h =
      let u : Undoes (walked rules) h.0 t next = h.1 in
      let longer : length t.done ≡ length (h.0 ∷ next.done) = ap length u.done in
      record {
        first = u.first;
        lists_are =
            ap (λ (done : List Accepted). undo_last done t.undone) u.done ∙ ap (λ (undone : List Accepted). record { done = next.done; undone = undone }) (sym u.undone);
        few = omega arith;
      }
  went_back (Ok false) t next sure h =
      let same : next ≡ t = h.1 in
      let longer : length next.done ≡ length t.done = ap (λ (k : Kept (Checkpoint G) Accepted). length k.done) same in
      record {
        first = ap (λ (k : Kept (Checkpoint G) Accepted). k.first) same;
        lists_are =
            ap (λ (done : List Accepted). undo_last done t.undone) h.0 ∙ ap (λ (done : List Accepted). record { done = done; undone = t.undone }) (sym h.0)
            ∙ ap (λ (k : Kept (Checkpoint G) Accepted). record { done = k.done; undone = k.undone }) (sym same);
        few = omega arith;
      }
  went_back (Err why) t next sure h = absurd (cc)

  pub went_again : (r : Result Bool Starved) (t next : Kept (Checkpoint G) Accepted) → IsOk r → Redone (walked rules) r t next → Moved (redo_first t.done t.undone) t next
  went_again (Ok true) t next sure h =
      let u : Redoes (walked rules) h.0 t next = h.1 in
      let longer : length next.done ≡ length (h.0 ∷ t.done) = ap length u.done in
      record {
        first = u.first;
        lists_are =
            ap (λ (undone : List Accepted). redo_first t.done undone) u.undone ∙ ap (λ (done : List Accepted). record { done = done; undone = next.undone }) (sym u.done);
        few = omega arith;
      }
  went_again (Ok false) t next sure h =
      let same : next ≡ t = h.1 in
      let longer : length next.done ≡ length t.done = ap (λ (k : Kept (Checkpoint G) Accepted). length k.done) same in
      record {
        first = ap (λ (k : Kept (Checkpoint G) Accepted). k.first) same;
        lists_are =
            ap (λ (undone : List Accepted). redo_first t.done undone) h.0 ∙ ap (λ (undone : List Accepted). record { done = t.done; undone = undone }) (sym h.0)
            ∙ ap (λ (k : Kept (Checkpoint G) Accepted). record { done = k.done; undone = k.undone }) (sym same);
        few = omega arith;
      }
  went_again (Err why) t next sure h = absurd (cc)

  pub moved_to : (number : ℕ) (t next : Kept (Checkpoint G) Accepted) (s : Standing G) (a : Accepted) → standing_at number t ≡ s → Moved (strike (call_of a) (record { done = t.done; undone = t.undone })) t next → IsWalk rules next
      → standing_at (number + 1) next ≡ state_after rules s a
  moved_to number t next s a shown m trail =
      subst (λ (x : Standing G). standing_at (number + 1) next ≡ state_after rules x a) shown (stands_after rules number t next a m.first m.lists_are trail)
