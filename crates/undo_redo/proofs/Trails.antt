-- A trail stays a machine's after a step, an undo and a redo.
use Rattle.std.proofs.Common.{◌≡◌, suc, List, ◌∷◌, All, Option, Some, arith, ap, sym, subst, ◌∙◌, refl, option_and_then}
use Rattle.std.proofs.lemmas.List.Elements.{All-cons, All-nil}
use Rattle.undo_redo.specs.Fold.{fold, CameBy, GoesOn, LeadsTo}
use Rattle.undo_redo.specs.IsTrail.{IsTrail}
use Rattle.undo_redo.specs.Kept.{Kept}
use Rattle.undo_redo.specs.Moves.{Does, Redoes, Undoes}
use Rattle.undo_redo.specs.Taken.{Taken}
use Rattle.undo_redo.proofs.Winds.{Shifts, put_on}

head : {A : Type 0} (P : A → Type 0) (act : A) (acts : List A) → All P (act ∷ acts) → P act
head P act acts all = all 0 act (omega arith)

tail : {A : Type 0} (P : A → Type 0) (act : A) (acts : List A) → All P (act ∷ acts) → All P acts
tail P act acts all = λ k d h. all (suc k) d (omega (arith, h))

module _ {S A : Type 0} (step : S → A → Option S) (state_fits : S → Type 0) (act_fits : A → Type 0) where
  pub put_moves : (s : Taken S A) (t : Kept S A) → step t.now s.act ≡ Some s.after → Does step s.act t (put_on s t)
  put_moves s t e = record { first = refl; done = refl; undone = refl; now = e }

  pub put_trail : (s : Taken S A) (t : Kept S A) → IsTrail step state_fits act_fits t → act_fits s.act → state_fits s.after → step t.now s.act ≡ Some s.after → IsTrail step state_fits act_fits (put_on s t)
  put_trail s t trail act state e = record {
    first_fits = trail.first_fits;
    now_fits = state;
    done_fit = All-cons act_fits s.act t.done act trail.done_fit;
    undone_fit = All-nil act_fits;
    stands = ap (λ o. option_and_then (λ state. step state s.act) o) trail.stands ∙ e;
    goes_on = tt;
    past_fit = All-cons state_fits t.now t.past trail.now_fits trail.past_fit;
    ahead_fit = All-nil state_fits;
    came_by = (trail.stands, trail.came_by);
    leads_to = tt;
  }

  pub put_moves_to : (s : Taken S A) (act : A) (t next : Kept S A) → s.act ≡ act → put_on s t ≡ next → step t.now act ≡ Some s.after → Does step act t next
  put_moves_to s act t next is e taken =
      subst (λ a. Does step a t next) is (subst (λ k. Does step s.act t k) e (put_moves s t (ap (step t.now) is ∙ taken)))

  pub put_trail_to : (s : Taken S A) (act : A) (t next : Kept S A) → s.act ≡ act → put_on s t ≡ next → IsTrail step state_fits act_fits t → act_fits act → state_fits s.after → step t.now act ≡ Some s.after → IsTrail step state_fits act_fits next
  put_trail_to s act t next is e trail fits state taken =
      subst (λ k. IsTrail step state_fits act_fits k) e (put_trail s t trail (subst act_fits (sym is) fits) state (ap (step t.now) is ∙ taken))

  -- the first undone act leads to the first state ahead
  leads : (act : A) (left right : Kept S A) → Shifts act left right → LeadsTo step left.now left.undone left.ahead → (step left.now act ≡ Some right.now) × LeadsTo step right.now right.undone right.ahead
  leads act left right s h =
      subst (λ ahead. LeadsTo step left.now (act ∷ right.undone) ahead) s.ahead (subst (λ undone. LeadsTo step left.now undone left.ahead) s.undone h)

  came : (act : A) (left right : Kept S A) → Shifts act left right → CameBy step right.first right.done right.past → (fold step left.first left.done ≡ Some left.now) × CameBy step left.first left.done left.past
  came act left right s h =
      subst (λ first. CameBy step first (act ∷ left.done) (left.now ∷ left.past)) s.first
      (subst (λ past. CameBy step right.first (act ∷ left.done) past) s.past (subst (λ done. CameBy step right.first done right.past) s.done h))

  pub redo_moves : (act : A) (before after : Kept S A) → Shifts act before after → IsTrail step state_fits act_fits before → Redoes step act before after
  redo_moves act before after s trail = record { first = s.first; undone = s.undone; done = s.done; now = (leads act before after s trail.leads_to).0 }

  pub redo_trail : (act : A) (before after : Kept S A) → Shifts act before after → IsTrail step state_fits act_fits before → IsTrail step state_fits act_fits after
  redo_trail act before after s trail =
      let undone : All act_fits (act ∷ after.undone) = subst (All act_fits) s.undone trail.undone_fit in
      let ahead : All state_fits (after.now ∷ after.ahead) = subst (All state_fits) s.ahead trail.ahead_fit in
      let again : GoesOn step before.now (act ∷ after.undone) = subst (GoesOn step before.now) s.undone trail.goes_on in
      let next = leads act before after s trail.leads_to in
      let same : again.0 ≡ after.now = one_state before.now act again.0 after.now again.1 next.0 in
      let stands : fold step before.first (act ∷ before.done) ≡ Some after.now = ap (λ o. option_and_then (λ state. step state act) o) trail.stands ∙ next.0 in
      record {
        first_fits = subst state_fits (sym s.first) trail.first_fits;
        now_fits = head state_fits _ _ ahead;
        done_fit = subst (All act_fits) (sym s.done) (All-cons act_fits act before.done (head act_fits _ _ undone) trail.done_fit);
        undone_fit = tail act_fits _ _ undone;
        stands = ap (λ first. fold step first after.done) s.first ∙ ap (fold step before.first) s.done ∙ stands;
        goes_on = subst (λ state. GoesOn step state after.undone) same again.2;
        past_fit = subst (All state_fits) (sym s.past) (All-cons state_fits before.now before.past trail.now_fits trail.past_fit);
        ahead_fit = tail state_fits _ _ ahead;
        came_by =
            subst (λ past. CameBy step after.first after.done past) (sym s.past)
            (subst (λ done. CameBy step after.first done (before.now ∷ before.past)) (sym s.done)
            (subst (λ first. CameBy step first (act ∷ before.done) (before.now ∷ before.past)) (sym s.first) (trail.stands, trail.came_by)));
        leads_to = next.1;
      }
    where
      one_state : (now : S) (act : A) (a b : S) → step now act ≡ Some a → step now act ≡ Some b → a ≡ b
      one_state now act a b p q = cc

  pub undo_moves : (act : A) (before after : Kept S A) → Shifts act after before → IsTrail step state_fits act_fits before → Undoes step act before after
  undo_moves act before after s trail = record { first = sym s.first; done = s.done; undone = s.undone; now = (came act after before s trail.came_by).0 }

  pub undo_trail : (act : A) (before after : Kept S A) → Shifts act after before → IsTrail step state_fits act_fits before → IsTrail step state_fits act_fits after
  undo_trail act before after s trail =
      let done : All act_fits (act ∷ after.done) = subst (All act_fits) s.done trail.done_fit in
      let past : All state_fits (after.now ∷ after.past) = subst (All state_fits) s.past trail.past_fit in
      let last = came act after before s trail.came_by in
      let again : step after.now act ≡ Some before.now =
      sym (ap (λ o. option_and_then (λ state. step state act) o) last.0)
      ∙ ap (λ first. fold step first (act ∷ after.done)) (sym s.first)
      ∙ ap (fold step before.first) (sym s.done) ∙ trail.stands in
      record {
        first_fits = subst state_fits s.first trail.first_fits;
        now_fits = head state_fits _ _ past;
        done_fit = tail act_fits _ _ done;
        undone_fit = subst (All act_fits) (sym s.undone) (All-cons act_fits act before.undone (head act_fits _ _ done) trail.undone_fit);
        stands = last.0;
        goes_on = subst (GoesOn step after.now) (sym s.undone) (before.now, again, trail.goes_on);
        past_fit = tail state_fits _ _ past;
        ahead_fit = subst (All state_fits) (sym s.ahead) (All-cons state_fits before.now before.ahead trail.now_fits trail.ahead_fit);
        came_by = last.1;
        leads_to =
            subst (λ ahead. LeadsTo step after.now after.undone ahead) (sym s.ahead)
            (subst (λ undone. LeadsTo step after.now undone (before.now ∷ before.ahead)) (sym s.undone) (again, trail.leads_to));
      }
