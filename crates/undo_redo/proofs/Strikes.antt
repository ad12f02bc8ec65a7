-- A trail keeps the struck list of its accepted calls, by recursion on the calls.
use Rattle.std.proofs.Common.{◌≡◌, Bool, true, false, List, [], ◌∷◌, Option, option_and_then, Result, Ok, Err, ap, sym, subst, ◌∙◌, refl}
use Rattle.game_sheet.specs.declared.memory.NoMemory.{NoMemory}
use Rattle.undo_redo.specs.Fold.{fold}
use Rattle.undo_redo.specs.Kept.{Kept}
use Rattle.undo_redo.specs.Moves.{Does, Undoes, Redoes}
use Rattle.undo_redo.specs.Runs.{Answered, Keeps, KeepsStruckList, accepted, with_accepted}
use Rattle.undo_redo.specs.StruckList.{Call, advance, undo, redo, Struck, strike, struck, undo_last, redo_first}

does : {S A : Type 0} (step : S → A → Option S) (opening : S) (s : Struck A) (act : A) (before after : Kept S A) → Keeps step opening s before → Does step act before after → Keeps step opening (strike (advance act) s) after
does step opening s act before after kept h = record {
  first = h.first ∙ kept.first;
  done = h.done ∙ ap (λ done. act ∷ done) kept.done;
  undone = h.undone;
  now = ap (λ o. option_and_then (λ state. step state act) o) kept.now ∙ h.now;
}

undoes : {S A : Type 0} (step : S → A → Option S) (opening : S) (s : Struck A) (act : A) (before after : Kept S A) → Keeps step opening s before → Undoes step act before after → Keeps step opening (strike undo s) after
undoes step opening s act before after kept h =
    let done : s.done ≡ act ∷ after.done = sym kept.done ∙ h.done in
    let rest : (undo_last s.done s.undone).done ≡ after.done = ap (λ d. (undo_last d s.undone).done) done in
    record {
      first = h.first ∙ kept.first;
      done = sym rest;
      undone = h.undone ∙ ap (λ u. act ∷ u) kept.undone ∙ sym (ap (λ d. (undo_last d s.undone).undone) done);
      now = ap (fold step opening) rest ∙ ap (λ first. fold step first after.done) (sym (h.first ∙ kept.first)) ∙ h.now;
    }

redoes : {S A : Type 0} (step : S → A → Option S) (opening : S) (s : Struck A) (act : A) (before after : Kept S A) → Keeps step opening s before → Redoes step act before after → Keeps step opening (strike redo s) after
redoes step opening s act before after kept h =
    let undone : s.undone ≡ act ∷ after.undone = sym kept.undone ∙ h.undone in
    let done : (redo_first s.done s.undone).done ≡ act ∷ s.done = ap (λ u. (redo_first s.done u).done) undone in
    record {
      first = h.first ∙ kept.first;
      done = h.done ∙ ap (λ d. act ∷ d) kept.done ∙ sym done;
      undone = sym (ap (λ u. (redo_first s.done u).undone) undone);
      now = ap (fold step opening) done ∙ ap (λ o. option_and_then (λ state. step state act) o) kept.now ∙ h.now;
    }

stays : {S A : Type 0} (step : S → A → Option S) (opening : S) (s : Struck A) (before after : Kept S A) → Keeps step opening s before → after ≡ before → Keeps step opening s after
stays step opening s before after kept same = subst (Keeps step opening s) (sym same) kept

answered : {S A : Type 0} (step : S → A → Option S) (opening : S) (calls : List (Call A)) (call : Call A) (answer : Result Bool NoMemory) (before after : Kept S A) → Keeps step opening (struck calls) before → Answered step call answer before after → Keeps step opening (struck (with_accepted answer call calls)) after
answered step opening calls (advance act) (Ok true) before after kept h = does step opening (struck calls) act before after kept h
answered step opening calls undo (Ok true) before after kept h = undoes step opening (struck calls) h.0 before after kept h.1
answered step opening calls redo (Ok true) before after kept h = redoes step opening (struck calls) h.0 before after kept h.1
answered step opening calls (advance act) (Ok false) before after kept h = stays step opening (struck calls) before after kept h.1
answered step opening calls undo (Ok false) before after kept h = stays step opening (struck calls) before after kept h.1
answered step opening calls redo (Ok false) before after kept h = stays step opening (struck calls) before after kept h.1
answered step opening calls (advance act) (Err why) before after kept h = stays step opening (struck calls) before after kept h
answered step opening calls undo (Err why) before after kept h = stays step opening (struck calls) before after kept h
answered step opening calls redo (Err why) before after kept h = stays step opening (struck calls) before after kept h

pub keeps_struck_list : {S A : Type 0} (step : S → A → Option S) → KeepsStruckList step
keeps_struck_list step first [] t run = subst (Keeps step first (struck [])) (sym run) (record { first = refl; done = refl; undone = refl; now = refl })
keeps_struck_list step first (made ∷ calls) t run =
    answered step first (accepted calls) made.call made.answer run.0 t (keeps_struck_list step first calls run.0 run.1) run.2
