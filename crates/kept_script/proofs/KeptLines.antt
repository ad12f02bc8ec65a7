-- What a line comes to over a kept room, by what its step comes to.
use Rattle.std.proofs.Common.{◌≡◌, ℕ, Bool, true, false, List, [], ◌∷◌, ◌++◌, Option, Some, None, Result, Ok, Err, OnOk, refl, sym, ap, ◌∙◌, append_assoc}
use Rattle.std.specs.Prelude.{is_some}
use Rattle.any_game.specs.GameKind.{GameKind}
use Rattle.hall_history.specs.Rooms.{Rooms, history_of}
use Rattle.hall_history.specs.Script.{Step}
use Rattle.line_runner.specs.Play.{RunsLine}
use Rattle.object_journal.specs.declared.performing.Stop.{Stop}
use Rattle.script_steps.specs.Forms.{step_of}
use Rattle.script_steps.specs.ScriptDoing.{script_doing}
use Rattle.kept_room.specs.Journal.{Calls}
use Rattle.kept_room.proofs.Journals.{journal_goes}
use Rattle.kept_script.specs.KeptDoing.{IsKept, IsLeft, kept_doing}
use Rattle.kept_script.specs.KeptPlay.{KeptState, ended_unless, hall_of, kept_play}
use Rattle.kept_script.specs.Moving.{MovesByStep, StepGrows}
use Rattle.kept_script.specs.declared.hall.KeptHall.{KeptHall}

none_of : (why : Option Stop) → is_some why ≡ false → why ≡ None
none_of None e = refl
none_of (Some why) e = absurd (true_false e)
  where
    true_false : true ≡ false → ⊥
    true_false f = cc

module _ {D : Type 0} (is_told : D → Type 0) (seen : D → List ℕ) (may_leave : D → List ℕ → Type 0) (moment : D → ℕ) (left_since : D → ℕ → List ℕ → Type 0) (faults : D → ℕ) where
  module _ {A E : Type 0} (told : Result A E) (stopped : Bool) (old new : KeptHall D) (line before after : List ℕ) where
    pub kept_line : (step : Step) → step_of line ≡ Some step
        → MovesByStep is_told seen may_leave moment left_since faults old new step before after told
        → stopped ≡ is_some new.room.stopped
        → (s : KeptState D) → (kept_doing is_told seen may_leave moment left_since faults).Stands old s
        → RunsLine kept_play (kept_doing is_told seen may_leave moment left_since faults) s line new before after (ended_unless stopped told)
    unfolding kept_play kept_doing script_doing
    kept_line step e m is s k = by told stopped is (m.comes s.hall k.stands)
      where
        left : IsLeft is_told seen may_leave moment left_since faults new s
        left = record { before = old; was = k; more = m.more; since = m.since }

        by : (r : Result A E) (b : Bool) → b ≡ is_some new.room.stopped → OnOk r (StepGrows s.hall step (hall_of new) before after m.more)
            → RunsLine kept_play (kept_doing is_told seen may_leave moment left_since faults) s line new before after (ended_unless b r)
        by (Ok x) false none d =
            let whole : new.room.stopped ≡ None = none_of new.room.stopped (sym none) in
            record {
              step = step;
              in_form = e;
              does = record {
                mark = d.0.mark;
                stands = record {
                  made = m.more ++ k.made;
                  is = d.1 ∙ ap (λ (l : Calls). l ∷ []) (ap (λ (rooms : Rooms GameKind). m.more ++ history_of rooms 0) k.is ∙ sym (append_assoc m.more k.made s.first));
                  stands = d.0.stands;
                  numbered = m.since.same_room ∙ k.numbered;
                  whole = whole;
                  journal = journal_goes is_told seen may_leave moment left_since faults 0 s.start s.first k.made s.told old.room new.room m.more k.numbered k.whole whole k.journal m.since;
                };
                added = d.0.added;
              };
            }
        by (Ok x) true none d = left
        by (Err x) false none d = left
        by (Err x) true none d = left

  module _ (old : KeptHall D) (line : List ℕ) where
    pub kept_bad : step_of line ≡ None → (s : KeptState D) → (kept_doing is_told seen may_leave moment left_since faults).Stands old s
        → ((kept_play {D = D}).form line ≡ None) × (kept_doing is_told seen may_leave moment left_since faults).Stands old s
    unfolding kept_play kept_doing
    kept_bad e s k = (e, k)

  pub is_kept : (held : KeptHall D) (s : KeptState D) → (kept_doing is_told seen may_leave moment left_since faults).Stands held s → IsKept is_told seen may_leave moment left_since faults held s
  unfolding kept_doing
  is_kept held s k = k

  pub stands_so : (held : KeptHall D) (s : KeptState D) → IsKept is_told seen may_leave moment left_since faults held s → (kept_doing is_told seen may_leave moment left_since faults).Stands held s
  unfolding kept_doing
  stands_so held s k = k
