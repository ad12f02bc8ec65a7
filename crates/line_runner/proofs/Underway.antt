-- What a run has come to, before its next line.
use Rattle.std.proofs.Common.{◌≡◌, ℕ, true, false, List, [], ◌∷◌, ◌++◌, length, Option, Some, refl, sym, ap, ◌∙◌, append_assoc, append-nil}
use Rattle.std.proofs.lemmas.Bool.{true≢false}
use Rattle.line_runner.specs.Reader.{Reader, fresh, whole_to_come, no_whole_line, whole_lines}
use Rattle.line_runner.specs.Reading.{Moves}
use Rattle.line_runner.specs.ScriptLines.{Script, Ended, no_lines, script, lines_from}
use Rattle.line_runner.specs.Play.{Doing, Play, after_steps, bad_from, printed, steps_of}
use Rattle.line_runner.specs.declared.next.Next.TheVariants.{Line, ReadFault}
use Rattle.line_runner.proofs.Moving.{none_after}
use Rattle.line_runner.proofs.Steps.{ending}

abbrev pub with_lines : List (List ℕ) → Script → Script
with_lines done s = record { lines = done ++ s.lines; ending = s.ending }

-- what was read of a script, whose whole lines are those that were run and those that are still to come, whatever bytes follow
pub record HasRead (bytes : List ℕ) (done : List (List ℕ)) (reader : Reader) (left : List ℕ) : Type 0 where
  pub read : List ℕ
  pub first_part : bytes ≡ read ++ left
  pub at_end : reader.ended ≡ true → left ≡ []
  pub whole : reader.ended ≡ false → (more : List ℕ) → whole_lines (read ++ more) ≡ with_lines done (whole_to_come reader more)

-- the lines that were run, with a mark of each, the state that they made, and what they added. Whatever lines are still to come, the
-- transcript is what was added, and then what those print from here on.
pub record Underway {Mark Step State Held : Type 0} (p : Play Mark Step State) (d : Doing Mark Step State Held) (begin : State) (bytes before : List ℕ) (hall : Held) (given : ℕ) (reader : Reader) (left : List ℕ) (rest : Script) (held : Option (List ℕ)) : Type 0 where
  pub h : State
  pub marks : List Mark
  pub done : List (List ℕ)
  pub gained : List ℕ
  pub stands : d.Stands hall h
  pub read : HasRead bytes done reader left
  pub lines : (script bytes).lines ≡ done ++ rest.lines
  pub ending : (script bytes).ending ≡ rest.ending
  pub added : held ≡ Some (before ++ gained)
  pub counted : given ≡ length done
  pub so_far : (ms : List Mark) (more : List (List ℕ)) → printed p (marks ++ ms) (done ++ more) begin ≡ gained ++ printed p ms more h
  pub at : (ms : List Mark) (more : List (List ℕ)) → after_steps d (marks ++ ms) (steps_of p.form (done ++ more)) begin ≡ after_steps d ms (steps_of p.form more) h
  pub bad : (more : List (List ℕ)) → bad_from p.form 0 (done ++ more) ≡ bad_from p.form given more

pub nothing_read : (bytes : List ℕ) → HasRead bytes [] fresh bytes
nothing_read bytes = record { read = []; first_part = refl; at_end = λ e. absurd (true≢false (sym e)); whole = λ e more. refl }

module _ (bytes : List ℕ) (done : List (List ℕ)) (line : List ℕ) (old new : Reader) (before after : List ℕ) (r : HasRead bytes done old before) where
  parted : (read left : List ℕ) → before ≡ read ++ left → bytes ≡ (r.read ++ read) ++ left
  parted read left e = r.first_part ∙ ap (λ l. r.read ++ l) e ∙ sym (append_assoc r.read read left)

  -- one more line
  pub line_read : Moves (Some Line) line old new before after → HasRead bytes (done ++ line ∷ []) new after
  line_read m = record {
    read = r.read ++ m.read;
    first_part = parted m.read after m.first_part;
    at_end = none_after (Some Line) line old new before after old.ended refl m r.at_end;
    whole = λ e more. ap whole_lines (append_assoc r.read m.read more) ∙ r.whole (m.not_yet e) (m.read ++ more) ∙ ap (with_lines done) (m.whole e more)
        ∙ ap (λ ls. let s : Script = record { lines = ls; ending = (whole_to_come new more).ending } in s) (sym (append_assoc done (line ∷ []) (whole_to_come new more).lines));
  }

  -- a fault, at which nothing that was read is unused
  pub fault_read : (m : Moves (Some ReadFault) line old new before after) → new.ended ≡ false → new.waiting ≡ [] → whole_lines (r.read ++ m.read) ≡ with_lines done (no_lines Ended)
  fault_read m e w =
      ap whole_lines (sym (append-nil (r.read ++ m.read)) ∙ append_assoc r.read m.read []) ∙ r.whole (m.not_yet e) (m.read ++ []) ∙ ap (with_lines done) (sym (m.whole e []))
      ∙ ap (λ l. with_lines done (lines_from no_whole_line new.given new.begun (l ++ []))) w ∙ ap (with_lines done) (ending no_whole_line new.given new.begun)

  pub fault_part : (m : Moves (Some ReadFault) line old new before after) → bytes ≡ (r.read ++ m.read) ++ after
  fault_part m = parted m.read after m.first_part
