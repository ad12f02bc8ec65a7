-- What each line makes of a run, and how a run ends.
use Rattle.std.proofs.Common.{◌≡◌, ◌⊎◌, inl, inr, ◌+◌, ℕ, zero, suc, false, List, [], ◌∷◌, ◌++◌, length, take, drop, Option, Some, None, refl, sym, ap, ◌∙◌, subst, append_assoc, append-nil}
use Rattle.std.proofs.lemmas.List.{length-append}
use Rattle.board_links.specs.Pieces.{told_bytes}
use Rattle.line_runner.specs.Play.{Doing, IsPlay, Play, after_steps, bad_from, bad_line, printed, steps_of}
use Rattle.line_runner.specs.Reader.{Reader, fresh}
use Rattle.line_runner.specs.Reading.{Moves}
use Rattle.line_runner.specs.Running.{BreaksOff, Leaves, Plays, PlaysAll, RanOn, RunsToEnd, StopsAtBad, StopsAtFault, StopsAtLong, StopsEarly, StoppedIn}
use Rattle.line_runner.specs.ScriptLines.{Script, Ending, Ended, first_line, no_lines, script}
use Rattle.line_runner.specs.ScriptLines as script
use Rattle.line_runner.specs.declared.exit.Exit.{Exit}
use Rattle.line_runner.specs.declared.exit.Exit.TheVariants.{NoMemory, WriteFault}
use Rattle.line_runner.specs.declared.next.Next.TheVariants.{ReadFault}
use Rattle.line_runner.proofs.Playing.{bad_printed, line_printed, nothing_printed}
use Rattle.line_runner.proofs.Underway.{HasRead, Underway, fault_part, fault_read, nothing_read}
use Rattle.std.specs.Option.{option_map_or}

halves : (n : ℕ) (xs : List ℕ) → take n xs ++ drop n xs ≡ xs
halves zero xs = refl
halves (suc n) [] = refl
halves (suc n) (x ∷ xs) = ap (λ l. x ∷ l) (halves n xs)

module _ {Mark Step State Held : Type 0} (p : Play Mark Step State) (d : Doing Mark Step State Held) (begin : State) (ok : IsPlay p d) where
  pub begins : (bytes before : List ℕ) (hall : Held) → d.Stands hall begin → (held : Option (List ℕ)) → held ≡ Some before
      → Underway p d begin bytes before hall 0 fresh bytes (script bytes) held
  begins bytes before hall stands held e = record {
    h = begin;
    marks = [];
    done = [];
    gained = [];
    stands = stands;
    read = nothing_read bytes;
    lines = refl;
    ending = refl;
    added = e ∙ ap Some (sym (append-nil before));
    counted = refl;
    so_far = λ ms more. refl;
    at = λ ms more. refl;
    bad = λ more. refl;
  }

  one_more : (done : List (List ℕ)) (line : List ℕ) → length done + 1 ≡ length (done ++ line ∷ [])
  one_more done line = sym (length-append done (line ∷ []))

  -- lines that were played, whose transcript was added
  pub plays_by : (marks : List Mark) (lines : List (List ℕ)) (before gained : List ℕ) (held : Option (List ℕ)) → held ≡ Some (before ++ gained) → printed p marks lines begin ≡ gained
      → Plays p begin lines before held
  plays_by marks lines before gained held e t = record { marks = marks; added = e ∙ ap (λ x. Some (before ++ x)) (sym t); tells = ok.tells marks lines }

  module _ (bytes before : List ℕ) (hall : Held) (given : ℕ) (reader : Reader) (left : List ℕ) where
    -- a line that was run
    pub goes_on : (line : List ℕ) (rest : Script) (held : Option (List ℕ)) → (u : Underway p d begin bytes before hall given reader left (first_line line rest) held)
        → (reader' : Reader) (left' : List ℕ) → HasRead bytes (u.done ++ line ∷ []) reader' left'
        → (hall' : Held) (after : Option (List ℕ)) → RanOn p d u.h line hall' (told_bytes held) after
        → Underway p d begin bytes before hall' (given + 1) reader' left' rest after
    goes_on line rest held u reader' left' read hall' after r = record {
      h = (d.does r.mark r.step u.h).0;
      marks = u.marks ++ r.mark ∷ [];
      done = u.done ++ line ∷ [];
      gained = u.gained ++ said;
      stands = r.stands;
      read = read;
      lines = u.lines ∙ sym (append_assoc u.done (line ∷ []) rest.lines);
      ending = u.ending;
      added = r.added ∙ ap (λ x. Some (x ++ said)) (ap told_bytes u.added) ∙ ap Some (append_assoc before u.gained said);
      counted = ap (λ n. n + 1) u.counted ∙ one_more u.done line;
      so_far = λ ms more. ap (λ l. printed p ((u.marks ++ r.mark ∷ []) ++ ms) l begin) (append_assoc u.done (line ∷ []) more)
          ∙ ap (λ l. printed p l (u.done ++ line ∷ more) begin) (append_assoc u.marks (r.mark ∷ []) ms) ∙ u.so_far (r.mark ∷ ms) (line ∷ more)
          ∙ ap (λ x. u.gained ++ x) (line_printed p d ok r.mark ms line more r.step u.h r.in_form)
          ∙ sym (append_assoc u.gained said (printed p ms more (d.does r.mark r.step u.h).0));
      at = λ ms more. ap (λ l. after_steps d ((u.marks ++ r.mark ∷ []) ++ ms) (steps_of p.form l) begin) (append_assoc u.done (line ∷ []) more)
          ∙ ap (λ l. after_steps d l (steps_of p.form (u.done ++ line ∷ more)) begin) (append_assoc u.marks (r.mark ∷ []) ms) ∙ u.at (r.mark ∷ ms) (line ∷ more)
          ∙ ap (λ o. after_steps d (r.mark ∷ ms) (option_map_or (λ step. step ∷ steps_of p.form more) o []) u.h) r.in_form;
      bad = λ more. ap (bad_from p.form 0) (append_assoc u.done (line ∷ []) more) ∙ u.bad (line ∷ more) ∙ ap (λ o. option_map_or (λ step. (bad_from p.form (given + 1) more)) o (Some (given + 1))) r.in_form;
    }
      where
        said : List ℕ
        said = (d.does r.mark r.step u.h).1

    module _ (rest : Script) (held : Option (List ℕ)) (u : Underway p d begin bytes before hall given reader left rest held) where
      -- what the lines so far print is what they added
      played : (lines : List (List ℕ)) → lines ≡ u.done → printed p u.marks lines begin ≡ u.gained
      played lines e =
          ap (λ ls. printed p u.marks ls begin) (e ∙ sym (append-nil u.done))
          ∙ ap (λ ms. printed p ms (u.done ++ []) begin) (sym (append-nil u.marks))
          ∙ u.so_far [] [] ∙ ap (λ x. u.gained ++ x) (nothing_printed p d ok [] u.h) ∙ append-nil u.gained

      -- and none of them is in no form
      in_form : (lines : List (List ℕ)) → lines ≡ u.done → bad_line p.form lines ≡ None
      unfolding bad_line
      in_form lines e = ap (bad_from p.form 0) (e ∙ sym (append-nil u.done)) ∙ u.bad []

      plays : (s : Script) (ending : Ending) → s.lines ≡ u.done → s.ending ≡ ending → PlaysAll p begin s ending before held
      plays s ending e k = record { ends = k; no_bad_line = in_form s.lines e; plays = plays_by u.marks s.lines before u.gained held u.added (played s.lines e) }

      -- the state is that after the lines so far
      there : after_steps d u.marks (steps_of p.form u.done) begin ≡ u.h
      there =
          ap (λ ms. after_steps d ms (steps_of p.form u.done) begin) (sym (append-nil u.marks))
          ∙ ap (λ ls. after_steps d (u.marks ++ []) (steps_of p.form ls) begin) (sym (append-nil u.done)) ∙ u.at [] []

      -- what they leave, where nothing more was done, or the next line failed
      pub leaves_so : (exit : Exit) (hall' : Held) (after : Option (List ℕ)) → held ≡ after → d.Stands hall' u.h ⊎ ((exit ≡ NoMemory) × d.Fails hall' u.h) → Leaves p d begin (script bytes) hall' before after exit
      leaves_so exit hall' after e stands = record {
        marks = u.marks;
        done = u.done;
        rest = rest.lines;
        lines = u.lines;
        shown = u.gained;
        missing = [];
        whole = append-nil u.gained ∙ sym (played u.done refl);
        added = sym e ∙ u.added;
        all_shown = inl refl;
        stands = subst (λ s. d.Stands hall' s ⊎ ((exit ≡ NoMemory) × d.Fails hall' s)) (sym there) stands;
      }

      pub stops : StopsEarly p begin (script bytes) before held
      stops = record { done = u.done; rest = rest.lines; lines = u.lines; plays = plays_by u.marks u.done before u.gained held u.added (played u.done refl) }

      -- the source fails where nothing that was read is unused
      pub stops_at : (line : List ℕ) (reader' : Reader) (left' : List ℕ) → Moves (Some ReadFault) line reader reader' left left' → reader'.ended ≡ false → reader'.waiting ≡ []
          → StopsAtFault p begin bytes left' before held
      stops_at line reader' left' m e w =
          let whole = fault_read bytes u.done line reader reader' left left' u.read m e w in
          record {
            read = u.read.read ++ m.read;
            first_part = fault_part bytes u.done line reader reader' left left' u.read m;
            plays = plays _ Ended (ap (λ (s : Script). s.lines) whole ∙ append-nil u.done) (ap (λ (s : Script). s.ending) whole);
          }

      all_done : rest.lines ≡ [] → (script bytes).lines ≡ u.done
      all_done e = u.lines ∙ ap (λ ls. u.done ++ ls) e ∙ append-nil u.done

      -- no line is left
      pub ends_at : (ending : Ending) → rest ≡ no_lines ending → PlaysAll p begin (script bytes) ending before held
      ends_at ending e = plays (script bytes) ending (all_done (ap (λ (l : Script). l.lines) e)) (u.ending ∙ ap (λ (l : Script). l.ending) e)

      pub ends_whole : (left' : List ℕ) → left' ≡ [] → rest ≡ no_lines Ended → RunsToEnd p begin bytes left' before held
      ends_whole left' none e = record { all_read = none; plays = ends_at Ended e }

      pub ends_long : rest ≡ no_lines script.TooLong → StopsAtLong p begin (script bytes) (given + 1) before held
      ends_long e = record { plays = ends_at script.TooLong e; numbered = ap (λ n. n + 1) (u.counted ∙ ap length (sym (all_done (ap (λ (l : Script). l.lines) e)))) }

    -- the first line that is left is in no form
    pub ends_bad : (line : List ℕ) (rest : Script) (held : Option (List ℕ)) → (u : Underway p d begin bytes before hall given reader left (first_line line rest) held) → p.form line ≡ None
        → StopsAtBad p begin (script bytes) (given + 1) before held
    unfolding bad_line
    ends_bad line rest held u e = record {
      first_bad = ap (bad_from p.form 0) u.lines ∙ u.bad (line ∷ rest.lines) ∙ ap (λ o. option_map_or (λ step. (bad_from p.form (given + 1) rest.lines)) o (Some (given + 1))) e;
      plays = plays_by (u.marks ++ []) (script bytes).lines before u.gained held u.added
          (ap (λ ls. printed p (u.marks ++ []) ls begin) u.lines ∙ u.so_far [] (line ∷ rest.lines)
          ∙ ap (λ x. u.gained ++ x) (bad_printed p d ok [] line rest.lines u.h e) ∙ append-nil u.gained);
    }

    -- the sink fails within what the first line that is left prints
    pub breaks : (line : List ℕ) (rest : Script) (held : Option (List ℕ)) (hall' : Held) → (u : Underway p d begin bytes before hall given reader left (first_line line rest) held) → (after : Option (List ℕ)) → StoppedIn p d u.h line hall' (told_bytes held) after
        → BreaksOff p begin (script bytes) before after
    breaks line rest held hall' u after r = record {
      marks = u.marks ++ r.mark ∷ [];
      printed_bytes = u.gained ++ take r.printed_bytes said;
      missing = drop r.printed_bytes said ++ more;
      whole = append_assoc u.gained (take r.printed_bytes said) (drop r.printed_bytes said ++ more)
          ∙ ap (λ x. u.gained ++ x) (sym (append_assoc (take r.printed_bytes said) (drop r.printed_bytes said) more) ∙ ap (λ x. x ++ more) (halves r.printed_bytes said))
          ∙ sym (ap (λ ls. printed p (u.marks ++ r.mark ∷ []) ls begin) u.lines
          ∙ u.so_far (r.mark ∷ []) (line ∷ rest.lines) ∙ ap (λ x. u.gained ++ x) (line_printed p d ok r.mark [] line rest.lines r.step u.h r.in_form));
      added = r.added ∙ ap (λ x. Some (x ++ take r.printed_bytes said)) (ap told_bytes u.added) ∙ ap Some (append_assoc before u.gained (take r.printed_bytes said));
    }
      where
        said : List ℕ
        said = (d.does r.mark r.step u.h).1

        more : List ℕ
        more = printed p [] rest.lines (d.does r.mark r.step u.h).0

    -- and what is left then
    pub breaks_leaving : (line : List ℕ) (rest : Script) (held : Option (List ℕ)) (hall' : Held) → (u : Underway p d begin bytes before hall given reader left (first_line line rest) held) → (after : Option (List ℕ)) → StoppedIn p d u.h line hall' (told_bytes held) after
        → Leaves p d begin (script bytes) hall' before after WriteFault
    breaks_leaving line rest held hall' u after r = record {
      marks = u.marks ++ r.mark ∷ [];
      done = u.done ++ line ∷ [];
      rest = rest.lines;
      lines = u.lines ∙ sym (append_assoc u.done (line ∷ []) rest.lines);
      shown = u.gained ++ take r.printed_bytes said;
      missing = drop r.printed_bytes said;
      whole = append_assoc u.gained (take r.printed_bytes said) (drop r.printed_bytes said)
          ∙ ap (λ x. u.gained ++ x) (halves r.printed_bytes said ∙ sym (append-nil said) ∙ ap (λ x. said ++ x) (sym (nothing_printed p d ok [] (d.does r.mark r.step u.h).0)))
          ∙ sym (u.so_far (r.mark ∷ []) (line ∷ []) ∙ ap (λ x. u.gained ++ x) (line_printed p d ok r.mark [] line [] r.step u.h r.in_form));
      added = r.added ∙ ap (λ x. Some (x ++ take r.printed_bytes said)) (ap told_bytes u.added) ∙ ap Some (append_assoc before u.gained (take r.printed_bytes said));
      all_shown = inr refl;
      stands = inl (subst (λ s. d.Stands hall' s) (sym (u.at (r.mark ∷ []) (line ∷ []) ∙ ap (λ o. after_steps d (r.mark ∷ []) (option_map_or (λ step. step ∷ []) o []) u.h) r.in_form)) r.stands);
    }
      where
        said : List ℕ
        said = (d.does r.mark r.step u.h).1
