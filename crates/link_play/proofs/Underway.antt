-- What a run has come to, before its next line.
use Rattle.std.proofs.Common.{◌≡◌, ◌≢◌, ℕ, ◌+◌, List, [], ◌∷◌, ◌++◌, length, Some, None, refl, sym, ap, ◌∙◌, subst, append_assoc, append-nil, length-append}
use Rattle.game_trait.specs.Rules.{Rules}
use Rattle.line_runner.specs.Reader.{Reader, fresh}
use Rattle.line_runner.specs.ScriptLines.{Script, Ending, first_line, no_lines, script}
use Rattle.line_runner.proofs.Underway.{HasRead, nothing_read}
use Rattle.link_play.specs.Commands.{Command, Syncs, Ends, command_of}
use Rattle.link_play.specs.Doing.{Does, Runs, Who, sync_line}
use Rattle.link_play.specs.Ends.{Interrupts, Pauses, RunsAll, RunsOut}
use Rattle.link_play.specs.Plan.{AtBad, AtEnd, Close, Open, Plan, behind, plan_from, plan_of, with_line}
use Rattle.link_play.specs.Sitting.{Sitting, sends}
use Rattle.link_play.specs.Stopping.{StopsIn}
use Rattle.link_play.specs.declared.stop.Stop.{Stop}
use Rattle.link_play.proofs.Planning.{behind_more, runs_more, with_more}

-- the lines that were done, and the commands that they asked for. Whatever lines are still to come, the plan is those commands, and then
-- what the lines ask for from here on.
pub record Underway {G : Type 0} (rules : Rules G) (who : Who) (bytes : List ℕ) (first : Sitting G) (given : ℕ) (reader : Reader) (left : List ℕ) (rest : Script) (now : Sitting G) : Type 0 where
  pub done : List (List ℕ)
  pub commands : List Command
  pub read : HasRead bytes done reader left
  pub lines : (script bytes).lines ≡ done ++ rest.lines
  pub ending : (script bytes).ending ≡ rest.ending
  pub counted : given ≡ length done
  pub plan : (more : List (List ℕ)) → plan_of (done ++ more) ≡ behind commands (plan_from given more)
  pub runs : Runs rules who commands first now

abbrev commands_of : Plan → List Command
commands_of p = p.commands

abbrev close_of : Plan → Close
close_of p = p.close

module _ {G : Type 0} (rules : Rules G) (who : Who) (bytes : List ℕ) (first : Sitting G) where
  -- the stream of the match was asked for, and nothing was read
  pub begins : (now : Sitting G) → now ≡ sends first (sync_line who) → Underway rules who bytes first 0 fresh bytes (script bytes) now
  unfolding plan_of
  begins now e = record {
    done = [];
    commands = Syncs ∷ [];
    read = nothing_read bytes;
    lines = refl;
    ending = refl;
    counted = refl;
    plan = λ more. refl;
    runs = (now, e, refl);
  }

  module _ (given : ℕ) (reader : Reader) (left : List ℕ) where
    -- a line whose command was done
    pub goes_on : (line : List ℕ) (rest : Script) (now : Sitting G) → (u : Underway rules who bytes first given reader left (first_line line rest) now)
        → (reader' : Reader) (left' : List ℕ) → HasRead bytes (u.done ++ line ∷ []) reader' left'
        → (c : Command) → command_of line ≡ Some c → c ≢ Ends → (t : Sitting G) → Does rules who c now t
        → Underway rules who bytes first (given + 1) reader' left' rest t
    goes_on line rest now u reader' left' read c asks other t does = record {
      done = u.done ++ line ∷ [];
      commands = u.commands ++ c ∷ [];
      read = read;
      lines = u.lines ∙ sym (append_assoc u.done (line ∷ []) rest.lines);
      ending = u.ending;
      counted = ap (λ n. n + 1) u.counted ∙ sym (length-append u.done (line ∷ []));
      plan = λ more. ap plan_of (append_assoc u.done (line ∷ []) more) ∙ u.plan (line ∷ more)
          ∙ ap (λ o. behind u.commands (with_line o given (plan_from (given + 1) more))) asks
          ∙ ap (behind u.commands) (with_more c (plan_from (given + 1) more) other) ∙ behind_more u.commands c (plan_from (given + 1) more);
      runs = runs_more rules who u.commands c first now t u.runs does;
    }

    -- the plan of the whole script, from the lines that are left
    module _ (rest : Script) (now : Sitting G) (u : Underway rules who bytes first given reader left rest now) where
      whole : plan_of (script bytes).lines ≡ behind u.commands (plan_from given rest.lines)
      whole = ap plan_of u.lines ∙ u.plan rest.lines

      -- where lines are those that were done, all was done
      all_of : (lines : List (List ℕ)) → lines ≡ u.done → RunsAll rules who lines Open first now
      all_of lines e =
          let p : plan_of lines ≡ behind u.commands (record { commands = []; close = Open }) = ap plan_of (e ∙ sym (append-nil u.done)) ∙ u.plan [] in
          record { closes = ap close_of p; runs = subst (λ cs. Runs rules who cs first now) (sym (ap commands_of p ∙ append-nil u.commands)) u.runs }

      pub all_out : (lines : Script) (ending : Ending) → lines ≡ record { lines = u.done; ending = ending } → RunsOut rules who lines ending first now
      all_out lines ending e = record { ends = ap (λ (l : Script). l.ending) e; all = all_of lines.lines (ap (λ (l : Script). l.lines) e) }

      -- no line is left
      pub all_done : rest.lines ≡ [] → (script bytes).lines ≡ u.done
      all_done e = u.lines ∙ ap (λ ls. u.done ++ ls) e ∙ append-nil u.done

      pub ends_at : (ending : Ending) → rest ≡ no_lines ending → RunsOut rules who (script bytes) ending first now
      ends_at ending e = record { ends = u.ending ∙ ap (λ (l : Script). l.ending) e; all = all_of (script bytes).lines (all_done (ap (λ (l : Script). l.lines) e)) }

      pub pauses : Pauses rules who (plan_of (script bytes).lines).commands first now
      pauses = record { done = u.commands; rest = (plan_from given rest.lines).commands; parts = ap commands_of whole; runs = u.runs }

    module _ (line : List ℕ) (rest : Script) (now : Sitting G) (u : Underway rules who bytes first given reader left (first_line line rest) now) where
      -- a line that ends the run, or is in no form
      closes_by : (close : Close) → with_line (command_of line) given (plan_from (given + 1) rest.lines) ≡ record { commands = []; close = close }
          → RunsAll rules who (script bytes).lines close first now
      closes_by close e =
          let p : plan_of (script bytes).lines ≡ behind u.commands (record { commands = []; close = close }) = whole (first_line line rest) now u ∙ ap (behind u.commands) e in
          record { closes = ap close_of p; runs = subst (λ cs. Runs rules who cs first now) (sym (ap commands_of p ∙ append-nil u.commands)) u.runs }

      pub ends_here : command_of line ≡ Some Ends → RunsAll rules who (script bytes).lines AtEnd first now
      ends_here e = closes_by AtEnd (ap (λ o. with_line o given (plan_from (given + 1) rest.lines)) e)

      pub bad_here : command_of line ≡ None → RunsAll rules who (script bytes).lines (AtBad (given + 1)) first now
      bad_here e = closes_by (AtBad (given + 1)) (ap (λ o. with_line o given (plan_from (given + 1) rest.lines)) e)

      -- a line whose command is broken off
      pub interrupts : (why : Stop) (c : Command) → command_of line ≡ Some c → c ≢ Ends → (t : Sitting G) → StopsIn rules who c why now t
          → Interrupts rules who why (plan_of (script bytes).lines).commands first t
      interrupts why c asks other t stops = record {
        done = u.commands;
        under_way = c;
        rest = (plan_from (given + 1) rest.lines).commands;
        parts = ap commands_of (whole (first_line line rest) now u ∙ ap (λ o. behind u.commands (with_line o given (plan_from (given + 1) rest.lines))) asks
            ∙ ap (behind u.commands) (with_more c (plan_from (given + 1) rest.lines) other));
        before = now;
        runs = u.runs;
        stops = stops;
      }
