-- How a run ends.
use Rattle.std.proofs.Common.{◌≡◌, ◌+◌, ℕ, List, [], ◌++◌, length, Some, None, refl, sym, ap, ◌∙◌, subst, append-nil, inl, inr}
use Rattle.board_links.specs.Faults.{HasRisen}
use Rattle.board_links.specs.declared.link.Stage.{Stage}
use Rattle.board_links.specs.declared.link.Stage.TheVariants as stage
use Rattle.game_trait.specs.Rules.{Rules}
use Rattle.line_runner.specs.Reading.{Moves, StandsAt, given_after}
use Rattle.line_runner.specs.Reader.{Reader, fresh, to_come}
use Rattle.line_runner.specs.ScriptLines.{Script, first_line, script}
use Rattle.line_runner.specs.ScriptLines as script
use Rattle.line_runner.specs.declared.next.Next.{Next}
use Rattle.line_runner.specs.declared.next.Next.TheVariants as next
use Rattle.line_runner.proofs.Moving.{none_after}
use Rattle.line_runner.proofs.Underway.{fault_part, fault_read, line_read}
use Rattle.link_play.specs.Commands.{Syncs}
use Rattle.link_play.specs.Counts.{ExitRaises, ExitShows}
use Rattle.link_play.specs.Doing.{Who, sync_line}
use Rattle.link_play.specs.Ends.{AreInForm, Ends, Interrupts, IsComplete, StopsAtFault}
use Rattle.line_runner.specs.Running.{stop_at}
use Rattle.link_play.specs.Exits.{end_at, stopped}
use Rattle.link_play.specs.Lines.{RanLine}
use Rattle.link_play.specs.Plan.{plan_from, plan_of}
use Rattle.link_play.specs.Sitting.{Sitting, sends}
use Rattle.link_play.specs.Stopping.{StopsIn}
use Rattle.line_runner.specs.declared.exit.Exit.{Exit}
use Rattle.line_runner.specs.declared.exit.Exit.TheVariants.{Done, Usage, ReadFault, WriteFault, BadLine, TooLong, TooMany, NoMemory, DoorFault, LinkFault, LinkEnded, LinkLong, BadRecord, LongJournal, StoreFault}
use Rattle.link_play.specs.declared.stop.LineStatus.{LineStatus}
use Rattle.link_play.specs.declared.stop.LineStatus.TheVariants as ran
use Rattle.link_play.specs.declared.stop.Stop.{Stop}
use Rattle.link_play.specs.declared.stop.Stop.TheVariants as stop
use Rattle.line_runner.proofs.EndLaws.{exit_is, line_is, no_exit}
use Rattle.link_play.proofs.Underway.{Underway, all_done, all_out, bad_here, begins, ends_at, ends_here, goes_on, interrupts, pauses}

not_long : script.Ended ≡ script.TooLong → ⊥
not_long e = cc

not_many : script.Ended ≡ script.TooMany → ⊥
not_many e = cc

not_ended : stage.Open ≡ stage.Ended → ⊥
not_ended e = cc

not_long_stage : stage.Open ≡ stage.TooLong → ⊥
not_long_stage e = cc

-- where no end came, there was a line
pub as_line : (n : Next) (given : ℕ) (line : List ℕ) (old new : Reader) (before after : List ℕ) → stop_at n given ≡ None → Moves (Some n) line old new before after → Moves (Some next.Line) line old new before after
as_line n given line old new before after e m = subst (λ x. Moves (Some x) line old new before after) (line_is n given e) m

pub counts_line : (n : Next) (given count before : ℕ) → stop_at n given ≡ None → count ≡ given_after n before → count ≡ before + 1
counts_line n given count before e g = g ∙ ap (λ x. given_after x before) (line_is n given e)

module _ {G : Type 0} (rules : Rules G) (who : Who) where
  -- lines in form, within the limits, without a fault and over a link that doesn't end come to their end, or there was no memory
  pub completes : (exit : Exit) (bytes left : List ℕ) (s t : Sitting G) (at : Stage) (source_old source_new sink_old sink_new link_old link_new : ℕ)
      → Ends rules who exit bytes left s t → ExitRaises exit source_old source_new sink_old sink_new link_old link_new → ExitShows exit at → AreInForm bytes
      → (HasRisen source_old source_new → ⊥) → (HasRisen sink_old sink_new → ⊥) → (HasRisen link_old link_new → ⊥) → at ≡ stage.Open → IsComplete exit
  completes Done bytes left s t at a b c d x y e r w f i k l o = tt
  completes NoMemory bytes left s t at a b c d x y e r w f i k l o = tt
  completes Usage bytes left s t at a b c d x y e r w f i k l o = e
  completes DoorFault bytes left s t at a b c d x y e r w f i k l o = e
  completes (BadRecord place) bytes left s t at a b c d x y e r w f i k l o = e
  completes LongJournal bytes left s t at a b c d x y e r w f i k l o = e
  completes StoreFault bytes left s t at a b c d x y e r w f i k l o = e
  completes ReadFault bytes left s t at a b c d x y e r w f i k l o = i r.0
  completes WriteFault bytes left s t at a b c d x y e r w f i k l o = k r.1
  completes LinkFault bytes left s t at a b c d x y e r w f i k l o = l r.2
  completes (BadLine line) bytes left s t at a b c d x y e r w f i k l o = f.in_form line e.closes
  completes (TooLong line) bytes left s t at a b c d x y e r w f i k l o = not_long (sym f.within ∙ e.all.ends)
  completes TooMany bytes left s t at a b c d x y e r w f i k l o = not_many (sym f.within ∙ e.ends)
  completes LinkEnded bytes left s t at a b c d x y e r w f i k l o = not_ended (sym o ∙ w)
  completes LinkLong bytes left s t at a b c d x y e r w f i k l o = not_long_stage (sym o ∙ w)

  -- a command that is broken off ends the run
  pub breaks : (why : Stop) (bytes left : List ℕ) (s t : Sitting G) → Interrupts rules who why (plan_of (script bytes).lines).commands s t → Ends rules who (stopped why) bytes left s t
  breaks stop.WriteFault bytes left s t h = h
  breaks stop.LinkFault bytes left s t h = h
  breaks stop.LinkEnded bytes left s t h = h
  breaks stop.LinkLong bytes left s t h = h
  breaks stop.NoMemory bytes left s t h = inr h

  -- the very first one
  pub breaks_first : (why : Stop) (bytes left : List ℕ) (s t : Sitting G) → StopsIn rules who Syncs why s t → Ends rules who (stopped why) bytes left s t
  unfolding plan_of
  breaks_first why bytes left s t h = breaks why bytes left s t (record {
    done = [];
    under_way = Syncs;
    rest = (plan_from 0 (script bytes).lines).commands;
    parts = refl;
    before = s;
    runs = refl;
    stops = h;
  })

  module _ (bytes : List ℕ) (first : Sitting G) (given : ℕ) (reader : Reader) (left : List ℕ) (now : Sitting G)
      (u : Underway rules who bytes first given reader left (to_come reader left) now) where
    fault_ends : (line : List ℕ) (reader' : Reader) (left' : List ℕ) → Moves (Some next.ReadFault) line reader reader' left left' → StandsAt (Some next.ReadFault) reader'
        → StopsAtFault rules who bytes left' first now
    fault_ends line reader' left' m s = record {
      read = u.read.read ++ m.read;
      first_part = fault_part bytes u.done line reader reader' left left' u.read m;
      all = all_out rules who bytes first given reader left (to_come reader left) now u _ script.Ended
          (fault_read bytes u.done line reader reader' left left' u.read m s.0 s.1
          ∙ ap (λ ls. let l : Script = record { lines = ls; ending = script.Ended } in l) (append-nil u.done));
    }

    -- where no line came
    pub stop_ends : (n : Next) (line : List ℕ) (reader' : Reader) (left' : List ℕ) (exit : Exit) (count : ℕ)
        → Moves (Some n) line reader reader' left left' → StandsAt (Some n) reader' → count ≡ given_after n given → stop_at n count ≡ Some exit → Ends rules who exit bytes left' first now
    stop_ends next.Line line reader' left' exit count m s g e = absurd (no_exit exit e)
    stop_ends next.End line reader' left' exit count m s g e =
        subst (λ x. Ends rules who x bytes left' first now) (exit_is Done exit e)
        (inr (record {
          all_read = none_after (Some next.End) line reader reader' left left' reader.ended refl m u.read.at_end s;
          all = ends_at rules who bytes first given reader left (to_come reader left) now u script.Ended m.lines.0;
        }))
    stop_ends next.TooLong line reader' left' exit count m s g e =
        subst (λ x. Ends rules who x bytes left' first now) (ap (λ n. TooLong (n + 1)) (sym g) ∙ exit_is (TooLong (count + 1)) exit e)
        (record {
          all = ends_at rules who bytes first given reader left (to_come reader left) now u script.TooLong m.lines.0;
          numbered = ap (λ n. n + 1) (u.counted ∙ ap length (sym (all_done rules who bytes first given reader left (to_come reader left) now u (ap (λ (l : Script). l.lines) m.lines.0))));
        })
    stop_ends next.TooMany line reader' left' exit count m s g e =
        subst (λ x. Ends rules who x bytes left' first now) (exit_is TooMany exit e)
        (ends_at rules who bytes first given reader left (to_come reader left) now u script.TooMany m.lines.0)
    stop_ends next.ReadFault line reader' left' exit count m s g e =
        subst (λ x. Ends rules who x bytes left' first now) (exit_is ReadFault exit e) (fault_ends line reader' left' m s)
    stop_ends next.NoMemory line reader' left' exit count m s g e =
        subst (λ x. Ends rules who x bytes left' first now) (exit_is NoMemory exit e) (inl (pauses rules who bytes first given reader left (to_come reader left) now u))

    -- the first line that is left, read
    module _ (line : List ℕ) (reader' : Reader) (left' : List ℕ) (m : Moves (Some next.Line) line reader reader' left left') (shown : List ℕ) (w : shown ≡ line) where
      moved : Moves (Some next.Line) shown reader reader' left left'
      moved = subst (λ l. Moves (Some next.Line) l reader reader' left left') (sym w) m

      here : Underway rules who bytes first given reader left (first_line shown (to_come reader' left')) now
      here = subst (λ l. Underway rules who bytes first given reader left l now) moved.lines u

      -- and then run to an end
      pub end_ends : (t : Sitting G) (r : LineStatus) (exit : Exit) (count : ℕ) → RanLine rules who shown r now t → count ≡ given + 1 → end_at r count ≡ Some exit
          → Ends rules who exit bytes left' first t
      end_ends t ran.Done exit count l g e = absurd (no_exit exit e)
      end_ends t ran.Ended exit count l g e =
          subst (λ x. Ends rules who x bytes left' first t) (exit_is Done exit e)
          (subst (λ x. Ends rules who Done bytes left' first x) (sym l.1) (inl (ends_here rules who bytes first given reader left shown (to_come reader' left') now here l.0)))
      end_ends t ran.BadLine exit count l g e =
          subst (λ x. Ends rules who x bytes left' first t) (ap BadLine (sym g) ∙ exit_is (BadLine count) exit e)
          (subst (λ x. Ends rules who (BadLine (given + 1)) bytes left' first x) (sym l.1) (bad_here rules who bytes first given reader left shown (to_come reader' left') now here l.0))
      end_ends t ran.Unread exit count l g e =
          subst (λ x. Ends rules who x bytes left' first t) (exit_is NoMemory exit e)
          (subst (λ x. Ends rules who NoMemory bytes left' first x) (sym l) (inl (pauses rules who bytes first given reader left (first_line shown (to_come reader' left')) now here)))
      end_ends t (ran.Stopped why) exit count l g e =
          subst (λ x. Ends rules who x bytes left' first t) (exit_is (stopped why) exit e)
          (breaks why bytes left' first t (interrupts rules who bytes first given reader left shown (to_come reader' left') now here why l.0 l.1 l.2 t l.3))

      -- and then done
      pub line_goes : (t : Sitting G) (r : LineStatus) (count : ℕ) → RanLine rules who shown r now t → count ≡ given + 1 → r ≡ ran.Done
          → Underway rules who bytes first count reader' left' (to_come reader' left') t
      line_goes t r count l g e =
          let d : RanLine rules who shown ran.Done now t = subst (λ x. RanLine rules who shown x now t) e l in
          subst (λ n. Underway rules who bytes first n reader' left' (to_come reader' left') t) (sym g)
          (goes_on rules who bytes first given reader left shown (to_come reader' left') now here reader' left'
          (line_read bytes here.done shown reader reader' left left' here.read moved) d.0 d.1 d.2 t d.3)

  -- a run in which nothing was read
  pub begins_with : (bytes : List ℕ) (first now : Sitting G) → now ≡ sends first (sync_line who) → (reader : Reader) → reader ≡ fresh
      → Underway rules who bytes first reader.given reader bytes (to_come reader bytes) now
  begins_with bytes first now e reader f =
      subst (λ r. Underway rules who bytes first r.given r bytes (to_come r bytes) now) (sym f) (begins rules who bytes first now e)
