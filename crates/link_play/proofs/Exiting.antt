-- How the answers to a line and to its reading end a run, or let it go on: its counts of faults, and what the link tells of its end.
use Rattle.std.proofs.Common.{◌≡◌, ◌+◌, ℕ, Some, None, Err, refl, sym, ◌∙◌, subst}
use Rattle.board_links.specs.Faults.{HasRisen}
use Rattle.board_links.specs.declared.link.Stage.{Stage}
use Rattle.line_runner.specs.Reading.{Raises}
use Rattle.line_runner.specs.declared.next.Next.{Next}
use Rattle.line_runner.specs.declared.next.Next.TheVariants as next
use Rattle.link_play.specs.Counts.{ExitRaises, ExitShows, LineRaises, LineShows}
use Rattle.link_play.specs.Pieces.{SendRaises}
use Rattle.line_runner.proofs.EndLaws.{exit_is, no_exit, some_exit}
use Rattle.line_runner.specs.Running.{stop_at}
use Rattle.link_play.specs.Exits.{end_at, stopped}
use Rattle.line_runner.specs.declared.exit.Exit.{Exit}
use Rattle.line_runner.specs.declared.exit.Exit.TheVariants.{Done, BadLine, TooLong, TooMany, ReadFault, WriteFault, NoMemory, LinkFault, LinkEnded, LinkLong}
use Rattle.link_play.specs.declared.stop.LineStatus.{LineStatus}
use Rattle.link_play.specs.declared.stop.LineStatus.TheVariants as ran
use Rattle.link_play.specs.declared.stop.Stop.{Stop}
use Rattle.link_play.specs.declared.stop.Stop.TheVariants as stop

-- ---- where no line came

module _ (first old new sink_first sink link_first link : ℕ) (h : old ≡ first) (s : sink ≡ sink_first) (l : link ≡ link_first) where
  pub stop_raises : (n : Next) (given : ℕ) (exit : Exit) → stop_at n given ≡ Some exit → Raises n old new → ExitRaises exit first new sink_first sink link_first link
  stop_raises next.Line given exit e r = absurd (no_exit exit e)
  stop_raises next.End given exit e r = subst (λ x. ExitRaises x first new sink_first sink link_first link) (exit_is Done exit e) (r ∙ h, s, l)
  stop_raises next.TooLong given exit e r = subst (λ x. ExitRaises x first new sink_first sink link_first link) (exit_is (TooLong (given + 1)) exit e) (r ∙ h, s, l)
  stop_raises next.TooMany given exit e r = subst (λ x. ExitRaises x first new sink_first sink link_first link) (exit_is TooMany exit e) (r ∙ h, s, l)
  stop_raises next.ReadFault given exit e r =
      subst (λ x. ExitRaises x first new sink_first sink link_first link) (exit_is ReadFault exit e) (subst (λ f. HasRisen f new) h r, s, l)
  stop_raises next.NoMemory given exit e r = subst (λ x. ExitRaises x first new sink_first sink link_first link) (exit_is NoMemory exit e) (r ∙ h, s, l)

pub stop_shows : (at : Stage) (n : Next) (given : ℕ) (exit : Exit) → stop_at n given ≡ Some exit → ExitShows exit at
stop_shows at next.Line given exit e = absurd (no_exit exit e)
stop_shows at next.End given exit e = subst (λ x. ExitShows x at) (exit_is Done exit e) tt
stop_shows at next.TooLong given exit e = subst (λ x. ExitShows x at) (exit_is (TooLong (given + 1)) exit e) tt
stop_shows at next.TooMany given exit e = subst (λ x. ExitShows x at) (exit_is TooMany exit e) tt
stop_shows at next.ReadFault given exit e = subst (λ x. ExitShows x at) (exit_is ReadFault exit e) tt
stop_shows at next.NoMemory given exit e = subst (λ x. ExitShows x at) (exit_is NoMemory exit e) tt

-- ---- at a line

module _ (source_first source first old new link_first link_old link_new : ℕ) (s : source ≡ source_first) (h : old ≡ first) (l : link_old ≡ link_first) where
  abbrev Raised : Exit → Type 0
  Raised exit = ExitRaises exit source_first source first new link_first link_new

  pub end_raises : (r : LineStatus) (line : ℕ) (exit : Exit) → end_at r line ≡ Some exit → LineRaises r old new link_old link_new → Raised exit
  end_raises ran.Done line exit e r = absurd (no_exit exit e)
  end_raises ran.Ended line exit e r = subst Raised (exit_is Done exit e) (s, r.0 ∙ h, r.1 ∙ l)
  end_raises ran.BadLine line exit e r = subst Raised (exit_is (BadLine line) exit e) (s, r.0 ∙ h, r.1 ∙ l)
  end_raises ran.Unread line exit e r = subst Raised (exit_is NoMemory exit e) (s, r.0 ∙ h, r.1 ∙ l)
  end_raises (ran.Stopped stop.WriteFault) line exit e r = subst Raised (exit_is WriteFault exit e) (s, subst (λ f. HasRisen f new) h r.0, r.1 ∙ l)
  end_raises (ran.Stopped stop.LinkFault) line exit e r = subst Raised (exit_is LinkFault exit e) (s, r.0 ∙ h, subst (λ f. HasRisen f link_new) l r.1)
  end_raises (ran.Stopped stop.LinkEnded) line exit e r = subst Raised (exit_is LinkEnded exit e) (s, r.0 ∙ h, r.1 ∙ l)
  end_raises (ran.Stopped stop.LinkLong) line exit e r = subst Raised (exit_is LinkLong exit e) (s, r.0 ∙ h, r.1 ∙ l)
  end_raises (ran.Stopped stop.NoMemory) line exit e r = subst Raised (exit_is NoMemory exit e) (s, r.0 ∙ h, r.1 ∙ l)

pub end_shows : (at : Stage) (r : LineStatus) (line : ℕ) (exit : Exit) → end_at r line ≡ Some exit → LineShows r at → ExitShows exit at
end_shows at ran.Done line exit e r = absurd (no_exit exit e)
end_shows at ran.Ended line exit e r = subst (λ x. ExitShows x at) (exit_is Done exit e) tt
end_shows at ran.BadLine line exit e r = subst (λ x. ExitShows x at) (exit_is (BadLine line) exit e) tt
end_shows at ran.Unread line exit e r = subst (λ x. ExitShows x at) (exit_is NoMemory exit e) tt
end_shows at (ran.Stopped stop.WriteFault) line exit e r = subst (λ x. ExitShows x at) (exit_is WriteFault exit e) tt
end_shows at (ran.Stopped stop.LinkFault) line exit e r = subst (λ x. ExitShows x at) (exit_is LinkFault exit e) tt
end_shows at (ran.Stopped stop.LinkEnded) line exit e r = subst (λ x. ExitShows x at) (exit_is LinkEnded exit e) r
end_shows at (ran.Stopped stop.LinkLong) line exit e r = subst (λ x. ExitShows x at) (exit_is LinkLong exit e) r
end_shows at (ran.Stopped stop.NoMemory) line exit e r = subst (λ x. ExitShows x at) (exit_is NoMemory exit e) tt

-- where a line goes on, its command was done
pub done_is : (r : LineStatus) (line : ℕ) → end_at r line ≡ None → r ≡ ran.Done
done_is ran.Done line e = refl
done_is ran.Ended line e = absurd (some_exit Done e)
done_is ran.BadLine line e = absurd (some_exit (BadLine line) e)
done_is ran.Unread line e = absurd (some_exit NoMemory e)
done_is (ran.Stopped why) line e = absurd (some_exit (stopped why) e)

-- and the counts of faults stayed
pub end_stays : (r : LineStatus) (line old new link_old link_new : ℕ) → end_at r line ≡ None → LineRaises r old new link_old link_new → (new ≡ old) × (link_new ≡ link_old)
end_stays ran.Done line old new a b e r = r
end_stays ran.Ended line old new a b e r = r
end_stays ran.BadLine line old new a b e r = r
end_stays ran.Unread line old new a b e r = r
end_stays (ran.Stopped why) line old new a b e r = absurd (some_exit (stopped why) e)

-- ---- at the first line that is sent

module _ (source sink link_old link_new : ℕ) where
  abbrev First : Exit → Type 0
  First exit = ExitRaises exit source source sink sink link_old link_new

  pub first_raises : (why : Stop) (exit : Exit) → exit ≡ stopped why → SendRaises (Err why) link_old link_new → ExitRaises exit source source sink sink link_old link_new
  first_raises stop.WriteFault exit e r = absurd r
  first_raises stop.LinkFault exit e r = subst First (sym e) (refl, refl, r)
  first_raises stop.LinkEnded exit e r = absurd r
  first_raises stop.LinkLong exit e r = absurd r
  first_raises stop.NoMemory exit e r = subst First (sym e) (refl, refl, r)

  pub first_shows : (at : Stage) (why : Stop) (exit : Exit) → exit ≡ stopped why → SendRaises (Err why) link_old link_new → ExitShows exit at
  first_shows at stop.WriteFault exit e r = absurd r
  first_shows at stop.LinkFault exit e r = subst (λ x. ExitShows x at) (sym e) tt
  first_shows at stop.LinkEnded exit e r = absurd r
  first_shows at stop.LinkLong exit e r = absurd r
  first_shows at stop.NoMemory exit e r = subst (λ x. ExitShows x at) (sym e) tt
