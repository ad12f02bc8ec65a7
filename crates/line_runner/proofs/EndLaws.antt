-- How the answers to a line and to its reading end a run, or let it go on.
use Rattle.std.proofs.Common.{◌≡◌, ◌+◌, ◌++◌, inl, inr, ℕ, List, [], Option, Some, None, IsSome, refl, sym, ap, ◌∙◌, subst, append-nil}
use Rattle.board_links.specs.Faults.{HasRisen}
use Rattle.board_links.specs.Pieces.{told_bytes}
use Rattle.line_runner.specs.Play.{Doing, IsPlay, Play}
use Rattle.line_runner.specs.Reading.{Raises, given_after, StandsAt, Moves}
use Rattle.line_runner.specs.Running.{AreInForm, Ends, EndsOver, ExitRaises, GoesOn, IsComplete, Leaves, LineRaises, RanLine, StopsEarly, end_at, stop_at}
use Rattle.line_runner.specs.Reader.{Reader, fresh, to_come}
use Rattle.line_runner.specs.ScriptLines.{Script, first_line, script}
use Rattle.line_runner.specs.ScriptLines as script
use Rattle.line_runner.specs.declared.exit.Exit.{Exit}
use Rattle.line_runner.specs.declared.exit.Exit.TheVariants.{Done, BadLine, TooLong, TooMany, ReadFault, WriteFault, NoMemory, Usage, DoorFault, LinkFault, LinkEnded, LinkLong, BadRecord, LongJournal, StoreFault}
use Rattle.line_runner.specs.declared.next.Next.{Next}
use Rattle.line_runner.specs.declared.next.Next.TheVariants as next
use Rattle.line_runner.specs.declared.run.LineStatus.{LineStatus}
use Rattle.line_runner.specs.declared.run.LineStatus.TheVariants as ran
use Rattle.line_runner.proofs.Moving.{none_after}
use Rattle.line_runner.proofs.Playing.{nothing_printed}
use Rattle.line_runner.proofs.RunLaws.{begins, breaks, breaks_leaving, ends_at, ends_bad, ends_long, ends_whole, goes_on, leaves_so, plays_by, stops, stops_at}
use Rattle.line_runner.proofs.Underway.{Underway, line_read}

pub exit_is : (a b : Exit) → Some a ≡ Some b → a ≡ b
exit_is a b h = cc

pub no_exit : (a : Exit) → None ≡ Some a → ⊥
no_exit a h = cc

pub some_exit : (a : Exit) → Some a ≡ None → ⊥
some_exit a h = cc

pub line_is : (n : Next) (given : ℕ) → stop_at n given ≡ None → n ≡ next.Line
line_is next.Line given h = refl
line_is next.End given h = absurd (some_exit Done h)
line_is next.TooLong given h = absurd (some_exit (TooLong (given + 1)) h)
line_is next.TooMany given h = absurd (some_exit TooMany h)
line_is next.ReadFault given h = absurd (some_exit ReadFault h)
line_is next.NoMemory given h = absurd (some_exit NoMemory h)

pub stop_raises : (n : Next) (given : ℕ) (exit : Exit) (first old new sink_first sink : ℕ) → stop_at n given ≡ Some exit → old ≡ first → sink ≡ sink_first → Raises n old new
    → ExitRaises exit first new sink_first sink
stop_raises next.Line given exit first old new k l e h s r = absurd (no_exit exit e)
stop_raises next.End given exit first old new k l e h s r = subst (λ x. ExitRaises x first new k l) (exit_is Done exit e) (r ∙ h, s)
stop_raises next.TooLong given exit first old new k l e h s r = subst (λ x. ExitRaises x first new k l) (exit_is (TooLong (given + 1)) exit e) (r ∙ h, s)
stop_raises next.TooMany given exit first old new k l e h s r = subst (λ x. ExitRaises x first new k l) (exit_is TooMany exit e) (r ∙ h, s)
stop_raises next.ReadFault given exit first old new k l e h s r = subst (λ x. ExitRaises x first new k l) (exit_is ReadFault exit e) (subst (λ f. HasRisen f new) h r, s)
stop_raises next.NoMemory given exit first old new k l e h s r = subst (λ x. ExitRaises x first new k l) (exit_is NoMemory exit e) (r ∙ h, s)

pub end_raises : (n : LineStatus) (line : ℕ) (exit : Exit) (source_first source first old new : ℕ) → end_at n line ≡ Some exit → source ≡ source_first → old ≡ first → LineRaises n old new
    → ExitRaises exit source_first source first new
end_raises ran.Done line exit k l first old new e s h r = absurd (no_exit exit e)
end_raises ran.BadLine line exit k l first old new e s h r = subst (λ x. ExitRaises x k l first new) (exit_is (BadLine line) exit e) (s, r ∙ h)
end_raises ran.WriteFault line exit k l first old new e s h r = subst (λ x. ExitRaises x k l first new) (exit_is WriteFault exit e) (s, subst (λ f. HasRisen f new) h r)
end_raises ran.NoMemory line exit k l first old new e s h r = subst (λ x. ExitRaises x k l first new) (exit_is NoMemory exit e) (s, r ∙ h)

-- where a line goes on, the count of faults stayed
pub end_stays : (n : LineStatus) (line old new : ℕ) → end_at n line ≡ None → LineRaises n old new → new ≡ old
end_stays ran.Done line old new e r = r
end_stays ran.BadLine line old new e r = r
end_stays ran.WriteFault line old new e r = absurd (some_exit WriteFault e)
end_stays ran.NoMemory line old new e r = r

-- and what stood for a state does so still
pub goes_on_with : (n : LineStatus) (line : ℕ) (P : Type 0) → end_at n line ≡ None → GoesOn n P → P
goes_on_with ran.Done line P e p = p
goes_on_with ran.BadLine line P e p = absurd (some_exit (BadLine line) e)
goes_on_with ran.WriteFault line P e p = absurd (some_exit WriteFault e)
goes_on_with ran.NoMemory line P e p = absurd (some_exit NoMemory e)

-- where a line comes, too
pub stop_stays : (n : Next) (given old new : ℕ) → stop_at n given ≡ None → Raises n old new → new ≡ old
stop_stays next.Line given old new e r = r
stop_stays next.End given old new e r = r
stop_stays next.TooLong given old new e r = r
stop_stays next.TooMany given old new e r = r
stop_stays next.ReadFault given old new e r = absurd (some_exit ReadFault e)
stop_stays next.NoMemory given old new e r = r

no_line : (line : ℕ) → None ≡ Some line → ⊥
no_line line e = cc

not_long : script.Ended ≡ script.TooLong → ⊥
not_long e = cc

not_many : script.Ended ≡ script.TooMany → ⊥
not_many e = cc

pub some_bytes : (o : Option (List ℕ)) → IsSome o → o ≡ Some (told_bytes o)
some_bytes (Some xs) e = refl
some_bytes None e = cc

module _ {Mark Step State : Type 0} (p : Play Mark Step State) (begin : State) where
  -- lines in form, within the limits and without a fault come to their end, or there was no memory
  pub completes : (exit : Exit) (bytes left before : List ℕ) (held : Option (List ℕ)) (source_old source_new sink_old sink_new : ℕ) → Ends p begin bytes left before held exit
      → ExitRaises exit source_old source_new sink_old sink_new → AreInForm p bytes → (HasRisen source_old source_new → ⊥) → (HasRisen sink_old sink_new → ⊥) → IsComplete exit
  completes Done bytes left before held a b c d e r f s k = tt
  completes Usage bytes left before held a b c d e r f s k = r
  completes ReadFault bytes left before held a b c d e r f s k = s r.0
  completes WriteFault bytes left before held a b c d e r f s k = k r.1
  completes (BadLine line) bytes left before held a b c d e r f s k = no_line line (sym f.in_form ∙ e.first_bad)
  completes (TooLong line) bytes left before held a b c d e r f s k = not_long (sym f.within ∙ e.plays.ends)
  completes TooMany bytes left before held a b c d e r f s k = not_many (sym f.within ∙ e.ends)
  completes NoMemory bytes left before held a b c d e r f s k = tt
  completes DoorFault bytes left before held a b c d e r f s k = r
  completes LinkFault bytes left before held a b c d e r f s k = r
  completes LinkEnded bytes left before held a b c d e r f s k = r
  completes LinkLong bytes left before held a b c d e r f s k = r
  completes (BadRecord place) bytes left before held a b c d e r f s k = absurd e
  completes LongJournal bytes left before held a b c d e r f s k = absurd e
  completes StoreFault bytes left before held a b c d e r f s k = absurd e

  -- the same, whatever the sink tells
  pub completes_over : (exit : Exit) (bytes left : List ℕ) (before held : Option (List ℕ)) (source_old source_new sink_old sink_new : ℕ) → EndsOver p begin bytes left before held exit
      → ExitRaises exit source_old source_new sink_old sink_new → AreInForm p bytes → (HasRisen source_old source_new → ⊥) → (HasRisen sink_old sink_new → ⊥) → IsComplete exit
  completes_over exit bytes left (Some before) held a b c d e r f s k = completes exit bytes left before held a b c d e r f s k
  completes_over exit bytes left None held a b c d e r f s k = completes exit bytes left [] e.0 a b c d e.1 r f s k

  -- what a sink tells is what was printed
  pub ends_over : (bytes left : List ℕ) (old new held : Option (List ℕ)) (exit : Exit) → (IsSome old → new ≡ held) → Ends p begin bytes left (told_bytes old) held exit → EndsOver p begin bytes left old new exit
  ends_over bytes left (Some before) new held exit same e = subst (λ h. Ends p begin bytes left before h exit) (sym (same refl)) e
  ends_over bytes left None new held exit same e = (held, e)

  -- over a sink that tells
  pub ends_told : (bytes left : List ℕ) (old new : Option (List ℕ)) (exit : Exit) → IsSome old → EndsOver p begin bytes left old new exit → Ends p begin bytes left (told_bytes old) new exit
  ends_told bytes left (Some before) new exit k e = e
  ends_told bytes left None new exit k e = cc

module _ {Mark Step State Held : Type 0} (p : Play Mark Step State) (d : Doing Mark Step State Held) (begin : State) (ok : IsPlay p d) where
  module _ (bytes before : List ℕ) (hall : Held) (given : ℕ) (reader : Reader) (left : List ℕ) where
    pub stop_ends : (held : Option (List ℕ)) (u : Underway p d begin bytes before hall given reader left (to_come reader left) held) (n : Next) (line : List ℕ) (reader' : Reader) (left' : List ℕ) (exit : Exit) (now : ℕ)
        → Moves (Some n) line reader reader' left left' → StandsAt (Some n) reader' → now ≡ given_after n given → stop_at n now ≡ Some exit → Ends p begin bytes left' before held exit
    stop_ends held u next.Line line reader' left' exit now m s g e = absurd (no_exit exit e)
    stop_ends held u next.End line reader' left' exit now m s g e =
        subst (λ x. Ends p begin bytes left' before held x) (exit_is Done exit e)
        (ends_whole p d begin ok bytes before hall given reader left (to_come reader left) held u left' (none_after (Some next.End) line reader reader' left left' reader.ended refl m u.read.at_end s) m.lines.0)
    stop_ends held u next.TooLong line reader' left' exit now m s g e =
        subst (λ x. Ends p begin bytes left' before held x) (ap (λ n. TooLong (n + 1)) (sym g) ∙ exit_is (TooLong (now + 1)) exit e)
        (ends_long p d begin ok bytes before hall given reader left (to_come reader left) held u m.lines.0)
    stop_ends held u next.TooMany line reader' left' exit now m s g e =
        subst (λ x. Ends p begin bytes left' before held x) (exit_is TooMany exit e)
        (ends_at p d begin ok bytes before hall given reader left (to_come reader left) held u script.TooMany m.lines.0)
    stop_ends held u next.ReadFault line reader' left' exit now m s g e =
        subst (λ x. Ends p begin bytes left' before held x) (exit_is ReadFault exit e) (stops_at p d begin ok bytes before hall given reader left (to_come reader left) held u line reader' left' m s.0 s.1)
    stop_ends held u next.NoMemory line reader' left' exit now m s g e =
        subst (λ x. Ends p begin bytes left' before held x) (exit_is NoMemory exit e) (stops p d begin ok bytes before hall given reader left (to_come reader left) held u)

    same_held : (rest : Script) (held : Option (List ℕ)) (u : Underway p d begin bytes before hall given reader left rest held) (after : Option (List ℕ)) → after ≡ Some (told_bytes held) → held ≡ after
    same_held rest held u after e = u.added ∙ sym (e ∙ ap (λ h. Some (told_bytes h)) u.added)

    -- the same lines are still to come, in other words
    abbrev comes_to : (rest rest' : Script) (held : Option (List ℕ)) (u : Underway p d begin bytes before hall given reader left rest held) → rest ≡ rest' → Underway p d begin bytes before hall given reader left rest' held
    comes_to rest rest' held u e = record {
      h = u.h;
      marks = u.marks;
      done = u.done;
      gained = u.gained;
      stands = u.stands;
      read = u.read;
      lines = u.lines ∙ ap (λ (s : Script). u.done ++ s.lines) e;
      ending = u.ending ∙ ap (λ (s : Script). s.ending) e;
      added = u.added;
      counted = u.counted;
      so_far = u.so_far;
      at = u.at;
      bad = u.bad;
    }

    pub end_ends : (line : List ℕ) (rest : Script) (held : Option (List ℕ)) (u : Underway p d begin bytes before hall given reader left (first_line line rest) held) (left' : List ℕ) (hall' : Held) (after : Option (List ℕ)) (r : LineStatus) (exit : Exit) (now : ℕ)
        → RanLine p d u.h line hall' (told_bytes held) after r → now ≡ given + 1 → end_at r now ≡ Some exit → Ends p begin bytes left' before after exit
    end_ends line rest held u left' hall' after ran.Done exit now l g e = absurd (no_exit exit e)
    end_ends line rest held u left' hall' after ran.BadLine exit now l g e =
        subst (λ x. Ends p begin bytes left' before after x) (ap BadLine (sym g) ∙ exit_is (BadLine now) exit e)
        (subst (λ h. Ends p begin bytes left' before h (BadLine (given + 1))) (same_held (first_line line rest) held u after l.1) (ends_bad p d begin ok bytes before hall given reader left line rest held u l.0))
    end_ends line rest held u left' hall' after ran.WriteFault exit now l g e =
        subst (λ x. Ends p begin bytes left' before after x) (exit_is WriteFault exit e) (breaks p d begin ok bytes before hall given reader left line rest held hall' u after l)
    end_ends line rest held u left' hall' after ran.NoMemory exit now l g e =
        subst (λ x. Ends p begin bytes left' before after x) (exit_is NoMemory exit e)
        (subst (λ h. Ends p begin bytes left' before h NoMemory) (same_held (first_line line rest) held u after l.0) (stops p d begin ok bytes before hall given reader left (first_line line rest) held u))

    -- what is left where no line comes
    pub stop_leaves : (held : Option (List ℕ)) (u : Underway p d begin bytes before hall given reader left (to_come reader left) held) (exit : Exit) → Leaves p d begin (script bytes) hall before held exit
    stop_leaves held u exit = leaves_so p d begin ok bytes before hall given reader left (to_come reader left) held u exit hall held refl (inl u.stands)

    end_leaves : (line : List ℕ) (rest : Script) (held : Option (List ℕ)) (u : Underway p d begin bytes before hall given reader left (first_line line rest) held) (hall' : Held) (after : Option (List ℕ)) (r : LineStatus) (exit : Exit) (now : ℕ)
        → RanLine p d u.h line hall' (told_bytes held) after r → end_at r now ≡ Some exit → Leaves p d begin (script bytes) hall' before after exit
    end_leaves line rest held u hall' after ran.Done exit now l e = absurd (no_exit exit e)
    end_leaves line rest held u hall' after ran.BadLine exit now l e =
        leaves_so p d begin ok bytes before hall given reader left (first_line line rest) held u exit hall' after (same_held (first_line line rest) held u after l.1) (inl l.2)
    end_leaves line rest held u hall' after ran.WriteFault exit now l e =
        subst (λ x. Leaves p d begin (script bytes) hall' before after x) (exit_is WriteFault exit e) (breaks_leaving p d begin ok bytes before hall given reader left line rest held hall' u after l)
    end_leaves line rest held u hall' after ran.NoMemory exit now l e =
        leaves_so p d begin ok bytes before hall given reader left (first_line line rest) held u exit hall' after (same_held (first_line line rest) held u after l.0) (inr (sym (exit_is NoMemory exit e), l.1))

    pub line_leaves : (held : Option (List ℕ)) (u : Underway p d begin bytes before hall given reader left (to_come reader left) held) (n : Next) (count : ℕ) (line : List ℕ) (reader' : Reader) (left' : List ℕ)
        → Moves (Some n) line reader reader' left left' → stop_at n count ≡ None → (shown : List ℕ) → shown ≡ line
        → (hall' : Held) (after : Option (List ℕ)) (r : LineStatus) (exit : Exit) (now : ℕ)
        → RanLine p d u.h shown hall' (told_bytes held) after r
        → end_at r now ≡ Some exit → Leaves p d begin (script bytes) hall' before after exit
    line_leaves held u next.Line count line reader' left' m e shown w hall' after r exit now ran x =
        end_leaves shown (to_come reader' left') held (comes_to (to_come reader left) (first_line shown (to_come reader' left')) held u (m.lines ∙ ap (λ l. first_line l (to_come reader' left')) (sym w))) hall' after r exit now ran x
    line_leaves held u next.End count line reader' left' m e shown w hall' after r exit now ran x = absurd (some_exit Done e)
    line_leaves held u next.TooLong count line reader' left' m e shown w hall' after r exit now ran x = absurd (some_exit (TooLong (count + 1)) e)
    line_leaves held u next.TooMany count line reader' left' m e shown w hall' after r exit now ran x = absurd (some_exit TooMany e)
    line_leaves held u next.ReadFault count line reader' left' m e shown w hall' after r exit now ran x = absurd (some_exit ReadFault e)
    line_leaves held u next.NoMemory count line reader' left' m e shown w hall' after r exit now ran x = absurd (some_exit NoMemory e)

    -- the first line that is left, read and then run
    pub line_ends : (held : Option (List ℕ)) (u : Underway p d begin bytes before hall given reader left (to_come reader left) held) (n : Next) (count : ℕ) (line : List ℕ) (reader' : Reader) (left' : List ℕ)
        → Moves (Some n) line reader reader' left left' → stop_at n count ≡ None → (shown : List ℕ) → shown ≡ line
        → (hall' : Held) (after : Option (List ℕ)) (r : LineStatus) (exit : Exit) (now : ℕ)
        → RanLine p d u.h shown hall' (told_bytes held) after r
        → now ≡ given_after n given → end_at r now ≡ Some exit → Ends p begin bytes left' before after exit
    line_ends held u next.Line count line reader' left' m e shown w hall' after r exit now ran g x =
        end_ends shown (to_come reader' left') held (comes_to (to_come reader left) (first_line shown (to_come reader' left')) held u (m.lines ∙ ap (λ l. first_line l (to_come reader' left')) (sym w))) left' hall' after r exit now ran g x
    line_ends held u next.End count line reader' left' m e shown w hall' after r exit now ran g x = absurd (some_exit Done e)
    line_ends held u next.TooLong count line reader' left' m e shown w hall' after r exit now ran g x = absurd (some_exit (TooLong (count + 1)) e)
    line_ends held u next.TooMany count line reader' left' m e shown w hall' after r exit now ran g x = absurd (some_exit TooMany e)
    line_ends held u next.ReadFault count line reader' left' m e shown w hall' after r exit now ran g x = absurd (some_exit ReadFault e)
    line_ends held u next.NoMemory count line reader' left' m e shown w hall' after r exit now ran g x = absurd (some_exit NoMemory e)

    pub line_runs : (held : Option (List ℕ)) (u : Underway p d begin bytes before hall given reader left (to_come reader left) held) (n : Next) (count : ℕ) (line : List ℕ) (reader' : Reader) (left' : List ℕ)
        → Moves (Some n) line reader reader' left left' → stop_at n count ≡ None → (shown : List ℕ) → shown ≡ line
        → (hall' : Held) (after : Option (List ℕ)) (r : LineStatus) (ended now : ℕ)
        → RanLine p d u.h shown hall' (told_bytes held) after r
        → now ≡ given_after n given → end_at r ended ≡ None → Underway p d begin bytes before hall' now reader' left' (to_come reader' left') after
    line_runs held u next.Line count line reader' left' m e shown w hall' after ran.Done ended now ran g x =
        subst (λ n. Underway p d begin bytes before hall' n reader' left' (to_come reader' left') after) (sym g)
        (goes_on p d begin ok bytes before hall given reader left shown (to_come reader' left') held here reader' left' (line_read bytes here.done shown reader reader' left left' here.read moved)
        hall' after ran)
      where
        moved : Moves (Some next.Line) shown reader reader' left left'
        moved = subst (λ l. Moves (Some next.Line) l reader reader' left left') (sym w) m

        here : Underway p d begin bytes before hall given reader left (first_line shown (to_come reader' left')) held
        here = comes_to (to_come reader left) (first_line shown (to_come reader' left')) held u moved.lines
    line_runs held u next.Line count line reader' left' m e shown w hall' after ran.BadLine ended now ran g x = absurd (some_exit (BadLine ended) x)
    line_runs held u next.Line count line reader' left' m e shown w hall' after ran.WriteFault ended now ran g x = absurd (some_exit WriteFault x)
    line_runs held u next.Line count line reader' left' m e shown w hall' after ran.NoMemory ended now ran g x = absurd (some_exit NoMemory x)
    line_runs held u next.End count line reader' left' m e shown w hall' after r ended now ran g x = absurd (some_exit Done e)
    line_runs held u next.TooLong count line reader' left' m e shown w hall' after r ended now ran g x = absurd (some_exit (TooLong (count + 1)) e)
    line_runs held u next.TooMany count line reader' left' m e shown w hall' after r ended now ran g x = absurd (some_exit TooMany e)
    line_runs held u next.ReadFault count line reader' left' m e shown w hall' after r ended now ran g x = absurd (some_exit ReadFault e)
    line_runs held u next.NoMemory count line reader' left' m e shown w hall' after r ended now ran g x = absurd (some_exit NoMemory e)

  -- a run in which nothing was read
  pub begins_with : (left : List ℕ) (hall : Held) → d.Stands hall begin → (held : Option (List ℕ)) → IsSome held
      → (reader : Reader) → reader ≡ fresh → Underway p d begin left (told_bytes held) hall reader.given reader left (to_come reader left) held
  begins_with left hall stands held k reader e =
      subst (λ r. Underway p d begin left (told_bytes held) hall r.given r left (to_come r left) held) (sym e) (begins p d begin ok left (told_bytes held) hall stands held (some_bytes held k))

  pub stops_at_once : (s : Script) (held : Option (List ℕ)) → IsSome held → StopsEarly p begin s (told_bytes held) held
  stops_at_once s held k = record {
    done = [];
    rest = s.lines;
    lines = refl;
    plays = plays_by p d begin ok [] [] (told_bytes held) [] held (some_bytes held k ∙ ap Some (sym (append-nil (told_bytes held)))) (nothing_printed p d ok [] begin);
  }

  -- whatever the sink tells
  pub stops_over : (bytes left : List ℕ) (held : Option (List ℕ)) → EndsOver p begin bytes left held held NoMemory
  stops_over bytes left (Some xs) = stops_at_once (script bytes) (Some xs) refl
  stops_over bytes left None = (Some [], stops_at_once (script bytes) (Some []) refl)
