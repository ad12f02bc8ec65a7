-- Runs of frames, one after another, and what they tell.
use Rattle.std.proofs.Common.{inl, inr, ◌≡◌, ℕ, List, [], ◌∷◌, ◌++◌, Bool, true, false, cond, Option, None, Some, Ok, Err, refl, sym, ap, subst, ◌∙◌, append_assoc, append-nil, drop, length}
use Rattle.std.specs.Prelude.{MatchOption, nat_lt, option_map}
use Rattle.std.specs.Io.KnownBytes.{Consumes, IsAtEnd}
use Rattle.board_links.specs.declared.link.Came.{Came}
use Rattle.board_links.specs.declared.link.Came.TheVariants as came
use Rattle.tungstenite.specs.Socket.{Replies, Run, Runs, Socket}
use Rattle.tungstenite.proofs.SocketLemmas.{consumes-chain, consumes-nil, frame-facts, partial-facts, runs-more, sends-cast, sends-prefix, socket-eta}
use Rattle.websocket.specs.Connection.{Connection, Effect, Sends, read_step}
use Rattle.websocket.specs.Content.{Content, text, binary, ping, pong, close, received_content}
use Rattle.websocket.specs.View.{GivesError, KeepsRest, ReadLeaves, Returns}
use Rattle.websocket.specs.declared.error.Error.{Error}
use Rattle.websocket.specs.declared.protocol.context.Step.{Step}
use Rattle.websocket.specs.declared.protocol.frame.codec.FrameStatus.TheVariants.{Partial, Complete}
use Rattle.ws_link.specs.Frames.{Brings, Hears, IsCutOff, IsLarge, IsOver, IsSilent, IsTooLarge, ReadsRun, Tells, TellsNothing, frame_tells, line_limit, message_tells, tells}
use Rattle.ws_link.specs.Refusals.{Refused}
use Rattle.ws_link.proofs.Roles.{runs_keep}

-- ---- two runs

both_silent : (ps qs : Run) → IsSilent ps → IsSilent qs → IsSilent (ps ++ qs)
both_silent [] qs h k = k
both_silent (p ∷ ps) qs h k = (h.0, both_silent ps qs h.1 k)

brings_behind : (answer : Came) (p : ℕ × Effect) (ps : Run) → frame_tells p.1 ≡ None → Brings answer ps → Brings answer (p ∷ ps)
brings_behind answer p [] e h = absurd h
brings_behind answer p (q ∷ ps) e h = (e, h)

then_brings : (answer : Came) (ps qs : Run) → IsSilent ps → Brings answer qs → Brings answer (ps ++ qs)
then_brings answer [] qs h k = k
then_brings answer (p ∷ ps) qs h k = brings_behind answer p (ps ++ qs) h.0 (then_brings answer ps qs h.1 k)

runs_on : (c c1 c2 : Connection) (i i1 i2 : List ℕ) (ps qs : Run) → Runs c i ps c1 i1 → Runs c1 i1 qs c2 i2 → Runs c i (ps ++ qs) c2 i2
runs_on c c1 c2 i i1 i2 [] qs h k = rw (h.0, h.1) at k
runs_on c c1 c2 i i1 i2 (p ∷ ps) qs h k = (h.0, runs_on p.1.next c1 c2 _ i1 i2 ps qs h.1 k)

-- the first run from some bytes, and the second from what it left and more of them
runs_over : (c c1 c2 : Connection) (i i1 i2 got more : List ℕ) (ps qs : Run) → Runs c (i ++ got) ps c1 i1 → Runs c1 (i1 ++ more) qs c2 i2 → Runs c (i ++ (got ++ more)) (ps ++ qs) c2 i2
runs_over c c1 c2 i i1 i2 got more ps qs h k =
    subst (λ z. Runs c z (ps ++ qs) c2 i2) (append_assoc i got more)
    (runs_on c c1 c2 ((i ++ got) ++ more) (i1 ++ more) i2 ps qs (runs-more c c1 (i ++ got) i1 more ps h) k)

replies_on : (ps qs : Run) (o mid o2 : List ℕ) → Replies ps o mid → Replies qs mid o2 → Replies (ps ++ qs) o o2
replies_on [] qs o mid o2 h k = rw h at k
replies_on (p ∷ ps) qs o mid o2 h k = (h.0, h.1, replies_on ps qs h.0 mid o2 h.2 k)

-- ---- what a frame tells

line_by : (long : Bool) (bytes : List ℕ) → Some (cond long came.TooLong (came.Line bytes)) ≡ Some came.Quiet → ⊥
line_by true bytes e = cc
line_by false bytes e = cc

never_quiet : (m : Content) → tells m ≡ Some came.Quiet → ⊥
never_quiet (text bytes) e = line_by (nat_lt line_limit (length bytes)) bytes e
never_quiet (binary bytes) e = line_by (nat_lt line_limit (length bytes)) bytes e
never_quiet (ping bytes) e = cc
never_quiet (pong bytes) e = cc
never_quiet (close why) e = cc

none_quiet : (m : Option Content) → message_tells m ≡ Some came.Quiet → ⊥
none_quiet None e = cc
none_quiet (Some m) e = never_quiet m e

module _ {S : Type 0} where
  then_reads : (rem : S → Option (List ℕ)) (old mid new : Socket S) (ps qs : Run) → ReadsRun rem old mid ps → ReadsRun rem mid new qs → ReadsRun rem old new (ps ++ qs)
  then_reads rem old mid new ps qs h k =
      record {
        got = h.got ++ k.got;
        frames = runs_over old.conn mid.conn new.conn old.input mid.input new.input h.got k.got ps qs h.frames k.frames;
        same_role = k.same_role ∙ h.same_role;
        replies = replies_on ps qs old.output mid.output new.output h.replies k.replies;
        told = consumes-chain (rem old.stream) (rem mid.stream) (rem new.stream) h.got k.got h.told k.told;
      }

  -- bytes came, and no frame was read
  pub filled : (rem : S → Option (List ℕ)) (old new : Socket S) (got : List ℕ) → Consumes (rem old.stream) (rem new.stream) got
      → new.conn ≡ old.conn → new.input ≡ old.input ++ got → new.output ≡ old.output → TellsNothing rem old new
  filled rem old new got took conn input output = (
    [],
    record { got = got; frames = (conn, input); same_role = ap (λ (x : Connection). x.role) conn; replies = output; told = took },
    tt,
  )

  pub at_end : (rem : S → Option (List ℕ)) (old new : Socket S) → IsAtEnd (rem new.stream) → Hears rem old new came.Ended
  at_end rem old new end = inr ([], [], old.conn, old.input, (refl, sym (append-nil old.input)), tt, inr end)

  pub still_nothing : (rem : S → Option (List ℕ)) (old mid new : Socket S) → TellsNothing rem old mid → TellsNothing rem mid new → TellsNothing rem old new
  still_nothing rem old mid new h k = (h.0 ++ k.0, then_reads rem old mid new h.0 k.0 h.1 k.1, both_silent h.0 k.0 h.2 k.2)

  then_tells : (rem : S → Option (List ℕ)) (old mid new : Socket S) (answer : Came) → TellsNothing rem old mid → Tells rem mid new answer → Tells rem old new answer
  then_tells rem old mid new answer h k = (h.0 ++ k.0, then_reads rem old mid new h.0 k.0 h.1 k.1, then_brings answer h.0 k.0 h.2 k.2)

  then_cut_off : (rem : S → Option (List ℕ)) (old mid new : Socket S) → TellsNothing rem old mid → IsCutOff rem mid new → IsCutOff rem old new
  then_cut_off rem old mid new h k = (
    h.0 ++ k.0,
    h.1.got ++ k.1,
    k.2,
    k.3,
    runs_over old.conn mid.conn k.2 old.input mid.input k.3 h.1.got k.1 h.0 k.0 h.1.frames k.4,
    both_silent h.0 k.0 h.2 k.5,
    k.6,
  )

  then_large : (rem : S → Option (List ℕ)) (old mid new : Socket S) → TellsNothing rem old mid → IsTooLarge mid → IsTooLarge old
  then_large rem old mid new h k = (
    h.0 ++ k.0,
    h.1.got ++ k.1,
    k.2,
    k.3,
    runs_over old.conn mid.conn k.2 old.input mid.input k.3 h.1.got k.1 h.0 k.0 h.1.frames k.4,
    both_silent h.0 k.0 h.2 k.5,
    k.6,
  )

  -- after frames that told nothing, what the next ones tell is what all of them tell
  pub then_hears : (rem : S → Option (List ℕ)) (old mid new : Socket S) (answer : Came) → TellsNothing rem old mid → Hears rem mid new answer → Hears rem old new answer
  then_hears rem old mid new (came.Line bytes) h k = then_tells rem old mid new (came.Line bytes) h k
  then_hears rem old mid new came.TooLong h (inl k) = inl (then_tells rem old mid new came.TooLong h k)
  then_hears rem old mid new came.TooLong h (inr k) = inr (then_large rem old mid new h k)
  then_hears rem old mid new came.Ended h (inl k) = inl (then_tells rem old mid new came.Ended h k)
  then_hears rem old mid new came.Ended h (inr k) = inr (then_cut_off rem old mid new h k)
  then_hears rem old mid new came.Quiet h k = still_nothing rem old mid new h k
  then_hears rem old mid new came.Failed h k = tt
  then_hears rem old mid new came.NoMemory h k = tt

  -- one frame was read
  one_read : (rem : S → Option (List ℕ)) (old new : Socket S) (p : ℕ × Effect) → read_step old.conn old.input ≡ Ok (Complete p) → new.conn ≡ p.1.next → new.input ≡ drop p.0 old.input
      → new.stream ≡ old.stream → Sends p.1.next.role p.1.reply old.output new.output → ReadsRun rem old new (p ∷ [])
  one_read rem old new p step conn input stream sends =
      let frames : Runs old.conn (old.input ++ []) (p ∷ []) new.conn new.input =
      subst (λ z. Runs old.conn z (p ∷ []) new.conn new.input) (sym (append-nil old.input)) (step, (conn, input)) in
      record {
        got = [];
        frames = frames;
        same_role = runs_keep old.conn new.conn (old.input ++ []) new.input (p ∷ []) frames;
        replies = (new.output, sends, refl);
        told = subst (λ z. Consumes (rem old.stream) (rem z) []) (sym stream) (consumes-nil (rem old.stream));
      }

  frame_answers : (rem : S → Option (List ℕ)) (old new : Socket S) (p : ℕ × Effect) (answer : Came) → ReadsRun rem old new (p ∷ []) → frame_tells p.1 ≡ Some answer → Hears rem old new answer
  frame_answers rem old new p (came.Line bytes) r e = (p ∷ [], r, e)
  frame_answers rem old new p came.TooLong r e = inl (p ∷ [], r, e)
  frame_answers rem old new p came.Ended r e = inl (p ∷ [], r, e)
  frame_answers rem old new p came.Quiet r e = absurd (none_quiet p.1.message e)
  frame_answers rem old new p came.Failed r e = tt
  frame_answers rem old new p came.NoMemory r e = tt

  frame_heard : (rem : S → Option (List ℕ)) (old new : Socket S) (p : ℕ × Effect) (answer : Option Came) → ReadsRun rem old new (p ∷ []) → answer ≡ frame_tells p.1 → MatchOption answer (TellsNothing rem old new) (Hears rem old new)
  frame_heard rem old new p None r e = (p ∷ [], r, (sym e, tt))
  frame_heard rem old new p (Some answer) r e = frame_answers rem old new p answer r (sym e)

  -- The protocol read a frame, which was taken off what came, with its reply behind what waits.
  pub step_heard : (rem : S → Option (List ℕ)) (old mid new : Socket S) (step : Step) (reply : List ℕ) (answer : Option Came)
      → Returns (read_step old.conn old.input) mid.input (Complete step) → ReadLeaves (read_step old.conn old.input) old.conn mid.conn [] reply
      → KeepsRest (Complete step) old.input mid.input → mid.stream ≡ old.stream → mid.output ≡ old.output
      → new ≡ record mid { input = drop step.consumed mid.input; output = mid.output ++ reply }
      → answer ≡ message_tells (option_map (received_content mid.input) step.message)
      → MatchOption answer (TellsNothing rem old new) (Hears rem old new)
  step_heard rem old mid new step reply answer returns leaves keeps stream output is told =
      let ff = frame-facts (read_step old.conn old.input) mid.input step old.conn mid.conn [] reply returns leaves in
      let p = ff.0 in
      let sends = subst (λ z. Sends p.1.next.role p.1.reply z (old.output ++ reply)) (append-nil old.output) (sends-prefix p.1.next.role p.1.reply old.output [] reply ff.5) in
      let waits : old.output ++ reply ≡ new.output = sym (ap (λ (x : Socket S). x.output) is ∙ ap (λ z. z ++ reply) output) in
      let read = one_read rem old new p ff.1
      (ap (λ (x : Socket S). x.conn) is ∙ ff.4)
      (ap (λ (x : Socket S). x.input) is ∙ keeps.1 ∙ ap (λ n. drop n old.input) ff.2)
      (ap (λ (x : Socket S). x.stream) is ∙ stream)
      (sends-cast p.1.next.role p.1.reply old.output (old.output ++ reply) new.output waits sends) in
      frame_heard rem old new p answer read (told ∙ ap message_tells ff.3)

  -- no whole frame stands there, and what a read tells is what the call tells
  pub part_heard : (rem : S → Option (List ℕ)) (old mid new : Socket S) (needed : ℕ) (reply : List ℕ) (answer : Option Came)
      → Returns (read_step old.conn old.input) mid.input (Partial needed) → ReadLeaves (read_step old.conn old.input) old.conn mid.conn [] reply
      → KeepsRest (Partial needed) old.input mid.input → mid.stream ≡ old.stream → mid.output ≡ old.output
      → MatchOption answer (TellsNothing rem mid new) (Hears rem mid new)
      → MatchOption answer (TellsNothing rem old new) (Hears rem old new)
  part_heard rem old mid new needed reply answer returns leaves keeps stream output heard =
      let pf = partial-facts (read_step old.conn old.input) mid.input needed old.conn mid.conn [] reply returns leaves in
      let same : mid ≡ old = socket-eta mid old stream pf.0 keeps output in
      subst (λ z. MatchOption answer (TellsNothing rem z new) (Hears rem z new)) same heard

  over_by : (old : Socket S) (e : Error) → GivesError (read_step old.conn old.input) e → IsOver e → (x : Error) × (read_step old.conn old.input ≡ Err x) × IsOver x
  over_by old e (inl starved) h = absurd (rw starved at h)
  over_by old e (inr is) h = (e, is, h)

  large_by : (old : Socket S) (e : Error) → GivesError (read_step old.conn old.input) e → IsLarge e → (x : Error) × (read_step old.conn old.input ≡ Err x) × IsLarge x
  large_by old e (inl starved) h = absurd (rw starved at h)
  large_by old e (inr is) h = (e, is, h)

  -- what a refusal tells
  pub refusal_heard : (rem : S → Option (List ℕ)) (old new : Socket S) (e : Error) (answer : Came) → GivesError (read_step old.conn old.input) e → Refused e answer → Hears rem old new answer
  refusal_heard rem old new e (came.Line bytes) g h = absurd h
  refusal_heard rem old new e came.TooLong g h = inr ([], [], old.conn, old.input, (refl, sym (append-nil old.input)), tt, large_by old e g h)
  refusal_heard rem old new e came.Ended g h = inr ([], [], old.conn, old.input, (refl, sym (append-nil old.input)), tt, inl (over_by old e g h))
  refusal_heard rem old new e came.Quiet g h = absurd h
  refusal_heard rem old new e came.Failed g h = tt
  refusal_heard rem old new e came.NoMemory g h = tt
