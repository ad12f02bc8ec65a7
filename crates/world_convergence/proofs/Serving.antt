-- What a client that reads a line, a Take of its session, and a line that arrives make of its story.
use Rattle.std.proofs.Common.{◌≡◌, ◌⊎◌, inl, inr, ◌≤◌, ◌<◌, ℕ, ◌+◌, ◌==◌, Bool, true, false, if◌then◌else◌, List, [], ◌∷◌, ◌++◌, length, Option, Some, None, refl, sym, ap, ◌∙◌, subst, append_assoc, append-nil, arith}
use Rattle.client_predict.specs.Client.{Held, fresh}
use Rattle.client_predict.specs.Reading.{reads}
use Rattle.game_sheet.specs.Lines.{lines}
use Rattle.game_trait.specs.Lawful.{Lawful}
use Rattle.game_trait.specs.Rules.{Rules}
use Rattle.room_object.specs.Entry.{Entry, entry}
use Rattle.room_history.specs.Course.{IsFirstPart}
use Rattle.room_history.specs.Item.{Took}
use Rattle.room_history.specs.Presence.{attached_after}
use Rattle.room_history.specs.Room.{reply as reply_after, room_of}
use Rattle.room_history.specs.Session.{Session, bytes_handed_out, handful, is_detached, latest_take_reply, number_in, with_latest}
use Rattle.room_history.proofs.Names.{after_take, take_reply}
use Rattle.room_history.specs.declared.call.RoomCall.{RoomCall}
use Rattle.room_history.specs.declared.call.RoomCall.TheVariants as call
use Rattle.room_history.specs.declared.reply.RoomReply.{RoomReply}
use Rattle.room_history.proofs.Isolation.{take_adds}
use Rattle.wire_json.specs.ClientReading.{client_read}
use Rattle.game_hall.specs.Answers.{line_of}
use Rattle.game_hall.specs.declared.answer.Answer.{Answer}
use Rattle.convergence.specs.Doing.{IsLike, KnowsWhere, Reads}
use Rattle.client_predict.specs.Following.{reads_all, told_lines}
use Rattle.convergence.specs.Shallow.{StatesAreShallow}
use Rattle.convergence.proofs.Grounds.{StaysSound}
use Rattle.convergence.proofs.Likes.{all_alike}
use Rattle.convergence.proofs.Streams.{told_append}
use Rattle.hall_history.specs.Freeing.{frees, freed}
use Rattle.hall_history.specs.Parts.{frees_at, room_after}
use Rattle.hall_history.specs.Hall.{Hall}
use Rattle.hall_history.specs.Placed.{IsPlaced}
use Rattle.hall_history.specs.Rooms.{reply_in, with_entry}
use Rattle.hall_history.specs.Told.{bytes_in}
use Rattle.world_history.specs.World.{World, set_at}
use Rattle.world_history.specs.WorldScript.{answer_lines, arrived, reads_in, takes}
use Rattle.hall_history.proofs.Placing.{in_range, is_here}
use Rattle.hall_history.proofs.Rooming.{gets_entry, is_same}
use Rattle.world_convergence.proofs.Arriving.{IsActAnswer, IsPlainAnswer}
use Rattle.world_convergence.proofs.Counting.{answers, count, count_append}
use Rattle.world_convergence.proofs.Directly.{IsForAct, IsQuiet, act_answered, plain_quiet, quiet_counts}
use Rattle.world_convergence.proofs.Entries.{Stays, nothing, one_if, same_stays, submitted}
use Rattle.world_convergence.proofs.Fitting.{AllFit}
use Rattle.world_convergence.proofs.Foreign.{sessions_in}
use Rattle.world_convergence.proofs.Handed.{take_lines}
use Rattle.world_convergence.proofs.Owning.{none_some, one, set_here, here_at}
use Rattle.world_convergence.proofs.Sending.{AreActLines, acted, coming}
use Rattle.world_convergence.proofs.Stories.{Apart, AreQuiet, IsSyncLine, Met, Story, StoryOf, Untouched, goes_on, line_read, sent_of, stays_as}
use Rattle.world_convergence.proofs.Taken.{IsTaken, take_made}

empty_cons : {A : Type 0} (x : A) (xs : List A) → [] ≡ x ∷ xs → ⊥
empty_cons x xs e = cc

module _ {X G : Type 0} (rules : X → Rules G) (c : ℕ) where
  -- ---- a line is read

  module _ (lawful : (game : X) → Lawful (rules game)) (stays : StaysSound rules) (flat : StatesAreShallow rules) where
    pub read_story : (w : World X G) → length w.hall.rooms ≤ 64 → AllFit w.hall.rooms → (room : Option ℕ) → Story rules c w room → Story rules c (reads_in rules w c (w.clients c) (w.down c)).0 room
    read_story w few fit room story = by (w.clients c) refl (w.down c) refl
      where
        made : (held : Held X G) → w.clients c ≡ Some held → (text : List ℕ) (rest : List (List ℕ)) → w.down c ≡ text ∷ rest → Story rules c (reads_in rules w c (Some held) (text ∷ rest)).0 room
        made held e text rest next later now =
            subst (λ h. StoryOf rules c (reads_in rules w c (Some held) (text ∷ rest)).0 h room) (one new later (sym (set_here c (Some new) w.clients) ∙ now)) (at_room room (story held e))
          where
            new : Held X G
            new = record { game = held.game; key = held.key; client = (reads (rules held.game) held.client text).client }

            down : set_at c rest w.down c ≡ rest
            down = set_here c rest w.down

            at_room : (room : Option ℕ) → StoryOf rules c w held room → StoryOf rules c (reads_in rules w c (Some held) (text ∷ rest)).0 new room
            at_room None a =
                let quiet : AreQuiet (text ∷ rest) = subst AreQuiet next a.quiet in
                let alike : IsLike (reads (rules held.game) held.client text).client (reads_all (rules held.game) fresh (told_lines (text ∷ [])))
                = all_alike (rules held.game) held.client fresh (Reads text ∷ []) (subst (λ o. KnowsWhere held.client o) (sym quiet.0.none) tt, tt) a.like in
                record {
                  at = a.at;
                  like = subst (λ b. IsLike (reads (rules held.game) held.client text).client (reads_all (rules held.game) fresh (if b then text ∷ [] else []))) quiet.0.untold alike;
                  quiet = subst AreQuiet (sym down) quiet.1;
                  up = up_still a.up;
                  key = a.key;
                }
              where
                up_still : (w.up c ≡ []) ⊎ ((other : List ℕ) × (w.up c ≡ other ∷ []) × (w.down c ≡ []) × IsSyncLine rules c other)
                    → (w.up c ≡ []) ⊎ ((other : List ℕ) × (w.up c ≡ other ∷ []) × (set_at c rest w.down c ≡ []) × IsSyncLine rules c other)
                up_still (inl none) = inl none
                up_still (inr h) = absurd (empty_cons text rest (sym h.2 ∙ next))
            at_room (Some r) m =
                line_read rules c lawful stays flat w held r text rest m (sent_of rules c lawful stays flat w.hall.rooms few r (fit r) m.s m.before m.latest) next
                (reads_in rules w c (Some held) (text ∷ rest)).0 refl refl down

        by : (client : Option (Held X G)) → w.clients c ≡ client → (waiting : List (List ℕ)) → w.down c ≡ waiting → Story rules c (reads_in rules w c client waiting).0 room
        by None e waiting f = story
        by (Some held) e [] f = story
        by (Some held) e (text ∷ rest) f = made held e text rest f

  -- ---- a Take

  taken_item : (s : Session) (t : ℕ) → submitted t (after_take s).own ≤ submitted t s.own
  taken_item s t = by (is_detached s.own)
    where
      by : (b : Bool) → submitted t (if b then record s { sent = s.sent ++ handful s } else record (record s { sent = s.sent ++ handful s }) { own = Took (number_in s.sight) ∷ s.own }).own ≤ submitted t s.own
      by true = omega arith
      by false = omega arith

  module _ (w : World X G) (placed : IsPlaced rules w.hall) where
    abbrev took : World X G
    took = (takes rules w c (frees rules w.hall c call.Take)).0

    is_taken : IsTaken w c (frees rules w.hall c call.Take).0 (frees rules w.hall c call.Take).1 took
    is_taken = take_made rules w c

    down_then : took.down c ≡ w.down c ++ lines (bytes_in (frees rules w.hall c call.Take).1)
    down_then = is_taken.down c ∙ set_here c (w.down c ++ lines (bytes_in (frees rules w.hall c call.Take).1)) w.down

    -- one that isn't attached takes nothing
    none_taken : w.hall.at c ≡ None → Untouched rules c w took
    none_taken none =
        let free : frees rules w.hall c call.Take ≡ (w.hall, None) = ap (λ o. frees_at rules w.hall c call.Take o) none in
        let same : took.hall ≡ w.hall = is_taken.new ∙ ap (λ d. d.0) free in
        record {
          clients = ap (λ f. f c) is_taken.clients;
          up = ap (λ f. f c) is_taken.up;
          down = down_then ∙ ap (λ d. w.down c ++ lines (bytes_in d.1)) free ∙ append-nil (w.down c);
          at = ap (λ h. h.at c) same;
          sessions = λ r. subst (λ (h : Hall X). Stays nothing (sessions_in rules c w.hall.rooms r) (sessions_in rules c h.rooms r)) (sym same) (same_stays nothing (sessions_in rules c w.hall.rooms r));
        }

    module _ (held : Held X G) (r : ℕ) (sits : w.hall.at c ≡ Some r) (m : Met rules c w held r) where
      abbrev e : Entry (RoomCall X)
      e = entry c call.Take false

      abbrev told : RoomReply
      told = reply_in rules w.hall.rooms r (entry c call.Take false)

      free : frees rules w.hall c call.Take ≡ freed w.hall c call.Take r told
      free = ap (λ o. frees_at rules w.hall c call.Take o) sits

      rooms_then : took.hall.rooms ≡ with_entry w.hall.rooms r (entry c call.Take false)
      rooms_then = ap (λ h. h.rooms) is_taken.new ∙ ap (λ d. d.0.rooms) free

      there : r < length w.hall.rooms
      there = in_range rules r w.hall.rooms r c (is_here rules w.hall c r call.Take placed sits)

      latest_then : sessions_in rules c took.hall.rooms r ≡ after_take m.s ∷ m.before
      latest_then =
          ap (λ x. sessions_in rules c x r) rooms_then
          ∙ ap (λ x. (room_of rules r x).sessions c) (gets_entry w.hall.rooms r (entry c call.Take false) there)
          ∙ ap (λ b. if b then with_latest after_take (sessions_in rules c w.hall.rooms r) else sessions_in rules c w.hall.rooms r) (is_same c)
          ∙ ap (with_latest after_take) m.latest

      told_is : told ≡ take_reply m.s
      unfolding reply_after
      told_is = ap latest_take_reply m.latest

      handed : lines (bytes_in (frees rules w.hall c call.Take).1) ≡ handful m.s
      handed = ap (λ d. lines (bytes_in d.1)) free ∙ ap (λ x. lines (bytes_handed_out x)) told_is ∙ take_lines m.s

      down_is : took.down c ≡ w.down c ++ handful m.s
      down_is = down_then ∙ ap (λ l. w.down c ++ l) handed

      at_then : (took.hall.at c ≡ None) ⊎ (took.hall.at c ≡ Some r)
      at_then = by (attached_after {X = X} true call.Take told) refl
        where
          now : took.hall.at c ≡ room_after {X = X} r call.Take told
          now = ap (λ h. h.at c) is_taken.new ∙ ap (λ d. d.0.at c) free ∙ here_at c (room_after {X = X} r call.Take told) w.hall.at

          by : (b : Bool) → attached_after {X = X} true call.Take told ≡ b → (took.hall.at c ≡ None) ⊎ (took.hall.at c ≡ Some r)
          by true f = inr (now ∙ ap (λ b. if b then Some r else None) f)
          by false f = inl (now ∙ ap (λ b. if b then Some r else None) f)

      all_told : told_lines (m.read ++ took.down c) ≡ told_lines (after_take m.s).sent
      all_told =
          ap (λ l. told_lines (m.read ++ l)) down_is
          ∙ ap told_lines (sym (append_assoc m.read (w.down c) (handful m.s)))
          ∙ told_append (m.read ++ w.down c) (handful m.s)
          ∙ ap (λ l. l ++ told_lines (handful m.s)) (m.whole sits)
          ∙ sym (told_append m.s.sent (handful m.s))
          ∙ ap told_lines (sym (take_adds m.s))

      met_then : Met rules c took held r
      met_then = record {
        s = after_take m.s;
        before = m.before;
        latest = latest_then;
        at = at_then;
        read = m.read;
        like = m.like;
        part = ([], sym all_told ∙ sym (append-nil (told_lines (m.read ++ took.down c))));
        whole = λ f. all_told;
        acts = subst AreActLines (sym (ap (λ f. f c) is_taken.up)) m.acts;
        tickets = λ t. omega (
          arith,
          ap (count (answers t)) down_is,
          count_append (answers t) (w.down c) (handful m.s),
          ap (count (answers t)) (take_adds m.s),
          count_append (answers t) m.s.sent (handful m.s),
          ap (λ f. coming t (f c)) is_taken.up,
          m.tickets t,
          taken_item m.s t,
        );
        fits = m.fits;
        begun = m.begun;
        key = m.key;
      }

    take_of : (held : Held X G) (room : Option ℕ) (o : Option ℕ) → w.hall.at c ≡ o → StoryOf rules c w held room → StoryOf rules c took held room
    take_of held room None sits story = goes_on rules c w took held room (none_taken sits) story
    take_of held None (Some r) sits a = absurd (none_some r (sym a.at ∙ sits))
    take_of held (Some room) (Some r) sits m = by m.at
      where
        by : (w.hall.at c ≡ None) ⊎ (w.hall.at c ≡ Some room) → Met rules c took held room
        by (inl none) = absurd (none_some r (sym none ∙ sits))
        by (inr same) = met_then held room same m

    pub take_story : (room : Option ℕ) → Story rules c w room → Story rules c took room
    take_story room story held e = take_of held room (w.hall.at c) refl (story held (sym (ap (λ f. f c) is_taken.clients) ∙ e))

  -- ---- a line arrives

  -- what is said to a client that has a session
  pub record Said (text : List ℕ) (said : Option Answer) (extra : ℕ → ℕ) : Type 0 where
    pub untold : told_lines (answer_lines said) ≡ []
    pub tickets : (t : ℕ) → extra t + count (answers t) (answer_lines said) ≤ acted t (client_read text)

  module _ (w : World X G) (text : List ℕ) (rest : List (List ℕ)) (up : w.up c ≡ text ∷ rest) (done : Hall X × Option Answer) where
    abbrev come : World X G
    come = (arrived w c rest done).0

    pub up_then : come.up c ≡ rest
    up_then = set_here c rest w.up

    pub down_came : come.down c ≡ w.down c ++ answer_lines done.1
    down_came = set_here c (w.down c ++ answer_lines done.1) w.down

    pub met_arrived : (held : Held X G) (r : ℕ) (extra : ℕ → ℕ) → done.0.at c ≡ w.hall.at c → Stays extra (sessions_in rules c w.hall.rooms r) (sessions_in rules c done.0.rooms r) → Said text done.1 extra
        → Met rules c w held r → Met rules c come held r
    met_arrived held r extra at stays said m =
        let on = stays_as rules c extra (sessions_in rules c w.hall.rooms r) (sessions_in rules c done.0.rooms r) m.s m.before m.latest stays in
        let same : told_lines (m.read ++ come.down c) ≡ told_lines (m.read ++ w.down c)
        = ap (λ l. told_lines (m.read ++ l)) down_came
        ∙ ap told_lines (sym (append_assoc m.read (w.down c) (answer_lines done.1)))
        ∙ told_append (m.read ++ w.down c) (answer_lines done.1)
        ∙ ap (λ l. told_lines (m.read ++ w.down c) ++ l) said.untold
        ∙ append-nil (told_lines (m.read ++ w.down c)) in
        record {
          s = on.0;
          before = m.before;
          latest = on.1;
          at = subst (λ o. (o ≡ None) ⊎ (o ≡ Some r)) (sym at) m.at;
          read = m.read;
          like = m.like;
          part = subst (λ l. IsFirstPart l (told_lines on.0.sent)) (sym same) (subst (λ l. IsFirstPart (told_lines (m.read ++ w.down c)) (told_lines l)) (sym on.2.sent) m.part);
          whole = λ e. same ∙ m.whole (sym at ∙ e) ∙ ap told_lines (sym on.2.sent);
          acts = subst AreActLines (sym up_then) (subst AreActLines up m.acts).1;
          tickets = λ t. omega (
            arith,
            ap (count (answers t)) down_came,
            count_append (answers t) (w.down c) (answer_lines done.1),
            ap (coming t) up_then,
            ap (coming t) up,
            m.tickets t,
            said.tickets t,
            on.2.own t,
            ap (count (answers t)) on.2.sent,
          );
          fits = m.fits;
          begun = m.begun;
          key = m.key;
        }

    -- a client whose session hasn't begun is answered
    pub apart_arrived : (held : Held X G) (a : Answer) → rest ≡ [] → done.0.at c ≡ w.hall.at c → done.1 ≡ Some a → IsPlainAnswer a → w.down c ≡ [] → Apart rules c w held → Apart rules c come held
    apart_arrived held a last at said plain empty apart = record {
      at = at ∙ apart.at;
      like = apart.like;
      quiet = subst AreQuiet (sym (down_came ∙ ap (λ l. l ++ answer_lines done.1) empty ∙ ap answer_lines said)) (plain_quiet a plain, tt);
      up = inl (up_then ∙ last);
      key = apart.key;
    }

  -- a direct answer to an act's line
  pub said_aside : (text : List ℕ) (ticket : ℕ) (a : Answer) (said : Option Answer) → said ≡ Some a → ticket ≤ 4294967295 → IsActAnswer ticket a → ((t : ℕ) → acted t (client_read text) ≡ one_if (ticket == t)) → Said text said nothing
  said_aside text ticket a said is fits plain acts =
      let known : IsForAct ticket (line_of a) = act_answered ticket a fits plain in
      subst (λ o. Said text o nothing) (sym is) (record {
        untold = ap (λ b. if b then line_of a ∷ [] else []) known.untold;
        tickets = λ t. omega (arith, known.one t, acts t);
      })

  -- to a line that is no message
  pub said_plain : (text : List ℕ) (a : Answer) (said : Option Answer) → said ≡ Some a → IsPlainAnswer a → Said text said nothing
  said_plain text a said is plain =
      let quiet : IsQuiet (line_of a) = plain_quiet a plain in
      subst (λ o. Said text o nothing) (sym is) (record {
        untold = ap (λ b. if b then line_of a ∷ [] else []) quiet.untold;
        tickets = λ t. omega (arith, quiet_counts (line_of a) quiet t);
      })
