-- What a line that arrives makes of its client's story: a sync begins the session, an act is answered or judged.
use Rattle.std.proofs.Common.{◌≡◌, ◌⊎◌, inl, inr, ℕ, ◌==◌, Bool, true, false, if◌then◌else◌, is_some, List, [], ◌∷◌, ◌++◌, Option, Some, None, Ok, Err, refl, sym, ap, ◌∙◌, subst, arith}
use Rattle.std.specs.Prelude.{Result}
use Rattle.client_predict.specs.Client.{Held}
use Rattle.game_sheet.specs.MatchName.{Name}
use Rattle.game_sheet.specs.Viewer.{Viewer}
use Rattle.game_trait.specs.Rules.{Rules}
use Rattle.room_object.specs.Entry.{Entry, entry}
use Rattle.room_history.specs.Does.{new_session, with_session}
use Rattle.room_history.specs.Match.{Match}
use Rattle.room_history.specs.Outbox.{attachment_of}
use Rattle.room_history.specs.Presence.{is_attached}
use Rattle.room_history.specs.Reply.{attached_match}
use Rattle.room_history.specs.Room.{room_of}
use Rattle.room_history.specs.Session.{Session, latest_state}
use Rattle.room_history.specs.declared.call.RoomCall.{RoomCall}
use Rattle.room_history.specs.declared.call.RoomCall.TheVariants as call
use Rattle.room_history.specs.declared.reply.RoomReply.{RoomReply}
use Rattle.room_history.proofs.Presence.{want_presence}
use Rattle.wire_json.specs.ClientReading.{client_read}
use Rattle.wire_json.specs.Refusals.{Refusal as Fault}
use Rattle.wire_json.specs.declared.client.ClientMsg.TheVariants as line
use Rattle.wire_json.specs.declared.protocol.Protocol.{Protocol}
use Rattle.wire_json.specs.declared.refusal.Refusal.{Refusal}
use Rattle.wire_json.specs.declared.submission.Submission.{Submission}
use Rattle.game_hall.specs.Answers.{line_of}
use Rattle.game_hall.specs.declared.answer.Answer.{Answer}
use Rattle.game_hall.specs.declared.answer.Answer.TheVariants.{Again, Refused}
use Rattle.client_predict.specs.Following.{told_lines}
use Rattle.hall_history.specs.Hall.{Hall, after_line}
use Rattle.hall_history.specs.Mark.{Mark}
use Rattle.hall_history.specs.Placed.{IsPlaced, is_at}
use Rattle.hall_history.specs.Rooms.{Rooms, history_of, with_entry}
use Rattle.world_history.specs.World.{World}
use Rattle.world_history.specs.WorldScript.{answer_lines, arrived}
use Rattle.hall_history.proofs.Placing.{line_placed}
use Rattle.hall_history.proofs.Rooming.{gets_entry, is_same}
use Rattle.world_convergence.proofs.Arriving.{HasAsked, IsActAnswer, IsAnswered, IsAside, IsMet, IsPlainAnswer, act_apart, act_there, faulty, sync_comes}
use Rattle.world_convergence.proofs.Counting.{answers, count}
use Rattle.world_convergence.proofs.Directly.{plain_quiet, quiet_counts}
use Rattle.world_convergence.proofs.Entries.{IsAside as IsAsideCall, Stays, asks, entry_stays, nothing, one_if, same_stays, submitted}
use Rattle.world_convergence.proofs.Foreign.{sessions_in}
use Rattle.world_convergence.proofs.Hearing.{Fits}
use Rattle.world_convergence.proofs.Owning.{here_at, no_face}
use Rattle.world_convergence.proofs.Sending.{AreActLines, acted, coming, ticket_fits}
use Rattle.world_convergence.proofs.Serving.{Said, apart_arrived, down_came, met_arrived, said_aside, said_plain, up_then}
use Rattle.world_convergence.proofs.Stories.{Apart, IsSyncLine, Met, StoryOf, is_there}
use Rattle.std.specs.Option.{option_or}

no_both : false ≡ true → ⊥
no_both e = cc

-- in which room the story is
pub now_is : {X G : Type 0} (rules : X → Rules G) (c : ℕ) (v : World X G) (held : Held X G) (room : Option ℕ) → StoryOf rules c v held room → StoryOf rules c v held (option_or (v.hall.at c) room)
now_is rules c v held None a = subst (λ o. StoryOf rules c v held (option_or o None)) (sym a.at) a
now_is rules c v held (Some r) m = by m.at
  where
    by : (v.hall.at c ≡ None) ⊎ (v.hall.at c ≡ Some r) → StoryOf rules c v held (option_or (v.hall.at c) (Some r))
    by (inl none) = subst (λ o. StoryOf rules c v held (option_or o (Some r))) (sym none) m
    by (inr there) = subst (λ o. StoryOf rules c v held (option_or o (Some r))) (sym there) m

module _ {X G : Type 0} (named : List ℕ → Option X) (rules : X → Rules G) (tape : ℕ → List ℕ) (c : ℕ) (mark : Mark) (w : World X G) (text : List ℕ) (rest : List (List ℕ)) (up : w.up c ≡ text ∷ rest) (placed : IsPlaced rules w.hall) where
  abbrev done : Hall X × Option Answer
  done = after_line named rules tape mark w.hall c text

  abbrev come : World X G
  come = (arrived w c rest (after_line named rules tape mark w.hall c text)).0

  -- ---- an act

  same_rooms : (rooms : Rooms X) (r : ℕ) → rooms ≡ w.hall.rooms → Stays nothing (sessions_in rules c w.hall.rooms r) (sessions_in rules c rooms r)
  same_rooms rooms r e = subst (λ x. Stays nothing (sessions_in rules c w.hall.rooms r) (sessions_in rules c x r)) (sym e) (same_stays nothing (sessions_in rules c w.hall.rooms r))

  module _ (held : Held X G) (r : ℕ) (m : Met rules c w held r) where
    faulty_line : (fault : Fault) → client_read text ≡ Err fault → Met rules c come held r
    faulty_line fault e =
        let f = faulty named rules tape w.hall c mark text fault e in
        met_arrived rules c w text rest up done held r nothing (f.2.answered.at c) (same_rooms done.0.rooms r f.2.rooms) (said_plain rules c text f.0 done.1 f.2.answered.said f.1) m

    module _ (s : Submission) (e : client_read text ≡ Ok (line.Act s)) where
      acts_once : (t : ℕ) → acted t (client_read text) ≡ one_if (s.ticket == t)
      acts_once t = ap (acted t) e

      aside_line : (a : Answer) → IsActAnswer s.ticket a → IsAside w.hall done a → Met rules c come held r
      aside_line a plain f =
          met_arrived rules c w text rest up done held r nothing (f.answered.at c) (same_rooms done.0.rooms r f.rooms)
          (said_aside rules c text s.ticket a done.1 f.answered.said (ticket_fits text s e) plain acts_once) m

      asked_stays : (starved : Bool) → done.0.rooms ≡ with_entry w.hall.rooms r (entry c (call.Submit s) starved)
          → Stays (λ ticket. if starved then 0 else asks {X = X} (c == c) (call.Submit s) ticket) (sessions_in rules c w.hall.rooms r) (sessions_in rules c done.0.rooms r)
      asked_stays starved rooms =
          let weight : ℕ → ℕ = λ ticket. if starved then 0 else asks {X = X} (c == c) (call.Submit s) ticket in
          let there = is_there rules c w.hall.rooms r m.s m.before m.latest in
          subst (λ x. Stays weight (sessions_in rules c w.hall.rooms r) (sessions_in rules c x r)) (sym rooms)
          (subst (λ x. Stays weight (sessions_in rules c w.hall.rooms r) ((room_of rules r x).sessions c)) (sym (gets_entry w.hall.rooms r (entry c (call.Submit s) starved) there))
          (entry_stays rules r (history_of w.hall.rooms r) c (call.Submit s) starved c (aside (c == c))))
        where
          aside : (own : Bool) → IsAsideCall {X = X} own (call.Submit s)
          aside true = tt
          aside false = tt

      asks_once : (t : ℕ) → asks {X = X} (c == c) (call.Submit s) t ≡ one_if (s.ticket == t)
      asks_once t = ap (λ b. asks {X = X} b (call.Submit s) t) (is_same c)

      abbrev extra : Bool → ℕ → ℕ
      extra starved ticket = if starved then 0 else asks {X = X} (c == c) (call.Submit s) ticket

      -- a verdict stands in the stream, where it counts as heard
      said_heard : (said : Option Answer) → ((said ≡ None) ⊎ ((why : Refusal) × (said ≡ Some (Refused why)))) → Said rules c text said (extra false)
      said_heard said (inl none) = subst (λ o. Said rules c text o (extra false)) (sym none) (record { untold = refl; tickets = λ t. omega (arith, asks_once t, acts_once t) })
      said_heard said (inr why) =
          let plain = said_plain rules c text (Refused why.0) said why.1 (inr (why.0, refl)) in
          subst (λ o. Said rules c text o (extra false)) (sym why.1) (record {
            untold = ap (λ o. told_lines (answer_lines o)) (sym why.1) ∙ plain.untold;
            tickets = λ t. omega (arith, asks_once t, acts_once t, none_counted t);
          })
        where
          none_counted : (t : ℕ) → count (answers t) (answer_lines (Some (Refused why.0))) ≡ 0
          none_counted t = quiet_counts (line_of (Refused why.0)) (plain_quiet (Refused why.0) (inr (why.0, refl))) t

      asked_line : HasAsked w.hall c r s done → Met rules c come held r
      asked_line h = by h.said
        where
          by : ((h.starved ≡ true) × (done.1 ≡ Some (Again (Some s.ticket)))) ⊎ ((h.starved ≡ false) × ((done.1 ≡ None) ⊎ ((why : Refusal) × (done.1 ≡ Some (Refused why))))) → Met rules c come held r
          by (inl said) =
              met_arrived rules c w text rest up done held r nothing (h.at c)
              (subst (λ b. Stays (extra b) (sessions_in rules c w.hall.rooms r) (sessions_in rules c done.0.rooms r)) said.0 (asked_stays h.starved h.rooms))
              (said_aside rules c text s.ticket (Again (Some s.ticket)) done.1 said.1 (ticket_fits text s e) (inr refl) acts_once) m
          by (inr said) =
              met_arrived rules c w text rest up done held r (extra false) (h.at c)
              (subst (λ b. Stays (extra b) (sessions_in rules c w.hall.rooms r) (sessions_in rules c done.0.rooms r)) said.0 (asked_stays h.starved h.rooms))
              (said_heard done.1 said.1) m

      act_line : Met rules c come held r
      act_line = by m.at
        where
          by : (w.hall.at c ≡ None) ⊎ (w.hall.at c ≡ Some r) → Met rules c come held r
          by (inl none) = let f = act_apart named rules tape w.hall c mark text s e none in aside_line f.0 f.1 f.2
          by (inr sits) = there (act_there named rules tape w.hall c mark text r s e sits)
            where
              there : ((a : Answer) × IsActAnswer s.ticket a × IsAside w.hall done a) ⊎ HasAsked w.hall c r s done → Met rules c come held r
              there (inl f) = aside_line f.0 f.1 f.2
              there (inr h) = asked_line h

    met_line : Met rules c come held r
    met_line = by (subst AreActLines up m.acts).0
      where
        by : ((fault : Fault) × (client_read text ≡ Err fault)) ⊎ ((s : Submission) × (client_read text ≡ Ok (line.Act s))) → Met rules c come held r
        by (inl f) = faulty_line f.0 f.1
        by (inr f) = act_line f.0 f.1

  -- ---- a sync

  module _ (held : Held X G) (a : Apart rules c w held) (last : rest ≡ []) (empty : w.down c ≡ []) where
    placed_then : IsPlaced rules done.0
    placed_then = line_placed named rules tape mark w.hall c text placed

    pub record Begun (r : ℕ) : Type 0 where
      pub s : Session
      pub before : List Session
      pub latest : sessions_in rules c done.0.rooms r ≡ s ∷ before
      pub sent : s.sent ≡ []
      pub own : s.own ≡ []

    module _ (name : Name) (viewer : Viewer) (protocol : Protocol) (h : IsMet w.hall c name viewer protocol done) where
      abbrev old : List (Entry (RoomCall X))
      old = history_of w.hall.rooms name.room

      history_then : history_of done.0.rooms name.room ≡ entry c (call.Attach name.serial viewer protocol) h.starved ∷ old
      history_then = ap (λ x. history_of x name.room) h.rooms ∙ gets_entry w.hall.rooms name.room (entry c (call.Attach name.serial viewer protocol) h.starved) h.there

      at_then : done.0.at c ≡ Some name.room
      at_then = h.at c ∙ here_at c (Some name.room) w.hall.at

      attached_then : is_attached rules name.room (entry c (call.Attach name.serial viewer protocol) h.starved ∷ old) c ≡ true
      attached_then = ap (λ x. is_attached rules name.room x c) (sym history_then) ∙ placed_then c name.room ∙ ap (λ o. is_at o name.room) at_then ∙ is_same name.room

      not_before : is_attached rules name.room old c ≡ false
      not_before = placed c name.room ∙ ap (λ o. is_at o name.room) a.at

      abbrev result : Result (Match X G) RoomReply
      result = attached_match (room_of rules name.room old).standing (latest_state ((room_of rules name.room old).sessions c)) name.serial viewer

      begun_by : (starved : Bool) → h.starved ≡ starved → (o : Result (Match X G) RoomReply) → result ≡ o → Begun name.room
      begun_by true e o f =
          absurd (no_both (sym not_before ∙ sym (want_presence rules name.room old c c (call.Attach name.serial viewer protocol)) ∙ ap (λ b. is_attached rules name.room (entry c (call.Attach name.serial viewer protocol) b ∷ old) c) (sym e) ∙ attached_then))
      begun_by false e (Err why) f =
          absurd (no_both (sym not_before ∙ ap (λ o. is_some (attachment_of ((with_session rules name.room c viewer protocol (room_of rules name.room old) o).sessions c))) (sym f)
          ∙ ap (λ b. is_attached rules name.room (entry c (call.Attach name.serial viewer protocol) b ∷ old) c) (sym e) ∙ attached_then))
      begun_by false e (Ok m) f = record {
        s = new_session rules name.room m viewer protocol;
        before = (room_of rules name.room old).sessions c;
        latest = ap (λ x. (room_of rules name.room x).sessions c) history_then
            ∙ ap (λ b. (room_of rules name.room (entry c (call.Attach name.serial viewer protocol) b ∷ old)).sessions c) e
            ∙ ap (λ o. (with_session rules name.room c viewer protocol (room_of rules name.room old) o).sessions c) f
            ∙ ap (λ b. if b then new_session rules name.room m viewer protocol ∷ (room_of rules name.room old).sessions c else (room_of rules name.room old).sessions c) (is_same c);
        sent = refl;
        own = refl;
      }

      playing_none : held.client.playing ≡ None
      playing_none = no_face held.client.playing a.like.sees

      down_then : come.down c ≡ []
      down_then = down_came rules c w text rest up done ∙ ap (λ l. l ++ answer_lines done.1) empty ∙ ap answer_lines h.said

      met_now : Met rules c come held name.room
      met_now =
          let b : Begun name.room = begun_by h.starved refl result refl in
          let told : told_lines (come.down c) ≡ told_lines b.s.sent = ap told_lines down_then ∙ ap told_lines (sym b.sent) in
          record {
            s = b.s;
            before = b.before;
            latest = b.latest;
            at = inr at_then;
            read = [];
            like = a.like;
            part = ([], sym told ∙ nothing_more (told_lines (come.down c)));
            whole = λ e. told;
            acts = subst AreActLines (sym (up_then rules c w text rest up done ∙ last)) tt;
            tickets = λ t. omega (arith, ap (count (answers t)) down_then, ap (submitted t) b.own, ap (coming t) (up_then rules c w text rest up done ∙ last));
            fits = subst (λ o. Fits (rules held.game) o) (sym playing_none) tt;
            begun = λ e. playing_none;
            key = a.key;
          }
        where
          nothing_more : (xs : List (List ℕ)) → xs ≡ xs ++ []
          nothing_more [] = refl
          nothing_more (x ∷ xs) = ap (λ l. x ∷ l) (nothing_more xs)

      met_story : StoryOf rules c come held (option_or (come.hall.at c) None)
      met_story = subst (λ o. StoryOf rules c come held (option_or o None)) (sym at_then) met_now

    sync_line : IsSyncLine rules c text → StoryOf rules c come held (option_or (come.hall.at c) None)
    sync_line sync = by sync.3
      where
        answered : (b : Answer) → done.0.at c ≡ w.hall.at c → done.1 ≡ Some b → IsPlainAnswer b → StoryOf rules c come held (option_or (come.hall.at c) None)
        answered b at said plain = now_is rules c come held None (apart_arrived rules c w text rest up done held b last at said plain empty a)

        by : ((fault : Fault) × (client_read text ≡ Err fault)) ⊎ (client_read text ≡ Ok (line.Sync sync.0 sync.1 sync.2)) → StoryOf rules c come held (option_or (come.hall.at c) None)
        by (inl f) = let x = faulty named rules tape w.hall c mark text f.0 f.1 in answered x.0 (x.2.answered.at c) x.2.answered.said x.1
        by (inr e) = comes (sync_comes named rules tape w.hall c mark text sync.0 sync.1 sync.2 e a.at)
          where
            comes : ((b : Answer) × IsPlainAnswer b × IsAnswered w.hall done b) ⊎ IsMet w.hall c sync.0 sync.1 sync.2 done → StoryOf rules c come held (option_or (come.hall.at c) None)
            comes (inl x) = answered x.0 (x.2.at c) x.2.said x.1
            comes (inr h) = met_story sync.0 sync.1 sync.2 h

  tail_of : (x y : List ℕ) (xs ys : List (List ℕ)) → x ∷ xs ≡ y ∷ ys → xs ≡ ys
  tail_of x y xs ys e = cc

  head_of : (x y : List ℕ) (xs ys : List (List ℕ)) → x ∷ xs ≡ y ∷ ys → x ≡ y
  head_of x y xs ys e = cc

  empty_cons : (x : List ℕ) (xs : List (List ℕ)) → [] ≡ x ∷ xs → ⊥
  empty_cons x xs e = cc

  pub comes_on : (held : Held X G) (room : Option ℕ) → StoryOf rules c w held room → StoryOf rules c come held (option_or (come.hall.at c) room)
  comes_on held None a = by a.up
    where
      by : (w.up c ≡ []) ⊎ ((other : List ℕ) × (w.up c ≡ other ∷ []) × (w.down c ≡ []) × IsSyncLine rules c other) → StoryOf rules c come held (option_or (come.hall.at c) None)
      by (inl none) = absurd (empty_cons text rest (sym none ∙ up))
      by (inr h) =
          sync_line held a (tail_of text h.0 rest [] (sym up ∙ h.1)) h.2 (subst (IsSyncLine rules c) (sym (head_of text h.0 rest [] (sym up ∙ h.1))) h.3)
  comes_on held (Some r) m = now_is rules c come held (Some r) (met_line held r m)
