-- A line went as one that is served goes, or it was answered that there was no memory for it.
use Rattle.std.proofs.Common.{◌≡◌, ◌⊎◌, inl, inr, ℕ, zero, suc, ◌+◌, Bool, true, false, ◌&&◌, if◌then◌else◌, List, [], ◌∷◌, ◌++◌, length, drop, Option, Some, None, Result, refl, sym, ap, ◌∙◌, subst}
use Rattle.game_trait.specs.Rules.{Rules}
use Rattle.game_hall.specs.Bench.{bench_after, or_bench}
use Rattle.game_hall.specs.Core.{Core, asked, is_again, moved}
use Rattle.game_hall.specs.Requests.{hears, next}
use Rattle.game_hall.specs.Run.{run}
use Rattle.game_hall.specs.declared.answer.Answer.{Answer}
use Rattle.game_hall.specs.declared.answer.Answer.TheVariants.{Again}
use Rattle.game_hall.specs.declared.next.Next.{Next}
use Rattle.game_hall.specs.declared.next.Next.TheVariants.{Calls, Says as Replies, Attaches, Silent}
use Rattle.game_hall.specs.declared.request.Request.{Request}
use Rattle.game_hall.specs.declared.request.Request.TheVariants.{Creating, Listing, Looking, Joining, Renaming, Leaving, Syncing, Acting}
use Rattle.game_hall.proofs.Running.{moved_over}
use Rattle.room_history.specs.Room as room_as
use Rattle.room_history.specs.declared.call.RoomCall.{RoomCall}
use Rattle.room_history.specs.declared.reply.RoomReply.{RoomReply}
use Rattle.room_history.specs.declared.reply.RoomReply.TheVariants as reply
use Rattle.room_object.specs.Entry.{entry}
use Rattle.wire_json.specs.ClientReading.{client_read}
use Rattle.wire_json.specs.Refusals.{Refusal as Fault}
use Rattle.wire_json.specs.declared.client.ClientMsg.{ClientMsg}
use Rattle.hall_history.specs.Hall.{Hall, after_line, core_of, request}
use Rattle.hall_history.specs.Mark.{Luck, Lucky, Mark, Served, Unread, Starved, ask_rooms, takes_memory, told_by, unheard}
use Rattle.hall_history.specs.Rooms.{Rooms, reply_in, with_entry}
use Rattle.hall_history.specs.Script.{Step, Nothing, Seeds, Opens, Says, Takes, Detaches, does, first_mark, runs_script}
use Rattle.hall_history.specs.Parts.{hall_by, luck_after, runs_out, runs_out_there, answered_text}
use Rattle.script_steps.specs.Pieces.{Print, pieces_from, pieces_of, says_again, Answered}
use Rattle.std.specs.Option.{option_map_or}
use Rattle.std.specs.List.{AllByRecursion}

-- a reply is heard as it is, or as want of memory
heard_or : (b : Bool) (told : RoomReply) → ((if b then unheard told else told) ≡ told) ⊎ ((if b then unheard told else told) ≡ reply.NoMemory)
heard_or false told = inl refl
heard_or true (reply.Looked row) = inr refl
heard_or true reply.Busy = inr refl
heard_or true told = inl refl

unheard_none : (b : Bool) → (if b then unheard reply.NoMemory else reply.NoMemory) ≡ reply.NoMemory
unheard_none true = refl
unheard_none false = refl

-- a room that has no memory for a call says so
starved_told : {X G : Type 0} (rules : X → Rules G) (rooms : Rooms X) (room pass : ℕ) (made : RoomCall X) → reply_in rules rooms room (entry pass made true) ≡ reply.NoMemory
unfolding room_as.reply
starved_told rules rooms room pass made = refl

-- which ends any request
starved_next : {X : Type 0} (named : List ℕ → Option X) (rooms : ℕ) (made : Request) → (ticket : Option ℕ) × (next named rooms made reply.NoMemory ≡ Replies (Again ticket))
starved_next named rooms (Creating game seats seed room) = (None, refl)
starved_next named rooms (Listing game rows room) = (None, refl)
starved_next named rooms Looking = (None, refl)
starved_next named rooms (Joining name seat key) = (None, refl)
starved_next named rooms (Renaming name seat) = (None, refl)
starved_next named rooms (Leaving name seat) = (None, refl)
starved_next named rooms (Syncing room) = (None, refl)
starved_next named rooms (Acting ticket) = (Some ticket, refl)

module _ {X G : Type 0} (named : List ℕ → Option X) (rules : X → Rules G) (pass : ℕ) where
  abbrev with_luck : Rooms X → Luck → Lucky X
  with_luck rooms luck = record { rooms = rooms; luck = luck }

  abbrev ran : ℕ → Core X → Next X → Lucky X → Core X × Lucky X
  ran n c x s = run named (ask_rooms rules pass) n (moved c x) s

  says_so : (n : ℕ) (c : Core X) (ticket : Option ℕ) (s : Lucky X) → is_again (ran n c (Replies (Again ticket)) s).0.said ≡ true
  says_so zero c ticket s = refl
  says_so (suc n) c ticket s = refl

  -- both come to the same, or the one with this luck is answered so
  abbrev SameOrAgain : Core X × Lucky X → Core X × Lucky X → Type 0
  SameOrAgain done served = ((done.0 ≡ served.0) × (done.1.rooms ≡ served.1.rooms)) ⊎ (is_again done.0.said ≡ true)

  goes_again : (n : ℕ) (c : Core X) (made : Request) (told : RoomReply) (s : Lucky X) (served : Core X × Lucky X) → told ≡ reply.NoMemory → SameOrAgain (ran n c (next named c.rooms made told) s) served
  goes_again n c made told s served e =
      let last = starved_next named c.rooms made in
      inr (subst (λ x. is_again (ran n c x s).0.said ≡ true) (sym (ap (λ t. next named c.rooms made t) e ∙ last.1)) (says_so n c last.0 s))

  ran_alike : (n : ℕ) (c : Core X) (x : Next X) (rooms : Rooms X) (luck : Luck) → SameOrAgain (ran n c x (with_luck rooms luck)) (ran n c x (with_luck rooms None))
  ran_alike zero c x rooms luck = inl (refl, refl)
  ran_alike (suc n) c (Replies a) rooms luck = inl (refl, refl)
  ran_alike (suc n) c (Attaches room) rooms luck = inl (refl, refl)
  ran_alike (suc n) c Silent rooms luck = inl (refl, refl)
  ran_alike (suc n) c (Calls room made asks) rooms luck = went (λ x now left. ran_alike n c x now left) (runs_out_there luck && takes_memory made)
    where
      entered : Bool → Rooms X
      entered b = with_entry rooms room (entry pass made b)

      told : Bool → RoomReply
      told b = reply_in rules rooms room (entry pass made b)

      over : (t : RoomReply) (s : Lucky X) → ran n c (next named c.rooms asks t) s ≡ run named (ask_rooms rules pass) n (moved (asked (moved c (Calls room made asks))) (next named c.rooms asks t)) s
      over t s = ap (λ d. run named (ask_rooms rules pass) n d s) (sym (moved_over c room made asks (next named c.rooms asks t)))

      served : Core X × Lucky X
      served = ran n c (next named c.rooms asks (told false)) (with_luck (entered false) None)

      -- by the reply that is heard where the room has no memory, or has
      heard : Bool → Core X × Lucky X
      heard b = ran n c (next named c.rooms asks (told_by luck (told b))) (with_luck (entered b) (luck_after luck))

      so : ((x : Next X) (now : Rooms X) (left : Luck) → SameOrAgain (ran n c x (with_luck now left)) (ran n c x (with_luck now None)))
          → (told_by luck (told false) ≡ told false) ⊎ (told_by luck (told false) ≡ reply.NoMemory) → SameOrAgain (heard false) served
      so rest (inl e) =
          subst (λ t. SameOrAgain (ran n c (next named c.rooms asks t) (with_luck (entered false) (luck_after luck))) served) (sym e)
          (rest (next named c.rooms asks (told false)) (entered false) (luck_after luck))
      so rest (inr e) = goes_again n c asks (told_by luck (told false)) (with_luck (entered false) (luck_after luck)) served e

      alike : ((x : Next X) (now : Rooms X) (left : Luck) → SameOrAgain (ran n c x (with_luck now left)) (ran n c x (with_luck now None))) → (b : Bool) → SameOrAgain (heard b) served
      alike rest true =
          goes_again n c asks (told_by luck (told true)) (with_luck (entered true) (luck_after luck)) served
          (ap (λ t. told_by luck t) (starved_told rules rooms room pass made) ∙ unheard_none (runs_out luck))
      alike rest false = so rest (heard_or (runs_out luck) (told false))

      went : ((x : Next X) (now : Rooms X) (left : Luck) → SameOrAgain (ran n c x (with_luck now left)) (ran n c x (with_luck now None))) → (b : Bool)
          → SameOrAgain (run named (ask_rooms rules pass) n (moved (asked (moved c (Calls room made asks))) (next named c.rooms asks (told_by luck (told b)))) (with_luck (entered b) (luck_after luck)))
          (run named (ask_rooms rules pass) n (moved (asked (moved c (Calls room made asks))) (next named c.rooms asks (told false))) (with_luck (entered false) None))
      went rest b =
          subst (λ d. SameOrAgain d (run named (ask_rooms rules pass) n (moved (asked (moved c (Calls room made asks))) (next named c.rooms asks (told false))) (with_luck (entered false) None)))
          (over (told_by luck (told b)) (with_luck (entered b) (luck_after luck)))
          (subst (λ d. SameOrAgain (heard b) d) (over (told false) (with_luck (entered false) None)) (alike rest b))

module _ {X G : Type 0} (named : List ℕ → Option X) (rules : X → Rules G) (tape : ℕ → List ℕ) where
  -- a session's line went as a served one, or was answered so
  abbrev WentOrAgain : Hall X × Option Answer → Hall X × Option Answer → Type 0
  WentOrAgain done served = (done ≡ served) ⊎ (is_again done.1 ≡ true)

  lucky_alike : (h : Hall X) (pass : ℕ) (read : Result ClientMsg Fault) (done served : Core X × Lucky X) → SameOrAgain named rules pass done served → WentOrAgain (hall_by h pass read done) (hall_by h pass read served)
  lucky_alike h pass read done served (inl e) =
      inl (ap (λ c. hall_by h pass read (c, done.1)) e.0 ∙ ap (λ rooms. hall_by h pass read (served.0, record { rooms = rooms; luck = None })) e.1)
  lucky_alike h pass read done served (inr e) = inr e

  requested : (mark : Mark) (h : Hall X) (pass : ℕ) (read : Result ClientMsg Fault) → SameOrAgain named rules pass (request named rules tape mark h pass read) (request named rules tape Served h pass read)
  requested Served h pass read = inl (refl, refl)
  requested Unread h pass read = inr refl
  requested (Starved zero there) h pass read = inr refl
  requested (Starved (suc n) there) h pass read =
      ran_alike named rules pass (length h.rooms + 1) (record (core_of h pass) { bench = bench_after (core_of h pass).bench read })
      (or_bench (core_of h pass).bench read (hears named (length h.rooms) (h.at pass) read (tape h.place) h.seed)) h.rooms (Some (suc n, there))

  pub line_is_told : (mark : Mark) (h : Hall X) (pass : ℕ) (line : List ℕ) → WentOrAgain (after_line named rules tape mark h pass line) (after_line named rules tape Served h pass line)
  line_is_told mark h pass line =
      lucky_alike h pass (client_read line) (request named rules tape mark h pass (client_read line)) (request named rules tape Served h pass (client_read line)) (requested mark h pass (client_read line))

  -- ---- where no line is answered so

  not_again : (b : Bool) → b ≡ true → b ≡ false → ⊥
  not_again b e f = cc

  answered_again : (pass : ℕ) (said : Option Answer) → is_again said ≡ true → AllByRecursion (λ print. says_again print ≡ false) (option_map_or (λ said. Answered pass said ∷ []) said []) → ⊥
  answered_again pass None e served = cc
  answered_again pass (Some a) e served = not_again (is_again (Some a)) e served.0

  step_served : (mark : Mark) (step : Step) (h : Hall X) → AllByRecursion (λ print. says_again print ≡ false) (pieces_of named rules tape mark step h) → does named rules tape mark step h ≡ does named rules tape Served step h
  step_served mark Nothing h served = refl
  step_served mark (Seeds seed) h served = refl
  step_served mark (Opens game seats) h served = refl
  step_served mark (Says pass line) h served = by (line_is_told mark h pass line)
    where
      by : WentOrAgain (after_line named rules tape mark h pass line) (after_line named rules tape Served h pass line) → does named rules tape mark (Says pass line) h ≡ does named rules tape Served (Says pass line) h
      by (inl e) = ap (λ done. (done.0, answered_text pass done.1)) e
      by (inr e) = absurd (answered_again pass (after_line named rules tape mark h pass line).1 e served)
  step_served mark (Takes pass) h served = refl
  step_served mark (Detaches pass) h served = refl

  first_part : (xs ys : List Print) → AllByRecursion (λ print. says_again print ≡ false) (xs ++ ys) → AllByRecursion (λ print. says_again print ≡ false) xs × AllByRecursion (λ print. says_again print ≡ false) ys
  first_part [] ys served = (tt, served)
  first_part (x ∷ xs) ys served = let rest = first_part xs ys served.1 in ((served.0, rest.0), rest.1)

  -- the run is as if each line was served
  pub all_served : (marks : List Mark) (steps : List Step) (h : Hall X) → AllByRecursion (λ print. says_again print ≡ false) (pieces_from named rules tape marks steps h) → runs_script named rules tape marks steps h ≡ runs_script named rules tape [] steps h
  all_served marks [] h served = refl
  all_served marks (step ∷ steps) h served =
      let parts = first_part (pieces_of named rules tape (first_mark marks) step h) (pieces_from named rules tape (drop 1 marks) steps (does named rules tape (first_mark marks) step h).0) served in
      ap (λ done. (done.0, (does named rules tape (first_mark marks) step h).1 ++ done.1)) (all_served (drop 1 marks) steps (does named rules tape (first_mark marks) step h).0 parts.1)
      ∙ ap (λ done. ((runs_script named rules tape [] steps done.0).0, done.1 ++ (runs_script named rules tape [] steps done.0).1)) (step_served (first_mark marks) step h parts.0)
