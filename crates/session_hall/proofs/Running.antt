-- A request's calls, one after another, are a run of hall_history's.
use Rattle.std.proofs.Common.{◌≡◌, ◌≤◌, ◌<◌, ◌-◌, inl, inr, ℕ, zero, suc, ◌+◌, Bool, true, false, List, length, slice_index_or, slice_set, ◌&&◌, ◌==◌, if◌then◌else◌, Option, Some, None, refl, sym, ap, ◌∙◌, subst, arith}
use Rattle.std.proofs.lemmas.Bool.Decides.{nat_tests}
use Rattle.any_game.specs.AnyRules.{any_rules, named}
use Rattle.any_game.specs.GameKind.{GameKind}
use Rattle.any_game.specs.declared.any_g.AnyG.{AnyG}
use Rattle.game_hall.specs.Core.{Core, answered, asked, replied, starved, ticket_of}
use Rattle.game_hall.specs.Kept.{MayWantMemory}
use Rattle.game_hall.specs.Run.{goes_on, run}
use Rattle.game_hall.specs.Requests.{next}
use Rattle.game_hall.specs.declared.request.Request.{Request}
use Rattle.game_hall.specs.declared.request.Request.TheVariants.{Creating, Listing, Looking, Joining, Renaming, Leaving, Syncing, Acting}
use Rattle.game_hall.proofs.Moves.{is_starved_by}
use Rattle.hall_history.specs.Counts.{accepts, refuses}
use Rattle.hall_history.specs.Mark.{Luck, Lucky, ask_rooms, takes_memory, told_by, unheard}
use Rattle.hall_history.specs.Parts.{luck_after, runs_out, runs_out_there}
use Rattle.hall_history.specs.Rooms.{History, Rooms, history_of, reply_in, with_entry}
use Rattle.hall_history.proofs.Counting.{counts_entry}
use Rattle.hall_history.proofs.Rooming.{same_length}
use Rattle.match_master.specs.Held.{Held, StandsFor, is_starved, may_starve}
use Rattle.room_history.specs.declared.call.RoomCall.{RoomCall}
use Rattle.room_history.specs.declared.call.RoomCall.TheVariants as call
use Rattle.room_history.specs.declared.reply.RoomReply.{RoomReply}
use Rattle.room_history.specs.declared.reply.RoomReply.TheVariants as told_as
use Rattle.wire_json.specs.declared.match_row.MatchRow.{MatchRow}
use Rattle.room_object.specs.Entry.{entry}
use Rattle.session_hall.specs.Held.{AreBooks, IsBook}
use Rattle.session_driver.specs.Hearing.{HearsReply}
use Rattle.session_hall.specs.Requests.{Tallies}
use Rattle.session_hall.proofs.Requests.{Asks, Runs, RunsTo, Want, luck_of}
use Rattle.session_driver.specs.declared.tally.Tally.{Tally}
use Rattle.session_hall.proofs.Books.{Books, put_entry}

abbrev pub Lucks : Type 0
Lucks = Lucky GameKind

abbrev pub with_luck : Rooms GameKind → Luck → Lucks
with_luck rooms luck = record { rooms = rooms; luck = luck }

abbrev pub runs : ℕ → ℕ → Core GameKind → Lucks → Core GameKind × Lucks
runs n pass c s = run named (ask_rooms any_rules pass) n c s

-- ---- a closed request stands still

module _ (pass : ℕ) where
  pub still : (n : ℕ) (c : Core GameKind) (s : Lucks) → c.call ≡ None → runs n pass c s ≡ (c, s)
  still zero c s e = refl
  still (suc n) c s e = ap (λ call. goes_on named (ask_rooms any_rules pass) (λ d t. runs n pass d t) call c s) e

  pub stands_still : (n : ℕ) (c : Core GameKind) (rooms : Rooms GameKind) → c.call ≡ None → RunsTo n pass c rooms c rooms
  stands_still n c rooms e = record {
    want = None;
    core = ap (λ done. done.0) (still n c (with_luck rooms None) e);
    left = ap (λ done. done.1.rooms) (still n c (with_luck rooms None) e);
  }

  -- what it runs to is as it was
  same_core : (n : ℕ) (c : Core GameKind) (rooms : Rooms GameKind) (d : Core GameKind) (after : Rooms GameKind) → c.call ≡ None → RunsTo n pass c rooms d after → (c ≡ d) × (rooms ≡ after)
  same_core n c rooms d after e r = (
    sym (ap (λ done. done.0) (still n c (with_luck rooms (luck_of r.want)) e)) ∙ r.core,
    sym (ap (λ done. done.1.rooms) (still n c (with_luck rooms (luck_of r.want)) e)) ∙ r.left,
  )

  -- one call, with a luck by which it is told this
  one_call : (n : ℕ) (c : Core GameKind) (rooms : Rooms GameKind) (room : ℕ) (made : RoomCall GameKind) (luck : Luck)
      → c.call ≡ Some (room, made)
      → runs (suc n) pass c (with_luck rooms luck)
      ≡ runs n pass (answered named (asked c) (ask_rooms any_rules pass room made (with_luck rooms luck)).0) (ask_rooms any_rules pass room made (with_luck rooms luck)).1
  one_call n c rooms room made luck e = ap (λ call. goes_on named (ask_rooms any_rules pass) (λ d t. runs n pass d t) call c (with_luck rooms luck)) e

-- ---- one call of a request

same_memory : (made : RoomCall GameKind) → takes_memory made ≡ may_starve made
same_memory (call.Create game seats seed) = refl
same_memory (call.Join serial seat name key) = refl
same_memory (call.Rename serial seat key name) = refl
same_memory (call.Leave serial seat key) = refl
same_memory (call.Clear serial) = refl
same_memory (call.Look serial) = refl
same_memory (call.Attach serial viewer protocol) = refl
same_memory (call.Submit s) = refl
same_memory call.Take = refl
same_memory call.Detach = refl

-- want of memory one call later
abbrev later : Want → Want
later None = None
later (Some want) = Some (suc want.0, want.1)

not_one : (n : ℕ) → (suc (suc n) == 1) ≡ false
not_one n = grind (arith, nat_tests)

later_served : (want : Want) → runs_out (luck_of (later want)) ≡ false
later_served None = refl
later_served (Some want) = not_one want.0

later_there : (want : Want) → runs_out_there (luck_of (later want)) ≡ false
later_there None = refl
later_there (Some want) = ap (λ b. b && want.1) (not_one want.0)

later_luck : (want : Want) → luck_after (luck_of (later want)) ≡ luck_of want
later_luck None = refl
later_luck (Some want) = refl

false_true : false ≡ true → ⊥
false_true e = cc

starved_is : (told : RoomReply) → is_starved told ≡ true → told ≡ told_as.NoMemory
starved_is told_as.NoMemory e = refl
starved_is other e = absurd (false_true e)

-- the replies that a core may have no memory to hear are those that a mark lets it not hear
creating_unheard : (game : List ℕ) (seats : ℕ) (seed : List ℕ) (room : ℕ) (told : RoomReply) → MayWantMemory (Creating game seats seed room) told → unheard told ≡ told_as.NoMemory
creating_unheard game seats seed room told_as.Busy h = refl
creating_unheard game seats seed room other h = absurd h

listing_unheard : (game : List ℕ) (rows : List MatchRow) (room : ℕ) (told : RoomReply) → MayWantMemory (Listing game rows room) told → unheard told ≡ told_as.NoMemory
listing_unheard game rows room (told_as.Looked row) h = refl
listing_unheard game rows room other h = absurd h

looking_unheard : (told : RoomReply) → MayWantMemory Looking told → unheard told ≡ told_as.NoMemory
looking_unheard (told_as.Looked row) h = refl
looking_unheard other h = absurd h

want_unheard : (request : Request) (told : RoomReply) → MayWantMemory request told → (unheard told ≡ told_as.NoMemory) × (ticket_of (Some request) ≡ None)
want_unheard (Creating game seats seed room) told h = (creating_unheard game seats seed room told h, refl)
want_unheard (Listing game rows room) told h = (listing_unheard game rows room told h, refl)
want_unheard Looking told h = (looking_unheard told h, refl)
want_unheard (Joining name seat key) told h = absurd h
want_unheard (Renaming name seat) told h = absurd h
want_unheard (Leaving name seat) told h = absurd h
want_unheard (Syncing room) told h = absurd h
want_unheard (Acting ticket) told h = absurd h

-- the open request is that one
wants_of : (open_one : Option Request) (request : Request) (told : RoomReply) → open_one ≡ Some request → (q : Request) × (open_one ≡ Some q) × MayWantMemory q told → MayWantMemory request told
wants_of open_one request told e (q, is, wants) = subst (λ x. MayWantMemory x told) (same_some (sym is ∙ e)) wants
  where
    same_some : {A : Type 0} {x y : A} → Some x ≡ Some y → x ≡ y
    same_some f = cc

-- no core wants memory to hear of want of memory
starved_heard : (request : Request) (told : RoomReply) → told ≡ told_as.NoMemory → MayWantMemory request told → ⊥
starved_heard (Creating game seats seed room) told e h = subst (MayWantMemory (Creating game seats seed room)) e h
starved_heard (Listing game rows room) told e h = subst (MayWantMemory (Listing game rows room)) e h
starved_heard Looking told e h = subst (MayWantMemory Looking) e h
starved_heard (Joining name seat key) told e h = h
starved_heard (Renaming name seat) told e h = h
starved_heard (Leaving name seat) told e h = h
starved_heard (Syncing room) told e h = h
starved_heard (Acting ticket) told e h = h

module _ (n pass : ℕ) (c : Core GameKind) (rooms : Rooms GameKind) (room : ℕ) (made : RoomCall GameKind) (wanted : c.call ≡ Some (room, made)) where
  abbrev asked_with : Luck → RoomReply × Lucks
  asked_with luck = ask_rooms any_rules pass room made (with_luck rooms luck)

  -- what the call comes to, by its luck
  asks_by : (luck : Luck) (o t : Bool) (told : RoomReply) → runs_out luck ≡ o → runs_out_there luck ≡ t
      → (if o then unheard (reply_in any_rules rooms room (entry pass made (t && takes_memory made))) else reply_in any_rules rooms room (entry pass made (t && takes_memory made))) ≡ told
      → asked_with luck ≡ (told, with_luck (with_entry rooms room (entry pass made (t && takes_memory made))) (luck_after luck))
  asks_by luck o t told p q e =
      ap (λ b. (told_by luck (reply_in any_rules rooms room (entry pass made (b && takes_memory made))), with_luck (with_entry rooms room (entry pass made (b && takes_memory made))) (luck_after luck))) q
      ∙ ap (λ x. (x, with_luck (with_entry rooms room (entry pass made (t && takes_memory made))) (luck_after luck)))
      (ap (λ b. if b then unheard (reply_in any_rules rooms room (entry pass made (t && takes_memory made))) else reply_in any_rules rooms room (entry pass made (t && takes_memory made))) p ∙ e)

  -- and what comes after it
  runs_by : (want : Want) (told : RoomReply) (next : Rooms GameKind) (luck : Luck) (e : Core GameKind) (after : Rooms GameKind)
      → asked_with (luck_of want) ≡ (told, with_luck next luck)
      → (runs n pass (answered named (asked c) told) (with_luck next luck)).0 ≡ e
      → (runs n pass (answered named (asked c) told) (with_luck next luck)).1.rooms ≡ after
      → RunsTo (suc n) pass c rooms e after
  runs_by want told next luck e after a core left = record {
    want = want;
    core = ap (λ done. done.0) (one_call pass n c rooms room made (luck_of want) wanted ∙ ap (λ x. runs n pass (answered named (asked c) x.0) x.1) a) ∙ core;
    left = ap (λ done. done.1.rooms) (one_call pass n c rooms room made (luck_of want) wanted ∙ ap (λ x. runs n pass (answered named (asked c) x.0) x.1) a) ∙ left;
  }

  module _ (request : Request) (open_one : c.request ≡ Some request) where
    starves : answered named (asked c) told_as.NoMemory ≡ starved (asked c) (ticket_of (Some request))
    starves = ap (λ r. replied named (asked c) r told_as.NoMemory) open_one ∙ is_starved_by named (asked c) request

    -- the core has heard of want of memory, at a call or at a reply
    stops : (there : Bool) (next : Rooms GameKind) (d e : Core GameKind) (after : Rooms GameKind)
        → asked_with (Some (1, there)) ≡ (told_as.NoMemory, with_luck next (Some (0, there)))
        → answered named (asked c) told_as.NoMemory ≡ d
        → RunsTo n pass d next e after → RunsTo (suc n) pass c rooms e after
    stops there next d e after a s r =
        let closed : d.call ≡ None = sym (ap (λ (x : Core GameKind). x.call) (sym starves ∙ s)) in
        let same : (d ≡ e) × (next ≡ after) = same_core pass n d next e after closed r in
        let stays : runs n pass (answered named (asked c) told_as.NoMemory) (with_luck next (Some (0, there))) ≡ (d, with_luck next (Some (0, there))) =
        ap (λ x. runs n pass x (with_luck next (Some (0, there)))) s ∙ still pass n d (with_luck next (Some (0, there))) closed in
        runs_by (Some (0, there)) told_as.NoMemory next (Some (0, there)) e after a (ap (λ done. done.0) stays ∙ same.0) (ap (λ done. done.1.rooms) stays ∙ same.1)

    module _ (told : RoomReply) (d : Core GameKind) (book : Held GameKind AnyG) (tally : Tally) (a : Asks pass room made told (asked c) (history_of rooms room) d book tally) (e : Core GameKind) (after : Rooms GameKind)
        (r : RunsTo n pass d (with_entry rooms room (entry pass made (is_starved told))) e after) where
      abbrev next_by : Bool → Rooms GameKind
      next_by b = with_entry rooms room (entry pass made b)

      goes_by : (b : Bool) → is_starved told ≡ b → RunsTo n pass d (next_by b) e after → HearsReply (asked c) told d → RunsTo (suc n) pass c rooms e after
      goes_by true s r (inl heard) =
          let memory : (true && takes_memory made) ≡ true = same_memory made ∙ a.fed s in
          let want : told ≡ told_as.NoMemory = starved_is told s in
          let said : reply_in any_rules rooms room (entry pass made (true && takes_memory made)) ≡ told_as.NoMemory =
          ap (λ b. reply_in any_rules rooms room (entry pass made b)) (memory ∙ sym s) ∙ sym a.is ∙ want in
          stops true (next_by true) d e after
          (asks_by (Some (1, true)) true true told_as.NoMemory refl refl (ap (λ x. unheard x) said) ∙ ap (λ b. (told_as.NoMemory, with_luck (next_by b) (Some (0, true)))) memory)
          (ap (λ x. answered named (asked c) x) (sym want) ∙ sym heard)
          r
      goes_by true s r (inr unheard_it) = absurd (starved_heard request told (starved_is told s) (wants_of c.request request told open_one unheard_it.1))
      goes_by false s r (inl heard) =
          let said : reply_in any_rules rooms room (entry pass made false) ≡ told = ap (λ b. reply_in any_rules rooms room (entry pass made b)) (sym s) ∙ sym a.is in
          let asks : asked_with (luck_of (later r.want)) ≡ (told, with_luck (next_by false) (luck_of r.want)) =
          asks_by (luck_of (later r.want)) false false told (later_served r.want) (later_there r.want) said ∙ ap (λ l. (told, with_luck (next_by false) l)) (later_luck r.want) in
          runs_by (later r.want) told (next_by false) (luck_of r.want) e after asks
          (ap (λ x. (runs n pass x (with_luck (next_by false) (luck_of r.want))).0) (sym heard) ∙ r.core)
          (ap (λ x. (runs n pass x (with_luck (next_by false) (luck_of r.want))).1.rooms) (sym heard) ∙ r.left)
      goes_by false s r (inr unheard_it) =
          let said : reply_in any_rules rooms room (entry pass made false) ≡ told = ap (λ b. reply_in any_rules rooms room (entry pass made b)) (sym s) ∙ sym a.is in
          let want : (unheard told ≡ told_as.NoMemory) × (ticket_of (Some request) ≡ None) =
          want_unheard request told (wants_of c.request request told open_one unheard_it.1) in
          stops false (next_by false) d e after
          (asks_by (Some (1, false)) true false told_as.NoMemory refl refl (ap (λ x. unheard x) said ∙ want.0))
          (starves ∙ ap (λ t. starved (asked c) t) want.1 ∙ sym unheard_it.0)
          r

      pub goes : RunsTo (suc n) pass c rooms e after
      goes = goes_by (is_starved told) refl r a.heard

-- ---- a request, from one call to the next

-- so many calls have been made, from one core and rooms on to these
pub record RunsFrom (made pass : ℕ) (c : Core GameKind) (rooms asked_rooms : Rooms GameKind) (now : Core GameKind) (books : Books) (tally : Tally) : Type 0 where
  pub stand : AreBooks books asked_rooms
  pub count : length asked_rooms ≡ length rooms
  pub tallies : Tallies rooms tally asked_rooms
  pub goes : (n : ℕ) (d : Core GameKind) (after : Rooms GameKind) → made + n ≡ length rooms + 1 → RunsTo n pass now asked_rooms d after → RunsTo (length rooms + 1) pass c rooms d after

-- nothing is added
pub added_none : (n none : ℕ) → none ≡ 0 → n ≡ n + none
added_none n none e = omega (arith, e)

pub runs_first : (pass : ℕ) (c : Core GameKind) (rooms : Rooms GameKind) (books : Books) (tally : Tally) → tally.accepted ≡ 0 → tally.refused ≡ 0 → AreBooks books rooms
    → RunsFrom 0 pass c rooms rooms c books tally
runs_first pass c rooms books tally none never a = record {
  stand = a;
  count = refl;
  tallies = record { accepted = added_none _ tally.accepted none; refused = added_none _ tally.refused never };
  goes = λ n d after e r. subst (λ m. RunsTo m pass c rooms d after) (all_left n e) r;
}
  where
    all_left : (n : ℕ) → 0 + n ≡ length rooms + 1 → n ≡ length rooms + 1
    all_left n e = omega (arith, e)

module _ (made pass : ℕ) (c : Core GameKind) (rooms asked_rooms : Rooms GameKind) (now : Core GameKind) (books : Books) (tally : Tally) (f : RunsFrom made pass c rooms asked_rooms now books tally) where
  pub runs_next : (room : ℕ) (asked_for : RoomCall GameKind) (told : RoomReply) (request : Request) → now.call ≡ Some (room, asked_for) → now.request ≡ Some request → room < length books
      → (d : Core GameKind) (old book : Held GameKind AnyG) → old ≡ slice_index_or books room old → book.room ≡ old.room
      → (one all : Tally) → ((h : History GameKind) → StandsFor any_rules old h → Asks pass old.room asked_for told (asked now) h d book one)
      → all.accepted ≡ tally.accepted + one.accepted → all.refused ≡ tally.refused + one.refused
      → RunsFrom (made + 1) pass c rooms (with_entry asked_rooms room (entry pass asked_for (is_starved told))) d (slice_set books room book) all
  runs_next room asked_for told request wanted open_one below d old book is same one all asks more fewer = record {
    stand = put_entry books asked_rooms room book (entry pass asked_for (is_starved told)) f.stand there (same ∙ numbered) went.stands;
    count = same_length asked_rooms room (entry pass asked_for (is_starved told)) ∙ f.count;
    tallies = record {
      accepted = counts_entry any_rules accepts asked_rooms room (entry pass asked_for (is_starved told)) there
          ∙ with_one _ _ tally.accepted one.accepted all.accepted _ f.tallies.accepted (went.accepted ∙ ap accepts went.is) more;
      refused = counts_entry any_rules refuses asked_rooms room (entry pass asked_for (is_starved told)) there
          ∙ with_one _ _ tally.refused one.refused all.refused _ f.tallies.refused (went.refused ∙ ap refuses went.is) fewer;
    };
    goes = λ n e after l r. f.goes (suc n) e after (one_less_left n l) (goes n pass now asked_rooms room asked_for wanted request open_one told d book one went e after r);
  }
    where
      there : room < length asked_rooms
      there = subst (λ k. room < k) f.stand.count below

      held : IsBook room asked_rooms old
      held = subst (λ x. IsBook room asked_rooms x) (sym is) (f.stand.each room old there)

      numbered : old.room ≡ room
      numbered = held.number

      went : Asks pass room asked_for told (asked now) (history_of asked_rooms room) d book one
      went = subst (λ k. Asks pass k asked_for told (asked now) (history_of asked_rooms room) d book one) numbered (asks (history_of asked_rooms room) held.stands)

      with_one : (now_all before_all so_far this all_of counted : ℕ) → now_all ≡ before_all + so_far → this ≡ counted → all_of ≡ so_far + this → now_all + counted ≡ before_all + all_of
      with_one now_all before_all so_far this all_of counted p q r = omega (arith, p, q, r)

      one_less_left : (n : ℕ) → made + 1 + n ≡ length rooms + 1 → made + suc n ≡ length rooms + 1
      one_less_left n l = omega (arith, l)

  -- no call is wanted any more
  pub runs_closed : now.call ≡ None → made ≤ length books + 1 → Runs pass c rooms asked_rooms (asked now) books tally
  runs_closed closed most =
      let n : ℕ = length rooms + 1 - made in
      let r : RunsTo n pass now asked_rooms now asked_rooms = stands_still pass n now asked_rooms closed in
      record {
        stand = f.stand;
        tallies = f.tallies;
        goes = subst (λ x. RunsTo (length rooms + 1) pass c rooms x asked_rooms) (sym same) (f.goes n now asked_rooms (omega (arith, most, f.stand.count, f.count)) r);
      }
    where
      same : asked now ≡ now
      same = ap (λ x. record now { call = x }) (sym closed)
