-- Where a session is attached, and what its core is, after each call and each line.
use Rattle.std.proofs.Common.{◌≡◌, ◌≢◌, inl, inr, ◌++◌, ℕ, Bool, true, false, if◌then◌else◌, List, [], ◌∷◌, length, ap, sym, ◌∙◌, subst, arith, refl, Some, None, Option, Result, Ok, Err, ne_eqb, slice_index_or, slice_set}
use Rattle.std.specs.Prelude.{IfSome, IsSome, slice_get}
use Rattle.std.proofs.lemmas.List.{get_or-set_same, get_or-set_other, length-set}
use Rattle.std.proofs.lemmas.Option.{slice_get_within, get_or_from_slice_get}
use mathlib.Core.Logic.{dite}
use native.Mathlib.Decide.{ℕ_discrete}
use Rattle.any_game.specs.AnyRules.{any_rules, named}
use Rattle.any_game.specs.GameKind.{GameKind}
use Rattle.game_hall.specs.Core.{Core, IsSettled, answered, asked, moved, plain, released, replied, starved}
use Rattle.game_hall.specs.Bench.{bench_after, or_bench}
use Rattle.game_hall.specs.Kept.{MayWantMemory}
use Rattle.game_hall.specs.declared.bench.Bench.{Bench}
use Rattle.game_hall.specs.declared.bench.Bench.TheVariants.{Absent, Idle, Wants, Sought}
use Rattle.wire_json.specs.Refusals.{Refusal as Fault}
use Rattle.wire_json.specs.declared.client.ClientMsg.{ClientMsg}
use Rattle.wire_json.specs.declared.client.ClientMsg.TheVariants as line_as
use Rattle.game_hall.specs.Requests.{after_attach, hears, is_attached as is_attached_reply, next, undone}
use Rattle.game_hall.specs.Words.{next_action}
use Rattle.game_hall.specs.declared.next.Next.{Next}
use Rattle.game_hall.specs.declared.next.Next.TheVariants.{Calls as CallsOn, Says as SaysThen, Attaches, Silent}
use Rattle.game_hall.specs.declared.request.Request.{Request}
use Rattle.game_hall.specs.declared.request.Request.TheVariants.{Creating, Listing, Looking, Joining, Renaming, Leaving, Syncing, Acting}
use Rattle.game_sheet.specs.Viewer.{Viewer}
use Rattle.game_sheet.specs.declared.act.Bye.{Bye}
use Rattle.hall_history.proofs.Asking.{CallFits, NextFits, Stays, hears_stays, next_fits, next_stays, stays_at, stays_fits}
use Rattle.hall_history.proofs.Rooming.{is_same}
use Rattle.hall_history.specs.Adding.{IsPlain}
use Rattle.hall_history.specs.Placed.{is_at}
use Rattle.match_master.specs.Held.{is_starved}
use Rattle.match_master.proofs.StandsLaws.{starved_is}
use Rattle.room_desk.specs.History.{held}
use Rattle.room_history.specs.Presence.{after_attach as attached_by, after_end, attached_after}
use Rattle.room_history.specs.Room.{reply}
use Rattle.room_history.specs.declared.call.RoomCall.{RoomCall}
use Rattle.room_history.specs.declared.call.RoomCall.TheVariants as call
use Rattle.room_history.specs.declared.reply.RoomReply.{RoomReply}
use Rattle.room_history.specs.declared.reply.RoomReply.TheVariants as told_as
use Rattle.room_object.specs.Entry.{entry}
use Rattle.wire_json.specs.ClientReading.{client_read}
use Rattle.wire_json.specs.declared.protocol.Protocol.{Protocol}
use Rattle.session_driver.proofs.Steps.{line_settled, replied_settled}
use Rattle.session_driver.specs.Bench.{IsAtRest}
use Rattle.session_driver.specs.Calls.{Did, did}
use Rattle.session_driver.specs.Freeing.{Frees, FreesAt, freed_by}
use Rattle.session_driver.specs.Hearing.{Draws, Hears, HearsLine, HearsReply, Makes, Side, side}
use Rattle.session_pool.specs.Passes.{CallsDesk}
use Rattle.session_driver.specs.declared.tally.Tally.{Tally}
use Rattle.session_pool.specs.Passes.{Pass}
use Rattle.session_pool.specs.Placed.{AttachedBy, IsDone, IsIdle, is_in}
use Rattle.session_pool.specs.Taken.{IsTaken}
use Rattle.session_pool.specs.Turn.{Calls}
use Rattle.session_pool.proofs.Attaching.{called_attached, found_as_seen}
use Rattle.session_pool.proofs.Replies.{detach_frees, take_taken}

-- ---- what becomes of a core, whatever its rooms are

plain_after : (made : RoomCall GameKind) → IsPlain made → (before : Bool) (told : RoomReply) → attached_after before made told ≡ before
plain_after (call.Create game seats seed) h before told = refl
plain_after (call.Join serial seat name key) h before told = refl
plain_after (call.Rename serial seat key name) h before told = refl
plain_after (call.Leave serial seat key) h before told = refl
plain_after (call.Clear serial) h before told = absurd h
plain_after (call.Look serial) h before told = refl
plain_after (call.Attach serial viewer protocol) h before told = absurd h
plain_after (call.Submit s) h before told = refl
plain_after call.Take h before told = absurd h
plain_after call.Detach h before told = absurd h

after_attached : (told : RoomReply) → attached_by false told ≡ is_attached_reply told
after_attached (told_as.Created serial) = refl
after_attached told_as.Joined = refl
after_attached told_as.Renamed = refl
after_attached told_as.Left = refl
after_attached told_as.Cleared = refl
after_attached (told_as.Looked row) = refl
after_attached told_as.Attached = refl
after_attached (told_as.Verdict v) = refl
after_attached (told_as.Taken bytes end) = refl
after_attached told_as.Detached = refl
after_attached told_as.Busy = refl
after_attached told_as.BadSeats = refl
after_attached told_as.NoStart = refl
after_attached told_as.NoMatch = refl
after_attached told_as.NoSeat = refl
after_attached told_as.SeatTaken = refl
after_attached told_as.BadName = refl
after_attached told_as.AlreadyAttached = refl
after_attached told_as.Unauthorized = refl
after_attached told_as.NotAttached = refl
after_attached told_as.NoMemory = refl

abbrev sits : Bool → ℕ → Option ℕ
sits true room = Some room
sits false room = None

sits_far : (b : Bool) (room i : ℕ) → i ≢ room → is_at (sits b room) i ≡ is_at None i
sits_far true room i other = ne_eqb room i (λ e. other (sym e))
sits_far false room i other = refl

sits_near : (b : Bool) (room : ℕ) → b ≡ is_at (sits b room) room
sits_near true room = sym (is_same room)
sits_near false room = refl

sync_at : (c : Core GameKind) (room : ℕ) (r : RoomReply) → c.at ≡ None → (moved c (after_attach room r)).at ≡ sits (is_attached_reply r) room
sync_at c room r none = by (is_attached_reply r)
  where
    by : (b : Bool) → (moved c (if b then Attaches room else SaysThen (undone None r))).at ≡ sits b room
    by true = refl
    by false = none

-- a call that attaches is a sync's, in the room that it asks for, of a session that isn't attached; no call takes or frees
abbrev pub AskFits : ℕ → Option ℕ → Option (ℕ × RoomCall GameKind) → Option Request → Type 0
AskFits rooms at (Some asked) (Some request) = CallFits rooms at asked.0 asked.1 request
AskFits rooms at call request = Unit {0}

fits_moved : (rooms : ℕ) (c : Core GameKind) (x : Next GameKind) → NextFits rooms c.at x → AskFits rooms (moved c x).at (moved c x).call (moved c x).request
fits_moved rooms c (CallsOn room made request) h = h
fits_moved rooms c (SaysThen a) h = tt
fits_moved rooms c (Attaches room) h = tt
fits_moved rooms c Silent h = tt

rooms_moved : (c : Core GameKind) (x : Next GameKind) → (moved c x).rooms ≡ c.rooms
rooms_moved c (CallsOn room made request) = refl
rooms_moved c (SaysThen a) = refl
rooms_moved c (Attaches room) = refl
rooms_moved c Silent = refl

pass_moved : (c : Core GameKind) (x : Next GameKind) → (moved c x).pass ≡ c.pass
pass_moved c (CallsOn room made request) = refl
pass_moved c (SaysThen a) = refl
pass_moved c (Attaches room) = refl
pass_moved c Silent = refl

-- a request whose reply the core may want memory for is no sync
plain_where_wanted : (rooms : ℕ) (at : Option ℕ) (room : ℕ) (made : RoomCall GameKind) (request : Request) (r : RoomReply) → MayWantMemory request r → CallFits rooms at room made request → IsPlain made
plain_where_wanted rooms at room made (Creating game seats seed n) r wants fits = fits
plain_where_wanted rooms at room made (Listing game rows n) r wants fits = fits
plain_where_wanted rooms at room made Looking r wants fits = fits
plain_where_wanted rooms at room made (Joining name seat key) r wants fits = fits
plain_where_wanted rooms at room made (Renaming name seat) r wants fits = fits
plain_where_wanted rooms at room made (Leaving name seat) r wants fits = fits
plain_where_wanted rooms at room made (Syncing target) r wants fits = absurd wants
plain_where_wanted rooms at room made (Acting ticket) r wants fits = fits

same_request : (x y : Request) → ◌≡◌ {A = Option Request} (Some x) (Some y) → x ≡ y
same_request x y e = cc

fits_asked : (c : Core GameKind) (room : ℕ) (made : RoomCall GameKind) (request : Request) → c.call ≡ Some (room, made) → c.request ≡ Some request
    → AskFits c.rooms c.at c.call c.request → CallFits c.rooms c.at room made request
fits_asked c room made request is_call is_request fit =
    subst (λ q. AskFits c.rooms c.at (Some (room, made)) q) is_request (subst (λ k. AskFits c.rooms c.at k c.request) is_call fit)

-- what waits for the bench makes no call
bench_stays : (rooms : ℕ) (at : Option ℕ) (bench : Bench) (read : Result ClientMsg Fault) (n : Next GameKind) → Stays rooms at n → Stays rooms at (or_bench bench read n)
bench_stays rooms at Absent read n h = h
bench_stays rooms at Idle (Ok (line_as.Takeover name seat)) n h = tt
bench_stays rooms at Idle (Ok line_as.Games) n h = h
bench_stays rooms at Idle (Ok (line_as.Matches game)) n h = h
bench_stays rooms at Idle (Ok (line_as.Look name)) n h = h
bench_stays rooms at Idle (Ok (line_as.Create game seats)) n h = h
bench_stays rooms at Idle (Ok (line_as.Join name player seat)) n h = h
bench_stays rooms at Idle (Ok (line_as.Rename key name player seat)) n h = h
bench_stays rooms at Idle (Ok (line_as.Leave key name seat)) n h = h
bench_stays rooms at Idle (Ok (line_as.Sync name viewer protocol)) n h = h
bench_stays rooms at Idle (Ok (line_as.Act submission)) n h = h
bench_stays rooms at Idle (Err fault) n h = h
bench_stays rooms at (Wants name seat) read n h = h
bench_stays rooms at (Sought name seat) read n h = h

unstarved : (starved may : Bool) → (starved ≡ true → may ≡ true) → may ≡ false → starved ≡ false
unstarved true may h none = sym (h refl) ∙ none
unstarved false may h none = refl

-- a Take's reply hands out bytes, and an end or none; or the Take was refused
took_by : (P : RoomReply → Type 0) → ((bytes : List ℕ) → P (told_as.Taken bytes None)) → ((bytes : List ℕ) (bye : Bye) → P (told_as.Taken bytes (Some bye))) → P told_as.NoMemory
    → (r : RoomReply) → IsTaken r → P r
took_by P on over none (told_as.Taken bytes None) h = on bytes
took_by P on over none (told_as.Taken bytes (Some bye)) h = over bytes bye
took_by P on over none (told_as.Created serial) h = absurd h
took_by P on over none told_as.Joined h = absurd h
took_by P on over none told_as.Renamed h = absurd h
took_by P on over none told_as.Left h = absurd h
took_by P on over none told_as.Cleared h = absurd h
took_by P on over none (told_as.Looked row) h = absurd h
took_by P on over none told_as.Attached h = absurd h
took_by P on over none (told_as.Verdict v) h = absurd h
took_by P on over none told_as.Detached h = absurd h
took_by P on over none told_as.Busy h = absurd h
took_by P on over none told_as.BadSeats h = absurd h
took_by P on over none told_as.NoStart h = absurd h
took_by P on over none told_as.NoMatch h = absurd h
took_by P on over none told_as.NoSeat h = absurd h
took_by P on over none told_as.SeatTaken h = absurd h
took_by P on over none told_as.BadName h = absurd h
took_by P on over none told_as.AlreadyAttached h = absurd h
took_by P on over none told_as.Unauthorized h = absurd h
took_by P on over none told_as.NotAttached h = absurd h
took_by P on over none told_as.NoMemory h = none

-- what is asked of a reply holds of one that is want of memory
unless_starved : (r : RoomReply) → (is_starved r ≡ false → IsTaken r) → IsTaken r
unless_starved r served = on (is_starved r) refl
  where
    on : (b : Bool) → is_starved r ≡ b → IsTaken r
    on true e = subst IsTaken (sym (starved_is r e)) tt
    on false e = served e

took_far : (room i : ℕ) (core : Core GameKind) (r : RoomReply) → IsTaken r → core.at ≡ Some room → i ≢ room → is_at (freed_by call.Take r core).at i ≡ is_at core.at i
took_far room i core r h is other =
    took_by (λ r. is_at (freed_by call.Take r core).at i ≡ is_at core.at i) (λ bytes. refl) (λ bytes bye. sym (ap (λ o. is_at o i) is ∙ ne_eqb room i (λ e. other (sym e)))) refl r h

took_near : (room : ℕ) (core : Core GameKind) (r : RoomReply) → IsTaken r → core.at ≡ Some room → after_end (is_at core.at room) r ≡ is_at (freed_by call.Take r core).at room
took_near room core r h is = took_by (λ r. after_end (is_at core.at room) r ≡ is_at (freed_by call.Take r core).at room) (λ bytes. refl) (λ bytes bye. refl) refl r h

none_far : (room i : ℕ) (at : Option ℕ) → at ≡ Some room → i ≢ room → is_at None i ≡ is_at at i
none_far room i at is other = sym (ap (λ o. is_at o i) is ∙ ne_eqb room i (λ e. other (sym e)))

some_of : {A : Type 0} (o : Option A) → IsSome o → (x : A) × (o ≡ Some x)
some_of None is = absurd (cc)
some_of (Some x) is = (x, refl)

-- with the direct answer handed out, it is between two lines
pub idle_plain : (rooms : ℕ) (c : Core GameKind) → IsDone rooms c → IsAtRest c.bench → IsIdle rooms (plain c)
idle_plain rooms c done rests = record {
  done = record { rooms_are = done.rooms_are; few = done.few; uncalled = done.uncalled; closed = done.closed };
  written = refl;
  rests = rests;
}

idle_freed : (rooms : ℕ) (b : Bool) (c : Core GameKind) → IsIdle rooms c → IsIdle rooms (if b then c else released c)
idle_freed rooms true c idle = idle
idle_freed rooms false c idle = record {
  done = record { rooms_are = idle.done.rooms_are; few = idle.done.few; uncalled = idle.done.uncalled; closed = idle.done.closed };
  written = idle.written;
  rests = idle.rests;
}

sat_freed : (b : Bool) (c : Core GameKind) → (if b then c else released c).sat ≡ c.sat
sat_freed true c = refl
sat_freed false c = refl

pass_freed : (b : Bool) (c : Core GameKind) → (if b then c else released c).pass ≡ c.pass
pass_freed true c = refl
pass_freed false c = refl

-- ---- in rooms of these ways

module _ (may_refuse : RoomCall GameKind → Bool) where
  -- ---- one call

  -- by what a call makes of its own pass's attachment
  calls_attached : (passes after : List Pass) (made : Did) (at later : Option ℕ) → CallsDesk may_refuse passes made after → AttachedBy passes at
      → ((i : ℕ) → i ≢ made.room → is_at later i ≡ is_at at i) → attached_after (is_at at made.room) made.call made.reply ≡ is_at later made.room → AttachedBy after later
  calls_attached passes after made at later (p, seen, here, called, set, fed) by far near i d low =
      let within = slice_get_within passes made.room p here in
      let q = held p.desk p.number p.before seen in
      let many : length after ≡ length passes = ap length set ∙ length-set passes made.room q in
      dite (ℕ_discrete i made.room)
      (λ same.
      let at_q : slice_index_or after i d ≡ q = ap (λ xs. slice_index_or xs i d) set ∙ (ap (λ k. slice_index_or (slice_set passes made.room q) k d) same ∙ get_or-set_same passes made.room q d within) in
      let before : is_in p ≡ is_at at made.room = ap is_in (sym (get_or_from_slice_get passes made.room p d here)) ∙ by made.room d within in
      ap is_in at_q
      ∙ called_attached any_rules p.desk.object p.number made.call made.reply p.seen seen called
      ∙ ap (λ b. attached_after b made.call made.reply) before
      ∙ near
      ∙ ap (is_at later) (sym same))
      (λ other.
      let at_p : slice_index_or after i d ≡ slice_index_or passes i d = ap (λ xs. slice_index_or xs i d) set ∙ get_or-set_other passes made.room i q d other in
      ap is_in at_p ∙ (by i d (omega (arith, low, many)) ∙ sym (far i other)))

  plain_attached : (passes after : List Pass) (made : Did) (at : Option ℕ) → CallsDesk may_refuse passes made after → AttachedBy passes at → IsPlain made.call → AttachedBy after at
  plain_attached passes after made at calls by plain =
      calls_attached passes after made at at calls by (λ i other. refl) (plain_after made.call plain (is_at at made.room) made.reply)

  -- ---- a sync's call

  synced : (passes after : List Pass) (room serial : ℕ) (viewer : Viewer) (protocol : Protocol) (r : RoomReply)
      → CallsDesk may_refuse passes (did room (call.Attach serial viewer protocol) r) after → AttachedBy passes None → AttachedBy after (sits (is_attached_reply r) room)
  synced passes after room serial viewer protocol r calls by =
      calls_attached passes after (did room (call.Attach serial viewer protocol) r) None (sits (is_attached_reply r) room) calls by
      (λ i other. sits_far (is_attached_reply r) room i other) (after_attached r ∙ sits_near (is_attached_reply r) room)

  -- ---- the calls of a request

  -- what becomes of a core with its next call asked once its reply is heard
  module _ (passes after : List Pass) (c : Core GameKind) (room : ℕ) (made : RoomCall GameKind) (request : Request) (r : RoomReply)
      (calls : CallsDesk may_refuse passes (did room made r) after) (by : AttachedBy passes c.at) where
    abbrev core_then : Core GameKind
    core_then = moved (asked c) (next named c.rooms request r)

    plainly : IsPlain made → core_then.at ≡ c.at → AttachedBy after core_then.at
    plainly plain same = subst (AttachedBy after) (sym same) (plain_attached passes after (did room made r) c.at calls by plain)

    syncs_by : (target : ℕ) → request ≡ Syncing target → CallFits c.rooms c.at room made (Syncing target) → AttachedBy after core_then.at
    syncs_by target is fits =
        let attach = call.Attach fits.0.0 fits.0.1 fits.0.2 in
        let calls_it : CallsDesk may_refuse passes (did room attach r) after = subst (λ m. CallsDesk may_refuse passes (did room m r) after) fits.0.3 calls in
        let free : AttachedBy passes None = subst (AttachedBy passes) fits.3 by in
        let sat = synced passes after room fits.0.0 fits.0.1 fits.0.2 r calls_it free in
        let where_is : core_then.at ≡ sits (is_attached_reply r) room =
        ap (λ q. (moved (asked c) (next named c.rooms q r)).at) is ∙ sync_at (asked c) target r fits.3 ∙ ap (sits (is_attached_reply r)) (sym fits.1) in
        subst (AttachedBy after) (sym where_is) sat

  next_attached : (passes after : List Pass) (c : Core GameKind) (room : ℕ) (made : RoomCall GameKind) (request : Request) (r : RoomReply)
      → CallsDesk may_refuse passes (did room made r) after → AttachedBy passes c.at → CallFits c.rooms c.at room made request
      → AttachedBy after (moved (asked c) (next named c.rooms request r)).at
  next_attached passes after c room made (Creating game seats seed n) r calls by fits =
      plainly passes after c room made (Creating game seats seed n) r calls by fits (stays_at c.rooms c.at (asked c) _ (next_stays named c.rooms c.at (Creating game seats seed n) r tt))
  next_attached passes after c room made (Listing game rows n) r calls by fits =
      plainly passes after c room made (Listing game rows n) r calls by fits (stays_at c.rooms c.at (asked c) _ (next_stays named c.rooms c.at (Listing game rows n) r tt))
  next_attached passes after c room made Looking r calls by fits = plainly passes after c room made Looking r calls by fits refl
  next_attached passes after c room made (Joining name seat key) r calls by fits = plainly passes after c room made (Joining name seat key) r calls by fits refl
  next_attached passes after c room made (Renaming name seat) r calls by fits = plainly passes after c room made (Renaming name seat) r calls by fits refl
  next_attached passes after c room made (Leaving name seat) r calls by fits = plainly passes after c room made (Leaving name seat) r calls by fits refl
  next_attached passes after c room made (Syncing target) r calls by fits = syncs_by passes after c room made (Syncing target) r calls by target refl fits
  next_attached passes after c room made (Acting ticket) r calls by fits =
      plainly passes after c room made (Acting ticket) r calls by fits (stays_at c.rooms c.at (asked c) _ (next_stays named c.rooms c.at (Acting ticket) r tt))

  -- a core that heard something is over the same rooms, by the same pass, and attached as its passes are
  pub record StaysPlaced (rooms pass : ℕ) (after : List Pass) (core : Core GameKind) : Type 0 where
    pub rooms_are : core.rooms ≡ rooms
    pub pass_is : core.pass ≡ pass
    pub fits : AskFits rooms core.at core.call core.request
    pub attached : AttachedBy after core.at

  module _ (passes after : List Pass) (c new : Core GameKind) (room : ℕ) (made : RoomCall GameKind) (request : Request) (r : RoomReply)
      (is_request : c.request ≡ Some request) (by : AttachedBy passes c.at) (calls : CallsDesk may_refuse passes (did room made r) after) (fits : CallFits c.rooms c.at room made request) where
    heard_on : new ≡ answered named (asked c) r → StaysPlaced c.rooms c.pass after new
    heard_on is =
        let x = next named c.rooms request r in
        let same : new ≡ moved (asked c) x = is ∙ ap (λ q. replied named (asked c) q r) is_request in
        subst (StaysPlaced c.rooms c.pass after) (sym same) (record {
          rooms_are = rooms_moved (asked c) x;
          pass_is = pass_moved (asked c) x;
          fits = fits_moved c.rooms (asked c) x (next_fits named c.rooms c.at request r);
          attached = next_attached passes after c room made request r calls by fits;
        })

    heard_not : (q : Request) → new ≡ starved (asked c) None → c.request ≡ Some q → MayWantMemory q r → StaysPlaced c.rooms c.pass after new
    heard_not q is is_q wants =
        let same_q : q ≡ request = same_request q request (sym is_q ∙ is_request) in
        let plainly_made = plain_where_wanted c.rooms c.at room made request r (subst (λ x. MayWantMemory x r) same_q wants) fits in
        subst (StaysPlaced c.rooms c.pass after) (sym is) (record {
          rooms_are = refl;
          pass_is = refl;
          fits = tt;
          attached = plain_attached passes after (did room made r) c.at calls by plainly_made;
        })

  reply_heard : (passes after : List Pass) (c new : Core GameKind) (room : ℕ) (made : RoomCall GameKind) (request : Request) (r : RoomReply)
      → c.call ≡ Some (room, made) → c.request ≡ Some request → AskFits c.rooms c.at c.call c.request → AttachedBy passes c.at → CallsDesk may_refuse passes (did room made r) after → HearsReply (asked c) r new
      → StaysPlaced c.rooms c.pass after new
  reply_heard passes after c new room made request r is_call is_request fit by calls (inl is) =
      heard_on passes after c new room made request r is_request by calls (fits_asked c room made request is_call is_request fit) is
  reply_heard passes after c new room made request r is_call is_request fit by calls (inr (is, (q, is_q, wants))) =
      heard_not passes after c new room made request r is_request by calls (fits_asked c room made request is_call is_request fit) q is is_q wants

  -- ---- a line

  line_heard : (passes : List Pass) (line : List ℕ) (c new : Core GameKind) (before left : Draws) → HearsLine line c before new left → AttachedBy passes c.at → StaysPlaced c.rooms c.pass passes new
  line_heard passes line c new before left (inl h) by =
      let read = client_read line in
      let d : Core GameKind = record c { bench = bench_after c.bench read } in
      let heard = hears named c.rooms c.at read (next_action before.words).left before.seed in
      let x = or_bench c.bench read heard in
      let stays = bench_stays c.rooms c.at c.bench read heard (hears_stays named c.rooms c.at read (next_action before.words).left before.seed) in
      subst (StaysPlaced c.rooms c.pass passes) (sym h.0) (record {
        rooms_are = rooms_moved d x;
        pass_is = pass_moved d x;
        fits = fits_moved c.rooms d x (stays_fits c.rooms c.at x stays);
        attached = subst (AttachedBy passes) (sym (stays_at c.rooms c.at d x stays)) by;
      })
  line_heard passes line c new before left (inr h) by =
      subst (StaysPlaced c.rooms c.pass passes) (sym h.0) (record { rooms_are = refl; pass_is = refl; fits = tt; attached = by })

  -- ---- a Take, and the last Detach

  at_here : (passes : List Pass) (room : ℕ) (p : Pass) (at : Option ℕ) → slice_get passes room ≡ Some p → at ≡ Some room → AttachedBy passes at → is_in p ≡ true
  at_here passes room p at here is by =
      ap is_in (sym (get_or_from_slice_get passes room p p here)) ∙ by room p (slice_get_within passes room p here) ∙ ap (λ o. is_at o room) is ∙ is_same room

  -- the reply to a Take of an attached session
  taken : (passes after : List Pass) (room : ℕ) (at : Option ℕ) (r : RoomReply) → CallsDesk may_refuse passes (did room call.Take r) after → at ≡ Some room → AttachedBy passes at → IsTaken r
  taken passes after room at r (p, seen, here, called, set, fed) is by =
      unless_starved r (λ served.
      let h = called.between ++ p.seen in
      let attached_there = found_as_seen any_rules p.desk.object p.number call.Take r p.seen seen called ∙ at_here passes room p at here is by in
      let answer : r ≡ reply any_rules p.desk.object h (entry p.number call.Take false) = called.answered ∙ ap (λ b. reply any_rules p.desk.object h (entry p.number call.Take b)) served in
      subst IsTaken (sym answer) (take_taken any_rules p.desk.object h p.number attached_there))

  took : (passes after : List Pass) (room : ℕ) (core : Core GameKind) (r : RoomReply) → CallsDesk may_refuse passes (did room call.Take r) after → IsTaken r → core.at ≡ Some room → AttachedBy passes core.at
      → AttachedBy after (freed_by call.Take r core).at
  took passes after room core r calls is here by =
      calls_attached passes after (did room call.Take r) core.at (freed_by call.Take r core).at calls by (λ i other. took_far room i core r is here other) (took_near room core r is here)

  -- a Detach that is never refused frees its pass
  freed : may_refuse call.Detach ≡ false → (passes after : List Pass) (room : ℕ) (at : Option ℕ) (r : RoomReply) → CallsDesk may_refuse passes (did room call.Detach r) after → at ≡ Some room → AttachedBy passes at → AttachedBy after None
  freed never passes after room at r (p, seen, here, called, set, fed) is by =
      let h = called.between ++ p.seen in
      let served : is_starved r ≡ false = unstarved (is_starved r) (may_refuse call.Detach) fed never in
      let attached_there = found_as_seen any_rules p.desk.object p.number call.Detach r p.seen seen called ∙ at_here passes room p at here is by in
      let answer : r ≡ reply any_rules p.desk.object h (entry p.number call.Detach false) = called.answered ∙ ap (λ b. reply any_rules p.desk.object h (entry p.number call.Detach b)) served in
      let near : attached_after {X = GameKind} (is_at at room) call.Detach r ≡ false =
      ap (λ b. attached_after {X = GameKind} b call.Detach r) (ap (λ o. is_at o room) is ∙ is_same room)
      ∙ ap (λ x. attached_after {X = GameKind} true call.Detach x) answer
      ∙ detach_frees any_rules p.desk.object h p.number attached_there in
      calls_attached passes after (did room call.Detach r) at None (p, seen, here, called, set, fed) by (λ i other. none_far room i at is other) near

  -- ---- a core on the way from one line to the next

  -- a core that has its next call to make, or whose request is closed; it is attached as its passes are
  pub record GoesOn (rooms pass : ℕ) (after : List Pass) (core : Core GameKind) : Type 0 where
    pub rooms_are : core.rooms ≡ rooms
    pub pass_is : core.pass ≡ pass
    pub settled : IsSettled core.call core.request core.said
    pub fits : AskFits rooms core.at core.call core.request
    pub attached : AttachedBy after core.at

  goes : (rooms pass n : ℕ) (after : List Pass) (new : Core GameKind) → n ≡ rooms → StaysPlaced n pass after new → IsSettled new.call new.request new.said → GoesOn rooms pass after new
  goes rooms pass n after new e h settled = record {
    rooms_are = h.rooms_are ∙ e;
    pass_is = h.pass_is;
    settled = settled;
    fits = subst (λ m. AskFits m new.at new.call new.request) e h.fits;
    attached = h.attached;
  }

  next_goes_on : (rooms pass : ℕ) (passes after : List Pass) (c new : Core GameKind) (room : ℕ) (made : RoomCall GameKind) (r : RoomReply) → GoesOn rooms pass passes c → c.call ≡ Some (room, made)
      → CallsDesk may_refuse passes (did room made r) after → HearsReply (asked c) r new → GoesOn rooms pass after new
  next_goes_on rooms pass passes after c new room made r g is_call calls hears_it =
      let open_one : IsSome c.request × (c.said ≡ None) = subst (λ k. IsSettled k c.request c.said) is_call g.settled in
      let request = some_of c.request open_one.0 in
      let fits : AskFits c.rooms c.at c.call c.request = subst (λ m. AskFits m c.at c.call c.request) (sym g.rooms_are) g.fits in
      let stays = reply_heard passes after c new room made request.0 r is_call request.1 fits g.attached calls hears_it in
      subst (λ p. GoesOn rooms p after new) g.pass_is
      (goes rooms c.pass c.rooms after new g.rooms_are stays (replied_settled (asked c) request.0 r new open_one.1 request.1 hears_it))

  line_goes_on : (rooms : ℕ) (passes : List Pass) (line : List ℕ) (c new : Core GameKind) (before left : Draws) → IsIdle rooms c → AttachedBy passes c.at
      → HearsLine line c before new left → GoesOn rooms c.pass passes new
  line_goes_on rooms passes line c new before left idle by hears_it =
      goes rooms c.pass c.rooms passes new idle.done.rooms_are (line_heard passes line c new before left hears_it by) (line_settled line c before new left idle.written hears_it)

  calls_go_on : (rooms pass : ℕ) (s : Side (List Pass)) → GoesOn rooms pass s.rooms s.core → (all : List Did) (t : Side (List Pass)) → Makes (Calls may_refuse) s all t → GoesOn rooms pass t.rooms t.core
  calls_go_on rooms pass s g [] t e = subst (λ (x : Side (List Pass)). GoesOn rooms pass x.rooms x.core) (sym e) g
  calls_go_on rooms pass s g (made ∷ earlier) t (m, before, (wanted, called, heard_it)) =
      next_goes_on rooms pass m.rooms t.rooms m.core t.core made.room made.call made.reply (calls_go_on rooms pass s g earlier m before) wanted called heard_it

  -- where a session is whose line was heard
  pub record IsHeard (rooms pass : ℕ) (after : List Pass) (core : Core GameKind) : Type 0 where
    pub done : IsDone rooms core
    pub pass_is : core.pass ≡ pass
    pub attached : AttachedBy after core.at

  pub heard_on_line : (rooms : ℕ) (line : List ℕ) (s : Side (List Pass)) (before : Draws) (t : Side (List Pass)) (left : Draws) (tally : Tally) → IsIdle rooms s.core → AttachedBy s.rooms s.core.at
      → Hears (Calls may_refuse) line s before t left tally → IsHeard rooms s.core.pass t.rooms t.core
  heard_on_line rooms line s before t left tally idle by h =
      let g = calls_go_on rooms s.core.pass (side s.rooms h.core) (line_goes_on rooms s.rooms line s.core h.core before h.left idle by h.line_heard) h.runs.makes.all t h.runs.makes.made in
      record {
        done = record { rooms_are = g.rooms_are; few = idle.done.few; uncalled = h.runs.done; closed = h.runs.closed };
        pass_is = g.pass_is;
        attached = g.attached;
      }

  -- a Take leaves a session between two lines, attached as its passes are, and hands out what waited where it was attached
  pub record HasTaken (rooms : ℕ) (s : Side (List Pass)) (told : Option RoomReply) (t : Side (List Pass)) : Type 0 where
    pub idle : IsIdle rooms t.core
    pub pass_is : t.core.pass ≡ s.core.pass
    pub sat_is : t.core.sat ≡ s.core.sat
    pub attached : AttachedBy t.rooms t.core.at
    pub taken : IfSome told IsTaken

  pub has_taken : (rooms : ℕ) (s : Side (List Pass)) (told : Option RoomReply) (t : Side (List Pass)) → IsIdle rooms s.core → AttachedBy s.rooms s.core.at → Frees (Calls may_refuse) call.Take s told t → HasTaken rooms s told t
  has_taken rooms s told t idle by h = from s.core.at refl h
    where
      from : (at : Option ℕ) → s.core.at ≡ at → FreesAt (Calls may_refuse) call.Take at s told t → HasTaken rooms s told t
      from None e (none, stays) = subst (λ (x : Side (List Pass)). HasTaken rooms s told x) (sym stays) (record {
        idle = idle;
        pass_is = refl;
        sat_is = refl;
        attached = by;
        taken = subst (λ o. IfSome o IsTaken) (sym none) tt;
      })
      from (Some room) e (r, is, calls, core) =
          let taken_is = taken s.rooms t.rooms room s.core.at r calls e by in
          record {
            idle = subst (IsIdle rooms) (sym core) (idle_freed rooms (attached_after {X = GameKind} true call.Take r) s.core idle);
            pass_is = ap (λ (k : Core GameKind). k.pass) core ∙ pass_freed (attached_after {X = GameKind} true call.Take r) s.core;
            sat_is = ap (λ (k : Core GameKind). k.sat) core ∙ sat_freed (attached_after {X = GameKind} true call.Take r) s.core;
            attached = subst (λ (k : Core GameKind). AttachedBy t.rooms k.at) (sym core) (took s.rooms t.rooms room s.core r calls taken_is e by);
            taken = subst (λ o. IfSome o IsTaken) (sym is) taken_is;
          }

  -- after a Detach no pass is attached
  pub record HasLeft (s t : Side (List Pass)) : Type 0 where
    pub pass_is : t.core.pass ≡ s.core.pass
    pub sat_is : t.core.sat ≡ s.core.sat
    pub free : AttachedBy t.rooms None

  pub has_left : may_refuse call.Detach ≡ false → (s : Side (List Pass)) (told : Option RoomReply) (t : Side (List Pass)) → AttachedBy s.rooms s.core.at → Frees (Calls may_refuse) call.Detach s told t → HasLeft s t
  has_left never s told t by h = from s.core.at refl h
    where
      from : (at : Option ℕ) → s.core.at ≡ at → FreesAt (Calls may_refuse) call.Detach at s told t → HasLeft s t
      from None e (none, stays) = subst (λ (x : Side (List Pass)). HasLeft s x) (sym stays) (record { pass_is = refl; sat_is = refl; free = subst (AttachedBy s.rooms) e by })
      from (Some room) e (r, is, calls, core) = record {
        pass_is = ap (λ (k : Core GameKind). k.pass) core ∙ pass_freed (attached_after {X = GameKind} true call.Detach r) s.core;
        sat_is = ap (λ (k : Core GameKind). k.sat) core ∙ sat_freed (attached_after {X = GameKind} true call.Detach r) s.core;
        free = freed never s.rooms t.rooms room s.core.at r calls e by;
      }
