-- Along every history whose calls are of their types, each match is grounded, and each session has a seat and tickets of their types.
use Rattle.std.proofs.Common.{◌≡◌, ◌<◌, ◌≤◌, ◌+◌, ◌==◌, ◌&&◌, ℕ, suc, Bool, true, false, nat_le, if◌then◌else◌, List, [], ◌∷◌, ◌++◌, Option, Some, None, Result, Ok, Err, arith, refl, sym, subst}
use Rattle.std.proofs.lemmas.Bool.{and_parts}
use Rattle.std.proofs.lemmas.Bool.Decides.{nat_tests}
use Rattle.game_sheet.specs.Viewer.{Viewer, seat_of}
use Rattle.game_sheet.specs.declared.refusal.GameRule.{GameRule}
use Rattle.game_sheet.specs.declared.sheet.Sheet.{Sheet}
use Rattle.game_trait.specs.Lawful.{Lawful}
use Rattle.game_trait.specs.Rules.{Rules}
use Rattle.phase_flow.specs.Action.{begin}
use Rattle.phase_flow.specs.IsGood.{IsGood}
use Rattle.phase_flow.specs.Reached.{Reached}
use Rattle.reducer.specs.Accepted.{Accepted}
use Rattle.room_history.specs.Does.{Room, room_after, room_after_want, with_new_match, with_match, with_left_seat, with_removed_if, with_session, with_fate, with_one, after_submission, new_session, is_left, left_where, with_cleared}
use Rattle.room_history.specs.Item.{GameAnswer, Item, Left, Detached, Starved, Submitted, Took}
use Rattle.room_history.specs.Match.{Match, number_of, table_of}
use Rattle.room_history.specs.Piece.{State, Open, Ended, Closed}
use Rattle.room_history.specs.Reply.{Fate, Unheard, Turned, Goes, fate, fate_in, game_answer, last_serial, seats_fit, new_match, created_match, named_match, reseated_match, attached_match}
use Rattle.room_history.specs.Room.{match_of, room_of, standing}
use Rattle.room_history.specs.Rule.{has_key}
use Rattle.room_history.specs.Session.{Session, handful, is_detached, is_looking, latest_state, number_in, session_state, with_item, with_latest}
use Rattle.room_history.proofs.Names.{after_action, after_leaving, after_want, fate_by, all_matches, match_in, after_detach, after_take}
use Rattle.room_history.specs.Shown.{snapshot}
use Rattle.room_history.specs.Verdict.{first_reason, game_reason, is_named, match_accepting, public_reason, with_act}
use Rattle.room_history.specs.declared.call.RoomCall.{RoomCall}
use Rattle.room_history.specs.declared.call.RoomCall.TheVariants.{Create, Join, Rename, Leave, Look, Attach, Submit, Take, Detach, Clear}
use Rattle.room_history.specs.declared.reply.RoomReply.{RoomReply}
use Rattle.room_history.specs.declared.reply.RoomReply.TheVariants as reply
use Rattle.room_history.proofs.Growth.{grown}
use Rattle.room_history.proofs.Keeps.{Reseated, reseated, named_stays}
use Rattle.room_history.proofs.RuleLaws.{IsAdmitted, or_none, public_admits}
use Rattle.room_object.specs.Entry.{Entry}
use Rattle.seat_roster.specs.Roster.{is_empty, join, leave, rename}
use Rattle.sheet_json.specs.Seats.{IsWithin}
use Rattle.wire_json.specs.Asking.{AskedFits}
use Rattle.wire_json.specs.Resolve.{act_of}
use Rattle.wire_json.specs.declared.protocol.Protocol.{Protocol}
use Rattle.wire_json.specs.declared.reason.Reason.{Reason}
use Rattle.wire_json.specs.declared.submission.Submission.{Submission}
use Rattle.game_sheet.specs.declared.act.Act.{Act}
use Rattle.convergence.specs.Calls.{CallFits, CallsFit}
use Rattle.convergence.specs.Grounded.{IsGrounded}
use Rattle.convergence.proofs.Grounds.{StaysSound, good}
use Rattle.convergence.proofs.Plains.{asked_fits, may_be_seat}

-- ---- sessions

abbrev pub TicketsFit : List Item → Type 0
TicketsFit [] = Unit {0}
TicketsFit (Submitted n s answer ∷ own) = (s.ticket ≤ 4294967295) × TicketsFit own
TicketsFit (item ∷ own) = TicketsFit own

pub record SessionFits (s : Session) : Type 0 where
  pub seat : IsWithin 255 (seat_of s.viewer)
  pub tickets : TicketsFit s.own

abbrev pub AllFit : List Session → Type 0
AllFit [] = Unit {0}
AllFit (s ∷ before) = SessionFits s × AllFit before

latest_fits : (change : Session → Session) → ((s : Session) → SessionFits s → SessionFits (change s)) → (l : List Session) → AllFit l → AllFit (with_latest change l)
latest_fits change h [] a = tt
latest_fits change h (s ∷ before) a = (h s a.0, a.1)

one_fits : (b : Bool) (change : Session → Session) → ((s : Session) → SessionFits s → SessionFits (change s)) → (l : List Session) → AllFit l → AllFit (if b then with_latest change l else l)
one_fits true change h l a = latest_fits change h l a
one_fits false change h l a = a

submitted_fits : (n : ℕ) (sub : Submission) (answer : GameAnswer) → sub.ticket ≤ 4294967295 → (s : Session) → SessionFits s → SessionFits (with_item (Submitted n sub answer) s)
submitted_fits n sub answer t s f = by (is_detached s.own)
  where
    by : (b : Bool) → SessionFits (if b then s else record s { own = Submitted n sub answer ∷ s.own })
    by true = f
    by false = record { seat = f.seat; tickets = (t, f.tickets) }

took_fits : (s : Session) → SessionFits s → SessionFits (after_take s)
took_fits s f = by (is_detached s.own)
  where
    by : (b : Bool) → SessionFits (if b then record s { sent = s.sent ++ handful s } else record (record s { sent = s.sent ++ handful s }) { own = Took (number_in s.sight) ∷ s.own })
    by true = record { seat = f.seat; tickets = f.tickets }
    by false = record { seat = f.seat; tickets = f.tickets }

detached_fits : (s : Session) → SessionFits s → SessionFits (after_detach s)
detached_fits s f = by (is_detached s.own)
  where
    by : (b : Bool) → SessionFits (if b then s else record s { own = Detached (number_in s.sight) ∷ s.own })
    by true = f
    by false = record { seat = f.seat; tickets = f.tickets }

left_fits : (seat : ℕ) (gone : Bool) (s : Session) → SessionFits s → SessionFits (after_leaving seat gone s)
left_fits seat gone s f = by (is_looking s.own && is_left seat gone s.viewer)
  where
    by : (b : Bool) → SessionFits (if b then record s { own = Left (number_in s.sight) ∷ s.own } else s)
    by true = record { seat = f.seat; tickets = f.tickets }
    by false = f

module _ {X G : Type 0} (rules : X → Rules G) (room : ℕ) where
  shown_fits : (m : Match X G) (s : Session) → SessionFits s → SessionFits (after_action rules room m s)
  shown_fits m s f = by (is_looking s.own)
    where
      by : (b : Bool) → SessionFits (if b then record s { sight = snapshot rules m (seat_of s.viewer) ∷ s.sight } else s)
      by true = record { seat = f.seat; tickets = f.tickets }
      by false = f

  begun_fits : (b : Bool) (m : Match X G) (viewer : Viewer) (protocol : Protocol) (l : List Session) → IsWithin 255 (seat_of viewer) → AllFit l → AllFit (if b then new_session rules room m viewer protocol ∷ l else l)
  begun_fits true m viewer protocol l w a = (record { seat = w; tickets = tt }, a)
  begun_fits false m viewer protocol l w a = a

-- ---- matches

few_more : (n : ℕ) → n ≤ 4096 → (n == 4096) ≡ false → suc n ≤ 4096
few_more n h e = let more : n + 1 ≤ 4096 = grind (arith, nat_tests, h, e) in omega arith

serial_more : (n : ℕ) → n ≤ 18446744073709551615 → (n == 18446744073709551615) ≡ false → n + 1 ≤ 18446744073709551615
serial_more n h e = grind (arith, nat_tests, h, e)

at_least : (a b : ℕ) → nat_le a b ≡ true → a ≤ b
at_least a b h = grind (arith, nat_tests)

module _ {X G : Type 0} (rules : X → Rules G) (room : ℕ) (low : room ≤ 63) (lawful : (game : X) → Lawful (rules game)) (stays : StaysSound rules) where
  abbrev GroundedWhere : Option (Match X G) → Type 0
  GroundedWhere None = Unit {0}
  GroundedWhere (Some m) = IsGrounded rules room m

  abbrev AllGrounded : List (Match X G) → Type 0
  AllGrounded [] = Unit {0}
  AllGrounded (m ∷ ms) = IsGrounded rules room m × AllGrounded ms

  -- ---- Create

  abbrev MadeFits : Result (Match X G) RoomReply → Type 0
  MadeFits (Ok m) = IsGrounded rules room m × (m.serial ≤ last_serial)
  MadeFits (Err why) = Unit {0}

  made : (serials : ℕ) (game : X) (seats : ℕ) (seed : List ℕ) (x : Result (Reached G) GameRule) → begin (rules game) seats seed ≡ x → serials + 1 ≤ last_serial
      → (rules game).sheet.min_seats ≤ seats → seats ≤ (rules game).sheet.max_seats → MadeFits (new_match rules (serials + 1) game seats seed x)
  made serials game seats seed (Ok first) e few least most =
      (record { name = (low, omega arith, omega arith); least = least; most = most; begun = e; acts = tt; logged = tt; few = omega arith }, few)
  made serials game seats seed (Err why) e few least most = tt

  seated : (serials : ℕ) (game : X) (seats : ℕ) (seed : List ℕ) (b : Bool) → seats_fit (rules game).sheet seats ≡ b → serials + 1 ≤ last_serial
      → MadeFits (if b then new_match rules (serials + 1) game seats seed (begin (rules game) seats seed) else Err reply.BadSeats)
  seated serials game seats seed true e few =
      let both = and_parts (nat_le (rules game).sheet.min_seats seats) (nat_le seats (rules game).sheet.max_seats) e in
      made serials game seats seed (begin (rules game) seats seed) refl few (at_least (rules game).sheet.min_seats seats both.0) (at_least seats (rules game).sheet.max_seats both.1)
  seated serials game seats seed false e few = tt

  not_last : (serials : ℕ) (game : X) (seats : ℕ) (seed : List ℕ) (b : Bool) → (serials == last_serial) ≡ b → serials ≤ last_serial
      → MadeFits (if b then Err reply.Busy else (if seats_fit (rules game).sheet seats then new_match rules (serials + 1) game seats seed (begin (rules game) seats seed) else Err reply.BadSeats))
  not_last serials game seats seed true e few = tt
  not_last serials game seats seed false e few = seated serials game seats seed (seats_fit (rules game).sheet seats) refl (serial_more serials few e)

  created : (serials : ℕ) (st : Option (Match X G)) (game : X) (seats : ℕ) (seed : List ℕ) → serials ≤ last_serial → MadeFits (created_match rules serials st game seats seed)
  created serials (Some m) game seats seed few = tt
  created serials None game seats seed few = not_last serials game seats seed (serials == last_serial) refl few

  -- ---- Join, Rename, Leave

  reseated_grounded : (st : Option (Match X G)) (n : Match X G) → Reseated rules room st (Ok n) → GroundedWhere st → IsGrounded rules room n
  reseated_grounded None n f g = absurd f
  reseated_grounded (Some m) n f g =
      subst (IsGrounded rules room) (sym f.1) (record { name = g.name; least = g.least; most = g.most; begun = g.begun; acts = g.acts; logged = g.logged; few = g.few })

  -- ---- Submit

  abbrev FateFits : Fate X G → Type 0
  FateFits (Goes n) = IsGrounded rules room n
  FateFits other = Unit {0}

  with_deed : (m : Match X G) (c : Option ℕ) (o : Option Act) (seat : ℕ) (act : Act) → c ≡ Some seat → o ≡ Some act → with_act rules m c o ≡ grown m (record { seat = seat; act = act })
  with_deed m c o seat act p q = rw (p, q) refl

  accepts : (m : Match X G) (viewer : Viewer) (s : Submission) → public_reason rules room m viewer s ≡ None → IsGrounded rules room m → AskedFits s.asked → IsGrounded rules room (match_accepting rules m viewer s)
  accepts m viewer s e g w =
      let sheet : Sheet = (rules m.game).sheet in
      let i : IsAdmitted sheet (table_of rules m).ctx (number_of m) (seat_of viewer) s.asked
      = public_admits sheet (table_of rules m).ctx (number_of m) (is_named room m.serial s.name) (seat_of viewer) (has_key viewer s.key) s.asked s.number e in
      let a : Accepted = record { seat = i.seat; act = i.act } in
      let grows : match_accepting rules m viewer s ≡ grown m a = with_deed m (seat_of viewer) (act_of sheet s.asked) i.seat i.act i.viewer_is i.act_is in
      let now : IsGood (rules m.game) m.seats (number_of m) _ (table_of rules m) = good rules room lawful stays m g m.accepted g.acts in
      let known = asked_fits sheet s.asked i.act w i.act_is in
      let here : i.seat < m.seats = subst (λ k. i.seat < k) now.seats (may_be_seat sheet (number_of m) (table_of rules m).ctx (table_of rules m).active i.seat now.sound i.active) in
      subst (IsGrounded rules room) (sym grows)
      (record { name = g.name; least = g.least; most = g.most; begun = g.begun; acts = (here, known.0, g.acts); logged = (known.1, g.logged); few = few_more (number_of m) g.few i.below })

  judged : (m : Match X G) (viewer : Viewer) (s : Submission) (o : Option Reason) → first_reason rules room m viewer s ≡ o → IsGrounded rules room m → AskedFits s.asked → FateFits (fate_by rules room m viewer s o)
  judged m viewer s (Some reason) e g w = tt
  judged m viewer s None e g w = accepts m viewer s (or_none (public_reason rules room m viewer s) (game_reason rules m viewer s) e).0 g w

  heard : (st : Option (Match X G)) (state : State) (viewer : Viewer) (s : Submission) → GroundedWhere st → AskedFits s.asked → FateFits (fate_in rules room st state viewer s)
  heard (Some m) Open viewer s g w = judged m viewer s (first_reason rules room m viewer s) refl g w
  heard (Some m) (Ended why) viewer s g w = tt
  heard (Some m) Closed viewer s g w = tt
  heard None state viewer s g w = tt

  fated : (st : Option (Match X G)) (l : List Session) (s : Submission) → GroundedWhere st → AskedFits s.asked → FateFits (fate rules room st l s)
  fated st [] s g w = tt
  fated st (c ∷ before) s g w = heard st (session_state c) c.viewer s g w

  -- ---- rooms

  record Known (r : Room X G) : Type 0 where
    pub serials : r.serials ≤ last_serial
    pub standing : GroundedWhere r.standing
    pub removed : AllGrounded r.removed
    pub sessions : (q : ℕ) → AllFit (r.sessions q)

  known_made : (r : Room X G) (result : Result (Match X G) RoomReply) → MadeFits result → Known r → Known (with_new_match r result)
  known_made r (Ok m) f k = record { serials = f.1; standing = f.0; removed = k.removed; sessions = k.sessions }
  known_made r (Err why) f k = k

  known_match : (r : Room X G) (result : Result (Match X G) RoomReply) → Reseated rules room r.standing result → Known r → Known (with_match r result)
  known_match r (Ok m) f k = record { serials = k.serials; standing = reseated_grounded r.standing m f k.standing; removed = k.removed; sessions = k.sessions }
  known_match r (Err why) f k = k

  known_removed : (gone : Bool) (r : Room X G) (m : Match X G) (sessions : ℕ → List Session) → IsGrounded rules room m → Known r → ((q : ℕ) → AllFit (sessions q)) → Known (with_removed_if gone m (record r { sessions = sessions }))
  known_removed true r m sessions g k a = record { serials = k.serials; standing = tt; removed = (g, k.removed); sessions = a }
  known_removed false r m sessions g k a = record { serials = k.serials; standing = g; removed = k.removed; sessions = a }

  known_left : (r : Room X G) (result : Result (Match X G) RoomReply) (seat : ℕ) → Reseated rules room r.standing result → Known r → Known (with_left_seat seat r result)
  known_left r (Ok m) seat f k =
      known_removed (is_empty m.roster) r m (λ q. with_latest (after_leaving seat (is_empty m.roster)) (r.sessions q)) (reseated_grounded r.standing m f k.standing) k
      (λ q. latest_fits (after_leaving seat (is_empty m.roster)) (left_fits seat (is_empty m.roster)) (r.sessions q) (k.sessions q))
  known_left r (Err why) seat f k = k

  known_cleared : (r : Room X G) (result : Result (Match X G) RoomReply) → Reseated rules room r.standing result → Known r → Known (with_cleared r result)
  known_cleared r (Ok m) f k =
      known_removed true r m (λ q. with_latest (left_where true) (r.sessions q)) (reseated_grounded r.standing m f k.standing) k (λ q. latest_fits (left_where true) (left_fits 0 true) (r.sessions q) (k.sessions q))
  known_cleared r (Err why) f k = k

  known_session : (r : Room X G) (result : Result (Match X G) RoomReply) (pass : ℕ) (viewer : Viewer) (protocol : Protocol) → IsWithin 255 (seat_of viewer) → Known r → Known (with_session rules room pass viewer protocol r result)
  known_session r (Ok m) pass viewer protocol w k =
      record { serials = k.serials; standing = k.standing; removed = k.removed; sessions = λ q. begun_fits rules room (pass == q) m viewer protocol (r.sessions q) w (k.sessions q) }
  known_session r (Err why) pass viewer protocol w k = k

  known_one : (r : Room X G) (pass : ℕ) (change : Session → Session) → ((s : Session) → SessionFits s → SessionFits (change s)) → Known r → Known (with_one pass change r)
  known_one r pass change h k =
      record { serials = k.serials; standing = k.standing; removed = k.removed; sessions = λ q. one_fits (pass == q) change h (r.sessions q) (k.sessions q) }

  known_fate : (r : Room X G) (f : Fate X G) → FateFits f → Known r → Known (with_fate rules room r f)
  known_fate r Unheard f k = k
  known_fate r (Turned n reason) f k = k
  known_fate r (Goes n) f k =
      record { serials = k.serials; standing = f; removed = k.removed; sessions = λ q. latest_fits (after_action rules room n) (shown_fits rules room n) (r.sessions q) (k.sessions q) }

  submission_fits : (st : Option (Match X G)) (s : Submission) → s.ticket ≤ 4294967295 → (c : Session) → SessionFits c → SessionFits (after_submission rules room st s c)
  submission_fits st s t c f = submitted_fits (number_in c.sight) s (game_answer rules room st (session_state c) c.viewer s) t c f

  known_call : (r : Room X G) (pass : ℕ) (call : RoomCall X) → CallFits call → Known r → Known (room_after rules room r pass call)
  known_call r pass (Create game seats seed) w k = known_made r (created_match rules r.serials r.standing game seats seed) (created r.serials r.standing game seats seed k.serials) k
  known_call r pass (Join serial seat name key) w k = known_match r (reseated_match (named_match r.standing serial) (λ roster. join roster seat name key)) (reseated rules room r.standing serial (λ roster. join roster seat name key)) k
  known_call r pass (Rename serial seat key name) w k = known_match r (reseated_match (named_match r.standing serial) (λ roster. rename roster seat key name)) (reseated rules room r.standing serial (λ roster. rename roster seat key name)) k
  known_call r pass (Leave serial seat key) w k = known_left r (reseated_match (named_match r.standing serial) (λ roster. leave roster seat key)) seat (reseated rules room r.standing serial (λ roster. leave roster seat key)) k
  known_call r pass (Clear serial) w k = known_cleared r (named_match r.standing serial) (named_stays rules room r.standing serial) k
  known_call r pass (Look serial) w k = k
  known_call r pass (Attach serial viewer protocol) w k = known_session r (attached_match r.standing (latest_state (r.sessions pass)) serial viewer) pass viewer protocol w k
  known_call r pass (Submit s) w k =
      known_fate (with_one pass (after_submission rules room r.standing s) r) (fate rules room r.standing (r.sessions pass) s) (fated r.standing (r.sessions pass) s k.standing w.0)
      (known_one r pass (after_submission rules room r.standing s) (submission_fits r.standing s w.1) k)
  known_call r pass Take w k = known_one r pass after_take took_fits k
  known_call r pass Detach w k = known_one r pass after_detach detached_fits k

  known_want : (r : Room X G) (pass : ℕ) (call : RoomCall X) → CallFits call → Known r → Known (room_after_want rules room r pass call)
  known_want r pass (Create game seats seed) w k = k
  known_want r pass (Join serial seat name key) w k = k
  known_want r pass (Rename serial seat key name) w k = k
  known_want r pass (Leave serial seat key) w k = k
  known_want r pass (Clear serial) w k = k
  known_want r pass (Look serial) w k = k
  known_want r pass (Attach serial viewer protocol) w k = k
  known_want r pass (Submit s) w k = known_one r pass (after_want rules room s) (λ c f. submitted_fits (number_in c.sight) s Starved w.1 c f) k
  known_want r pass Take w k = k
  known_want r pass Detach w k = k

  known_by : (b : Bool) (r : Room X G) (pass : ℕ) (call : RoomCall X) → CallFits call → Known r → Known (if b then room_after_want rules room r pass call else room_after rules room r pass call)
  known_by true r pass call w k = known_want r pass call w k
  known_by false r pass call w k = known_call r pass call w k

  known : (h : List (Entry (RoomCall X))) → CallsFit h → Known (room_of rules room h)
  known [] f = record { serials = omega arith; standing = tt; removed = tt; sessions = λ q. tt }
  known (e ∷ h) f = known_by e.starved (room_of rules room h) e.pass e.call f.0 (known h f.1)

  -- ---- so for each match, and each session

  some_match : (m n : Match X G) → Some m ≡ Some n → m ≡ n
  some_match m n e = cc

  none_match : (m : Match X G) → None ≡ Some m → ⊥
  none_match m e = cc

  among_by : (b : Bool) (serial : ℕ) (n : Match X G) (ms : List (Match X G)) (m : Match X G) → IsGrounded rules room n → (match_in serial ms ≡ Some m → IsGrounded rules room m)
      → (if b then Some n else match_in serial ms) ≡ Some m → IsGrounded rules room m
  among_by true serial n ms m g later e = subst (IsGrounded rules room) (some_match n m e) g
  among_by false serial n ms m g later e = later e

  among : (serial : ℕ) (ms : List (Match X G)) (m : Match X G) → AllGrounded ms → match_in serial ms ≡ Some m → IsGrounded rules room m
  among serial [] m a e = absurd (none_match m e)
  among serial (n ∷ ms) m a e = among_by (n.serial == serial) serial n ms m a.0 (among serial ms m a.1) e

  all_grounded : (st : Option (Match X G)) (removed : List (Match X G)) → GroundedWhere st → AllGrounded removed → AllGrounded (all_matches st removed)
  all_grounded None removed g a = a
  all_grounded (Some m) removed g a = (g, a)

  pub grounded : (h : List (Entry (RoomCall X))) → CallsFit h → (serial : ℕ) (m : Match X G) → match_of rules room h serial ≡ Some m → IsGrounded rules room m
  grounded h f serial m e =
      let k : Known (room_of rules room h) = known h f in
      among serial (all_matches (standing rules room h) (room_of rules room h).removed) m (all_grounded (standing rules room h) (room_of rules room h).removed k.standing k.removed) e

  pub standing_grounded : (h : List (Entry (RoomCall X))) → CallsFit h → (m : Match X G) → standing rules room h ≡ Some m → IsGrounded rules room m
  standing_grounded h f m e = subst GroundedWhere e (known h f).standing

  pub sessions_fit : (h : List (Entry (RoomCall X))) → CallsFit h → (pass : ℕ) → AllFit ((room_of rules room h).sessions pass)
  sessions_fit h f pass = (known h f).sessions pass
