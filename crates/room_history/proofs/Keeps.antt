-- What holds of a room after every history, and how each entry leads its sessions on.
use Rattle.std.proofs.Common.{◌≡◌, ◌⊎◌, inl, inr, suc, ℕ, ◌==◌, Bool, true, false, ◌&&◌, if◌then◌else◌, List, [], ◌∷◌, ◌++◌, Option, Some, None, Result, Ok, Err, refl, sym, ap, ◌∙◌, subst, arith}
use Rattle.std.proofs.lemmas.Bool.Decides.{nat_tests}
use Rattle.game_trait.specs.Rules.{Rules}
use Rattle.room_object.specs.Entry.{Entry}
use Rattle.player_sight.specs.SnapshotData.{Snap}
use Rattle.reducer.specs.Accepted.{Accepted as Deed}
use Rattle.seat_roster.specs.Player.{Seats}
use Rattle.seat_roster.specs.Roster.{is_empty, join, rename, leave}
use Rattle.seat_roster.specs.declared.refusal.RosterNo.{RosterNo}
use Rattle.wire_json.specs.declared.protocol.Protocol.{Protocol}
use Rattle.wire_json.specs.declared.reason.Reason.{Reason}
use Rattle.room_history.specs.Course.{Grows, IsOpen, SameView}
use Rattle.room_history.specs.Does.{Room, after_submission, is_left, new_session, room_after, room_after_want, with_each, with_fate, with_left_seat, with_match, with_new_match, with_one, with_removed_if, with_session, left_where, with_cleared}
use Rattle.room_history.specs.Item.{Accepted, Detached, GameAnswer, Left, Refused, Starved, Submitted, Unasked}
use Rattle.room_history.specs.Match.{Match}
use Rattle.room_history.specs.Piece.{Closed, Ended, Open, State, state_of}
use Rattle.room_history.specs.Reply.{Fate, Goes, Turned, Unheard, attached_match, created_match, fate, fate_in, game_answer, named_match, open_match, reseated_match}
use Rattle.room_history.specs.Room.{room_of}
use Rattle.room_history.specs.Session.{Session, is_detached, is_looking, latest_state, number_in, session_state, stream_of, with_item, with_latest}
use Rattle.room_history.proofs.Names.{after_action, after_leaving, after_want, fate_by, lets_in, answer_by, after_detach, after_take}
use Rattle.room_history.specs.Shown.{snapshot, snapshots_of}
use Rattle.room_history.specs.Verdict.{first_reason, game_reason, match_accepting, public_reason}
use Rattle.game_sheet.specs.Viewer.{Viewer, seat_of}
use Rattle.room_history.specs.declared.call.RoomCall.{RoomCall}
use Rattle.room_history.specs.declared.call.RoomCall.TheVariants.{Create, Join, Rename, Leave, Look, Attach, Submit, Take, Detach, Clear}
use Rattle.room_history.specs.declared.reply.RoomReply.{RoomReply}
use Rattle.room_history.specs.declared.reply.RoomReply.TheVariants as reply
use Rattle.wire_json.specs.declared.submission.Submission.{Submission}
use Rattle.room_history.proofs.Cutting.{grows_same}
use Rattle.room_history.proofs.Growth.{accept_grows}
use Rattle.room_history.proofs.Growth.{grown}
use Rattle.room_history.proofs.Sessions.{Good, Onward, stays, plus_item, with_snap, submitted_onward, detached_onward, left_onward, taken_onward, shown_onward, accepted_onward}
use Rattle.std.specs.Option.{option_or, option_map_or}

no_both : false ≡ true → ⊥
no_both h = cc

-- a pass's sessions go on: the stream of the latest one grows, or another one begins
abbrev pub Further : List Session → List Session → Type 0
Further [] [] = Unit {0}
Further [] (t ∷ after) = after ≡ []
Further (s ∷ before) [] = ⊥
Further (s ∷ before) (t ∷ after) = (SameView s t × Grows (stream_of s) (stream_of t) × (after ≡ before)) ⊎ (after ≡ s ∷ before)

module _ {X G : Type 0} (rules : X → Rules G) (room : ℕ) where
  -- a session that looks at a match has been shown the present snapshot last
  pub record Fits (m : Match X G) (s : Session) : Type 0 where
    pub name : s.name ≡ record { room = room; serial = m.serial }
    pub sheet : s.sheet ≡ (rules m.game).sheet
    pub before : List Snap
    pub top : s.sight ≡ snapshot rules m (seat_of s.viewer) ∷ before
    pub many : ℕ
    pub all : s.sight ≡ snapshots_of rules m (seat_of s.viewer) many

  abbrev pub FitsWhere : Option (Match X G) → Session → Type 0
  FitsWhere None s = is_looking s.own ≡ false
  FitsWhere (Some m) s = is_looking s.own ≡ true → Fits m s

  abbrev pub AllGood : List Session → Type 0
  AllGood [] = Unit {0}
  AllGood (s ∷ before) = Good s × AllGood before

  pub record Head (standing : Option (Match X G)) (s : Session) (before : List Session) : Type 0 where
    pub good : Good s
    pub fits : FitsWhere standing s
    pub others : AllGood before

  abbrev pub Listed : Option (Match X G) → List Session → Type 0
  Listed standing [] = Unit {0}
  Listed standing (s ∷ before) = Head standing s before

  pub record Kept (r : Room X G) : Type 0 where
    pub all : (pass : ℕ) → Listed r.standing (r.sessions pass)

  pub record Leads (standing : Option (Match X G)) (old new : List Session) : Type 0 where
    pub kept : Listed standing new
    pub further : Further old new

  same_further : (l : List Session) → Further l l
  same_further [] = tt
  same_further (s ∷ before) = inl (record { name = refl; sheet = refl; viewer = refl; protocol = refl }, grows_same (stream_of s), refl)

  same_leads : (st : Option (Match X G)) (l : List Session) → Listed st l → Leads st l l
  same_leads st l k = record { kept = k; further = same_further l }

  on : (st after : Option (Match X G)) (s t : Session) (before : List Session) → Head st s before → Onward s t → FitsWhere after t → Leads after (s ∷ before) (t ∷ before)
  on st after s t before k o f = record { kept = record { good = o.good; fits = f; others = k.others }; further = inl (o.view, o.grows, refl) }

  -- Create
  abbrev pub Fresh : Option (Match X G) → Result (Match X G) RoomReply → Type 0
  Fresh None result = Unit {0}
  Fresh (Some m) (Ok n) = ⊥
  Fresh (Some m) (Err why) = Unit {0}

  pub fresh : (st : Option (Match X G)) (serials : ℕ) (game : X) (seats : ℕ) (seed : List ℕ) → Fresh st (created_match rules serials st game seats seed)
  fresh None serials game seats seed = tt
  fresh (Some m) serials game seats seed = tt

  fresh_listed : (st : Option (Match X G)) (m : Match X G) (l : List Session) → Fresh st (Ok m) → Listed st l → Listed (Some m) l
  fresh_listed st m [] f k = tt
  fresh_listed None m (s ∷ before) f k = record { good = k.good; fits = λ h. absurd (no_both (sym k.fits ∙ h)); others = k.others }
  fresh_listed (Some n) m (s ∷ before) f k = absurd f

  made_leads : (r : Room X G) (q : ℕ) (result : Result (Match X G) RoomReply) → Fresh r.standing result → Listed r.standing (r.sessions q) → Leads (with_new_match r result).standing (r.sessions q) ((with_new_match r result).sessions q)
  made_leads r q (Ok m) f k = record { kept = fresh_listed r.standing m (r.sessions q) f k; further = same_further (r.sessions q) }
  made_leads r q (Err why) f k = same_leads r.standing (r.sessions q) k

  -- Join, Rename, Leave: other players at the seats
  abbrev pub Reseated : Option (Match X G) → Result (Match X G) RoomReply → Type 0
  Reseated st (Err why) = Unit {0}
  Reseated None (Ok m) = ⊥
  Reseated (Some n) (Ok m) = (roster : Seats) × (m ≡ record n { roster = roster })

  reseated_by : (m : Match X G) (b : Bool) (change : Seats → Result Seats RosterNo) (result : Result Seats RosterNo) → change m.roster ≡ result → Reseated (Some m) (reseated_match (if b then Ok m else Err reply.NoMatch) change)
  reseated_by m true change (Ok roster) e = rw e (roster, refl)
  reseated_by m true change (Err why) e = rw e tt
  reseated_by m false change result e = tt

  pub reseated : (st : Option (Match X G)) (serial : ℕ) (change : Seats → Result Seats RosterNo) → Reseated st (reseated_match (named_match st serial) change)
  reseated None serial change = tt
  reseated (Some m) serial change = reseated_by m (m.serial == serial) change (change m.roster) refl

  fits_seated : (n m : Match X G) (roster : Seats) → m ≡ record n { roster = roster } → (s : Session) → Fits n s → Fits m s
  fits_seated n m roster e s f = subst (λ x. Fits x s) (sym e) (record { name = f.name; sheet = f.sheet; before = f.before; top = f.top; many = f.many; all = f.all })

  seated_listed : (st : Option (Match X G)) (m : Match X G) (l : List Session) → Reseated st (Ok m) → Listed st l → Listed (Some m) l
  seated_listed st m [] f k = tt
  seated_listed None m (s ∷ before) f k = absurd f
  seated_listed (Some n) m (s ∷ before) f k = record { good = k.good; fits = λ h. fits_seated n m f.0 f.1 s (k.fits h); others = k.others }

  changed_leads : (r : Room X G) (q : ℕ) (result : Result (Match X G) RoomReply) → Reseated r.standing result → Listed r.standing (r.sessions q) → Leads (with_match r result).standing (r.sessions q) ((with_match r result).sessions q)
  changed_leads r q (Ok m) f k = record { kept = seated_listed r.standing m (r.sessions q) f k; further = same_further (r.sessions q) }
  changed_leads r q (Err why) f k = same_leads r.standing (r.sessions q) k

  -- Leave
  abbrev standing_without : Bool → Match X G → Option (Match X G)
  standing_without true m = None
  standing_without false m = Some m

  abbrev left_if : Bool → Session → Session
  left_if b s = if b then plus_item s (Left (number_in s.sight)) else s

  -- whoever looks on does so at a match that still stands
  left_fits : (gone looking : Bool) (n m : Match X G) (roster : Seats) (seat : ℕ) (s : Session) → m ≡ record n { roster = roster } → is_looking s.own ≡ looking → (is_looking s.own ≡ true → Fits n s)
      → FitsWhere (standing_without gone m) (left_if (looking && is_left seat gone s.viewer) s)
  left_fits true true n m roster seat s e l f = refl
  left_fits true false n m roster seat s e l f = l
  left_fits false false n m roster seat s e l f = λ h. absurd (no_both (sym l ∙ h))
  left_fits false true n m roster seat s e l f = by (is_left seat false s.viewer)
    where
      by : (b : Bool) → FitsWhere (Some m) (left_if b s)
      by true = λ h. absurd (no_both h)
      by false = λ h. fits_seated n m roster e s (f h)

  left_if_onward : (b : Bool) (s : Session) → Good s → Onward s (left_if b s)
  left_if_onward true s g = left_onward s g
  left_if_onward false s g = stays s g

  left_head : (gone : Bool) (n m : Match X G) (roster : Seats) (seat : ℕ) (s : Session) (before : List Session) → m ≡ record n { roster = roster } → Head (Some n) s before
      → Leads (standing_without gone m) (s ∷ before) (after_leaving seat gone s ∷ before)
  left_head gone n m roster seat s before e k =
      on (Some n) (standing_without gone m) s (after_leaving seat gone s) before k (left_if_onward (is_looking s.own && is_left seat gone s.viewer) s k.good)
      (left_fits gone (is_looking s.own) n m roster seat s e refl k.fits)

  left_list : (gone : Bool) (st : Option (Match X G)) (m : Match X G) (seat : ℕ) (l : List Session) → Reseated st (Ok m) → Listed st l → Leads (standing_without gone m) l (with_latest (after_leaving seat gone) l)
  left_list gone st m seat [] f k = record { kept = tt; further = tt }
  left_list gone None m seat (s ∷ before) f k = absurd f
  left_list gone (Some n) m seat (s ∷ before) f k = left_head gone n m f.0 seat s before f.1 k

  removed_leads : (gone : Bool) (m : Match X G) (r : Room X G) (q : ℕ) (old : List Session) → Leads (standing_without gone m) old (r.sessions q) → Leads (with_removed_if gone m r).standing old ((with_removed_if gone m r).sessions q)
  removed_leads true m r q old l = l
  removed_leads false m r q old l = l

  left_leads : (r : Room X G) (q seat : ℕ) (result : Result (Match X G) RoomReply) → Reseated r.standing result → Listed r.standing (r.sessions q) → Leads (with_left_seat seat r result).standing (r.sessions q) ((with_left_seat seat r result).sessions q)
  left_leads r q seat (Ok m) f k = removed_leads (is_empty m.roster) m (with_each (after_leaving seat (is_empty m.roster)) r) q (r.sessions q) (left_list (is_empty m.roster) r.standing m seat (r.sessions q) f k)
  left_leads r q seat (Err why) f k = same_leads r.standing (r.sessions q) k

  -- Clear: all leave, as when the last player does
  pub named_stays : (st : Option (Match X G)) (serial : ℕ) → Reseated st (named_match st serial)
  named_stays None serial = tt
  named_stays (Some m) serial = by (m.serial == serial)
    where
      by : (b : Bool) → Reseated (Some m) (if b then Ok m else Err reply.NoMatch)
      by true = (m.roster, refl)
      by false = tt

  cleared_leads : (r : Room X G) (q : ℕ) (result : Result (Match X G) RoomReply) → Reseated r.standing result → Listed r.standing (r.sessions q) → Leads (with_cleared r result).standing (r.sessions q) ((with_cleared r result).sessions q)
  cleared_leads r q (Ok m) f k = left_list true r.standing m 0 (r.sessions q) f k
  cleared_leads r q (Err why) f k = same_leads r.standing (r.sessions q) k

  -- Attach
  abbrev Stands : Option (Match X G) → Result (Match X G) RoomReply → Type 0
  Stands st (Ok m) = st ≡ Some m
  Stands st (Err why) = Unit {0}

  stands_named : (m : Match X G) (b c : Bool) (viewer : Viewer) → lets_in m.roster viewer ≡ c → Stands (Some m) (open_match viewer (if b then Ok m else Err reply.NoMatch))
  stands_named m true true viewer e = rw e refl
  stands_named m true false viewer e = rw e tt
  stands_named m false c viewer e = tt

  stands : (st : Option (Match X G)) (state : State) (serial : ℕ) (viewer : Viewer) → Stands st (attached_match st state serial viewer)
  stands None Closed serial viewer = tt
  stands (Some m) Closed serial viewer = stands_named m (m.serial == serial) (lets_in m.roster viewer) viewer refl
  stands st Open serial viewer = tt
  stands st (Ended why) serial viewer = tt

  begun_good : (m : Match X G) (viewer : Viewer) (protocol : Protocol) → Good (new_session rules room m viewer protocol)
  unfolding Rattle.room_history.specs.Stream.stream
  begun_good m viewer protocol = record { order = tt; came = tt; tied = refl; goes_on = λ h. refl }

  all_good : (st : Option (Match X G)) (l : List Session) → Listed st l → AllGood l
  all_good st [] k = tt
  all_good st (s ∷ before) k = (k.good, k.others)

  begins : (l : List Session) (t : Session) → Further l (t ∷ l)
  begins [] t = refl
  begins (s ∷ before) t = inr refl

  begun_leads : (b : Bool) (m : Match X G) (viewer : Viewer) (protocol : Protocol) (l : List Session) → Listed (Some m) l → Leads (Some m) l (if b then new_session rules room m viewer protocol ∷ l else l)
  begun_leads true m viewer protocol l k = record {
    kept = record { good = begun_good m viewer protocol; fits = λ h. record { name = refl; sheet = refl; before = []; top = refl; many = 0; all = refl }; others = all_good (Some m) l k };
    further = begins l (new_session rules room m viewer protocol);
  }
  begun_leads false m viewer protocol l k = same_leads (Some m) l k

  session_leads : (r : Room X G) (q pass : ℕ) (viewer : Viewer) (protocol : Protocol) (result : Result (Match X G) RoomReply) → Stands r.standing result → Listed r.standing (r.sessions q)
      → Leads (with_session rules room pass viewer protocol r result).standing (r.sessions q) ((with_session rules room pass viewer protocol r result).sessions q)
  session_leads r q pass viewer protocol (Ok m) e k =
      subst (λ st. Leads st (r.sessions q) (if pass == q then new_session rules room m viewer protocol ∷ r.sessions q else r.sessions q)) (sym e)
      (begun_leads (pass == q) m viewer protocol (r.sessions q) (subst (λ st. Listed st (r.sessions q)) e k))
  session_leads r q pass viewer protocol (Err why) e k = same_leads r.standing (r.sessions q) k

  -- Take and Detach, and a submission that nobody hears
  one_leads : (b : Bool) (st : Option (Match X G)) (f : Session → Session) (l : List Session) → ((s : Session) → Good s → Onward s (f s)) → ((s : Session) → FitsWhere st s → FitsWhere st (f s)) → Listed st l
      → Leads st l (if b then with_latest f l else l)
  one_leads false st f l o g k = same_leads st l k
  one_leads true st f [] o g k = same_leads st [] k
  one_leads true st f (s ∷ before) o g k = on st st s (f s) before k (o s k.good) (g s k.fits)

  fits_again : (st : Option (Match X G)) (s t : Session) → t.name ≡ s.name → t.sheet ≡ s.sheet → t.viewer ≡ s.viewer → t.sight ≡ s.sight → is_looking t.own ≡ is_looking s.own → FitsWhere st s → FitsWhere st t
  fits_again None s t a b c d e f = e ∙ f
  fits_again (Some m) s t a b c d e f = λ h. again (f (sym e ∙ h))
    where
      again : Fits m s → Fits m t
      again x = record { name = a ∙ x.name; sheet = b ∙ x.sheet; before = x.before; top = d ∙ x.top ∙ ap (λ v. snapshot rules m (seat_of v) ∷ x.before) (sym c); many = x.many; all = d ∙ x.all ∙ ap (λ v. snapshots_of rules m (seat_of v) x.many) (sym c) }

  fits_took : (st : Option (Match X G)) (s : Session) → FitsWhere st s → FitsWhere st (after_take s)
  fits_took st s f = by (is_detached s.own) refl
    where
      by : (b : Bool) → is_detached s.own ≡ b → FitsWhere st (after_take s)
      by true c = rw c (fits_again st s (record s { sent = s.sent ++ [] }) refl refl refl refl refl f)
      by false c = fits_again st s (after_take s) (rw c refl) (rw c refl) (rw c refl) (rw c refl) (rw c refl) f

  fits_unseeing : (st : Option (Match X G)) (s : Session) → is_looking s.own ≡ false → FitsWhere st s
  fits_unseeing None s l = l
  fits_unseeing (Some m) s l = λ h. absurd (no_both (sym l ∙ h))

  fits_detached : (st : Option (Match X G)) (s : Session) → FitsWhere st s → FitsWhere st (after_detach s)
  fits_detached st s f = by (is_detached s.own)
    where
      by : (b : Bool) → FitsWhere st (if b then s else plus_item s (Detached (number_in s.sight)))
      by true = f
      by false = fits_unseeing st (plus_item s (Detached (number_in s.sight))) refl

  fits_submitted : (st : Option (Match X G)) (s : Session) (n : ℕ) (sub : Submission) (answer : GameAnswer) → FitsWhere st s → FitsWhere st (with_item (Submitted n sub answer) s)
  fits_submitted st s n sub answer f = by (is_detached s.own)
    where
      by : (b : Bool) → FitsWhere st (if b then s else plus_item s (Submitted n sub answer))
      by true = f
      by false = fits_again st s (plus_item s (Submitted n sub answer)) refl refl refl refl refl f

  -- Submit
  abbrev stands_after : Fate X G → Option (Match X G) → Option (Match X G)
  stands_after (Goes m) st = Some m
  stands_after other st = st

  abbrev pub list_after : Fate X G → List Session → List Session
  list_after (Goes m) l = with_latest (after_action rules room m) l
  list_after other l = l

  pub fate_list : (r : Room X G) (pass : ℕ) (change : Session → Session) (f : Fate X G) (q : ℕ)
      → (with_fate rules room (with_one pass change r) f).sessions q ≡ list_after f (if pass == q then with_latest change (r.sessions q) else r.sessions q)
  fate_list r pass change Unheard q = refl
  fate_list r pass change (Turned n reason) q = refl
  fate_list r pass change (Goes m) q = refl

  fate_leads : (r : Room X G) (f : Fate X G) (q : ℕ) (old : List Session) → Leads (stands_after f r.standing) old (list_after f (r.sessions q)) → Leads (with_fate rules room r f).standing old ((with_fate rules room r f).sessions q)
  fate_leads r Unheard q old l = l
  fate_leads r (Turned n reason) q old l = l
  fate_leads r (Goes m) q old l = l

  quiet_head : (st : Option (Match X G)) (c : Session) (before : List Session) → Head st c before → (sub : Submission) (answer : GameAnswer) → Onward c (with_item (Submitted (number_in c.sight) sub answer) c)
      → Leads st (c ∷ before) (with_item (Submitted (number_in c.sight) sub answer) c ∷ before)
  quiet_head st c before k sub answer o = on st st c (with_item (Submitted (number_in c.sight) sub answer) c) before k o (fits_submitted st c (number_in c.sight) sub answer k.fits)

  not_closed : (b : Bool) (state : State) → (if b then Closed else state) ≡ Open → b ≡ false
  not_closed true state e = absurd (subst (λ st. IsOpen st → ⊥) (sym (sym e)) (λ h. h) tt)
  not_closed false state e = refl

  accepted_head : (m : Match X G) (a : Deed) (c : Session) (before : List Session) (sub : Submission) → Head (Some m) c before → session_state c ≡ Open
      → Leads (Some (grown m a)) (c ∷ before) (after_action rules room (grown m a) (with_item (Submitted (number_in c.sight) sub Accepted) c) ∷ before)
  accepted_head m a c before sub k e =
      let closed : is_detached c.own ≡ false = not_closed (is_detached c.own) (state_of (stream_of c)) e in
      let l : is_looking c.own ≡ true = k.good.goes_on (subst IsOpen (sym e) tt) in
      let f : Fits m c = k.fits l in
      let o : Onward c (with_snap (plus_item c (Submitted (number_in c.sight) sub Accepted)) (snapshot rules (grown m a) (seat_of c.viewer)))
      = accepted_onward c k.good (snapshot rules m (seat_of c.viewer)) (snapshot rules (grown m a) (seat_of c.viewer)) f.before f.top sub (omega arith) l in
      rw (closed, l) (on (Some m) (Some (grown m a)) c (with_snap (plus_item c (Submitted (number_in c.sight) sub Accepted)) (snapshot rules (grown m a) (seat_of c.viewer))) before k o
      (λ h. record { name = f.name; sheet = f.sheet; before = c.sight; top = refl; many = suc f.many; all = ap (λ l. snapshot rules (grown m a) (seat_of c.viewer) ∷ l) f.all }))

  own_live : (m : Match X G) (c : Session) (before : List Session) (sub : Submission) → Head (Some m) c before → session_state c ≡ Open → (p g : Option Reason) → public_reason rules room m c.viewer sub ≡ p → game_reason rules m c.viewer sub ≡ g
      → Leads (stands_after (fate_by rules room m c.viewer sub (option_or p g)) (Some m)) (c ∷ before)
      (list_after (fate_by rules room m c.viewer sub (option_or p g)) (with_item (Submitted (number_in c.sight) sub (option_map_or (λ reason. Unasked) p (answer_by g))) c ∷ before))
  own_live m c before sub k e (Some r) g pe ge = quiet_head (Some m) c before k sub Unasked (submitted_onward c k.good sub Unasked refl)
  own_live m c before sub k e None (Some r) pe ge = quiet_head (Some m) c before k sub (Refused r) (submitted_onward c k.good sub (Refused r) refl)
  own_live m c before sub k e None None pe ge =
      let grows : (a : Deed) × (match_accepting rules m c.viewer sub ≡ grown m a) = accept_grows rules room m c.viewer sub (rw (pe, ge) refl) in
      subst (λ n. Leads (Some n) (c ∷ before) (after_action rules room n (with_item (Submitted (number_in c.sight) sub Accepted) c) ∷ before)) (sym grows.1) (accepted_head m grows.0 c before sub k e)

  own_head : (st : Option (Match X G)) (c : Session) (before : List Session) (sub : Submission) → Head st c before → (state : State) → session_state c ≡ state
      → Leads (stands_after (fate_in rules room st state c.viewer sub) st) (c ∷ before) (list_after (fate_in rules room st state c.viewer sub) (with_item (Submitted (number_in c.sight) sub (game_answer rules room st state c.viewer sub)) c ∷ before))
  own_head (Some m) c before sub k Open e = own_live m c before sub k e (public_reason rules room m c.viewer sub) (game_reason rules m c.viewer sub) refl refl
  own_head (Some m) c before sub k (Ended why) e = quiet_head (Some m) c before k sub Unasked (submitted_onward c k.good sub Unasked refl)
  own_head (Some m) c before sub k Closed e = quiet_head (Some m) c before k sub Unasked (submitted_onward c k.good sub Unasked refl)
  own_head None c before sub k Open e = quiet_head None c before k sub Unasked (submitted_onward c k.good sub Unasked refl)
  own_head None c before sub k (Ended why) e = quiet_head None c before k sub Unasked (submitted_onward c k.good sub Unasked refl)
  own_head None c before sub k Closed e = quiet_head None c before k sub Unasked (submitted_onward c k.good sub Unasked refl)

  own_list : (st : Option (Match X G)) (l : List Session) (sub : Submission) → Listed st l → Leads (stands_after (fate rules room st l sub) st) l (list_after (fate rules room st l sub) (with_latest (after_submission rules room st sub) l))
  own_list st [] sub k = same_leads st [] k
  own_list st (c ∷ before) sub k = own_head st c before sub k (session_state c) refl

  -- another pass's submission
  pub record GoesFrom (st : Option (Match X G)) (n : Match X G) : Type 0 where
    pub m : Match X G
    pub a : Deed
    pub stood : st ≡ Some m
    pub is : n ≡ grown m a

  abbrev pub FateFrom : Option (Match X G) → Fate X G → Type 0
  FateFrom st (Goes n) = GoesFrom st n
  FateFrom st other = Unit {0}

  from_live : (m : Match X G) (viewer : Viewer) (sub : Submission) (o : Option Reason) → first_reason rules room m viewer sub ≡ o → FateFrom (Some m) (fate_by rules room m viewer sub o)
  from_live m viewer sub (Some r) e = tt
  from_live m viewer sub None e =
      let grows : (a : Deed) × (match_accepting rules m viewer sub ≡ grown m a) = accept_grows rules room m viewer sub e in
      record { m = m; a = grows.0; stood = refl; is = grows.1 }

  from_heard : (st : Option (Match X G)) (state : State) (viewer : Viewer) (sub : Submission) → FateFrom st (fate_in rules room st state viewer sub)
  from_heard (Some m) Open viewer sub = from_live m viewer sub (first_reason rules room m viewer sub) refl
  from_heard (Some m) (Ended why) viewer sub = tt
  from_heard (Some m) Closed viewer sub = tt
  from_heard None state viewer sub = tt

  pub fate_from : (st : Option (Match X G)) (l : List Session) (sub : Submission) → FateFrom st (fate rules room st l sub)
  fate_from st [] sub = tt
  fate_from st (c ∷ before) sub = from_heard st (session_state c) c.viewer sub

  shown_head : (m : Match X G) (a : Deed) (s : Session) (before : List Session) → Head (Some m) s before → Leads (Some (grown m a)) (s ∷ before) (after_action rules room (grown m a) s ∷ before)
  shown_head m a s before k = by (is_looking s.own) refl
    where
      n : Match X G
      n = grown m a

      by : (b : Bool) → is_looking s.own ≡ b → Leads (Some (grown m a)) (s ∷ before) (after_action rules room (grown m a) s ∷ before)
      by true l =
          let f : Fits m s = k.fits l in
          rw l (on (Some m) (Some (grown m a)) s (with_snap s (snapshot rules (grown m a) (seat_of s.viewer))) before k
          (shown_onward s k.good (snapshot rules m (seat_of s.viewer)) (snapshot rules (grown m a) (seat_of s.viewer)) f.before f.top (omega arith) l)
          (λ h. record { name = f.name; sheet = f.sheet; before = s.sight; top = refl; many = suc f.many; all = ap (λ l. snapshot rules (grown m a) (seat_of s.viewer) ∷ l) f.all }))
      by false l = rw l (on (Some m) (Some (grown m a)) s s before k (stays s k.good) (fits_unseeing (Some (grown m a)) s l))

  shown_list : (st : Option (Match X G)) (n : Match X G) (l : List Session) → GoesFrom st n → Listed st l → Leads (Some n) l (with_latest (after_action rules room n) l)
  shown_list st n [] g k = record { kept = tt; further = tt }
  shown_list st n (s ∷ before) g k =
      subst (λ x. Leads (Some x) (s ∷ before) (after_action rules room x s ∷ before)) (sym g.is) (shown_head g.m g.a s before (subst (λ x. Head x s before) g.stood k))

  other_list : (st : Option (Match X G)) (f : Fate X G) (l : List Session) → FateFrom st f → Listed st l → Leads (stands_after f st) l (list_after f l)
  other_list st Unheard l g k = same_leads st l k
  other_list st (Turned n reason) l g k = same_leads st l k
  other_list st (Goes n) l g k = shown_list st n l g k

  pass_list : (b : Bool) (st : Option (Match X G)) (caller l : List Session) (sub : Submission) → (b ≡ true → caller ≡ l) → Listed st l
      → Leads (stands_after (fate rules room st caller sub) st) l (list_after (fate rules room st caller sub) (if b then with_latest (after_submission rules room st sub) l else l))
  pass_list false st caller l sub e k = other_list st (fate rules room st caller sub) l (fate_from st caller sub) k
  pass_list true st caller l sub e k =
      subst (λ x. Leads (stands_after (fate rules room st x sub) st) l (list_after (fate rules room st x sub) (with_latest (after_submission rules room st sub) l))) (sym (e refl)) (own_list st l sub k)

  pub same_pass : (p q : ℕ) → (p == q) ≡ true → p ≡ q
  same_pass p q h = grind (arith, nat_tests)

  -- every call, and want of memory
  call_leads : (r : Room X G) → Kept r → (pass : ℕ) (call : RoomCall X) (q : ℕ) → Leads (room_after rules room r pass call).standing (r.sessions q) ((room_after rules room r pass call).sessions q)
  call_leads r k pass (Create game seats seed) q = made_leads r q (created_match rules r.serials r.standing game seats seed) (fresh r.standing r.serials game seats seed) (k.all q)
  call_leads r k pass (Join serial seat name key) q = changed_leads r q (reseated_match (named_match r.standing serial) (λ roster. join roster seat name key)) (reseated r.standing serial (λ roster. join roster seat name key)) (k.all q)
  call_leads r k pass (Rename serial seat key name) q = changed_leads r q (reseated_match (named_match r.standing serial) (λ roster. rename roster seat key name)) (reseated r.standing serial (λ roster. rename roster seat key name)) (k.all q)
  call_leads r k pass (Leave serial seat key) q = left_leads r q seat (reseated_match (named_match r.standing serial) (λ roster. leave roster seat key)) (reseated r.standing serial (λ roster. leave roster seat key)) (k.all q)
  call_leads r k pass (Look serial) q = same_leads r.standing (r.sessions q) (k.all q)
  call_leads r k pass (Attach serial viewer protocol) q =
      session_leads r q pass viewer protocol (attached_match r.standing (latest_state (r.sessions pass)) serial viewer) (stands r.standing (latest_state (r.sessions pass)) serial viewer) (k.all q)
  call_leads r k pass (Submit s) q =
      fate_leads (with_one pass (after_submission rules room r.standing s) r) (fate rules room r.standing (r.sessions pass) s) q (r.sessions q)
      (pass_list (pass == q) r.standing (r.sessions pass) (r.sessions q) s (λ h. ap r.sessions (same_pass pass q h)) (k.all q))
  call_leads r k pass Take q = one_leads (pass == q) r.standing after_take (r.sessions q) taken_onward (fits_took r.standing) (k.all q)
  call_leads r k pass Detach q = one_leads (pass == q) r.standing (after_detach) (r.sessions q) detached_onward (fits_detached r.standing) (k.all q)
  call_leads r k pass (Clear serial) q = cleared_leads r q (named_match r.standing serial) (named_stays r.standing serial) (k.all q)

  starved_leads : (r : Room X G) → Kept r → (pass : ℕ) (call : RoomCall X) (q : ℕ) → Leads (room_after_want rules room r pass call).standing (r.sessions q) ((room_after_want rules room r pass call).sessions q)
  starved_leads r k pass (Create game seats seed) q = same_leads r.standing (r.sessions q) (k.all q)
  starved_leads r k pass (Join serial seat name key) q = same_leads r.standing (r.sessions q) (k.all q)
  starved_leads r k pass (Rename serial seat key name) q = same_leads r.standing (r.sessions q) (k.all q)
  starved_leads r k pass (Leave serial seat key) q = same_leads r.standing (r.sessions q) (k.all q)
  starved_leads r k pass (Look serial) q = same_leads r.standing (r.sessions q) (k.all q)
  starved_leads r k pass (Attach serial viewer protocol) q = same_leads r.standing (r.sessions q) (k.all q)
  starved_leads r k pass (Submit s) q =
      one_leads (pass == q) r.standing (after_want rules room s) (r.sessions q) (λ c g. submitted_onward c g s Starved refl) (λ c f. fits_submitted r.standing c (number_in c.sight) s Starved f) (k.all q)
  starved_leads r k pass Take q = same_leads r.standing (r.sessions q) (k.all q)
  starved_leads r k pass Detach q = same_leads r.standing (r.sessions q) (k.all q)
  starved_leads r k pass (Clear serial) q = same_leads r.standing (r.sessions q) (k.all q)

  step_by : (b : Bool) (r : Room X G) → Kept r → (pass : ℕ) (call : RoomCall X) (q : ℕ)
      → Leads (if b then room_after_want rules room r pass call else room_after rules room r pass call).standing (r.sessions q) ((if b then room_after_want rules room r pass call else room_after rules room r pass call).sessions q)
  step_by true r k pass call q = starved_leads r k pass call q
  step_by false r k pass call q = call_leads r k pass call q

  pub kept : (h : List (Entry (RoomCall X))) → Kept (room_of rules room h)
  kept [] = record { all = λ pass. tt }
  kept (e ∷ h) = record { all = λ q. (step_by e.starved (room_of rules room h) (kept h) e.pass e.call q).kept }

  -- by each entry the streams grow
  pub leads_on : (h : List (Entry (RoomCall X))) (e : Entry (RoomCall X)) (q : ℕ) → Further ((room_of rules room h).sessions q) ((room_of rules room (e ∷ h)).sessions q)
  leads_on h e q = (step_by e.starved (room_of rules room h) (kept h) e.pass e.call q).further
