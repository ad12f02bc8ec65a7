-- What a session was shown is what its match came to, over every history.
use Rattle.std.proofs.Common.{◌≡◌, ◌⊎◌, inl, inr, ◌≤◌, ℕ, ◌+◌, ◌==◌, Bool, true, false, ◌&&◌, if◌then◌else◌, List, [], ◌∷◌, ◌++◌, Option, Some, None, Result, Ok, Err, refl, sym, ap, ◌∙◌, subst, append_assoc, arith}
use Rattle.std.proofs.lemmas.Bool.Decides.{nat_tests}
use Rattle.game_trait.specs.Rules.{Rules}
use Rattle.game_sheet.specs.declared.refusal.GameRule.{GameRule}
use Rattle.phase_flow.specs.Action.{begin}
use Rattle.phase_flow.specs.Reached.{Reached}
use Rattle.reducer.specs.Accepted.{Accepted as Deed}
use Rattle.room_object.specs.Entry.{Entry}
use Rattle.seat_roster.specs.Roster.{is_empty, join, rename, leave}
use Rattle.wire_json.specs.declared.protocol.Protocol.{Protocol}
use Rattle.room_history.specs.Course.{SameView}
use Rattle.room_history.specs.Does.{Room, room_after, room_after_want, with_new_match, with_match, with_left_seat, with_removed_if, with_session, with_fate, with_one, after_submission, new_session, is_left, left_where, with_cleared}
use Rattle.room_history.specs.Item.{Item, Submitted, Took, Left, Detached, Starved}
use Rattle.room_history.specs.Match.{Match}
use Rattle.room_history.specs.Reply.{Fate, Unheard, Turned, Goes, fate, game_answer, last_serial, seats_fit, new_match, created_match, named_match, reseated_match, attached_match}
use Rattle.room_history.specs.Room.{room_of, session}
use Rattle.room_history.specs.Session.{Session, handful, is_detached, is_looking, number_in, session_state, with_item, with_latest, latest_state}
use Rattle.room_history.proofs.Names.{after_action, after_leaving, after_want, match_in, all_matches, after_take, after_detach}
use Rattle.room_history.specs.Shown.{snapshot, snapshots}
use Rattle.room_history.specs.Sight.{SeesMatch}
use Rattle.game_sheet.specs.Viewer.{Viewer, seat_of}
use Rattle.room_history.specs.declared.call.RoomCall.{RoomCall}
use Rattle.room_history.specs.declared.call.RoomCall.TheVariants.{Create, Join, Rename, Leave, Look, Attach, Submit, Take, Detach, Clear}
use Rattle.room_history.specs.declared.reply.RoomReply.{RoomReply}
use Rattle.room_history.specs.declared.reply.RoomReply.TheVariants as reply
use Rattle.wire_json.specs.declared.submission.Submission.{Submission}
use Rattle.room_history.proofs.Clauses.{among}
use Rattle.room_history.proofs.Growth.{grown}
use Rattle.room_history.proofs.Keeps.{Fits, Head, Listed, Kept, kept, Fresh, fresh, Reseated, reseated, GoesFrom, FateFrom, fate_from, named_stays}
use Rattle.room_history.proofs.Isolation.{Among}
use Rattle.room_history.proofs.Responses.{same_number}
use Rattle.room_history.proofs.Sessions.{plus_item}

no_both : false ≡ true → ⊥
no_both h = cc

other_number : (n k : ℕ) → k ≤ n → (n + 1 == k) ≡ false
other_number n k h = grind (arith, nat_tests, h)

same_view : (s : Session) → SameView s s
same_view s = record { name = refl; sheet = refl; viewer = refl; protocol = refl }

-- a session is shown nothing more, or it looks
abbrev NextSight : Session → Session → Type 0
NextSight s t = (SameView s t × (t.sight ≡ s.sight)) ⊎ (is_looking t.own ≡ true)

abbrev NextSights : List Session → List Session → Type 0
NextSights [] [] = Unit {0}
NextSights [] (t ∷ after) = (is_looking t.own ≡ true) × (after ≡ [])
NextSights (s ∷ before) [] = ⊥
NextSights (s ∷ before) (t ∷ after) = (NextSight s t × (after ≡ before)) ⊎ ((is_looking t.own ≡ true) × (after ≡ s ∷ before))

same_sights : (l : List Session) → NextSights l l
same_sights [] = tt
same_sights (s ∷ before) = inl (inl (same_view s, refl), refl)

latest_sights : (change : Session → Session) → ((s : Session) → NextSight s (change s)) → (l : List Session) → NextSights l (with_latest change l)
latest_sights change h [] = tt
latest_sights change h (s ∷ before) = inl (h s, refl)

sights_if : (b : Bool) (change : Session → Session) → ((s : Session) → NextSight s (change s)) → (l : List Session) → NextSights l (if b then with_latest change l else l)
sights_if true change h l = latest_sights change h l
sights_if false change h l = same_sights l

begun_sights : (b : Bool) (u : Session) (l : List Session) → is_looking u.own ≡ true → NextSights l (if b then u ∷ l else l)
begun_sights true u [] h = (h, refl)
begun_sights true u (s ∷ before) h = inr (h, refl)
begun_sights false u l h = same_sights l

item_sight : (item : Item) (s : Session) → SameView s (with_item item s) × ((with_item item s).sight ≡ s.sight)
item_sight item s = by (is_detached s.own)
  where
    by : (b : Bool) → SameView s (if b then s else plus_item s item) × ((if b then s else plus_item s item).sight ≡ s.sight)
    by true = (same_view s, refl)
    by false = (record { name = refl; sheet = refl; viewer = refl; protocol = refl }, refl)

take_sight : (s : Session) → NextSight s (after_take s)
take_sight s = by (is_detached s.own)
  where
    by : (b : Bool) → NextSight s (if b then record s { sent = s.sent ++ handful s } else plus_item (record s { sent = s.sent ++ handful s }) (Took (number_in s.sight)))
    by true = inl (record { name = refl; sheet = refl; viewer = refl; protocol = refl }, refl)
    by false = inl (record { name = refl; sheet = refl; viewer = refl; protocol = refl }, refl)

leaving_sight : (seat : ℕ) (gone : Bool) (s : Session) → NextSight s (after_leaving seat gone s)
leaving_sight seat gone s = by (is_looking s.own && is_left seat gone s.viewer)
  where
    by : (b : Bool) → NextSight s (if b then plus_item s (Left (number_in s.sight)) else s)
    by true = inl (record { name = refl; sheet = refl; viewer = refl; protocol = refl }, refl)
    by false = inl (same_view s, refl)

module _ {X G : Type 0} (rules : X → Rules G) (room : ℕ) where
  action_sight : (m : Match X G) (s u : Session) → SameView s u × (u.sight ≡ s.sight) → NextSight s (after_action rules room m u)
  action_sight m s u v = by (is_looking u.own) refl
    where
      by : (b : Bool) → is_looking u.own ≡ b → NextSight s (if b then record u { sight = snapshot rules m (seat_of u.viewer) ∷ u.sight } else u)
      by true h = inr h
      by false h = inl v

  -- a match goes on
  pub record Continues (m n : Match X G) : Type 0 where
    pub game : n.game ≡ m.game
    pub first : n.first ≡ m.first
    pub serial : n.serial ≡ m.serial
    pub later : List Deed
    pub in_order : n.accepted ≡ later ++ m.accepted

  record Carried (serial : ℕ) (matches : List (Match X G)) (m : Match X G) : Type 0 where
    pub n : Match X G
    pub is : match_in serial matches ≡ Some n
    pub on : Continues m n

  abbrev Carries : ℕ → List (Match X G) → List (Match X G) → Type 0
  Carries serials old new = (serial : ℕ) → serial ≤ serials → (m : Match X G) → match_in serial old ≡ Some m → Carried serial new m

  continues_same : (m : Match X G) → Continues m m
  continues_same m = record { game = refl; first = refl; serial = refl; later = []; in_order = refl }

  carries_same : (serials : ℕ) (l : List (Match X G)) → Carries serials l l
  carries_same serials l serial h m e = record { n = m; is = e; on = continues_same m }

  some_match : (m n : Match X G) → Some m ≡ Some n → m ≡ n
  some_match m n h = cc

  head_by : (b : Bool) (serial : ℕ) (m n : Match X G) (removed : List (Match X G)) → (n.serial == serial) ≡ b → Continues m n → (x : Match X G) → (if b then Some m else match_in serial removed) ≡ Some x → Carried serial (n ∷ removed) x
  head_by true serial m n removed q c x e = record { n = n; is = rw q refl; on = subst (λ y. Continues y n) (some_match m x e) c }
  head_by false serial m n removed q c x e = record { n = x; is = rw q e; on = continues_same x }

  -- the match that stands goes on
  carries_head : (serials : ℕ) (m n : Match X G) (removed : List (Match X G)) → Continues m n → Carries serials (m ∷ removed) (n ∷ removed)
  carries_head serials m n removed c serial h x e =
      head_by (m.serial == serial) serial m n removed (ap (λ k. k == serial) c.serial) c x e

  -- a match is made
  carries_made : (st : Option (Match X G)) (serials : ℕ) (m : Match X G) (removed : List (Match X G)) → Fresh rules room st (Ok m) → m.serial ≡ serials + 1 → Carries serials (all_matches st removed) (m ∷ removed)
  carries_made None serials m removed f n serial h x e = record { n = x; is = rw (n, other_number serials serial h) e; on = continues_same x }
  carries_made (Some k) serials m removed f n serial h x e = absurd f

  carries_reseated : (st : Option (Match X G)) (serials : ℕ) (m : Match X G) (removed : List (Match X G)) → Reseated rules room st (Ok m) → Carries serials (all_matches st removed) (m ∷ removed)
  carries_reseated None serials m removed f = absurd f
  carries_reseated (Some n) serials m removed f =
      subst (λ x. Carries serials (n ∷ removed) (x ∷ removed)) (sym f.1) (carries_head serials n (record n { roster = f.0 }) removed (record { game = refl; first = refl; serial = refl; later = []; in_order = refl }))

  carries_grown : (st : Option (Match X G)) (serials : ℕ) (n : Match X G) (removed : List (Match X G)) → GoesFrom rules room st n → Carries serials (all_matches st removed) (n ∷ removed)
  carries_grown st serials n removed g =
      subst (λ x. Carries serials (all_matches x removed) (n ∷ removed)) (sym g.stood)
      (subst (λ x. Carries serials (g.m ∷ removed) (x ∷ removed)) (sym g.is) (carries_head serials g.m (grown g.m g.a) removed (record { game = refl; first = refl; serial = refl; later = g.a ∷ []; in_order = refl })))

  -- the match that stands is the latest that was made
  abbrev StandsLast : ℕ → Option (Match X G) → Type 0
  StandsLast serials None = Unit {0}
  StandsLast serials (Some m) = m.serial ≡ serials

  last_reseated : (st : Option (Match X G)) (serials : ℕ) (m : Match X G) → Reseated rules room st (Ok m) → StandsLast serials st → m.serial ≡ serials
  last_reseated None serials m f l = absurd f
  last_reseated (Some n) serials m f l = ap (λ (x : Match X G). x.serial) f.1 ∙ l

  last_grown : (st : Option (Match X G)) (serials : ℕ) (n : Match X G) → GoesFrom rules room st n → StandsLast serials st → n.serial ≡ serials
  last_grown st serials n g l = ap (λ (x : Match X G). x.serial) g.is ∙ subst (λ x. StandsLast serials x) g.stood l

  abbrev Numbered : ℕ → Result (Match X G) RoomReply → Type 0
  Numbered serials (Ok m) = m.serial ≡ serials + 1
  Numbered serials (Err why) = Unit {0}

  numbered_made : (serials : ℕ) (game : X) (seats : ℕ) (seed : List ℕ) (x : Result (Reached G) GameRule) → Numbered serials (new_match rules (serials + 1) game seats seed x)
  numbered_made serials game seats seed (Ok first) = refl
  numbered_made serials game seats seed (Err why) = tt

  numbered : (serials : ℕ) (st : Option (Match X G)) (game : X) (seats : ℕ) (seed : List ℕ) → Numbered serials (created_match rules serials st game seats seed)
  numbered serials (Some m) game seats seed = tt
  numbered serials None game seats seed = by (serials == last_serial) (seats_fit (rules game).sheet seats)
    where
      by : (b c : Bool) → Numbered serials (if b then Err reply.Busy else (if c then new_match rules (serials + 1) game seats seed (begin (rules game) seats seed) else Err reply.BadSeats))
      by true c = tt
      by false true = numbered_made serials game seats seed (begin (rules game) seats seed)
      by false false = tt

  -- what a session was shown is what its match, one of these, came to
  record Seen (serials : ℕ) (matches : List (Match X G)) (s : Session) : Type 0 where
    pub m : Match X G
    pub is : match_in s.name.serial matches ≡ Some m
    pub low : s.name.serial ≤ serials
    pub name : s.name ≡ record { room = room; serial = m.serial }
    pub sheet : s.sheet ≡ (rules m.game).sheet
    pub accepted : List Deed
    pub later : List Deed
    pub in_order : m.accepted ≡ later ++ accepted
    pub many : ℕ
    pub sight : s.sight ≡ snapshots (rules m.game) m.first (seat_of s.viewer) many accepted

  seen_on : (k serials : ℕ) (old new : List (Match X G)) (s t : Session) → k ≤ serials → Carries k old new → SameView s t → t.sight ≡ s.sight → Seen k old s → Seen serials new t
  seen_on k serials old new s t h c v e x =
      let y : Carried s.name.serial new x.m = c s.name.serial x.low x.m x.is in
      record {
        m = y.n;
        is = ap (λ name. match_in name.serial new) v.name ∙ y.is;
        low = omega (arith, h, x.low, ap (λ name. name.serial) v.name);
        name = v.name ∙ x.name ∙ ap (λ serial. record { room = room; serial = serial }) (sym y.on.serial);
        sheet = v.sheet ∙ x.sheet ∙ ap (λ game. (rules game).sheet) (sym y.on.game);
        accepted = x.accepted;
        later = y.on.later ++ x.later;
        in_order = y.on.in_order ∙ ap (λ l. y.on.later ++ l) x.in_order ∙ sym (append_assoc y.on.later x.later x.accepted);
        many = x.many;
        sight = rw (y.on.game, y.on.first, v.viewer) (e ∙ x.sight);
      }

  -- a session that looks is shown the match that stands
  seen_looking : (m : Match X G) (removed : List (Match X G)) (s : Session) → Fits rules room m s → Seen m.serial (m ∷ removed) s
  seen_looking m removed s f = record {
    m = m;
    is = rw f.name (rw (same_number m.serial) refl);
    low = omega (arith, ap (λ name. name.serial) f.name);
    name = f.name;
    sheet = f.sheet;
    accepted = m.accepted;
    later = [];
    in_order = refl;
    many = f.many;
    sight = f.all;
  }

  seen_head : (serials : ℕ) (st : Option (Match X G)) (removed : List (Match X G)) (s : Session) (before : List Session) → Head rules room st s before → StandsLast serials st → is_looking s.own ≡ true → Seen serials (all_matches st removed) s
  seen_head serials None removed s before k l h = absurd (no_both (sym k.fits ∙ h))
  seen_head serials (Some m) removed s before k l h = subst (λ n. Seen n (m ∷ removed) s) l (seen_looking m removed s (k.fits h))

  abbrev AllSeen : ℕ → List (Match X G) → List Session → Type 0
  AllSeen serials matches [] = Unit {0}
  AllSeen serials matches (s ∷ before) = Seen serials matches s × AllSeen serials matches before

  seen_before : (k serials : ℕ) (old new : List (Match X G)) (l : List Session) → k ≤ serials → Carries k old new → AllSeen k old l → AllSeen serials new l
  seen_before k serials old new [] h c a = tt
  seen_before k serials old new (s ∷ before) h c a = (seen_on k serials old new s s h c (same_view s) refl a.0, seen_before k serials old new before h c a.1)

  seen_next : (k serials : ℕ) (old : List (Match X G)) (st : Option (Match X G)) (removed : List (Match X G)) (l new : List Session) → k ≤ serials → Carries k old (all_matches st removed) → NextSights l new
      → AllSeen k old l → Listed rules room st new → StandsLast serials st → AllSeen serials (all_matches st removed) new
  seen_next k serials old st removed [] [] h c n a f l = tt
  seen_next k serials old st removed [] (t ∷ after) h c n a f l = (seen_head serials st removed t after f l n.0, subst (λ x. AllSeen serials (all_matches st removed) x) (sym n.1) tt)
  seen_next k serials old st removed (s ∷ before) [] h c n a f l = absurd n
  seen_next k serials old st removed (s ∷ before) (t ∷ after) h c (inl n) a f l =
      (by n.0, subst (λ x. AllSeen serials (all_matches st removed) x) (sym n.1) (seen_before k serials old (all_matches st removed) before h c a.1))
    where
      by : NextSight s t → Seen serials (all_matches st removed) t
      by (inl v) = seen_on k serials old (all_matches st removed) s t h c v.0 v.1 a.0
      by (inr q) = seen_head serials st removed t after f l q
  seen_next k serials old st removed (s ∷ before) (t ∷ after) h c (inr n) a f l =
      (seen_head serials st removed t after f l n.0, subst (λ x. AllSeen serials (all_matches st removed) x) (sym n.1) (seen_before k serials old (all_matches st removed) (s ∷ before) h c a))

  record Sees (r : Room X G) : Type 0 where
    pub last : StandsLast r.serials r.standing
    pub all : (pass : ℕ) → AllSeen r.serials (all_matches r.standing r.removed) (r.sessions pass)

  record Steps (r s : Room X G) : Type 0 where
    pub rises : r.serials ≤ s.serials
    pub carries : Carries r.serials (all_matches r.standing r.removed) (all_matches s.standing s.removed)
    pub last : StandsLast s.serials s.standing
    pub sights : (pass : ℕ) → NextSights (r.sessions pass) (s.sessions pass)

  sees_step : (r s : Room X G) → Sees r → Kept rules room s → Steps r s → Sees s
  sees_step r s x k y = record {
    last = y.last;
    all = λ pass. seen_next r.serials s.serials (all_matches r.standing r.removed) s.standing s.removed (r.sessions pass) (s.sessions pass) y.rises y.carries (y.sights pass) (x.all pass) (k.all pass) y.last;
  }

  steps_same : (r : Room X G) → Sees r → Steps r r
  steps_same r x = record { rises = omega arith; carries = carries_same r.serials (all_matches r.standing r.removed); last = x.last; sights = λ pass. same_sights (r.sessions pass) }

  -- only sessions change
  steps_sessions : (r : Room X G) (sessions : ℕ → List Session) → Sees r → ((pass : ℕ) → NextSights (r.sessions pass) (sessions pass)) → Steps r (record r { sessions = sessions })
  steps_sessions r sessions x n = record { rises = omega arith; carries = carries_same r.serials (all_matches r.standing r.removed); last = x.last; sights = n }

  steps_made : (r : Room X G) (result : Result (Match X G) RoomReply) → Sees r → Fresh rules room r.standing result → Numbered r.serials result → Steps r (with_new_match r result)
  steps_made r (Ok m) x f n = record { rises = omega (arith, n); carries = carries_made r.standing r.serials m r.removed f n; last = refl; sights = λ pass. same_sights (r.sessions pass) }
  steps_made r (Err why) x f n = steps_same r x

  steps_match : (r : Room X G) (result : Result (Match X G) RoomReply) → Sees r → Reseated rules room r.standing result → Steps r (with_match r result)
  steps_match r (Ok m) x f = record { rises = omega arith; carries = carries_reseated r.standing r.serials m r.removed f; last = last_reseated r.standing r.serials m f x.last; sights = λ pass. same_sights (r.sessions pass) }
  steps_match r (Err why) x f = steps_same r x

  steps_removed : (gone : Bool) (r : Room X G) (m : Match X G) (sessions : ℕ → List Session) → Sees r → Reseated rules room r.standing (Ok m) → ((pass : ℕ) → NextSights (r.sessions pass) (sessions pass)) → Steps r (with_removed_if gone m (record r { sessions = sessions }))
  steps_removed true r m sessions x f n = record { rises = omega arith; carries = carries_reseated r.standing r.serials m r.removed f; last = tt; sights = n }
  steps_removed false r m sessions x f n = record { rises = omega arith; carries = carries_reseated r.standing r.serials m r.removed f; last = last_reseated r.standing r.serials m f x.last; sights = n }

  steps_left : (r : Room X G) (result : Result (Match X G) RoomReply) (seat : ℕ) → Sees r → Reseated rules room r.standing result → Steps r (with_left_seat seat r result)
  steps_left r (Ok m) seat x f =
      steps_removed (is_empty m.roster) r m (λ q. with_latest (after_leaving seat (is_empty m.roster)) (r.sessions q)) x f (λ q. latest_sights (after_leaving seat (is_empty m.roster)) (leaving_sight seat (is_empty m.roster)) (r.sessions q))
  steps_left r (Err why) seat x f = steps_same r x

  steps_cleared : (r : Room X G) (result : Result (Match X G) RoomReply) → Sees r → Reseated rules room r.standing result → Steps r (with_cleared r result)
  steps_cleared r (Ok m) x f = steps_removed true r m (λ q. with_latest (left_where true) (r.sessions q)) x f (λ q. latest_sights (left_where true) (leaving_sight 0 true) (r.sessions q))
  steps_cleared r (Err why) x f = steps_same r x

  steps_session : (r : Room X G) (result : Result (Match X G) RoomReply) (pass : ℕ) (viewer : Viewer) (protocol : Protocol) → Sees r → Steps r (with_session rules room pass viewer protocol r result)
  steps_session r (Ok m) pass viewer protocol x = steps_sessions r (λ q. if pass == q then new_session rules room m viewer protocol ∷ r.sessions q else r.sessions q) x (λ q. begun_sights (pass == q) (new_session rules room m viewer protocol) (r.sessions q) refl)
  steps_session r (Err why) pass viewer protocol x = steps_same r x

  submitted_sights : (m : Match X G) (b : Bool) (s : Option (Match X G)) (sub : Submission) (l : List Session) → NextSights l (with_latest (after_action rules room m) (if b then with_latest (after_submission rules room s sub) l else l))
  submitted_sights m b s sub [] = by b
    where
      by : (b : Bool) → NextSights [] (with_latest (after_action rules room m) (if b then [] else []))
      by true = tt
      by false = tt
  submitted_sights m true st sub (c ∷ before) = inl (action_sight m c (after_submission rules room st sub c) (item_sight (Submitted (number_in c.sight) sub (game_answer rules room st (session_state c) c.viewer sub)) c), refl)
  submitted_sights m false st sub (c ∷ before) = inl (action_sight m c c (same_view c, refl), refl)

  submission_sight : (st : Option (Match X G)) (sub : Submission) (c : Session) → NextSight c (after_submission rules room st sub c)
  submission_sight st sub c = inl (item_sight (Submitted (number_in c.sight) sub (game_answer rules room st (session_state c) c.viewer sub)) c)

  steps_fate : (r : Room X G) (pass : ℕ) (sub : Submission) (f : Fate X G) → Sees r → FateFrom rules room r.standing f → Steps r (with_fate rules room (with_one pass (after_submission rules room r.standing sub) r) f)
  steps_fate r pass sub Unheard x g = steps_sessions r (λ q. if pass == q then with_latest (after_submission rules room r.standing sub) (r.sessions q) else r.sessions q) x (λ q. sights_if (pass == q) (after_submission rules room r.standing sub) (submission_sight r.standing sub) (r.sessions q))
  steps_fate r pass sub (Turned n reason) x g = steps_sessions r (λ q. if pass == q then with_latest (after_submission rules room r.standing sub) (r.sessions q) else r.sessions q) x (λ q. sights_if (pass == q) (after_submission rules room r.standing sub) (submission_sight r.standing sub) (r.sessions q))
  steps_fate r pass sub (Goes n) x g = record {
    rises = omega arith;
    carries = carries_grown r.standing r.serials n r.removed g;
    last = last_grown r.standing r.serials n g x.last;
    sights = λ q. submitted_sights n (pass == q) r.standing sub (r.sessions q);
  }

  steps_call : (r : Room X G) → Sees r → (pass : ℕ) (call : RoomCall X) → Steps r (room_after rules room r pass call)
  steps_call r x pass (Create game seats seed) = steps_made r (created_match rules r.serials r.standing game seats seed) x (fresh rules room r.standing r.serials game seats seed) (numbered r.serials r.standing game seats seed)
  steps_call r x pass (Join serial seat name key) = steps_match r (reseated_match (named_match r.standing serial) (λ roster. join roster seat name key)) x (reseated rules room r.standing serial (λ roster. join roster seat name key))
  steps_call r x pass (Rename serial seat key name) = steps_match r (reseated_match (named_match r.standing serial) (λ roster. rename roster seat key name)) x (reseated rules room r.standing serial (λ roster. rename roster seat key name))
  steps_call r x pass (Leave serial seat key) = steps_left r (reseated_match (named_match r.standing serial) (λ roster. leave roster seat key)) seat x (reseated rules room r.standing serial (λ roster. leave roster seat key))
  steps_call r x pass (Look serial) = steps_same r x
  steps_call r x pass (Attach serial viewer protocol) = steps_session r (attached_match r.standing (latest_state (r.sessions pass)) serial viewer) pass viewer protocol x
  steps_call r x pass (Submit s) = steps_fate r pass s (fate rules room r.standing (r.sessions pass) s) x (fate_from rules room r.standing (r.sessions pass) s)
  steps_call r x pass Take = steps_sessions r (λ q. if pass == q then with_latest after_take (r.sessions q) else r.sessions q) x (λ q. sights_if (pass == q) after_take take_sight (r.sessions q))
  steps_call r x pass Detach = steps_sessions r (λ q. if pass == q then with_latest after_detach (r.sessions q) else r.sessions q) x (λ q. sights_if (pass == q) after_detach (λ s. inl (item_sight (Detached (number_in s.sight)) s)) (r.sessions q))
  steps_call r x pass (Clear serial) = steps_cleared r (named_match r.standing serial) x (named_stays rules room r.standing serial)

  steps_want : (r : Room X G) → Sees r → (pass : ℕ) (call : RoomCall X) → Steps r (room_after_want rules room r pass call)
  steps_want r x pass (Create game seats seed) = steps_same r x
  steps_want r x pass (Join serial seat name key) = steps_same r x
  steps_want r x pass (Rename serial seat key name) = steps_same r x
  steps_want r x pass (Leave serial seat key) = steps_same r x
  steps_want r x pass (Look serial) = steps_same r x
  steps_want r x pass (Attach serial viewer protocol) = steps_same r x
  steps_want r x pass (Submit s) = steps_sessions r (λ q. if pass == q then with_latest (after_want rules room s) (r.sessions q) else r.sessions q) x (λ q. sights_if (pass == q) (after_want rules room s) (λ c. inl (item_sight (Submitted (number_in c.sight) s Starved) c)) (r.sessions q))
  steps_want r x pass Take = steps_same r x
  steps_want r x pass Detach = steps_same r x
  steps_want r x pass (Clear serial) = steps_same r x

  steps_by : (b : Bool) (r : Room X G) → Sees r → (pass : ℕ) (call : RoomCall X) → Steps r (if b then room_after_want rules room r pass call else room_after rules room r pass call)
  steps_by true r x pass call = steps_want r x pass call
  steps_by false r x pass call = steps_call r x pass call

  sees : (h : List (Entry (RoomCall X))) → Sees (room_of rules room h)
  sees [] = record { last = tt; all = λ pass. tt }
  sees (e ∷ h) = sees_step (room_of rules room h) (room_of rules room (e ∷ h)) (sees h) (kept rules room (e ∷ h)) (steps_by e.starved (room_of rules room h) (sees h) e.pass e.call)

  seen_among : (serials : ℕ) (matches : List (Match X G)) (l : List Session) (s : Session) → AllSeen serials matches l → Among s l → Seen serials matches s
  seen_among serials matches [] s x a = absurd a
  seen_among serials matches (t ∷ l) s x (inl e) = subst (λ u. Seen serials matches u) (sym e) x.0
  seen_among serials matches (t ∷ l) s x (inr a) = seen_among serials matches l s x.1 a

  pub sees_match : (h : List (Entry (RoomCall X))) (pass j : ℕ) (s : Session) → session rules room h pass j ≡ Some s → SeesMatch rules room h s
  sees_match h pass j s e =
      let x : Seen (room_of rules room h).serials (all_matches (room_of rules room h).standing (room_of rules room h).removed) s
      = seen_among (room_of rules room h).serials (all_matches (room_of rules room h).standing (room_of rules room h).removed) ((room_of rules room h).sessions pass) s ((sees h).all pass) (among j ((room_of rules room h).sessions pass) s e) in
      record { m = x.m; is = x.is; name = x.name; sheet = x.sheet; accepted = x.accepted; later = x.later; in_order = x.in_order; many = x.many; sight = x.sight }
