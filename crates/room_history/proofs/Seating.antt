-- Whoever looks from a seat of the match that stands sits there still; so only the seat's sessions and spectators look on when a match is
-- removed.
use Rattle.std.proofs.Common.{◌≡◌, ℕ, zero, suc, ◌==◌, Bool, true, false, ◌&&◌, if◌then◌else◌, is_some, List, [], ◌∷◌, ◌++◌, Option, Some, None, Result, Ok, Err, slice_get, slice_set, bytes_eq, refl, sym, ap, ◌∙◌, subst, arith}
use Rattle.std.specs.Option.{option_map_or}
use Rattle.std.proofs.lemmas.Bool.Decides.{nat_tests}
use Rattle.game_trait.specs.Rules.{Rules}
use Rattle.room_object.specs.Entry.{Entry, entry}
use Rattle.seat_roster.specs.Name.{is_name}
use Rattle.seat_roster.specs.Player.{Player, Seats, player_at}
use Rattle.seat_roster.specs.Roster.{if_free, if_key_of, if_name, is_empty, join, rename, leave}
use Rattle.seat_roster.specs.declared.refusal.RosterNo.{RosterNo}
use Rattle.seat_roster.specs.declared.refusal.RosterNo.TheVariants.{BadName, Unauthorized}
use Rattle.wire_json.specs.declared.protocol.Protocol.{Protocol}
use Rattle.room_history.specs.Does.{Room, room_after, room_after_want, with_new_match, with_match, with_left_seat, with_removed_if, with_session, with_fate, with_one, with_each, after_submission, new_session, is_left, left_where, with_cleared}
use Rattle.room_history.specs.Item.{Item, Submitted, Took, Left, Detached, Starved}
use Rattle.room_history.specs.Match.{Match}
use Rattle.room_history.specs.Piece.{State, Open, Ended, Closed}
use Rattle.room_history.specs.Removal.{IsOfSeat}
use Rattle.room_history.specs.Reply.{Fate, Unheard, Turned, Goes, fate, game_answer, created_match, named_match, reseated_match, open_match, attached_match}
use Rattle.room_history.specs.Room.{room_of, standing, latest_session}
use Rattle.room_history.specs.Session.{Session, handful, is_detached, is_looking, number_in, session_state, with_item, with_latest, latest_state}
use Rattle.room_history.proofs.Names.{after_action, after_leaving, after_want, lets_in, after_take, after_detach}
use Rattle.room_history.specs.Shown.{snapshot}
use Rattle.game_sheet.specs.Viewer.{Viewer, seat_of}
use Rattle.room_history.specs.declared.call.RoomCall.{RoomCall}
use Rattle.room_history.specs.declared.call.RoomCall.TheVariants.{Create, Join, Rename, Leave, Look, Attach, Submit, Take, Detach, Clear}
use Rattle.room_history.specs.declared.reply.RoomReply.{RoomReply}
use Rattle.room_history.specs.declared.reply.RoomReply.TheVariants as reply
use Rattle.wire_json.specs.declared.submission.Submission.{Submission}
use Rattle.room_history.proofs.Judging.{Latest, latest_is}
use Rattle.room_history.proofs.Keeps.{Listed, Kept, kept, Fresh, fresh, GoesFrom, FateFrom, fate_from}
use Rattle.room_history.proofs.Sessions.{plus_item}

no_both : false ≡ true → ⊥
no_both h = cc

-- a seat that is taken stays so where another one is set
pub stays_taken : (seats : Seats) (seat k : ℕ) (p : Option Player) → (k ≡ seat → is_some p ≡ true) → is_some (player_at seats k) ≡ true → is_some (player_at (slice_set seats seat p) k) ≡ true
stays_taken [] seat k p f h = h
stays_taken (x ∷ seats) zero zero p f h = f refl
stays_taken (x ∷ seats) zero (suc k) p f h = h
stays_taken (x ∷ seats) (suc seat) zero p f h = h
stays_taken (x ∷ seats) (suc seat) (suc k) p f h = stays_taken seats seat k p (λ e. f (ap suc e)) h

-- nobody sits where all seats are free
pub none_taken : (seats : Seats) (k : ℕ) → is_empty seats ≡ true → is_some (player_at seats k) ≡ true → ⊥
none_taken [] k e h = no_both h
none_taken (Some p ∷ seats) k e h = no_both e
none_taken (None ∷ seats) zero e h = no_both h
none_taken (None ∷ seats) (suc k) e h = none_taken seats k e h

-- what the calls on a roster set
abbrev SetsSeat : Bool → Seats → ℕ → Result Seats RosterNo → Type 0
SetsSeat taken before seat (Ok after) = (p : Option Player) × (after ≡ slice_set before seat p) × (is_some p ≡ taken)
SetsSeat taken before seat (Err why) = Unit {0}

named_sets : (b taken : Bool) (seats : Seats) (seat : ℕ) (p : Option Player) (why : RosterNo) → is_some p ≡ taken → SetsSeat taken seats seat (if b then Ok (slice_set seats seat p) else Err why)
named_sets true taken seats seat p why e = (p, refl, e)
named_sets false taken seats seat p why e = tt

join_sets : (seats : Seats) (seat : ℕ) (name key : List ℕ) → SetsSeat true seats seat (join seats seat name key)
join_sets seats seat name key = by (slice_get seats seat)
  where
    by : (o : Option (Option Player)) → SetsSeat true seats seat (if_free o (if_name name (slice_set seats seat (Some (record { name = name; key = key })))))
    by None = tt
    by (Some (Some player)) = tt
    by (Some None) = named_sets (is_name name) true seats seat (Some (record { name = name; key = key })) BadName refl

keyed_sets : (b taken : Bool) (seats : Seats) (seat : ℕ) (x : Result Seats RosterNo) (why : RosterNo) → SetsSeat taken seats seat x → SetsSeat taken seats seat (if b then x else Err why)
keyed_sets true taken seats seat x why s = s
keyed_sets false taken seats seat x why s = tt

rename_sets : (seats : Seats) (seat : ℕ) (key name : List ℕ) → SetsSeat true seats seat (rename seats seat key name)
rename_sets seats seat key name = by (player_at seats seat)
  where
    by : (o : Option Player) → SetsSeat true seats seat (if_key_of o key (λ player. if_name name (slice_set seats seat (Some (record player { name = name })))))
    by None = tt
    by (Some player) = keyed_sets (bytes_eq player.key key) true seats seat (if_name name (slice_set seats seat (Some (record player { name = name })))) Unauthorized
        (named_sets (is_name name) true seats seat (Some (record player { name = name })) BadName refl)

leave_sets : (seats : Seats) (seat : ℕ) (key : List ℕ) → SetsSeat false seats seat (leave seats seat key)
leave_sets seats seat key = by (player_at seats seat)
  where
    by : (o : Option Player) → SetsSeat false seats seat (if_key_of o key (λ player. Ok (slice_set seats seat None)))
    by None = tt
    by (Some player) = keyed_sets (bytes_eq player.key key) false seats seat (Ok (slice_set seats seat None)) Unauthorized (None, refl, refl)

-- whoever looks from a seat sits there
abbrev pub Sits : Seats → Viewer → Type 0
Sits roster None = Unit {0}
Sits roster (Some claim) = is_some (player_at roster claim.0) ≡ true

fits_sits : (o : Option Player) (key : List ℕ) → option_map_or (λ (player : Player). bytes_eq player.key key) o false ≡ true → is_some o ≡ true
fits_sits None key e = e
fits_sits (Some player) key e = refl

lets_sits : (roster : Seats) (viewer : Viewer) → lets_in roster viewer ≡ true → Sits roster viewer
lets_sits roster None e = tt
lets_sits roster (Some claim) e = fits_sits (player_at roster claim.0) claim.1 e

sits_on : (roster : Seats) (seat : ℕ) (p : Option Player) (viewer : Viewer) → is_some p ≡ true → Sits roster viewer → Sits (slice_set roster seat p) viewer
sits_on roster seat p None e h = tt
sits_on roster seat p (Some claim) e h = stays_taken roster seat claim.0 p (λ q. e) h

module _ {X G : Type 0} (rules : X → Rules G) (room : ℕ) where
  abbrev pub Seated : Option (Match X G) → List Session → Type 0
  Seated st [] = Unit {0}
  Seated None (s ∷ before) = Unit {0}
  Seated (Some m) (s ∷ before) = is_looking s.own ≡ true → Sits m.roster s.viewer

  -- the match with one seat set
  record Reseats (taken : Bool) (st : Option (Match X G)) (seat : ℕ) (n : Match X G) : Type 0 where
    pub m : Match X G
    pub stood : st ≡ Some m
    pub p : Option Player
    pub is : n ≡ record m { roster = slice_set m.roster seat p }
    pub some : is_some p ≡ taken

  abbrev ReseatsBy : Bool → Option (Match X G) → ℕ → Result (Match X G) RoomReply → Type 0
  ReseatsBy taken st seat (Ok n) = Reseats taken st seat n
  ReseatsBy taken st seat (Err why) = Unit {0}

  reseats_by : (taken b : Bool) (m : Match X G) (seat : ℕ) (change : Seats → Result Seats RosterNo) (x : Result Seats RosterNo) → change m.roster ≡ x → SetsSeat taken m.roster seat x
      → ReseatsBy taken (Some m) seat (reseated_match (if b then Ok m else Err reply.NoMatch) change)
  reseats_by taken true m seat change (Ok after) e s = rw e (record { m = m; stood = refl; p = s.0; is = ap (λ roster. record m { roster = roster }) s.1; some = s.2 })
  reseats_by taken true m seat change (Err why) e s = rw e tt
  reseats_by taken false m seat change x e s = tt

  reseats : (taken : Bool) (st : Option (Match X G)) (serial seat : ℕ) (change : Seats → Result Seats RosterNo) → ((seats : Seats) → SetsSeat taken seats seat (change seats))
      → ReseatsBy taken st seat (reseated_match (named_match st serial) change)
  reseats taken None serial seat change s = tt
  reseats taken (Some m) serial seat change s = reseats_by taken (m.serial == serial) m seat change (change m.roster) refl (s m.roster)

  -- where nobody looks at a match that is gone
  unlooked : (m : Match X G) (l : List Session) → Listed rules room None l → Seated (Some m) l
  unlooked m [] k = tt
  unlooked m (s ∷ before) k = λ h. absurd (no_both (sym k.fits ∙ h))

  none_seated : (l : List Session) → Seated None l
  none_seated [] = tt
  none_seated (s ∷ before) = tt

  -- a change after which a session looks only if it did, for the same viewer
  record Narrows (s t : Session) : Type 0 where
    pub viewer : t.viewer ≡ s.viewer
    pub looks : is_looking t.own ≡ true → is_looking s.own ≡ true

  seated_latest : (st : Option (Match X G)) (change : Session → Session) → ((s : Session) → Narrows s (change s)) → (l : List Session) → Seated st l → Seated st (with_latest change l)
  seated_latest st change n [] h = h
  seated_latest None change n (s ∷ before) h = tt
  seated_latest (Some m) change n (s ∷ before) h = λ looks. subst (λ v. Sits m.roster v) (sym (n s).viewer) (h ((n s).looks looks))

  seated_if : (b : Bool) (st : Option (Match X G)) (change : Session → Session) → ((s : Session) → Narrows s (change s)) → (l : List Session) → Seated st l → Seated st (if b then with_latest change l else l)
  seated_if true st change n l h = seated_latest st change n l h
  seated_if false st change n l h = h

  item_narrows : (item : Item) (s : Session) → (is_looking (item ∷ s.own) ≡ true → is_looking s.own ≡ true) → Narrows s (with_item item s)
  item_narrows item s f = by (is_detached s.own)
    where
      by : (b : Bool) → Narrows s (if b then s else plus_item s item)
      by true = record { viewer = refl; looks = λ h. h }
      by false = record { viewer = refl; looks = f }

  take_narrows : (s : Session) → Narrows s (after_take s)
  take_narrows s = by (is_detached s.own)
    where
      by : (b : Bool) → Narrows s (if b then record s { sent = s.sent ++ handful s } else plus_item (record s { sent = s.sent ++ handful s }) (Took (number_in s.sight)))
      by true = record { viewer = refl; looks = λ h. h }
      by false = record { viewer = refl; looks = λ h. h }

  action_narrows : (m : Match X G) (s : Session) → Narrows s (after_action rules room m s)
  action_narrows m s = by (is_looking s.own) refl
    where
      by : (b : Bool) → is_looking s.own ≡ b → Narrows s (if b then record s { sight = snapshot rules m (seat_of s.viewer) ∷ s.sight } else s)
      by true e = record { viewer = refl; looks = λ h. h }
      by false e = record { viewer = refl; looks = λ h. h }

  submission_narrows : (st : Option (Match X G)) (sub : Submission) (c : Session) → Narrows c (after_submission rules room st sub c)
  submission_narrows st sub c = item_narrows (Submitted (number_in c.sight) sub (game_answer rules room st (session_state c) c.viewer sub)) c (λ h. h)

  -- one seat is set: taken, or left by its sessions
  seated_set : (st : Option (Match X G)) (seat : ℕ) (n : Match X G) (l : List Session) → Reseats true st seat n → Seated st l → Seated (Some n) l
  seated_set st seat n [] r h = tt
  seated_set st seat n (s ∷ before) r h =
      subst (λ x. Seated (Some x) (s ∷ before)) (sym r.is) (λ looks. sits_on r.m.roster seat r.p s.viewer r.some (subst (λ x. Seated x (s ∷ before)) r.stood h looks))

  elsewhere : (roster : Seats) (seat : ℕ) (p : Option Player) (viewer : Viewer) → is_left seat false viewer ≡ false → Sits roster viewer → Sits (slice_set roster seat p) viewer
  elsewhere roster seat p None e h = tt
  elsewhere roster seat p (Some claim) e h = stays_taken roster seat claim.0 p (λ q. absurd (other claim.0 seat e q)) h
    where
      other : (a b : ℕ) → (a == b) ≡ false → a ≡ b → ⊥
      other a b e q = grind (arith, nat_tests, e, q)

  seated_left : (st : Option (Match X G)) (seat : ℕ) (n : Match X G) (l : List Session) → Reseats false st seat n → Seated st l → Seated (Some n) (with_latest (after_leaving seat false) l)
  seated_left st seat n [] r h = tt
  seated_left st seat n (s ∷ before) r h =
      subst (λ x. Seated (Some x) (after_leaving seat false s ∷ before)) (sym r.is) (by (is_looking s.own) (is_left seat false s.viewer) refl refl)
    where
      by : (b c : Bool) → is_looking s.own ≡ b → is_left seat false s.viewer ≡ c
          → is_looking (if b && c then plus_item s (Left (number_in s.sight)) else s).own ≡ true → Sits (slice_set r.m.roster seat r.p) (if b && c then plus_item s (Left (number_in s.sight)) else s).viewer
      by true true e f looks = absurd (no_both looks)
      by true false e f looks = elsewhere r.m.roster seat r.p s.viewer f (subst (λ x. Seated x (s ∷ before)) r.stood h looks)
      by false c e f looks = absurd (no_both (sym e ∙ looks))

  pub record SeatedRoom (r : Room X G) : Type 0 where
    pub all : (pass : ℕ) → Seated r.standing (r.sessions pass)

  seated_made : (r : Room X G) (result : Result (Match X G) RoomReply) → Kept rules room r → Fresh rules room r.standing result → SeatedRoom r → (q : ℕ) → Seated (with_new_match r result).standing ((with_new_match r result).sessions q)
  seated_made r (Ok m) k f x q = by r.standing f (k.all q)
    where
      by : (st : Option (Match X G)) → Fresh rules room st (Ok m) → Listed rules room st (r.sessions q) → Seated (Some m) (r.sessions q)
      by None f k = unlooked m (r.sessions q) k
      by (Some n) f k = absurd f
  seated_made r (Err why) k f x q = x.all q

  seated_match : (r : Room X G) (result : Result (Match X G) RoomReply) (seat : ℕ) → ReseatsBy true r.standing seat result → SeatedRoom r → (q : ℕ) → Seated (with_match r result).standing ((with_match r result).sessions q)
  seated_match r (Ok n) seat s x q = seated_set r.standing seat n (r.sessions q) s (x.all q)
  seated_match r (Err why) seat s x q = x.all q

  seated_leaving : (r : Room X G) (result : Result (Match X G) RoomReply) (seat : ℕ) → ReseatsBy false r.standing seat result → SeatedRoom r → (q : ℕ) → Seated (with_left_seat seat r result).standing ((with_left_seat seat r result).sessions q)
  seated_leaving r (Ok n) seat s x q = by (is_empty n.roster)
    where
      by : (b : Bool) → Seated (with_removed_if b n (with_each (after_leaving seat b) r)).standing ((with_removed_if b n (with_each (after_leaving seat b) r)).sessions q)
      by true = none_seated (with_latest (after_leaving seat true) (r.sessions q))
      by false = seated_left r.standing seat n (r.sessions q) s (x.all q)
  seated_leaving r (Err why) seat s x q = x.all q

  seated_cleared : (r : Room X G) (result : Result (Match X G) RoomReply) → SeatedRoom r → (q : ℕ) → Seated (with_cleared r result).standing ((with_cleared r result).sessions q)
  seated_cleared r (Ok n) x q = none_seated (with_latest (left_where true) (r.sessions q))
  seated_cleared r (Err why) x q = x.all q

  abbrev LetsIn : Option (Match X G) → Viewer → Result (Match X G) RoomReply → Type 0
  LetsIn st viewer (Ok m) = (st ≡ Some m) × (lets_in m.roster viewer ≡ true)
  LetsIn st viewer (Err why) = Unit {0}

  lets_by : (b c : Bool) (m : Match X G) (viewer : Viewer) → lets_in m.roster viewer ≡ c → LetsIn (Some m) viewer (open_match viewer (if b then Ok m else Err reply.NoMatch))
  lets_by true true m viewer e = rw e (refl, e)
  lets_by true false m viewer e = rw e tt
  lets_by false c m viewer e = tt

  lets : (st : Option (Match X G)) (state : State) (serial : ℕ) (viewer : Viewer) → LetsIn st viewer (attached_match st state serial viewer)
  lets None Closed serial viewer = tt
  lets (Some m) Closed serial viewer = lets_by (m.serial == serial) (lets_in m.roster viewer) m viewer refl
  lets st Open serial viewer = tt
  lets st (Ended why) serial viewer = tt

  begun_if : (b : Bool) (st : Option (Match X G)) (m : Match X G) (viewer : Viewer) (protocol : Protocol) (l : List Session) → st ≡ Some m → lets_in m.roster viewer ≡ true → Seated st l → Seated st (if b then new_session rules room m viewer protocol ∷ l else l)
  begun_if true st m viewer protocol l e f h = subst (λ x. Seated x (new_session rules room m viewer protocol ∷ l)) (sym e) (λ looks. lets_sits m.roster viewer f)
  begun_if false st m viewer protocol l e f h = h

  seated_session : (r : Room X G) (result : Result (Match X G) RoomReply) (pass : ℕ) (viewer : Viewer) (protocol : Protocol) → LetsIn r.standing viewer result → SeatedRoom r → (q : ℕ)
      → Seated (with_session rules room pass viewer protocol r result).standing ((with_session rules room pass viewer protocol r result).sessions q)
  seated_session r (Ok m) pass viewer protocol s x q = begun_if (pass == q) r.standing m viewer protocol (r.sessions q) s.0 s.1 (x.all q)
  seated_session r (Err why) pass viewer protocol s x q = x.all q

  grown_seated : (st : Option (Match X G)) (n : Match X G) (l : List Session) → GoesFrom rules room st n → Seated st l → Seated (Some n) l
  grown_seated st n [] g h = tt
  grown_seated st n (s ∷ before) g h = subst (λ x. Seated (Some x) (s ∷ before)) (sym g.is) (λ looks. subst (λ x. Seated x (s ∷ before)) g.stood h looks)

  seated_fate : (r : Room X G) (pass : ℕ) (sub : Submission) (f : Fate X G) → FateFrom rules room r.standing f → SeatedRoom r → (q : ℕ)
      → Seated (with_fate rules room (with_one pass (after_submission rules room r.standing sub) r) f).standing ((with_fate rules room (with_one pass (after_submission rules room r.standing sub) r) f).sessions q)
  seated_fate r pass sub Unheard g x q = seated_if (pass == q) r.standing (after_submission rules room r.standing sub) (submission_narrows r.standing sub) (r.sessions q) (x.all q)
  seated_fate r pass sub (Turned n reason) g x q = seated_if (pass == q) r.standing (after_submission rules room r.standing sub) (submission_narrows r.standing sub) (r.sessions q) (x.all q)
  seated_fate r pass sub (Goes n) g x q =
      seated_latest (Some n) (after_action rules room n) (action_narrows n) (if pass == q then with_latest (after_submission rules room r.standing sub) (r.sessions q) else r.sessions q)
      (seated_if (pass == q) (Some n) (after_submission rules room r.standing sub) (submission_narrows r.standing sub) (r.sessions q) (grown_seated r.standing n (r.sessions q) g (x.all q)))

  detach_narrows : (s : Session) → Narrows s (after_detach s)
  detach_narrows s = item_narrows (Detached (number_in s.sight)) s (λ h. absurd (no_both h))

  seated_call : (r : Room X G) → Kept rules room r → SeatedRoom r → (pass : ℕ) (call : RoomCall X) (q : ℕ) → Seated (room_after rules room r pass call).standing ((room_after rules room r pass call).sessions q)
  seated_call r k x pass (Create game seats seed) q =
      seated_made r (created_match rules r.serials r.standing game seats seed) k (fresh rules room r.standing r.serials game seats seed) x q
  seated_call r k x pass (Join serial seat name key) q =
      seated_match r (reseated_match (named_match r.standing serial) (λ roster. join roster seat name key)) seat (reseats true r.standing serial seat (λ roster. join roster seat name key) (λ seats. join_sets seats seat name key)) x q
  seated_call r k x pass (Rename serial seat key name) q =
      seated_match r (reseated_match (named_match r.standing serial) (λ roster. rename roster seat key name)) seat (reseats true r.standing serial seat (λ roster. rename roster seat key name) (λ seats. rename_sets seats seat key name)) x q
  seated_call r k x pass (Leave serial seat key) q =
      seated_leaving r (reseated_match (named_match r.standing serial) (λ roster. leave roster seat key)) seat (reseats false r.standing serial seat (λ roster. leave roster seat key) (λ seats. leave_sets seats seat key)) x q
  seated_call r k x pass (Look serial) q = x.all q
  seated_call r k x pass (Attach serial viewer protocol) q =
      seated_session r (attached_match r.standing (latest_state (r.sessions pass)) serial viewer) pass viewer protocol (lets r.standing (latest_state (r.sessions pass)) serial viewer) x q
  seated_call r k x pass (Submit s) q = seated_fate r pass s (fate rules room r.standing (r.sessions pass) s) (fate_from rules room r.standing (r.sessions pass) s) x q
  seated_call r k x pass Take q = seated_if (pass == q) r.standing after_take take_narrows (r.sessions q) (x.all q)
  seated_call r k x pass Detach q = seated_if (pass == q) r.standing after_detach detach_narrows (r.sessions q) (x.all q)
  seated_call r k x pass (Clear serial) q = seated_cleared r (named_match r.standing serial) x q

  seated_want : (r : Room X G) → SeatedRoom r → (pass : ℕ) (call : RoomCall X) (q : ℕ) → Seated (room_after_want rules room r pass call).standing ((room_after_want rules room r pass call).sessions q)
  seated_want r x pass (Create game seats seed) q = x.all q
  seated_want r x pass (Join serial seat name key) q = x.all q
  seated_want r x pass (Rename serial seat key name) q = x.all q
  seated_want r x pass (Leave serial seat key) q = x.all q
  seated_want r x pass (Look serial) q = x.all q
  seated_want r x pass (Attach serial viewer protocol) q = x.all q
  seated_want r x pass (Submit s) q = seated_if (pass == q) r.standing (after_want rules room s) (λ c. item_narrows (Submitted (number_in c.sight) s Starved) c (λ h. h)) (r.sessions q) (x.all q)
  seated_want r x pass Take q = x.all q
  seated_want r x pass Detach q = x.all q
  seated_want r x pass (Clear serial) q = x.all q

  seated_step : (b : Bool) (r : Room X G) → Kept rules room r → SeatedRoom r → (pass : ℕ) (call : RoomCall X) (q : ℕ)
      → Seated (if b then room_after_want rules room r pass call else room_after rules room r pass call).standing ((if b then room_after_want rules room r pass call else room_after rules room r pass call).sessions q)
  seated_step true r k x pass call q = seated_want r x pass call q
  seated_step false r k x pass call q = seated_call r k x pass call q

  pub seated : (h : List (Entry (RoomCall X))) → SeatedRoom (room_of rules room h)
  seated [] = record { all = λ pass. tt }
  seated (e ∷ h) = record { all = λ q. seated_step e.starved (room_of rules room h) (kept rules room h) (seated h) e.pass e.call q }

  -- who looks when a match is removed
  some_none : (m : Match X G) → Some m ≡ None → ⊥
  some_none m h = cc

  alone : (roster : Seats) (seat : ℕ) (viewer : Viewer) → is_empty (slice_set roster seat None) ≡ true → Sits roster viewer → IsOfSeat seat viewer
  alone roster seat None e h = tt
  alone roster seat (Some claim) e h = by (claim.0 == seat) refl
    where
      by : (b : Bool) → (claim.0 == seat) ≡ b → claim.0 ≡ seat
      by true q = grind (arith, nat_tests, q)
      by false q = absurd (none_taken (slice_set roster seat None) claim.0 e (elsewhere roster seat None (Some claim) q h))

  removed_by : (st : Option (Match X G)) (r : Room X G) (seat : ℕ) (m : Match X G) (s : Session) (before : List Session) (result : Result (Match X G) RoomReply) → ReseatsBy false st seat result → st ≡ Some m → r.standing ≡ st
      → (with_left_seat seat r result).standing ≡ None → Sits m.roster s.viewer → IsOfSeat seat s.viewer
  removed_by st r seat m s before (Err why) x e q gone h = absurd (some_none m (sym e ∙ sym q ∙ gone))
  removed_by st r seat m s before (Ok n) x e q gone h = by (is_empty n.roster) refl gone
    where
      none_is : (o : Option Player) → is_some o ≡ false → o ≡ None
      none_is None h = refl
      none_is (Some p) h = absurd (no_both (sym h))

      some_match : (m n : Match X G) → Some m ≡ Some n → m ≡ n
      some_match m n h = cc

      same : x.m ≡ m
      same = some_match x.m m (sym x.stood ∙ e)

      roster_is : n.roster ≡ slice_set m.roster seat None
      roster_is = ap (λ (y : Match X G). y.roster) x.is ∙ ap (λ p. slice_set x.m.roster seat p) (none_is x.p x.some) ∙ ap (λ (y : Match X G). slice_set y.roster seat None) same

      by : (b : Bool) → is_empty n.roster ≡ b → (with_removed_if b n (with_each (after_leaving seat b) r)).standing ≡ None → IsOfSeat seat s.viewer
      by true y gone = alone m.roster seat s.viewer (ap is_empty (sym roster_is) ∙ y) h
      by false y gone = absurd (some_none n gone)

  pub removed_for : (h : List (Entry (RoomCall X))) (pass serial seat : ℕ) (key : List ℕ) (m : Match X G) → standing rules room h ≡ Some m → standing rules room (entry pass (Leave serial seat key) false ∷ h) ≡ None
      → (q : ℕ) (s : Session) → latest_session rules room h q ≡ Some s → is_looking s.own ≡ true → IsOfSeat seat s.viewer
  removed_for h pass serial seat key m e gone q s f looks =
      let l : Latest ((room_of rules room h).sessions q) s = latest_is ((room_of rules room h).sessions q) s f in
      removed_by (standing rules room h) (room_of rules room h) seat m s l.before (reseated_match (named_match (standing rules room h) serial) (λ roster. leave roster seat key))
      (reseats false (standing rules room h) serial seat (λ roster. leave roster seat key) (λ seats. leave_sets seats seat key)) e refl gone
      (subst (λ st. Seated st (s ∷ l.before)) e (subst (λ x. Seated (standing rules room h) x) l.is ((seated h).all q)) looks)
