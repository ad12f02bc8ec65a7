-- The changes of a room's history make its matches: an accepted call by its change, and every other call nothing.
use Rattle.std.proofs.Common.{◌≡◌, ℕ, ◌+◌, ◌==◌, Bool, true, false, not, ◌&&◌, if◌then◌else◌, is_some, List, [], ◌∷◌, ◌++◌, Option, Some, None, option_map, option_and_then, Result, Ok, Err, bytes_eq, drop, refl, sym, ap, ◌∙◌, subst, arith}
use Rattle.std.proofs.lemmas.Bool.Decides.{nat_tests}
use Rattle.std.proofs.lemmas.Slice.Eq.{bytes_eq-Decides}
use Rattle.game_sheet.specs.Viewer.{Viewer, seat_of}
use Rattle.game_sheet.specs.declared.ctx.Ctx.{Ctx}
use Rattle.game_sheet.specs.declared.sheet.Sheet.{Sheet}
use Rattle.game_trait.specs.Rules.{Rules}
use Rattle.phase_flow.specs.Action.{begin}
use Rattle.phase_flow.specs.Reached.{Reached}
use Rattle.game_sheet.specs.declared.refusal.GameRule.{GameRule}
use Rattle.room_object.specs.Entry.{Entry}
use Rattle.seat_roster.specs.Player.{Player, Seats, player_at}
use Rattle.seat_roster.specs.Roster.{is_empty, join, rename, leave}
use Rattle.seat_roster.specs.declared.refusal.RosterNo.{RosterNo}
use Rattle.seat_roster.specs.declared.refusal.RosterNo.TheVariants.{NoSeat, SeatTaken, BadName, Unauthorized}
use Rattle.wire_json.specs.declared.asked.Asked.{Asked}
use Rattle.wire_json.specs.declared.reason.Reason.{Reason}
use Rattle.wire_json.specs.declared.reason.Reason.TheVariants as reason
use Rattle.wire_json.specs.declared.submission.Submission.{Submission}
use Rattle.wire_json.specs.Resolve.{act_of, ignores_number}
use Rattle.room_history.specs.Course.{IsOpen}
use Rattle.wire_json.specs.declared.protocol.Protocol.{Protocol}
use Rattle.room_history.specs.Does.{Room, room_after, room_after_want, reply_to, with_new_match, with_match, with_cleared, with_left_seat, with_removed_if, with_each, with_session, with_fate, with_one, after_submission}
use Rattle.room_history.specs.Match.{Match, number_of, table_of}
use Rattle.room_history.specs.Piece.{State, Open, Ended, Closed}
use Rattle.room_history.specs.Reply.{Fate, Unheard, Turned, Goes, created_match, fate, fate_in, last_serial, looked_match, named_match, new_match, reply_by, reseated_match, seats_fit, submit_reply, attached_match}
use Rattle.room_history.proofs.Names.{after_leaving, fate_by, with_roster}
use Rattle.room_history.specs.Room.{room_of, reply, latest_seat, seat_in}
use Rattle.room_history.specs.Rule.{first_broken, has_key, most_actions, public, is_undo_or_redo, is_alone, has_act, seat_rules}
use Rattle.room_history.specs.Session.{Session, session_state, latest_state}
use Rattle.room_history.specs.Verdict.{first_reason, game_reason, is_named, match_accepting, public_reason}
use Rattle.stage_map.specs.Moves.{may}
use Rattle.room_history.specs.declared.call.RoomCall.{RoomCall}
use Rattle.room_history.specs.declared.call.RoomCall.TheVariants.{Create, Join, Rename, Leave, Look, Attach, Submit, Take, Detach, Clear}
use Rattle.room_history.specs.declared.reply.RoomReply.{RoomReply}
use Rattle.room_history.specs.declared.reply.RoomReply.TheVariants as answer
use Rattle.room_history.proofs.Keeps.{Listed, kept as kept_room}
use Rattle.room_history.proofs.Seating.{Seated, Sits, seated}
use Rattle.room_changes.specs.ChangesOf.{act_by, change_asked, change_made, changes_of, is_accepted}
use Rattle.room_changes.proofs.Names.{with_created, with_left, with_none, with_reseated}
use Rattle.room_changes.specs.Kept.{Kept, acted_by, claim, kept, kept_from, kept_with, submission}
use Rattle.room_changes.specs.declared.change.Change.{Change}
use Rattle.room_changes.specs.declared.change.Change.TheVariants as change
use Rattle.std.specs.Option.{option_map_or, option_or}

no_both : false ≡ true → ⊥
no_both h = cc

-- a refusal isn't an acceptance
abbrev Declined : {A : Type 0} → Result A RoomReply → Type 0
Declined (Ok x) = Unit {0}
Declined (Err why) = is_accepted why ≡ false

module _ {X G : Type 0} (rules : X → Rules G) where
  begun_declined : (serial : ℕ) (game : X) (seats : ℕ) (seed : List ℕ) (first : Result (Reached G) GameRule) → Declined (new_match rules serial game seats seed first)
  begun_declined serial game seats seed (Ok first) = tt
  begun_declined serial game seats seed (Err why) = refl

  fits_declined : (b : Bool) (x : Result (Match X G) RoomReply) → Declined x → Declined (if b then x else Err answer.BadSeats)
  fits_declined true x d = d
  fits_declined false x d = refl

  busy_declined : (b : Bool) (x : Result (Match X G) RoomReply) → Declined x → Declined (if b then Err answer.Busy else x)
  busy_declined true x d = refl
  busy_declined false x d = d

  created_declined : (serials : ℕ) (st : Option (Match X G)) (game : X) (seats : ℕ) (seed : List ℕ) → Declined (created_match rules serials st game seats seed)
  created_declined serials (Some m) game seats seed = refl
  created_declined serials None game seats seed =
      busy_declined (serials == last_serial) (if seats_fit (rules game).sheet seats then new_match rules (serials + 1) game seats seed (begin (rules game) seats seed) else Err answer.BadSeats)
      (fits_declined (seats_fit (rules game).sheet seats) (new_match rules (serials + 1) game seats seed (begin (rules game) seats seed)) (begun_declined (serials + 1) game seats seed (begin (rules game) seats seed)))

roster_declined : {X G : Type 0} (m : Match X G) (x : Result Seats RosterNo) → Declined (with_roster m x)
roster_declined m (Ok seats) = tt
roster_declined m (Err NoSeat) = refl
roster_declined m (Err SeatTaken) = refl
roster_declined m (Err BadName) = refl
roster_declined m (Err Unauthorized) = refl

reseated_declined : {X G : Type 0} (st : Option (Match X G)) (serial : ℕ) (f : Seats → Result Seats RosterNo) → Declined (reseated_match (named_match st serial) f)
reseated_declined None serial f = refl
reseated_declined (Some m) serial f = by (m.serial == serial)
  where
    by : (b : Bool) → Declined (reseated_match (if b then Ok m else Err answer.NoMatch) f)
    by true = roster_declined m (f m.roster)
    by false = refl

-- a match that is named is the one that stands
named_stands : {X G : Type 0} (st : Option (Match X G)) (serial : ℕ) (f : Seats → Result Seats RosterNo) (n : Match X G)
    → reseated_match (named_match st serial) f ≡ Ok n → reseated_match (looked_match st None) f ≡ Ok n
named_stands None serial f n e = e
named_stands (Some m) serial f n e = by (m.serial == serial) e
  where
    by : (b : Bool) → reseated_match (if b then Ok m else Err answer.NoMatch) f ≡ Ok n → with_roster m (f m.roster) ≡ Ok n
    by true e = e
    by false e = absurd (differ e)
      where
        differ : Err answer.NoMatch ≡ Ok n → ⊥
        differ h = cc

named_declined : {X G : Type 0} (st : Option (Match X G)) (serial : ℕ) → Declined (named_match st serial)
named_declined None serial = refl
named_declined (Some m) serial = by (m.serial == serial)
  where
    by : (b : Bool) → Declined (if b then Ok m else Err answer.NoMatch)
    by true = tt
    by false = refl

named_is : {X G : Type 0} (st : Option (Match X G)) (serial : ℕ) (n : Match X G) → named_match st serial ≡ Ok n → looked_match st None ≡ Ok n
named_is None serial n e = e
named_is (Some m) serial n e = by (m.serial == serial) e
  where
    by : (b : Bool) → (if b then looked_match (Some m) None else Err answer.NoMatch) ≡ Ok n → looked_match (Some m) None ≡ Ok n
    by true e = e
    by false e = absurd (differ e)
      where
        differ : Err answer.NoMatch ≡ Ok n → ⊥
        differ h = cc

-- the public rules are kept by an action under the seat's own key, at the present number, if they were by any
broken_weaker : (b c : Bool) (why : Reason) (l k : List (Bool × Reason)) → (b ≡ false → c ≡ false) → (first_broken l ≡ None → first_broken k ≡ None) → first_broken ((b, why) ∷ l) ≡ None → first_broken ((c, why) ∷ k) ≡ None
broken_weaker true c why l k f g e = absurd (differ e)
  where
    differ : Some why ≡ None → ⊥
    differ h = cc
broken_weaker false true why l k f g e = absurd (no_both (sym (f refl)))
broken_weaker false false why l k f g e = g e

here : (n : ℕ) (b : Bool) → (not (n == n) && b) ≡ false
here n b = by (n == n) (grind (arith, nat_tests))
  where
    by : (c : Bool) → c ≡ true → (not c && b) ≡ false
    by true e = refl
    by false e = absurd (no_both e)

rules_weaker : (sheet : Sheet) (ctx : Ctx) (number seat : ℕ) (same fits : Bool) (a : Asked) (at : ℕ) → public sheet ctx number same (Some seat) fits a at ≡ None → public sheet ctx number true (Some seat) true a number ≡ None
unfolding public
rules_weaker sheet ctx number seat same fits a at =
    let old = seat_rules sheet ctx number seat a at in
    let new = seat_rules sheet ctx number seat a number in
    broken_weaker (not same) false reason.NoMatch (option_map_or (λ seat. (not fits, reason.Unauthorized) ∷ seat_rules sheet ctx number seat a at) (Some seat) ((true, reason.Unauthorized) ∷ [])) (option_map_or (λ seat. (not true, reason.Unauthorized) ∷ seat_rules sheet ctx number seat a number) (Some seat) ((true, reason.Unauthorized) ∷ [])) (λ e. refl)
    (broken_weaker (not fits) false reason.Unauthorized old new (λ e. refl)
    (broken_weaker (is_some ctx.over) (is_some ctx.over) reason.GameOver (drop 1 old) (drop 1 new) (λ e. e)
    (broken_weaker (number == most_actions) (number == most_actions) reason.MatchFull (drop 2 old) (drop 2 new) (λ e. e)
    (broken_weaker (is_undo_or_redo a && not (is_alone ctx seat)) (is_undo_or_redo a && not (is_alone ctx seat)) reason.CannotUndoNow (drop 3 old) (drop 3 new) (λ e. e)
    (broken_weaker (not (may ctx seat)) (not (may ctx seat)) reason.NotActive (drop 4 old) (drop 4 new) (λ e. e)
    (broken_weaker (not (has_act sheet ctx seat a (act_of sheet a))) (not (has_act sheet ctx seat a (act_of sheet a))) reason.UnknownMove (drop 5 old) (drop 5 new) (λ e. e)
    (broken_weaker (not (at == number) && not (ignores_number sheet (act_of sheet a))) (not (number == number) && not (ignores_number sheet (act_of sheet a))) reason.WrongNumber [] [] (λ e. here number (not (ignores_number sheet (act_of sheet a)))) (λ e. e))))))))

-- a spectator's action breaks a rule
spectator_broken : (sheet : Sheet) (ctx : Ctx) (number : ℕ) (same fits : Bool) (a : Asked) (at : ℕ) → public sheet ctx number same None fits a at ≡ None → ⊥
unfolding public
spectator_broken sheet ctx number true fits a at e = differ e
  where
    differ : Some reason.Unauthorized ≡ None → ⊥
    differ h = cc
spectator_broken sheet ctx number false fits a at e = differ e
  where
    differ : Some reason.NoMatch ≡ None → ⊥
    differ h = cc

-- neither rules nor game refuse
pub record Allowed (public game : Option Reason) : Type 0 where
  pub by_rules : public ≡ None
  pub by_game : game ≡ None

allowed : (public game : Option Reason) → option_or public game ≡ None → Allowed public game
allowed None game e = record { by_rules = refl; by_game = e }
allowed (Some reason) game e = absurd (differ e)
  where
    differ : Some reason ≡ None → ⊥
    differ h = cc

both_allow : (public game : Option Reason) → public ≡ None → game ≡ None → option_or public game ≡ None
both_allow public game e f = ap (λ p. option_or p game) e ∙ f

named_so : (room serial : ℕ) → is_named room serial (record { room = room; serial = serial }) ≡ true
named_so room serial = by (room == room) (serial == serial) (grind (arith, nat_tests)) (grind (arith, nat_tests))
  where
    by : (b c : Bool) → b ≡ true → c ≡ true → (b && c) ≡ true
    by true c e f = f
    by false c e f = absurd (no_both e)

own_key : (key : List ℕ) → bytes_eq key key ≡ true
own_key key = (bytes_eq-Decides key key).1 refl

module _ {X G : Type 0} (rules : X → Rules G) (room : ℕ) where
  -- what a submission was allowed is allowed again
  again : (m : Match X G) (seat : ℕ) (key : List ℕ) (player : Player) (s : Submission) → first_reason rules room m (Some (seat, key)) s ≡ None → first_reason rules room m (claim seat player) (submission room m player s.asked) ≡ None
  again m seat key player s e =
      let sheet = (rules m.game).sheet in
      let ctx = (table_of rules m).ctx in
      let a : Allowed (public_reason rules room m (Some (seat, key)) s) (game_reason rules m (Some (seat, key)) s) = allowed _ _ e in
      let kept_rules : public sheet ctx (number_of m) true (Some seat) true s.asked (number_of m) ≡ None =
      rules_weaker sheet ctx (number_of m) seat (is_named room m.serial s.name) (has_key (Some (seat, key)) s.key) s.asked s.number a.by_rules in
      both_allow _ _ (ap (λ b. public sheet ctx (number_of m) b (Some seat) (bytes_eq player.key player.key) s.asked (number_of m)) (named_so room m.serial)
      ∙ ap (λ b. public sheet ctx (number_of m) true (Some seat) b s.asked (number_of m)) (own_key player.key) ∙ kept_rules) a.by_game

  -- one change, where it was accepted
  takes_in : (c : Change X) (k next : Kept X G) (b : Bool) → b ≡ true → kept_with rules room k c ≡ Some next → kept_from rules room k (change_made b (Some c)) ≡ Some next
  takes_in c k next b t e = ap (λ b. kept_from rules room k (change_made b (Some c))) t ∙ ap (option_and_then (λ n. kept_from rules room n [])) e

  passes_over : (o : Option (Change X)) (k : Kept X G) (b : Bool) → b ≡ false → kept_from rules room k (change_made b o) ≡ Some k
  passes_over o k b f = ap (λ b. kept_from rules room k (change_made b o)) f

  has_none : (k : Kept X G) (b : Bool) → kept_from rules room k (change_made b None) ≡ Some k
  has_none k true = refl
  has_none k false = refl

  abbrev of_room : Room X G → Kept X G
  of_room r = record { serials = r.serials; standing = r.standing }

  create_step : (r : Room X G) (c : Change X) (x : Result (Match X G) RoomReply) → kept_with rules room (of_room r) c ≡ with_created x → Declined x
      → kept_from rules room (of_room r) (change_made (is_accepted (reply_by (λ (m : Match X G). answer.Created m.serial) x)) (Some c)) ≡ Some (of_room (with_new_match r x))
  create_step r c (Ok m) e d = takes_in c (of_room r) (record { serials = m.serial; standing = Some m }) true refl e
  create_step r c (Err why) e d = passes_over (Some c) (of_room r) (is_accepted why) d

  seat_step : (r : Room X G) (c : Change X) (said : RoomReply) (x y : Result (Match X G) RoomReply) → is_accepted said ≡ true → kept_with rules room (of_room r) c ≡ with_reseated r.serials y → ((n : Match X G) → x ≡ Ok n → y ≡ Ok n) → Declined x
      → kept_from rules room (of_room r) (change_made (is_accepted (reply_by (λ (m : Match X G). said) x)) (Some c)) ≡ Some (of_room (with_match r x))
  seat_step r c said (Ok m) y t e f d = takes_in c (of_room r) (record { serials = r.serials; standing = Some m }) (is_accepted said) t (e ∙ ap (with_reseated r.serials) (f m refl))
  seat_step r c said (Err why) y t e f d = passes_over (Some c) (of_room r) (is_accepted why) d

  left_is : (b : Bool) (m : Match X G) (r : Room X G) → Some (record { serials = r.serials; standing = if b then None else Some m }) ≡ Some (of_room (with_removed_if b m r))
  left_is true m r = refl
  left_is false m r = refl

  leave_step : (r : Room X G) (c : Change X) (seat : ℕ) (x y : Result (Match X G) RoomReply) → kept_with rules room (of_room r) c ≡ with_left r.serials y → ((n : Match X G) → x ≡ Ok n → y ≡ Ok n) → Declined x
      → kept_from rules room (of_room r) (change_made (is_accepted (reply_by (λ (m : Match X G). answer.Left) x)) (Some c)) ≡ Some (of_room (with_left_seat seat r x))
  leave_step r c seat (Ok m) y e f d =
      takes_in c (of_room r) (record { serials = r.serials; standing = if is_empty m.roster then None else Some m }) true refl (e ∙ ap (with_left r.serials) (f m refl))
      ∙ left_is (is_empty m.roster) m (with_each (after_leaving seat (is_empty m.roster)) r)
  leave_step r c seat (Err why) y e f d = passes_over (Some c) (of_room r) (is_accepted why) d

  clear_step : (r : Room X G) (x y : Result (Match X G) RoomReply) → kept_with rules room (of_room r) change.Clear ≡ with_none r.serials y → ((n : Match X G) → x ≡ Ok n → y ≡ Ok n) → Declined x
      → kept_from rules room (of_room r) (change_made (is_accepted (reply_by (λ (m : Match X G). answer.Cleared) x)) (Some change.Clear)) ≡ Some (of_room (with_cleared r x))
  clear_step r (Ok m) y e f d = takes_in change.Clear (of_room r) (record { serials = r.serials; standing = None }) true refl (e ∙ ap (with_none r.serials) (f m refl))
  clear_step r (Err why) y e f d = passes_over (Some change.Clear) (of_room r) (is_accepted why) d

  -- a submission, by what becomes of it
  abbrev kept_by : Kept X G → Fate X G → Kept X G
  kept_by k Unheard = k
  kept_by k (Turned n why) = k
  kept_by k (Goes m) = record { serials = k.serials; standing = Some m }

  abbrev FateMakes : Kept X G → Fate X G → Option (Change X) → Type 0
  FateMakes k f o = kept_from rules room k (change_made (is_accepted (submit_reply f)) o) ≡ Some (kept_by k f)

  abbrev with_standing : ℕ → Match X G → Kept X G
  with_standing serials m = record { serials = serials; standing = Some m }

  player_step : (serials : ℕ) (m : Match X G) (seat : ℕ) (key : List ℕ) (s : Submission) (o : Option Player) → is_some o ≡ true → first_reason rules room m (Some (seat, key)) s ≡ None
      → option_map (with_standing serials) (acted_by rules room m seat s.asked o) ≡ Some (with_standing serials (match_accepting rules m (Some (seat, key)) s))
  player_step serials m seat key s None t e = absurd (no_both t)
  player_step serials m seat key s (Some player) t e =
      ap (λ (r : Option Reason). option_map (with_standing serials) (option_map_or (λ reason. None) r (Some (match_accepting rules m (claim seat player) (submission room m player s.asked))))) (again m seat key player s e)

  verdict_step : (serials : ℕ) (m : Match X G) (viewer : Viewer) (s : Submission) → Sits m.roster viewer → (o : Option Reason) → first_reason rules room m viewer s ≡ o
      → FateMakes (record { serials = serials; standing = Some m }) (fate_by rules room m viewer s o) (act_by (Some (seat_of viewer)) s.asked)
  verdict_step serials m viewer s sits (Some why) e = passes_over (act_by (Some (seat_of viewer)) s.asked) (record { serials = serials; standing = Some m }) false refl
  verdict_step serials m None s sits None e =
      absurd (spectator_broken (rules m.game).sheet (table_of rules m).ctx (number_of m) (is_named room m.serial s.name) (has_key None s.key) s.asked s.number (allowed _ _ e).by_rules)
  verdict_step serials m (Some claimed) s sits None e =
      takes_in (change.Act claimed.0 s.asked) (record { serials = serials; standing = Some m }) (record { serials = serials; standing = Some (match_accepting rules m (Some claimed) s) }) true refl
      (player_step serials m claimed.0 claimed.1 s (player_at m.roster claimed.0) sits e)

  fate_step : (serials : ℕ) (st : Option (Match X G)) (l : List Session) (s : Submission) → Listed rules room st l → Seated rules room st l
      → FateMakes (record { serials = serials; standing = st }) (fate rules room st l s) (act_by (latest_seat l) s.asked)
  fate_step serials st [] s k sits = refl
  fate_step serials None (c ∷ before) s k sits = passes_over (act_by (latest_seat (c ∷ before)) s.asked) (record { serials = serials; standing = None }) false refl
  fate_step serials (Some m) (c ∷ before) s k sits = by (session_state c) refl
    where
      by : (state : State) → session_state c ≡ state → FateMakes (record { serials = serials; standing = Some m }) (fate_in rules room (Some m) state c.viewer s) (act_by (seat_in state c.viewer) s.asked)
      by Open e = verdict_step serials m c.viewer s (sits (k.good.goes_on (subst IsOpen (sym e) tt))) (first_reason rules room m c.viewer s) refl
      by (Ended why) e = refl
      by Closed e = refl

  fate_is : (r : Room X G) (f : Fate X G) → Some (kept_by (of_room r) f) ≡ Some (of_room (with_fate rules room r f))
  fate_is r Unheard = refl
  fate_is r (Turned n why) = refl
  fate_is r (Goes m) = refl

  attach_is : (r : Room X G) (pass : ℕ) (serial : ℕ) (viewer : Viewer) (protocol : Protocol) (x : Result (Match X G) RoomReply) → Some (of_room r) ≡ Some (of_room (with_session rules room pass viewer protocol r x))
  attach_is r pass serial viewer protocol (Ok m) = refl
  attach_is r pass serial viewer protocol (Err why) = refl

  abbrev CallMakes : Room X G → ℕ → RoomCall X → Type 0
  CallMakes r pass call = kept_from rules room (of_room r) (change_made (is_accepted (reply_to rules room r pass call)) (change_asked (latest_seat (r.sessions pass)) call)) ≡ Some (of_room (room_after rules room r pass call))

  call_step : (r : Room X G) (pass : ℕ) (call : RoomCall X) → Listed rules room r.standing (r.sessions pass) → Seated rules room r.standing (r.sessions pass) → CallMakes r pass call
  call_step r pass (Create game seats seed) k sits =
      create_step r (change.Create game seats seed) (created_match rules r.serials r.standing game seats seed) refl (created_declined rules r.serials r.standing game seats seed)
  call_step r pass (Join serial seat name key) k sits =
      seat_step r (change.Join seat name key) answer.Joined (reseated_match (named_match r.standing serial) (λ roster. join roster seat name key)) (reseated_match (looked_match r.standing None) (λ roster. join roster seat name key))
      refl refl (named_stands r.standing serial (λ roster. join roster seat name key)) (reseated_declined r.standing serial (λ roster. join roster seat name key))
  call_step r pass (Rename serial seat key name) k sits =
      seat_step r (change.Rename seat key name) answer.Renamed (reseated_match (named_match r.standing serial) (λ roster. rename roster seat key name)) (reseated_match (looked_match r.standing None) (λ roster. rename roster seat key name))
      refl refl (named_stands r.standing serial (λ roster. rename roster seat key name)) (reseated_declined r.standing serial (λ roster. rename roster seat key name))
  call_step r pass (Leave serial seat key) k sits =
      leave_step r (change.Leave seat key) seat (reseated_match (named_match r.standing serial) (λ roster. leave roster seat key)) (reseated_match (looked_match r.standing None) (λ roster. leave roster seat key))
      refl (named_stands r.standing serial (λ roster. leave roster seat key)) (reseated_declined r.standing serial (λ roster. leave roster seat key))
  call_step r pass (Look serial) k sits = has_none (of_room r) (is_accepted (reply_to rules room r pass (Look serial)))
  call_step r pass (Attach serial viewer protocol) k sits =
      has_none (of_room r) (is_accepted (reply_to rules room r pass (Attach serial viewer protocol))) ∙ attach_is r pass serial viewer protocol (attached_match r.standing (latest_state (r.sessions pass)) serial viewer)
  call_step r pass (Submit s) k sits =
      fate_step r.serials r.standing (r.sessions pass) s k sits ∙ fate_is (with_one pass (after_submission rules room r.standing s) r) (fate rules room r.standing (r.sessions pass) s)
  call_step r pass Take k sits = has_none (of_room r) (is_accepted (reply_to rules room r pass Take))
  call_step r pass Detach k sits = has_none (of_room r) (is_accepted (reply_to rules room r pass Detach))
  call_step r pass (Clear serial) k sits = clear_step r (named_match r.standing serial) (looked_match r.standing None) refl (named_is r.standing serial) (named_declined r.standing serial)

  want_is : (r : Room X G) (pass : ℕ) (call : RoomCall X) → Some (of_room r) ≡ Some (of_room (room_after_want rules room r pass call))
  want_is r pass (Create game seats seed) = refl
  want_is r pass (Join serial seat name key) = refl
  want_is r pass (Rename serial seat key name) = refl
  want_is r pass (Leave serial seat key) = refl
  want_is r pass (Look serial) = refl
  want_is r pass (Attach serial viewer protocol) = refl
  want_is r pass (Submit s) = refl
  want_is r pass Take = refl
  want_is r pass Detach = refl
  want_is r pass (Clear serial) = refl

  entry_step : (starved : Bool) (r : Room X G) (pass : ℕ) (call : RoomCall X) → Listed rules room r.standing (r.sessions pass) → Seated rules room r.standing (r.sessions pass)
      → kept_from rules room (of_room r) (change_made (is_accepted (if starved then answer.NoMemory else reply_to rules room r pass call)) (change_asked (latest_seat (r.sessions pass)) call))
      ≡ Some (of_room (if starved then room_after_want rules room r pass call else room_after rules room r pass call))
  entry_step true r pass call k sits = want_is r pass call
  entry_step false r pass call k sits = call_step r pass call k sits

  more_from : (o : Option (Kept X G)) (cs ds : List (Change X)) → ((next : Kept X G) → kept_from rules room next (cs ++ ds) ≡ option_and_then (λ n. kept_from rules room n ds) (kept_from rules room next cs))
      → option_and_then (λ next. kept_from rules room next (cs ++ ds)) o ≡ option_and_then (λ n. kept_from rules room n ds) (option_and_then (λ next. kept_from rules room next cs) o)
  more_from None cs ds f = refl
  more_from (Some k) cs ds f = f k

  -- changes one after the other
  pub kept_more : (cs ds : List (Change X)) (k : Kept X G) → kept_from rules room k (cs ++ ds) ≡ option_and_then (λ n. kept_from rules room n ds) (kept_from rules room k cs)
  kept_more [] ds k = refl
  kept_more (c ∷ cs) ds k = more_from (kept_with rules room k c) cs ds (kept_more cs ds)

  pub makes : (h : List (Entry (RoomCall X))) → kept rules room (changes_of rules room h) ≡ Some (of_room (room_of rules room h))
  unfolding reply
  makes [] = refl
  makes (e ∷ h) =
      kept_more (changes_of rules room h) (change_made (is_accepted (reply rules room h e)) (change_asked (latest_seat ((room_of rules room h).sessions e.pass)) e.call)) (record { serials = 0; standing = None })
      ∙ ap (option_and_then (λ n. kept_from rules room n (change_made (is_accepted (reply rules room h e)) (change_asked (latest_seat ((room_of rules room h).sessions e.pass)) e.call)))) (makes h)
      ∙ entry_step e.starved (room_of rules room h) e.pass e.call ((kept_room rules room h).all e.pass) ((seated rules room h).all e.pass)
