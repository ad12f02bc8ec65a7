-- An action that is made again: its seat's pass is attached anew, and what it submits is judged as a kept action is.
use Rattle.std.proofs.Common.{◌≡◌, ◌≤◌, ℕ, zero, suc, ◌==◌, Bool, true, false, if◌then◌else◌, List, [], ◌∷◌, ◌++◌, map, slice_get, Option, Some, None, option_map, Result, Ok, Err, bytes_eq, refl, sym, ap, ◌∙◌, subst, arith, append-nil}
use Rattle.std.proofs.lemmas.Bool.Decides.{nat_tests}
use Rattle.std.proofs.lemmas.Slice.Eq.{bytes_eq-Decides}
use Rattle.std.specs.Option.{option_map_or, option_flatten}
use Rattle.any_game.specs.AnyRules.{any_rules}
use Rattle.any_game.specs.GameKind.{GameKind}
use Rattle.any_game.specs.declared.any_g.AnyG.{AnyG}
use Rattle.game_sheet.specs.MatchName.{Name}
use Rattle.game_sheet.specs.Viewer.{Viewer}
use Rattle.room_object.specs.Entry.{entry}
use Rattle.seat_roster.specs.Player.{Player, Seats, player_at}
use Rattle.match_master.specs.Held.{Held, StandsFor}
use Rattle.object_journal.specs.declared.replaying.Replayed.{Replayed}
use Rattle.object_journal.specs.declared.replaying.Replayed.TheVariants as replayed
use Rattle.room_history.specs.Does.{Room, new_session, with_session}
use Rattle.room_history.specs.Match.{Match, number_of}
use Rattle.room_history.specs.Piece.{State, Open, Closed}
use Rattle.room_history.specs.Reply.{attached_match, fate, fate_in, named_match, open_match, submit_reply}
use Rattle.room_history.specs.Room.{latest_seat, number, reply, room_of, seat_in, serials, standing, viewer_of}
use Rattle.room_history.specs.Stream.{stream}
use Rattle.room_history.specs.Session.{Session, is_detached, latest_state, session_state, with_latest}
use Rattle.room_history.proofs.Names.{fate_by, lets_in, after_detach}
use Rattle.room_history.specs.Verdict.{first_reason, match_accepting}
use Rattle.room_history.specs.declared.call.RoomCall.TheVariants.{Attach, Detach, Submit, Take}
use Rattle.room_history.specs.declared.reply.RoomReply.{RoomReply}
use Rattle.room_history.specs.declared.reply.RoomReply.TheVariants as answer
use Rattle.wire_json.specs.declared.asked.Asked.{Asked}
use Rattle.wire_json.specs.declared.protocol.Protocol.TheVariants.{Two}
use Rattle.wire_json.specs.declared.reason.Reason.{Reason}
use Rattle.wire_json.specs.declared.submission.Submission.{Submission}
use Rattle.game_trait.specs.Rules.{Rules}
use Rattle.room_changes.specs.ChangesOf.{act_by, change_made, changes_of, is_accepted}
use Rattle.room_changes.specs.Kept.{Kept, acted_by, kept, kept_with, submission}
use Rattle.room_changes.proofs.Making.{makes}
use Rattle.room_changes.specs.declared.change.Change.{Change}
use Rattle.room_changes.specs.declared.change.Change.TheVariants as change
use Rattle.room_journal.specs.Coming.{Calls, Does, Fits, FitsMatch, HasAdded, HasDone, HasStayed, key_at}
use Rattle.room_journal.proofs.Made.{Entries, adds, done_fits, kept_next, kept_of}
use Rattle.room_journal.proofs.Steps.{true_false}

-- ---- a pass that is detached

detached : (s : Session) → session_state (after_detach s) ≡ Closed
detached s = by (is_detached s.own) refl
  where
    by : (b : Bool) → is_detached s.own ≡ b → session_state (after_detach s) ≡ Closed
    by true e = rw (e) (rw (e) refl)
    by false e = rw (e) refl

closes : (l : List Session) → latest_state (with_latest after_detach l) ≡ Closed
closes [] = refl
closes (s ∷ before) = detached s

pub itself : (n : ℕ) → (n == n) ≡ true
itself n = grind (arith, nat_tests)

no_change : (b : Bool) (cs : List (Change GameKind)) → cs ++ change_made b None ≡ cs
no_change true cs = append-nil cs
no_change false cs = append-nil cs

-- ---- keys

slot : (seats : Seats) (seat : ℕ) (key : List ℕ) → option_flatten (slice_get (map key_at seats) seat) ≡ Some key → (player : Player) × (player_at seats seat ≡ Some player) × (player.key ≡ key)
slot [] seat key e = absurd (cc)
slot (None ∷ seats) zero key e = absurd (cc)
slot (Some player ∷ seats) zero key e = let same : player.key ≡ key = cc in (player, refl, same)
slot (x ∷ seats) (suc seat) key e = slot seats seat key e

no_slot : (seats : Seats) (seat : ℕ) → option_flatten (slice_get (map key_at seats) seat) ≡ None → player_at seats seat ≡ None
no_slot [] seat e = refl
no_slot (None ∷ seats) zero e = refl
no_slot (Some player ∷ seats) zero e = absurd (cc)
no_slot (x ∷ seats) (suc seat) e = no_slot seats seat e

module _ {X G : Type 0} where
  lets : (m : Match X G) (seat : ℕ) (key : List ℕ) (player : Player) → player_at m.roster seat ≡ Some player → player.key ≡ key → lets_in m.roster (Some (seat, key)) ≡ true
  lets m seat key player e k = ap (λ (o : Option Player). option_map_or (λ (p : Player). bytes_eq p.key key) o false) e ∙ (bytes_eq-Decides player.key key).1 k

  pub named : (m : Match X G) (serial : ℕ) → m.serial ≡ serial → named_match (Some m) serial ≡ Ok m
  named m serial e = by (m.serial == serial) (grind (arith, nat_tests, e))
    where
      by : (b : Bool) → b ≡ true → (if b then Ok m else Err answer.NoMatch) ≡ Ok m
      by true e = refl
      by false e = true_false (sym e)

  opened : (m : Match X G) (viewer : Viewer) (x : Result (Match X G) RoomReply) → x ≡ Ok m → lets_in m.roster viewer ≡ true → open_match viewer x ≡ Ok m
  opened m viewer x e t = ap (open_match viewer) e ∙ by (lets_in m.roster viewer) t
    where
      by : (b : Bool) → b ≡ true → (if b then Ok m else Err answer.Unauthorized) ≡ Ok m
      by true e = refl
      by false e = true_false (sym e)

module _ (room : ℕ) (h : Entries room) (pass : ℕ) where
  abbrev pub before : Entries room
  before = entry pass Detach false ∷ h

  pub closed : latest_state ((room_of any_rules room before).sessions pass) ≡ Closed
  closed = by (pass == pass) (itself pass)
    where
      by : (b : Bool) → b ≡ true → latest_state (if b then with_latest after_detach ((room_of any_rules room h).sessions pass) else (room_of any_rules room h).sessions pass) ≡ Closed
      by true e = closes ((room_of any_rules room h).sessions pass)
      by false e = true_false (sym e)

  module _ (serial seat : ℕ) (key : List ℕ) where
    abbrev viewer : Viewer
    viewer = Some (seat, key)

    abbrev pub attached : Entries room
    attached = entry pass (Attach serial viewer Two) false ∷ before

    abbrev Same : Entries room → Type 0
    Same after = changes_of any_rules room after ≡ changes_of any_rules room h

    same_changes : Same attached
    same_changes =
        no_change (is_accepted (reply any_rules room before (entry pass (Attach serial viewer Two) false))) (changes_of any_rules room before)
        ∙ no_change (is_accepted (reply any_rules room h (entry pass Detach false))) (changes_of any_rules room h)

    module _ (m : Match GameKind AnyG) (stands : standing any_rules room h ≡ Some m) (serial_is : m.serial ≡ serial) (lets_in_so : lets_in m.roster viewer ≡ true) where
      finds : attached_match (standing any_rules room before) (latest_state ((room_of any_rules room before).sessions pass)) serial viewer ≡ Ok m
      finds =
          ap (λ (state : State). attached_match (standing any_rules room h) state serial viewer) closed
          ∙ ap (λ (st : Option (Match GameKind AnyG)). open_match viewer (named_match st serial)) stands
          ∙ opened m viewer (named_match (Some m) serial) (named m serial serial_is) lets_in_so

      abbrev made_room : Room GameKind AnyG
      made_room = with_session any_rules room pass viewer Two (room_of any_rules room before) (Ok m)

      room_is : room_of any_rules room attached ≡ made_room
      room_is = ap (with_session any_rules room pass viewer Two (room_of any_rules room before)) finds

      abbrev session : Session
      session = new_session any_rules room m viewer Two

      sessions_are : made_room.sessions pass ≡ session ∷ (room_of any_rules room before).sessions pass
      sessions_are = by (pass == pass) (itself pass)
        where
          by : (b : Bool) → b ≡ true → (if b then session ∷ (room_of any_rules room before).sessions pass else (room_of any_rules room before).sessions pass) ≡ session ∷ (room_of any_rules room before).sessions pass
          by true e = refl
          by false e = true_false (sym e)

      is_open : session_state session ≡ Open
      unfolding stream
      is_open = refl

      pub looks : viewer_of any_rules room attached pass ≡ Some (Some seat)
      looks = ap (λ (r : Room GameKind AnyG). latest_seat (r.sessions pass)) room_is ∙ ap latest_seat sessions_are ∙ ap (λ (state : State). seat_in state viewer) is_open

      pub replies : (s : Submission) → reply any_rules room attached (entry pass (Submit s) false) ≡ submit_reply (fate_by any_rules room m viewer s (first_reason any_rules room m viewer s))
      unfolding reply
      replies s =
          ap (λ (r : Room GameKind AnyG). submit_reply (fate any_rules room r.standing (r.sessions pass) s)) room_is
          ∙ ap (λ (l : List Session). submit_reply (fate any_rules room (standing any_rules room h) l s)) sessions_are
          ∙ ap (λ (state : State). submit_reply (fate_in any_rules room (standing any_rules room h) state viewer s)) is_open
          ∙ ap (λ (st : Option (Match GameKind AnyG)). submit_reply (fate_in any_rules room st Open viewer s)) stands

refuses : {X G : Type 0} (rules : X → Rules G) (room : ℕ) (m : Match X G) (viewer : Viewer) (s : Submission) (why : Option Reason) → is_accepted (submit_reply (fate_by rules room m viewer s why)) ≡ false → (after : Match X G) → option_map_or (λ reason. None) why (Some after) ≡ None
refuses rules room m _ s None e after = true_false e
refuses rules room m _ s (Some why) e after = refl

-- a kept action is judged as the submission that makes it again
act_refused : (room : ℕ) (h : Entries room) (m : Match GameKind AnyG) (seat : ℕ) (key : List ℕ) (player : Player) (asked : Asked) (s : Submission) → standing any_rules room h ≡ Some m → player_at m.roster seat ≡ Some player → player.key ≡ key
    → s ≡ record { name = record { room = room; serial = m.serial }; key = key; number = number_of m; ticket = 0; asked = asked }
    → is_accepted (submit_reply (fate_by any_rules room m (Some (seat, key)) s (first_reason any_rules room m (Some (seat, key)) s))) ≡ false
    → kept_with any_rules room (kept_of room h) (change.Act seat asked) ≡ None
act_refused room h m seat key player asked s stands sits is same e = by key is same e
  where
    by : (k : List ℕ) → player.key ≡ k → s ≡ record { name = record { room = room; serial = m.serial }; key = k; number = number_of m; ticket = 0; asked = asked }
        → is_accepted (submit_reply (fate_by any_rules room m (Some (seat, k)) s (first_reason any_rules room m (Some (seat, k)) s))) ≡ false → kept_with any_rules room (kept_of room h) (change.Act seat asked) ≡ None
    by k is same e =
        let own : submission room m player asked ≡ s = ap (λ (z : List ℕ). record { name = record { room = room; serial = m.serial }; key = z; number = number_of m; ticket = 0; asked = asked }) is ∙ sym same in
        let judged : option_map_or (λ reason. None) (first_reason any_rules room m (Some (seat, player.key)) (submission room m player asked)) (Some (match_accepting any_rules m (Some (seat, player.key)) (submission room m player asked))) ≡ None =
        refuses any_rules room m (Some (seat, player.key)) (submission room m player asked) (first_reason any_rules room m (Some (seat, player.key)) (submission room m player asked))
        (subst (λ (z : List ℕ). is_accepted (submit_reply (fate_by any_rules room m (Some (seat, z)) (submission room m player asked) (first_reason any_rules room m (Some (seat, z)) (submission room m player asked)))) ≡ false) (sym is)
        (subst (λ (t : Submission). is_accepted (submit_reply (fate_by any_rules room m (Some (seat, k)) t (first_reason any_rules room m (Some (seat, k)) t))) ≡ false) (sym own) e))
        (match_accepting any_rules m (Some (seat, player.key)) (submission room m player asked)) in
        ap (λ (st : Option (Match GameKind AnyG)). kept_with any_rules room (record { serials = serials any_rules room h; standing = st }) (change.Act seat asked)) stands
        ∙ ap (λ (o : Option Player). option_map (λ (n : Match GameKind AnyG). record { serials = serials any_rules room h; standing = Some n }) (acted_by any_rules room m seat asked o)) sits
        ∙ ap (option_map (λ (n : Match GameKind AnyG). record { serials = serials any_rules room h; standing = Some n })) judged

-- nobody sits there, or no match stands
pub nobody : (room : ℕ) (h : Entries room) (keys : List (Option (List ℕ))) (seat : ℕ) (asked : Asked) → Fits keys (serials any_rules room h) (standing any_rules room h) → option_flatten (slice_get keys seat) ≡ None → kept any_rules room (changes_of any_rules room h ++ change.Act seat asked ∷ []) ≡ None
nobody room h keys seat asked fits e = kept_next room h (change.Act seat asked) ∙ by (standing any_rules room h) fits
  where
    by : (st : Option (Match GameKind AnyG)) → Fits keys (serials any_rules room h) st → kept_with any_rules room (record { serials = serials any_rules room h; standing = st }) (change.Act seat asked) ≡ None
    by None fits = refl
    by (Some m) fits = ap (λ (o : Option Player). option_map (λ (n : Match GameKind AnyG). record { serials = serials any_rules room h; standing = Some n }) (acted_by any_rules room m seat asked o))
        (no_slot m.roster seat (subst (λ (l : List (Option (List ℕ))). option_flatten (slice_get l seat) ≡ None) fits.keys_are e))

pub no_match : (room : ℕ) (h : Entries room) (seat : ℕ) (asked : Asked) → number any_rules room h ≡ None → kept any_rules room (changes_of any_rules room h ++ change.Act seat asked ∷ []) ≡ None
no_match room h seat asked e = kept_next room h (change.Act seat asked) ∙ by (standing any_rules room h) e
  where
    by : (st : Option (Match GameKind AnyG)) → option_map (λ (m : Match GameKind AnyG). number_of m) st ≡ None → kept_with any_rules room (record { serials = serials any_rules room h; standing = st }) (change.Act seat asked) ≡ None
    by None e = refl
    by (Some m) e = absurd (cc)

-- what becomes of an action by its three calls
pub acts : (room : ℕ) (h : Entries room) (pass seat serial number_now : ℕ) (keys : List (Option (List ℕ))) (key : List ℕ) (asked : Asked) (s : Submission) (book : Held GameKind AnyG) (r : Replayed)
    → Fits keys (serials any_rules room h) (standing any_rules room h) → serials any_rules room h ≡ serial → number any_rules room h ≡ Some number_now → option_flatten (slice_get keys seat) ≡ Some key
    → s ≡ record { name = record { room = room; serial = serial }; key = key; number = number_now; ticket = 0; asked = asked }
    → Calls room (attached room h pass serial seat key) pass (Submit s) book r → Does room h (change.Act seat asked) book keys r
acts room h pass seat serial number_now keys key asked s book r fits made at slot_is same so = by (standing any_rules room h) refl
  where
    by : (st : Option (Match GameKind AnyG)) → standing any_rules room h ≡ st → Does room h (change.Act seat asked) book keys r
    by None e = absurd (cc (at, ap (option_map (λ (m : Match GameKind AnyG). number_of m)) e))
    by (Some m) e =
        let so_fits : FitsMatch keys (serials any_rules room h) m = subst (λ (st : Option (Match GameKind AnyG)). Fits keys (serials any_rules room h) st) e fits in
        let sits = slot m.roster seat key (subst (λ (l : List (Option (List ℕ))). option_flatten (slice_get l seat) ≡ Some key) so_fits.keys_are slot_is) in
        let serial_is : m.serial ≡ serial = so_fits.latest ∙ made in
        let lets_so = lets m seat key sits.0 sits.1 sits.2 in
        let told : Some (number_of m) ≡ Some number_now = sym (ap (option_map (λ (m : Match GameKind AnyG). number_of m)) e) ∙ at in
        let number_is : number_of m ≡ number_now = cc in
        let seen = looks room h pass serial seat key m e serial_is lets_so in
        let heard = replies room h pass serial seat key m e serial_is lets_so s in
        let s_is : s ≡ record { name = record { room = room; serial = m.serial }; key = key; number = number_of m; ticket = 0; asked = asked } =
        same ∙ ap (λ (n : ℕ). record { name = record { room = room; serial = n }; key = key; number = number_now; ticket = 0; asked = asked }) (sym serial_is)
        ∙ ap (λ (n : ℕ). record { name = record { room = room; serial = m.serial }; key = key; number = n; ticket = 0; asked = asked }) (sym number_is) in
        on r so seen heard s_is sits lets_so
      where
        on : (r : Replayed) → Calls room (attached room h pass serial seat key) pass (Submit s) book r → viewer_of any_rules room (attached room h pass serial seat key) pass ≡ Some (Some seat)
            → reply any_rules room (attached room h pass serial seat key) (entry pass (Submit s) false) ≡ submit_reply (fate_by any_rules room m (Some (seat, key)) s (first_reason any_rules room m (Some (seat, key)) s))
            → s ≡ record { name = record { room = room; serial = m.serial }; key = key; number = number_of m; ticket = 0; asked = asked }
            → ((player : Player) × (player_at m.roster seat ≡ Some player) × (player.key ≡ key)) → lets_in m.roster (Some (seat, key)) ≡ true → Does room h (change.Act seat asked) book keys r
        on replayed.Done so seen heard s_is sits lets_so =
            let asked_is : s.asked ≡ asked = ap (λ (t : Submission). t.asked) s_is in
            let more : changes_of any_rules room (entry pass (Submit s) false ∷ attached room h pass serial seat key) ≡ changes_of any_rules room h ++ change.Act seat asked ∷ [] =
            adds room (attached room h pass serial seat key) pass (Submit s) (change.Act seat s.asked) so.1 (ap (λ (v : Option (Option ℕ)). act_by v s.asked) seen)
            ∙ ap (λ (cs : List (Change GameKind)). cs ++ change.Act seat s.asked ∷ []) (same_changes room h pass serial seat key)
            ∙ ap (λ (a : Asked). changes_of any_rules room h ++ change.Act seat a ∷ []) asked_is in
            record {
              after = entry pass (Submit s) false ∷ attached room h pass serial seat key;
              stands = so.0;
              adds = more;
              fits = done_fits room h (entry pass (Submit s) false ∷ attached room h pass serial seat key) (change.Act seat asked) keys more fits;
            }
        on replayed.Refused so seen heard s_is sits lets_so =
            kept_next room h (change.Act seat asked) ∙ act_refused room h m seat key sits.0 asked s e sits.1 sits.2 s_is (sym (ap is_accepted heard) ∙ so.1)
        on replayed.NoMemory so seen heard s_is sits lets_so = tt

-- what the pass that made an action again was told is taken out
taken : (room : ℕ) (h : Entries room) (pass : ℕ) (c : Change GameKind) (book after : Held GameKind AnyG) (keys : List (Option (List ℕ))) (r : Replayed) → Does room h c book keys r
    → ((before : Entries room) → StandsFor any_rules book before → StandsFor any_rules after (entry pass Take false ∷ before)) → Does room h c after keys r
taken room h pass c book after keys replayed.Done does stands = record {
  after = entry pass Take false ∷ does.after;
  stands = stands does.after does.stands;
  adds = no_change (is_accepted (reply any_rules room does.after (entry pass Take false))) (changes_of any_rules room does.after) ∙ does.adds;
  fits = does.fits;
}
taken room h pass c book after keys replayed.Refused does stands = does
taken room h pass c book after keys replayed.NoMemory does stands = tt

pub taken_keys : (room : ℕ) (h : Entries room) (pass : ℕ) (c : Change GameKind) (book after : Held GameKind AnyG) (keys keys_now : List (Option (List ℕ))) (r : Replayed) → Does room h c book keys r → keys_now ≡ keys
    → ((before : Entries room) → StandsFor any_rules book before → StandsFor any_rules after (entry pass Take false ∷ before)) → Does room h c after keys_now r
taken_keys room h pass c book after keys keys_now r does same stands = subst (λ (l : List (Option (List ℕ))). Does room h c after l r) (sym same) (taken room h pass c book after keys r does stands)

no_one : {P : Type 0} (n : ℕ) → 1 ≤ n → n ≡ 0 → P
no_one n some none = absurd (omega (arith, some, none))

-- no match stands before one was made
pub unmade : (room : ℕ) (h : Entries room) (keys : List (Option (List ℕ))) (seat : ℕ) (asked : Asked) → Fits keys (serials any_rules room h) (standing any_rules room h) → serials any_rules room h ≡ 0 → kept any_rules room (changes_of any_rules room h ++ change.Act seat asked ∷ []) ≡ None
unmade room h keys seat asked fits e = kept_next room h (change.Act seat asked) ∙ by (standing any_rules room h) fits
  where
    by : (st : Option (Match GameKind AnyG)) → Fits keys (serials any_rules room h) st → kept_with any_rules room (record { serials = serials any_rules room h; standing = st }) (change.Act seat asked) ≡ None
    by None fits = refl
    by (Some m) fits = no_one (serials any_rules room h) fits.some e

abbrev pub asking : Name → List ℕ → ℕ → Asked → Submission
asking name key number_now asked = record { name = name; key = key; number = number_now; ticket = 0; asked = asked }

abbrev pub name_in : ℕ → ℕ → Name
name_in room serial = record { room = room; serial = serial }

-- the submission names the match by the room's number as it is then
pub acts_in : (room other : ℕ) → other ≡ room → (h : Entries room) (pass seat serial number_now : ℕ) (keys keys_now : List (Option (List ℕ))) (key : List ℕ) (asked : Asked) (name : Name) (mid book : Held GameKind AnyG) (r : Replayed)
    → Fits keys (serials any_rules room h) (standing any_rules room h) → serial ≡ serials any_rules room h → Some number_now ≡ number any_rules room h → Some key ≡ option_flatten (slice_get keys seat)
    → name ≡ name_in other serial → keys_now ≡ keys → StandsFor any_rules mid (attached room h pass serial seat key)
    → ((before : Entries other) → StandsFor any_rules mid before → Calls other before pass (Submit (asking name key number_now asked)) book r) → Does room h (change.Act seat asked) book keys_now r
acts_in room other e h pass seat serial number_now keys keys_now key asked name mid book r fits made at slot_is named same stands calls =
    let name_is : name ≡ name_in room serial = named ∙ ap (λ (n : ℕ). name_in n serial) e in
    let s_is : asking name key number_now asked ≡ asking (name_in room serial) key number_now asked = ap (λ (m : Name). asking m key number_now asked) name_is in
    subst (λ (l : List (Option (List ℕ))). Does room h (change.Act seat asked) book l r) (sym same)
    (acts room h pass seat serial number_now keys key asked (asking name key number_now asked) book r fits (sym made) (sym at) (sym slot_is) s_is
    (subst (λ (n : ℕ). (before : Entries n) → StandsFor any_rules mid before → Calls n before pass (Submit (asking name key number_now asked)) book r) e calls (attached room h pass serial seat key) stands))

-- ---- an action that a session submits at once

pub untouched : (room : ℕ) (h : Entries room) (book : Held GameKind AnyG) → StandsFor any_rules book h → HasStayed room h book
untouched room h book stands = record { after = h; stands = stands; same = refl }

pub stays_on : (room : ℕ) (h : Entries room) (mid book : Held GameKind AnyG) → HasStayed room h mid → ((before : Entries room) → StandsFor any_rules mid before → HasStayed room before book) → HasStayed room h book
stays_on room h mid book stayed on = let next = on stayed.after stayed.stands in record { after = next.after; stands = next.stands; same = next.same ∙ stayed.same }

-- no change leaves the match and its keys
fits_same : (room : ℕ) (h after : Entries room) (keys : List (Option (List ℕ))) → changes_of any_rules room after ≡ changes_of any_rules room h → Fits keys (serials any_rules room h) (standing any_rules room h)
    → Fits keys (serials any_rules room after) (standing any_rules room after)
fits_same room h after keys same fits =
    let told : Some (kept_of room h) ≡ Some (kept_of room after) = sym (makes any_rules room h) ∙ ap (kept any_rules room) (sym same) ∙ makes any_rules room after in
    let is : kept_of room h ≡ kept_of room after = cc in
    subst (λ (k : Kept GameKind AnyG). Fits keys k.serials k.standing) is fits

-- what becomes of it after calls that made no change
does_after : (room : ℕ) (h after : Entries room) (c : Change GameKind) (book : Held GameKind AnyG) (keys : List (Option (List ℕ))) (r : Replayed) → changes_of any_rules room after ≡ changes_of any_rules room h
    → Does room after c book keys r → Does room h c book keys r
does_after room h after c book keys replayed.Done same does = record {
  after = does.after;
  stands = does.stands;
  adds = does.adds ∙ ap (λ (cs : List (Change GameKind)). cs ++ c ∷ []) same;
  fits = does.fits;
}
does_after room h after c book keys replayed.Refused same does = ap (λ (cs : List (Change GameKind)). kept any_rules room (cs ++ c ∷ [])) (sym same) ∙ does
does_after room h after c book keys replayed.NoMemory same does = tt

pub tries_on : (room other : ℕ) → other ≡ room → (h : Entries room) (c : Change GameKind) (mid book : Held GameKind AnyG) (keys keys_mid keys_now : List (Option (List ℕ))) (r : Replayed) → keys_mid ≡ keys → Fits keys (serials any_rules room h) (standing any_rules room h)
    → HasStayed room h mid → ((before : Entries other) → StandsFor any_rules mid before → Fits keys_mid (serials any_rules other before) (standing any_rules other before) → Does other before c book keys_now r) → Does room h c book keys_now r
tries_on room other e h c mid book keys keys_mid keys_now r same fits stayed does =
    let at_room = subst (λ (n : ℕ). (before : Entries n) → StandsFor any_rules mid before → Fits keys_mid (serials any_rules n before) (standing any_rules n before) → Does n before c book keys_now r) e does in
    let still : Fits keys_mid (serials any_rules room stayed.after) (standing any_rules room stayed.after) =
    subst (λ (l : List (Option (List ℕ))). Fits l (serials any_rules room stayed.after) (standing any_rules room stayed.after)) (sym same) (fits_same room h stayed.after keys stayed.same fits) in
    does_after room h stayed.after c book keys_now r stayed.same (at_room stayed.after stayed.stands still)

pub has_acted : (room : ℕ) (h : Entries room) (seat : ℕ) (asked : Asked) (book : Held GameKind AnyG) (keys keys_now : List (Option (List ℕ))) → keys_now ≡ keys → Fits keys (serials any_rules room h) (standing any_rules room h) → HasAdded room h (change.Act seat asked) book
    → HasDone room h (change.Act seat asked) book keys_now
has_acted room h seat asked book keys keys_now same fits added = record {
  after = added.after;
  stands = added.stands;
  adds = added.adds;
  fits = subst (λ (l : List (Option (List ℕ))). Fits l (serials any_rules room added.after) (standing any_rules room added.after)) (sym same) (done_fits room h added.after (change.Act seat asked) keys added.adds fits);
}
