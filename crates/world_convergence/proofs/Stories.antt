-- A client's story since it was attached: what it has read, what is on its links, and what its session was sent and has done.
use Rattle.std.proofs.Common.{◌≡◌, ◌⊎◌, inl, inr, ◌≤◌, ◌<◌, ◌||◌, ℕ, zero, suc, ◌+◌, Bool, true, false, if◌then◌else◌, List, [], ◌∷◌, ◌++◌, length, Option, Some, None, Ok, Err, refl, sym, ap, ◌∙◌, subst, append_assoc, arith}
use Rattle.std.specs.Prelude.{Result}
use Rattle.client_predict.specs.Client.{Client, Held, fresh}
use Rattle.client_predict.specs.Reading.{reads}
use Rattle.game_trait.specs.Lawful.{Lawful}
use Rattle.game_trait.specs.Rules.{Rules}
use Rattle.game_sheet.specs.Viewer.{Viewer}
use Rattle.game_sheet.specs.MatchName.{Name}
use Rattle.room_history.specs.Course.{IsFirstPart}
use Rattle.room_history.specs.Piece.{lines_to_mark}
use Rattle.room_history.specs.Room.{room_of, session, session_in}
use Rattle.room_history.specs.Session.{Session, stream_of}
use Rattle.room_history.proofs.Clauses.{good_session}
use Rattle.wire_json.specs.Refusals.{Refusal}
use Rattle.wire_json.specs.ServerReading.{server_read}
use Rattle.wire_json.specs.declared.client.ClientMsg.TheVariants as line
use Rattle.wire_json.specs.declared.protocol.Protocol.{Protocol}
use Rattle.wire_json.specs.declared.server.ServerMsg.{ServerMsg}
use Rattle.wire_json.specs.declared.server.ServerMsg.TheVariants as message
use Rattle.convergence.specs.Calls.{CallsFit}
use Rattle.convergence.specs.Doing.{IsLike, KnowsWhere, Reads, ticket_in}
use Rattle.client_predict.specs.Following.{followed, has_sync, is_sync, is_told, reads_all, told_lines}
use Rattle.convergence.specs.Lines.{AllLines, ReadsBack}
use Rattle.convergence.specs.Shallow.{StatesAreShallow}
use Rattle.convergence.proofs.Clauses.{are_shallow, reads_back}
use Rattle.convergence.proofs.Grounds.{StaysSound}
use Rattle.convergence.proofs.Likes.{all_alike}
use Rattle.convergence.proofs.Streams.{told_append}
use Rattle.hall_history.specs.Rooms.{Rooms, history_of}
use Rattle.world_history.specs.World.{World}
use Rattle.hall_history.proofs.Rooming.{is_same}
use Rattle.world_convergence.proofs.Counting.{answers, count, count_append, is_number, syncs_sent, verdicts_sent}
use Rattle.world_convergence.proofs.Directly.{IsQuiet}
use Rattle.world_convergence.proofs.Entries.{Changed, Stays, nothing, one_if, submitted}
use Rattle.world_convergence.proofs.Foreign.{sessions_in}
use Rattle.world_convergence.proofs.Hearing.{Fits, knows_it, reads_fits, reads_none, reads_waits, waits}
use Rattle.world_convergence.proofs.Sending.{AreActLines, KeyFits, ReadsAs, coming}

-- ---- lists of lines

pub reads_append : {G : Type 0} (rules : Rules G) (c : Client G) (xs ys : List (List ℕ)) → reads_all rules (reads_all rules c xs) ys ≡ reads_all rules c (xs ++ ys)
reads_append rules c [] ys = refl
reads_append rules c (x ∷ xs) ys = reads_append rules (reads rules c x).client xs ys

pub followed_on : {G : Type 0} (rules : Rules G) (xs ys : List (List ℕ)) → reads_all rules (followed rules xs) (told_lines ys) ≡ followed rules (xs ++ ys)
followed_on rules xs ys = reads_append rules fresh (told_lines xs) (told_lines ys) ∙ ap (reads_all rules fresh) (sym (told_append xs ys))

pub one_line : (xs : List (List ℕ)) (x : List ℕ) (ys : List (List ℕ)) → (xs ++ x ∷ []) ++ ys ≡ xs ++ x ∷ ys
one_line xs x ys = append_assoc xs (x ∷ []) ys

-- a sync is told
sync_by : (b : Bool) (x : List ℕ) (xs : List (List ℕ)) → is_told (server_read x) ≡ b → (b ≡ false → is_sync (server_read x) ≡ false)
    → one_if (is_sync (server_read x)) + count is_sync xs ≡ count is_sync (if b then x ∷ xs else xs)
sync_by true x xs e aside = refl
sync_by false x xs e aside = omega (arith, ap one_if (aside refl))

no_true : true ≡ false → ⊥
no_true e = cc

untold_sync : (r : Result ServerMsg Refusal) → is_told r ≡ false → is_sync r ≡ false
untold_sync (Ok (message.Sync name seat protocol snapshot)) e = absurd (no_true e)
untold_sync (Ok (message.Games names)) e = refl
untold_sync (Ok (message.Matches rows)) e = refl
untold_sync (Ok (message.Match row)) e = refl
untold_sync (Ok (message.Created name)) e = refl
untold_sync (Ok (message.Joined key name seat)) e = refl
untold_sync (Ok (message.Renamed name seat)) e = refl
untold_sync (Ok (message.Left name seat)) e = refl
untold_sync (Ok (message.Asked name seat)) e = refl
untold_sync (Ok (message.Update ctx entry g number)) e = refl
untold_sync (Ok (message.Change ctx entry gone put number)) e = refl
untold_sync (Ok (message.Ok number ticket)) e = refl
untold_sync (Ok (message.No number reason ticket)) e = refl
untold_sync (Ok (message.Again ticket)) e = refl
untold_sync (Ok (message.Refused refusal)) e = refl
untold_sync (Ok (message.Bye why)) e = refl
untold_sync (Err fault) e = refl

told_syncs : (xs : List (List ℕ)) → count is_sync xs ≡ count is_sync (told_lines xs)
told_syncs [] = refl
told_syncs (x ∷ xs) =
    ap (λ n. one_if (is_sync (server_read x)) + n) (told_syncs xs)
    ∙ sync_by (is_told (server_read x)) x (told_lines xs) refl (λ e. untold_sync (server_read x) e)

part_counts : (is : Result ServerMsg Refusal → Bool) (part whole : List (List ℕ)) → IsFirstPart part whole → count is part ≤ count is whole
part_counts is part whole f = omega (arith, ap (count is) f.1, count_append is part f.0)

-- no sync is counted where none is
none_counted : (xs : List (List ℕ)) → count is_sync xs ≡ 0 → has_sync xs ≡ false
none_counted [] e = refl
none_counted (x ∷ xs) e = by (is_sync (server_read x)) refl (none_counted xs)
  where
    by : (b : Bool) → is_sync (server_read x) ≡ b → (count is_sync xs ≡ 0 → has_sync xs ≡ false) → (b || has_sync xs) ≡ false
    by true f later = absurd (omega (arith, e, ap one_if f))
    by false f later = later (omega (arith, e, ap one_if f))

both_false : (a b : Bool) → (a || b) ≡ false → (a ≡ false) × (b ≡ false)
both_false true b e = cc
both_false false b e = (refl, e)

has_append : (xs : List (List ℕ)) (x : List ℕ) → has_sync (xs ++ x ∷ []) ≡ false → (has_sync xs ≡ false) × (is_sync (server_read x) ≡ false)
has_append [] x e = (refl, (both_false (is_sync (server_read x)) false e).0)
has_append (y ∷ xs) x e =
    let parts = both_false (is_sync (server_read y)) (has_sync (xs ++ x ∷ [])) e in
    let later = has_append xs x parts.1 in
    (rw (parts.0, later.0) refl, later.1)

-- ---- lines that are no concern of the client

abbrev pub AreQuiet : List (List ℕ) → Type 0
AreQuiet [] = Unit {0}
AreQuiet (x ∷ xs) = IsQuiet x × AreQuiet xs

-- ---- the story

module _ {X G : Type 0} (rules : X → Rules G) (c : ℕ) where
  -- until the client's session begins: its sync is on the way, or was answered directly
  abbrev pub IsSyncLine : List ℕ → Type 0
  IsSyncLine text = (name : Name) × (viewer : Viewer) × (protocol : Protocol) × ReadsAs (line.Sync name viewer protocol) text

  pub record Apart (w : World X G) (held : Held X G) : Type 0 where
    pub at : w.hall.at c ≡ None
    pub like : IsLike held.client fresh
    pub quiet : AreQuiet (w.down c)
    pub up : (w.up c ≡ []) ⊎ ((text : List ℕ) × (w.up c ≡ text ∷ []) × (w.down c ≡ []) × IsSyncLine text)
    pub key : KeyFits held.key

  -- from then on
  pub record Met (w : World X G) (held : Held X G) (r : ℕ) : Type 0 where
    pub s : Session
    pub before : List Session
    pub latest : sessions_in rules c w.hall.rooms r ≡ s ∷ before
    pub at : (w.hall.at c ≡ None) ⊎ (w.hall.at c ≡ Some r)
    pub read : List (List ℕ)
    pub like : IsLike held.client (followed (rules held.game) read)
    pub part : IsFirstPart (told_lines (read ++ w.down c)) (told_lines s.sent)
    pub whole : w.hall.at c ≡ Some r → told_lines (read ++ w.down c) ≡ told_lines s.sent
    pub acts : AreActLines (w.up c)
    pub tickets : (t : ℕ) → count (answers t) (w.down c) + submitted t s.own + coming t (w.up c) ≤ waits t held.client.playing + count (answers t) s.sent
    pub fits : Fits (rules held.game) held.client.playing
    pub begun : has_sync read ≡ false → held.client.playing ≡ None
    pub key : KeyFits held.key

  abbrev pub StoryOf : World X G → Held X G → Option ℕ → Type 0
  StoryOf w held None = Apart w held
  StoryOf w held (Some r) = Met w held r

  abbrev pub Story : World X G → Option ℕ → Type 0
  Story w room = (held : Held X G) → w.clients c ≡ Some held → StoryOf w held room

  -- ---- what the session was sent is read back

  there_by : (number : ℕ) (rooms : Rooms X) (r : ℕ) (s : Session) (before : List Session) → (room_of rules number (history_of rooms r)).sessions c ≡ s ∷ before → r < length rooms
  there_by number [] r s before e = absurd (empty_cons s before e)
    where
      empty_cons : (s : Session) (before : List Session) → [] ≡ s ∷ before → ⊥
      empty_cons s before e = cc
  there_by number (h ∷ rooms) zero s before e = omega arith
  there_by number (h ∷ rooms) (suc r) s before e = omega (arith, there_by number rooms r s before e)

  pub is_there : (rooms : Rooms X) (r : ℕ) (s : Session) (before : List Session) → sessions_in rules c rooms r ≡ s ∷ before → r < length rooms
  is_there rooms r s before e = there_by r rooms r s before e

  pub session_is : (rooms : Rooms X) (r : ℕ) (s : Session) (before : List Session) → sessions_in rules c rooms r ≡ s ∷ before → session rules r (history_of rooms r) c (length before) ≡ Some s
  session_is rooms r s before e = ap (session_in (length before)) e ∙ ap (λ b. if b then Some s else session_in (length before) before) (is_same (length before))

  module _ (lawful : (game : X) → Lawful (rules game)) (stays : StaysSound rules) (flat : StatesAreShallow rules) where
    -- what is known of every session
    pub record Sent (s : Session) : Type 0 where
      pub back : AllLines ReadsBack (stream_of s)
      pub tied : s.sent ≡ lines_to_mark (stream_of s)

    pub sent_of : (rooms : Rooms X) → length rooms ≤ 64 → (r : ℕ) → CallsFit (history_of rooms r) → (s : Session) (before : List Session) → sessions_in rules c rooms r ≡ s ∷ before → Sent s
    sent_of rooms few r fit s before e =
        let there : r < length rooms = is_there rooms r s before e in
        let low : r ≤ 63 = omega (arith, there, few) in
        let is = session_is rooms r s before e in
        record {
          back = reads_back rules r low lawful stays (history_of rooms r) fit c (length before) s is (are_shallow rules r low lawful stays flat (history_of rooms r) fit c (length before) s is);
          tied = (good_session rules r (history_of rooms r) c (length before) s is).tied;
        }

    -- ---- a line is read

    module _ (w : World X G) (held : Held X G) (r : ℕ) (text : List ℕ) (rest : List (List ℕ)) (m : Met w held r) (known : Sent m.s) (next : w.down c ≡ text ∷ rest) where
      syncs_told : count is_sync m.read + (one_if (is_sync (server_read text)) + count is_sync rest) ≤ 1
      syncs_told =
          let all = m.read ++ (text ∷ rest) in
          let part : IsFirstPart (told_lines all) (told_lines m.s.sent) = subst (λ l. IsFirstPart (told_lines (m.read ++ l)) (told_lines m.s.sent)) next m.part in
          omega (
            arith,
            count_append is_sync m.read (text ∷ rest),
            told_syncs all,
            part_counts is_sync (told_lines all) (told_lines m.s.sent) part,
            told_syncs m.s.sent,
            syncs_sent m.s known.back known.tied,
          )

      -- a sync is the first that it reads
      pub sync_first : is_sync (server_read text) ≡ true → held.client.playing ≡ None
      sync_first e = m.begun (none_counted m.read (omega (arith, syncs_told, ap one_if e)))

      -- a line that answers an act answers one that waits
      waits_still : (t : ℕ) → count (answers t) (text ∷ rest) ≤ waits t held.client.playing
      waits_still t = omega (arith, m.tickets t, verdicts_sent t m.s known.back known.tied, ap (count (answers t)) next)

      pub known_where : KnowsWhere held.client (ticket_in (server_read text))
      known_where = by (ticket_in (server_read text)) refl
        where
          by : (o : Option ℕ) → ticket_in (server_read text) ≡ o → KnowsWhere held.client o
          by None e = tt
          by (Some t) e =
              let one : answers t (server_read text) ≡ true = ap (λ o. is_number o t) e ∙ is_same t in
              knows_it held.client t (omega (arith, waits_still t, ap one_if one))

      pub like_next : IsLike (reads (rules held.game) held.client text).client (followed (rules held.game) (m.read ++ text ∷ []))
      like_next =
          subst (λ (d : Client G). IsLike (reads (rules held.game) held.client text).client d) (followed_on (rules held.game) m.read (text ∷ []))
          (all_alike (rules held.game) held.client (followed (rules held.game) m.read) (Reads text ∷ []) (known_where, tt) m.like)

      same_all : told_lines ((m.read ++ text ∷ []) ++ rest) ≡ told_lines (m.read ++ w.down c)
      same_all = ap told_lines (one_line m.read text rest) ∙ ap (λ l. told_lines (m.read ++ l)) (sym next)

      -- the story goes on in a world in which just that happened
      pub line_read : (v : World X G) → v.hall ≡ w.hall → v.up c ≡ w.up c → v.down c ≡ rest
          → Met v (record { game = held.game; key = held.key; client = (reads (rules held.game) held.client text).client }) r
      line_read v hall up down = record {
        s = m.s;
        before = m.before;
        latest = ap (λ h. sessions_in rules c h.rooms r) hall ∙ m.latest;
        at = subst (λ h. (h.at c ≡ None) ⊎ (h.at c ≡ Some r)) (sym hall) m.at;
        read = m.read ++ text ∷ [];
        like = like_next;
        part = subst (λ l. IsFirstPart l (told_lines m.s.sent)) (sym same_all ∙ ap (λ l. told_lines ((m.read ++ text ∷ []) ++ l)) (sym down)) m.part;
        whole = λ e. ap (λ l. told_lines ((m.read ++ text ∷ []) ++ l)) down ∙ same_all ∙ m.whole (sym (ap (λ h. h.at c) hall) ∙ e);
        acts = subst AreActLines (sym up) m.acts;
        tickets = λ t. omega (arith, ap (count (answers t)) down, ap (coming t) up, m.tickets t, ap (count (answers t)) next, reads_waits (rules held.game) held.client text t sync_first);
        fits = reads_fits (rules held.game) held.client text m.fits;
        begun = λ e. let parts = has_append m.read text e in reads_none (rules held.game) held.client text (m.begun parts.0) parts.1;
        key = m.key;
      }

  -- ---- the story goes on as it was

  pub record Untouched (w v : World X G) : Type 0 where
    pub clients : v.clients c ≡ w.clients c
    pub up : v.up c ≡ w.up c
    pub down : v.down c ≡ w.down c
    pub at : v.hall.at c ≡ w.hall.at c
    pub sessions : (r : ℕ) → Stays nothing (sessions_in rules c w.hall.rooms r) (sessions_in rules c v.hall.rooms r)

  apart_on : (w v : World X G) (held : Held X G) → Untouched w v → Apart w held → Apart v held
  apart_on w v held u a = record {
    at = u.at ∙ a.at;
    like = a.like;
    quiet = subst AreQuiet (sym u.down) a.quiet;
    up = by a.up;
    key = a.key;
  }
    where
      by : (w.up c ≡ []) ⊎ ((text : List ℕ) × (w.up c ≡ text ∷ []) × (w.down c ≡ []) × IsSyncLine text) → (v.up c ≡ []) ⊎ ((text : List ℕ) × (v.up c ≡ text ∷ []) × (v.down c ≡ []) × IsSyncLine text)
      by (inl e) = inl (u.up ∙ e)
      by (inr h) = inr (h.0, u.up ∙ h.1, u.down ∙ h.2, h.3)

  -- what the latest session has come to
  pub stays_as : (weight : ℕ → ℕ) (old new : List Session) (s : Session) (before : List Session) → old ≡ s ∷ before → Stays weight old new → (t : Session) × (new ≡ t ∷ before) × Changed weight s t
  stays_as weight old new s before e h = subst (λ l. Stays weight l new) e h

  met_on : (w v : World X G) (held : Held X G) (r : ℕ) → Untouched w v → Met w held r → Met v held r
  met_on w v held r u m =
      let on = stays_as nothing (sessions_in rules c w.hall.rooms r) (sessions_in rules c v.hall.rooms r) m.s m.before m.latest (u.sessions r) in
      record {
        s = on.0;
        before = m.before;
        latest = on.1;
        at = subst (λ o. (o ≡ None) ⊎ (o ≡ Some r)) (sym u.at) m.at;
        read = m.read;
        like = m.like;
        part = subst (λ l. IsFirstPart (told_lines (m.read ++ l)) (told_lines on.0.sent)) (sym u.down) (subst (λ l. IsFirstPart (told_lines (m.read ++ w.down c)) (told_lines l)) (sym on.2.sent) m.part);
        whole = λ e. ap (λ l. told_lines (m.read ++ l)) u.down ∙ m.whole (sym u.at ∙ e) ∙ ap told_lines (sym on.2.sent);
        acts = subst AreActLines (sym u.up) m.acts;
        tickets = λ t. omega (arith, ap (count (answers t)) u.down, ap (coming t) u.up, m.tickets t, on.2.own t, ap (count (answers t)) on.2.sent);
        fits = m.fits;
        begun = m.begun;
        key = m.key;
      }

  pub goes_on : (w v : World X G) (held : Held X G) (room : Option ℕ) → Untouched w v → StoryOf w held room → StoryOf v held room
  goes_on w v held None u a = apart_on w v held u a
  goes_on w v held (Some r) u m = met_on w v held r u m
