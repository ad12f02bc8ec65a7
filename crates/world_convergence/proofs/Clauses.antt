-- The laws of clients in worlds as clauses of functions.
use Rattle.std.proofs.Common.{◌≡◌, ◌⊎◌, inl, inr, ◌≤◌, ◌==◌, ℕ, zero, suc, Bool, true, false, if◌then◌else◌, is_some, IsTrue, Ok, List, [], ◌∷◌, ◌++◌, length, Option, Some, None, option_map, refl, sym, ap, ◌∙◌, subst, append_assoc, append-nil, arith}
use Rattle.std.specs.Prelude.{replicate}
use Rattle.client_predict.specs.Client.{Client, Held, Playing}
use Rattle.client_predict.specs.Reading.{begun, lost, reads}
use Rattle.client_predict.specs.declared.told.FeedNo.TheVariants.{BadLine}
use Rattle.game_sheet.specs.MatchName.{Name}
use Rattle.game_sheet.specs.Viewer.{seat_of}
use Rattle.game_trait.specs.Lawful.{Lawful}
use Rattle.game_trait.specs.Rules.{Rules}
use Rattle.room_history.specs.Course.{IsFirstPart, IsOpen}
use Rattle.room_history.specs.Match.{Match}
use Rattle.room_history.specs.Outbox.{attachment_of, outbox_in, with_outbox}
use Rattle.room_history.specs.Piece.{Open}
use Rattle.room_history.specs.Room.{latest_in, latest_session, match_of, room_of, session, standing}
use Rattle.room_history.proofs.Names.{all_matches, match_in}
use Rattle.room_history.specs.Session.{Session, handful, is_looking, session_state, stream_of}
use Rattle.room_history.specs.Sight.{SeesMatch}
use Rattle.room_history.proofs.Judging.{Latest, head_of, latest_is}
use Rattle.room_history.proofs.Keeps.{FitsWhere, Head}
use Rattle.room_history.proofs.Seeing.{sees_match}
use Rattle.serde_json.specs.Data.{Data}
use Rattle.wire_json.specs.ServerReading.{server_read}
use Rattle.wire_json.specs.declared.protocol.Protocol.{Protocol}
use Rattle.wire_json.specs.declared.server.ServerMsg.TheVariants as message
use Rattle.convergence.specs.Doing.{Face, KnowsWhere, face, ticket_in}
use Rattle.client_predict.specs.Following.{followed, has_sync, is_bye, told_lines}
use Rattle.convergence.specs.Lines.{AllLines, IsShallow}
use Rattle.convergence.specs.Seeing.{SeesAt}
use Rattle.convergence.specs.Shallow.{StatesAreShallow}
use Rattle.room_history.specs.Shown.{view_at}
use Rattle.convergence.proofs.Clauses.{are_shallow, present, settled}
use Rattle.convergence.proofs.Grounds.{StaysSound}
use Rattle.convergence.proofs.Streams.{told_append}
use Rattle.hall_history.specs.Placed.{is_at}
use Rattle.hall_history.specs.Rooms.{history_of}
use Rattle.world_history.specs.World.{World, new_world}
use Rattle.hall_history.proofs.Placing.{empty_placed}
use Rattle.hall_history.proofs.Rooming.{is_same}
use Rattle.world_convergence.specs.Meeting.{Meets, Run, room_of_client, world_after}
use Rattle.world_convergence.specs.Settling.{Settles, SettlesAt}
use Rattle.world_convergence.specs.Trailing.{Trails}
use Rattle.world_convergence.proofs.Fitting.{new_fits}
use Rattle.world_convergence.proofs.Going.{stays_here}
use Rattle.world_convergence.proofs.Living.{Sound, lives, sound_runs}
use Rattle.world_convergence.proofs.Owning.{no_face, none_some, one, some_none}
use Rattle.world_convergence.proofs.Strangers.{bad_sync, plays_nothing, stays_gone}
use Rattle.world_convergence.proofs.Stories.{Apart, Met, Story, StoryOf, is_there, known_where, sent_of, session_is}

no_both : false ≡ true → ⊥
no_both e = cc

rooms_made : {A : Type 0} (x : A) (n : ℕ) → length (replicate n x) ≡ n
rooms_made x zero = refl
rooms_made x (suc n) = ap suc (rooms_made x n)

-- the session of a client in a room, and the session's match
pub record Looks {X G : Type 0} (rules : X → Rules G) (w : World X G) (c room : ℕ) (s : Session) (m : Match X G) : Type 0 where
  pub session : latest_session rules room (history_of w.hall.rooms room) c ≡ Some s
  pub of : match_of rules room (history_of w.hall.rooms room) s.name.serial ≡ Some m

module _ {X G : Type 0} (named : List ℕ → Option X) (rules : X → Rules G) (tape : ℕ → List ℕ) (lawful : (game : X) → Lawful (rules game)) (stays : StaysSound rules) (flat : StatesAreShallow rules) where
  begins : (rooms : ℕ) → rooms ≤ 64 → Sound named rules tape (new_world rooms)
  begins rooms few = record { placed = empty_placed rules rooms; fit = new_fits named rules tape rooms; few = subst (λ n. n ≤ 64) (sym (rooms_made [] rooms)) few }

  module _ (run : Run X) where
    abbrev w : World X G
    w = world_after named rules tape run

    sound : Sound named rules tape w
    sound = sound_runs named rules tape run.marks run.steps (new_world run.rooms) (begins run.rooms run.few)

    story : (c : ℕ) → Story rules c w (room_of_client named rules tape run c)
    story c = lives named rules tape lawful stays flat c run.marks run.steps run.fit (new_world run.rooms) (begins run.rooms run.few) None (λ held e. absurd (none_some held e))

    module _ (c : ℕ) (held : Held X G) (is : w.clients c ≡ Some held) where
      met : (room : ℕ) → room_of_client named rules tape run c ≡ Some room → Met rules c w held room
      met room e = subst (StoryOf rules c w held) e (story c held is)

      -- a client that has read its sync has a session
      pub synced : (p : Playing G) → held.client.playing ≡ Some p → (room : ℕ) × (room_of_client named rules tape run c ≡ Some room)
      synced p e = by (room_of_client named rules tape run c) refl
        where
          by : (o : Option ℕ) → room_of_client named rules tape run c ≡ o → (room : ℕ) × (room_of_client named rules tape run c ≡ Some room)
          by (Some room) f = (room, f)
          by None f = let a : Apart rules c w held = subst (StoryOf rules c w held) f (story c held is) in absurd (some_none p (sym e ∙ no_face held.client.playing a.like.sees))

      module _ (room : ℕ) (in_room : room_of_client named rules tape run c ≡ Some room) where
        abbrev m : Met rules c w held room
        m = met room in_room

        low : room ≤ 63
        low = omega (arith, is_there rules c w.hall.rooms room m.s m.before m.latest, sound.few)

        session_here : session rules room (history_of w.hall.rooms room) c (length m.before) ≡ Some m.s
        session_here = session_is rules c w.hall.rooms room m.s m.before m.latest

        latest_here : latest_session rules room (history_of w.hall.rooms room) c ≡ Some m.s
        latest_here = ap latest_in m.latest

        pub has_session : (s : Session) × (n : Match X G) × Looks rules w c room s n
        has_session =
            let x : SeesMatch rules room (history_of w.hall.rooms room) m.s = sees_match rules room (history_of w.hall.rooms room) c (length m.before) m.s session_here in
            (m.s, x.m, record { session = latest_here; of = x.is })

        same_session : (s : Session) → latest_session rules room (history_of w.hall.rooms room) c ≡ Some s → m.s ≡ s
        same_session s e = one m.s s (sym latest_here ∙ e)

        first_read : IsFirstPart (told_lines m.read) (told_lines m.s.sent)
        first_read = (
          told_lines (w.down c) ++ m.part.0,
          m.part.1 ∙ ap (λ l. l ++ m.part.0) (told_append m.read (w.down c)) ∙ append_assoc (told_lines m.read) (told_lines (w.down c)) m.part.0,
        )

        same_face : (p : Playing G) (n : Match X G) → held.game ≡ n.game → held.client.playing ≡ Some p → (q : Playing G) → (followed (rules n.game) m.read).playing ≡ Some q → face p ≡ face q
        same_face p n game e q f =
            one (face p) (face q)
            (sym (ap (option_map face) e) ∙ m.like.sees ∙ ap (λ x. option_map face (followed (rules x) m.read).playing) game ∙ ap (option_map face) f)

        -- whoever has settled something has read a sync
        has_read : (p : Playing G) → held.client.playing ≡ Some p → has_sync m.read ≡ true
        has_read p e = by (has_sync m.read) refl
          where
            by : (b : Bool) → has_sync m.read ≡ b → b ≡ true
            by true f = refl
            by false f = absurd (some_none p (sym e ∙ m.begun f))

        pub settles : (s : Session) (n : Match X G) → Looks rules w c room s n → held.game ≡ n.game → (p : Playing G) → held.client.playing ≡ Some p → Settles rules n s p
        settles s n meets game p e = subst (λ x. Settles rules n x p) same (of_face (face_is seen))
          where
            same : m.s ≡ s
            same = same_session s meets.session

            seen : SeesAt rules n m.s (followed (rules n.game) m.read)
            seen = settled rules room low lawful stays (history_of w.hall.rooms room) (sound.fit room) c (length m.before) m.s session_here
                (are_shallow rules room low lawful stays flat (history_of w.hall.rooms room) (sound.fit room) c (length m.before) m.s session_here)
                n (ap (λ x. match_of rules room (history_of w.hall.rooms room) x.name.serial) same ∙ meets.of) m.read first_read (has_read p e)

            face_is : (x : SeesAt rules n m.s (followed (rules n.game) m.read)) → face p ≡ face (begun m.s.name (seat_of m.s.viewer) (view_at (rules n.game) n.first (seat_of m.s.viewer) x.earlier))
            face_is x = same_face p n game e (begun m.s.name (seat_of m.s.viewer) (view_at (rules n.game) n.first (seat_of m.s.viewer) x.earlier)) x.plays

            of_face : face p ≡ face (begun m.s.name (seat_of m.s.viewer) (view_at (rules n.game) n.first (seat_of m.s.viewer) seen.earlier)) → Settles rules n m.s p
            of_face f = record {
              later = seen.later;
              earlier = seen.earlier;
              in_order = seen.in_order;
              number = ap (λ (x : Face G). x.settled.number) f;
              at = record { name = ap (λ (x : Face G). x.name) f; seat = ap (λ (x : Face G). x.seat) f; settled = ap (λ (x : Face G). x.settled) f };
            }

        -- ---- one that has read all that it was sent

        open_attached : (s : Session) (before : List Session) → session_state s ≡ Open → is_some (attachment_of (s ∷ before)) ≡ true
        open_attached s before e = ap (λ st. is_some (option_map (with_outbox s) (outbox_in st (stream_of s)))) e

        sits : session_state m.s ≡ Open → w.hall.at c ≡ Some room
        sits e = by m.at
          where
            attached : is_at (w.hall.at c) room ≡ true
            attached = sym (sound.placed c room) ∙ ap (λ l. is_some (attachment_of l)) m.latest ∙ open_attached m.s m.before e

            by : (w.hall.at c ≡ None) ⊎ (w.hall.at c ≡ Some room) → w.hall.at c ≡ Some room
            by (inl none) = absurd (no_both (ap (λ o. is_at o room) (sym none) ∙ attached))
            by (inr there) = there

        -- an open session's match stands
        stands_by : (s : Session) (n : Match X G) → Looks rules w c room s n → session_state s ≡ Open → (o : Option (Match X G)) → standing rules room (history_of w.hall.rooms room) ≡ o → standing rules room (history_of w.hall.rooms room) ≡ Some n
        stands_by s n meets opened o e =
            let l : Latest ((room_of rules room (history_of w.hall.rooms room)).sessions c) s = latest_is ((room_of rules room (history_of w.hall.rooms room)).sessions c) s meets.session in
            let k : Head rules room o s l.before = subst (λ st. Head rules room st s l.before) e (head_of rules room (history_of w.hall.rooms room) c s l) in
            let looks : is_looking s.own ≡ true = k.good.goes_on (subst IsOpen (sym opened) tt) in
            by o e k.fits looks
          where
            by : (o : Option (Match X G)) → standing rules room (history_of w.hall.rooms room) ≡ o → FitsWhere rules room o s → is_looking s.own ≡ true → standing rules room (history_of w.hall.rooms room) ≡ Some n
            by None e fits looks = absurd (no_both (sym fits ∙ looks))
            by (Some o) e fits looks =
                e ∙ sym (ap (λ st. match_in s.name.serial (all_matches st (room_of rules room (history_of w.hall.rooms room)).removed)) e ∙ ap (λ serial. if o.serial == serial then Some o else match_in serial (room_of rules room (history_of w.hall.rooms room)).removed) (ap (λ (x : Name). x.serial) (fits looks).name)
                ∙ ap (λ b. if b then Some o else match_in o.serial (room_of rules room (history_of w.hall.rooms room)).removed) (is_same o.serial)) ∙ meets.of

        pub up_to_date : (s : Session) (n : Match X G) → Looks rules w c room s n → held.game ≡ n.game → session_state s ≡ Open → handful s ≡ [] → w.down c ≡ []
            → (held.client.gone ≡ false) × (p : Playing G) × (held.client.playing ≡ Some p) × SettlesAt rules n s n.accepted p
        up_to_date s n meets game opened none empty = by held.client.playing refl
          where
            same : m.s ≡ s
            same = same_session s meets.session

            latest : latest_session rules room (history_of w.hall.rooms room) c ≡ Some s
            latest = meets.session

            stands : standing rules room (history_of w.hall.rooms room) ≡ Some n
            stands = stands_by s n meets opened (standing rules room (history_of w.hall.rooms room)) refl

            told : told_lines m.read ≡ told_lines m.s.sent
            told = ap told_lines (sym (append-nil m.read)) ∙ ap (λ l. told_lines (m.read ++ l)) (sym empty) ∙ m.whole (sits (ap session_state same ∙ opened))

            seen : followed (rules n.game) m.read ≡ record { gone = false; playing = Some (begun s.name (seat_of s.viewer) (view_at (rules n.game) n.first (seat_of s.viewer) n.accepted)) }
            seen = present rules room low lawful stays (history_of w.hall.rooms room) (sound.fit room) c s latest
                (subst (λ x. AllLines IsShallow (stream_of x)) same
                (are_shallow rules room low lawful stays flat (history_of w.hall.rooms room) (sound.fit room) c (length m.before) m.s session_here))
                opened none n stands m.read (told ∙ ap (λ x. told_lines x.sent) same)

            faces : option_map face held.client.playing ≡ Some (face (begun s.name (seat_of s.viewer) (view_at (rules n.game) n.first (seat_of s.viewer) n.accepted)))
            faces = m.like.sees ∙ ap (λ x. option_map face (followed (rules x) m.read).playing) game ∙ ap (λ (d : Client G). option_map face d.playing) seen

            here : held.client.gone ≡ false
            here = m.like.gone ∙ ap (λ x. (followed (rules x) m.read).gone) game ∙ ap (λ (d : Client G). d.gone) seen

            by : (o : Option (Playing G)) → held.client.playing ≡ o → (held.client.gone ≡ false) × (p : Playing G) × (held.client.playing ≡ Some p) × SettlesAt rules n s n.accepted p
            by None e = absurd (none_some (face (begun s.name (seat_of s.viewer) (view_at (rules n.game) n.first (seat_of s.viewer) n.accepted))) (ap (option_map face) (sym e) ∙ faces))
            by (Some p) e =
                let f = one (face p) (face (begun s.name (seat_of s.viewer) (view_at (rules n.game) n.first (seat_of s.viewer) n.accepted))) (ap (option_map face) (sym e) ∙ faces) in
                (here, p, e, record { name = ap (λ (x : Face G). x.name) f; seat = ap (λ (x : Face G). x.seat) f; settled = ap (λ (x : Face G). x.settled) f })

        -- ---- how it follows its session

        pub trails : (s : Session) (n : Match X G) → Looks rules w c room s n → Trails rules w c room held s
        trails s n meets = subst (λ x. Trails rules w c room held x) (same_session s meets.session) (record { read = m.read; like = m.like; part = m.part; whole = m.whole })

        pub knows_answers : (text : List ℕ) (rest : List (List ℕ)) → w.down c ≡ text ∷ rest → KnowsWhere held.client (ticket_in (server_read text))
        knows_answers text rest next = known_where rules c lawful stays flat w held room text rest m (sent_of rules c lawful stays flat w.hall.rooms sound.few room (sound.fit room) m.s m.before m.latest) next

        -- ---- no line makes it gone but a bye

        of_here : (s : Session) (n : Match X G) → Looks rules w c room s n → match_of rules room (history_of w.hall.rooms room) m.s.name.serial ≡ Some n
        of_here s n meets = ap (λ x. match_of rules room (history_of w.hall.rooms room) x.name.serial) (same_session s meets.session) ∙ meets.of

        pub remains : (s : Session) (n : Match X G) → Looks rules w c room s n → held.game ≡ n.game → (text : List ℕ) (rest : List (List ℕ)) → w.down c ≡ text ∷ rest → held.client.gone ≡ false
            → is_bye (server_read text) ≡ false → (reads (rules held.game) held.client text).client.gone ≡ false
        remains s n meets game text rest next here other =
            stays_here rules c lawful stays flat w sound.few sound.fit held room m text rest next n (of_here s n meets) game here other

        -- ---- a client that can't read what is sent

        module _ (s : Session) (n : Match X G) (meets : Looks rules w c room s n) (strange : (g : G) → IsTrue ((rules n.game).own g) → (rules held.game).read ((rules n.game).value g) ≡ None) where
          pub settles_nothing : held.client.playing ≡ None
          settles_nothing = plays_nothing rules c lawful stays flat w sound.few sound.fit held room m n (of_here s n meets) strange

          pub loses_sync : (text : List ℕ) (rest : List (List ℕ)) → w.down c ≡ text ∷ rest → (name : Name) (seat : Option ℕ) (protocol : Protocol) (d : Data) → server_read text ≡ Ok (message.Sync name seat protocol d)
              → reads (rules held.game) held.client text ≡ lost held.client BadLine
          loses_sync text rest next name seat protocol d e = bad_sync rules c lawful stays flat w sound.few sound.fit held room m n (of_here s n meets) strange text rest next name seat protocol d e

          pub stays_lost : (text : List ℕ) (rest : List (List ℕ)) → w.down c ≡ text ∷ rest → held.client.gone ≡ true → (reads (rules held.game) held.client text).client.gone ≡ true
          stays_lost text rest next gone = stays_gone rules c lawful stays flat w sound.few sound.fit held room m n (of_here s n meets) strange text rest next gone

      -- a client without a session isn't gone
      pub not_yet : room_of_client named rules tape run c ≡ None → held.client.gone ≡ false
      not_yet f = let a : Apart rules c w held = subst (StoryOf rules c w held) f (story c held is) in a.like.gone

  -- ---- the same of what a client meets

  module _ (run : Run X) (c : ℕ) (held : Held X G) where
    pub no_session : (world_after named rules tape run).clients c ≡ Some held → room_of_client named rules tape run c ≡ None → held.client.gone ≡ false
    no_session is none = not_yet run c held is none

    pub meets_in : (world_after named rules tape run).clients c ≡ Some held → (room : ℕ) → room_of_client named rules tape run c ≡ Some room → (s : Session) × (n : Match X G) × Meets named rules tape run c held s n
    meets_in is room there =
        let x = has_session run c held is room there in
        (x.0, x.1, record { room = room; client = is; there = there; session = x.2.session; of = x.2.of })

    pub meets_synced : (world_after named rules tape run).clients c ≡ Some held → (p : Playing G) → held.client.playing ≡ Some p → (s : Session) × (n : Match X G) × Meets named rules tape run c held s n
    meets_synced is p e = let x = synced run c held is p e in meets_in is x.0 x.1

    module _ (s : Session) (n : Match X G) (x : Meets named rules tape run c held s n) where
      looks : Looks rules (world_after named rules tape run) c x.room s n
      looks = record { session = x.session; of = x.of }

      pub settles_by : held.game ≡ n.game → (p : Playing G) → held.client.playing ≡ Some p → Settles rules n s p
      settles_by game p e = settles run c held x.client x.room x.there s n looks game p e

      pub present_by : held.game ≡ n.game → session_state s ≡ Open → handful s ≡ [] → (world_after named rules tape run).down c ≡ []
          → (held.client.gone ≡ false) × (p : Playing G) × (held.client.playing ≡ Some p) × SettlesAt rules n s n.accepted p
      present_by game opened none empty = up_to_date run c held x.client x.room x.there s n looks game opened none empty

      pub trails_by : Trails rules (world_after named rules tape run) c x.room held s
      trails_by = trails run c held x.client x.room x.there s n looks

      pub knows_by : (text : List ℕ) (rest : List (List ℕ)) → (world_after named rules tape run).down c ≡ text ∷ rest → KnowsWhere held.client (ticket_in (server_read text))
      knows_by text rest next = knows_answers run c held x.client x.room x.there text rest next

      pub remains_by : held.game ≡ n.game → (text : List ℕ) (rest : List (List ℕ)) → (world_after named rules tape run).down c ≡ text ∷ rest → held.client.gone ≡ false → is_bye (server_read text) ≡ false
          → (reads (rules held.game) held.client text).client.gone ≡ false
      remains_by game text rest next here other = remains run c held x.client x.room x.there s n looks game text rest next here other

      module _ (strange : (g : G) → IsTrue ((rules n.game).own g) → (rules held.game).read ((rules n.game).value g) ≡ None) where
        pub nothing_by : held.client.playing ≡ None
        nothing_by = settles_nothing run c held x.client x.room x.there s n looks strange

        pub gone_by : (text : List ℕ) (rest : List (List ℕ)) → (world_after named rules tape run).down c ≡ text ∷ rest → held.client.gone ≡ true → (reads (rules held.game) held.client text).client.gone ≡ true
        gone_by text rest next gone = stays_lost run c held x.client x.room x.there s n looks strange text rest next gone

        pub lost_by : (text : List ℕ) (rest : List (List ℕ)) → (world_after named rules tape run).down c ≡ text ∷ rest → (name : Name) (seat : Option ℕ) (protocol : Protocol) (d : Data) → server_read text ≡ Ok (message.Sync name seat protocol d)
            → reads (rules held.game) held.client text ≡ lost held.client BadLine
        lost_by text rest next name seat protocol d e = loses_sync run c held x.client x.room x.there s n looks strange text rest next name seat protocol d e
