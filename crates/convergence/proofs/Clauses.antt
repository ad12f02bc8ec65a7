-- The laws as clauses of functions.
use Rattle.std.proofs.Common.{◌≡◌, ◌⊎◌, inl, inr, ◌≤◌, ℕ, zero, suc, Bool, true, false, if◌then◌else◌, List, [], ◌∷◌, ◌++◌, length, Option, Some, Ok, refl, sym, ap, ◌∙◌, subst, arith, append_assoc, append-nil}
use Rattle.client_predict.specs.Client.{Client, fresh}
use Rattle.client_predict.specs.Reading.{ended, lost, reads}
use Rattle.client_predict.specs.declared.told.FeedNo.TheVariants as no
use Rattle.client_predict.specs.declared.told.Told.TheVariants.{Ended}
use Rattle.game_sheet.specs.Viewer.{seat_of}
use Rattle.game_sheet.specs.declared.act.Bye.{Bye}
use Rattle.game_trait.specs.Lawful.{Lawful}
use Rattle.game_trait.specs.Rules.{Rules}
use Rattle.phase_flow.specs.Reached.{Reached}
use Rattle.player_sight.specs.SnapshotData.{Snap}
use Rattle.reducer.specs.Accepted.{Accepted}
use Rattle.room_history.specs.Course.{IsFirstPart, IsOpen}
use Rattle.room_history.specs.Match.{Match}
use Rattle.wire_json.specs.declared.server.ServerMsg.{ServerMsg}
use Rattle.wire_json.specs.declared.server.ServerMsg.TheVariants.{Bye as Farewell}
use Rattle.wire_json.specs.ServerText.{text}
use Rattle.room_history.specs.News.{messages, messages_of, news}
use Rattle.room_history.specs.Piece.{State, Open, Closed, all_lines, message_lines_to_mark, state_of}
use Rattle.room_history.specs.Room.{latest_session, match_of, room_of, session, standing}
use Rattle.room_history.specs.Session.{Session, handful, is_detached, is_looking, number_in, session_state, stream_of}
use Rattle.room_history.specs.Showing.{showings}
use Rattle.room_history.specs.Shown.{snapshot_at, snapshots}
use Rattle.room_history.proofs.Names.{IsInOrder}
use Rattle.room_history.specs.Sight.{SeesMatch}
use Rattle.room_history.specs.declared.call.RoomCall.{RoomCall}
use Rattle.room_history.proofs.Aside.{sent_aside}
use Rattle.room_history.proofs.Clauses.{among, good_session}
use Rattle.room_history.proofs.Isolation.{Among, rest_waits}
use Rattle.room_history.proofs.Judging.{Latest, head_of, latest_is}
use Rattle.room_history.proofs.Keeps.{Fits, Head}
use Rattle.room_history.proofs.Seeing.{sees_match}
use Rattle.room_history.proofs.Sessions.{Good}
use Rattle.room_object.specs.Entry.{Entry}
use Rattle.wire_json.specs.MatchText.{IsName}
use Rattle.wire_json.specs.ServerReading.{server_read}
use Rattle.wire_json.specs.declared.server.ServerMsg.TheVariants as to_client
use Rattle.convergence.specs.Calls.{CallsFit}
use Rattle.client_predict.specs.Following.{followed, has_bye, has_sync, reads_all, told_lines}
use Rattle.convergence.specs.Grounded.{IsGrounded}
use Rattle.convergence.specs.Lines.{AllLines, IsShallow, ReadsBack}
use Rattle.convergence.specs.Seeing.{SeesAt}
use Rattle.convergence.specs.Shallow.{StatesAreShallow}
use Rattle.room_history.specs.Shown.{view_at}
use Rattle.convergence.proofs.Grounding.{AllFit, SessionFits, grounded, sessions_fit, standing_grounded}
use Rattle.convergence.proofs.Grounds.{StaysSound}
use Rattle.convergence.proofs.Messages.{bye_reads}
use Rattle.convergence.proofs.Pieces.{AllHave, ItemsFit, items_fit, stream_have}
use Rattle.convergence.proofs.Reading.{AllMay, all_read, shown_may, stream_may}
use Rattle.convergence.proofs.Shallow.{no_shallow, ok_shallow, shown_shallow}
use Rattle.convergence.proofs.Steps.{seeing}
use Rattle.convergence.proofs.Stories.{AllRead, SeesSome, SeesTold, SeesWhere, later_read, lines_of, reads_last, sees_older, sees_told}
use Rattle.convergence.proofs.Streams.{Parted, ToMark, bye_told, last_bye, last_in, mark_older, news_read, older_lines, one_bye, open_lines, open_news, part_lines, stream_told, sync_told, to_mark, told_append}

no_both : false ≡ true → ⊥
no_both e = cc

-- ---- what a bye line makes of a client

bye_keeps : {G : Type 0} (b : Bool) (c : Client G) (why : Bye) → (if b then lost c no.Gone else ended c (Ended why)).client.playing ≡ c.playing
bye_keeps true c why = refl
bye_keeps false c why = refl

reads_bye : {G : Type 0} (rules : Rules G) (c : Client G) (l : List ℕ) (why : Bye) → server_read l ≡ Ok (to_client.Bye why) → (reads rules c l).client.playing ≡ c.playing
unfolding reads
reads_bye rules c l why e = rw e (bye_keeps c.gone c why)

fits_among : (l : List Session) (s : Session) → AllFit l → Among s l → SessionFits s
fits_among [] s a h = absurd h
fits_among (t ∷ l) s a (inl e) = subst SessionFits (sym e) a.0
fits_among (t ∷ l) s a (inr h) = fits_among l s a.1 h

module _ {X G : Type 0} (rules : X → Rules G) (room : ℕ) (low : room ≤ 63) (lawful : (game : X) → Lawful (rules game)) (stays : StaysSound rules) where
  -- ---- each line reads back

  number_low : (many : ℕ) (r : Rules G) (first : Reached G) (seat : Option ℕ) (accepted : List Accepted) → number_in (snapshots r first seat many accepted) ≤ length accepted
  number_low zero r first seat accepted = omega arith
  number_low (suc many) r first seat [] = omega arith
  number_low (suc many) r first seat (a ∷ accepted) = omega arith

  part_low : (later accepted : List Accepted) → length accepted ≤ length (later ++ accepted)
  part_low [] accepted = omega arith
  part_low (a ∷ later) accepted = let h : length accepted ≤ length (later ++ accepted) = part_low later accepted in omega arith

  -- a session's match, with what is known of both
  record Seen (h : List (Entry (RoomCall X))) (s : Session) : Type 0 where
    pub sees : SeesMatch rules room h s
    pub ground : IsGrounded rules room sees.m
    pub good : Good s
    pub fits : SessionFits s

  seen : (h : List (Entry (RoomCall X))) → CallsFit h → (pass j : ℕ) (s : Session) → session rules room h pass j ≡ Some s → Seen h s
  seen h f pass j s e =
      let x : SeesMatch rules room h s = sees_match rules room h pass j s e in
      record {
        sees = x;
        ground = grounded rules room low lawful stays h f s.name.serial x.m x.is;
        good = good_session rules room h pass j s e;
        fits = fits_among ((room_of rules room h).sessions pass) s (sessions_fit rules room low lawful stays h f pass) (among j ((room_of rules room h).sessions pass) s e);
      }

  seen_items : (h : List (Entry (RoomCall X))) (s : Session) → Seen h s → ItemsFit s.own
  seen_items h s k =
      let x : SeesMatch rules room h s = k.sees in
      let low_number : number_in s.sight ≤ 4096 = subst (λ l. number_in l ≤ 4096) (sym x.sight) (
      let a : number_in (snapshots (rules x.m.game) x.m.first (seat_of s.viewer) x.many x.accepted) ≤ length x.accepted = number_low x.many (rules x.m.game) x.m.first (seat_of s.viewer) x.accepted in
      let b : length x.accepted ≤ length (x.later ++ x.accepted) = part_low x.later x.accepted in
      let c : length (x.later ++ x.accepted) ≤ 4096 = subst (λ (l : List Accepted). length l ≤ 4096) x.in_order k.ground.few in
      omega arith) in
      items_fit (number_in s.sight) s.own low_number k.good.came k.good.order k.fits.tickets

  seen_reads : (h : List (Entry (RoomCall X))) (s : Session) → Seen h s → AllLines IsShallow (stream_of s) → AllLines ReadsBack (stream_of s)
  seen_reads h s k shallow =
      let x : SeesMatch rules room h s = k.sees in
      let shown = shown_may rules room lawful stays x.m k.ground s.name (subst IsName (sym x.name) k.ground.name) s.viewer k.fits.seat s.protocol x.many x.later x.accepted x.in_order in
      all_read (stream_of s)
      (stream_may s (subst (λ sheet. AllMay (showings s.name sheet s.viewer s.protocol s.sight)) (sym x.sheet)
      (subst (λ sight. AllMay (showings s.name (rules x.m.game).sheet s.viewer s.protocol sight)) (sym x.sight) shown)) (seen_items h s k)) shallow

  pub are_shallow : StatesAreShallow rules → (h : List (Entry (RoomCall X))) → CallsFit h → (pass j : ℕ) (s : Session) → session rules room h pass j ≡ Some s → AllLines IsShallow (stream_of s)
  are_shallow flat h f pass j s e =
      let k : Seen h s = seen h f pass j s e in
      let x : SeesMatch rules room h s = k.sees in
      let shown = shown_shallow rules room lawful stays flat x.m k.ground s.name s.viewer s.protocol x.many x.later x.accepted x.in_order in
      stream_have IsShallow ok_shallow no_shallow s (subst (λ sheet. AllHave IsShallow (showings s.name sheet s.viewer s.protocol s.sight)) (sym x.sheet)
      (subst (λ sight. AllHave IsShallow (showings s.name (rules x.m.game).sheet s.viewer s.protocol sight)) (sym x.sight) shown)) (seen_items h s k)

  pub reads_back : (h : List (Entry (RoomCall X))) → CallsFit h → (pass j : ℕ) (s : Session) → session rules room h pass j ≡ Some s → AllLines IsShallow (stream_of s) → AllLines ReadsBack (stream_of s)
  reads_back h f pass j s e shallow = seen_reads h s (seen h f pass j s e) shallow

  -- ---- what a client has read of what a session was sent

  -- nothing that is told; the first messages of what was shown; or all that was handed out, and a bye line
  data Has (s : Session) (told : List (List ℕ)) : Type 0 where
    Nothing : told ≡ [] → Has s told
    Some_of : (newer : List ServerMsg) (head : ServerMsg) (older : List ServerMsg) → messages_of s ≡ newer ++ head ∷ older → AllRead (head ∷ older) → told ≡ lines_of (head ∷ older) → Has s told
    Only_bye : (why : Bye) → told ≡ text (Farewell why) ∷ [] → Has s told
    With_bye : (newer : List ServerMsg) (head : ServerMsg) (older : List ServerMsg) (why : Bye) → messages_of s ≡ newer ++ head ∷ older → AllRead (head ∷ older) → told ≡ lines_of (head ∷ older) ++ text (Farewell why) ∷ [] → Has s told

  has_part : (s : Session) (more ms : List ServerMsg) (told : List (List ℕ)) → messages_of s ≡ more ++ ms → AllRead ms → Parted ms told → Has s told
  has_part s more ms told e back p = by p.older p.is p.lines
    where
      by : (older : List ServerMsg) → ms ≡ p.newer ++ older → told ≡ lines_of older → Has s told
      by [] is lines = Nothing lines
      by (head ∷ older) is lines =
          Some_of (more ++ p.newer) head older (e ∙ ap (λ l. more ++ l) is ∙ sym (append_assoc more p.newer (head ∷ older))) (later_read p.newer (head ∷ older) (subst AllRead is back)) lines

  has_all : (s : Session) (more ms : List ServerMsg) (why : Bye) (told : List (List ℕ)) → messages_of s ≡ more ++ ms → AllRead ms → told ≡ lines_of ms ++ text (Farewell why) ∷ [] → Has s told
  has_all s more [] why told e back is = Only_bye why is
  has_all s more (head ∷ older) why told e back is = With_bye more head older why e back is

  bye_line : (why : Bye) → told_lines (text (Farewell why) ∷ []) ≡ text (Farewell why) ∷ []
  bye_line why = rw (bye_reads why) refl

  has : (s : Session) → Good s → AllLines ReadsBack (stream_of s) → (told : List (List ℕ)) → IsFirstPart told (told_lines s.sent) → Has s told
  has s k back told f = by (sent_aside s k)
    where
      mark : ToMark (stream_of s)
      mark = to_mark (stream_of s)

      older_back : AllLines ReadsBack mark.older
      older_back = older_lines ReadsBack mark.newer mark.older (subst (AllLines ReadsBack) mark.is back)

      more : (more : List ServerMsg) × (messages_of s ≡ more ++ news mark.older)
      more = mark_older s mark.newer mark.older mark.is

      lines_told : told_lines (message_lines_to_mark (stream_of s)) ≡ lines_of (news mark.older)
      lines_told = ap told_lines mark.lines ∙ stream_told mark.older older_back

      by : IsInOrder s → Has s told
      by (inl e) =
          has_part s more.0 (news mark.older) told more.1 (news_read mark.older older_back)
          (part_lines (news mark.older) told (f.0, sym (ap told_lines e ∙ lines_told) ∙ f.1))
      by (inr e) = ended_by (last_in (lines_of (news mark.older)) (text (Farewell e.0)) told f.0 (sym (ap told_lines e.1 ∙ told_append (message_lines_to_mark (stream_of s)) (text (Farewell e.0) ∷ []) ∙ ap (λ l. l ++ told_lines (text (Farewell e.0) ∷ [])) lines_told ∙ ap (λ l. lines_of (news mark.older) ++ l) (bye_line e.0)) ∙ f.1))
        where
          ended_by : (told ≡ lines_of (news mark.older) ++ text (Farewell e.0) ∷ []) ⊎ IsFirstPart told (lines_of (news mark.older)) → Has s told
          ended_by (inl whole) = has_all s more.0 (news mark.older) e.0 told more.1 (news_read mark.older older_back) whole
          ended_by (inr part) = has_part s more.0 (news mark.older) told more.1 (news_read mark.older older_back) (part_lines (news mark.older) told part)

  -- ---- so it sees the match

  some_seen : (h : List (Entry (RoomCall X))) (s : Session) (k : Seen h s) (newer : List ServerMsg) (head : ServerMsg) (older : List ServerMsg) → messages_of s ≡ newer ++ head ∷ older → AllRead (head ∷ older)
      → SeesSome rules room lawful stays k.sees.m k.ground s.name s.viewer s.protocol (head ∷ older)
  some_seen h s k newer head older e back =
      let x : SeesMatch rules room h s = k.sees in
      sees_older rules room lawful stays x.m k.ground s.name s.viewer s.protocol x.many x.later x.accepted x.in_order newer head older
      (sym (ap (λ sight. messages (showings s.name (rules x.m.game).sheet s.viewer s.protocol sight)) x.sight) ∙ sym (ap (λ sheet. messages (showings s.name sheet s.viewer s.protocol s.sight)) x.sheet) ∙ e) back

  sees_by : (h : List (Entry (RoomCall X))) (s : Session) (k : Seen h s) (told : List (List ℕ)) → Has s told → has_sync told ≡ true → SeesAt rules k.sees.m s (reads_all (rules k.sees.m.game) fresh told)
  sees_by h s k told (Nothing e) sync = absurd (no_both (ap has_sync (sym e) ∙ sync))
  sees_by h s k told (Only_bye why e) sync = absurd (no_both (sym (one_bye why (bye_reads why)) ∙ ap has_sync (sym e) ∙ sync))
  sees_by h s k told (Some_of newer head older e back is) sync =
      let x : SeesSome rules room lawful stays k.sees.m k.ground s.name s.viewer s.protocol (head ∷ older) = some_seen h s k newer head older e back in
      record { later = x.later; earlier = x.earlier; in_order = x.in_order; plays = ap (λ l. (reads_all (rules k.sees.m.game) fresh l).playing) is ∙ ap (λ (c : Client G). c.playing) x.sees }
  sees_by h s k told (With_bye newer head older why e back is) sync =
      let x : SeesSome rules room lawful stays k.sees.m k.ground s.name s.viewer s.protocol (head ∷ older) = some_seen h s k newer head older e back in
      record {
        later = x.later;
        earlier = x.earlier;
        in_order = x.in_order;
        plays = ap (λ l. (reads_all (rules k.sees.m.game) fresh l).playing) is
            ∙ ap (λ (c : Client G). c.playing) (reads_last (rules k.sees.m.game) fresh (lines_of (head ∷ older)) (text (Farewell why)))
            ∙ reads_bye (rules k.sees.m.game) (reads_all (rules k.sees.m.game) fresh (lines_of (head ∷ older))) (text (Farewell why)) why (bye_reads why)
            ∙ ap (λ (c : Client G). c.playing) x.sees;
      }

  gone_by : (h : List (Entry (RoomCall X))) (s : Session) (k : Seen h s) (told : List (List ℕ)) → Has s told → has_bye told ≡ false → (reads_all (rules k.sees.m.game) fresh told).gone ≡ false
  gone_by h s k told (Nothing e) bye = ap (λ l. (reads_all (rules k.sees.m.game) fresh l).gone) e
  gone_by h s k told (Only_bye why e) bye = absurd (no_both (sym bye ∙ ap has_bye e ∙ last_bye [] why (bye_reads why)))
  gone_by h s k told (Some_of newer head older e back is) bye =
      ap (λ l. (reads_all (rules k.sees.m.game) fresh l).gone) is ∙ ap (λ (c : Client G). c.gone) (some_seen h s k newer head older e back).sees
  gone_by h s k told (With_bye newer head older why e back is) bye = absurd (no_both (sym bye ∙ ap has_bye is ∙ last_bye (lines_of (head ∷ older)) why (bye_reads why)))

  some_match : (m n : Match X G) → Some m ≡ Some n → m ≡ n
  some_match m n e = cc

  pub settled : (h : List (Entry (RoomCall X))) → CallsFit h → (pass j : ℕ) (s : Session) → session rules room h pass j ≡ Some s → AllLines IsShallow (stream_of s)
      → (m : Match X G) → match_of rules room h s.name.serial ≡ Some m → (read : List (List ℕ)) → IsFirstPart (told_lines read) (told_lines s.sent) → has_sync read ≡ true
      → SeesAt rules m s (followed (rules m.game) read)
  settled h f pass j s e shallow m is read part sync =
      let k : Seen h s = seen h f pass j s e in
      subst (λ (n : Match X G). SeesAt rules n s (followed (rules n.game) read)) (some_match k.sees.m m (sym k.sees.is ∙ is))
      (sees_by h s k (told_lines read) (has s k.good (seen_reads h s k shallow) (told_lines read) part) (sym (sync_told read) ∙ sync))

  pub goes_on : (h : List (Entry (RoomCall X))) → CallsFit h → (pass j : ℕ) (s : Session) → session rules room h pass j ≡ Some s → AllLines IsShallow (stream_of s)
      → (m : Match X G) → match_of rules room h s.name.serial ≡ Some m → (read : List (List ℕ)) → IsFirstPart (told_lines read) (told_lines s.sent) → has_bye read ≡ false
      → (followed (rules m.game) read).gone ≡ false
  goes_on h f pass j s e shallow m is read part bye =
      let k : Seen h s = seen h f pass j s e in
      subst (λ (n : Match X G). (followed (rules n.game) read).gone ≡ false) (some_match k.sees.m m (sym k.sees.is ∙ is))
      (gone_by h s k (told_lines read) (has s k.good (seen_reads h s k shallow) (told_lines read) part) (sym (bye_told read) ∙ bye))

  -- ---- a session that goes on, of which all was taken and read

  in_state : (b : Bool) (st : State) → (if b then Closed else st) ≡ Open → (b ≡ false) × (st ≡ Open)
  in_state true st e = cc
  in_state false st e = (refl, e)

  is_open : (st : State) → st ≡ Open → IsOpen st
  is_open st e = subst IsOpen (sym e) tt

  present_by : (m : Match X G) → IsGrounded rules room m → (s : Session) → Good s → Fits rules room m s → AllLines ReadsBack (stream_of s) → session_state s ≡ Open → handful s ≡ []
      → (read : List (List ℕ)) → told_lines read ≡ told_lines s.sent
      → followed (rules m.game) read ≡ seeing s.name (seat_of s.viewer) (view_at (rules m.game) m.first (seat_of s.viewer) m.accepted)
  present_by m g s k fits back opened none read told =
      let states = in_state (is_detached s.own) (state_of (stream_of s)) opened in
      let sent : all_lines (stream_of s) ≡ s.sent = rest_waits s k states.0 ∙ ap (λ l. s.sent ++ l) none ∙ append-nil s.sent in
      let lines : told_lines read ≡ lines_of (messages_of s) = told ∙ ap told_lines (sym sent ∙ open_lines (stream_of s) states.1) ∙ stream_told (stream_of s) back ∙ ap lines_of (open_news s states.1) in
      let here : messages_of s ≡ messages (showings s.name (rules m.game).sheet s.viewer s.protocol (snapshots (rules m.game) m.first (seat_of s.viewer) fits.many m.accepted))
      = ap (λ sheet. messages (showings s.name sheet s.viewer s.protocol s.sight)) fits.sheet ∙ ap (λ sight. messages (showings s.name (rules m.game).sheet s.viewer s.protocol sight)) fits.all in
      ap (reads_all (rules m.game) fresh) (lines ∙ ap lines_of here)
      ∙ by fits.before (sym fits.all ∙ fits.top) (subst AllRead (open_news s states.1 ∙ here) (news_read (stream_of s) back))
    where
      by : (before : List Snap) → snapshots (rules m.game) m.first (seat_of s.viewer) fits.many m.accepted ≡ snapshot_at (rules m.game) m.first (seat_of s.viewer) m.accepted ∷ before
          → AllRead (messages (showings s.name (rules m.game).sheet s.viewer s.protocol (snapshots (rules m.game) m.first (seat_of s.viewer) fits.many m.accepted)))
          → reads_all (rules m.game) fresh (lines_of (messages (showings s.name (rules m.game).sheet s.viewer s.protocol (snapshots (rules m.game) m.first (seat_of s.viewer) fits.many m.accepted))))
          ≡ seeing s.name (seat_of s.viewer) (view_at (rules m.game) m.first (seat_of s.viewer) m.accepted)
      by before is = subst (λ l. SeesWhere rules room lawful stays m g s.name s.viewer s.protocol l m.accepted → SeesTold rules room lawful stays m g s.name s.viewer s.protocol l m.accepted) (sym is) (λ sees. sees)
          (sees_told rules room lawful stays m g s.name s.viewer s.protocol fits.many [] m.accepted refl)

  first_is : (l : List Session) (s : Session) (before : List Session) → l ≡ s ∷ before → Among s l
  first_is l s before e = subst (Among s) (sym e) (inl refl)

  shown_reads : (m : Match X G) → IsGrounded rules room m → (s : Session) → Good s → SessionFits s → Fits rules room m s → AllLines IsShallow (stream_of s) → AllLines ReadsBack (stream_of s)
  shown_reads m g s k fit fits shallow =
      let low_number : number_in s.sight ≤ 4096 = subst (λ l. number_in l ≤ 4096) (sym fits.top) g.few in
      let shown = shown_may rules room lawful stays m g s.name (subst IsName (sym fits.name) g.name) s.viewer fit.seat s.protocol fits.many [] m.accepted refl in
      all_read (stream_of s)
      (stream_may s (subst (λ sheet. AllMay (showings s.name sheet s.viewer s.protocol s.sight)) (sym fits.sheet)
      (subst (λ sight. AllMay (showings s.name (rules m.game).sheet s.viewer s.protocol sight)) (sym fits.all) shown))
      (items_fit (number_in s.sight) s.own low_number k.came k.order fit.tickets)) shallow

  pub present : (h : List (Entry (RoomCall X))) → CallsFit h → (pass : ℕ) (s : Session) → latest_session rules room h pass ≡ Some s → AllLines IsShallow (stream_of s)
      → session_state s ≡ Open → handful s ≡ [] → (m : Match X G) → standing rules room h ≡ Some m → (read : List (List ℕ)) → told_lines read ≡ told_lines s.sent
      → followed (rules m.game) read ≡ seeing s.name (seat_of s.viewer) (view_at (rules m.game) m.first (seat_of s.viewer) m.accepted)
  present h f pass s e shallow opened none m stands read told =
      let l : Latest ((room_of rules room h).sessions pass) s = latest_is ((room_of rules room h).sessions pass) s e in
      let k : Head rules room (Some m) s l.before = subst (λ st. Head rules room st s l.before) stands (head_of rules room h pass s l) in
      let looks : is_looking s.own ≡ true = k.good.goes_on (is_open (session_state s) opened) in
      let fits : Fits rules room m s = k.fits looks in
      let g : IsGrounded rules room m = standing_grounded rules room low lawful stays h f m stands in
      let fit : SessionFits s = fits_among ((room_of rules room h).sessions pass) s (sessions_fit rules room low lawful stays h f pass) (first_is ((room_of rules room h).sessions pass) s l.before l.is) in
      present_by m g s k.good fits (shown_reads m g s k.good fit fits shallow) opened none read told
