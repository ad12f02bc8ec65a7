-- A client that reads the messages of what a session was shown, in order, sees at each the snapshot that the message tells of.
use Rattle.std.proofs.Common.{◌≡◌, ◌⊎◌, inl, inr, ◌+◌, ℕ, zero, suc, List, [], ◌∷◌, ◌++◌, length, Some, arith, refl, sym, ap, ◌∙◌, subst, append_assoc}
use Rattle.std.specs.List.{AllByRecursion}
use Rattle.client_predict.specs.Client.{Client, fresh}
use Rattle.client_predict.specs.Reading.{reads}
use Rattle.game_sheet.specs.MatchName.{Name}
use Rattle.game_sheet.specs.Viewer.{Viewer, seat_of}
use Rattle.game_trait.specs.Lawful.{Lawful}
use Rattle.game_trait.specs.Rules.{Rules}
use Rattle.move_log.specs.Redact.{redact}
use Rattle.move_log.specs.declared.entry.Entry.{Entry}
use Rattle.player_sight.specs.CtxData.{ctx_data}
use Rattle.player_sight.specs.Plain.{IsPlainEntry}
use Rattle.player_sight.specs.PlainSnapshot.{IsPlain}
use Rattle.player_sight.specs.Change.{gone_part, put_part}
use Rattle.player_sight.specs.SnapshotData.{Snap, snapshot_data}
use Rattle.player_sight.specs.declared.shown.Snapshot.{Snapshot}
use Rattle.reducer.specs.Accepted.{Accepted}
use Rattle.reducer.specs.Fold.{fold}
use Rattle.room_history.specs.Match.{Match}
use Rattle.wire_json.specs.declared.server.ServerMsg.{ServerMsg}
use Rattle.wire_json.specs.declared.server.ServerMsg.TheVariants.{Sync}
use Rattle.wire_json.specs.ServerText.{text}
use Rattle.room_history.specs.News.{messages}
use Rattle.room_history.specs.Showing.{newest_entry, showings, update_message}
use Rattle.room_history.specs.Shown.{entry_of, log_from, snapshot_at, snapshots}
use Rattle.sight_reading.specs.CtxReading.{ctx_in}
use Rattle.sight_reading.specs.EntryReading.{entry_in}
use Rattle.sight_reading.proofs.CtxLaws.{ctx_again}
use Rattle.sight_reading.proofs.EntryLaws.{entry_again}
use Rattle.wire_json.specs.declared.protocol.Protocol.{Protocol}
use Rattle.wire_json.specs.declared.protocol.Protocol.TheVariants.{One, Two}
use Rattle.client_predict.specs.Following.{reads_all}
use Rattle.convergence.specs.Grounded.{IsGrounded}
use Rattle.convergence.specs.Lines.{ReadsBack}
use Rattle.room_history.specs.Shown.{view_at}
use Rattle.convergence.proofs.Grounds.{StaysSound, view_plain, view_read}
use Rattle.convergence.proofs.Steps.{last_has, map_last, newest_last, reads_change, reads_sync, reads_update, seeing}
use Rattle.convergence.proofs.Texts.{leads_to_new}
use Rattle.convergence.proofs.Values.{ctx_ok}

-- the lines of messages, in order; the latest message is the first of the list
abbrev pub lines_of : List ServerMsg → List (List ℕ)
lines_of [] = []
lines_of (m ∷ ms) = lines_of ms ++ text m ∷ []

abbrev pub AllRead : List ServerMsg → Type 0
AllRead [] = Unit {0}
AllRead (m ∷ ms) = ReadsBack m × AllRead ms

pub later_read : (newer older : List ServerMsg) → AllRead (newer ++ older) → AllRead older
later_read [] older h = h
later_read (m ∷ newer) older h = later_read newer older h.1

pub reads_last : {G : Type 0} (rules : Rules G) (c : Client G) (xs : List (List ℕ)) (x : List ℕ) → reads_all rules c (xs ++ x ∷ []) ≡ (reads rules (reads_all rules c xs) x).client
reads_last rules c [] x = refl
reads_last rules c (y ∷ xs) x = reads_last rules (reads rules c y).client xs x

module _ {X G : Type 0} (rules : X → Rules G) (room : ℕ) (lawful : (game : X) → Lawful (rules game)) (stays : StaysSound rules) (m : Match X G) (g : IsGrounded rules room m)
    (name : Name) (viewer : Viewer) (protocol : Protocol) where
  abbrev view : List Accepted → Snapshot G
  view accepted = view_at (rules m.game) m.first (seat_of viewer) accepted

  abbrev pub Sees : Client G → List Accepted → Type 0
  Sees c accepted = c ≡ seeing name (seat_of viewer) (view_at (rules m.game) m.first (seat_of viewer) accepted)

  abbrev snap : List Accepted → Snap
  snap accepted = snapshot_at (rules m.game) m.first (seat_of viewer) accepted

  abbrev snaps : ℕ → List Accepted → List Snap
  snaps many accepted = snapshots (rules m.game) m.first (seat_of viewer) many accepted

  abbrev pub told_at : List Snap → List ServerMsg
  told_at sight = messages (showings name (rules m.game).sheet viewer protocol sight)

  sync_step : (c : Client G) (later accepted : List Accepted) → m.accepted ≡ later ++ accepted
      → ReadsBack (Sync name (seat_of viewer) protocol (snapshot_data (rules m.game).sheet (snap accepted)))
      → Sees (reads (rules m.game) c (text (Sync name (seat_of viewer) protocol (snapshot_data (rules m.game).sheet (snap accepted))))).client accepted
  sync_step c later accepted e back =
      reads_sync (rules m.game) c (text (Sync name (seat_of viewer) protocol (snapshot_data (rules m.game).sheet (snap accepted)))) name (seat_of viewer) protocol
      (snapshot_data (rules m.game).sheet (snap accepted)) (view_at (rules m.game) m.first (seat_of viewer) accepted) back
      (view_read rules room lawful stays m g later accepted e (seat_of viewer)).read

  one_later : (later : List Accepted) (a : Accepted) (accepted : List Accepted) → m.accepted ≡ later ++ a ∷ accepted → m.accepted ≡ (later ++ a ∷ []) ++ accepted
  one_later later a accepted e = e ∙ sym (append_assoc later (a ∷ []) accepted)

  abbrev entry_at : Accepted → List Accepted → Entry
  entry_at a accepted = redact (rules m.game).sheet (seat_of viewer) (entry_of (fold (rules m.game) m.first accepted) (fold (rules m.game) m.first (a ∷ accepted)) (length accepted) a)

  log_grows : (a : Accepted) (accepted : List Accepted) → (view (a ∷ accepted)).log ≡ (view accepted).log ++ entry_at a accepted ∷ []
  log_grows a accepted =
      map_last (redact (rules m.game).sheet (seat_of viewer)) (log_from (rules m.game) m.first accepted) (entry_of (fold (rules m.game) m.first accepted) (fold (rules m.game) m.first (a ∷ accepted)) (length accepted) a)

  entry_read : (a : Accepted) (accepted : List Accepted) → IsPlain (rules m.game) (view (a ∷ accepted)) → entry_in (rules m.game).sheet (newest_entry (rules m.game).sheet (view (a ∷ accepted)).log) ≡ Some (entry_at a accepted)
  entry_read a accepted plain =
      ap (λ l. entry_in (rules m.game).sheet (newest_entry (rules m.game).sheet l)) (log_grows a accepted) ∙ ap (entry_in (rules m.game).sheet) (newest_last (rules m.game).sheet (view accepted).log (entry_at a accepted))
      ∙ entry_again (rules m.game).sheet (entry_at a accepted) (lawful m.game).fits
      (last_has (IsPlainEntry (rules m.game).sheet) (view accepted).log (entry_at a accepted) (subst (AllByRecursion (IsPlainEntry (rules m.game).sheet)) (log_grows a accepted) plain.log))

  next_number : (a : Accepted) (accepted : List Accepted) → (view (a ∷ accepted)).number ≡ (view accepted).number + 1
  next_number a accepted = omega arith

  next_by : (p : Protocol) (a : Accepted) (accepted : List Accepted) → IsPlain (rules m.game) (view accepted) → IsPlain (rules m.game) (view (a ∷ accepted))
      → ReadsBack (update_message p (rules m.game).sheet (snap accepted) (snap (a ∷ accepted)))
      → Sees (reads (rules m.game) (seeing name (seat_of viewer) (view accepted)) (text (update_message p (rules m.game).sheet (snap accepted) (snap (a ∷ accepted))))).client (a ∷ accepted)
  next_by One a accepted old new back =
      reads_update (rules m.game) (text (update_message One (rules m.game).sheet (snap accepted) (snap (a ∷ accepted)))) name (seat_of viewer) (view accepted) (view (a ∷ accepted))
      (ctx_data (rules m.game).sheet (view (a ∷ accepted)).ctx) (newest_entry (rules m.game).sheet (view (a ∷ accepted)).log) ((rules m.game).value (view (a ∷ accepted)).g) (entry_at a accepted) back
      (ctx_again (rules m.game).sheet (view (a ∷ accepted)).ctx (lawful m.game).fits new.ctx) (entry_read a accepted new) ((lawful m.game).reads_back (view (a ∷ accepted)).g new.own)
      (next_number a accepted) (log_grows a accepted)
  next_by Two a accepted old new back =
      reads_change (rules m.game) (text (update_message Two (rules m.game).sheet (snap accepted) (snap (a ∷ accepted)))) name (seat_of viewer) (view accepted) (view (a ∷ accepted))
      (put_part (ctx_data (rules m.game).sheet (view accepted).ctx) (ctx_data (rules m.game).sheet (view (a ∷ accepted)).ctx)) (newest_entry (rules m.game).sheet (view (a ∷ accepted)).log)
      (gone_part ((rules m.game).value (view accepted).g) ((rules m.game).value (view (a ∷ accepted)).g)) (put_part ((rules m.game).value (view accepted).g) ((rules m.game).value (view (a ∷ accepted)).g)) (entry_at a accepted) back
      (entry_read a accepted new)
      (ap (ctx_in (rules m.game).sheet) (leads_to_new (ctx_data (rules m.game).sheet (view accepted).ctx) (ctx_data (rules m.game).sheet (view (a ∷ accepted)).ctx)
      (ctx_ok (rules m.game).sheet (lawful m.game).fits (view accepted).ctx old.ctx) (ctx_ok (rules m.game).sheet (lawful m.game).fits (view (a ∷ accepted)).ctx new.ctx))
      ∙ ctx_again (rules m.game).sheet (view (a ∷ accepted)).ctx (lawful m.game).fits new.ctx)
      (ap (rules m.game).read (leads_to_new ((rules m.game).value (view accepted).g) ((rules m.game).value (view (a ∷ accepted)).g) ((lawful m.game).written (view accepted).g old.own) ((lawful m.game).written (view (a ∷ accepted)).g new.own))
      ∙ (lawful m.game).reads_back (view (a ∷ accepted)).g new.own)
      (next_number a accepted) (log_grows a accepted)

  update_step : (p : Protocol) (later : List Accepted) (a : Accepted) (accepted : List Accepted) → m.accepted ≡ later ++ a ∷ accepted
      → ReadsBack (update_message p (rules m.game).sheet (snap accepted) (snap (a ∷ accepted)))
      → (c : Client G) → Sees c accepted → Sees (reads (rules m.game) c (text (update_message p (rules m.game).sheet (snap accepted) (snap (a ∷ accepted))))).client (a ∷ accepted)
  update_step p later a accepted e back c sees =
      subst (λ x. Sees (reads (rules m.game) x (text (update_message p (rules m.game).sheet (snap accepted) (snap (a ∷ accepted))))).client (a ∷ accepted)) (sym sees)
      (next_by p a accepted (view_plain rules room lawful stays m g (later ++ a ∷ []) accepted (one_later later a accepted e) (seat_of viewer))
      (view_plain rules room lawful stays m g later (a ∷ accepted) e (seat_of viewer)) back)

  -- ---- all that was shown

  -- the snapshots of some number and before, where there is one, begin with that of the number
  head_is : (many : ℕ) (accepted : List Accepted) → (snaps many accepted ≡ []) ⊎ ((rest : List Snap) × (snaps many accepted ≡ snap accepted ∷ rest))
  head_is zero accepted = inr ([], refl)
  head_is (suc many) [] = inl refl
  head_is (suc many) (a ∷ accepted) = inr (snaps many accepted, refl)

  abbrev pub SeesTold : List Snap → List Accepted → Type 0
  SeesTold sight accepted = AllRead (told_at sight) → Sees (reads_all (rules m.game) fresh (lines_of (told_at sight))) accepted

  abbrev pub SeesWhere : List Snap → List Accepted → Type 0
  SeesWhere [] accepted = Unit {0}
  SeesWhere (s ∷ sight) accepted = SeesTold (s ∷ sight) accepted

  first_told : (later accepted : List Accepted) → m.accepted ≡ later ++ accepted → SeesTold (snap accepted ∷ []) accepted
  first_told later accepted e = λ back. sync_step fresh later accepted e back.0

  next_told : (later : List Accepted) (a : Accepted) (accepted : List Accepted) (rest : List Snap) → m.accepted ≡ later ++ a ∷ accepted → SeesTold (snap accepted ∷ rest) accepted → SeesTold (snap (a ∷ accepted) ∷ snap accepted ∷ rest) (a ∷ accepted)
  next_told later a accepted rest e before = λ back.
      reads_last (rules m.game) fresh (lines_of (told_at (snap accepted ∷ rest))) (text (update_message protocol (rules m.game).sheet (snap accepted) (snap (a ∷ accepted))))
      ∙ update_step protocol later a accepted e back.0 (reads_all (rules m.game) fresh (lines_of (told_at (snap accepted ∷ rest)))) (before back.1)

  pub sees_told : (many : ℕ) (later accepted : List Accepted) → m.accepted ≡ later ++ accepted → SeesWhere (snaps many accepted) accepted
  sees_told zero later accepted e = first_told later accepted e
  sees_told (suc many) later [] e = tt
  sees_told (suc many) later (a ∷ accepted) e = by (head_is many accepted) (sees_told many (later ++ a ∷ []) accepted (one_later later a accepted e))
    where
      by : (snaps many accepted ≡ []) ⊎ ((rest : List Snap) × (snaps many accepted ≡ snap accepted ∷ rest)) → SeesWhere (snaps many accepted) accepted → SeesTold (snap (a ∷ accepted) ∷ snaps many accepted) (a ∷ accepted)
      by (inl none) before = subst (λ l. SeesTold (snap (a ∷ accepted) ∷ l) (a ∷ accepted)) (sym none) (first_told later (a ∷ accepted) e)
      by (inr some) before =
          subst (λ l. SeesTold (snap (a ∷ accepted) ∷ l) (a ∷ accepted)) (sym some.1)
          (next_told later a accepted some.0 e (subst (λ l. SeesWhere l accepted) some.1 before))

  -- ---- the first of it

  abbrev Begins : ServerMsg → List ServerMsg → List ServerMsg → Type 0
  Begins head rest told = told ≡ head ∷ rest

  told_after : (s : Snap) (sight : List Snap) → (head : ServerMsg) × Begins head (told_at sight) (told_at (s ∷ sight))
  told_after s [] = (Sync name (seat_of viewer) protocol (snapshot_data (rules m.game).sheet s), refl)
  told_after s (before ∷ sight) = (update_message protocol (rules m.game).sheet before s, refl)

  -- what was told at some number and before
  pub record Older (whole : List Accepted) (told : List ServerMsg) : Type 0 where
    pub many : ℕ
    pub between : List Accepted
    pub accepted : List Accepted
    pub in_order : whole ≡ between ++ accepted
    pub is : told_at (snaps many accepted) ≡ told

  nothing_after : (x : ServerMsg) (xs ys : List ServerMsg) → [] ≡ xs ++ x ∷ ys → ⊥
  nothing_after x [] ys e = cc
  nothing_after x (z ∷ xs) ys e = cc

  rest_of : (h k : ServerMsg) (xs ys : List ServerMsg) → h ∷ xs ≡ k ∷ ys → xs ≡ ys
  rest_of h k xs ys e = cc

  pub older_told : (many : ℕ) (accepted : List Accepted) (newer : List ServerMsg) (head : ServerMsg) (older : List ServerMsg) → told_at (snaps many accepted) ≡ newer ++ head ∷ older → Older accepted (head ∷ older)
  older_told many accepted [] head older e = record { many = many; between = []; accepted = accepted; in_order = refl; is = e }
  older_told zero accepted (x ∷ newer) head older e = absurd (nothing_after head newer older (rest_of _ x [] (newer ++ head ∷ older) e))
  older_told (suc many) [] (x ∷ newer) head older e = absurd (nothing_after head (x ∷ newer) older e)
  older_told (suc many) (a ∷ accepted) (x ∷ newer) head older e =
      let after : (h : ServerMsg) × Begins h (told_at (snaps many accepted)) (told_at (snap (a ∷ accepted) ∷ snaps many accepted)) = told_after (snap (a ∷ accepted)) (snaps many accepted) in
      let o : Older accepted (head ∷ older) = older_told many accepted newer head older (rest_of after.0 x (told_at (snaps many accepted)) (newer ++ head ∷ older) (sym after.1 ∙ e)) in
      record { many = o.many; between = a ∷ o.between; accepted = o.accepted; in_order = ap (λ l. a ∷ l) o.in_order; is = o.is }

  -- a client that reads the first messages of what was told sees the match at some number
  pub record SeesSome (told : List ServerMsg) : Type 0 where
    pub later : List Accepted
    pub earlier : List Accepted
    pub in_order : m.accepted ≡ later ++ earlier
    pub sees : Sees (reads_all (rules m.game) fresh (lines_of told)) earlier

  not_none : (sight : List Snap) (accepted : List Accepted) (head : ServerMsg) (older : List ServerMsg) → told_at sight ≡ head ∷ older → SeesWhere sight accepted → SeesTold sight accepted
  not_none [] accepted head older e h = absurd (cc (e))
  not_none (s ∷ sight) accepted head older e h = h

  pub sees_older : (many : ℕ) (later accepted : List Accepted) → m.accepted ≡ later ++ accepted → (newer : List ServerMsg) (head : ServerMsg) (older : List ServerMsg) → told_at (snaps many accepted) ≡ newer ++ head ∷ older
      → AllRead (head ∷ older) → SeesSome (head ∷ older)
  sees_older many later accepted e newer head older told back =
      let o : Older accepted (head ∷ older) = older_told many accepted newer head older told in
      let order : m.accepted ≡ (later ++ o.between) ++ o.accepted = e ∙ ap (λ l. later ++ l) o.in_order ∙ sym (append_assoc later o.between o.accepted) in
      let sees : SeesTold (snaps o.many o.accepted) o.accepted = not_none (snaps o.many o.accepted) o.accepted head older o.is (sees_told o.many (later ++ o.between) o.accepted order) in
      record {
        later = later ++ o.between;
        earlier = o.accepted;
        in_order = order;
        sees = subst (λ l. AllRead l → Sees (reads_all (rules m.game) fresh (lines_of l)) o.accepted) o.is sees back;
      }
