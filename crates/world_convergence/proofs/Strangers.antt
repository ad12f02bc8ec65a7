-- A client of a game that can't read what is sent: its sync is a bad line to it, and it plays nothing.
use Rattle.std.proofs.Common.{◌≡◌, ◌≤◌, ◌+◌, ℕ, zero, suc, Bool, true, false, if◌then◌else◌, is_some, IsTrue, List, [], ◌∷◌, ◌++◌, length, Option, Some, None, option_map, option_and_then, codes, Ok, Err, refl, sym, ap, ◌∙◌, subst, append_assoc, arith}
use Rattle.std.specs.Prelude.{Result}
use Rattle.client_predict.specs.Client.{Client, Held, fresh}
use Rattle.client_predict.specs.Reading.{lost, reads}
use Rattle.client_predict.specs.declared.told.FeedNo.TheVariants.{BadLine}
use Rattle.game_sheet.specs.MatchName.{Name}
use Rattle.game_sheet.specs.Viewer.{Viewer, seat_of}
use Rattle.game_sheet.specs.declared.act.Bye.{Bye}
use Rattle.game_sheet.specs.declared.ctx.Ctx.{Ctx}
use Rattle.game_sheet.specs.declared.sheet.Sheet.{Sheet}
use Rattle.game_trait.specs.Lawful.{Lawful}
use Rattle.game_trait.specs.Rules.{Rules}
use Rattle.json_tree.specs.Names.{extra_in}
use Rattle.player_sight.specs.SnapshotData.{Snap, snapshot_data}
use Rattle.player_sight.specs.declared.shown.Snapshot.{Snapshot}
use Rattle.reducer.specs.Accepted.{Accepted}
use Rattle.room_history.specs.Course.{IsFirstPart}
use Rattle.room_history.specs.Item.{GameAnswer, Item, Submitted, Took, Left, Detached, Starved, Unasked, Accepted as IsAccepted, Refused}
use Rattle.room_history.specs.Match.{Match}
use Rattle.room_history.specs.Room.{match_of}
use Rattle.room_history.specs.Session.{stream_of}
use Rattle.room_history.specs.Showing.{Showing, showings, snapshot_of_number, update_message}
use Rattle.room_history.specs.Shown.{snapshots}
use Rattle.room_history.specs.Sight.{SeesMatch}
use Rattle.room_history.specs.Stream.{item_pieces, public_reason_on, verdict_pieces}
use Rattle.room_history.proofs.Seeing.{sees_match}
use Rattle.serde_json.specs.Data.{Data}
use Rattle.serde_json.specs.Find.{get}
use Rattle.sight_reading.specs.CtxReading.{ctx_in}
use Rattle.sight_reading.specs.Reading.{natural_at, ◌>>=◌}
use Rattle.sight_reading.proofs.SnapshotLaws.{snapshot_names}
use Rattle.sight_reading.specs.SnapshotReading.{from_ctx, from_state, snapshot_in}
use Rattle.wire_json.specs.Refusals.{Refusal}
use Rattle.wire_json.specs.ServerReading.{server_read}
use Rattle.wire_json.specs.declared.protocol.Protocol.{Protocol}
use Rattle.wire_json.specs.declared.protocol.Protocol.TheVariants.{One, Two}
use Rattle.wire_json.specs.declared.reason.Reason.{Reason}
use Rattle.wire_json.specs.declared.server.ServerMsg.{ServerMsg}
use Rattle.wire_json.specs.declared.server.ServerMsg.TheVariants as message
use Rattle.convergence.specs.Doing.{face}
use Rattle.client_predict.specs.Following.{is_told, reads_all, told_lines}
use Rattle.convergence.specs.Grounded.{IsGrounded}
use Rattle.convergence.specs.Shallow.{StatesAreShallow}
use Rattle.convergence.proofs.Grounding.{grounded}
use Rattle.convergence.proofs.Grounds.{StaysSound, view_plain}
use Rattle.hall_history.specs.Rooms.{history_of}
use Rattle.world_history.specs.World.{World}
use Rattle.world_convergence.proofs.Counting.{count, count_append, in_showings, mark_counted, no_items, stream_tallied, tally}
use Rattle.world_convergence.proofs.Entries.{one_if}
use Rattle.world_convergence.proofs.Fitting.{AllFit}
use Rattle.world_convergence.proofs.Hearing.{reads_gone, reads_unread, sync_unread}
use Rattle.world_convergence.proofs.Owning.{no_face}
use Rattle.world_convergence.proofs.Stories.{Met, Sent, is_there, sent_of, session_is}

no_both : false ≡ true → ⊥
no_both e = cc

module _ {G : Type 0} (rules : Rules G) where
  -- ---- a value whose state isn't read is no snapshot

  state_unread : (sheet : Sheet) (d : Data) (number : ℕ) (ctx : Ctx) (o : Option G) → o ≡ None → (o >>= λ g. from_state sheet d number ctx g) ≡ None
  state_unread sheet d number ctx None e = refl
  state_unread sheet d number ctx (Some g) e = cc

  ctx_unread : (d : Data) (number : ℕ) (o : Option Ctx) → option_and_then rules.read (get (codes "g") d) ≡ None → (o >>= λ ctx. from_ctx rules rules.sheet d number ctx) ≡ None
  ctx_unread d number None e = refl
  ctx_unread d number (Some ctx) e = state_unread rules.sheet d number ctx (option_and_then rules.read (get (codes "g") d)) e

  number_unread : (d : Data) (o : Option ℕ) → option_and_then rules.read (get (codes "g") d) ≡ None
      → (o >>= λ number. option_and_then (ctx_in rules.sheet) (get (codes "ctx") d) >>= λ ctx. from_ctx rules rules.sheet d number ctx) ≡ None
  number_unread d None e = refl
  number_unread d (Some number) e = ctx_unread d number (option_and_then (ctx_in rules.sheet) (get (codes "ctx") d)) e

  value_unread : (d : Data) → option_and_then rules.read (get (codes "g") d) ≡ None → snapshot_in rules d ≡ None
  unfolding snapshot_in
  value_unread d e = by (extra_in snapshot_names d)
    where
      by : (b : Bool) → (if b then None else (natural_at 4294967295 (get (codes "number") d) >>= λ number. option_and_then (ctx_in rules.sheet) (get (codes "ctx") d) >>= λ ctx. from_ctx rules rules.sheet d number ctx)) ≡ None
      by true = refl
      by false = number_unread d (natural_at 4294967295 (get (codes "number") d)) e

  pub snap_unread : (sheet : Sheet) (s : Snap) → rules.read s.g ≡ None → snapshot_in rules (snapshot_data sheet s) ≡ None
  snap_unread sheet s e = value_unread (snapshot_data sheet s) e

  -- ---- syncs that this game reads

  abbrev readable : Result ServerMsg Refusal → Bool
  readable (Ok (message.Sync name seat protocol d)) = is_some (snapshot_in rules d)
  readable read = false

  verdict_none : (n ticket : ℕ) (reason : Option Reason) (game : GameAnswer) → tally readable (verdict_pieces n ticket reason game) ≡ 0
  verdict_none n ticket reason Starved = refl
  verdict_none n ticket (Some reason) Unasked = refl
  verdict_none n ticket (Some reason) IsAccepted = refl
  verdict_none n ticket (Some reason) (Refused why) = refl
  verdict_none n ticket None Unasked = refl
  verdict_none n ticket None IsAccepted = refl
  verdict_none n ticket None (Refused why) = refl

  item_none : (name : Name) (sheet : Sheet) (viewer : Viewer) (item : Item) (shown : List Showing) (own : List Item) → tally readable (item_pieces name sheet viewer item shown) + 0 ≤ 0
  item_none name sheet viewer (Submitted n s game) shown own = omega (arith, verdict_none n s.ticket (public_reason_on name sheet viewer (snapshot_of_number n shown) s) game)
  item_none name sheet viewer (Took n) shown own = omega arith
  item_none name sheet viewer (Left n) shown own = omega arith
  item_none name sheet viewer (Detached n) shown own = omega arith

  abbrev pub AllUnread : List Snap → Type 0
  AllUnread [] = Unit {0}
  AllUnread (s ∷ sight) = (rules.read s.g ≡ None) × AllUnread sight

  update_none : (protocol : Protocol) (sheet : Sheet) (before s : Snap) → readable (Ok (update_message protocol sheet before s)) ≡ false
  update_none One sheet before s = refl
  update_none Two sheet before s = refl

  shown_none : (name : Name) (sheet : Sheet) (viewer : Viewer) (protocol : Protocol) (sight : List Snap) → AllUnread sight → in_showings readable (showings name sheet viewer protocol sight) ≡ 0
  shown_none name sheet viewer protocol [] u = refl
  shown_none name sheet viewer protocol (s ∷ []) u = omega (arith, ap (λ o. one_if (is_some o)) (snap_unread sheet s u.0))
  shown_none name sheet viewer protocol (s ∷ before ∷ sight) u =
      omega (arith, ap one_if (update_none protocol sheet before s), shown_none name sheet viewer protocol (before ∷ sight) u.1)

  no_bye_read : (why : Bye) → readable (Ok (message.Bye why)) ≡ false
  no_bye_read why = refl

  -- ---- a client that reads no such sync

  unread_by : (text : List ℕ) → readable (server_read text) ≡ false → (name : Name) (seat : Option ℕ) (protocol : Protocol) (d : Data) (s : Snapshot G) → server_read text ≡ Ok (message.Sync name seat protocol d) → snapshot_in rules d ≡ Some s → ⊥
  unread_by text other name seat protocol d s e f = no_both (sym other ∙ ap readable e ∙ ap (λ o. is_some o) f)

  reads_nothing : (lines : List (List ℕ)) → count readable lines ≡ 0 → (c : Client G) → c.playing ≡ None → (reads_all rules c lines).playing ≡ None
  reads_nothing [] none c e = e
  reads_nothing (text ∷ lines) none c e = by (readable (server_read text)) refl (λ later. reads_nothing lines later (reads rules c text).client)
    where
      by : (b : Bool) → readable (server_read text) ≡ b
          → (count readable lines ≡ 0 → (reads rules c text).client.playing ≡ None → (reads_all rules (reads rules c text).client lines).playing ≡ None)
          → (reads_all rules (reads rules c text).client lines).playing ≡ None
      by true f later = absurd (omega (arith, none, ap one_if f))
      by false f later = later (omega (arith, none, ap one_if f)) (reads_unread rules c text e (unread_by text f))

  no_true : true ≡ false → ⊥
  no_true e = cc

  -- what is passed over is no sync
  untold_unread : (r : Result ServerMsg Refusal) → is_told r ≡ false → readable r ≡ false
  untold_unread (Ok (message.Sync name seat protocol d)) e = absurd (no_true e)
  untold_unread (Ok (message.Games names)) e = refl
  untold_unread (Ok (message.Matches rows)) e = refl
  untold_unread (Ok (message.Match row)) e = refl
  untold_unread (Ok (message.Created name)) e = refl
  untold_unread (Ok (message.Joined key name seat)) e = refl
  untold_unread (Ok (message.Renamed name seat)) e = refl
  untold_unread (Ok (message.Left name seat)) e = refl
  untold_unread (Ok (message.Asked name seat)) e = refl
  untold_unread (Ok (message.Update ctx entry g number)) e = refl
  untold_unread (Ok (message.Change ctx entry gone put number)) e = refl
  untold_unread (Ok (message.Ok number ticket)) e = refl
  untold_unread (Ok (message.No number reason ticket)) e = refl
  untold_unread (Ok (message.Again ticket)) e = refl
  untold_unread (Ok (message.Refused refusal)) e = refl
  untold_unread (Ok (message.Bye why)) e = refl
  untold_unread (Err fault) e = refl

  told_by : (b : Bool) (x : List ℕ) (xs : List (List ℕ)) → is_told (server_read x) ≡ b → one_if (readable (server_read x)) + count readable xs ≡ count readable (if b then x ∷ xs else xs)
  told_by true x xs e = refl
  told_by false x xs e = omega (arith, ap one_if (untold_unread (server_read x) e))

  pub told_same : (xs : List (List ℕ)) → count readable xs ≡ count readable (told_lines xs)
  told_same [] = refl
  told_same (x ∷ xs) = ap (λ k. one_if (readable (server_read x)) + k) (told_same xs) ∙ told_by (is_told (server_read x)) x (told_lines xs) refl

  part_counts : (part whole : List (List ℕ)) → IsFirstPart part whole → count readable part ≤ count readable whole
  part_counts part whole f = omega (arith, ap (count readable) f.1, count_append readable part f.0)

module _ {X G : Type 0} (rules : X → Rules G) (room : ℕ) (lawful : (game : X) → Lawful (rules game)) (stays : StaysSound rules) (other : Rules G) (n : Match X G) (ground : IsGrounded rules room n)
    (strange : (g : G) → IsTrue ((rules n.game).own g) → other.read ((rules n.game).value g) ≡ None) where
  unread_sight : (seat : Option ℕ) (many : ℕ) (later accepted : List Accepted) → n.accepted ≡ later ++ accepted → AllUnread other (snapshots (rules n.game) n.first seat many accepted)
  unread_sight seat zero later accepted e = (strange _ (view_plain rules room lawful stays n ground later accepted e seat).own, tt)
  unread_sight seat (suc many) later [] e = tt
  unread_sight seat (suc many) later (a ∷ accepted) e = (
    strange _ (view_plain rules room lawful stays n ground later (a ∷ accepted) e seat).own,
    unread_sight seat many (later ++ a ∷ []) accepted (e ∙ sym (append_assoc later (a ∷ []) accepted)),
  )

module _ {X G : Type 0} (rules : X → Rules G) (c : ℕ) (lawful : (game : X) → Lawful (rules game)) (stays : StaysSound rules) (flat : StatesAreShallow rules) where
  module _ (w : World X G) (few : length w.hall.rooms ≤ 64) (fit : AllFit w.hall.rooms) (held : Held X G) (r : ℕ) (m : Met rules c w held r) (n : Match X G)
      (of : match_of rules r (history_of w.hall.rooms r) m.s.name.serial ≡ Some n)
      (strange : (g : G) → IsTrue ((rules n.game).own g) → (rules held.game).read ((rules n.game).value g) ≡ None) where
    low : r ≤ 63
    low = omega (arith, is_there rules c w.hall.rooms r m.s m.before m.latest, few)

    some_match : (a b : Match X G) → Some a ≡ Some b → a ≡ b
    some_match a b e = cc

    unread_all : AllUnread (rules held.game) m.s.sight
    unread_all =
        let x : SeesMatch rules r (history_of w.hall.rooms r) m.s = sees_match rules r (history_of w.hall.rooms r) c (length m.before) m.s (session_is rules c w.hall.rooms r m.s m.before m.latest) in
        let ground : IsGrounded rules r x.m = grounded rules r low lawful stays (history_of w.hall.rooms r) (fit r) m.s.name.serial x.m x.is in
        let same : n ≡ x.m = some_match n x.m (sym of ∙ x.is) in
        subst (AllUnread (rules held.game)) (sym x.sight)
        (unread_sight rules r lawful stays (rules held.game) x.m ground
        (subst (λ (y : Match X G). (g : G) → IsTrue ((rules y.game).own g) → (rules held.game).read ((rules y.game).value g) ≡ None) same strange)
        (seat_of m.s.viewer) x.many x.later x.accepted x.in_order)

    sent_unread : count (readable (rules held.game)) m.s.sent ≡ 0
    sent_unread =
        let known : Sent rules c lawful stays flat m.s = sent_of rules c lawful stays flat w.hall.rooms few r (fit r) m.s m.before m.latest in
        omega (
          arith,
          ap (count (readable (rules held.game))) known.tied,
          mark_counted (readable (rules held.game)) (no_bye_read (rules held.game)) (stream_of m.s) known.back,
          stream_tallied (readable (rules held.game)) m.s no_items refl (item_none (rules held.game) m.s.name m.s.sheet m.s.viewer),
          shown_none (rules held.game) m.s.name m.s.sheet m.s.viewer m.s.protocol m.s.sight unread_all,
        )

    all_unread : count (readable (rules held.game)) (m.read ++ w.down c) ≡ 0
    all_unread =
        omega (arith, told_same (rules held.game) (m.read ++ w.down c), part_counts (rules held.game) (told_lines (m.read ++ w.down c)) (told_lines m.s.sent) m.part, told_same (rules held.game) m.s.sent, sent_unread)

    read_unread : count (readable (rules held.game)) (told_lines m.read) ≡ 0
    read_unread = omega (arith, all_unread, count_append (readable (rules held.game)) m.read (w.down c), told_same (rules held.game) m.read)

    pub plays_nothing : held.client.playing ≡ None
    plays_nothing = no_face held.client.playing (m.like.sees ∙ ap (option_map face) (reads_nothing (rules held.game) (told_lines m.read) read_unread fresh refl))

    module _ (text : List ℕ) (rest : List (List ℕ)) (next : w.down c ≡ text ∷ rest) where
      next_unread : (name : Name) (seat : Option ℕ) (protocol : Protocol) (d : Data) → server_read text ≡ Ok (message.Sync name seat protocol d) → snapshot_in (rules held.game) d ≡ None
      next_unread name seat protocol d e = by (snapshot_in (rules held.game) d) refl
        where
          by : (o : Option (Snapshot G)) → snapshot_in (rules held.game) d ≡ o → o ≡ None
          by None f = refl
          by (Some s) f =
              absurd (omega (
                arith,
                all_unread,
                ap (λ l. count (readable (rules held.game)) (m.read ++ l)) next,
                count_append (readable (rules held.game)) m.read (text ∷ rest),
                ap (λ read. one_if (readable (rules held.game) read)) e,
                ap (λ o. one_if (is_some o)) f,
              ))

      pub bad_sync : (name : Name) (seat : Option ℕ) (protocol : Protocol) (d : Data) → server_read text ≡ Ok (message.Sync name seat protocol d) → reads (rules held.game) held.client text ≡ lost held.client BadLine
      bad_sync name seat protocol d e = sync_unread (rules held.game) held.client text name seat protocol d e (next_unread name seat protocol d e)

      pub stays_gone : held.client.gone ≡ true → (reads (rules held.game) held.client text).client.gone ≡ true
      stays_gone g = reads_gone (rules held.game) held.client text g next_unread
