-- What reading a line, and an act, make of a client's part in a match: of the acts that wait, and of its numbers.
use Rattle.std.proofs.Common.{◌≡◌, ◌≢◌, ◌⊎◌, inl, inr, ◌≤◌, ◌<◌, ◌+◌, ◌==◌, ℕ, zero, suc, Bool, true, false, cond, not, ◌&&◌, nat_lt, if◌then◌else◌, is_none, List, [], ◌∷◌, ◌++◌, length, take, drop, get_or, Option, Some, None, option_map, option_and_then, codes, Ok, Err, refl, sym, ap, ◌∙◌, subst, arith}
use Rattle.std.specs.Prelude.{Result, slice_get, position, unwrap_or}
use Rattle.std.specs.List.{remove, position_or_len, list_any}
use Rattle.std.proofs.lemmas.Bool.Decides.{nat_tests}
use Rattle.std.proofs.lemmas.List.Quantifiers.{position-Some}
use Rattle.client_predict.proofs.Pieces.{again, one_further, taken_on, waits_for}
use Rattle.client_predict.specs.Acting.{next_ticket, with_act}
use Rattle.client_predict.specs.Client.{Client, Playing}
use Rattle.client_predict.specs.Prediction.{guessed, guessed_act, last_number, made, may_guess, predict, runs_on_client}
use Rattle.client_predict.specs.Reading.{Heard, answered, begun, change_by, change_in, changed, ended, has_ticket, hears, hears_line, in_step, lost, only_told, patched_by, reads, settled_by, settles, synced, taken, unless_gone, updated, verdict, goes_on}
use Rattle.client_predict.specs.Shown.{counts_on, shown}
use Rattle.client_predict.specs.declared.told.FeedNo.TheVariants as no
use Rattle.client_predict.specs.declared.told.Told.{Told}
use Rattle.client_predict.specs.declared.told.Told.TheVariants.{Accepted, Refused, Again, Ended, Other}
use Rattle.client_predict.specs.declared.waiting.Waiting.{Waiting}
use Rattle.game_sheet.specs.MatchName.{Name}
use Rattle.game_sheet.specs.declared.act.Act.{Act}
use Rattle.game_sheet.specs.declared.args.Arg.{Arg}
use Rattle.game_sheet.specs.declared.act.Act.TheVariants.{Move, Event, Undo, Redo}
use Rattle.game_trait.specs.Rules.{Rules}
use Rattle.move_log.specs.declared.entry.Entry.{Entry}
use Rattle.player_sight.specs.declared.shown.Snapshot.{Snapshot}
use Rattle.serde_json.specs.Data.{Data}
use Rattle.serde_json.specs.Find.{get}
use Rattle.sight_reading.specs.EntryReading.{entry_in}
use Rattle.json_tree.specs.Names.{extra_in}
use Rattle.sight_reading.specs.CtxReading.{ctx_in}
use Rattle.sight_reading.specs.Reading.{natural_at}
use Rattle.sight_reading.proofs.SnapshotLaws.{snapshot_names}
use Rattle.sight_reading.specs.SnapshotReading.{log_in, snapshot_in}
use Rattle.sight_reading.proofs.NumberLaws.{natural_is}
use Rattle.sight_reading.proofs.PartLaws.{past, step}
use Rattle.stage_map.specs.Moves.{may, moves}
use Rattle.wire_json.specs.MatchText.{IsName}
use Rattle.wire_json.specs.Refusals.{Refusal}
use Rattle.wire_json.specs.Resolve.{act_of}
use Rattle.wire_json.specs.ServerReading.{server_read}
use Rattle.wire_json.specs.declared.asked.Asked.{Asked}
use Rattle.wire_json.specs.declared.asked.Asked.TheVariants as asked_as
use Rattle.wire_json.specs.declared.protocol.Protocol.{Protocol}
use Rattle.wire_json.specs.declared.server.ServerMsg.{ServerMsg}
use Rattle.wire_json.specs.declared.server.ServerMsg.TheVariants as message
use Rattle.wire_json.proofs.ServerLaws.{server_read_is}
use Rattle.convergence.specs.Doing.{Knows, ticket_in}
use Rattle.client_predict.specs.Following.{is_sync}
use Rattle.world_convergence.proofs.Counting.{answers}
use Rattle.world_convergence.proofs.Entries.{one_if}
use Rattle.std.specs.Option.{option_map_or}

no_both : false ≡ true → ⊥
no_both e = cc

none_some : {A : Type 0} (x : A) → None ≡ Some x → ⊥
none_some x e = cc

-- ---- the acts that wait with a ticket

abbrev pub waiting_for : ℕ → List Waiting → ℕ
waiting_for ticket [] = 0
waiting_for ticket (w ∷ ws) = one_if (w.ticket == ticket) + waiting_for ticket ws

abbrev pub waits : {G : Type 0} → ℕ → Option (Playing G) → ℕ
waits ticket None = 0
waits ticket (Some p) = waiting_for ticket p.waiting

waiting_append : (ticket : ℕ) (xs ys : List Waiting) → waiting_for ticket (xs ++ ys) ≡ waiting_for ticket xs + waiting_for ticket ys
waiting_append ticket [] ys = omega arith
waiting_append ticket (x ∷ xs) ys = omega (arith, waiting_append ticket xs ys)

parted_at : (ticket : ℕ) (ws : List Waiting) (i : ℕ) (d : Waiting) → i < length ws
    → waiting_for ticket ws ≡ waiting_for ticket (take i ws) + (one_if ((get_or ws i d).ticket == ticket) + waiting_for ticket (drop (suc i) ws))
parted_at ticket [] i d h = absurd (omega (arith, h))
parted_at ticket (w ∷ ws) zero d h = omega arith
parted_at ticket (w ∷ ws) (suc i) d h = omega (arith, parted_at ticket ws i d (omega (arith, h)))

no_act : Waiting
no_act = record { ticket = 0; number = 0; asked = asked_as.Undo }

same_number : (m n : ℕ) → (m == n) ≡ true → m ≡ n
same_number m n h = grind (arith, nat_tests)

-- an answered act is one of its ticket
answered_one : (ticket t : ℕ) (ws : List Waiting) (place : ℕ) → position (has_ticket t) ws ≡ Some place
    → waiting_for ticket ws ≤ waiting_for ticket (remove ws place) + one_if (t == ticket)
answered_one ticket t ws place e =
    let found = position-Some (has_ticket t) ws place no_act e in
    omega (
      arith,
      parted_at ticket ws place no_act found.0,
      waiting_append ticket (take place ws) (drop (suc place) ws),
      ap (λ n. one_if (n == ticket)) (same_number (get_or ws place no_act).ticket t found.1),
    )

place_below : (ticket : ℕ) (ws : List Waiting) → 1 ≤ waiting_for ticket ws → position_or_len (has_ticket ticket) ws < length ws
place_below ticket [] h = absurd (omega (arith, h))
place_below ticket (w ∷ ws) h = by (w.ticket == ticket) refl (place_below ticket ws)
  where
    by : (b : Bool) → (w.ticket == ticket) ≡ b → (1 ≤ waiting_for ticket ws → position_or_len (has_ticket ticket) ws < length ws)
        → cond (not b) (1 + position_or_len (has_ticket ticket) ws) 0 < suc (length ws)
    by true e later = omega arith
    by false e later = let left : 1 ≤ waiting_for ticket ws = omega (arith, h, ap one_if e) in omega (arith, later left)

below_is : (m n : ℕ) → m < n → nat_lt m n ≡ true
below_is m n h = grind (arith, nat_tests)

-- where one waits it is found
pub place_of : (ticket : ℕ) (ws : List Waiting) → 1 ≤ waiting_for ticket ws → (place : ℕ) × (position (has_ticket ticket) ws ≡ Some place)
place_of ticket ws h = (
  position_or_len (has_ticket ticket) ws,
  ap (λ b. cond b (Some (position_or_len (has_ticket ticket) ws)) None) (below_is (position_or_len (has_ticket ticket) ws) (length ws) (place_below ticket ws h)),
)

pub knows_it : {G : Type 0} (c : Client G) (ticket : ℕ) → 1 ≤ waits ticket c.playing → (c.gone ≡ true) ⊎ Knows c ticket
knows_it {G = G} c ticket h = by c.gone refl c.playing refl h
  where
    by : (b : Bool) → c.gone ≡ b → (o : Option (Playing G)) → c.playing ≡ o → 1 ≤ waits ticket o → (c.gone ≡ true) ⊎ Knows c ticket
    by true g o e k = inl g
    by false g None e k = absurd (omega (arith, k))
    by false g (Some p) e k = let at = place_of ticket p.waiting k in inr (record { here = g; p = p; playing = e; place = at.0; found = at.1 })

-- ---- what a line may make of a client's part

abbrev number_read : Result ServerMsg Refusal → Option ℕ
number_read (Ok (message.Update ctx entry g number)) = Some number
number_read (Ok (message.Change ctx entry gone put number)) = Some number
number_read other = None

module _ {G : Type 0} (rules : Rules G) where
  record Ways (P : Option (Playing G) → Type 0) (c : Client G) (read : Result ServerMsg Refusal) : Type 0 where
    same : P c.playing
    begins : (name : Name) (seat : Option ℕ) (protocol : Protocol) (d : Data) (s : Snapshot G) → read ≡ Ok (message.Sync name seat protocol d) → snapshot_in rules d ≡ Some s → P (Some (begun name seat s))
    goes : (p : Playing G) (change : _) (n : ℕ) → c.playing ≡ Some p → number_read read ≡ Some n → P (Some (settles p (settled_by p.settled change n)))
    answers_one : (p : Playing G) (t place : ℕ) → c.playing ≡ Some p → ticket_in read ≡ Some t → position (has_ticket t) p.waiting ≡ Some place → P (Some (answered p place))

  module _ (P : Option (Playing G) → Type 0) (c : Client G) where
    either : (b : Bool) (x y : Heard G) → P x.client.playing → P y.client.playing → P (if b then x else y).client.playing
    either true x y h k = h
    either false x y h k = k

    unless : (x : Heard G) → P c.playing → P x.client.playing → P (unless_gone c x).client.playing
    unless x h k = either c.gone (lost c no.Gone) x h k

    sync_way : (name : Name) (seat : Option ℕ) (protocol : Protocol) (d : Data) (o : Option (Snapshot G)) → Ways P c (Ok (message.Sync name seat protocol d)) → snapshot_in rules d ≡ o → P (synced c name seat o).client.playing
    sync_way name seat protocol d None w e = w.same
    sync_way name seat protocol d (Some s) w e = w.begins name seat protocol d s refl e

    step_way : (read : Result ServerMsg Refusal) (n : ℕ) (o : Option (Playing G)) (x : Heard G) → Ways P c read → c.playing ≡ o → P x.client.playing → P (in_step c o n x).client.playing
    step_way read n None x w e h = w.same
    step_way read n (Some p) x w e h = either (n == p.settled.number + 1) x (lost c (no.OutOfStep p.settled.number n)) h w.same

    taken_way : (read : Result ServerMsg Refusal) (n : ℕ) (o : Option (Playing G)) (change : _) → Ways P c read → number_read read ≡ Some n → c.playing ≡ o → P (taken c o change n).client.playing
    taken_way read n None change w r e = w.same
    taken_way read n (Some p) change w r e = w.goes p change n e r

    updated_way : (read : Result ServerMsg Refusal) (n : ℕ) (change : _) → Ways P c read → number_read read ≡ Some n → P (updated c c.playing change n).client.playing
    updated_way read n None w r = w.same
    updated_way read n (Some change) w r = step_way read n c.playing (taken c c.playing change n) w refl (taken_way read n c.playing change w r refl)

    taken_if_way : (read : Result ServerMsg Refusal) (n : ℕ) (change : _) → Ways P c read → number_read read ≡ Some n → P (option_map_or (λ change. taken c c.playing change n) change (lost c no.BadLine)).client.playing
    taken_if_way read n None w r = w.same
    taken_if_way read n (Some change) w r = taken_way read n c.playing change w r refl

    changed_way : (read : Result ServerMsg Refusal) (n : ℕ) (entry : Option Entry) (ctx gone put : Data) → Ways P c read → number_read read ≡ Some n → P (changed rules c c.playing entry ctx gone put n).client.playing
    changed_way read n None ctx gone put w r = w.same
    changed_way read n (Some entry) ctx gone put w r =
        step_way read n c.playing (patched_by rules c c.playing entry ctx gone put n) w refl (taken_if_way read n (change_by rules c.playing entry ctx gone put) w r)

    at_way : (read : Result ServerMsg Refusal) (p : Playing G) (t : ℕ) (o : Option ℕ) (told : Told) → Ways P c read → ticket_in read ≡ Some t → c.playing ≡ Some p → position (has_ticket t) p.waiting ≡ o
        → P (option_map_or (λ place. goes_on c told (answered p place)) o (lost c (no.UnknownTicket t))).client.playing
    at_way read p t None told w r e f = w.same
    at_way read p t (Some place) told w r e f = w.answers_one p t place e r f

    verdict_way : (read : Result ServerMsg Refusal) (t : ℕ) (told : Told) (o : Option (Playing G)) → Ways P c read → ticket_in read ≡ Some t → c.playing ≡ o → P (verdict c o t told).client.playing
    verdict_way read t told None w r e = w.same
    verdict_way read t told (Some p) w r e = at_way read p t (position (has_ticket t) p.waiting) told w r e refl

    again_way : (ticket : Option ℕ) → Ways P c (Ok (message.Again ticket)) → P (again c ticket).client.playing
    again_way None w = w.same
    again_way (Some t) w = verdict_way (Ok (message.Again (Some t))) t (Again (Some t)) c.playing w refl refl

    hears_way : (m : ServerMsg) → Ways P c (Ok m) → P (hears rules c m).client.playing
    hears_way (message.Sync name seat protocol d) w = sync_way name seat protocol d (snapshot_in rules d) w refl
    hears_way (message.Update ctx entry g number) w =
        unless (updated c c.playing (change_in rules ctx entry g) number) w.same (updated_way (Ok (message.Update ctx entry g number)) number (change_in rules ctx entry g) w refl)
    hears_way (message.Change ctx entry gone put number) w =
        unless (changed rules c c.playing (entry_in rules.sheet entry) ctx gone put number) w.same
        (changed_way (Ok (message.Change ctx entry gone put number)) number (entry_in rules.sheet entry) ctx gone put w refl)
    hears_way (message.Ok number ticket) w =
        unless (verdict c c.playing ticket (Accepted ticket)) w.same (verdict_way (Ok (message.Ok number ticket)) ticket (Accepted ticket) c.playing w refl refl)
    hears_way (message.No number reason ticket) w =
        unless (verdict c c.playing ticket (Refused ticket reason)) w.same (verdict_way (Ok (message.No number reason ticket)) ticket (Refused ticket reason) c.playing w refl refl)
    hears_way (message.Again ticket) w = unless (again c ticket) w.same (again_way ticket w)
    hears_way (message.Bye why) w = unless (ended c (Ended why)) w.same w.same
    hears_way (message.Games names) w = unless (only_told c Other) w.same w.same
    hears_way (message.Matches rows) w = unless (only_told c Other) w.same w.same
    hears_way (message.Match row) w = unless (only_told c Other) w.same w.same
    hears_way (message.Created name) w = unless (only_told c Other) w.same w.same
    hears_way (message.Joined key name seat) w = unless (only_told c Other) w.same w.same
    hears_way (message.Renamed name seat) w = unless (only_told c Other) w.same w.same
    hears_way (message.Left name seat) w = unless (only_told c Other) w.same w.same
    hears_way (message.Asked name seat) w = unless (only_told c Other) w.same w.same
    hears_way (message.Refused refusal) w = unless (only_told c Other) w.same w.same

    line_way : (read : Result ServerMsg Refusal) → Ways P c read → P (hears_line rules c read).client.playing
    line_way (Ok m) w = hears_way m w
    line_way (Err fault) w = unless (lost c no.BadLine) w.same w.same

    reads_way : (text : List ℕ) → Ways P c (server_read text) → P (reads rules c text).client.playing
    unfolding reads
    reads_way text w = line_way (server_read text) w

  -- ---- the acts that wait: a line answers one at most

  one_down : (ticket t : ℕ) (read : Result ServerMsg Refusal) → ticket_in read ≡ Some t → one_if (answers ticket read) ≡ one_if (t == ticket)
  one_down ticket t read e = rw e refl

  pub reads_waits : (c : Client G) (text : List ℕ) (ticket : ℕ) → (is_sync (server_read text) ≡ true → c.playing ≡ None)
      → waits ticket c.playing ≤ waits ticket (reads rules c text).client.playing + one_if (answers ticket (server_read text))
  reads_waits c text ticket synced_first =
      reads_way (λ o. waits ticket c.playing ≤ waits ticket o + one_if (answers ticket (server_read text))) c text (record {
        same = omega arith;
        begins = λ name seat protocol d s e f. omega (arith, ap (waits ticket) (synced_first (ap is_sync e)));
        goes = λ p change n e f. omega (arith, ap (waits ticket) e);
        answers_one = λ p t place e f found. omega (arith, ap (waits ticket) e, answered_one ticket t p.waiting place found, one_down ticket t (server_read text) f);
      })

  -- ---- only a sync begins a part

  pub reads_none : (c : Client G) (text : List ℕ) → c.playing ≡ None → is_sync (server_read text) ≡ false → (reads rules c text).client.playing ≡ None
  reads_none c text none other =
      reads_way (λ o. o ≡ None) c text (record {
        same = none;
        begins = λ name seat protocol d s e f. absurd (no_both (sym other ∙ ap is_sync e));
        goes = λ p change n e f. absurd (none_some p (sym none ∙ e));
        answers_one = λ p t place e f found. absurd (none_some p (sym none ∙ e));
      })

  -- and only one whose snapshot it can read
  pub reads_unread : (c : Client G) (text : List ℕ) → c.playing ≡ None
      → ((name : Name) (seat : Option ℕ) (protocol : Protocol) (d : Data) (s : Snapshot G) → server_read text ≡ Ok (message.Sync name seat protocol d) → snapshot_in rules d ≡ Some s → ⊥)
      → (reads rules c text).client.playing ≡ None
  reads_unread c text none unread =
      reads_way (λ o. o ≡ None) c text (record {
        same = none;
        begins = λ name seat protocol d s e f. absurd (unread name seat protocol d s e f);
        goes = λ p change n e f. absurd (none_some p (sym none ∙ e));
        answers_one = λ p t place e f found. absurd (none_some p (sym none ∙ e));
      })

  pub sync_unread : (c : Client G) (text : List ℕ) (name : Name) (seat : Option ℕ) (protocol : Protocol) (d : Data) → server_read text ≡ Ok (message.Sync name seat protocol d) → snapshot_in rules d ≡ None
      → reads rules c text ≡ lost c no.BadLine
  unfolding reads
  sync_unread c text name seat protocol d e f = ap (hears_line rules c) e ∙ ap (synced c name seat) f

  -- ---- a client that is gone stays so, until a sync that it can read

  gone_heard : (c : Client G) (x : Heard G) → c.gone ≡ true → (unless_gone c x).client.gone ≡ true
  gone_heard c x g = ap (λ b. (if b then lost c no.Gone else x).client.gone) g

  abbrev IsUnread : Result ServerMsg Refusal → Type 0
  IsUnread (Ok (message.Sync name seat protocol d)) = snapshot_in rules d ≡ None
  IsUnread read = Unit {0}

  hears_gone : (c : Client G) (m : ServerMsg) → c.gone ≡ true → IsUnread (Ok m) → (hears rules c m).client.gone ≡ true
  hears_gone c (message.Sync name seat protocol d) is u = ap (λ o. (synced c name seat o).client.gone) u
  hears_gone c (message.Games names) is u = gone_heard c _ is
  hears_gone c (message.Matches rows) is u = gone_heard c _ is
  hears_gone c (message.Match row) is u = gone_heard c _ is
  hears_gone c (message.Created name) is u = gone_heard c _ is
  hears_gone c (message.Joined key name seat) is u = gone_heard c _ is
  hears_gone c (message.Renamed name seat) is u = gone_heard c _ is
  hears_gone c (message.Left name seat) is u = gone_heard c _ is
  hears_gone c (message.Asked name seat) is u = gone_heard c _ is
  hears_gone c (message.Update ctx entry g number) is u = gone_heard c _ is
  hears_gone c (message.Change ctx entry gone put number) is u = gone_heard c _ is
  hears_gone c (message.Ok number ticket) is u = gone_heard c _ is
  hears_gone c (message.No number reason ticket) is u = gone_heard c _ is
  hears_gone c (message.Again ticket) is u = gone_heard c _ is
  hears_gone c (message.Refused refusal) is u = gone_heard c _ is
  hears_gone c (message.Bye why) is u = gone_heard c _ is

  line_gone : (c : Client G) (read : Result ServerMsg Refusal) → c.gone ≡ true → IsUnread read → (hears_line rules c read).client.gone ≡ true
  line_gone c (Ok m) g u = hears_gone c m g u
  line_gone c (Err fault) g u = gone_heard c _ g

  pub reads_gone : (c : Client G) (text : List ℕ) → c.gone ≡ true
      → ((name : Name) (seat : Option ℕ) (protocol : Protocol) (d : Data) → server_read text ≡ Ok (message.Sync name seat protocol d) → snapshot_in rules d ≡ None)
      → (reads rules c text).client.gone ≡ true
  unfolding reads
  reads_gone c text g unread = line_gone c (server_read text) g (by (server_read text) refl)
    where
      by : (read : Result ServerMsg Refusal) → server_read text ≡ read → IsUnread read
      by (Ok (message.Sync name seat protocol d)) e = unread name seat protocol d e
      by (Ok (message.Games names)) e = tt
      by (Ok (message.Matches rows)) e = tt
      by (Ok (message.Match row)) e = tt
      by (Ok (message.Created name)) e = tt
      by (Ok (message.Joined key name seat)) e = tt
      by (Ok (message.Renamed name seat)) e = tt
      by (Ok (message.Left name seat)) e = tt
      by (Ok (message.Asked name seat)) e = tt
      by (Ok (message.Update ctx entry g number)) e = tt
      by (Ok (message.Change ctx entry gone put number)) e = tt
      by (Ok (message.Ok number ticket)) e = tt
      by (Ok (message.No number reason ticket)) e = tt
      by (Ok (message.Again ticket)) e = tt
      by (Ok (message.Refused refusal)) e = tt
      by (Ok (message.Bye why)) e = tt
      by (Err fault) e = tt

  -- ---- its numbers stay in their types

  pub record PartFits (p : Playing G) : Type 0 where
    pub name : IsName p.name
    pub number : p.settled.number ≤ 4294967295
    pub ticket : p.ticket ≤ 4294967295

  abbrev pub Fits : Option (Playing G) → Type 0
  Fits None = Unit {0}
  Fits (Some p) = PartFits p

  fits_of : (o : Option (Playing G)) (p : Playing G) → Fits o → o ≡ Some p → PartFits p
  fits_of o p f e = subst Fits e f

  sync_name : (text : List ℕ) (name : Name) (seat : Option ℕ) (protocol : Protocol) (d : Data) → server_read text ≡ Ok (message.Sync name seat protocol d) → IsName name
  sync_name text name seat protocol d e = (server_read_is text (message.Sync name seat protocol d) e).1.0

  number_fits : (text : List ℕ) (m : ServerMsg) (n : ℕ) → server_read text ≡ Ok m → number_read (Ok m) ≡ Some n → n ≤ 4294967295
  number_fits text (message.Update ctx entry g number) n e f =
      let within : number ≤ 4294967295 = (server_read_is text (message.Update ctx entry g number) e).1 in subst (λ k. k ≤ 4294967295) (one number n f) within
    where
      one : (a b : ℕ) → Some a ≡ Some b → a ≡ b
      one a b h = cc
  number_fits text (message.Change ctx entry gone put number) n e f =
      let within : number ≤ 4294967295 = (server_read_is text (message.Change ctx entry gone put number) e).1.4 in subst (λ k. k ≤ 4294967295) (one number n f) within
    where
      one : (a b : ℕ) → Some a ≡ Some b → a ≡ b
      one a b h = cc
  number_fits text (message.Sync name seat protocol d) n e f = absurd (none_some n f)
  number_fits text (message.Games names) n e f = absurd (none_some n f)
  number_fits text (message.Matches rows) n e f = absurd (none_some n f)
  number_fits text (message.Match row) n e f = absurd (none_some n f)
  number_fits text (message.Created name) n e f = absurd (none_some n f)
  number_fits text (message.Joined key name seat) n e f = absurd (none_some n f)
  number_fits text (message.Renamed name seat) n e f = absurd (none_some n f)
  number_fits text (message.Left name seat) n e f = absurd (none_some n f)
  number_fits text (message.Asked name seat) n e f = absurd (none_some n f)
  number_fits text (message.Ok number ticket) n e f = absurd (none_some n f)
  number_fits text (message.No number reason ticket) n e f = absurd (none_some n f)
  number_fits text (message.Again ticket) n e f = absurd (none_some n f)
  number_fits text (message.Refused refusal) n e f = absurd (none_some n f)
  number_fits text (message.Bye why) n e f = absurd (none_some n f)

  read_number : (text : List ℕ) (n : ℕ) → number_read (server_read text) ≡ Some n → n ≤ 4294967295
  read_number text n f = by (server_read text) refl f
    where
      by : (read : Result ServerMsg Refusal) → server_read text ≡ read → number_read read ≡ Some n → n ≤ 4294967295
      by (Ok m) e g = number_fits text m n e g
      by (Err fault) e g = absurd (none_some n g)

  snapshot_number : (d : Data) (s : Snapshot G) → snapshot_in rules d ≡ Some s → s.number ≤ 4294967295
  unfolding snapshot_in
  snapshot_number d s e =
      let known = past (extra_in snapshot_names d) _ s e in
      let at = step (natural_at 4294967295 (get (codes "number") d)) _ s known.1 in
      let ctx = step (option_and_then (ctx_in rules.sheet) (get (codes "ctx") d)) _ s at.2 in
      let g = step (option_and_then rules.read (get (codes "g") d)) _ s ctx.2 in
      let log = step (log_in rules.sheet (get (codes "log") d)) _ s g.2 in
      let within : at.0 ≤ 4294967295 = (natural_is 4294967295 (get (codes "number") d) at.0 at.1).1 in
      let whole : Snapshot G = record { number = at.0; ctx = ctx.0; g = g.0; log = log.0 } in
      let same : whole ≡ s = cc (log.2) in
      subst (λ (x : Snapshot G). x.number ≤ 4294967295) same within

  pub reads_fits : (c : Client G) (text : List ℕ) → Fits c.playing → Fits (reads rules c text).client.playing
  reads_fits c text f =
      reads_way Fits c text (record {
        same = f;
        begins = λ name seat protocol d s e r. record { name = sync_name text name seat protocol d e; number = snapshot_number d s r; ticket = omega arith };
        goes = λ p change n e r. let old = fits_of c.playing p f e in record { name = old.name; number = read_number text n r; ticket = old.ticket };
        answers_one = λ p t place e r found. let old = fits_of c.playing p f e in record { name = old.name; number = old.number; ticket = old.ticket };
      })

  -- ---- an act

  pub act_waits : (p : Playing G) (asked : Asked) (ticket : ℕ) → waits ticket (Some (with_act rules p asked)) ≡ waits ticket (Some p) + one_if (p.ticket == ticket)
  act_waits p asked ticket = omega (arith, waiting_append ticket p.waiting (waits_for rules p asked ∷ []))

  next_fits : (ticket : ℕ) → ticket ≤ 4294967295 → next_ticket ticket ≤ 4294967295
  next_fits ticket h = by (ticket == 4294967295) refl
    where
      by : (b : Bool) → (ticket == 4294967295) ≡ b → (if b then 1 else ticket + 1) ≤ 4294967295
      by true e = omega arith
      by false e = let other : ticket ≢ 4294967295 = grind (arith, nat_tests) in omega (arith, h)

  pub act_fits : (p : Playing G) (asked : Asked) → PartFits p → PartFits (with_act rules p asked)
  act_fits p asked f = record { name = f.name; number = f.number; ticket = next_fits p.ticket f.ticket }

  -- ---- what is shown has a number of its type too

  abbrev Below : Option G → Snapshot G → Type 0
  Below None s = Unit {0}
  Below (Some g) s = s.number + 1 ≤ 4294967295

  guess_below : (s : Snapshot G) (seat id : ℕ) (args : List Arg) → s.number ≤ 4294967295 → Below (if may_guess rules.sheet s seat id then made (rules.play s.g s.ctx seat id args []) else None) s
  guess_below s seat id args h = by (s.number == last_number) (runs_on_client (slice_get rules.sheet.moves id) && (is_none s.ctx.over && (may s.ctx seat && list_any (λ m. m == id) (moves rules.sheet s.ctx seat)))) (made (rules.play s.g s.ctx seat id args [])) refl
    where
      some : (o : Option G) → s.number + 1 ≤ 4294967295 → Below o s
      some None k = tt
      some (Some g) k = k

      by : (last rest : Bool) (o : Option G) → (s.number == last_number) ≡ last → Below (if not last && rest then o else None) s
      by true rest o e = tt
      by false false o e = tt
      by false true o e = let other : s.number ≢ 4294967295 = grind (arith, nat_tests) in some o (omega (arith, h))

  act_below : (s : Snapshot G) (seat : ℕ) (act : Option Act) → s.number ≤ 4294967295 → Below (guessed_act rules s seat act) s
  act_below s seat None h = tt
  act_below s seat (Some (Move id args)) h = guess_below s seat id args h
  act_below s seat (Some (Event event)) h = tt
  act_below s seat (Some Undo) h = tt
  act_below s seat (Some Redo) h = tt

  guessed_below : (s : Snapshot G) (seat : Option ℕ) (asked : Asked) → s.number ≤ 4294967295 → Below (guessed rules s seat asked) s
  guessed_below s None asked h = tt
  guessed_below s (Some seat) asked h = act_below s seat (act_of rules.sheet asked) h

  further : (s : Snapshot G) (o : Option G) → s.number ≤ 4294967295 → Below o s → (unwrap_or (option_map (one_further s) o) s).number ≤ 4294967295
  further s None h b = h
  further s (Some g) h b = b

  taken_fits : (seat : Option ℕ) (s : Snapshot G) (w : Waiting) → s.number ≤ 4294967295 → (taken_on rules seat s w).number ≤ 4294967295
  taken_fits seat s w h = by (counts_on rules.sheet s w)
    where
      by : (b : Bool) → (if b then unwrap_or (predict rules s seat w.asked) s else s).number ≤ 4294967295
      by true = further s (guessed rules s seat w.asked) h (guessed_below s seat w.asked h)
      by false = h

  pub shown_fits : (seat : Option ℕ) (s : Snapshot G) (ws : List Waiting) → s.number ≤ 4294967295 → (shown rules seat s ws).number ≤ 4294967295
  shown_fits seat s [] h = h
  shown_fits seat s (w ∷ ws) h = shown_fits seat (taken_on rules seat s w) ws (taken_fits seat s w h)
