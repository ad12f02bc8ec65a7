-- A refusal that is read rolls the guess back.
use Rattle.std.proofs.Common.{◌≡◌, ◌+◌, ◌==◌, ℕ, List, Bool, true, false, if◌then◌else◌, position, Option, Some, None, Ok, Err, refl, sym, ap, ◌∙◌, subst}
use Rattle.std.specs.Prelude.{Result}
use Rattle.game_trait.specs.Rules.{Rules}
use Rattle.player_sight.specs.declared.shown.Snapshot.{Snapshot}
use Rattle.move_log.specs.declared.entry.Entry.{Entry}
use Rattle.serde_json.specs.Data.{Data}
use Rattle.sight_reading.specs.EntryReading.{entry_in}
use Rattle.sight_reading.specs.SnapshotReading.{snapshot_in}
use Rattle.wire_json.specs.Refusals.{Refusal}
use Rattle.wire_json.specs.ServerReading.{server_read}
use Rattle.wire_json.specs.declared.reason.Reason.{Reason}
use Rattle.wire_json.specs.declared.server.ServerMsg.{ServerMsg}
use Rattle.wire_json.specs.declared.server.ServerMsg.TheVariants as message
use Rattle.client_predict.specs.Client.{Client, Held, Playing, shown_in}
use Rattle.client_predict.specs.Reading.{Heard, begun, change_by, change_in, changed, ended, hears, hears_line, has_ticket, goes_on, in_step, settled_by, settles, Hears, lost, reads, synced, patched_by, taken, unless_gone, updated, verdict, answered}
use Rattle.client_predict.specs.Rollback.{IsRolledBack}
use Rattle.client_predict.specs.declared.change.Change.{Change}
use Rattle.client_predict.specs.declared.told.FeedNo.{FeedNo}
use Rattle.client_predict.specs.declared.told.FeedNo.TheVariants as no
use Rattle.client_predict.specs.declared.told.Told.{Told}
use Rattle.client_predict.specs.declared.told.Told.TheVariants.{Accepted, Refused, Again, Updated}
use Rattle.std.specs.Option.{option_map_or}

-- where the answer isn't a refusal, it is the definition's
pub told_as : {X G : Type 0} (old new : Held X G) (result : Result Told FeedNo) (heard : Heard G) (told : Told) → result ≡ Ok told → Hears old result new heard → (Ok told ≡ heard.told) × (new.client ≡ heard.client)
told_as old new result heard told is h =
    let both = subst (λ r. Hears old r new heard) is h in
    (both.0, ap (λ n. n.client) both.1)

module _ {G : Type 0} (rules : Rules G) (ticket : ℕ) (reason : Reason) where
  -- if the client is told of the refusal, then its guess is rolled back
  abbrev Rolls : Client G → Heard G → Type 0
  Rolls c heard = heard.told ≡ Ok (Refused ticket reason) → IsRolledBack rules ticket c heard.client

  unless : (gone : Bool) (c : Client G) (heard : Heard G) → Rolls c heard → Rolls c (if gone then lost c no.Gone else heard)
  unless true c heard r = λ e. cc
  unless false c heard r = r

  at_place : (c : Client G) (p : Playing G) (o : Option ℕ) (t : ℕ) (told : Told) → c.playing ≡ Some p → position (has_ticket t) p.waiting ≡ o → (told ≡ Refused ticket reason → t ≡ ticket) → Rolls c (option_map_or (λ place. goes_on c told (answered p place)) o (lost c (no.UnknownTicket t)))
  at_place c p None t told is found same = λ e. cc
  at_place c p (Some place) t told is found same = λ e.
      let said : told ≡ Refused ticket reason = cc in
      record { p = p; played = is; place = place; found = subst (λ k. position (has_ticket k) p.waiting ≡ Some place) (same said) found; shows = refl }

  judged : (c : Client G) (o : Option (Playing G)) (t : ℕ) (told : Told) → c.playing ≡ o → (told ≡ Refused ticket reason → t ≡ ticket) → Rolls c (verdict c o t told)
  judged c None t told is same = λ e. cc
  judged c (Some p) t told is same = at_place c p (position (has_ticket t) p.waiting) t told is refl same

  syncs : (c : Client G) (name : _) (seat : Option ℕ) (o : Option (Snapshot G)) → Rolls c (synced c name seat o)
  syncs c name seat None = λ e. cc
  syncs c name seat (Some s) = λ e. cc

  if_next : (next : Bool) (c : Client G) (why : FeedNo) (heard : Heard G) → Rolls c heard → Rolls c (if next then heard else lost c why)
  if_next true c why heard r = r
  if_next false c why heard r = λ e. cc

  stepping : (c : Client G) (o : Option (Playing G)) (n : ℕ) (heard : Heard G) → Rolls c heard → Rolls c (in_step c o n heard)
  stepping c None n heard r = λ e. cc
  stepping c (Some p) n heard r = if_next (n == p.settled.number + 1) c (no.OutOfStep p.settled.number n) heard r

  takes : (c : Client G) (o : Option (Playing G)) (change : Change G) (n : ℕ) → Rolls c (taken c o change n)
  takes c None change n = λ e. cc
  takes c (Some p) change n = λ e. cc

  updates : (c : Client G) (o : Option (Playing G)) (q : Option (Change G)) (n : ℕ) → Rolls c (updated c o q n)
  updates c o None n = λ e. cc
  updates c o (Some change) n = stepping c o n (taken c o change n) (takes c o change n)

  takes_if : (c : Client G) (o : Option (Playing G)) (q : Option (Change G)) (n : ℕ) → Rolls c (option_map_or (λ change. taken c o change n) q (lost c no.BadLine))
  takes_if c o None n = λ e. cc
  takes_if c o (Some change) n = takes c o change n

  patches : (c : Client G) (o : Option (Playing G)) (entry : Entry) (ctx gone put : Data) (n : ℕ) → Rolls c (patched_by rules c o entry ctx gone put n)
  patches c o entry ctx gone put n = takes_if c o (change_by rules o entry ctx gone put) n

  changes : (c : Client G) (o : Option (Playing G)) (q : Option Entry) (ctx gone put : Data) (n : ℕ) → Rolls c (changed rules c o q ctx gone put n)
  changes c o None ctx gone put n = λ e. cc
  changes c o (Some entry) ctx gone put n = stepping c o n (patched_by rules c o entry ctx gone put n) (patches c o entry ctx gone put n)

  pub heard_rolls : (c : Client G) (m : ServerMsg) → Rolls c (hears rules c m)
  heard_rolls c (message.Sync name seat protocol snapshot) = syncs c name seat (snapshot_in rules snapshot)
  heard_rolls c (message.Update ctx entry g number) = unless c.gone c _ (updates c c.playing (change_in rules ctx entry g) number)
  heard_rolls c (message.Change ctx entry gone put number) = unless c.gone c _ (changes c c.playing (entry_in rules.sheet entry) ctx gone put number)
  heard_rolls c (message.Ok number t) = unless c.gone c _ (judged c c.playing t (Accepted t) refl (λ e. cc))
  heard_rolls c (message.No number r t) = unless c.gone c _ (judged c c.playing t (Refused t r) refl (λ e. cc))
  heard_rolls c (message.Again None) = unless c.gone c _ (λ e. cc)
  heard_rolls c (message.Again (Some t)) = unless c.gone c _ (judged c c.playing t (Again (Some t)) refl (λ e. cc))
  heard_rolls c (message.Bye why) = unless c.gone c _ (λ e. cc)
  heard_rolls c (message.Games names) = unless c.gone c _ (λ e. cc)
  heard_rolls c (message.Matches rows) = unless c.gone c _ (λ e. cc)
  heard_rolls c (message.Match row) = unless c.gone c _ (λ e. cc)
  heard_rolls c (message.Created name) = unless c.gone c _ (λ e. cc)
  heard_rolls c (message.Joined key name seat) = unless c.gone c _ (λ e. cc)
  heard_rolls c (message.Renamed name seat) = unless c.gone c _ (λ e. cc)
  heard_rolls c (message.Left name seat) = unless c.gone c _ (λ e. cc)
  heard_rolls c (message.Asked name seat) = unless c.gone c _ (λ e. cc)
  heard_rolls c (message.Refused refusal) = unless c.gone c _ (λ e. cc)

  line_rolls : (c : Client G) (r : Result ServerMsg Refusal) → Rolls c (hears_line rules c r)
  line_rolls c (Ok m) = heard_rolls c m
  line_rolls c (Err fault) = unless c.gone c _ (λ e. cc)

  -- reading a refusal rolls the guess back
  pub rolls_back : (c new : Client G) (line : List ℕ) → new ≡ (reads rules c line).client → Ok (Refused ticket reason) ≡ (reads rules c line).told → IsRolledBack rules ticket c new
  unfolding reads
  rolls_back c new line is told = subst (IsRolledBack rules ticket c) (sym is) (line_rolls c (server_read line) (sym told))
