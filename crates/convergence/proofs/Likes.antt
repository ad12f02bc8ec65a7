-- Acts, verdicts and direct answers change nothing that is settled.
use Rattle.std.proofs.Common.{◌≡◌, ◌⊎◌, inl, inr, ◌+◌, ◌==◌, ℕ, Bool, true, false, if◌then◌else◌, List, [], ◌∷◌, Option, Some, None, option_map, Ok, Err, refl, sym, ap, ◌∙◌, subst}
use Rattle.std.specs.Prelude.{Result}
use Rattle.client_predict.proofs.Pieces.{again}
use Rattle.client_predict.specs.Client.{Client, Playing, settled_in}
use Rattle.client_predict.specs.Reading.{Heard, change_by, change_in, changed, ended, hears, hears_line, in_step, lost, only_told, patched_by, reads, settled_by, synced, taken, unless_gone, updated, verdict, answered, goes_on}
use Rattle.client_predict.specs.declared.told.FeedNo.TheVariants as no
use Rattle.client_predict.specs.declared.told.Told.{Told}
use Rattle.client_predict.specs.declared.told.Told.TheVariants.{Accepted, Refused, Again, Ended, Other}
use Rattle.game_sheet.specs.MatchName.{Name}
use Rattle.game_trait.specs.Rules.{Rules}
use Rattle.move_log.specs.declared.entry.Entry.{Entry}
use Rattle.player_sight.specs.declared.shown.Snapshot.{Snapshot}
use Rattle.serde_json.specs.Data.{Data}
use Rattle.sight_reading.specs.EntryReading.{entry_in}
use Rattle.sight_reading.specs.SnapshotReading.{snapshot_in}
use Rattle.wire_json.specs.Refusals.{Refusal}
use Rattle.wire_json.specs.ServerReading.{server_read}
use Rattle.wire_json.specs.declared.asked.Asked.{Asked}
use Rattle.wire_json.specs.declared.server.ServerMsg.{ServerMsg}
use Rattle.wire_json.specs.declared.server.ServerMsg.TheVariants as message
use Rattle.convergence.specs.Doing.{Acts, AnswersAll, Doing, Face, IsLike, Knows, KnowsWhere, Reads, acts_in, does_all, face, lines_in, ticket_in, ticket_of}
use Rattle.client_predict.specs.Following.{is_told, reads_all, told_lines}
use Rattle.std.specs.Option.{option_map_or}

one : {A : Type 0} (x y : A) → Some x ≡ Some y → x ≡ y
one x y e = cc

none_some : {A : Type 0} (x : A) → None ≡ Some x → ⊥
none_some x e = cc

some_none : {A : Type 0} (x : A) → Some x ≡ None → ⊥
some_none x e = cc

no_both : false ≡ true → ⊥
no_both e = cc

pub like : {G : Type 0} (c : Client G) → IsLike c c
like c = record { gone = refl; sees = refl }

then_like : {G : Type 0} (a b c : Client G) → IsLike a b → IsLike b c → IsLike a c
then_like a b c h k = record { gone = h.gone ∙ k.gone; sees = h.sees ∙ k.sees }

settled_face : {G : Type 0} (o : Option (Playing G)) → option_map (λ (p : Playing G). p.settled) o ≡ option_map (λ (f : Face G). f.settled) (option_map face o)
settled_face None = refl
settled_face (Some p) = refl

pub like_settled : {G : Type 0} (c d : Client G) → IsLike c d → settled_in c ≡ settled_in d
like_settled {G = G} c d l = settled_face c.playing ∙ ap (option_map (λ (f : Face G). f.settled)) l.sees ∙ sym (settled_face d.playing)

module _ {G : Type 0} (rules : Rules G) where
  -- ---- a line that is told makes the same of both

  unless_alike : (b : Bool) (c d : Client G) (x y : Heard G) → IsLike c d → IsLike x.client y.client → IsLike (if b then lost c no.Gone else x).client (if b then lost d no.Gone else y).client
  unless_alike true c d x y l h = record { gone = refl; sees = l.sees }
  unless_alike false c d x y l h = h

  gone_alike : (c d : Client G) (x y : Heard G) → IsLike c d → IsLike x.client y.client → IsLike (unless_gone c x).client (unless_gone d y).client
  gone_alike c d x y l h = subst (λ b. IsLike (unless_gone c x).client (if b then lost d no.Gone else y).client) l.gone (unless_alike c.gone c d x y l h)

  synced_alike : (c d : Client G) (name : Name) (seat : Option ℕ) (o : Option (Snapshot G)) → IsLike c d → IsLike (synced c name seat o).client (synced d name seat o).client
  synced_alike c d name seat None l = record { gone = refl; sees = l.sees }
  synced_alike c d name seat (Some s) l = record { gone = refl; sees = refl }

  taken_alike : (c d : Client G) (o r : Option (Playing G)) (change : _) (n : ℕ) → IsLike c d → option_map face o ≡ option_map face r → IsLike (taken c o change n).client (taken d r change n).client
  taken_alike c d None None change n l e = record { gone = refl; sees = l.sees }
  taken_alike c d None (Some q) change n l e = absurd (none_some (face q) e)
  taken_alike c d (Some p) None change n l e = absurd (some_none (face p) e)
  taken_alike c d (Some p) (Some q) change n l e =
      record { gone = l.gone; sees = ap (λ (f : Face G). Some (record { name = f.name; seat = f.seat; settled = settled_by f.settled change n })) (one (face p) (face q) e) }

  step_alike : (c d : Client G) (o r : Option (Playing G)) (n : ℕ) (x y : Heard G) → IsLike c d → option_map face o ≡ option_map face r → IsLike x.client y.client → IsLike (in_step c o n x).client (in_step d r n y).client
  step_alike c d None None n x y l e h = record { gone = refl; sees = l.sees }
  step_alike c d None (Some q) n x y l e h = absurd (none_some (face q) e)
  step_alike c d (Some p) None n x y l e h = absurd (some_none (face p) e)
  step_alike c d (Some p) (Some q) n x y l e h =
      subst (λ k. IsLike (in_step c (Some p) n x).client (if n == k + 1 then y else lost d (no.OutOfStep q.settled.number n)).client)
      (ap (λ (f : Face G). f.settled.number) (one (face p) (face q) e)) (by (n == p.settled.number + 1))
    where
      by : (b : Bool) → IsLike (if b then x else lost c (no.OutOfStep p.settled.number n)).client (if b then y else lost d (no.OutOfStep q.settled.number n)).client
      by true = h
      by false = record { gone = refl; sees = l.sees }

  updated_alike : (c d : Client G) (o r : Option (Playing G)) (change : _) (n : ℕ) → IsLike c d → option_map face o ≡ option_map face r → IsLike (updated c o change n).client (updated d r change n).client
  updated_alike c d o r None n l e = record { gone = refl; sees = l.sees }
  updated_alike c d o r (Some change) n l e = step_alike c d o r n (taken c o change n) (taken d r change n) l e (taken_alike c d o r change n l e)

  same_change : (o r : Option (Playing G)) (entry : Entry) (ctx gone put : Data) → option_map face o ≡ option_map face r → change_by rules o entry ctx gone put ≡ change_by rules r entry ctx gone put
  same_change None None entry ctx gone put e = refl
  same_change None (Some q) entry ctx gone put e = absurd (none_some (face q) e)
  same_change (Some p) None entry ctx gone put e = absurd (some_none (face p) e)
  same_change (Some p) (Some q) entry ctx gone put e =
      ap (λ (s : Snapshot G). change_by rules (Some (record { name = p.name; seat = p.seat; settled = s; waiting = p.waiting; ticket = p.ticket })) entry ctx gone put) (ap (λ (f : Face G). f.settled) (one (face p) (face q) e))

  taken_if_alike : (c d : Client G) (o r : Option (Playing G)) (change : _) (n : ℕ) → IsLike c d → option_map face o ≡ option_map face r → IsLike (option_map_or (λ change. taken c o change n) change (lost c no.BadLine)).client (option_map_or (λ change. taken d r change n) change (lost d no.BadLine)).client
  taken_if_alike c d o r None n l e = record { gone = refl; sees = l.sees }
  taken_if_alike c d o r (Some change) n l e = taken_alike c d o r change n l e

  patched_alike : (c d : Client G) (o r : Option (Playing G)) (entry : Entry) (ctx gone put : Data) (n : ℕ) → IsLike c d → option_map face o ≡ option_map face r
      → IsLike (patched_by rules c o entry ctx gone put n).client (patched_by rules d r entry ctx gone put n).client
  patched_alike c d o r entry ctx gone put n l e =
      subst (λ x. IsLike (patched_by rules c o entry ctx gone put n).client (option_map_or (λ change. taken d r change n) x (lost d no.BadLine)).client) (same_change o r entry ctx gone put e)
      (taken_if_alike c d o r (change_by rules o entry ctx gone put) n l e)

  changed_alike : (c d : Client G) (o r : Option (Playing G)) (entry : Option Entry) (ctx gone put : Data) (n : ℕ) → IsLike c d → option_map face o ≡ option_map face r
      → IsLike (changed rules c o entry ctx gone put n).client (changed rules d r entry ctx gone put n).client
  changed_alike c d o r None ctx gone put n l e = record { gone = refl; sees = l.sees }
  changed_alike c d o r (Some entry) ctx gone put n l e =
      step_alike c d o r n (patched_by rules c o entry ctx gone put n) (patched_by rules d r entry ctx gone put n) l e (patched_alike c d o r entry ctx gone put n l e)

  hears_alike : (c d : Client G) (m : ServerMsg) → IsLike c d → is_told (Ok m) ≡ true → IsLike (hears rules c m).client (hears rules d m).client
  hears_alike c d (message.Sync name seat protocol snapshot) l t = synced_alike c d name seat (snapshot_in rules snapshot) l
  hears_alike c d (message.Update ctx entry g number) l t =
      gone_alike c d (updated c c.playing (change_in rules ctx entry g) number) (updated d d.playing (change_in rules ctx entry g) number) l (updated_alike c d c.playing d.playing (change_in rules ctx entry g) number l l.sees)
  hears_alike c d (message.Change ctx entry gone put number) l t =
      gone_alike c d (changed rules c c.playing (entry_in rules.sheet entry) ctx gone put number) (changed rules d d.playing (entry_in rules.sheet entry) ctx gone put number) l
      (changed_alike c d c.playing d.playing (entry_in rules.sheet entry) ctx gone put number l l.sees)
  hears_alike c d (message.Bye why) l t = gone_alike c d (ended c (Ended why)) (ended d (Ended why)) l (record { gone = refl; sees = l.sees })
  hears_alike c d (message.Games names) l t = absurd (no_both t)
  hears_alike c d (message.Matches rows) l t = absurd (no_both t)
  hears_alike c d (message.Match row) l t = absurd (no_both t)
  hears_alike c d (message.Created name) l t = absurd (no_both t)
  hears_alike c d (message.Joined key name seat) l t = absurd (no_both t)
  hears_alike c d (message.Renamed name seat) l t = absurd (no_both t)
  hears_alike c d (message.Left name seat) l t = absurd (no_both t)
  hears_alike c d (message.Asked name seat) l t = absurd (no_both t)
  hears_alike c d (message.Ok number ticket) l t = absurd (no_both t)
  hears_alike c d (message.No number reason ticket) l t = absurd (no_both t)
  hears_alike c d (message.Again ticket) l t = absurd (no_both t)
  hears_alike c d (message.Refused refusal) l t = absurd (no_both t)

  -- ---- a line that is passed over leaves what is settled

  gone_stays : (b : Bool) (c : Client G) (x : Heard G) → c.gone ≡ b → (b ≡ false → IsLike x.client c) → IsLike (if b then lost c no.Gone else x).client c
  gone_stays true c x e h = record { gone = sym e; sees = refl }
  gone_stays false c x e h = h refl

  unless_stays : (c : Client G) (x : Heard G) → (c.gone ≡ false → IsLike x.client c) → IsLike (unless_gone c x).client c
  unless_stays c x h = gone_stays c.gone c x refl h

  verdict_stays : (c : Client G) (t : ℕ) (told : Told) → (c.gone ≡ true) ⊎ Knows c t → c.gone ≡ false → IsLike (verdict c c.playing t told).client c
  verdict_stays c t told (inl gone) here = absurd (no_both (sym here ∙ gone))
  verdict_stays c t told (inr k) here =
      subst (λ o. IsLike (verdict c o t told).client c) (sym k.playing)
      (subst (λ o. IsLike (option_map_or (λ place. goes_on c told (answered k.p place)) o (lost c (no.UnknownTicket t))).client c) (sym k.found) (record { gone = refl; sees = sym (ap (option_map face) k.playing) }))

  again_stays : (c : Client G) (ticket : Option ℕ) → KnowsWhere c ticket → c.gone ≡ false → IsLike (again c ticket).client c
  again_stays c None k here = like c
  again_stays c (Some t) k here = verdict_stays c t (Again (Some t)) k here

  hears_stays : (c : Client G) (m : ServerMsg) → is_told (Ok m) ≡ false → KnowsWhere c (ticket_of m) → IsLike (hears rules c m).client c
  hears_stays c (message.Sync name seat protocol snapshot) t k = absurd (no_both (sym t))
  hears_stays c (message.Update ctx entry g number) t k = absurd (no_both (sym t))
  hears_stays c (message.Change ctx entry gone put number) t k = absurd (no_both (sym t))
  hears_stays c (message.Bye why) t k = absurd (no_both (sym t))
  hears_stays c (message.Games names) t k = unless_stays c (only_told c Other) (λ here. like c)
  hears_stays c (message.Matches rows) t k = unless_stays c (only_told c Other) (λ here. like c)
  hears_stays c (message.Match row) t k = unless_stays c (only_told c Other) (λ here. like c)
  hears_stays c (message.Created name) t k = unless_stays c (only_told c Other) (λ here. like c)
  hears_stays c (message.Joined key name seat) t k = unless_stays c (only_told c Other) (λ here. like c)
  hears_stays c (message.Renamed name seat) t k = unless_stays c (only_told c Other) (λ here. like c)
  hears_stays c (message.Left name seat) t k = unless_stays c (only_told c Other) (λ here. like c)
  hears_stays c (message.Asked name seat) t k = unless_stays c (only_told c Other) (λ here. like c)
  hears_stays c (message.Ok number ticket) t k = unless_stays c (verdict c c.playing ticket (Accepted ticket)) (verdict_stays c ticket (Accepted ticket) k)
  hears_stays c (message.No number reason ticket) t k = unless_stays c (verdict c c.playing ticket (Refused ticket reason)) (verdict_stays c ticket (Refused ticket reason) k)
  hears_stays c (message.Again ticket) t k = unless_stays c (again c ticket) (again_stays c ticket k)
  hears_stays c (message.Refused refusal) t k = unless_stays c (only_told c Other) (λ here. like c)

  line_alike : (c d : Client G) (r : Result ServerMsg Refusal) → IsLike c d → is_told r ≡ true → IsLike (hears_line rules c r).client (hears_line rules d r).client
  line_alike c d (Ok m) l t = hears_alike c d m l t
  line_alike c d (Err fault) l t = gone_alike c d (lost c no.BadLine) (lost d no.BadLine) l (record { gone = refl; sees = l.sees })

  line_stays : (c : Client G) (r : Result ServerMsg Refusal) → is_told r ≡ false → KnowsWhere c (ticket_in r) → IsLike (hears_line rules c r).client c
  line_stays c (Ok m) t k = hears_stays c m t k
  line_stays c (Err fault) t k = absurd (no_both (sym t))

  reads_alike : (c d : Client G) (line : List ℕ) → IsLike c d → is_told (server_read line) ≡ true → IsLike (reads rules c line).client (reads rules d line).client
  unfolding reads
  reads_alike c d line l t = line_alike c d (server_read line) l t

  reads_stays : (c : Client G) (line : List ℕ) → is_told (server_read line) ≡ false → KnowsWhere c (ticket_in (server_read line)) → IsLike (reads rules c line).client c
  unfolding reads
  reads_stays c line t k = line_stays c (server_read line) t k

  acts_stay : (c : Client G) (o : Option (Playing G)) (asked : Asked) → c.playing ≡ o → IsLike (acts_in rules c o asked) c
  acts_stay c None asked e = like c
  acts_stay c (Some p) asked e = record { gone = refl; sees = sym (ap (option_map face) e) }

  -- a client that acts in between is like one that passes over what settles nothing
  pub all_alike : (c d : Client G) (doings : List Doing) → AnswersAll rules c doings → IsLike c d → IsLike (does_all rules c doings) (reads_all rules d (told_lines (lines_in doings)))
  all_alike c d [] a l = l
  all_alike c d (Acts asked ∷ doings) a l = all_alike (acts_in rules c c.playing asked) d doings a.1 (then_like (acts_in rules c c.playing asked) c d (acts_stay c c.playing asked refl) l)
  all_alike c d (Reads line ∷ doings) a l = by (is_told (server_read line)) refl (λ e like_next. all_alike (reads rules c line).client e doings a.1 like_next)
    where
      by : (b : Bool) → is_told (server_read line) ≡ b
          → ((e : Client G) → IsLike (reads rules c line).client e → IsLike (does_all rules (reads rules c line).client doings) (reads_all rules e (told_lines (lines_in doings))))
          → IsLike (does_all rules (reads rules c line).client doings) (reads_all rules d (if b then line ∷ told_lines (lines_in doings) else told_lines (lines_in doings)))
      by true t later = later (reads rules d line).client (reads_alike c d line l t)
      by false t later = later d (then_like (reads rules c line).client c d (reads_stays c line t a.0) l)
