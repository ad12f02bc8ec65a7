-- A plain snapshot reads back from its value, which nothing else in canonical form does.
use Rattle.std.proofs.Common.{◌≡◌, ℕ, List, [], ◌∷◌, map, Option, Some, None, option_map, codes, refl, sym, ap, ◌∙◌, subst}
use Rattle.std.specs.List.{AllByRecursion}
use Rattle.std.specs.Prelude.{IfSome, option_and_then}
use Rattle.std.specs.Result.{result_ok}
use Rattle.serde_json.specs.Data.{Data, null, boolean, number, string, array, object, Items, no_items, item, Members, no_members, member}
use Rattle.serde_json.specs.Find.{get_member}
use Rattle.serde_json.specs.View.{items_of}
use Rattle.game_sheet.specs.SheetFits.{SheetFits}
use Rattle.game_sheet.specs.declared.sheet.Sheet.{Sheet}
use Rattle.game_trait.specs.Lawful.{Lawful}
use Rattle.game_trait.specs.Rules.{Rules}
use Rattle.json_tree.specs.Canonical.{IsCanonical, ItemsAreCanonical, MembersAreCanonical}
use Rattle.json_tree.specs.Fields.{list_in}
use Rattle.json_tree.specs.Names.{has_extra}
use Rattle.json_tree.proofs.Rows.{row_is, canonical_member}
use Rattle.move_log.specs.declared.entry.Entry.{Entry}
use Rattle.player_sight.specs.CtxData.{ctx_data}
use Rattle.sight_reading.specs.CtxReading.{ctx_in}
use Rattle.player_sight.specs.EntryData.{entry_data, log_data}
use Rattle.sight_reading.specs.EntryReading.{entry_in}
use Rattle.sheet_json.specs.Seats.{natural}
use Rattle.player_sight.specs.Plain.{IsPlainEntry}
use Rattle.player_sight.specs.PlainSnapshot.{IsPlain}
use Rattle.player_sight.specs.Seen.{snap_of}
use Rattle.player_sight.specs.SnapshotData.{snapshot_data}
use Rattle.sight_reading.specs.SnapshotReading.{entries_from, log_in, snapshot_in}
use Rattle.player_sight.specs.declared.shown.Snapshot.{Snapshot}
use Rattle.sight_reading.proofs.CtxLaws.{ctx_again, ctx_is, list_is}
use Rattle.sight_reading.proofs.EntryLaws.{entry_again, entry_is}
use Rattle.sight_reading.proofs.NumberLaws.{good, natural_is, natural_again}
use Rattle.sight_reading.proofs.PartLaws.{step, chained, mapped, past}

-- ---- a plain snapshot reads back

entries_again : (sheet : Sheet) (log : List Entry) → SheetFits sheet → AllByRecursion (IsPlainEntry sheet) log → entries_from sheet (items_of (map (entry_data sheet) log)) ≡ Some log
entries_again sheet [] fit h = refl
entries_again sheet (e ∷ log) fit h = rw (entry_again sheet e fit h.0, entries_again sheet log fit h.1) refl

pub snapshot_again : {G : Type 0} (rules : Rules G) (s : Snapshot G) → SheetFits rules.sheet → Lawful rules → IsPlain rules s → snapshot_in rules (snapshot_data rules.sheet (snap_of rules s)) ≡ Some s
unfolding snapshot_in
snapshot_again rules s fit lawful h =
    rw (
      ctx_again rules.sheet s.ctx fit h.ctx,
      lawful.reads_back s.g h.own,
      entries_again rules.sheet s.log fit h.log,
      natural_again 4294967295 s.number h.number,
    ) refl

-- ---- from a value to its snapshot

entries_are : (sheet : Sheet) (ds : Items) (log : List Entry) → ItemsAreCanonical ds → entries_from sheet ds ≡ Some log → (ds ≡ items_of (map (entry_data sheet) log)) × AllByRecursion (IsPlainEntry sheet) log
entries_are sheet no_items [] c e = (refl, tt)
entries_are sheet no_items (x ∷ log) c e = absurd (cc)
entries_are sheet (item d ds) log c e =
    let first = chained (λ x. option_map (λ xs. x ∷ xs) (entries_from sheet ds)) (entry_in sheet d) log e in
    let more = mapped (λ xs. first.0 ∷ xs) (entries_from sheet ds) log first.2 in
    let is = entry_is sheet d first.0 c.0 first.1 in
    let later = entries_are sheet ds more.0 c.1 more.1 in
    subst (λ x. (item d ds ≡ items_of (map (entry_data sheet) x)) × AllByRecursion (IsPlainEntry sheet) x) more.2
    (ap (λ x. item x ds) is.0 ∙ ap (item (entry_data sheet first.0)) later.0, (is.1, later.1))

log_is : (sheet : Sheet) (ms : Members) (log : List Entry) → MembersAreCanonical ms → log_in sheet (get_member (codes "log") ms) ≡ Some log
    → (get_member (codes "log") ms ≡ Some (log_data sheet log)) × AllByRecursion (IsPlainEntry sheet) log
log_is sheet ms log c e =
    let ds = chained (entries_from sheet) (result_ok (list_in (get_member (codes "log") ms))) log e in
    let there = list_is (get_member (codes "log") ms) ds.0 (good (list_in (get_member (codes "log") ms)) ds.0 ds.1) in
    let are = entries_are sheet ds.0 log (canonical_member (codes "log") ms (array ds.0) c there) ds.2 in
    (there ∙ ap (λ x. Some (array x)) are.0, are.1)

abbrev Reads : {G : Type 0} → Rules G → Data → Snapshot G → Type 0
Reads rules d s = IsPlain rules s × (snapshot_data rules.sheet (snap_of rules s) ≡ d)

abbrev pub snapshot_names : List (List ℕ)
snapshot_names = codes "ctx" ∷ codes "g" ∷ codes "log" ∷ codes "number" ∷ []

snapshot_row : Data → Data → Data → ℕ → Members
snapshot_row ctx g log n = member (codes "ctx") ctx (member (codes "g") g (member (codes "log") log (member (codes "number") (natural n) no_members)))

members_are : {G : Type 0} (rules : Rules G) (ms : Members) (s : Snapshot G) → Lawful rules → MembersAreCanonical ms → snapshot_in rules (object ms) ≡ Some s → Reads rules (object ms) s
unfolding snapshot_in snapshot_row
members_are {G = G} rules ms s lawful c e =
    let known = past (has_extra snapshot_names ms) _ s e in
    let at = step _ _ s known.1 in
    let ctx = step (option_and_then (ctx_in rules.sheet) (get_member (codes "ctx") ms)) _ s at.2 in
    let g = step (option_and_then rules.read (get_member (codes "g") ms)) _ s ctx.2 in
    let log = step (log_in rules.sheet (get_member (codes "log") ms)) _ s g.2 in
    let ctx_there = chained (ctx_in rules.sheet) (get_member (codes "ctx") ms) ctx.0 ctx.1 in
    let ctxs = ctx_is rules.sheet ctx_there.0 ctx.0 (canonical_member (codes "ctx") ms ctx_there.0 c ctx_there.1) ctx_there.2 in
    let g_there = chained rules.read (get_member (codes "g") ms) g.0 g.1 in
    let written = lawful.read_only g_there.0 g.0 (canonical_member (codes "g") ms g_there.0 c g_there.1) g_there.2 in
    let logs = log_is rules.sheet ms log.0 c log.1 in
    let count = natural_is 4294967295 (get_member (codes "number") ms) at.0 at.1 in
    let row = row_is snapshot_names ms (snapshot_row (ctx_data rules.sheet ctx.0) (rules.value g.0) (log_data rules.sheet log.0) at.0) c
    ((refl, (refl, (refl, tt))), ((refl, (refl, tt)), ((refl, tt), (tt, tt)))) known.0 refl
    (ctx_there.1 ∙ ap (λ d. Some d) ctxs.0, (g_there.1 ∙ ap (λ d. Some d) (sym written), (logs.0, (count.0, tt)))) in
    let whole : Snapshot G = record { number = at.0; ctx = ctx.0; g = g.0; log = log.0 } in
    let plain : IsPlain rules whole = record { number = count.1; ctx = ctxs.1; own = lawful.read_own g_there.0 g.0 g_there.2; log = logs.1 } in
    let same : whole ≡ s = cc (log.2) in
    subst (Reads rules (object ms)) same (plain, ap object (sym row))

snapshot_is : {G : Type 0} (rules : Rules G) (d : Data) (s : Snapshot G) → Lawful rules → IsCanonical d → snapshot_in rules d ≡ Some s → Reads rules d s
unfolding snapshot_in
snapshot_is rules null s lawful c e = absurd (cc)
snapshot_is rules (boolean b) s lawful c e = absurd (cc)
snapshot_is rules (number n) s lawful c e = absurd (cc)
snapshot_is rules (string t) s lawful c e = absurd (cc)
snapshot_is rules (array ds) s lawful c e = absurd (cc)
snapshot_is rules (object ms) s lawful c e = members_are rules ms s lawful c e

pub snapshot_found : {G : Type 0} (rules : Rules G) (d : Data) (read : Option (Snapshot G)) → Lawful rules → read ≡ snapshot_in rules d → IsCanonical d → IfSome read (Reads rules d)
snapshot_found rules d None lawful is c = tt
snapshot_found rules d (Some s) lawful is c = snapshot_is rules d s lawful c (sym is)

pub snapshot_only : {G : Type 0} (rules : Rules G) (d : Data) (read : Option (Snapshot G)) → SheetFits rules.sheet → Lawful rules → read ≡ snapshot_in rules d → (s : Snapshot G) → IsPlain rules s
    → snapshot_data rules.sheet (snap_of rules s) ≡ d → read ≡ Some s
snapshot_only rules d read fit lawful is s plain e = is ∙ ap (snapshot_in rules) (sym e) ∙ snapshot_again rules s fit lawful plain
