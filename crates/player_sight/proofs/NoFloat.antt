-- No value that a player is sent of a context, an entry or a log has a float.
use Rattle.std.proofs.Common.{◌≡◌, ℕ, List, [], ◌∷◌, map, fold, Bool, true, false, ◌||◌, Option, Some, None, option_map, Ordering, Less, Equal, Greater, refl, ap, ◌∙◌}
use Rattle.std.specs.Prelude.{slice_get, decimal}
use Rattle.std.specs.Ordering.{nat_cmp, match_ordering}
use Rattle.std.specs.Cmp.Lexicographic.{slice_cmp}
use Rattle.serde_json.specs.Data.{Data, object, Members, member, no_members, put}
use Rattle.serde_json.specs.View.{items_of}
use Rattle.serde_json.specs.Written.{has_float, items_have_float, members_have_float}
use Rattle.game_sheet.specs.declared.act.Act.{Act}
use Rattle.game_sheet.specs.declared.act.Act.TheVariants.{Move, Event, Undo, Redo}
use Rattle.game_sheet.specs.declared.act.Event as event
use Rattle.game_sheet.specs.declared.act.Event.TheVariants.{EndTurn, EndPhase, SetPhase, EndStage, SetStage, SetActive, EndGame}
use Rattle.game_sheet.specs.declared.act.Outcome.{Outcome}
use Rattle.game_sheet.specs.declared.act.Outcome.TheVariants.{Winner, Draw, Ended}
use Rattle.game_sheet.specs.declared.ctx.Ctx.{Ctx}
use Rattle.game_sheet.specs.declared.sheet.Sheet.{Sheet}
use Rattle.move_log.specs.declared.entry.Entry.{Entry}
use Rattle.sheet_json.specs.Seats.{natural, natural_or_null, text_or_null}
use Rattle.sheet_json.proofs.ArgumentLaws.{no_float_in}
use Rattle.player_sight.specs.Parts.{phase_or_null, stage_or_null}
use Rattle.player_sight.specs.EntryData.{event_aim, event_data, act_data, entry_data, log_data}
use Rattle.player_sight.specs.SnapshotData.{Snap, snapshot_data}
use Rattle.player_sight.specs.CtxData.{with_row, rows_members, active_data, over_data, ctx_data}

of_text : (o : Option (List ℕ)) → has_float (text_or_null o) ≡ false
of_text None = refl
of_text (Some text) = refl

of_phase : (sheet : Sheet) (o : Option ℕ) → has_float (phase_or_null sheet o) ≡ false
of_phase sheet None = refl
of_phase sheet (Some id) = of_text (option_map (λ row. row.name) (slice_get sheet.phases id))

of_stage : (sheet : Sheet) (o : Option ℕ) → has_float (stage_or_null sheet o) ≡ false
of_stage sheet None = refl
of_stage sheet (Some id) = of_text (option_map (λ row. row.name) (slice_get sheet.stages id))

of_natural : (o : Option ℕ) → has_float (natural_or_null o) ≡ false
of_natural None = refl
of_natural (Some n) = refl

of_naturals : (ns : List ℕ) → items_have_float (items_of (map natural ns)) ≡ false
of_naturals [] = refl
of_naturals (n ∷ ns) = of_naturals ns

of_aim : (sheet : Sheet) (e : event.Event) → has_float (event_aim sheet e) ≡ false
of_aim sheet (EndTurn to) = of_natural to
of_aim sheet EndPhase = refl
of_aim sheet (SetPhase to) = of_text (option_map (λ row. row.name) (slice_get sheet.phases to))
of_aim sheet EndStage = refl
of_aim sheet (SetStage to) = of_text (option_map (λ row. row.name) (slice_get sheet.stages to))
of_aim sheet (SetActive spec) = refl
of_aim sheet (EndGame outcome) = refl

of_event : (sheet : Sheet) (e : event.Event) → has_float (event_data sheet e) ≡ false
of_event sheet e = rw (of_aim sheet e) refl

of_act : (sheet : Sheet) (hidden : Bool) (act : Act) → has_float (act_data sheet hidden act) ≡ false
of_act sheet true (Move id args) = rw (of_text (option_map (λ row. row.name) (slice_get sheet.moves id))) refl
of_act sheet false (Move id args) =
    rw (no_float_in args, of_text (option_map (λ row. row.name) (slice_get sheet.moves id))) refl
of_act sheet hidden (Event e) = of_event sheet e
of_act sheet hidden Undo = refl
of_act sheet hidden Redo = refl

of_entry : (sheet : Sheet) (e : Entry) → has_float (entry_data sheet e) ≡ false
of_entry sheet e = rw (of_act sheet e.hidden e.act, of_phase sheet e.phase) refl

of_entries : (sheet : Sheet) (log : List Entry) → items_have_float (items_of (map (entry_data sheet) log)) ≡ false
of_entries sheet [] = refl
of_entries sheet (e ∷ log) = rw (of_entry sheet e) (of_entries sheet log)

pub entry_has_none : (sheet : Sheet) (e : Entry) (d : Data) → d ≡ entry_data sheet e → has_float d ≡ false
entry_has_none sheet e d is = ap has_float is ∙ of_entry sheet e

pub log_has_none : (sheet : Sheet) (log : List Entry) (d : Data) → d ≡ log_data sheet log → has_float d ≡ false
log_has_none sheet log d is = ap has_float is ∙ of_entries sheet log

of_order : (o : Ordering) (a b c : Members) → members_have_float a ≡ false → members_have_float b ≡ false → members_have_float c ≡ false
    → members_have_float (match_ordering o a b c) ≡ false
of_order Less a b c p q r = p
of_order Equal a b c p q r = q
of_order Greater a b c p q r = r

neither : (a b : Bool) → (a || b) ≡ false → (a ≡ false) × (b ≡ false)
neither true b e = absurd (cc)
neither false b e = (refl, e)

of_put : (k : List ℕ) (d : Data) (ms : Members) → has_float d ≡ false → members_have_float ms ≡ false → members_have_float (put k d ms) ≡ false
of_put k d no_members p q = rw p refl
of_put k d (member l e ms) p q =
    let parts = neither (has_float e) (members_have_float ms) q in
    of_order (slice_cmp nat_cmp k l) _ _ _ (rw p q) (rw p parts.1) (rw (parts.0) (of_put k d ms p parts.1))

of_rows : (sheet : Sheet) (ms : Members) (rows : List (ℕ × Option ℕ)) → members_have_float ms ≡ false → members_have_float (fold (with_row sheet) ms rows) ≡ false
of_rows sheet ms [] p = p
of_rows sheet ms (row ∷ rows) p =
    of_rows sheet (with_row sheet ms row) rows (of_put (decimal row.0) (stage_or_null sheet row.1) ms (of_stage sheet row.1) p)

of_active : (sheet : Sheet) (active : Option (List (ℕ × Option ℕ))) → has_float (active_data sheet active) ≡ false
of_active sheet None = refl
of_active sheet (Some rows) = of_rows sheet no_members rows refl

of_over : (over : Option Outcome) → has_float (over_data over) ≡ false
of_over None = refl
of_over (Some (Winner seat)) = refl
of_over (Some Draw) = refl
of_over (Some Ended) = refl

of_ctx : (sheet : Sheet) (ctx : Ctx) → has_float (ctx_data sheet ctx) ≡ false
of_ctx sheet ctx =
    rw (of_active sheet ctx.active, of_over ctx.over, of_phase sheet ctx.phase, of_naturals ctx.order) refl

pub ctx_has_none : (sheet : Sheet) (ctx : Ctx) (d : Data) → d ≡ ctx_data sheet ctx → has_float d ≡ false
ctx_has_none sheet ctx d is = ap has_float is ∙ of_ctx sheet ctx

pub snapshot_has_none : (sheet : Sheet) (s : Snap) (d : Data) → d ≡ snapshot_data sheet s → has_float s.g ≡ false → has_float d ≡ false
snapshot_has_none sheet s d e hg = rw (e, of_ctx sheet s.ctx, hg, of_entries sheet s.log) refl

pub rows_have_none : (sheet : Sheet) (rows : List (ℕ × Option ℕ)) (d : Data) → d ≡ object (rows_members sheet rows) → has_float d ≡ false
rows_have_none sheet rows d is = ap has_float is ∙ of_rows sheet no_members rows refl
