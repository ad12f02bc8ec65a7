-- How deep the values that a player is sent of a context, an entry and a log nest.
use Rattle.std.proofs.Common.{◌≡◌, ℕ, ◌≤◌, ◌+◌, max, suc, List, [], ◌∷◌, map, fold, Bool, true, false, Option, Some, None, option_map, Ordering, Less, Equal, Greater, sym, subst, arith}
use Rattle.std.proofs.Math.Nat.{max-le}
use Rattle.std.specs.Prelude.{slice_get, decimal}
use Rattle.std.specs.Ordering.{nat_cmp, match_ordering}
use Rattle.std.specs.Cmp.Lexicographic.{slice_cmp}
use Rattle.serde_json.specs.Data.{Data, Members, member, no_members, put, depth, items_depth, members_depth}
use Rattle.serde_json.specs.View.{items_of}
use Rattle.game_sheet.specs.declared.act.Act.{Act}
use Rattle.game_sheet.specs.declared.act.Act.TheVariants.{Move, Event, Undo, Redo}
use Rattle.game_sheet.specs.declared.act.Event as event
use Rattle.game_sheet.specs.declared.act.Event.TheVariants.{EndTurn, EndPhase, SetPhase, EndStage, SetStage, SetActive, EndGame}
use Rattle.game_sheet.specs.declared.act.Outcome.{Outcome}
use Rattle.game_sheet.specs.declared.act.Outcome.TheVariants.{Winner, Draw, Ended}
use Rattle.game_sheet.specs.declared.ctx.Ctx.{Ctx}
use Rattle.game_sheet.specs.declared.sheet.Sheet.{Sheet}
use Rattle.move_log.specs.declared.entry.Entry.{Entry}
use Rattle.game_sheet.specs.declared.args.Arg.{Arg}
use Rattle.sheet_json.specs.Arguments.{arguments}
use Rattle.sheet_json.specs.Seats.{natural, natural_or_null, text_or_null}
use Rattle.sheet_json.proofs.ArgumentLaws.{flat}
use Rattle.player_sight.specs.Parts.{move_name, phase_or_null, stage_or_null}
use Rattle.player_sight.specs.EntryData.{event_aim, event_data, act_data, entry_data, log_data}
use Rattle.player_sight.specs.CtxData.{with_row, active_data, over_data, ctx_data}
use Rattle.player_sight.specs.SnapshotData.{Snap, snapshot_data}

above_zero : (m : ℕ) → 0 ≤ m
above_zero m = omega arith

first_of_max : (a b m : ℕ) → max a b ≤ m → a ≤ m
first_of_max a b m h = omega arith

second_of_max : (a b m : ℕ) → max a b ≤ m → b ≤ m
second_of_max a b m h = omega arith

one_more : (n m : ℕ) → n ≤ m → suc n ≤ suc m
one_more n m h = omega arith

of_text : (o : Option (List ℕ)) (m : ℕ) → depth (text_or_null o) ≤ m
of_text None m = above_zero m
of_text (Some text) m = above_zero m

of_phase : (sheet : Sheet) (o : Option ℕ) (m : ℕ) → depth (phase_or_null sheet o) ≤ m
of_phase sheet None m = above_zero m
of_phase sheet (Some id) m = of_text (option_map (λ row. row.name) (slice_get sheet.phases id)) m

of_stage : (sheet : Sheet) (o : Option ℕ) (m : ℕ) → depth (stage_or_null sheet o) ≤ m
of_stage sheet None m = above_zero m
of_stage sheet (Some id) m = of_text (option_map (λ row. row.name) (slice_get sheet.stages id)) m

of_natural : (o : Option ℕ) (m : ℕ) → depth (natural_or_null o) ≤ m
of_natural None m = above_zero m
of_natural (Some n) m = above_zero m

of_naturals : (ns : List ℕ) → items_depth (items_of (map natural ns)) ≤ 0
of_naturals [] = above_zero 0
of_naturals (n ∷ ns) = max-le (above_zero 0) (of_naturals ns)

of_arguments : (args : List Arg) → items_depth (arguments args) ≤ 0
of_arguments args = subst (λ n. n ≤ 0) (sym (flat args)) (above_zero 0)

of_aim : (sheet : Sheet) (e : event.Event) (m : ℕ) → depth (event_aim sheet e) ≤ m
of_aim sheet (EndTurn to) m = of_natural to m
of_aim sheet EndPhase m = above_zero m
of_aim sheet (SetPhase to) m = of_phase sheet (Some to) m
of_aim sheet EndStage m = above_zero m
of_aim sheet (SetStage to) m = of_stage sheet (Some to) m
of_aim sheet (SetActive spec) m = above_zero m
of_aim sheet (EndGame outcome) m = above_zero m

of_event : (sheet : Sheet) (e : event.Event) → depth (event_data sheet e) ≤ 1
of_event sheet e = one_more _ _ (max-le (above_zero 0) (max-le (above_zero 0) (max-le (of_aim sheet e 0) (above_zero 0))))

of_move : (sheet : Sheet) (id : ℕ) (m : ℕ) → depth (move_name sheet id) ≤ m
of_move sheet id m = of_text (option_map (λ row. row.name) (slice_get sheet.moves id)) m

of_act : (sheet : Sheet) (hidden : Bool) (act : Act) → depth (act_data sheet hidden act) ≤ 2
of_act sheet true (Move id args) = one_more _ _ (max-le (above_zero 1) (max-le (above_zero 1) (max-le (of_move sheet id 1) (above_zero 1))))
of_act sheet false (Move id args) =
    one_more _ _ (max-le (one_more _ _ (of_arguments args)) (max-le (above_zero 1) (max-le (of_move sheet id 1) (above_zero 1))))
of_act sheet hidden (Event e) = let h = of_event sheet e in omega arith
of_act sheet hidden Undo = one_more _ _ (max-le (above_zero 1) (above_zero 1))
of_act sheet hidden Redo = one_more _ _ (max-le (above_zero 1) (above_zero 1))

of_entry : (sheet : Sheet) (e : Entry) → depth (entry_data sheet e) ≤ 3
of_entry sheet e =
    one_more _ _ (max-le (of_act sheet e.hidden e.act) (max-le (above_zero 2) (max-le (of_phase sheet e.phase 2) (max-le (above_zero 2) (max-le (above_zero 2) (above_zero 2))))))

of_entries : (sheet : Sheet) (log : List Entry) → items_depth (items_of (map (entry_data sheet) log)) ≤ 3
of_entries sheet [] = above_zero 3
of_entries sheet (e ∷ log) = max-le (of_entry sheet e) (of_entries sheet log)

of_order : (o : Ordering) (a b c : Members) (m : ℕ) → members_depth a ≤ m → members_depth b ≤ m → members_depth c ≤ m
    → members_depth (match_ordering o a b c) ≤ m
of_order Less a b c m p q r = p
of_order Equal a b c m p q r = q
of_order Greater a b c m p q r = r

of_put : (k : List ℕ) (d : Data) (ms : Members) (m : ℕ) → depth d ≤ m → members_depth ms ≤ m → members_depth (put k d ms) ≤ m
of_put k d no_members m p q = max-le p q
of_put k d (member l e ms) m p q =
    let rest = second_of_max (depth e) (members_depth ms) m q in
    of_order (slice_cmp nat_cmp k l) _ _ _ m (max-le p q) (max-le p rest)
    (max-le (first_of_max (depth e) (members_depth ms) m q) (of_put k d ms m p rest))

of_rows : (sheet : Sheet) (ms : Members) (rows : List (ℕ × Option ℕ)) → members_depth ms ≤ 0 → members_depth (fold (with_row sheet) ms rows) ≤ 0
of_rows sheet ms [] p = p
of_rows sheet ms (row ∷ rows) p =
    of_rows sheet (with_row sheet ms row) rows (of_put (decimal row.0) (stage_or_null sheet row.1) ms 0 (of_stage sheet row.1 0) p)

of_active : (sheet : Sheet) (active : Option (List (ℕ × Option ℕ))) → depth (active_data sheet active) ≤ 1
of_active sheet None = above_zero 1
of_active sheet (Some rows) = one_more _ _ (of_rows sheet no_members rows (above_zero 0))

of_over : (over : Option Outcome) → depth (over_data over) ≤ 1
of_over None = above_zero 1
of_over (Some (Winner seat)) = one_more _ _ (max-le (above_zero 0) (above_zero 0))
of_over (Some Draw) = one_more _ _ (max-le (above_zero 0) (above_zero 0))
of_over (Some Ended) = one_more _ _ (max-le (above_zero 0) (above_zero 0))

of_ctx : (sheet : Sheet) (ctx : Ctx) → depth (ctx_data sheet ctx) ≤ 2
of_ctx sheet ctx =
    one_more _ _ (max-le (of_active sheet ctx.active) (max-le (above_zero 1) (max-le (of_over ctx.over) (max-le (above_zero 1) (max-le (above_zero 1) (max-le (of_phase sheet ctx.phase 1) (max-le (one_more _ _ (of_naturals ctx.order)) (max-le (above_zero 1) (max-le (above_zero 1) (above_zero 1))))))))))

pub entry_is_shallow : (sheet : Sheet) (e : Entry) (d : Data) → d ≡ entry_data sheet e → depth d ≤ 3
entry_is_shallow sheet e d is = subst (λ x. depth x ≤ 3) (sym is) (of_entry sheet e)

pub log_is_shallow : (sheet : Sheet) (log : List Entry) (d : Data) → d ≡ log_data sheet log → depth d ≤ 4
log_is_shallow sheet log d is = subst (λ x. depth x ≤ 4) (sym is) (one_more _ _ (of_entries sheet log))

pub ctx_is_shallow : (sheet : Sheet) (ctx : Ctx) (d : Data) → d ≡ ctx_data sheet ctx → depth d ≤ 2
ctx_is_shallow sheet ctx d is = subst (λ x. depth x ≤ 2) (sym is) (of_ctx sheet ctx)

one_above : (n m : ℕ) → n ≤ m → suc n ≤ m + 1
one_above n m h = omega arith

pub snapshot_is_shallow : (sheet : Sheet) (s : Snap) (v : Data) → v ≡ snapshot_data sheet s → depth v ≤ max 4 (depth s.g) + 1
snapshot_is_shallow sheet s v e =
    let hc = of_ctx sheet s.ctx in
    let hl = one_more _ _ (of_entries sheet s.log) in
    let in_ctx : depth (ctx_data sheet s.ctx) ≤ max 4 (depth s.g) = omega (arith, hc) in
    let in_g : depth s.g ≤ max 4 (depth s.g) = omega arith in
    let in_log : depth (log_data sheet s.log) ≤ max 4 (depth s.g) = omega (arith, hl) in
    subst (λ x. depth x ≤ max 4 (depth s.g) + 1) (sym e)
    (one_above _ (max 4 (depth s.g)) (max-le in_ctx (max-le in_g (max-le in_log (max-le (above_zero (max 4 (depth s.g))) (above_zero (max 4 (depth s.g))))))))
