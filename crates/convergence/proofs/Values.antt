-- The values of contexts, entries and snapshots that are plain are writable.
use Rattle.std.proofs.Common.{◌≡◌, ◌≤◌, ◌+◌, ℕ, Bool, true, false, List, [], ◌∷◌, map, fold, codes, decimal, Option, Some, None, option_map, slice_get, nat_lt, refl, arith}
use Rattle.std.proofs.lemmas.Bool.Decides.{nat_tests}
use Rattle.std.proofs.lemmas.Bool.{and_parts}
use Rattle.std.specs.Char.{is_ascii_alphanumeric}
use Rattle.std.specs.List.{AllByRecursion, list_all}
use Rattle.game_sheet.specs.SheetFits.{NamesFit, SheetFits}
use Rattle.game_sheet.specs.declared.act.Act.{Act}
use Rattle.game_sheet.specs.declared.act.Act.TheVariants.{Move, Event, Undo, Redo}
use Rattle.game_sheet.specs.declared.act.Event as event
use Rattle.game_sheet.specs.declared.act.Event.TheVariants.{EndTurn, EndPhase, SetPhase, EndStage, SetStage, SetActive, EndGame}
use Rattle.game_sheet.specs.declared.act.Outcome.{Outcome}
use Rattle.game_sheet.specs.declared.act.Outcome.TheVariants.{Winner, Draw, Ended}
use Rattle.game_sheet.specs.declared.ctx.Ctx.{Ctx}
use Rattle.game_sheet.specs.declared.sheet.MoveRow.{MoveRow}
use Rattle.game_sheet.specs.declared.sheet.PhaseRow.{PhaseRow}
use Rattle.game_sheet.specs.declared.sheet.Sheet.{Sheet}
use Rattle.game_sheet.specs.declared.sheet.StageRow.{StageRow}
use Rattle.json.proofs.Printed.Utf8.{are_ascii}
use Rattle.json_back.proofs.Puts.{writable_put}
use Rattle.json_back.proofs.Texts.{decimal_utf8}
use Rattle.json_tree.specs.Writable.{IsWritable, ItemsAreWritable, MembersAreWritable}
use Rattle.move_log.specs.declared.entry.Entry.{Entry}
use Rattle.player_sight.specs.CtxData.{active_data, ctx_data, outcome_data, over_data, with_row}
use Rattle.player_sight.specs.EntryData.{act_data, entry_data, event_aim, event_data, event_name, move_data}
use Rattle.player_sight.specs.Parts.{move_name, phase_name, phase_or_null, stage_name, stage_or_null}
use Rattle.player_sight.specs.Plain.{ActFits, ActiveFits, EventFits, IsPlainCtx, IsPlainEntry, OverFits, RowsFit}
use Rattle.player_sight.specs.SnapshotData.{Snap, snapshot_data}
use Rattle.room_history.specs.Showing.{newest_entry}
use Rattle.serde_json.specs.Data.{Data, null, array, Members, no_members}
use Rattle.serde_json.specs.View.{items_of}
use Rattle.sheet_json.specs.Arguments.{arguments}
use Rattle.sheet_json.specs.Seats.{IsWithin, natural, natural_or_null, text_or_null}
use Rattle.sheet_json.proofs.ArgumentLaws.{arguments_writable}
use Rattle.convergence.proofs.Rows.{ascii, fixed, rows_of}

low_letter : (c : ℕ) → is_ascii_alphanumeric c ≡ true → nat_lt c 128 ≡ true
low_letter c h = grind (arith, nat_tests)

letters_ascii : (s : List ℕ) → list_all is_ascii_alphanumeric s ≡ true → are_ascii s ≡ true
letters_ascii [] h = refl
letters_ascii (c ∷ s) h = let both = and_parts (is_ascii_alphanumeric c) (list_all is_ascii_alphanumeric s) h in rw (low_letter c both.0, letters_ascii s both.1) refl

named : {Row : Type 0} (name : Row → List ℕ) (rows : List Row) (id : ℕ) (o : Option Row) → NamesFit name rows → slice_get rows id ≡ o → IsWritable (text_or_null (option_map name o))
named name rows id None fit e = tt
named name rows id (Some r) fit e = ascii (name r) (letters_ascii (name r) (fit.each id r e).letters)

seat_ok : (o : Option ℕ) → IsWithin 255 o → IsWritable (natural_or_null o)
seat_ok None h = tt
seat_ok (Some n) h = omega (arith, h)

module _ (sheet : Sheet) (fits : SheetFits sheet) where
  move_ok : (id : ℕ) → IsWritable (move_name sheet id)
  move_ok id = named (λ (r : MoveRow). r.name) sheet.moves id (slice_get sheet.moves id) fits.move_names refl

  phase_ok : (id : ℕ) → IsWritable (phase_name sheet id)
  phase_ok id = named (λ (r : PhaseRow). r.name) sheet.phases id (slice_get sheet.phases id) fits.phase_names refl

  stage_ok : (id : ℕ) → IsWritable (stage_name sheet id)
  stage_ok id = named (λ (r : StageRow). r.name) sheet.stages id (slice_get sheet.stages id) fits.stage_names refl

  some_phase_ok : (o : Option ℕ) → IsWritable (phase_or_null sheet o)
  some_phase_ok None = tt
  some_phase_ok (Some id) = phase_ok id

  some_stage_ok : (o : Option ℕ) → IsWritable (stage_or_null sheet o)
  some_stage_ok None = tt
  some_stage_ok (Some id) = stage_ok id

  rows_ok : (rows : List (ℕ × Option ℕ)) (low : ℕ) (ms : Members) → RowsFit sheet low rows → MembersAreWritable ms → MembersAreWritable (fold (with_row sheet) ms rows)
  rows_ok [] low ms r w = w
  rows_ok (x ∷ rows) low ms r w = rows_ok rows (x.0 + 1) (with_row sheet ms x) r.3 (writable_put (decimal x.0) (stage_or_null sheet x.1) ms (some_stage_ok x.1) (decimal_utf8 x.0 (omega (arith, r.1))) w)

  active_ok : (o : Option (List (ℕ × Option ℕ))) → ActiveFits sheet o → IsWritable (active_data sheet o)
  active_ok None h = tt
  active_ok (Some rows) h = rows_ok rows 0 no_members h tt

  outcome_ok : (o : Option Outcome) → OverFits o → IsWritable (over_data o)
  outcome_ok None h = tt
  outcome_ok (Some (Winner seat)) h = fixed (rows_of (outcome_data (Winner seat))) refl (omega (arith, h), tt)
  outcome_ok (Some Draw) h = fixed (rows_of (outcome_data Draw)) refl (tt, tt)
  outcome_ok (Some Ended) h = fixed (rows_of (outcome_data Ended)) refl (tt, tt)

  naturals_ok : (ns : List ℕ) → AllByRecursion (λ n. n ≤ 255) ns → ItemsAreWritable (items_of (map natural ns))
  naturals_ok [] h = tt
  naturals_ok (n ∷ ns) h = (omega (arith, h.0), naturals_ok ns h.1)

  pub ctx_ok : (ctx : Ctx) → IsPlainCtx sheet ctx → IsWritable (ctx_data sheet ctx)
  ctx_ok ctx h =
      fixed (rows_of (ctx_data sheet ctx)) refl (
        active_ok ctx.active h.active,
        (
          omega (arith, h.current),
          (
            outcome_ok ctx.over h.over,
            (
              omega (arith, h.moves),
              (
                omega (arith, h.seats),
                (
                  some_phase_ok ctx.phase,
                  (naturals_ok ctx.order h.order, (omega (arith, h.pos), (omega (arith, h.turn), tt))),
                ),
              ),
            ),
          ),
        ),
      )

  -- ---- entries

  move_row_ok : (name args : Data) → IsWritable name → IsWritable args → IsWritable (move_data name args)
  move_row_ok name args n a = fixed (rows_of (move_data name args)) refl (a, (ascii (codes "move") refl, (n, tt)))

  event_row_ok : (e : event.Event) → are_ascii (event_name e) ≡ true → IsWritable (event_aim sheet e) → IsWritable (event_data sheet e)
  event_row_ok e a w = fixed (rows_of (event_data sheet e)) refl (ascii (event_name e) a, (ascii (codes "event") refl, (w, tt)))

  event_ok : (e : event.Event) → EventFits sheet e → IsWritable (event_data sheet e)
  event_ok (EndTurn to) h = event_row_ok (EndTurn to) refl (seat_ok to h)
  event_ok EndPhase h = event_row_ok EndPhase refl tt
  event_ok (SetPhase to) h = event_row_ok (SetPhase to) refl (phase_ok to)
  event_ok EndStage h = event_row_ok EndStage refl tt
  event_ok (SetStage to) h = event_row_ok (SetStage to) refl (stage_ok to)
  event_ok (SetActive spec) h = absurd h
  event_ok (EndGame outcome) h = event_row_ok (EndGame outcome) refl tt

  act_ok : (hidden : Bool) (act : Act) → ActFits sheet hidden act → IsWritable (act_data sheet hidden act)
  act_ok true (Move id args) h = move_row_ok (move_name sheet id) null (move_ok id) tt
  act_ok false (Move id args) h = move_row_ok (move_name sheet id) (array (arguments args)) (move_ok id) (arguments_writable args h.1)
  act_ok true (Event e) h = absurd h
  act_ok false (Event e) h = event_ok e h
  act_ok true Undo h = absurd h
  act_ok false Undo h = fixed (rows_of (act_data sheet false Undo)) refl (ascii (codes "undo") refl, tt)
  act_ok true Redo h = absurd h
  act_ok false Redo h = fixed (rows_of (act_data sheet false Redo)) refl (ascii (codes "redo") refl, tt)

  pub entry_ok : (e : Entry) → IsPlainEntry sheet e → IsWritable (entry_data sheet e)
  entry_ok e h =
      fixed (rows_of (entry_data sheet e)) refl (act_ok e.hidden e.act h.act, (omega (arith, h.number), (some_phase_ok e.phase, (omega (arith, h.seat), (omega (arith, h.turn), tt)))))

  log_ok : (log : List Entry) → AllByRecursion (IsPlainEntry sheet) log → ItemsAreWritable (items_of (map (entry_data sheet) log))
  log_ok [] h = tt
  log_ok (e ∷ log) h = (entry_ok e h.0, log_ok log h.1)

  pub newest_ok : (log : List Entry) → AllByRecursion (IsPlainEntry sheet) log → IsWritable (newest_entry sheet log)
  newest_ok [] h = tt
  newest_ok (e ∷ []) h = entry_ok e h.0
  newest_ok (e ∷ next ∷ log) h = newest_ok (next ∷ log) h.1

  pub snapshot_ok : (s : Snap) → IsPlainCtx sheet s.ctx → AllByRecursion (IsPlainEntry sheet) s.log → s.number ≤ 4294967295 → IsWritable s.g → IsWritable (snapshot_data sheet s)
  snapshot_ok s c l n g = fixed (rows_of (snapshot_data sheet s)) refl (ctx_ok s.ctx c, (g, (log_ok s.log l, (omega arith, tt))))
