-- What is shown of plain parts is plain.
use Rattle.std.proofs.Common.{◌≡◌, ℕ, ◌≤◌, List, [], ◌∷◌, map, Bool, true, false, not, cond, ◌&&◌, ◌||◌, Option, IsTrue, refl, sym, ap, ◌∙◌, subst, ◌==◌}
use Rattle.std.specs.List.{AllByRecursion}
use Rattle.game_sheet.specs.declared.act.Act.{Act}
use Rattle.game_sheet.specs.declared.act.Act.TheVariants.{Move, Event, Undo, Redo}
use Rattle.game_sheet.specs.declared.ctx.Ctx.{Ctx}
use Rattle.game_sheet.specs.declared.args.Arg.{Arg}
use Rattle.game_sheet.specs.declared.sheet.Sheet.{Sheet}
use Rattle.game_trait.specs.Lawful.{Lawful}
use Rattle.game_trait.specs.Rules.{Rules}
use Rattle.move_log.specs.Redact.{is_redacted, without_args, redact}
use Rattle.move_log.specs.declared.entry.Entry.{Entry}
use Rattle.player_sight.specs.Plain.{ActFits, IsPlainCtx, IsPlainEntry}
use Rattle.player_sight.specs.PlainSnapshot.{IsPlain, MayBeShown}
use Rattle.std.specs.Option.{option_map_or}

redacted_move : (sheet : Sheet) (hidden shut : Bool) (id : ℕ) (args : List Arg) → ActFits sheet hidden (Move id args) → ActFits sheet (hidden || shut) (cond shut (Move id []) (Move id args))
redacted_move sheet true true id args h = (h.0, refl)
redacted_move sheet true false id args h = h
redacted_move sheet false true id args h = (h.0, refl)
redacted_move sheet false false id args h = h

left_alone : (sheet : Sheet) (hidden other : Bool) (act : Act) → ActFits sheet hidden act → ActFits sheet (hidden || (other && false)) (cond (other && false) (without_args act) act)
left_alone sheet true true act h = h
left_alone sheet true false act h = h
left_alone sheet false true act h = h
left_alone sheet false false act h = h

redacted_act : (sheet : Sheet) (hidden other : Bool) (act : Act) → ActFits sheet hidden act
    → ActFits sheet (hidden || (other && is_redacted sheet act)) (cond (other && is_redacted sheet act) (without_args act) act)
redacted_act sheet hidden other (Move id args) h = redacted_move sheet hidden (other && is_redacted sheet (Move id args)) id args h
redacted_act sheet hidden other (Event e) h = left_alone sheet hidden other (Event e) h
redacted_act sheet hidden other Undo h = left_alone sheet hidden other Undo h
redacted_act sheet hidden other Redo h = left_alone sheet hidden other Redo h

redacted_plain : (sheet : Sheet) (viewer : Option ℕ) (e : Entry) → MayBeShown sheet e → IsPlainEntry sheet (redact sheet viewer e)
redacted_plain sheet viewer e h = record {
  seat = h.seat;
  act = redacted_act sheet e.hidden (not (option_map_or (λ viewer. viewer == e.seat) viewer false)) e.act h.act;
  number = h.number;
  turn = h.turn;
  phase = h.phase;
  words = refl;
}

log_plain : (sheet : Sheet) (viewer : Option ℕ) (log : List Entry) → AllByRecursion (MayBeShown sheet) log → AllByRecursion (IsPlainEntry sheet) (map (redact sheet viewer) log)
log_plain sheet viewer [] h = tt
log_plain sheet viewer (e ∷ log) h = (redacted_plain sheet viewer e h.0, log_plain sheet viewer log h.1)

pub seen_plain : {G : Type 0} (rules : Rules G) (sheet : Sheet) (n : ℕ) (ctx ctx_seen : Ctx) (g g_seen : G) (log log_seen : List Entry) (viewer : Option ℕ) → Lawful rules → sheet ≡ rules.sheet → n ≤ 4294967295
    → ctx_seen ≡ ctx → g_seen ≡ rules.view g ctx viewer → log_seen ≡ map (redact sheet viewer) log
    → IsTrue (rules.own g) → IsPlainCtx rules.sheet ctx → AllByRecursion (MayBeShown rules.sheet) log → IsPlain rules (record { number = n; ctx = ctx_seen; g = g_seen; log = log_seen })
seen_plain rules sheet n ctx ctx_seen g g_seen log log_seen viewer lawful same fits is_ctx is_g is_log own plain may = record {
  number = fits;
  ctx = subst (IsPlainCtx rules.sheet) (sym is_ctx) plain;
  own = subst (λ x. IsTrue (rules.own x)) (sym is_g) (lawful.view g ctx viewer own);
  log = subst (AllByRecursion (IsPlainEntry rules.sheet)) (sym (is_log ∙ ap (λ x. map (redact x viewer) log) same)) (log_plain rules.sheet viewer log may);
}
