-- No other entry or context than the one that is read has the value.
use Rattle.std.proofs.Common.{◌≡◌, Option, Some, None, sym, ap, ◌∙◌}
use Rattle.std.specs.Prelude.{IfSome}
use Rattle.serde_json.specs.Data.{Data}
use Rattle.json_tree.specs.Canonical.{IsCanonical}
use Rattle.game_sheet.specs.SheetFits.{SheetFits}
use Rattle.game_sheet.specs.declared.ctx.Ctx.{Ctx}
use Rattle.game_sheet.specs.declared.sheet.Sheet.{Sheet}
use Rattle.move_log.specs.declared.entry.Entry.{Entry}
use Rattle.player_sight.specs.CtxData.{ctx_data}
use Rattle.sight_reading.specs.CtxReading.{ctx_in}
use Rattle.player_sight.specs.EntryData.{entry_data}
use Rattle.sight_reading.specs.EntryReading.{entry_in}
use Rattle.player_sight.specs.Plain.{IsPlainCtx, IsPlainEntry}
use Rattle.sight_reading.proofs.CtxLaws.{ctx_again, ctx_is}
use Rattle.sight_reading.proofs.EntryLaws.{entry_again, entry_is}

pub entry_only : (sheet : Sheet) (d : Data) (read : Option Entry) → SheetFits sheet → read ≡ entry_in sheet d → (entry : Entry) → IsPlainEntry sheet entry → entry_data sheet entry ≡ d → read ≡ Some entry
entry_only sheet d read fit is entry plain e = is ∙ ap (entry_in sheet) (sym e) ∙ entry_again sheet entry fit plain

pub ctx_only : (sheet : Sheet) (d : Data) (read : Option Ctx) → SheetFits sheet → read ≡ ctx_in sheet d → (ctx : Ctx) → IsPlainCtx sheet ctx → ctx_data sheet ctx ≡ d → read ≡ Some ctx
ctx_only sheet d read fit is ctx plain e = is ∙ ap (ctx_in sheet) (sym e) ∙ ctx_again sheet ctx fit plain

pub entry_found : (sheet : Sheet) (d : Data) (read : Option Entry) → read ≡ entry_in sheet d → IsCanonical d → IfSome read (λ entry. IsPlainEntry sheet entry × (entry_data sheet entry ≡ d))
entry_found sheet d None is c = tt
entry_found sheet d (Some entry) is c = let it = entry_is sheet d entry c (sym is) in (it.1, sym it.0)

pub ctx_found : (sheet : Sheet) (d : Data) (read : Option Ctx) → read ≡ ctx_in sheet d → IsCanonical d → IfSome read (λ ctx. IsPlainCtx sheet ctx × (ctx_data sheet ctx ≡ d))
ctx_found sheet d None is c = tt
ctx_found sheet d (Some ctx) is c = let it = ctx_is sheet d ctx c (sym is) in (it.1, sym it.0)
