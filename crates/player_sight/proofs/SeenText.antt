-- What is written of an entry by what a viewer sees of it and its arguments is the text of the entry as the viewer sees it: where the
-- arguments are hidden they show as null, whatever they are.
use Rattle.std.proofs.Common.{◌≡◌, ℕ, List, [], Bool, true, false, not, cond, ◌&&◌, ◌||◌, Option, refl, sym, ap, ◌∙◌}
use Rattle.serde_json.specs.Data.{Data}
use Rattle.serde_json.specs.Written.{compact_text}
use Rattle.game_sheet.specs.declared.act.Act.{Act}
use Rattle.game_sheet.specs.declared.act.Act.TheVariants.{Move, Event, Undo, Redo}
use Rattle.game_sheet.specs.declared.args.Arg.{Arg}
use Rattle.game_sheet.specs.declared.sheet.Sheet.{Sheet}
use Rattle.move_log.specs.Outline.{args_of, entry_with, outline_of, seen, with_args}
use Rattle.move_log.specs.Redact.{conceals, is_redacted, redact, without_args}
use Rattle.move_log.specs.declared.entry.Entry.{Entry}
use Rattle.move_log.specs.declared.outline.Seen.{Seen}
use Rattle.player_sight.specs.EntryData.{act_data, entry_data}
use Rattle.player_sight.proofs.Objects.{entry_object}
use Rattle.player_sight.specs.Parts.{phase_or_null}

move_seen : (sheet : Sheet) (hidden shut : Bool) (id : ℕ) (args : List Arg) → act_data sheet (hidden || shut) (Move id args) ≡ act_data sheet (hidden || shut) (cond shut (Move id []) (Move id args))
move_seen sheet true true id args = refl
move_seen sheet true false id args = refl
move_seen sheet false true id args = refl
move_seen sheet false false id args = refl

same : (sheet : Sheet) (hidden shut : Bool) (act : Act) → without_args act ≡ act → act_data sheet (hidden || shut) act ≡ act_data sheet (hidden || shut) (cond shut (without_args act) act)
same sheet hidden true act e = ap (act_data sheet (hidden || true)) (sym e)
same sheet hidden false act e = refl

act_seen : (sheet : Sheet) (hidden shut : Bool) (act : Act) → act_data sheet (hidden || shut) (with_args (outline_of act) (args_of act)) ≡ act_data sheet (hidden || shut) (cond shut (without_args act) act)
act_seen sheet hidden shut (Move id args) = move_seen sheet hidden shut id args
act_seen sheet hidden shut (Event e) = same sheet hidden shut (Event e) refl
act_seen sheet hidden shut Undo = same sheet hidden shut Undo refl
act_seen sheet hidden shut Redo = same sheet hidden shut Redo refl

pub text_seen : (sheet : Sheet) (viewer : Option ℕ) (e : Entry) (s : Seen) (args : List Arg) → s ≡ seen sheet viewer e → args ≡ args_of e.act
    → compact_text (entry_data sheet (entry_with s args)) ≡ compact_text (entry_data sheet (redact sheet viewer e))
text_seen sheet viewer e s args is are =
    ap (λ s. compact_text (entry_data sheet (entry_with s args))) is
    ∙ ap (λ a. compact_text (entry_data sheet (entry_with (seen sheet viewer e) a))) are
    ∙ ap (λ act. compact_text (entry_object act (phase_or_null sheet e.phase) (redact sheet viewer e))) (act_seen sheet e.hidden (conceals sheet viewer e) e.act)
