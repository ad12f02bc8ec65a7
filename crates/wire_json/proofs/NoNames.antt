-- What is asked for by a name that isn't on the sheet is no action.
use Rattle.std.proofs.Common.{◌≡◌, ℕ, List, Option, None, option_map, sym, ap, ◌∙◌}
use Rattle.game_sheet.specs.SheetNames.{move_of, phase_of, stage_of}
use Rattle.game_sheet.specs.declared.act.Act.TheVariants as act
use Rattle.game_sheet.specs.declared.act.Event.TheVariants as event
use Rattle.game_sheet.specs.declared.act.EventKind.{EventKind}
use Rattle.game_sheet.specs.declared.act.EventKind.TheVariants as asks
use Rattle.game_sheet.specs.declared.args.Arg.{Arg}
use Rattle.game_sheet.specs.declared.sheet.Sheet.{Sheet}
use Rattle.wire_json.specs.Resolve.{event_of, act_of}
use Rattle.wire_json.specs.declared.asked.Asked.{Asked}
use Rattle.wire_json.specs.declared.asked.Asked.TheVariants.{Move}
use Rattle.wire_json.specs.declared.asked.AskedTo.{AskedTo}
use Rattle.wire_json.specs.declared.asked.AskedTo.TheVariants.{Name}

pub no_phase : (sheet : Sheet) (kind : EventKind) (to : AskedTo) (name : List ℕ) (found : Option ℕ) → kind ≡ asks.SetPhase → to ≡ Name name → found ≡ phase_of sheet name → found ≡ None → None ≡ event_of sheet kind to
no_phase sheet kind to name found k t is none = rw (k, t) (ap (option_map event.SetPhase) (sym none ∙ is))

pub no_stage : (sheet : Sheet) (kind : EventKind) (to : AskedTo) (name : List ℕ) (found : Option ℕ) → kind ≡ asks.SetStage → to ≡ Name name → found ≡ stage_of sheet name → found ≡ None → None ≡ event_of sheet kind to
no_stage sheet kind to name found k t is none = rw (k, t) (ap (option_map event.SetStage) (sym none ∙ is))

pub no_move : (sheet : Sheet) (asked : Asked) (name : List ℕ) (args : List Arg) (found : Option ℕ) → asked ≡ Move name args → found ≡ move_of sheet name → found ≡ None → None ≡ act_of sheet asked
no_move sheet asked name args found a is none = rw a (ap (option_map (λ id. act.Move id args)) (sym none ∙ is))
