-- What a viewer sees of a log entry: never how many words it drew, and of another seat's move whose row says `redact`
-- no arguments. A viewer is a seat, or a spectator where there is none.
use Rattle.std.specs.Prelude.{ℕ, Bool, false, not, ◌&&◌, ◌||◌, ◌==◌, [], Option, option_map, unwrap_or, slice_get, if◌then◌else◌}
use Rattle.game_sheet.specs.declared.act.Act.{Act}
use Rattle.game_sheet.specs.declared.act.Act.TheVariants.{Move}
use Rattle.game_sheet.specs.declared.sheet.Sheet.{Sheet}
use Rattle.move_log.specs.declared.entry.Entry.{Entry}
use Rattle.std.specs.Option.{option_map_or}

-- whether the action is a move whose row on the sheet says `redact`
abbrev pub is_redacted : Sheet → Act → Bool
is_redacted sheet (Move id args) = unwrap_or (option_map (λ row. row.redact) (slice_get sheet.moves id)) false
is_redacted sheet other = false

-- whether the viewer is kept from seeing the arguments
abbrev pub conceals : Sheet → Option ℕ → Entry → Bool
conceals sheet viewer e = not (option_map_or (λ viewer. viewer == e.seat) viewer false) && is_redacted sheet e.act

abbrev pub without_args : Act → Act
without_args (Move id args) = Move id []
without_args other = other

abbrev pub redact : Sheet → Option ℕ → Entry → Entry
redact sheet viewer e = record e {
  act = if conceals sheet viewer e then without_args e.act else e.act;
  hidden = e.hidden || conceals sheet viewer e;
  words = 0;
}
