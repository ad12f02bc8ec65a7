-- What a frame keeps: rows of slots that fit, the sheet's rules, and the bound on texts of states.
use Rattle.std.specs.Prelude.{◌≡◌, ◌&&◌, ℕ, nat_le, Bool, true, List, map, All}
use Rattle.game_sheet.specs.SheetFits.{SheetFits}
use Rattle.game_sheet.specs.declared.sheet.MoveRow.{MoveRow}
use Rattle.game_slots.specs.Slots.{count_in, value_fits}
use Rattle.game_slots.specs.declared.rows.SlotRow.{SlotRow}
use Rattle.game_frame.specs.declared.frame.Frame.{Frame}
use Rattle.game_frame.specs.declared.frame.FrameSlots.{FrameSlots}
use Rattle.game_frame.specs.declared.frame.SlotFrame.{SlotFrame}
use Rattle.slot_json.specs.TableForms.{layout_fits}
use Rattle.slot_json.specs.TextBytes.{HasShortTexts}
use Rattle.slot_json.specs.declared.layout.Layout.{Layout}

-- a slot begins with no more items than it may have
abbrev pub begins_within : ℕ → SlotRow → Bool
begins_within most_seats row = nat_le (count_in row.begin most_seats) row.most

-- a slot may hold its start, and has at most 1,024 items
abbrev pub is_sound : ℕ → SlotRow → Bool
is_sound most_seats row = value_fits row row.start && begins_within most_seats row && nat_le row.most 1024

-- each of these slots may hold its start
abbrev pub AreSound : ℕ → List SlotFrame → Type 0
AreSound most_seats slots = All (λ (frame : SlotFrame). is_sound most_seats frame.slot.row ≡ true) slots

pub record SlotsFit (most_seats : ℕ) (slots : FrameSlots) : Type 0 where
  pub common : AreSound most_seats slots.common
  pub players : AreSound most_seats slots.players
  pub secret : AreSound most_seats slots.secret
  pub work : AreSound most_seats slots.work

abbrev pub rows_of : List SlotFrame → List SlotRow
rows_of slots = map (λ (frame : SlotFrame). frame.slot.row) slots

abbrev pub names_of : List SlotFrame → List (List ℕ)
names_of slots = map (λ (frame : SlotFrame). frame.name) slots

-- the names and rows of a state's slots are those that code can name
pub record IsLayoutOf (slots : FrameSlots) (layout : Layout) : Type 0 where
  pub common : layout.rows.common ≡ rows_of slots.common
  pub players : layout.rows.players ≡ rows_of slots.players
  pub secret : layout.rows.secret ≡ rows_of slots.secret
  pub common_names : layout.common ≡ names_of slots.common
  pub players_names : layout.players ≡ names_of slots.players
  pub secret_names : layout.secret ≡ names_of slots.secret

-- the names and rows make a form, and each own state has a short text
pub record LayoutFits (layout : Layout) : Type 0 where
  pub form : layout_fits layout ≡ true
  pub texts : HasShortTexts layout

pub record FrameFits (frame : Frame) : Type 0 where
  pub sheet : SheetFits frame.sheet
  pub layout : LayoutFits frame.layout
  pub seats : frame.layout.rows.most_seats ≡ frame.sheet.max_seats
  pub same_rows : IsLayoutOf frame.names.slots frame.layout
  pub slots : SlotsFit frame.layout.rows.most_seats frame.names.slots

abbrev pub move_names : List MoveRow → List (List ℕ)
move_names moves = map (λ (row : MoveRow). row.name) moves
