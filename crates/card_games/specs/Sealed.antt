-- Games in which each seat alone seals one item, a bid or a text: once every seat has, the greatest item wins and all are shown.
use Rattle.std.specs.Prelude.{ℕ, ◌==◌, ◌&&◌, nat_le, Bool, false, if◌then◌else◌, List, [], ◌∷◌, replicate, slice_get, slice_set, is_none, is_some, unwrap_or, Option, Some, None, option_and_then}
use Rattle.std.specs.List.{filter_map, list_all}
use Rattle.std.specs.Option.{option_map_or}
use Rattle.card_games.specs.Greatest.{one_greatest}
use Rattle.card_games.specs.Json.{or_none}
use Rattle.card_games.specs.declared.sealed.NoSecret.{NoSecret}
use Rattle.card_games.specs.declared.sealed.Sealed.{Sealed}
use Rattle.game_sheet.specs.declared.act.Outcome.{Outcome}
use Rattle.game_sheet.specs.declared.args.Arg.{Arg}
use Rattle.game_sheet.specs.declared.sheet.Order.TheVariants.{Default}
use Rattle.game_sheet.specs.declared.sheet.Sheet.{Sheet}
use Rattle.game_sheet.specs.declared.sheet.SpecRow.{SpecRow}
use Rattle.game_sheet.specs.declared.sheet.StageRow.{StageRow}
use Rattle.game_sheet.specs.declared.sheet.TurnRow.{TurnRow}
use Rattle.game_trait.specs.Deed.{Barred, Deed, Done, GaveUp, Invalid}
use Rattle.open_game.specs.Form.{Form}
use Rattle.open_game.specs.Forms.{object_of_one}
use Rattle.open_game.specs.Sheets.{blank_sheet}
use Rattle.secret_strip.specs.declared.split.Split.{Split}
use Rattle.serde_json.specs.Data.{null}

-- what everybody sees, and for each seat an entry that it alone sees; nothing is hidden from everybody
abbrev pub Sealing : Type 0 → Type 0 → Type 0
Sealing C A = Split C NoSecret (Sealed A)

-- ---- the sheet: every seat stands in the one stage of a turn until it has sealed its item

abbrev pub sealing_turn : TurnRow
sealing_turn = record { order = Default; min_moves = 0; max_moves = None; active = Some 0 }

abbrev pub sealing_stages : List ℕ → List StageRow
sealing_stages name = record { name = name; next = None; moves = None } ∷ []

abbrev pub sealing_specs : List SpecRow
sealing_specs = record { current = None; others = None; all = Some (record { stage = Some 0 }); value = []; min_moves = 1; max_moves = Some 1; revert = false; next = None } ∷ []

-- for two seats at least
abbrev pub sealing_sheet : List ℕ → ℕ → List ℕ → Sheet
sealing_sheet name most stage = record (blank_sheet name 2 most sealing_turn) { stages = sealing_stages stage; specs = sealing_specs }

-- ---- entries

abbrev pub unsealed : {A : Type 0} → ℕ → List (Option (Sealed A))
unsealed seats = replicate seats (Some (record { item = None }))

-- the item of an entry, where it is there and has one
abbrev pub item_of : {A : Type 0} → Option (Sealed A) → Option A
item_of entry = option_and_then (λ entry. entry.item) entry

-- a seat may seal once, and only where its entry is there
abbrev pub may_seal : {A : Type 0} → Option (Option (Sealed A)) → Bool
may_seal (Some (Some entry)) = is_none entry.item
may_seal found = false

-- the state in which a seat has sealed an item
abbrev pub with_item : {C A : Type 0} → Sealing C A → ℕ → A → Sealing C A
with_item g seat item = record g { players = slice_set g.players seat (Some (record { item = Some item })) }

-- a seat seals an item, if it is allowed
abbrev pub seal : {C A : Type 0} → Bool → Sealing C A → ℕ → A → List ℕ → Deed (Sealing C A) Barred
seal allowed g seat item words = if allowed && may_seal (slice_get g.players seat) then Done (with_item g seat item) words [] else GaveUp Invalid

-- these moves are offered to a seat that may seal
abbrev pub seal_offers : {A : Type 0} → Option (Option (Sealed A)) → List (ℕ × List Arg) → List (ℕ × List Arg)
seal_offers entry offers = if may_seal entry then offers else []

-- ---- the end

-- every entry is there and has its item
abbrev pub have_all : {A : Type 0} → List (Option (Sealed A)) → Bool
have_all players = list_all (λ entry. is_some (item_of entry)) players

-- what the item of an entry is worth, or 0
abbrev pub entry_worth : {A : Type 0} → (A → ℕ) → Option (Sealed A) → ℕ
entry_worth worth entry = option_map_or worth (item_of entry) 0

-- once every seat has sealed an item, the one seat whose item is worth the most wins; where several are, nobody does
abbrev pub sealed_end : {A : Type 0} → (A → ℕ) → List (Option (Sealed A)) → Option Outcome
sealed_end worth players = if have_all players then Some (one_greatest (entry_worth worth) players) else None

-- and the items are shown in order of the seats
abbrev pub shown_items : {A : Type 0} → List (Option (Sealed A)) → Option (List A)
shown_items players = if have_all players then Some (filter_map item_of players) else None

-- one to so many seats, and an item for each where the items are shown
abbrev pub are_seats : ℕ → ℕ → Option ℕ → Bool
are_seats most players shown = nat_le 1 players && nat_le players most && (unwrap_or shown players == players)

-- ---- how entries are written

-- an object whose one member is the item, or null
abbrev pub sealed_form : {A : Type 0} → List ℕ → Form A → Form (Sealed A)
sealed_form name form = object_of_one name (or_none form) (λ item. record { item = item }) (λ entry. entry.item)

-- nothing is hidden from everybody
abbrev pub no_secret_form : Form NoSecret
no_secret_form = record { own = λ _. false; value = λ _. null; read = λ _. None }
