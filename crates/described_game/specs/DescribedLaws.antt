-- Every described game keeps the laws of games.
use Rattle.std.specs.Prelude.{◌≡◌, ◌==◌, ◌<◌, ◌≤◌, ◌+◌, ◌&&◌, ◌++◌, ℕ, zero, suc, nat_le, nat_lt, Bool, true, false, if◌then◌else◌, IfSome, pos, negsuc, List, [], ◌∷◌, length, map, replicate, slice_get, Option, Some, None, option_map, unwrap_or, refl}
use Rattle.std.proofs.Common.{subst, arith}
use Rattle.std.proofs.Math.Nat.{mul-le-mul_left}
use Rattle.std.proofs.lemmas.Bool.{and_from, and_parts, eqb-true, le-leb, leb-true, ltb-true}
use Rattle.std.proofs.lemmas.List.{length-replicate}
use Rattle.std.specs.List.{AllByRecursion, list_all}
use Rattle.std.specs.Option.{option_map_or}
use Rattle.code_laws.proofs.BoundLaws.{performed_keeps}
use Rattle.code_laws.proofs.SheetLaws.{performed_in_sheet}
use Rattle.code_laws.proofs.TableLaws.{strip_fits}
use Rattle.code_laws.specs.Counts.{code_in_sheet, events_of}
use Rattle.game_code.specs.Meaning.{value_of}
use Rattle.game_code.specs.Runs.{performed}
use Rattle.game_code.specs.Setting.{Setting}
use Rattle.game_code.specs.Wishes.{seat_in}
use Rattle.game_code.specs.declared.statement.Piece.{Piece}
use Rattle.game_sheet.proofs.Fits.{fits}
use Rattle.game_sheet.specs.SheetFits.{SheetFits}
use Rattle.game_sheet.specs.declared.act.Outcome.{Outcome}
use Rattle.game_sheet.specs.declared.act.Outcome.TheVariants.{Winner, Draw, Ended}
use Rattle.game_sheet.specs.declared.args.Arg.{Arg}
use Rattle.game_sheet.specs.declared.args.Arg.TheVariants.{Whole, Text}
use Rattle.game_sheet.specs.declared.ctx.Ctx.{Ctx}
use Rattle.game_sheet.specs.declared.sheet.Sheet.{Sheet}
use Rattle.game_slots.proofs.SeenLemmas.{strip_twice}
use Rattle.game_slots.specs.Slots.{begun_with, count_in, least_items, slot_fits, slots_fit, slots_started, value_fits}
use Rattle.game_slots.specs.Tables.{entry_fits, players_fit, players_started, secret_fits, secret_started, started, table_fits}
use Rattle.game_slots.specs.declared.rows.Count.{Count}
use Rattle.game_slots.specs.declared.rows.Count.TheVariants.{Fixed, PerSeat}
use Rattle.game_slots.specs.declared.rows.SlotRow.{SlotRow}
use Rattle.game_slots.specs.declared.table.Table.{Table}
use Rattle.game_trait.specs.Deed.{Deed, Done, GaveUp, Invalid, Lack}
use Rattle.game_trait.specs.InSheet.{OutcomeFits}
use Rattle.game_trait.specs.Lawful.{GivesOwn, Lawful}
use Rattle.game_trait.specs.Offers.{offered_known, offered_none}
use Rattle.game_trait.specs.Queues.{KeepsToSheet, QueuesInSheet}
use Rattle.open_game.specs.Form.{IsReadFrom, StateLaws}
use Rattle.serde_json.specs.Data.{Data}
use Rattle.slot_json.proofs.TableLaws.{table_laws}
use Rattle.slot_json.specs.TableForms.{table_form, table_read}
use Rattle.slot_values.specs.Values.{is_true}
use Rattle.stage_map.specs.Moves.{moves as moves_of}
use Rattle.described_game.specs.DescribedRules.{rules_of}
use Rattle.described_game.specs.Hooks.{either_end, end_by, first_end, hooked, opening_context, phase_code, turn_code, turn_in}
use Rattle.described_game.specs.Moves.{allowed, barred, made, setting_at}
use Rattle.described_game.specs.Offers.{all_offers, is_among, move_offers, offers_from}
use Rattle.described_game.specs.Tests.{IsSound, move_fits, phase_fits, piece_fits, slots_start, start_fits, turn_fits}
use Rattle.described_game.specs.declared.parts.EndCode.{EndCode}
use Rattle.described_game.specs.declared.parts.EndKind.{EndKind}
use Rattle.described_game.specs.declared.parts.EndKind.TheVariants.{Winner as SeatWins, Draw as NobodyWins, Ended as IsOver}
use Rattle.described_game.specs.declared.parts.GameParts.{GameParts}
use Rattle.described_game.specs.declared.parts.MoveCode.{MoveCode}
use Rattle.described_game.specs.declared.parts.PhaseCode.{PhaseCode}
use Rattle.described_game.specs.declared.parts.TurnCode.{TurnCode}

-- ---- lists and choices

-- what holds of a place of a list whose items all pass a test
at_place : {X : Type 0} (test : X → Bool) (P : Option X → Type 0) → P None → ((x : X) → test x ≡ true → P (Some x)) → (xs : List X) (i : ℕ) → list_all test xs ≡ true → P (slice_get xs i)
at_place test P none some [] i all = none
at_place test P none some (x ∷ xs) zero all = some x (and_parts (test x) (list_all test xs) all).0
at_place test P none some (x ∷ xs) (suc i) all = at_place test P none some xs i (and_parts (test x) (list_all test xs) all).1

of_option : {X : Type 0} (P : Option X → Type 0) → P None → ((x : X) → P (Some x)) → (found : Option X) → P found
of_option P none some None = none
of_option P none some (Some x) = some x

either_choice : {A : Type 0} (P : A → Type 0) (test : Bool) (one other : A) → P one → P other → P (if test then one else other)
either_choice P true one other p q = p
either_choice P false one other p q = q

and_three : (a b c : Bool) → (a && b && c) ≡ true → (a ≡ true) × (b ≡ true) × (c ≡ true)
and_three a b c is = let outer = and_parts (a && b) c is in let inner = and_parts a b outer.0 in (inner.0, inner.1, outer.1)

from_three : (a b c : Bool) → a ≡ true → b ≡ true → c ≡ true → (a && b && c) ≡ true
from_three a b c p q r = and_from (a && b) c (and_from a b p q) r

-- ---- the first state

more_seats : (begin : Count) (few many : ℕ) → few ≤ many → count_in begin few ≤ count_in begin many
more_seats (Fixed count) few many less = omega arith
more_seats (PerSeat count) few many less = mul-le-mul_left count less

all_alike : (row : SlotRow) (n : ℕ) (value : Option Arg) → value_fits row value ≡ true → list_all (value_fits row) (replicate n value) ≡ true
all_alike row zero value is = refl
all_alike row (suc n) value is = and_from (value_fits row value) (list_all (value_fits row) (replicate n value)) is (all_alike row n value is)

module _ (least most seats : ℕ) (low : least ≤ seats) (high : seats ≤ most) where
  slot_starts : (row : SlotRow) → start_fits least most row ≡ true → slot_fits row (begun_with row.begin seats row.start) ≡ true
  slot_starts row is =
      let parts = and_three (value_fits row row.start) (nat_le (least_items row) (count_in row.begin least)) (nat_le (count_in row.begin most) row.most) is in
      let items = begun_with row.begin seats row.start in
      let count : length items ≡ count_in row.begin seats = length-replicate (count_in row.begin seats) row.start in
      let enough : least_items row ≤ count_in row.begin least = leb-true (least_items row) (count_in row.begin least) parts.1 in
      let room : count_in row.begin most ≤ row.most = leb-true (count_in row.begin most) row.most parts.2 in
      let from_least : count_in row.begin least ≤ count_in row.begin seats = more_seats row.begin least seats low in
      let to_most : count_in row.begin seats ≤ count_in row.begin most = more_seats row.begin seats most high in
      from_three (nat_le (least_items row) (length items)) (nat_le (length items) row.most) (list_all (value_fits row) items)
      (le-leb (least_items row) (length items) (omega (arith, count, enough, from_least))) (le-leb (length items) row.most (omega (arith, count, room, to_most)))
      (all_alike row (count_in row.begin seats) row.start parts.0)

  slots_begin : (rows : List SlotRow) → list_all (start_fits least most) rows ≡ true → slots_fit rows (slots_started rows seats) ≡ true
  slots_begin [] is = refl
  slots_begin (row ∷ rows) is =
      let parts = and_parts (start_fits least most row) (list_all (start_fits least most) rows) is in
      and_from (slot_fits row (begun_with row.begin seats row.start)) (slots_fit rows (slots_started rows seats)) (slot_starts row parts.0) (slots_begin rows parts.1)

all_entries : (rows : List SlotRow) (n : ℕ) (entry : Option (List (List (Option Arg)))) → entry_fits rows entry ≡ true → list_all (entry_fits rows) (replicate n entry) ≡ true
all_entries rows zero entry is = refl
all_entries rows (suc n) entry is = and_from (entry_fits rows entry) (list_all (entry_fits rows) (replicate n entry)) is (all_entries rows n entry is)

players_begin : (rows : List SlotRow) (most seats : ℕ) → 1 ≤ seats → seats ≤ most → slots_fit rows (slots_started rows seats) ≡ true → players_fit rows most (players_started rows seats) ≡ true
players_begin [] most seats some high is = refl
players_begin (row ∷ rows) most seats some high is =
    let entry = Some (slots_started (row ∷ rows) seats) in
    let entries = replicate seats entry in
    let count : length entries ≡ seats = length-replicate seats entry in
    from_three (nat_le 1 (length entries)) (nat_le (length entries) most) (list_all (entry_fits (row ∷ rows)) entries)
    (le-leb 1 (length entries) (omega (arith, count, some))) (le-leb (length entries) most (omega (arith, count, high))) (all_entries (row ∷ rows) seats entry is)

secret_begins : (rows : List SlotRow) (seats : ℕ) → slots_fit rows (slots_started rows seats) ≡ true → secret_fits rows (secret_started rows seats) ≡ true
secret_begins [] seats is = refl
secret_begins (row ∷ rows) seats is = is

-- ---- ends

small_seat : (n : ℕ) (below small : Bool) → nat_lt n 16 ≡ small → IfSome (option_map Winner (if below && small then Some n else None)) OutcomeFits
small_seat n true true is = ltb-true n 16 is
small_seat n true false is = tt
small_seat n false true is = tt
small_seat n false false is = tt

winner_fits : (seats : ℕ) (value : Option Arg) → IfSome (option_map Winner (seat_in seats value)) OutcomeFits
winner_fits seats None = tt
winner_fits seats (Some (Whole (pos n))) = small_seat n (nat_lt n seats) (nat_lt n 16) refl
winner_fits seats (Some (Whole (negsuc n))) = tt
winner_fits seats (Some (Text text)) = tt

end_fits : (kind : EndKind) (seats : ℕ) (value : Option Arg) → IfSome (end_by kind seats value) OutcomeFits
end_fits SeatWins seats value = winner_fits seats value
end_fits NobodyWins seats value = either_choice (λ (o : Option Outcome). IfSome o OutcomeFits) (is_true value) (Some Draw) None tt tt
end_fits IsOver seats value = either_choice (λ (o : Option Outcome). IfSome o OutcomeFits) (is_true value) (Some Ended) None tt tt

either_fits : (one other : Option Outcome) → IfSome one OutcomeFits → IfSome other OutcomeFits → IfSome (either_end one other) OutcomeFits
either_fits None other p q = q
either_fits (Some outcome) other p q = p

first_fits : (codes : List EndCode) (s : Setting) (table : Table) → IfSome (first_end codes s table) OutcomeFits
first_fits [] s table = tt
first_fits (code ∷ codes) s table =
    let value = value_of code.value s table [] [] in
    either_fits (end_by code.kind s.context.seats value) (first_end codes s table) (end_fits code.kind s.context.seats value) (first_fits codes s table)

-- ---- offers

abbrev Known : ℕ → ℕ × List Arg → Type 0
Known count offer = offer.0 < count

rows_known : (count id : ℕ) (rows : List (List Arg)) → id < count → AllByRecursion (Known count) (map (λ (row : List Arg). (id, row)) rows)
rows_known count id [] below = tt
rows_known count id (row ∷ rows) below = (below, rows_known count id rows below)

joined_known : (count : ℕ) (one other : List (ℕ × List Arg)) → AllByRecursion (Known count) one → AllByRecursion (Known count) other → AllByRecursion (Known count) (one ++ other)
joined_known count [] other p q = q
joined_known count (offer ∷ one) other p q = (p.0, joined_known count one other p.1 q)

offers_known : (ids : List ℕ) (s : Setting) (table : Table) (count id : ℕ) (codes : List MoveCode) → id + length codes ≤ count → AllByRecursion (Known count) (offers_from ids s table id codes)
offers_known ids s table count id [] few = tt
offers_known ids s table count id (code ∷ codes) few =
    let here : id < count = omega (arith, few) in
    let left : id + 1 + length codes ≤ count = omega (arith, few) in
    joined_known count (if is_among ids id then move_offers code id s table else []) (offers_from ids s table (id + 1) codes)
    (either_choice (AllByRecursion (Known count)) (is_among ids id) (move_offers code id s table) [] (rows_known count id _ here) tt)
    (offers_known ids s table count (id + 1) codes left)

-- ---- the laws

barred_own : (own : Table → Bool) (deed : Deed Table Lack) → GivesOwn own deed → GivesOwn own (barred deed)
barred_own own (Done table left queued) is = is
barred_own own (GaveUp why) is = tt

barred_in_sheet : (sheet : Sheet) (deed : Deed Table Lack) → QueuesInSheet sheet deed → QueuesInSheet sheet (barred deed)
barred_in_sheet sheet (Done table left queued) is = is
barred_in_sheet sheet (GaveUp why) is = tt

module _ (parts : GameParts) (sound : IsSound parts) where
  abbrev own : Table → Bool
  own table = table_fits parts.layout.rows table

  sheet_fits : SheetFits parts.sheet
  sheet_fits = fits parts.sheet sound.unbroken

  state_laws : StateLaws (table_form parts.layout)
  state_laws = table_laws parts.layout sound.names

  started_own : (seats : ℕ) → parts.sheet.min_seats ≤ seats → seats ≤ parts.sheet.max_seats → own (started parts.layout.rows seats) ≡ true
  started_own seats low high =
      let rows = parts.layout.rows in
      let each = and_three (slots_start parts.sheet rows.common) (slots_start parts.sheet rows.players) (slots_start parts.sheet rows.secret) sound.starts in
      let begin = slots_begin parts.sheet.min_seats parts.sheet.max_seats seats low high in
      let some : 1 ≤ seats = omega (arith, sheet_fits.least, low) in
      let most : rows.most_seats ≡ parts.sheet.max_seats = eqb-true rows.most_seats parts.sheet.max_seats sound.seats in
      from_three (slots_fit rows.common (slots_started rows.common seats)) (players_fit rows.players rows.most_seats (players_started rows.players seats)) (secret_fits rows.secret (secret_started rows.secret seats))
      (begin rows.common each.0) (players_begin rows.players rows.most_seats seats some (omega (arith, most, high)) (begin rows.players each.1)) (secret_begins rows.secret seats (begin rows.secret each.2))

  hooked_own : (piece : Piece) (seat : Option ℕ) (table : Table) (ctx : Ctx) (words : List ℕ) → own table ≡ true → GivesOwn own (hooked parts piece seat table ctx words)
  hooked_own piece seat table ctx words is = performed_keeps piece (setting_at parts ctx seat []) table words is

  made_own : (code : MoveCode) (table : Table) (ctx : Ctx) (seat : ℕ) (args : List Arg) (words : List ℕ) → own table ≡ true → GivesOwn own (made code (setting_at parts ctx (Some seat) args) table words)
  made_own code table ctx seat args words is =
      let s = setting_at parts ctx (Some seat) args in
      either_choice (GivesOwn own) (allowed code s table) (barred (performed code.code s table words)) (GaveUp Invalid)
      (barred_own own (performed code.code s table words) (performed_keeps code.code s table words is)) tt

  read_from : (v : Data) (table : Table) → table_read parts.layout v ≡ Some table → IsReadFrom (table_form parts.layout) v table
  read_from v table is = subst (λ o. IfSome o (IsReadFrom (table_form parts.layout) v)) is (state_laws.laws.reads v)

  as_many_moves : length parts.moves ≡ length parts.sheet.moves
  as_many_moves = eqb-true (length parts.moves) (length parts.sheet.moves) (and_parts (length parts.moves == length parts.sheet.moves) (length parts.phases == length parts.sheet.phases) sound.counts).0

  offers_in_sheet : (table : Table) (ctx : Ctx) (seat : ℕ) → AllByRecursion (Known (length parts.sheet.moves)) (all_offers parts table ctx seat)
  offers_in_sheet table ctx seat = offers_known (moves_of parts.sheet ctx seat) (setting_at parts ctx (Some seat) []) table (length parts.sheet.moves) 0 parts.moves (omega (arith, as_many_moves))

  pub described_lawful : Lawful (rules_of parts)
  described_lawful = record {
    fits = sheet_fits;
    setup = λ seats words low high. performed_keeps parts.setup (setting_at parts (opening_context seats) None []) (started parts.layout.rows seats) words (started_own seats low high);
    play = λ table ctx seat id args words is.
        of_option (λ (found : Option MoveCode). GivesOwn own (option_map_or (λ (code : MoveCode). made code (setting_at parts ctx (Some seat) args) table words) found (GaveUp Invalid))) tt
        (λ code. made_own code table ctx seat args words is) (slice_get parts.moves id);
    on_move = λ table ctx seat words is. hooked_own (turn_code parts ctx).on_move (Some seat) table ctx words is;
    turn_begin = λ table ctx words is. hooked_own (turn_code parts ctx).on_begin None table ctx words is;
    turn_end = λ table ctx words is. hooked_own (turn_code parts ctx).on_end None table ctx words is;
    phase_begin = λ table ctx phase words is.
        of_option (λ (found : Option PhaseCode). GivesOwn own (option_map_or (λ (code : PhaseCode). hooked parts code.on_begin None table ctx words) found (Done table words []))) is
        (λ code. hooked_own code.on_begin None table ctx words is) (slice_get parts.phases phase);
    phase_end = λ table ctx phase words is.
        of_option (λ (found : Option PhaseCode). GivesOwn own (option_map_or (λ (code : PhaseCode). hooked parts code.on_end None table ctx words) found (Done table words []))) is
        (λ code. hooked_own code.on_end None table ctx words is) (slice_get parts.phases phase);
    game_end = λ table ctx words is. hooked_own parts.on_end None table ctx words is;
    view = λ table ctx viewer is. strip_fits parts.layout.rows table viewer is;
    view_again = λ table ctx viewer is. strip_twice table viewer;
    written_object = λ table is. state_laws.object table;
    written = λ table is. state_laws.laws.written table is;
    reads_back = λ table is. state_laws.laws.reads_back table is;
    read_own = λ v table is. (read_from v table is).0;
    read_only = λ v table canonical is. (read_from v table is).1 canonical;
    ends = λ table ctx outcome own is. subst (λ (o : Option Outcome). IfSome o OutcomeFits) is (first_fits parts.ends (setting_at parts ctx None []) table);
    offers_known = λ table ctx seat. offered_known (Known (length parts.sheet.moves)) ctx seat (all_offers parts table ctx seat) (offers_in_sheet table ctx seat);
    offers_none = λ table ctx seat none. offered_none ctx seat (all_offers parts table ctx seat) none;
  }

  -- ---- what is queued

  four : (a b c d : Bool) → (a && b && c && d) ≡ true → (a ≡ true) × (b ≡ true) × (c ≡ true) × (d ≡ true)
  four a b c d is = let outer = and_parts (a && b && c) d is in let inner = and_three a b c outer.0 in (inner.0, inner.1, inner.2, outer.1)

  all_codes : (list_all (move_fits parts.sheet) parts.moves ≡ true) × (turn_fits parts.sheet parts.turn ≡ true) × (list_all (phase_fits parts.sheet) parts.phases ≡ true) × (piece_fits parts.sheet parts.on_end ≡ true)
  all_codes = four (list_all (move_fits parts.sheet) parts.moves) (turn_fits parts.sheet parts.turn) (list_all (phase_fits parts.sheet) parts.phases) (piece_fits parts.sheet parts.on_end) sound.codes

  piece_in_sheet : (piece : Piece) (s : Setting) (table : Table) (words : List ℕ) → piece_fits parts.sheet piece ≡ true → QueuesInSheet parts.sheet (performed piece s table words)
  piece_in_sheet piece s table words fit = performed_in_sheet parts.sheet piece s table words (and_parts (code_in_sheet parts.sheet piece.code) (nat_le (events_of piece.code) 16) fit).0

  turn_of_phase : (code : PhaseCode) → phase_fits parts.sheet code ≡ true → (turn : Option TurnCode) → code.turn ≡ turn → turn_fits parts.sheet (unwrap_or turn parts.turn) ≡ true
  turn_of_phase code fit None is = all_codes.1
  turn_of_phase code fit (Some turn) is =
      let own_turn = (and_three (option_map_or (turn_fits parts.sheet) code.turn true) (piece_fits parts.sheet code.on_begin) (piece_fits parts.sheet code.on_end) fit).0 in
      subst (λ (o : Option TurnCode). option_map_or (turn_fits parts.sheet) o true ≡ true) is own_turn

  turn_in_phase : (phase : Option ℕ) → turn_fits parts.sheet (turn_in parts.turn (phase_code parts phase)) ≡ true
  turn_in_phase None = all_codes.1
  turn_in_phase (Some phase) =
      at_place (phase_fits parts.sheet) (λ (found : Option PhaseCode). turn_fits parts.sheet (turn_in parts.turn found) ≡ true) all_codes.1 (λ code fit. turn_of_phase code fit code.turn refl) parts.phases phase all_codes.2

  turn_parts : (ctx : Ctx) → (piece_fits parts.sheet (turn_code parts ctx).on_begin ≡ true) × (piece_fits parts.sheet (turn_code parts ctx).on_end ≡ true) × (piece_fits parts.sheet (turn_code parts ctx).on_move ≡ true)
  turn_parts ctx =
      let turn = turn_code parts ctx in
      and_three (piece_fits parts.sheet turn.on_begin) (piece_fits parts.sheet turn.on_end) (piece_fits parts.sheet turn.on_move) (turn_in_phase ctx.phase)

  made_in_sheet : (code : MoveCode) (s : Setting) (table : Table) (words : List ℕ) → move_fits parts.sheet code ≡ true → QueuesInSheet parts.sheet (made code s table words)
  made_in_sheet code s table words fit =
      either_choice (QueuesInSheet parts.sheet) (allowed code s table) (barred (performed code.code s table words)) (GaveUp Invalid)
      (barred_in_sheet parts.sheet (performed code.code s table words) (piece_in_sheet code.code s table words fit)) tt

  phase_pieces : (code : PhaseCode) → phase_fits parts.sheet code ≡ true → (option_map_or (turn_fits parts.sheet) code.turn true ≡ true) × (piece_fits parts.sheet code.on_begin ≡ true) × (piece_fits parts.sheet code.on_end ≡ true)
  phase_pieces code fit = and_three (option_map_or (turn_fits parts.sheet) code.turn true) (piece_fits parts.sheet code.on_begin) (piece_fits parts.sheet code.on_end) fit

  pub described_in_sheet : KeepsToSheet (rules_of parts)
  described_in_sheet = record {
    play = λ table ctx seat id args words known.
        at_place (move_fits parts.sheet) (λ (found : Option MoveCode). QueuesInSheet parts.sheet (option_map_or (λ (code : MoveCode). made code (setting_at parts ctx (Some seat) args) table words) found (GaveUp Invalid))) tt
        (λ code fit. made_in_sheet code (setting_at parts ctx (Some seat) args) table words fit) parts.moves id all_codes.0;
    on_move = λ table ctx seat words. piece_in_sheet (turn_code parts ctx).on_move (setting_at parts ctx (Some seat) []) table words (turn_parts ctx).2;
    turn_begin = λ table ctx words. piece_in_sheet (turn_code parts ctx).on_begin (setting_at parts ctx None []) table words (turn_parts ctx).0;
    turn_end = λ table ctx words. piece_in_sheet (turn_code parts ctx).on_end (setting_at parts ctx None []) table words (turn_parts ctx).1;
    phase_begin = λ table ctx phase words.
        at_place (phase_fits parts.sheet) (λ (found : Option PhaseCode). QueuesInSheet parts.sheet (option_map_or (λ (code : PhaseCode). hooked parts code.on_begin None table ctx words) found (Done table words []))) tt
        (λ code fit. piece_in_sheet code.on_begin (setting_at parts ctx None []) table words (phase_pieces code fit).1) parts.phases phase all_codes.2;
    phase_end = λ table ctx phase words.
        at_place (phase_fits parts.sheet) (λ (found : Option PhaseCode). QueuesInSheet parts.sheet (option_map_or (λ (code : PhaseCode). hooked parts code.on_end None table ctx words) found (Done table words []))) tt
        (λ code fit. piece_in_sheet code.on_end (setting_at parts ctx None []) table words (phase_pieces code fit).2) parts.phases phase all_codes.2;
    game_end = λ table ctx words. piece_in_sheet parts.on_end (setting_at parts ctx None []) table words all_codes.3;
  }
