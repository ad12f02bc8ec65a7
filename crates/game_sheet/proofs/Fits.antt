-- A sheet that breaks no rule fits, fact by fact.
use Rattle.std.proofs.Common.{◌≡◌, ◌≢◌, ◌==◌, ◌&&◌, ℕ, ◌<◌, Bool, true, not, nat_lt, Option, Some, List, length, All, arith, refl, sym, ap, subst, zero-add, ◌∙◌}
use Rattle.std.specs.Prelude.{slice_get, count_by}
use Rattle.std.specs.List.{list_all, enumerate_from}
use Rattle.std.specs.Char.{is_ascii_alphanumeric}
use Rattle.std.specs.Str.{bytes_eq}
use Rattle.std.proofs.lemmas.Bool.{eqb-true, leb-true, ltb-true, true≢false}
use Rattle.std.proofs.lemmas.Slice.Eq.{bytes_eq-Decides}
use Rattle.game_sheet.proofs.Passing.{all_at, all_kept, both, each_of, enumerated, given_at, one_place}
use Rattle.game_sheet.specs.SheetFits.{AreMoves, IsName, LimitsFit, NamesFit, PhaseFits, PlaceFits, SeatsFit, SheetFits, SpecFits, StageFits, TurnFits}
use Rattle.game_sheet.specs.SheetRules.{are_distinct, are_named, broken, is_limit, is_name, is_once, is_there, kept, list_fits, lists_fit, moves_fit, nexts_fit, order_fits, orders_fit, phases_fit, place_fits, seats_fit, spec_fits, specs_fit, stages_fit, turn_fits, turns_fit, where_given}
use Rattle.game_sheet.specs.declared.sheet.MoveRow.{MoveRow}
use Rattle.game_sheet.specs.declared.sheet.Order.{Order}
use Rattle.game_sheet.specs.declared.sheet.Order.TheVariants.{Once}
use Rattle.game_sheet.specs.declared.sheet.PhaseRow.{PhaseRow}
use Rattle.game_sheet.specs.declared.sheet.Place.{Place}
use Rattle.game_sheet.specs.declared.sheet.Sheet.{Sheet}
use Rattle.game_sheet.specs.declared.sheet.SpecRow.{SpecRow}
use Rattle.game_sheet.specs.declared.sheet.StageRow.{StageRow}
use Rattle.game_sheet.specs.declared.sheet.TurnRow.{TurnRow}

below : (count place : ℕ) → is_there count place ≡ true → place < count
below count place h = ltb-true place count h

all_below : (count : ℕ) (places : List ℕ) → list_all (is_there count) places ≡ true → All (λ place. place < count) places
all_below count places h = let P : ℕ → Type 0 = λ place. place < count in each_of (is_there count) P (below count) places h

name_held : (name : List ℕ) → is_name is_ascii_alphanumeric name ≡ true → IsName name
name_held name h = record {
  least = leb-true 1 (length name) (both _ _ (both _ _ h).0).0;
  most = leb-true (length name) 32 ((both _ _ (both _ _ h).0).1);
  letters = (both _ _ h).1;
}

same_name : (name other : List ℕ) → name ≡ other → bytes_eq name other ≡ true
same_name name other e = (bytes_eq-Decides name other).1 e

names_held : {Row : Type 0} (name : Row → List ℕ) (rows : List Row) → are_named name rows ≡ true → NamesFit name rows
names_held name rows h =
    let named : list_all (λ row. is_name is_ascii_alphanumeric (name row)) rows ≡ true = (both _ _ h).0 in
    let distinct : are_distinct name rows ≡ true = (both _ _ h).1 in
    record {
      each = λ place row e. name_held (name row) (all_at (λ row. is_name is_ascii_alphanumeric (name row)) rows place row named e);
      distinct = λ place other row rival e f same.
          one_place (λ any. bytes_eq (name any) (name row)) rows place other row rival
          (eqb-true (count_by (λ any. bytes_eq (name any) (name row)) rows) 1 (all_at (λ any. count_by (λ other. bytes_eq (name other) (name any)) rows == 1) rows place row distinct e))
          e (same_name (name row) (name row) refl) f (same_name (name rival) (name row) (sym same));
    }

limits_held : (min_moves : ℕ) (max_moves : Option ℕ) → where_given (is_limit min_moves) max_moves ≡ true → LimitsFit min_moves max_moves
limits_held min_moves max_moves h = record {
  least = λ most e. leb-true 1 most (both _ _ (given_at (is_limit min_moves) max_moves most h e)).0;
  in_order = λ most e. leb-true min_moves most ((both _ _ (given_at (is_limit min_moves) max_moves most h e)).1);
}

there : (count : ℕ) (o : Option ℕ) (place : ℕ) → where_given (is_there count) o ≡ true → o ≡ Some place → place < count
there count o place h e = below count place (given_at (is_there count) o place h e)

moves_there : (sheet : Sheet) (o : Option (List ℕ)) (ids : List ℕ) → where_given (list_all (is_there (length sheet.moves))) o ≡ true → o ≡ Some ids → AreMoves sheet ids
moves_there sheet o ids h e = all_below (length sheet.moves) ids (given_at (list_all (is_there (length sheet.moves))) o ids h e)

seats_held : (sheet : Sheet) (seats : List ℕ) → list_fits sheet seats ≡ true → SeatsFit sheet seats
seats_held sheet seats h = record {
  least = leb-true 1 (length seats) (both _ _ (both _ _ h).0).0;
  most = leb-true (length seats) 64 ((both _ _ (both _ _ h).0).1);
  inside = all_below sheet.min_seats seats ((both _ _ h).1);
}

turn_held : (sheet : Sheet) (turn : TurnRow) → turn_fits sheet turn ≡ true → order_fits sheet turn.order ≡ true → TurnFits sheet turn
turn_held sheet turn h k = record {
  limits = limits_held turn.min_moves turn.max_moves (both _ _ h).0;
  active = λ spec e. there (length sheet.specs) turn.active spec ((both _ _ h).1) e;
  custom = λ seats e. seats_held sheet seats (subst (λ order. order_fits sheet order ≡ true) e k);
}

place_held : (sheet : Sheet) (place : Place) → place_fits sheet place ≡ true → PlaceFits sheet place
place_held sheet place h = record { stage = λ stage e. there (length sheet.stages) place.stage stage h e }

own_place : (sheet : Sheet) (o : Option Place) (place : Place) → where_given (place_fits sheet) o ≡ true → o ≡ Some place → PlaceFits sheet place
own_place sheet o place h e = place_held sheet place (given_at (place_fits sheet) o place h e)

phase_held : (sheet : Sheet) (row : PhaseRow) → where_given (is_there (length sheet.phases)) row.next ≡ true → where_given (list_all (is_there (length sheet.moves))) row.moves ≡ true → where_given (turn_fits sheet) row.turn ≡ true → where_given (λ (turn : TurnRow). order_fits sheet turn.order) row.turn ≡ true → PhaseFits sheet row
phase_held sheet row next moves turn order = record {
  next = λ phase e. there (length sheet.phases) row.next phase next e;
  moves = λ ids e. moves_there sheet row.moves ids moves e;
  turn = λ own e. turn_held sheet own (given_at (turn_fits sheet) row.turn own turn e) (given_at (λ (turn : TurnRow). order_fits sheet turn.order) row.turn own order e);
}

stage_held : (sheet : Sheet) (row : StageRow) → where_given (is_there (length sheet.stages)) row.next ≡ true → where_given (list_all (is_there (length sheet.moves))) row.moves ≡ true → StageFits sheet row
stage_held sheet row next moves = record {
  next = λ stage e. there (length sheet.stages) row.next stage next e;
  moves = λ ids e. moves_there sheet row.moves ids moves e;
}

later : (sheet : Sheet) (place : ℕ) (row : SpecRow) (next : ℕ) → where_given (λ next. nat_lt place next && is_there (length sheet.specs) next) row.next ≡ true → row.next ≡ Some next → (place < next) × (next < length sheet.specs)
later sheet place row next h e =
    let k = both (nat_lt place next) (is_there (length sheet.specs) next) (given_at (λ next. nat_lt place next && is_there (length sheet.specs) next) row.next next h e) in
    (ltb-true place next k.0, below (length sheet.specs) next k.1)

spec_held : (sheet : Sheet) (place : ℕ) (row : SpecRow) → spec_fits sheet place row ≡ true → SpecFits sheet row × ((next : ℕ) → row.next ≡ Some next → place < next)
spec_held sheet place row h =
    let h5 = both _ _ h in
    let h4 = both _ _ h5.0 in
    let h3 = both _ _ h4.0 in
    let h2 = both _ _ h3.0 in
    let h1 = both _ _ h2.0 in (
      record {
        current = λ own e. own_place sheet row.current own h1.0 e;
        others = λ own e. own_place sheet row.others own h1.1 e;
        all = λ own e. own_place sheet row.all own h2.1 e;
        seats = seats_below sheet row.value h3.1;
        places = places_there sheet row.value h3.1;
        limits = limits_held row.min_moves row.max_moves h4.1;
        next = λ next e. (later sheet place row next h5.1 e).1;
      },
      λ next e. (later sheet place row next h5.1 e).0,
    )
  where
    seats_below : (sheet : Sheet) (value : List (ℕ × Place)) → list_all (λ seat_place. is_there sheet.min_seats seat_place.0 && place_fits sheet seat_place.1) value ≡ true → All (λ seat_place. seat_place.0 < sheet.min_seats) value
    seats_below sheet value h = let P : ℕ × Place → Type 0 = λ seat_place. seat_place.0 < sheet.min_seats in
        each_of (λ seat_place. is_there sheet.min_seats seat_place.0 && place_fits sheet seat_place.1) P (λ seat_place t. below sheet.min_seats seat_place.0 (both (is_there sheet.min_seats seat_place.0) (place_fits sheet seat_place.1) t).0) value h

    places_there : (sheet : Sheet) (value : List (ℕ × Place)) → list_all (λ seat_place. is_there sheet.min_seats seat_place.0 && place_fits sheet seat_place.1) value ≡ true → All (λ seat_place. PlaceFits sheet seat_place.1) value
    places_there sheet value h = let P : ℕ × Place → Type 0 = λ seat_place. PlaceFits sheet seat_place.1 in
        each_of (λ seat_place. is_there sheet.min_seats seat_place.0 && place_fits sheet seat_place.1) P (λ seat_place t. place_held sheet seat_place.1 (both (is_there sheet.min_seats seat_place.0) (place_fits sheet seat_place.1) t).1) value h

-- a sheet that breaks no rule keeps each
rule : (sheet : Sheet) (place : ℕ) (test : Bool) → broken sheet ≡ 0 → slice_get (kept sheet) place ≡ Some test → test ≡ true
unfolding broken
rule sheet place test h e = all_at (λ k. k) (kept sheet) place test (all_kept 1 (kept sheet) (omega arith) h) e

not_once : (order : Order) → not (is_once order) ≡ true → order ≢ Once
not_once order h e = true≢false (sym h ∙ ap (λ o. not (is_once o)) e)

pub fits : (sheet : Sheet) → broken sheet ≡ 0 → SheetFits sheet
fits sheet h =
    let seats = both _ _ (rule sheet 1 (seats_fit sheet) h refl) in
    let seats_low = both _ _ seats.0 in
    let moves = both _ _ (rule sheet 2 (moves_fit sheet) h refl) in
    let moves_count = both _ _ moves.0 in
    let phases = both _ _ (rule sheet 3 (phases_fit sheet) h refl) in
    let stages = both _ _ (rule sheet 4 (stages_fit sheet) h refl) in
    let lists = both _ _ (rule sheet 5 (lists_fit sheet) h refl) in
    let base_lists = both _ _ lists.0 in
    let nexts = both _ _ (rule sheet 6 (nexts_fit sheet) h refl) in
    let phase_nexts = both _ _ nexts.0 in
    let turns = both _ _ (rule sheet 7 (turns_fit sheet) h refl) in
    let orders = both _ _ (rule sheet 8 (orders_fit sheet) h refl) in
    let own_order = both _ _ orders.0 in
    let specs = both _ _ (rule sheet 9 (specs_fit sheet) h refl) in
    let each_spec = λ (place : ℕ) (row : SpecRow) (e : slice_get sheet.specs place ≡ Some row). spec_held sheet place row (all_at (λ place_row. spec_fits sheet place_row.0 place_row.1) (enumerate_from 0 sheet.specs) place (place, row) specs.1 (enumerated sheet.specs 0 place row e ∙ ap (λ at. Some (at, row)) (zero-add place))) in
    record {
      passes = h;
      least = leb-true 1 sheet.min_seats seats_low.0;
      in_order = leb-true sheet.min_seats sheet.max_seats seats_low.1;
      most = leb-true sheet.max_seats 16 seats.1;
      some_move = leb-true 1 (length sheet.moves) moves_count.0;
      moves = leb-true (length sheet.moves) 64 moves_count.1;
      phases = leb-true (length sheet.phases) 16 phases.0;
      stages = leb-true (length sheet.stages) 16 stages.0;
      specs = leb-true (length sheet.specs) 16 specs.0;
      move_names = names_held (λ (row : MoveRow). row.name) sheet.moves moves.1;
      phase_names = names_held (λ (row : PhaseRow). row.name) sheet.phases phases.1;
      stage_names = names_held (λ (row : StageRow). row.name) sheet.stages stages.1;
      base = all_below (length sheet.moves) sheet.base base_lists.0;
      starts = leb-true (count_by (λ (row : PhaseRow). row.start) sheet.phases) 1 phase_nexts.0;
      turn = turn_held sheet sheet.turn turns.0 own_order.1;
      goes_round = not_once sheet.turn.order own_order.0;
      phase = λ place row e. phase_held sheet row
          (all_at (λ (row : PhaseRow). where_given (is_there (length sheet.phases)) row.next) sheet.phases place row phase_nexts.1 e)
          (all_at (λ (row : PhaseRow). where_given (list_all (is_there (length sheet.moves))) row.moves) sheet.phases place row base_lists.1 e)
          (all_at (λ (row : PhaseRow). where_given (turn_fits sheet) row.turn) sheet.phases place row turns.1 e)
          (all_at (λ (row : PhaseRow). where_given (λ (turn : TurnRow). order_fits sheet turn.order) row.turn) sheet.phases place row orders.1 e);
      stage = λ place row e. stage_held sheet row
          (all_at (λ (row : StageRow). where_given (is_there (length sheet.stages)) row.next) sheet.stages place row nexts.1 e)
          (all_at (λ (row : StageRow). where_given (list_all (is_there (length sheet.moves))) row.moves) sheet.stages place row lists.1 e);
      spec = λ place row e. (each_spec place row e).0;
      rise = λ place row next e f. (each_spec place row e).1 next f;
    }
