-- What a sheet that fits says of the rows in force, and of play orders and places.
use Rattle.std.proofs.Common.{◌≡◌, ◌≢◌, ℕ, ◌+◌, ◌%◌, ◌<◌, ◌≤◌, Bool, true, false, ◌||◌, nat_eq, nat_lt, nat_le, if◌then◌else◌, List, [], ◌∷◌, length, All, Option, Some, None, Result, Ok, Err, IfOk, position, slice_get, arith, refl, sym, ap, subst, ◌∙◌}
use Rattle.std.specs.List.{range_with_len, list_any, position_or_len}
use Rattle.std.proofs.lemmas.List.FromFn.{length-range_with_len, get_or-range_with_len}
use Rattle.std.proofs.lemmas.List.Elements.{All-nil, All-cons}
use Rattle.std.proofs.lemmas.List.Quantifiers.{position-Some}
use Rattle.std.proofs.lemmas.Bool.Decides.{nat_tests}
use Rattle.game_sheet.specs.SheetFits.{SheetFits, TurnFits, PhaseFits, SeatsFit}
use Rattle.game_sheet.specs.declared.ctx.Ctx.{Ctx}
use Rattle.game_sheet.specs.declared.sheet.Order.{Order}
use Rattle.game_sheet.specs.declared.sheet.Order.TheVariants.{Default, Reset, Continue, Once, Custom, CustomFrom}
use Rattle.game_sheet.specs.declared.sheet.PhaseRow.{PhaseRow}
use Rattle.game_sheet.specs.declared.sheet.Sheet.{Sheet}
use Rattle.game_sheet.specs.declared.sheet.TurnRow.{TurnRow}
use Rattle.turn_order.specs.PlayOrder.{all_seats, is_no_order, IsPlayOrder}
use Rattle.turn_order.specs.Position.{first, next}
use Rattle.phase_flow.specs.Rows.{order_list, turn_of_phase, turn_row}
use Rattle.std.specs.Prelude.{unwrap_or, option_and_then}

own_fits : (sheet : Sheet) (row : PhaseRow) (o : Option TurnRow) → TurnFits sheet sheet.turn → row.turn ≡ o → PhaseFits sheet row → TurnFits sheet (unwrap_or o sheet.turn)
own_fits sheet row None otherwise e p = otherwise
own_fits sheet row (Some turn) otherwise e p = p.turn turn e

phase_turn_fits : (sheet : Sheet) (o : Option PhaseRow) → TurnFits sheet sheet.turn → ((row : PhaseRow) → o ≡ Some row → PhaseFits sheet row) → TurnFits sheet (turn_of_phase sheet.turn o)
phase_turn_fits sheet None otherwise p = otherwise
phase_turn_fits sheet (Some row) otherwise p = own_fits sheet row row.turn otherwise refl (p row refl)

at_phase_fits : (sheet : Sheet) (phase : Option ℕ) → SheetFits sheet → TurnFits sheet (turn_of_phase sheet.turn (option_and_then (slice_get sheet.phases) phase))
at_phase_fits sheet None fits = fits.turn
at_phase_fits sheet (Some phase) fits = phase_turn_fits sheet (slice_get sheet.phases phase) fits.turn (λ row e. fits.phase phase row e)

-- the turn row in force fits
pub turn_row_fits : (sheet : Sheet) (ctx : Ctx) → SheetFits sheet → TurnFits sheet (turn_row sheet ctx)
turn_row_fits sheet ctx fits = at_phase_fits sheet ctx.phase fits

range_below : (n most : ℕ) → n ≤ most → All (λ seat. seat < most) (range_with_len 0 n)
range_below n most h = λ k d lt.
    let inside : k < n = omega (arith, length-range_with_len 0 n) in
    let low : 0 + k < most = omega arith in
    rw (get_or-range_with_len 0 n k d inside) low

pub all_seats_serve : (seats : ℕ) → 1 ≤ seats → seats ≤ 16 → IsPlayOrder seats (all_seats seats)
all_seats_serve seats least most =
    let long : length (range_with_len 0 seats) ≡ seats = length-range_with_len 0 seats in
    record { least = omega arith; most = omega arith; inside = range_below seats seats (omega arith) }

either_false : (a b : Bool) → (a || b) ≡ false → (a ≡ false) × (b ≡ false)
either_false true b h = cc
either_false false b h = (refl, h)

not_below : (seats seat : ℕ) → nat_le seats seat ≡ false → seat < seats
not_below seats seat h = grind (arith, nat_tests)

all_inside : (seats : ℕ) (given : List ℕ) → list_any (λ seat. nat_le seats seat) given ≡ false → All (λ seat. seat < seats) given
all_inside seats [] h = All-nil (λ seat. seat < seats)
all_inside seats (seat ∷ given) h =
    let parts = either_false (nat_le seats seat) (list_any (λ seat. nat_le seats seat) given) h in
    All-cons (λ seat. seat < seats) seat given (not_below seats seat parts.0) (all_inside seats given parts.1)

or_false : (a b c : Bool) → (a || b || c) ≡ false → (a ≡ false) × (b ≡ false) × (c ≡ false)
or_false true b c h = cc
or_false false true c h = cc
or_false false false true h = cc
or_false false false false h = (refl, refl, refl)

chosen_serves : (seats : ℕ) (given : List ℕ) (is : Bool) → is_no_order seats given ≡ is → 1 ≤ seats → seats ≤ 16 → IsPlayOrder seats (if is then all_seats seats else given)
chosen_serves seats given true e least most = all_seats_serve seats least most
chosen_serves seats given false e least most =
    let parts = or_false (nat_eq (length given) 0) (nat_lt 64 (length given)) (list_any (λ seat. nat_le seats seat) given) e in
    record { least = grind (arith, nat_tests, parts.0); most = grind (arith, nat_tests, parts.1); inside = all_inside seats given parts.2 }

listed_serves : (sheet : Sheet) (seats : ℕ) (listed : List ℕ) → sheet.min_seats ≤ seats → SeatsFit sheet listed → IsPlayOrder seats listed
listed_serves sheet seats listed enough s = record { least = s.least; most = s.most; inside = λ k d lt. let low = s.inside k d lt in omega arith }

-- the play order of a row that fits is one
order_serves : (sheet : Sheet) (order : Order) (seats : ℕ) (own : List ℕ) → sheet.min_seats ≤ seats → 1 ≤ seats → seats ≤ 16 → ((listed : List ℕ) → order ≡ Custom listed → SeatsFit sheet listed) → IsPlayOrder seats (order_list order seats own)
order_serves sheet Default seats own enough least most c = all_seats_serve seats least most
order_serves sheet Reset seats own enough least most c = all_seats_serve seats least most
order_serves sheet Continue seats own enough least most c = all_seats_serve seats least most
order_serves sheet Once seats own enough least most c = all_seats_serve seats least most
order_serves sheet (Custom listed) seats own enough least most c = listed_serves sheet seats listed enough (c listed refl)
order_serves sheet CustomFrom seats own enough least most c = chosen_serves seats own (is_no_order seats own) refl least most

pub order_list_serves : (sheet : Sheet) (ctx : Ctx) (own : List ℕ) → SheetFits sheet → sheet.min_seats ≤ ctx.seats → ctx.seats ≤ sheet.max_seats → IsPlayOrder ctx.seats (order_list (turn_row sheet ctx).order ctx.seats own)
order_list_serves sheet ctx own fits enough few =
    let row = turn_row_fits sheet ctx fits in
    order_serves sheet (turn_row sheet ctx).order ctx.seats own enough (omega (arith, fits.least)) (omega (arith, fits.most)) row.custom

-- the first place of a phase is a place of its order
pub first_inside : (order : Order) (at_start : Bool) (pos len : ℕ) → 1 ≤ len → first order at_start pos len < len
first_inside Default true pos len h = h
first_inside Default false pos len h = omega arith
first_inside Reset at_start pos len h = h
first_inside Continue at_start pos len h = omega arith
first_inside Once at_start pos len h = h
first_inside (Custom seats) at_start pos len h = h
first_inside CustomFrom at_start pos len h = h

once_inside : (is : Bool) (pos len place : ℕ) → nat_eq (pos + 1) len ≡ is → pos < len → (if is then None else Some (pos + 1)) ≡ Some place → place < len
once_inside true pos len place e h s = cc
once_inside false pos len place e h s =
    let at : pos + 1 ≡ place = cc in
    let apart : pos + 1 ≢ len = grind (arith, nat_tests) in
    omega arith

some_is : (m place : ℕ) → Some m ≡ Some place → m ≡ place
some_is m place e = cc

round_inside : (pos len place : ℕ) → pos < len → Some ((pos + 1) % len) ≡ Some place → place < len
round_inside pos len place h e = let at = some_is ((pos + 1) % len) place e in omega arith

-- the next place is a place of the order
pub next_inside : (order : Order) (pos len place : ℕ) → pos < len → next order pos len ≡ Some place → place < len
next_inside Default pos len place h e = round_inside pos len place h e
next_inside Reset pos len place h e = round_inside pos len place h e
next_inside Continue pos len place h e = round_inside pos len place h e
next_inside Once pos len place h e = once_inside (nat_eq (pos + 1) len) pos len place refl h e
next_inside (Custom seats) pos len place h e = round_inside pos len place h e
next_inside CustomFrom pos len place h e = round_inside pos len place h e

pub position_inside : (seat : ℕ) (order : List ℕ) (place : ℕ) → position (nat_eq seat) order ≡ Some place → place < length order
position_inside seat order place e = (position-Some (nat_eq seat) order place 0 e).0

chosen : (b : Bool) (n i : ℕ) → (if b then Some n else None) ≡ Some i → (b ≡ true) × (n ≡ i)
chosen true n i h = (refl, cc)
chosen false n i h = cc

below_is : (m n : ℕ) → nat_lt m n ≡ true → m < n
below_is m n h = grind (arith, nat_tests)

-- the first place that passes a test is a place of the list
pub place_inside : {X : Type 0} (p : X → Bool) (xs : List X) (i : ℕ) → position p xs ≡ Some i → i < length xs
place_inside p xs i h =
    let at = chosen (nat_lt (position_or_len p xs) (length xs)) (position_or_len p xs) i h in
    subst (λ k. k < length xs) at.1 (below_is (position_or_len p xs) (length xs) at.0)

-- a list of the sheet that is the order in force serves every match
pub custom_serves : (sheet same : Sheet) (ctx : Ctx) (row : TurnRow) (listed : List ℕ) → same ≡ sheet → SheetFits sheet → row ≡ turn_row same ctx → row.order ≡ Custom listed → SeatsFit sheet listed
custom_serves sheet same ctx row listed s fits r o =
    let at : (turn_row sheet ctx).order ≡ Custom listed = ap (λ (one : Sheet). (turn_row one ctx).order) (sym s) ∙ ap (λ (one : TurnRow). one.order) (sym r) ∙ o in
    (turn_row_fits sheet ctx fits).custom listed at

-- what holds of a list holds of its copy
pub copy_keeps : {E : Type 0} (P : List ℕ → Type 0) (copied : Result (List ℕ) E) (from listed : List ℕ) → IfOk copied (λ copy. copy ≡ from) → from ≡ listed → P listed → IfOk copied P
copy_keeps P (Ok copy) from listed c e h = subst P (sym (c ∙ e)) h
copy_keeps P (Err why) from listed c e h = tt
