-- The seats of the play order are values.
use Rattle.std.proofs.Common.{◌≡◌, ℕ, zero, suc, ◌<◌, ℤ, pos, Option, Some, None, option_and_then, List, [], ◌∷◌, length, map, get_or, refl, ap, ◌∙◌, sym, arith}
use Rattle.std.proofs.lemmas.List.{length-map}
use Rattle.std.specs.Prelude.{nat_lt, if◌then◌else◌, slice_get, unwrap_or}
use Rattle.game_sheet.specs.declared.args.Arg.{Arg}
use Rattle.game_slots.specs.Slots.{item_in, length_of, place_in}
use Rattle.game_code.specs.Meaning.{place_value}

seat_at : (order : List ℕ) (i x : ℕ) → i < length order → x ≡ get_or order i x → slice_get (map place_value order) i ≡ Some (place_value x)
seat_at [] i x below is = absurd (omega (arith, below))
seat_at (y ∷ order) zero x below is = ap (λ z. Some (place_value z)) (sym is)
seat_at (y ∷ order) (suc i) x below is = seat_at order i x (omega (arith, below)) is

abbrev item_at : List (Option Arg) → Option ℕ → Option Arg
item_at items place = option_and_then (λ place. unwrap_or (slice_get items place) None) place

found_at : (order : List ℕ) (at : Option ℤ) (found : Option ℕ) → found ≡ place_in at (length order) → item_in (map place_value order) at ≡ item_at (map place_value order) found
found_at order at found is = ap (λ n. item_at (map place_value order) (place_in at n)) (length-map order place_value) ∙ ap (item_at (map place_value order)) (sym is)

-- the seat at a place of the order
pub order_some : (order : List ℕ) (at : Option ℤ) (found : Option ℕ) (i x : ℕ) → found ≡ place_in at (length order) → found ≡ Some i → i < length order → x ≡ get_or order i x → place_value x ≡ item_in (map place_value order) at
order_some order at found i x is some below held =
    sym (found_at order at found is ∙ ap (item_at (map place_value order)) some ∙ ap (λ o. unwrap_or o None) (seat_at order i x below held))

pub order_none : (order : List ℕ) (at : Option ℤ) (found : Option ℕ) → found ≡ place_in at (length order) → found ≡ None → None ≡ item_in (map place_value order) at
order_none order at found is none = sym (found_at order at found is ∙ ap (item_at (map place_value order)) none)

pub order_counted : (order : List ℕ) → (if nat_lt (length order) 2147483648 then Some (pos (length order)) else None) ≡ length_of (map place_value order)
order_counted order = ap (λ n. if nat_lt n 2147483648 then Some (pos n) else None) (sym (length-map order place_value))
