-- Who has the greatest number: of cards on a table, of scores, of bids, or of bytes.
use Rattle.std.specs.Prelude.{ℕ, ◌==◌, max, nat_lt, if◌then◌else◌, List, count_by, fold, position, Option}
use Rattle.game_sheet.specs.declared.act.Outcome.{Outcome}
use Rattle.game_sheet.specs.declared.act.Outcome.TheVariants.{Winner, Draw}
use Rattle.std.specs.Option.{option_map_or}

-- the greatest of the numbers that a list's items are worth, or 0 of an empty list
abbrev pub greatest : {A : Type 0} → (A → ℕ) → List A → ℕ
greatest worth items = fold (λ most item. max most (worth item)) 0 items

-- the least place of an item that is worth the most
abbrev pub first_greatest : {A : Type 0} → (A → ℕ) → List A → Option ℕ
first_greatest worth items = position (λ item. worth item == greatest worth items) items

-- how many items are worth the most
abbrev pub count_greatest : {A : Type 0} → (A → ℕ) → List A → ℕ
count_greatest worth items = count_by (λ item. worth item == greatest worth items) items

-- the one seat whose item is worth the most wins; where several are, nobody does. A place is a seat's; no match has more than sixteen
abbrev pub one_greatest : {A : Type 0} → (A → ℕ) → List A → Outcome
one_greatest worth items =
    if count_greatest worth items == 1 then option_map_or (λ seat. if nat_lt seat 16 then Winner seat else Draw) (first_greatest worth items) Draw else Draw
