-- Parts that are put into an object, or written, one after another.
use Rattle.std.proofs.Common.{◌≡◌, ◌||◌, ◌++◌, ◌<◌, ℕ, Bool, true, false, List, [], ◌∷◌, length, codes, arith, refl, sym, ap, ◌∙◌, append_assoc}
use Rattle.json_tree.specs.Canonical.{AreAbove}
use Rattle.game_sheet.specs.declared.args.Arg.{Arg}
use Rattle.std.specs.Prelude.{Option}
use Rattle.game_slots.specs.Slots.{SlotLists}
use Rattle.game_slots.specs.declared.rows.SlotRow.{SlotRow}
use Rattle.serde_json.specs.Data.{Data, Members, member, no_members, object, put}
use Rattle.serde_json.specs.Written.{compact_text, members_text}
use Rattle.slot_json.specs.PartText.{part_text, put_where}
use Rattle.slot_json.specs.SlotForms.{members_value, rows_fit, slot_value}
use Rattle.slot_json.specs.TableForms.{parts_value, with_part}
use Rattle.slot_json.proofs.SlotLaws.{above, row_parts}

-- a name below all others goes before them
put_first : (name : List ℕ) (d : Data) (ms : Members) → AreAbove name ms → put name d ms ≡ member name d ms
put_first name d no_members above = refl
put_first name d (member l e ms) above = rw (above.0) refl

-- the first slot is put before the others
pub slots_put : (name : List ℕ) (names : List (List ℕ)) (row : SlotRow) (rows : List SlotRow) (items : List (Option Arg)) (slots : SlotLists) → rows_fit (name ∷ names) (row ∷ rows) ≡ true
    → put name (slot_value row items) (members_value names rows slots) ≡ member name (slot_value row items) (members_value names rows slots)
slots_put name names row rows items slots fit =
    let parts = row_parts name names row rows fit in
    put_first name (slot_value row items) (members_value names rows slots) (above name names rows slots parts.below parts.rest)

-- where one of the three lists is at its end, no member is left
pub no_names : (names : List (List ℕ)) (rows : List SlotRow) (slots : SlotLists) → length names < 1 → members_value names rows slots ≡ no_members
no_names [] rows slots h = refl
no_names (name ∷ names) rows slots h = absurd (omega arith)

pub no_rows : (names : List (List ℕ)) (rows : List SlotRow) (slots : SlotLists) → length rows < 1 → members_value names rows slots ≡ no_members
no_rows [] rows slots h = refl
no_rows (name ∷ names) [] slots h = refl
no_rows (name ∷ names) (row ∷ rows) slots h = absurd (omega arith)

pub no_slots : (names : List (List ℕ)) (rows : List SlotRow) (slots : SlotLists) → length slots < 1 → members_value names rows slots ≡ no_members
no_slots [] rows slots h = refl
no_slots (name ∷ names) [] slots h = refl
no_slots (name ∷ names) (row ∷ rows) [] h = refl
no_slots (name ∷ names) (row ∷ rows) (items ∷ slots) h = absurd (omega arith)

-- the parts that are put into an empty object are its members
pub parts_put : (a b c : Bool) (x y z : Data) → put_where c (codes "secret") z (put_where b (codes "players") y (put_where a (codes "common") x no_members)) ≡ parts_value a b c x y z
parts_put true true true x y z = refl
parts_put true true false x y z = refl
parts_put true false true x y z = refl
parts_put true false false x y z = refl
parts_put false true true x y z = refl
parts_put false true false x y z = refl
parts_put false false true x y z = refl
parts_put false false false x y z = refl

-- the text of a part stands before that of the others
part_before : (later there : Bool) (name : List ℕ) (d : Data) (ms : Members) → members_text later (with_part there name d ms) ≡ part_text later there name d ++ members_text (later || there) ms
part_before true true name d ms = simp append_assoc
part_before false true name d ms = simp append_assoc
part_before true false name d ms = refl
part_before false false name d ms = refl

parts_text : (a b c : Bool) (x y z : Data) → members_text false (parts_value a b c x y z)
    ≡ part_text false a (codes "common") x ++ (part_text a b (codes "players") y ++ (part_text (a || b) c (codes "secret") z ++ 125 ∷ []))
parts_text a b c x y z =
    part_before false a (codes "common") x (with_part b (codes "players") y (with_part c (codes "secret") z no_members))
    ∙ ap (λ rest. part_text false a (codes "common") x ++ rest) (part_before a b (codes "players") y (with_part c (codes "secret") z no_members)
    ∙ ap (λ rest. part_text a b (codes "players") y ++ rest) (part_before (a || b) c (codes "secret") z no_members))

-- what is written of the parts between two brackets is the object's text
pub whole_text : (out one two three four five : List ℕ) (a b c : Bool) (x y z : Data) → one ≡ out ++ 123 ∷ [] → two ≡ one ++ part_text false a (codes "common") x → three ≡ two ++ part_text a b (codes "players") y
    → four ≡ three ++ part_text (a || b) c (codes "secret") z → five ≡ four ++ 125 ∷ [] → five ≡ out ++ compact_text (object (parts_value a b c x y z))
whole_text out one two three four five a b c x y z is_one is_two is_three is_four is_five =
    let first = part_text false a (codes "common") x in
    let second = part_text a b (codes "players") y in
    let third = part_text (a || b) c (codes "secret") z in
    is_five ∙ ap (λ t. t ++ 125 ∷ []) (is_four ∙ ap (λ t. t ++ third) (is_three ∙ ap (λ t. t ++ second) (is_two ∙ ap (λ t. t ++ first) is_one)))
    ∙ regroup out first second third ∙ ap (λ t. out ++ 123 ∷ t) (sym (parts_text a b c x y z))
  where
    regroup : (out first second third : List ℕ) → ((((out ++ 123 ∷ []) ++ first) ++ second) ++ third) ++ 125 ∷ [] ≡ out ++ 123 ∷ (first ++ (second ++ (third ++ 125 ∷ [])))
    regroup out first second third = simp append_assoc
