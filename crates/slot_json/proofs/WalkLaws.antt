-- The members of an object, one after another, against names and rows.
use Rattle.std.proofs.Common.{◌≡◌, ◌==◌, ◌&&◌, ℕ, Bool, true, false, if◌then◌else◌, List, [], ◌∷◌, ◌++◌, drop, length, Option, Some, None, option_map, refl, sym, ap, ◌∙◌, append_assoc, append-nil}
use Rattle.std.proofs.Math.Dec.{eqb-suc-zero}
use Rattle.std.specs.Str.{bytes_eq}
use Rattle.game_sheet.specs.declared.args.Arg.{Arg}
use Rattle.game_slots.specs.Slots.{SlotLists}
use Rattle.game_slots.specs.declared.rows.SlotRow.{SlotRow}
use Rattle.open_game.specs.Forms.{both}
use Rattle.serde_json.specs.Data.{Data, Members, no_members, member}
use Rattle.slot_json.specs.PartText.{member_slot}
use Rattle.slot_json.specs.SlotForms.{members_read, slot_read}

abbrev pub after : SlotLists → Option SlotLists → Option SlotLists
after done o = option_map (λ rest. done ++ rest) o

joined : (done : SlotLists) (c items : List (Option Arg)) (rest : Option SlotLists) → c ≡ items → after done (both (λ x xs. x ∷ xs) (Some c) rest) ≡ after (done ++ items ∷ []) rest
joined done c items None is = refl
joined done c items (Some xs) is = ap (λ x. Some (done ++ x ∷ xs)) is ∙ ap Some (sym (append_assoc done (items ∷ []) xs))

then_rest : (same : Bool) (first : Option (List (Option Arg))) (rest : Option SlotLists) (done : SlotLists) (items : List (Option Arg)) → (if same then first else None) ≡ Some items
    → after done (if same then both (λ x xs. x ∷ xs) first rest else None) ≡ after (done ++ items ∷ []) rest
then_rest true None rest done items is = absurd (cc)
then_rest true (Some c) rest done items is = let same : c ≡ items = cc in joined done c items rest same
then_rest false first rest done items is = absurd (cc)

one_more : (names : List (List ℕ)) (rows : List SlotRow) (k : List ℕ) (d : Data) (ms : Members) (done : SlotLists) (items : List (Option Arg)) → member_slot names rows k d ≡ Some items
    → after done (members_read names rows (member k d ms)) ≡ after (done ++ items ∷ []) (members_read (drop 1 names) (drop 1 rows) ms)
one_more [] rows k d ms done items is = absurd (cc)
one_more (name ∷ names) [] k d ms done items is = absurd (cc)
one_more (name ∷ names) (row ∷ rows) k d ms done items is = then_rest (bytes_eq k name) (slot_read row d) (members_read names rows ms) done items is

none_then : (same : Bool) (first : Option (List (Option Arg))) (rest : Option SlotLists) → (if same then first else None) ≡ None → (if same then both (λ x xs. x ∷ xs) first rest else None) ≡ None
none_then true None rest is = refl
none_then true (Some c) rest is = absurd (cc)
none_then false first rest is = refl

pub no_more : (names : List (List ℕ)) (rows : List SlotRow) (k : List ℕ) (d : Data) (ms : Members) → member_slot names rows k d ≡ None → members_read names rows (member k d ms) ≡ None
no_more [] [] k d ms is = refl
no_more [] (row ∷ rows) k d ms is = refl
no_more (name ∷ names) [] k d ms is = refl
no_more (name ∷ names) (row ∷ rows) k d ms is = none_then (bytes_eq k name) (slot_read row d) (members_read names rows ms) is

-- one member more is read
pub next_read : (names names_left : List (List ℕ)) (rows rows_left : List SlotRow) (k told : List ℕ) (d : Data) (here rest : Members) (done more : SlotLists) (items : List (Option Arg)) (end : Option SlotLists) (found : Option (List (Option Arg)))
    → here ≡ member k d rest → told ≡ k → found ≡ member_slot names rows told d → found ≡ Some items → names_left ≡ drop 1 names → rows_left ≡ drop 1 rows → more ≡ done ++ items ∷ []
    → after done (members_read names rows here) ≡ end → after more (members_read names_left rows_left rest) ≡ end
next_read names names_left rows rows_left k told d here rest done more items end found is_here is_told is_found is_items is_names is_rows is_more known =
    let at : member_slot names rows k d ≡ Some items = sym (ap (λ q. member_slot names rows q d) is_told) ∙ sym is_found ∙ is_items in
    rw is_more (rw is_names (rw is_rows (sym (one_more names rows k d rest done items at) ∙ sym (ap (λ ms. after done (members_read names rows ms)) is_here) ∙ known)))

-- where a name or a row is left, nothing is made
left_over : (a b : Bool) (done : SlotLists) → (a && b) ≡ false → (if a && b then Some done else None) ≡ None
left_over a b done is = ap (λ t. if t then Some done else None) is

-- at the end no name and no row is left
pub all_read : (names : List (List ℕ)) (rows : List SlotRow) (here : Members) (done : SlotLists) (end : Option SlotLists) → here ≡ no_members → after done (members_read names rows here) ≡ end
    → (if length names == 0 && length rows == 0 then Some done else None) ≡ end
all_read [] [] here done end is known = ap Some (sym (append-nil done)) ∙ sym (ap (λ ms. after done (members_read [] [] ms)) is) ∙ known
all_read [] (row ∷ rows) here done end is known = left_over true (length (row ∷ rows) == 0) done (eqb-suc-zero (length rows)) ∙ sym (ap (λ ms. after done (members_read [] (row ∷ rows) ms)) is) ∙ known
all_read (name ∷ names) [] here done end is known = left_over (length (name ∷ names) == 0) true done (ap (λ t. t && true) (eqb-suc-zero (length names))) ∙ sym (ap (λ ms. after done (members_read (name ∷ names) [] ms)) is) ∙ known
all_read (name ∷ names) (row ∷ rows) here done end is known =
    left_over (length (name ∷ names) == 0) (length (row ∷ rows) == 0) done (ap (λ t. t && (length (row ∷ rows) == 0)) (eqb-suc-zero (length names)))
    ∙ sym (ap (λ ms. after done (members_read (name ∷ names) (row ∷ rows) ms)) is) ∙ known
