-- What a seat's conditions read is the same in its view.
use Rattle.std.proofs.Common.{◌≡◌, ◌+◌, ◌<◌, ◌==◌, ◌&&◌, ℕ, zero, suc, nat_lt, not, Bool, true, false, if◌then◌else◌, ℤ, pos, negsuc, List, [], ◌∷◌, length, slice_get, Option, Some, None, option_and_then, refl, sym, ap, ◌∙◌, subst, arith, eq-eqb}
use Rattle.std.specs.Prelude.{unwrap_or, is_some}
use Rattle.std.proofs.lemmas.Bool.{and_parts, both_ways, eqb-true}
use Rattle.std.specs.Option.{option_map_or}
use Rattle.game_sheet.specs.declared.args.Arg.{Arg}
use Rattle.game_slots.specs.Slots.{SlotLists, place_in}
use Rattle.game_slots.specs.Tables.{entry_at, has_seat, seen, seen_from, slot_in, strip}
use Rattle.game_slots.specs.declared.table.Table.{Table}
use Rattle.slot_values.specs.Operators.{operate}
use Rattle.slot_values.specs.Spans.{count_between, first_over, gathered, greatest_with, next, put_together, sum_with}
use Rattle.slot_values.specs.Values.{is_true, number_of, truth, whole}
use Rattle.slot_values.specs.declared.value.Gather.{Gather}
use Rattle.slot_values.specs.declared.value.Gather.TheVariants.{Any, First, Sum, Greatest}
use Rattle.game_code.specs.Meaning.{cell_place, list_item, list_items, list_length, place_value, size_of_value, value_of, word_value}
use Rattle.game_code.specs.Setting.{Setting}
use Rattle.game_code.specs.declared.expression.Expression.{Expression}
use Rattle.game_code.specs.declared.expression.Expression.TheVariants.{Literal, Local, Argument, Word, Item', Cell', Length', Size', Not', Operate', If', Let', Gather'}
use Rattle.game_code.specs.declared.expression.ItemList.{ItemList}
use Rattle.game_code.specs.declared.expression.ItemList.TheVariants.{Common, Player, Secret, Work, Constant, Order}
use Rattle.game_code.specs.declared.expression.Word.{Word as MatchWord}
use Rattle.game_code.specs.declared.expression.Word.TheVariants.{Seat, Seats, Current, Turn, Moves, Place, Phase}
use Rattle.code_laws.proofs.TableLaws.{as_many}
use Rattle.code_laws.specs.Sight.{is_mover, is_seat, is_seen, reads_own}

abbrev Values : Type 0
Values = List (Option Arg)

-- ---- the entry of the seat

own_shown : (seat n : ℕ) (entry : Option SlotLists) → n ≡ seat → seen (Some seat) n entry ≡ entry
own_shown seat n entry is = ap (λ b. if b then entry else None) (eq-eqb seat n (sym is))

own_held : (seat n : ℕ) (entries : List (Option SlotLists)) (i : ℕ) → n + i ≡ seat → slice_get (seen_from (Some seat) n entries) i ≡ slice_get entries i
own_held seat n [] i is = refl
own_held seat n (e ∷ entries) zero is = ap Some (own_shown seat n e (omega (arith, is)))
own_held seat n (e ∷ entries) (suc i) is = own_held seat (n + 1) entries i (omega (arith, is))

held_in : (found : Bool) (seat : ℕ) (xs ys : List (Option SlotLists)) → slice_get xs seat ≡ slice_get ys seat
    → option_and_then (λ place. unwrap_or (slice_get xs place) None) (if found then Some seat else None) ≡ option_and_then (λ place. unwrap_or (slice_get ys place) None) (if found then Some seat else None)
held_in true seat xs ys same = ap (λ o. unwrap_or o None) same
held_in false seat xs ys same = refl

own_entry : (seat : ℕ) (entries : List (Option SlotLists)) → entry_at (seen_from (Some seat) 0 entries) (Some (pos seat)) ≡ entry_at entries (Some (pos seat))
own_entry seat entries =
    ap (λ n. option_and_then (λ place. unwrap_or (slice_get (seen_from (Some seat) 0 entries) place) None) (place_in (Some (pos seat)) n)) (as_many (Some seat) 0 entries)
    ∙ held_in (nat_lt seat (length entries)) seat (seen_from (Some seat) 0 entries) entries (own_held seat 0 entries seat (omega arith))

-- ---- what is gathered

module _ (one other : Option ℤ → Option Arg) (same : (i : Option ℤ) → one i ≡ other i) where
  first_same : (n : ℕ) (i : Option ℤ) → first_over one n i ≡ first_over other n i
  first_same zero i = refl
  first_same (suc n) i = ap (λ v. if is_true v then i else first_over one n (next i)) (same i) ∙ ap (λ r. if is_true (other i) then i else r) (first_same n (next i))

  together_same : (with : Option ℤ → Option ℤ → Option ℤ) (n : ℕ) (i so_far : Option ℤ) → put_together with one n i so_far ≡ put_together with other n i so_far
  together_same with zero i so_far = refl
  together_same with (suc n) i so_far =
      together_same with n (next i) (with so_far (number_of (one i))) ∙ ap (λ v. put_together with other n (next i) (with so_far (number_of v))) (same i)

  gathered_same : (gather : Gather) (n : ℕ) (i : Option ℤ) → gathered gather one n i ≡ gathered gather other n i
  gathered_same Any n i = ap (λ o. truth (is_some o)) (first_same n i)
  gathered_same First n i = ap whole (first_same n i)
  gathered_same Sum n i = ap whole (together_same sum_with n i (Some (pos 0)))
  gathered_same Greatest n i = ap whole (together_same greatest_with n i None)

either : (b : Bool) (x y z w : Option Arg) → x ≡ z → y ≡ w → (if b then x else y) ≡ (if b then z else w)
either true x y z w p q = p
either false x y z w p q = q

-- ---- expressions

module _ (s : Setting) (table : Table) (work : SlotLists) (seat : ℕ) (mover : s.seat ≡ Some seat) where
  abbrev sight : Table
  sight = strip table (Some seat)

  abbrev at_first : Expression → Values → Option Arg
  at_first e locals = value_of e s table work locals

  abbrev in_sight : Expression → Values → Option Arg
  in_sight e locals = value_of e s sight work locals

  seat_is : (word : MatchWord) → is_seat word ≡ true → number_of (word_value word s) ≡ Some (pos seat)
  seat_is Seat is = ap (λ o. number_of (option_and_then place_value o)) mover
  seat_is Seats is = absurd (both_ways false refl is)
  seat_is Current is = absurd (both_ways false refl is)
  seat_is Turn is = absurd (both_ways false refl is)
  seat_is Moves is = absurd (both_ways false refl is)
  seat_is Place is = absurd (both_ways false refl is)
  seat_is Phase is = absurd (both_ways false refl is)

  mover_is : (e : Expression) (locals : Values) → is_mover e ≡ true → number_of (at_first e locals) ≡ Some (pos seat)
  mover_is (Literal value) locals is = absurd (both_ways false refl is)
  mover_is (Local place) locals is = absurd (both_ways false refl is)
  mover_is (Argument place) locals is = absurd (both_ways false refl is)
  mover_is (Word word) locals is = seat_is word is
  mover_is (Item' list p who q at) locals is = absurd (both_ways false refl is)
  mover_is (Cell' p row q column columns) locals is = absurd (both_ways false refl is)
  mover_is (Length' list p who) locals is = absurd (both_ways false refl is)
  mover_is (Size' p text) locals is = absurd (both_ways false refl is)
  mover_is (Not' p test) locals is = absurd (both_ways false refl is)
  mover_is (Operate' operator p a q b) locals is = absurd (both_ways false refl is)
  mover_is (If' p test q a r b) locals is = absurd (both_ways false refl is)
  mover_is (Let' p value q body) locals is = absurd (both_ways false refl is)
  mover_is (Gather' gather most p from q to r body) locals is = absurd (both_ways false refl is)

  own_items : (list : ItemList) (e : Expression) (locals : Values) → is_seen list e ≡ true → list_items list (number_of (at_first e locals)) s sight work ≡ list_items list (number_of (at_first e locals)) s table work
  own_items (Common slot) e locals is = refl
  own_items (Player slot) e locals is =
      let named = mover_is e locals is in
      ap (λ n. slot_in (entry_at (seen_from (Some seat) 0 table.players) n) slot) named ∙ ap (λ entry. slot_in entry slot) (own_entry seat table.players) ∙ sym (ap (λ n. slot_in (entry_at table.players n) slot) named)
  own_items (Secret slot) e locals is = absurd (both_ways false refl is)
  own_items (Work slot) e locals is = refl
  own_items (Constant row) e locals is = refl
  own_items Order e locals is = refl

  pub same_value : (e : Expression) (locals : Values) → reads_own e ≡ true → in_sight e locals ≡ at_first e locals
  same_value (Literal value) locals is = refl
  same_value (Local place) locals is = refl
  same_value (Argument place) locals is = refl
  same_value (Word word) locals is = refl
  same_value (Item' list p who q at) locals is =
      let outer = and_parts (is_seen list who && reads_own who) (reads_own at) is in
      let inner = and_parts (is_seen list who) (reads_own who) outer.0 in
      ap (λ v. list_item (list_items list (number_of v) s sight work) (number_of (in_sight at locals))) (same_value who locals inner.1)
      ∙ ap (λ v. list_item (list_items list (number_of (at_first who locals)) s sight work) (number_of v)) (same_value at locals outer.1)
      ∙ ap (λ items. list_item items (number_of (at_first at locals))) (own_items list who locals inner.0)
  same_value (Cell' p row q column columns) locals is =
      let parts = and_parts (reads_own row) (reads_own column) is in
      ap (λ v. whole (cell_place columns (number_of v) (number_of (in_sight column locals)))) (same_value row locals parts.0)
      ∙ ap (λ v. whole (cell_place columns (number_of (at_first row locals)) (number_of v))) (same_value column locals parts.1)
  same_value (Length' list p who) locals is =
      let parts = and_parts (is_seen list who) (reads_own who) is in
      ap (λ v. whole (list_length (list_items list (number_of v) s sight work))) (same_value who locals parts.1) ∙ ap (λ items. whole (list_length items)) (own_items list who locals parts.0)
  same_value (Size' p text) locals is = ap size_of_value (same_value text locals is)
  same_value (Not' p test) locals is = ap (λ v. truth (not (is_true v))) (same_value test locals is)
  same_value (Operate' operator p a q b) locals is =
      let parts = and_parts (reads_own a) (reads_own b) is in
      ap (λ v. operate operator v (in_sight b locals)) (same_value a locals parts.0) ∙ ap (operate operator (at_first a locals)) (same_value b locals parts.1)
  same_value (If' p test q a r b) locals is =
      let outer = and_parts (reads_own test && reads_own a) (reads_own b) is in
      let inner = and_parts (reads_own test) (reads_own a) outer.0 in
      ap (λ v. if is_true v then in_sight a locals else in_sight b locals) (same_value test locals inner.0)
      ∙ either (is_true (at_first test locals)) (in_sight a locals) (in_sight b locals) (at_first a locals) (at_first b locals) (same_value a locals inner.1) (same_value b locals outer.1)
  same_value (Let' p value q body) locals is =
      let parts = and_parts (reads_own value) (reads_own body) is in
      ap (λ v. in_sight body (v ∷ locals)) (same_value value locals parts.0) ∙ same_value body (at_first value locals ∷ locals) parts.1
  same_value (Gather' gather most p from q to r body) locals is =
      let outer = and_parts (reads_own from && reads_own to) (reads_own body) is in
      let inner = and_parts (reads_own from) (reads_own to) outer.0 in
      let before = number_of (at_first from locals) in
      ap (λ v. gathered gather (λ i. in_sight body (whole i ∷ locals)) (count_between most (number_of v) (number_of (in_sight to locals))) (number_of v)) (same_value from locals inner.0)
      ∙ ap (λ v. gathered gather (λ i. in_sight body (whole i ∷ locals)) (count_between most before (number_of v)) before) (same_value to locals inner.1)
      ∙ gathered_same (λ i. in_sight body (whole i ∷ locals)) (λ i. at_first body (whole i ∷ locals)) (λ i. same_value body (whole i ∷ locals) outer.1) gather (count_between most before (number_of (at_first to locals))) before
