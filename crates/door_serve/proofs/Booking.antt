-- Rooms that stand for histories, and their numbers.
use Rattle.std.proofs.Common.{◌≡◌, ◌<◌, ◌+◌, ◌-◌, ℕ, suc, zero, List, [], ◌∷◌, ◌++◌, Bool, true, false, map, take, drop, refl, sym, ap, ◌∙◌, subst, arith, slice_index_or, length, length-append}
use Rattle.std.specs.Prelude.{Option, None, Some, if◌then◌else◌, is_some, not}
use Rattle.std.proofs.lemmas.List.{append_assoc, length-drop, length-map, map-append, take_all}
use Rattle.any_game.specs.AnyRules.{any_rules}
use Rattle.hosted_room.specs.Calls.{IsRowOf}
use Rattle.room_history.specs.Room.{number, serials}
use Rattle.session_pool.specs.Rooms.{numbers}
use Rattle.door_serve.specs.Report.{line_text, room_text, row_text}
use Rattle.door_serve.specs.Rooms.{Calls, Hosted, Numbered, Stand, row_of, rows_of}

-- numbers from one on begin with it
numbers_first : (k n : ℕ) → numbers k (suc n) ≡ k ∷ numbers (k + 1) n
numbers_first k zero = let e : k + 0 ≡ k = omega arith in ap (λ m. m ∷ []) e
numbers_first k (suc n) =
    let e : k + suc n ≡ k + 1 + n = omega arith in
    ap (λ l. l ++ (k + suc n) ∷ []) (numbers_first k n) ∙ ap (λ m. k ∷ (numbers (k + 1) n ++ m ∷ [])) e

abbrev tail_of : List ℕ → List ℕ
tail_of [] = []
tail_of (x ∷ xs) = xs

-- rooms have so many numbers
as_many_numbers : (k n : ℕ) → length (numbers k n) ≡ n
as_many_numbers k zero = refl
as_many_numbers k (suc n) = let m = as_many_numbers k n in let l = length-append (numbers k n) ((k + n) ∷ []) in omega (arith, m, l)

abbrev said : Bool → Calls → Option Calls
said stopped h = if stopped then None else Some h

-- a row says what the calls of a room came to, or that the room has stopped
says_row : (room k : ℕ) (stopped : Bool) (h : Calls) (row : Option (ℕ × Option ℕ)) → room ≡ k → is_some row ≡ not stopped → IsRowOf any_rules room h row
    → line_text k row ≡ room_text k (said stopped h)
says_row room k true h None at stops is = refl
says_row room k true h (Some row) at stops is = cc stops
says_row room k false h None at stops is = cc stops
says_row room k false h (Some row) at stops is =
    ap (λ n. row_text k n row.1) is.0 ∙ (ap (λ n. row_text k (serials any_rules room h) n) is.1
    ∙ ap (λ r. row_text k (serials any_rules r h) (number any_rules r h)) at)

module _ {B : Type 0} where
  -- rooms with such numbers are numbered so
  pub numbered : (number : B → ℕ) (rooms : List B) (k n : ℕ) → map number rooms ≡ numbers k n → Numbered number k rooms
  numbered number [] k n e = tt
  numbered number (room ∷ rooms) k zero e = let l = ap length e in absurd (omega (arith, l))
  numbered number (room ∷ rooms) k (suc n) e =
      let is = e ∙ numbers_first k n in
      (ap (λ l. slice_index_or l 0 k) is, numbered number rooms (k + 1) n (ap tail_of is))

  pub as_many_rooms : (number : B → ℕ) (rooms : List B) (k n : ℕ) → map number rooms ≡ numbers k n → length rooms ≡ n
  as_many_rooms number rooms k n e =
      let l = ap length e in let m = as_many_numbers k n in let r = length-map rooms number in omega (arith, l, m, r)

  pub rest_of : (rooms : List B) → take (length rooms - 1) (drop 1 rooms) ≡ drop 1 rooms
  rest_of rooms = take_all (length rooms - 1) (drop 1 rooms) (omega (arith, length-drop 1 rooms))

  -- the first of rooms, its history, and the rest
  pub first_of : (known : Hosted B) (rooms rest : List B) (room : B) (k : ℕ) (histories : List Calls) → 0 < length rooms → room ≡ slice_index_or rooms 0 room → rest ≡ drop 1 rooms
      → Stand known.stands_for rooms histories → Numbered known.number k rooms
      → (h : Calls) × (more : List Calls) × (rows_of known rooms histories ≡ row_of known room h ∷ rows_of known rest more) × known.stands_for room h × (known.number room ≡ k)
      × Stand known.stands_for rest more × Numbered known.number (k + 1) rest
  first_of known [] rest room k histories some is others s n = absurd (omega arith)
  first_of known (b ∷ rooms) rest room k [] some is others s n = absurd s
  first_of known (b ∷ rooms) rest room k (h ∷ more) some is others s n = (
    h,
    more,
    ap (λ x. row_of known x h ∷ rows_of known rooms more) (sym is) ∙ ap (λ bs. row_of known room h ∷ rows_of known bs more) (sym others),
    subst (λ x. known.stands_for x h) (sym is) s.0,
    ap known.number is ∙ n.0,
    subst (λ bs. Stand known.stands_for bs more) (sym others) s.1,
    subst (Numbered known.number (k + 1)) (sym others) n.1,
  )

  -- a room's line is that of its row
  pub line_of_room : (known : Hosted B) (room : B) (h : Calls) (k : ℕ) (row : Option (ℕ × Option ℕ)) → known.number room ≡ k → is_some row ≡ not (known.has_stopped room)
      → IsRowOf any_rules (known.number room) h row → line_text k row ≡ room_text k (row_of known room h)
  line_of_room known room h k row at stops is = says_row (known.number room) k (known.has_stopped room) h row at stops is

  -- the rooms are numbered on by the last desk's
  pub numbers_on : {D : Type 0} (number : B → ℕ) (object : D → ℕ) (old between after : List B) (desks left : List D) (d : D) (room : B) → desks ≡ left ++ d ∷ []
      → map number between ≡ map number old ++ map object left → after ≡ between ++ room ∷ [] → number room ≡ object d
      → map number after ≡ map number old ++ map object desks
  numbers_on number object old between after desks left d room e is push at =
      ap (map number) push ∙ (map-append number between (room ∷ []) ∙ (ap (λ l. l ++ number room ∷ []) is ∙ (append_assoc (map number old) (map object left) (number room ∷ [])
      ∙ ap (λ l. map number old ++ l) (ap (λ r. map object left ++ r ∷ []) at ∙ (sym (map-append object left (d ∷ [])) ∙ ap (map object) (sym e))))))

  -- as many rooms were added as desks were closed
  pub as_many_more : {D : Type 0} (number : B → ℕ) (object : D → ℕ) (old between : List B) (left : List D) → map number between ≡ map number old ++ map object left
      → length between ≡ length old + length left
  as_many_more number object old between left is =
      let e = ap length is in let a = length-map between number in let b = length-map old number in let c = length-map left object in let d = length-append (map number old) (map object left) in
      omega (arith, e, a, b, c, d)
