-- Offers, row by row and move by move.
use Rattle.std.proofs.Common.{◌≡◌, ℕ, ◌+◌, ◌<◌, Bool, true, false, if◌then◌else◌, List, [], ◌∷◌, ◌++◌, length, get_or, drop, map, sym, ap, ◌∙◌, append_assoc}
use Rattle.std.proofs.lemmas.List.{append-nil, drop_more, map-append}
use Rattle.std.proofs.lemmas.List.Elements.{filter-append}
use Rattle.std.specs.List.{filter, flat_map}
use Rattle.described_game.specs.Moves.{allowed}
use Rattle.described_game.specs.Offers.{is_among, kept_rows, move_offers, offers_from, with_arguments}
use Rattle.described_game.specs.declared.parts.MoveCode.{MoveCode}
use Rattle.game_code.specs.Setting.{Setting}
use Rattle.game_sheet.specs.declared.args.Arg.{Arg}
use Rattle.game_slots.specs.declared.table.Table.{Table}

abbrev Offers : Type 0
Offers = List (ℕ × List Arg)

module _ (code : MoveCode) (id : ℕ) (s : Setting) (table : Table) where
  abbrev kept : List (List Arg) → Offers
  kept rows = kept_rows code id s table rows

  kept_append : (xs ys : List (List Arg)) → kept (xs ++ ys) ≡ kept xs ++ kept ys
  kept_append xs ys =
      let test = λ (row : List Arg). allowed code (with_arguments s row) table in
      let pair : List Arg → ℕ × List Arg = λ row. (id, row) in
      ap (map pair) (filter-append test xs ys) ∙ map-append pair (filter test xs) (filter test ys)

  -- the rows of one number more are offered
  pub rows_more : (f : ℕ → List (List Arg)) (offers more start : Offers) (numbers : List ℕ) (i n : ℕ) → i < length numbers → n ≡ get_or numbers i n → more ≡ offers ++ kept (f n)
      → offers ++ kept (flat_map f (drop i numbers)) ≡ start → more ++ kept (flat_map f (drop (i + 1) numbers)) ≡ start
  rows_more f offers more start numbers i n below here is known =
      let rest = flat_map f (drop (i + 1) numbers) in
      let first : drop i numbers ≡ n ∷ drop (i + 1) numbers = drop_more numbers i n below ∙ ap (λ k. k ∷ drop (i + 1) numbers) (sym here) in
      ap (λ (os : Offers). os ++ kept rest) is ∙ append_assoc offers (kept (f n)) (kept rest) ∙ ap (λ (os : Offers). offers ++ os) (sym (kept_append (f n) rest))
      ∙ ap (λ (ns : List ℕ). offers ++ kept (flat_map f ns)) (sym first) ∙ known

module _ (ids : List ℕ) (s : Setting) (table : Table) where
  abbrev from : ℕ → List MoveCode → Offers
  from id codes = offers_from ids s table id codes

  -- what is offered of one move
  abbrev one : Bool → MoveCode → ℕ → Offers
  one has code id = if has then move_offers code id s table else []

  -- the offers of one move more
  pub moves_more : (offers more start : Offers) (codes : List MoveCode) (i : ℕ) (code : MoveCode) → i < length codes → code ≡ get_or codes i code → more ≡ offers ++ one (is_among ids i) code i
      → offers ++ from i (drop i codes) ≡ start → more ++ from (i + 1) (drop (i + 1) codes) ≡ start
  moves_more offers more start codes i code below here is known =
      let rest = from (i + 1) (drop (i + 1) codes) in
      let first : drop i codes ≡ code ∷ drop (i + 1) codes = drop_more codes i code below ∙ ap (λ (c : MoveCode). c ∷ drop (i + 1) codes) (sym here) in
      ap (λ (os : Offers). os ++ rest) is ∙ append_assoc offers (one (is_among ids i) code i) rest
      ∙ ap (λ (cs : List MoveCode). offers ++ from i cs) (sym first) ∙ known

  -- a move that the seat has is offered
  pub has_one : (offers more : Offers) (has : Bool) (code : MoveCode) (i : ℕ) → has ≡ is_among ids i → has ≡ true → more ≡ offers ++ move_offers code i s table → more ≡ offers ++ one (is_among ids i) code i
  has_one offers more has code i is does made = made ∙ sym (ap (λ (b : Bool). offers ++ one b code i) (sym is ∙ does))

  pub has_none : (offers : Offers) (has : Bool) (code : MoveCode) (i : ℕ) → has ≡ is_among ids i → has ≡ false → offers ≡ offers ++ one (is_among ids i) code i
  has_none offers has code i is isnt = sym (ap (λ (b : Bool). offers ++ one b code i) (sym is ∙ isnt) ∙ append-nil offers)
