-- The rows of active players read back from the object that shows them.
use Rattle.std.proofs.Common.{◌≡◌, ℕ, zero, suc, ◌+◌, ◌<◌, ◌≤◌, List, [], ◌∷◌, length, fold, cond, ◌==◌, ◌⊎◌, inl, inr, Option, Some, None, option_map, Ordering, Less, Equal, Greater, refl, sym, ap, ◌∙◌, subst, arith}
use Rattle.std.proofs.lemmas.Bool.{eq-eqb, ne_eqb}
use Rattle.std.specs.Prelude.{decimal}
use Rattle.std.specs.Ordering.{nat_cmp, match_ordering}
use Rattle.std.specs.Cmp.Lexicographic.{slice_cmp}
use Rattle.serde_json.specs.Data.{Data, object, Members, no_members, member, put}
use Rattle.serde_json.specs.Events.{members_len}
use Rattle.serde_json.specs.Find.{get_member}
use Rattle.serde_json.proofs.Views.{get_member-put, get_member-put_other}
use Rattle.game_sheet.specs.SheetFits.{SheetFits}
use Rattle.game_sheet.specs.declared.sheet.Sheet.{Sheet}
use Rattle.game_sheet.specs.declared.sheet.StageRow.{StageRow}
use Rattle.player_sight.specs.CtxData.{with_row, rows_members, active_data}
use Rattle.sight_reading.specs.CtxReading.{Rows, seat_stage, before_rows, rows_among, as_many, active_from}
use Rattle.sight_reading.specs.declared.ctx_read.SeatStage.TheVariants.{Active, Malformed}
use Rattle.sight_reading.proofs.ActiveRows.{decimals_apart}
use Rattle.player_sight.specs.Parts.{stage_or_null}
use Rattle.player_sight.specs.Plain.{IsIn, RowsFit, ActiveFits}
use Rattle.sight_reading.proofs.PartLaws.{id_again}
use Rattle.std.specs.Option.{option_map_or}

-- the stage of a seat, where it has a row
abbrev row_of : ℕ → Rows → Option (Option ℕ)
row_of seat [] = None
row_of seat (row ∷ rows) = cond (row.0 == seat) (Some row.1) (row_of seat rows)

low_rows : (sheet : Sheet) (low seat : ℕ) (rows : Rows) → RowsFit sheet low rows → seat < low → row_of seat rows ≡ None
low_rows sheet low seat [] h less = refl
low_rows sheet low seat (row ∷ rows) h less =
    let apart : row.0 ≡ seat → ⊥ = λ e. omega (arith, h.0, e, less) in
    let more : seat < row.0 + 1 = omega (arith, h.0, less) in
    rw (ne_eqb row.0 seat apart) (low_rows sheet (row.0 + 1) seat rows h.3 more)

-- an object shows the rows, from a seat on
abbrev Shows : Sheet → Members → ℕ → Rows → Type 0
Shows sheet ms low rows = (seat : ℕ) → low ≤ seat → seat ≤ 255 → get_member (decimal seat) ms ≡ option_map (stage_or_null sheet) (row_of seat rows)

stage_again : (sheet : Sheet) (o : Option ℕ) → SheetFits sheet → IsIn (length sheet.stages) o → seat_stage sheet (Some (stage_or_null sheet o)) ≡ Active o
stage_again sheet None fit h = refl
stage_again sheet (Some id) fit h = ap (λ o. option_map_or Active o Malformed) (id_again (λ (row : StageRow). row.name) sheet.stages (Some id) fit.stage_names h)

abbrev Scans : Sheet → Members → ℕ → Type 0
Scans sheet ms n = (rows : Rows) (seat : ℕ) → RowsFit sheet seat rows → seat + n ≡ 256 → Shows sheet ms seat rows → rows_among sheet (object ms) seat n ≡ Some rows

here : (sheet : Sheet) (ms : Members) (n : ℕ) (rows : Rows) (row : ℕ × Option ℕ) (seat : ℕ) → SheetFits sheet → Scans sheet ms n → seat ≡ row.0 → RowsFit sheet seat (row ∷ rows) → seat + suc n ≡ 256
    → Shows sheet ms seat (row ∷ rows) → rows_among sheet (object ms) seat (suc n) ≡ Some (row ∷ rows)
unfolding rows_among
here sheet ms n rows row seat fit later same h end shows =
    let it : get_member (decimal seat) ms ≡ Some (stage_or_null sheet row.1) = shows seat (omega arith) (omega (arith, h.1, same)) ∙ rw (eq-eqb row.0 seat (sym same)) refl in
    let rise : RowsFit sheet (seat + 1) rows = subst (λ s. RowsFit sheet (s + 1) rows) (sym same) h.3 in
    let others : Shows sheet ms (seat + 1) rows = λ s low high. shows s (omega (arith, low)) high ∙ (let apart : row.0 ≡ s → ⊥ = λ e. omega (arith, low, e, same) in rw (ne_eqb row.0 s apart) refl) in
    let ends : (seat + 1) + n ≡ 256 = omega (arith, end) in
    let pair : (seat, row.1) ≡ row = ap (λ s. (s, row.1)) same in
    ap (λ o. before_rows seat (seat_stage sheet o) (rows_among sheet (object ms) (seat + 1) n)) it
    ∙ ap (λ s. before_rows seat s (rows_among sheet (object ms) (seat + 1) n)) (stage_again sheet row.1 fit h.2)
    ∙ ap (option_map (λ rs. (seat, row.1) ∷ rs)) (later rows (seat + 1) rise ends others) ∙ ap (λ r. Some (r ∷ rows)) pair

beyond : (sheet : Sheet) (ms : Members) (n : ℕ) (rows : Rows) (seat : ℕ) → Scans sheet ms n → RowsFit sheet (seat + 1) rows → seat + suc n ≡ 256
    → Shows sheet ms seat rows → rows_among sheet (object ms) seat (suc n) ≡ Some rows
unfolding rows_among
beyond sheet ms n rows seat later rise end shows =
    let none : row_of seat rows ≡ None = low_rows sheet (seat + 1) seat rows rise (omega arith) in
    let it : get_member (decimal seat) ms ≡ None = shows seat (omega arith) (omega (arith, end)) ∙ ap (option_map (stage_or_null sheet)) none in
    let others : Shows sheet ms (seat + 1) rows = λ s low high. shows s (omega (arith, low)) high in
    let ends : (seat + 1) + n ≡ 256 = omega (arith, end) in
    ap (λ o. before_rows seat (seat_stage sheet o) (rows_among sheet (object ms) (seat + 1) n)) it ∙ later rows (seat + 1) rise ends others

lower : (a b : ℕ) → a ≤ b → (a ≡ b) ⊎ (a < b)
lower zero zero h = inl refl
lower zero (suc b) h = inr (omega arith)
lower (suc a) zero h = absurd (omega (arith, h))
lower (suc a) (suc b) h = elim (lower a b (omega (arith, h))) [ inl e ↦ inl (ap suc e) | inr l ↦ inr (omega (arith, l)) ]

scan : (sheet : Sheet) (ms : Members) (n : ℕ) → SheetFits sheet → Scans sheet ms n
unfolding rows_among
scan sheet ms zero fit [] seat h end shows = refl
scan sheet ms zero fit (row ∷ rows) seat h end shows = absurd (omega (arith, h.0, h.1, end))
scan sheet ms (suc n) fit [] seat h end shows = beyond sheet ms n [] seat (scan sheet ms n fit) tt end shows
scan sheet ms (suc n) fit (row ∷ rows) seat h end shows = elim (lower seat row.0 h.0) [
  | inl same ↦ here sheet ms n rows row seat fit (scan sheet ms n fit) same h end shows
  | inr less ↦ beyond sheet ms n (row ∷ rows) seat (scan sheet ms n fit) (omega (arith, less), h.1, h.2, h.3) end shows
]

-- ---- the object that shows rows

or_before : Option (Option ℕ) → Sheet → Option Data → Option Data
or_before None sheet o = o
or_before (Some stage) sheet o = Some (stage_or_null sheet stage)

same_or_not : (a b : ℕ) → (a ≡ b) ⊎ (a ≡ b → ⊥)
same_or_not zero zero = inl refl
same_or_not zero (suc b) = inr (λ e. omega (arith, e))
same_or_not (suc a) zero = inr (λ e. omega (arith, e))
same_or_not (suc a) (suc b) = elim (same_or_not a b) [ inl e ↦ inl (ap suc e) | inr n ↦ inr (λ e. n (omega (arith, e))) ]

seen : (sheet : Sheet) (low : ℕ) (rows : Rows) (ms : Members) (seat : ℕ) → RowsFit sheet low rows → seat ≤ 255
    → get_member (decimal seat) (fold (with_row sheet) ms rows) ≡ or_before (row_of seat rows) sheet (get_member (decimal seat) ms)
unfolding or_before
seen sheet low [] ms seat h high = refl
seen sheet low (row ∷ rows) ms seat h high = elim (same_or_not row.0 seat) [
  | inl same ↦
      let none : row_of seat rows ≡ None = low_rows sheet (row.0 + 1) seat rows h.3 (omega (arith, same)) in
      let put_here : get_member (decimal seat) (put (decimal row.0) (stage_or_null sheet row.1) ms) ≡ Some (stage_or_null sheet row.1) = ap (λ s. get_member (decimal s) (put (decimal row.0) (stage_or_null sheet row.1) ms)) (sym same) ∙ get_member-put (decimal row.0) (stage_or_null sheet row.1) ms in
      seen sheet (row.0 + 1) rows (with_row sheet ms row) seat h.3 high ∙ rw (none, eq-eqb row.0 seat same) put_here
  | inr apart ↦
      let other = get_member-put_other (decimal seat) (decimal row.0) (stage_or_null sheet row.1) ms (decimals_apart seat row.0 high h.1 (λ e. apart (sym e))) in
      seen sheet (row.0 + 1) rows (with_row sheet ms row) seat h.3 high ∙ ap (or_before (row_of seat rows) sheet) other ∙ rw (ne_eqb row.0 seat apart) refl
]

shows_all : (sheet : Sheet) (rows : Rows) → RowsFit sheet 0 rows → Shows sheet (rows_members sheet rows) 0 rows
unfolding or_before
shows_all sheet rows h seat low high = seen sheet 0 rows no_members seat h high ∙ last (row_of seat rows)
  where
    last : (o : Option (Option ℕ)) → or_before o sheet None ≡ option_map (stage_or_null sheet) o
    last None = refl
    last (Some stage) = refl

longer_at : (o : Ordering) (k l : List ℕ) (d e : Data) (ms : Members) → match_ordering o (get_member k ms) (Some e) (get_member k ms) ≡ None → (get_member k ms ≡ None → members_len (put k d ms) ≡ suc (members_len ms))
    → members_len (match_ordering o (member k d (member l e ms)) (member l d ms) (member l e (put k d ms))) ≡ suc (suc (members_len ms))
longer_at Less k l d e ms h later = refl
longer_at Equal k l d e ms h later = absurd (cc)
longer_at Greater k l d e ms h later = ap suc (later h)

longer : (k : List ℕ) (d : Data) (ms : Members) → get_member k ms ≡ None → members_len (put k d ms) ≡ suc (members_len ms)
longer k d no_members h = refl
longer k d (member l e ms) h = longer_at (slice_cmp nat_cmp k l) k l d e ms h (longer k d ms)

pub counted : (sheet : Sheet) (low : ℕ) (rows : Rows) (ms : Members) → RowsFit sheet low rows → ((seat : ℕ) → low ≤ seat → seat ≤ 255 → get_member (decimal seat) ms ≡ None) → members_len (fold (with_row sheet) ms rows) ≡ members_len ms + length rows
counted sheet low [] ms h none = omega arith
counted sheet low (row ∷ rows) ms h none =
    let one = longer (decimal row.0) (stage_or_null sheet row.1) ms (none row.0 h.0 h.1) in
    let others : (seat : ℕ) → row.0 + 1 ≤ seat → seat ≤ 255 → get_member (decimal seat) (with_row sheet ms row) ≡ None = λ seat above high.
    get_member-put_other (decimal seat) (decimal row.0) (stage_or_null sheet row.1) ms (decimals_apart seat row.0 high h.1 (λ e. omega (arith, above, e))) ∙ none seat (omega (arith, above, h.0)) high in
    let rest = counted sheet (row.0 + 1) rows (with_row sheet ms row) h.3 others in
    rest ∙ omega (arith, one)

-- rows that rise read back
pub rows_again : (sheet : Sheet) (rows : Rows) → SheetFits sheet → RowsFit sheet 0 rows
    → as_many (members_len (rows_members sheet rows)) (rows_among sheet (object (rows_members sheet rows)) 0 256) ≡ Some rows
rows_again sheet rows fit h =
    let many : length rows ≡ members_len (rows_members sheet rows) = let all = counted sheet 0 rows no_members h (λ seat low high. refl) in omega (arith, all) in
    rw (scan sheet (rows_members sheet rows) 256 fit rows 0 h (omega arith) (shows_all sheet rows h), eq-eqb (length rows) (members_len (rows_members sheet rows)) many) refl

pub active_again : (sheet : Sheet) (active : Option Rows) → SheetFits sheet → ActiveFits sheet active → active_from sheet (active_data sheet active) ≡ Some active
active_again sheet None fit h = refl
active_again sheet (Some rows) fit h = ap (option_map (λ x. Some x)) (rows_again sheet rows fit h)
