-- The rows of active players, seat by seat, and that an object names no more seats than it has members.
use Rattle.std.proofs.Common.{◌≡◌, ℕ, zero, suc, ◌+◌, ◌-◌, ◌<◌, ◌≤◌, List, [], ◌∷◌, ◌++◌, length, ◌==◌, Bool, true, false, cond, Option, Some, None, option_map, Ordering, Less, Equal, Greater, is_some, bytes_eq, refl, sym, ap, ◌∙◌, subst, arith}
use Rattle.std.proofs.lemmas.Bool.{eq-eqb}
use Rattle.std.proofs.lemmas.Fmt.{decimal_is_IsNumeral}
use Rattle.std.proofs.lemmas.List.{append-nil, append_assoc}
use Rattle.std.proofs.lemmas.Slice.Eq.{bytes_eq-Decides}
use Rattle.std.specs.Ordering.{match_ordering}
use Rattle.std.specs.Prelude.{decimal}
use Rattle.std.specs.Str.Parse.{digits_value}
use Rattle.serde_json.specs.Data.{Data, null, boolean, number, string, array, object, Members, no_members, member}
use Rattle.serde_json.specs.Events.{members_len}
use Rattle.serde_json.specs.Find.{get, get_member, as_object}
use Rattle.serde_json.specs.View.{members_view}
use Rattle.serde_json.proofs.Views.{Entry, members_len-members_view}
use Rattle.game_sheet.specs.SheetNames.{stage_of}
use Rattle.game_sheet.specs.declared.sheet.Sheet.{Sheet}
use Rattle.json_tree.proofs.Canonicals.{order}
use Rattle.json_tree.proofs.Rows.{name_is}
use Rattle.sight_reading.specs.CtxReading.{Rows, seat_stage, before_rows, rows_among, as_many}
use Rattle.sight_reading.specs.Reading.{id_or_null}
use Rattle.sight_reading.specs.declared.ctx_read.SeatStage.{SeatStage}
use Rattle.sight_reading.specs.declared.ctx_read.SeatStage.TheVariants.{Absent, Malformed, Active}
use Rattle.std.specs.Option.{option_map_or}

pub decimals_apart : (a b : ℕ) → a ≤ 255 → b ≤ 255 → (a ≡ b → ⊥) → decimal a ≡ decimal b → ⊥
decimals_apart a b p q apart e =
    let one = decimal_is_IsNumeral a (omega (arith, p)) in
    let two = decimal_is_IsNumeral b (omega (arith, q)) in
    apart (sym one.1 ∙ ap (digits_value 10) e ∙ two.1)

-- ---- how many seats an object names

pub one_if : Bool → ℕ → ℕ
one_if true n = suc n
one_if false n = n

-- of n seats from one on
pub named : Data → ℕ → ℕ → ℕ
named d seat zero = 0
named d seat (suc n) = one_if (is_some (get (decimal seat) d)) (named d (seat + 1) n)

named_none : (seat n : ℕ) → named (object no_members) seat n ≡ 0
unfolding named one_if
named_none seat zero = refl
named_none seat (suc n) = named_none (seat + 1) n

passes : (o : Ordering) (q k : List ℕ) (d : Data) (rest : Option Data) → order q k ≡ o → (q ≡ k → ⊥) → match_ordering o rest (Some d) rest ≡ rest
passes Less q k d rest is apart = refl
passes Equal q k d rest is apart = absurd (apart (name_is q k is))
passes Greater q k d rest is apart = refl

skips : (q k : List ℕ) (d : Data) (ms : Members) → (q ≡ k → ⊥) → get_member q (member k d ms) ≡ get_member q ms
skips q k d ms apart = passes (order q k) q k d (get_member q ms) refl apart

-- a member of another name names none of the seats
named_skips : (k : List ℕ) (d : Data) (ms : Members) (seat n : ℕ) → ((s : ℕ) → seat ≤ s → s < seat + n → decimal s ≡ k → ⊥) → named (object (member k d ms)) seat n ≡ named (object ms) seat n
unfolding named one_if
named_skips k d ms seat zero apart = refl
named_skips k d ms seat (suc n) apart =
    rw (skips (decimal seat) k d ms (apart seat (omega arith) (omega arith)), named_skips k d ms (seat + 1) n (λ s low high. apart s (omega (arith, low)) (omega (arith, high)))) refl

this_one : (b c : Bool) (n m : ℕ) → n ≡ m → one_if b n ≤ suc (one_if c m)
unfolding one_if
this_one true true n m e = omega (arith, e)
this_one true false n m e = omega (arith, e)
this_one false true n m e = omega (arith, e)
this_one false false n m e = omega (arith, e)

more_later : (b : Bool) (n m : ℕ) → n ≤ suc m → one_if b n ≤ suc (one_if b m)
unfolding one_if
more_later true n m h = omega (arith, h)
more_later false n m h = omega (arith, h)

-- a further member names one seat more at most
named_more : (k : List ℕ) (d : Data) (ms : Members) (seat n : ℕ) → seat + n ≤ 256 → named (object (member k d ms)) seat n ≤ suc (named (object ms) seat n)
unfolding named
named_more k d ms seat zero h = omega arith
named_more k d ms seat (suc n) h = by_name (bytes_eq (decimal seat) k) refl (named_more k d ms (seat + 1) n (omega (arith, h)))
  where
    by_name : (b : Bool) → bytes_eq (decimal seat) k ≡ b → named (object (member k d ms)) (seat + 1) n ≤ suc (named (object ms) (seat + 1) n)
        → one_if (is_some (get_member (decimal seat) (member k d ms))) (named (object (member k d ms)) (seat + 1) n) ≤ suc (one_if (is_some (get_member (decimal seat) ms)) (named (object ms) (seat + 1) n))
    by_name true e later =
        let here : decimal seat ≡ k = (bytes_eq-Decides (decimal seat) k).0 e in
        this_one _ _ _ _ (named_skips k d ms (seat + 1) n (λ s low high same. decimals_apart s seat (omega (arith, high, h)) (omega (arith, h)) (λ at. omega (arith, low, at)) (same ∙ sym here)))
    by_name false e later =
        let apart : decimal seat ≡ k → ⊥ = λ same. let yes = (bytes_eq-Decides (decimal seat) k).1 same in absurd (cc (yes, e)) in
        subst (λ o. one_if (is_some o) (named (object (member k d ms)) (seat + 1) n) ≤ suc (one_if (is_some (get_member (decimal seat) ms)) (named (object ms) (seat + 1) n)))
        (sym (skips (decimal seat) k d ms apart)) (more_later (is_some (get_member (decimal seat) ms)) _ _ later)

few_named : (ms : Members) (seat n : ℕ) → seat + n ≤ 256 → named (object ms) seat n ≤ members_len ms
few_named no_members seat n h = let none = named_none seat n in omega (arith, none)
few_named (member k d ms) seat n h = let one = named_more k d ms seat n h in let rest = few_named ms seat n h in omega (arith, one, rest)

-- ---- the rows

no_rows : (sheet : Sheet) (d : Data) (seat n : ℕ) → named d seat n ≡ 0 → rows_among sheet d seat n ≡ Some []
unfolding rows_among named one_if
no_rows sheet d seat zero h = refl
no_rows sheet d seat (suc n) h = at_seat (get (decimal seat) d) h (λ e. no_rows sheet d (seat + 1) n e)
  where
    at_seat : (o : Option Data) → one_if (is_some o) (named d (seat + 1) n) ≡ 0 → (named d (seat + 1) n ≡ 0 → rows_among sheet d (seat + 1) n ≡ Some [])
        → before_rows seat (seat_stage sheet o) (rows_among sheet d (seat + 1) n) ≡ Some []
    at_seat None e later = later e
    at_seat (Some x) e later = absurd (omega (arith, e))

-- the rows so far and those to come are all, and so are the seats that are named
pub record AreAll (sheet : Sheet) (d : Data) (rows : Rows) (seat : ℕ) : Type 0 where
  pub whole : option_map (λ more. rows ++ more) (rows_among sheet d seat (256 - seat)) ≡ rows_among sheet d 0 256
  pub seats : length rows + named d seat (256 - seat) ≡ named d 0 256

next_rows : (sheet : Sheet) (d : Data) (seat : ℕ) → seat < 256 → rows_among sheet d seat (256 - seat) ≡ before_rows seat (seat_stage sheet (get (decimal seat) d)) (rows_among sheet d (seat + 1) (256 - (seat + 1)))
unfolding rows_among
next_rows sheet d seat h = let e : 256 - seat ≡ suc (256 - (seat + 1)) = omega arith in rw e refl

next_named : (d : Data) (seat : ℕ) → seat < 256 → named d seat (256 - seat) ≡ one_if (is_some (get (decimal seat) d)) (named d (seat + 1) (256 - (seat + 1)))
unfolding named
next_named d seat h = let e : 256 - seat ≡ suc (256 - (seat + 1)) = omega arith in rw e refl

absent_is : (sheet : Sheet) (o : Option Data) → seat_stage sheet o ≡ Absent → o ≡ None
absent_is sheet None e = refl
absent_is sheet (Some d) e = wrong (id_or_null (stage_of sheet) d) e
  where
    wrong : (o : Option (Option ℕ)) → option_map_or Active o Malformed ≡ Absent → Some d ≡ None
    wrong None e = absurd (cc (e))
    wrong (Some stage) e = absurd (cc (e))

there_is : (sheet : Sheet) (o : Option Data) (stage : Option ℕ) → seat_stage sheet o ≡ Active stage → is_some o ≡ true
there_is sheet None stage e = absurd (cc (e))
there_is sheet (Some d) stage e = refl

-- a seat that the object doesn't name
pub passed_by : (sheet : Sheet) (d : Data) (rows : Rows) (seat : ℕ) (stage : SeatStage) → seat < 256 → stage ≡ seat_stage sheet (get (decimal seat) d) → stage ≡ Absent → AreAll sheet d rows seat → AreAll sheet d rows (seat + 1)
unfolding one_if
passed_by sheet d rows seat stage less is none all =
    let nothing : get (decimal seat) d ≡ None = absent_is sheet (get (decimal seat) d) (sym is ∙ none) in
    let later : rows_among sheet d seat (256 - seat) ≡ rows_among sheet d (seat + 1) (256 - (seat + 1)) = next_rows sheet d seat less ∙ rw nothing refl in
    let fewer : named d seat (256 - seat) ≡ named d (seat + 1) (256 - (seat + 1)) = next_named d seat less ∙ rw nothing refl in
    record { whole = ap (option_map (λ more. rows ++ more)) (sym later) ∙ all.whole; seats = ap (λ n. length rows + n) (sym fewer) ∙ all.seats }

-- a seat whose stage is in no form
pub malformed : (sheet : Sheet) (d : Data) (rows : Rows) (seat count : ℕ) (stage : SeatStage) → seat < 256 → stage ≡ seat_stage sheet (get (decimal seat) d) → stage ≡ Malformed → AreAll sheet d rows seat
    → None ≡ as_many count (rows_among sheet d 0 256)
malformed sheet d rows seat count stage less is wrong all =
    let here : rows_among sheet d seat (256 - seat) ≡ None = next_rows sheet d seat less ∙ ap (λ s. before_rows seat s (rows_among sheet d (seat + 1) (256 - (seat + 1)))) (sym is ∙ wrong) in
    let none : rows_among sheet d 0 256 ≡ None = sym all.whole ∙ ap (option_map (λ more. rows ++ more)) here in
    sym (ap (as_many count) none)

one_longer : (rows : Rows) (row : ℕ × Option ℕ) → length (rows ++ row ∷ []) ≡ suc (length rows)
one_longer [] row = refl
one_longer (first ∷ rows) row = ap suc (one_longer rows row)

-- a seat with its stage
pub seat_found : (sheet : Sheet) (d : Data) (rows : Rows) (seat : ℕ) (stage : SeatStage) (at : Option ℕ) → seat < 256 → stage ≡ seat_stage sheet (get (decimal seat) d) → stage ≡ Active at → AreAll sheet d rows seat → AreAll sheet d (rows ++ (seat, at) ∷ []) (seat + 1)
unfolding one_if
seat_found sheet d rows seat stage at less is found all =
    let here : rows_among sheet d seat (256 - seat) ≡ option_map (λ rs. (seat, at) ∷ rs) (rows_among sheet d (seat + 1) (256 - (seat + 1))) = next_rows sheet d seat less ∙ ap (λ s. before_rows seat s (rows_among sheet d (seat + 1) (256 - (seat + 1)))) (sym is ∙ found) in
    let some = there_is sheet (get (decimal seat) d) at (sym is ∙ found) in
    let more : named d seat (256 - seat) ≡ suc (named d (seat + 1) (256 - (seat + 1))) = next_named d seat less ∙ rw some refl in
    let sum = all.seats in
    let longer = one_longer rows (seat, at) in
    record {
      whole = behind (rows_among sheet d (seat + 1) (256 - (seat + 1))) ∙ ap (option_map (λ rest. rows ++ rest)) (sym here) ∙ all.whole;
      seats = omega (arith, sum, more, longer);
    }
  where
    behind : (o : Option Rows) → option_map (λ rest. (rows ++ (seat, at) ∷ []) ++ rest) o ≡ option_map (λ rest. rows ++ rest) (option_map (λ rs. (seat, at) ∷ rs) o)
    behind None = refl
    behind (Some rest) = ap (λ x. Some x) (append_assoc rows ((seat, at) ∷ []) rest)

all_are : (sheet : Sheet) (d : Data) (rows : Rows) (seat : ℕ) → named d seat (256 - seat) ≡ 0 → AreAll sheet d rows seat → rows_among sheet d 0 256 ≡ Some rows
all_are sheet d rows seat none all = sym all.whole ∙ ap (option_map (λ more. rows ++ more)) (no_rows sheet d seat (256 - seat) none) ∙ ap (λ x. Some x) (append-nil rows)

is_object : (d : Data) (ms : Members) → as_object d ≡ Some ms → d ≡ object ms
is_object null ms e = absurd (cc)
is_object (boolean b) ms e = absurd (cc)
is_object (number n) ms e = absurd (cc)
is_object (string s) ms e = absurd (cc)
is_object (array ds) ms e = absurd (cc)
is_object (object es) ms e = let same : es ≡ ms = cc in ap object same

-- as many rows as members: these are all
pub all_found : (sheet : Sheet) (d : Data) (es : List Entry) (rows : Rows) (seat : ℕ) → as_object d ≡ Some (members_view es) → seat ≤ 256 → length rows ≡ length es → AreAll sheet d rows seat
    → Some rows ≡ as_many (members_len (members_view es)) (rows_among sheet d 0 256)
all_found sheet d es rows seat is high full all =
    let count = members_len-members_view es in
    let most : named d 0 256 ≤ members_len (members_view es) = subst (λ x. named x 0 256 ≤ members_len (members_view es)) (sym (is_object d (members_view es) is)) (few_named (members_view es) 0 256 (omega arith)) in
    let sum = all.seats in
    let none : named d seat (256 - seat) ≡ 0 = omega (arith, most, sum, full, count) in
    sym (rw (all_are sheet d rows seat none all, eq-eqb (length rows) (members_len (members_view es)) (full ∙ sym count)) refl)

-- no seat is left
pub at_end : (sheet : Sheet) (d : Data) (es : List Entry) (rows : Rows) (seat : ℕ) → 256 ≤ seat → AreAll sheet d rows seat
    → cond (length rows == length es) (Some rows) None ≡ as_many (members_len (members_view es)) (rows_among sheet d 0 256)
unfolding named
at_end sheet d es rows seat done all =
    let zero_left : 256 - seat ≡ 0 = omega arith in
    let none : named d seat (256 - seat) ≡ 0 = rw zero_left refl in
    sym (rw (all_are sheet d rows seat none all, members_len-members_view es) refl)
