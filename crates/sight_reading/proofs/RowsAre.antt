-- What is read as rows of active players rises by seat, and the object shows these rows and no other.
use Rattle.std.proofs.Common.{◌≡◌, ℕ, zero, suc, ◌+◌, ◌≤◌, List, [], ◌∷◌, length, fold, Bool, true, false, cond, ◌==◌, Option, Some, None, option_map, Ordering, Less, Equal, Greater, bytes_eq, refl, sym, ap, ◌∙◌, subst, arith}
use Rattle.std.proofs.lemmas.Bool.{eqb-true}
use Rattle.std.proofs.lemmas.Cmp.{nat_list_cmp_total, tied_itself}
use Rattle.std.proofs.lemmas.Slice.Eq.{bytes_eq-Decides}
use Rattle.std.specs.Prelude.{decimal, slice_get}
use Rattle.std.specs.Ordering.{match_ordering}
use Rattle.serde_json.specs.Data.{Data, null, boolean, number, string, array, object, Members, no_members, member, put}
use Rattle.serde_json.specs.Events.{members_len}
use Rattle.serde_json.specs.Find.{get_member}
use Rattle.serde_json.proofs.Views.{get_member-put, get_member-put_other}
use Rattle.json_tree.specs.Canonical.{AreAbove, IsOrdered, IsCanonical, MembersAreCanonical}
use Rattle.json_tree.proofs.Canonicals.{order, greater, above_more, canonical_put}
use Rattle.json_tree.proofs.Rows.{name_is, ordered}
use Rattle.game_sheet.specs.declared.sheet.Sheet.{Sheet}
use Rattle.game_sheet.specs.declared.sheet.StageRow.{StageRow}
use Rattle.player_sight.specs.CtxData.{with_row, rows_members, active_data}
use Rattle.sight_reading.specs.CtxReading.{Rows, seat_stage, before_rows, rows_among, as_many, active_from}
use Rattle.player_sight.specs.Parts.{stage_or_null}
use Rattle.player_sight.specs.Plain.{IsIn, RowsFit, ActiveFits}
use Rattle.game_sheet.specs.SheetNames.{stage_of}
use Rattle.sight_reading.specs.Reading.{id_or_null}
use Rattle.sight_reading.proofs.PartLaws.{name_or_null, mapped, id_is}
use Rattle.sight_reading.proofs.RowLaws.{counted}
use Rattle.std.specs.Option.{option_map_or}
use Rattle.sight_reading.specs.declared.ctx_read.SeatStage.TheVariants.{Active, Malformed}
use Rattle.sheet_json.specs.Seats.{text_or_null}

-- ---- what the seats give

stage_same : (sheet : Sheet) (o : Option ℕ) → name_or_null (λ (row : StageRow). row.name) sheet.stages o ≡ stage_or_null sheet o
stage_same sheet None = refl
stage_same sheet (Some id) = refl

stage_is : (sheet : Sheet) (d : Data) (stage : Option ℕ) → id_or_null (stage_of sheet) d ≡ Some stage → (d ≡ stage_or_null sheet stage) × IsIn (length sheet.stages) stage
stage_is sheet d stage e = let is = id_is (λ (row : StageRow). row.name) sheet.stages d stage e in (is.0 ∙ stage_same sheet stage, is.1)

-- each row is a member of the object
abbrev AreMembers : Sheet → Members → Rows → Type 0
AreMembers sheet ms [] = Unit {0}
AreMembers sheet ms (row ∷ rows) = (get_member (decimal row.0) ms ≡ Some (stage_or_null sheet row.1)) × AreMembers sheet ms rows

looser : (sheet : Sheet) (low high : ℕ) (rows : Rows) → low ≤ high → RowsFit sheet high rows → RowsFit sheet low rows
looser sheet low high [] h f = tt
looser sheet low high (row ∷ rows) h f = (omega (arith, h, f.0), f.1, f.2, f.3)

abbrev Found : Sheet → Members → ℕ → Rows → Type 0
Found sheet ms seat rows = RowsFit sheet seat rows × AreMembers sheet ms rows

at_stage : (sheet : Sheet) (ms : Members) (seat : ℕ) (rows : Rows) (d : Data) (o : Option (Option ℕ)) (rest : Option Rows) → seat ≤ 255 → get_member (decimal seat) ms ≡ Some d → id_or_null (stage_of sheet) d ≡ o
    → ((rs : Rows) → rest ≡ Some rs → Found sheet ms (seat + 1) rs) → before_rows seat (option_map_or Active o Malformed) rest ≡ Some rows → Found sheet ms seat rows
at_stage sheet ms seat rows d None rest high is stage later e = absurd (cc (e))
at_stage sheet ms seat rows d (Some at) rest high is stage later e =
    let more = mapped (λ rs. (seat, at) ∷ rs) rest rows e in
    let it = stage_is sheet d at stage in
    let f = later more.0 more.1 in
    let low : seat ≤ seat = omega arith in
    subst (Found sheet ms seat) more.2 ((low, high, it.1, f.0), (is ∙ ap (λ x. Some x) it.0, f.1))

at_seat : (sheet : Sheet) (ms : Members) (seat : ℕ) (rows : Rows) (o : Option Data) (rest : Option Rows) → seat ≤ 255 → get_member (decimal seat) ms ≡ o
    → ((rs : Rows) → rest ≡ Some rs → Found sheet ms (seat + 1) rs) → before_rows seat (seat_stage sheet o) rest ≡ Some rows → Found sheet ms seat rows
at_seat sheet ms seat rows None rest high is later e = let f = later rows e in (looser sheet seat (seat + 1) rows (omega arith) f.0, f.1)
at_seat sheet ms seat rows (Some d) rest high is later e = at_stage sheet ms seat rows d (id_or_null (stage_of sheet) d) rest high is refl later e

found : (sheet : Sheet) (ms : Members) (n : ℕ) (rows : Rows) (seat : ℕ) → seat + n ≡ 256 → rows_among sheet (object ms) seat n ≡ Some rows → Found sheet ms seat rows
unfolding rows_among
found sheet ms zero rows seat end e = let none : [] ≡ rows = cc (e) in subst (Found sheet ms seat) none (tt, tt)
found sheet ms (suc n) rows seat end e =
    at_seat sheet ms seat rows (get_member (decimal seat) ms) (rows_among sheet (object ms) (seat + 1) n) (omega (arith, end)) refl (λ rs r. found sheet ms n rs (seat + 1) (omega (arith, end)) r) e

enough : (count : ℕ) (o : Option Rows) (rows : Rows) → as_many count o ≡ Some rows → (o ≡ Some rows) × (length rows ≡ count)
enough count None rows e = absurd (cc (e))
enough count (Some found) rows e = by_count (length found == count) refl e
  where
    by_count : (b : Bool) → (length found == count) ≡ b → cond b (Some found) None ≡ Some rows → (Some found ≡ Some rows) × (length rows ≡ count)
    by_count true is e = let same : found ≡ rows = cc (e) in (ap (λ x. Some x) same, ap length (sym same) ∙ eqb-true (length found) count is)
    by_count false is e = absurd (cc (e))

-- ---- two objects, one inside the other, with as many members

abbrev Within : Members → Members → Type 0
Within ns ms = (q : List ℕ) (d : Data) → get_member q ns ≡ Some d → get_member q ms ≡ Some d

itself : (k : List ℕ) (d : Data) (ms : Members) → get_member k (member k d ms) ≡ Some d
itself k d ms = let same : order k k ≡ Equal = tied_itself nat_list_cmp_total k in rw same refl

absent : (k : List ℕ) (ms : Members) → AreAbove k ms → get_member k ms ≡ None
absent k no_members h = refl
absent k (member l e ms) h = rw (h.0) (absent k ms h.1)

shown_here : (sheet : Sheet) (ms : Members) (acc : Members) (row : ℕ × Option ℕ) → Within acc ms → get_member (decimal row.0) ms ≡ Some (stage_or_null sheet row.1) → Within (with_row sheet acc row) ms
shown_here sheet ms acc row inside at q d e = at_name (bytes_eq q (decimal row.0)) refl
  where
    at_name : (b : Bool) → bytes_eq q (decimal row.0) ≡ b → get_member q ms ≡ Some d
    at_name true is =
        let same : q ≡ decimal row.0 = (bytes_eq-Decides q (decimal row.0)).0 is in
        let value : Some d ≡ Some (stage_or_null sheet row.1) = sym e ∙ ap (λ k. get_member k (put (decimal row.0) (stage_or_null sheet row.1) acc)) same ∙ get_member-put (decimal row.0) (stage_or_null sheet row.1) acc in
        ap (λ k. get_member k ms) same ∙ at ∙ sym value
    at_name false is =
        let apart : q ≡ decimal row.0 → ⊥ = λ same. let yes = (bytes_eq-Decides q (decimal row.0)).1 same in absurd (cc (yes, is)) in
        inside q d (sym (get_member-put_other q (decimal row.0) (stage_or_null sheet row.1) acc apart) ∙ e)

rows_within : (sheet : Sheet) (ms acc : Members) (rows : Rows) → AreMembers sheet ms rows → Within acc ms → Within (fold (with_row sheet) acc rows) ms
rows_within sheet ms acc [] h inside = inside
rows_within sheet ms acc (row ∷ rows) h inside = rows_within sheet ms (with_row sheet acc row) rows h.1 (shown_here sheet ms acc row inside h.0)

skip : (o : Ordering) (q k : List ℕ) (d x : Data) (ms : Members) → order q k ≡ o → AreAbove k ms → get_member q ms ≡ Some x → match_ordering o (get_member q ms) (Some d) (get_member q ms) ≡ Some x
skip Less q k d x ms is a e = e
skip Equal q k d x ms is a e = let none = ap (λ n. get_member n ms) (name_is q k is) ∙ absent k ms a in absurd (cc (e, none))
skip Greater q k d x ms is a e = e

unskip : (o : Ordering) (q l : List ℕ) (d x : Data) (ms : Members) → order q l ≡ o → (q ≡ l → ⊥) → match_ordering o (get_member q ms) (Some d) (get_member q ms) ≡ Some x → get_member q ms ≡ Some x
unskip Less q l d x ms is apart e = e
unskip Equal q l d x ms is apart e = absurd (apart (name_is q l is))
unskip Greater q l d x ms is apart e = e

-- a name that stands below all of an object's names, or is gone from it, is none of them
not_in : (q l : List ℕ) (x : Data) (ns : Members) → AreAbove l ns → get_member q ns ≡ Some x → q ≡ l → ⊥
not_in q l x ns a e same = let none = ap (λ n. get_member n ns) same ∙ absent l ns a in absurd (cc (e, none))

tails : (k l : List ℕ) (d e : Data) (ns ms : Members) → k ≡ l → AreAbove k ns → Within (member k d ns) (member l e ms) → Within ns ms
tails k l d e ns ms same a inside q x h =
    unskip (order q l) q l e x ms refl (λ at. not_in q k x ns a h (at ∙ sym same)) (inside q x (skip (order q k) q k d x ns refl a h))

past_head : (k l : List ℕ) (d e : Data) (ns ms : Members) → order l k ≡ Less → AreAbove k ns → Within (member k d ns) (member l e ms) → Within (member k d ns) ms
past_head k l d e ns ms less a inside q x h = unskip (order q l) q l e x ms refl (not_in q l x (member k d ns) (less, above_more l k ns less a) h) (inside q x h)

never : {A : Type 0} (k l : List ℕ) (d e : Data) (ns ms : Members) → order k l ≡ Less → AreAbove l ms → Within (member k d ns) (member l e ms) → A
never k l d e ns ms less a inside = let none = absent k (member l e ms) (less, above_more k l ms less a) in absurd (cc (inside k d (itself k d ns), none))

few_at : (o : Ordering) (k l : List ℕ) (d e : Data) (ns ms : Members) → order k l ≡ o → AreAbove k ns → AreAbove l ms → Within (member k d ns) (member l e ms) → (Within ns ms → members_len ns ≤ members_len ms)
    → (Within (member k d ns) ms → suc (members_len ns) ≤ members_len ms) → suc (members_len ns) ≤ suc (members_len ms)
few_at Less k l d e ns ms is a b inside both later = never k l d e ns ms is b inside
few_at Equal k l d e ns ms is a b inside both later = let h = both (tails k l d e ns ms (name_is k l is) a inside) in omega (arith, h)
few_at Greater k l d e ns ms is a b inside both later = let h = later (past_head k l d e ns ms (greater k l is) a inside) in omega (arith, h)

few : (ms ns : Members) → IsOrdered ns → IsOrdered ms → Within ns ms → members_len ns ≤ members_len ms
few no_members no_members h i inside = omega arith
few no_members (member k d ns) h i inside = let it = inside k d (itself k d ns) in absurd (cc (it))
few (member l e ms) no_members h i inside = omega arith
few (member l e ms) (member k d ns) h i inside = few_at (order k l) k l d e ns ms refl h.0 i.0 inside (λ w. few ms ns h.1 i.1 w) (λ w. few ms (member k d ns) h i.1 w)

same_at : (o : Ordering) (k l : List ℕ) (d e : Data) (ns ms : Members) → order k l ≡ o → IsOrdered (member k d ns) → IsOrdered (member l e ms) → Within (member k d ns) (member l e ms) → suc (members_len ms) ≤ suc (members_len ns)
    → (Within ns ms → ns ≡ ms) → member k d ns ≡ member l e ms
same_at Less k l d e ns ms is h i inside many both = never k l d e ns ms is i.0 inside
same_at Equal k l d e ns ms is h i inside many both =
    let name : k ≡ l = name_is k l is in
    let here : Some d ≡ Some e = sym (inside k d (itself k d ns)) ∙ ap (λ n. get_member n (member l e ms)) name ∙ itself l e ms in
    let value : d ≡ e = cc (here) in
    ap (λ n. member n d ns) name ∙ ap (λ v. member l v ns) value ∙ ap (member l e) (both (tails k l d e ns ms name h.0 inside))
same_at Greater k l d e ns ms is h i inside many both = let less = few ms (member k d ns) h i.1 (past_head k l d e ns ms (greater k l is) h.0 inside) in absurd (omega (arith, less, many))

same : (ns ms : Members) → IsOrdered ns → IsOrdered ms → Within ns ms → members_len ms ≤ members_len ns → ns ≡ ms
same no_members no_members h i inside many = refl
same no_members (member l e ms) h i inside many = absurd (omega (arith, many))
same (member k d ns) no_members h i inside many = let it = inside k d (itself k d ns) in absurd (cc (it))
same (member k d ns) (member l e ms) h i inside many = same_at (order k l) k l d e ns ms refl h i inside many (λ w. same ns ms h.1 i.1 w (omega (arith, many)))

-- ---- the rows

stage_canonical : (sheet : Sheet) (o : Option ℕ) → IsCanonical (stage_or_null sheet o)
stage_canonical sheet None = tt
stage_canonical sheet (Some id) = of_text (option_map (λ (row : StageRow). row.name) (slice_get sheet.stages id))
  where
    of_text : (o : Option (List ℕ)) → IsCanonical (text_or_null o)
    of_text None = tt
    of_text (Some text) = tt

canonical_rows : (sheet : Sheet) (ms : Members) (rows : Rows) → MembersAreCanonical ms → MembersAreCanonical (fold (with_row sheet) ms rows)
canonical_rows sheet ms [] h = h
canonical_rows sheet ms (row ∷ rows) h = canonical_rows sheet (with_row sheet ms row) rows (canonical_put (decimal row.0) (stage_or_null sheet row.1) ms (stage_canonical sheet row.1) h)

rows_are : (sheet : Sheet) (ms : Members) (rows : Rows) → MembersAreCanonical ms → as_many (members_len ms) (rows_among sheet (object ms) 0 256) ≡ Some rows → (ms ≡ rows_members sheet rows) × RowsFit sheet 0 rows
rows_are sheet ms rows c e =
    let all = enough (members_len ms) (rows_among sheet (object ms) 0 256) rows e in
    let f = found sheet ms 256 rows 0 (omega arith) all.0 in
    let inside : Within (rows_members sheet rows) ms = rows_within sheet ms no_members rows f.1 (λ q d h. absurd (cc (h))) in
    let count = counted sheet 0 rows no_members f.0 (λ seat low high. refl) in
    let many : members_len ms ≤ members_len (rows_members sheet rows) = omega (arith, count, all.1) in
    (sym (same (rows_members sheet rows) ms (ordered (rows_members sheet rows) (canonical_rows sheet no_members rows tt)) (ordered ms c) inside many), f.0)

pub active_is : (sheet : Sheet) (d : Data) (active : Option Rows) → IsCanonical d → active_from sheet d ≡ Some active → (d ≡ active_data sheet active) × ActiveFits sheet active
active_is sheet null None c e = (refl, tt)
active_is sheet null (Some rows) c e = absurd (cc)
active_is sheet (boolean b) active c e = absurd (cc)
active_is sheet (number n) active c e = absurd (cc)
active_is sheet (string s) active c e = absurd (cc)
active_is sheet (array ds) active c e = absurd (cc)
active_is sheet (object ms) active c e =
    let rows = mapped (λ x. Some x) (as_many (members_len ms) (rows_among sheet (object ms) 0 256)) active e in
    let are = rows_are sheet ms rows.0 c rows.1 in
    subst (λ x. (object ms ≡ active_data sheet x) × ActiveFits sheet x) rows.2 (ap object are.0, are.1)
