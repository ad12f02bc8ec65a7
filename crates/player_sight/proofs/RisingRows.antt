-- Where the seats rise and are below ten, the members stand in the rows' order.
use Rattle.std.proofs.Common.{◌≡◌, ℕ, ◌+◌, ◌<◌, ◌≤◌, List, [], ◌∷◌, true, Option, Greater, fold, refl, sym, ap, ◌∙◌, subst, arith}
use Rattle.std.proofs.lemmas.Bool.{and_parts, leb-true}
use Rattle.std.proofs.lemmas.Fmt.{decimal_digit}
use Rattle.std.specs.Prelude.{decimal}
use Rattle.std.specs.Cmp.{nat_cmp_is}
use Rattle.std.specs.Ordering.{nat_cmp}
use Rattle.std.specs.Cmp.Lexicographic.{slice_cmp}
use Rattle.serde_json.specs.Data.{Data, Members, member, no_members, put}
use Rattle.game_sheet.specs.declared.sheet.Sheet.{Sheet}
use Rattle.player_sight.specs.CtxData.{with_row, rows_members}
use Rattle.player_sight.specs.Parts.{stage_or_null}
use Rattle.player_sight.proofs.Changes.{join, join_one}
use Rattle.player_sight.specs.RowList.{row_list, rises_from}

-- each name is a seat's below k
abbrev Below : ℕ → Members → Type 0
Below k no_members = Unit {0}
Below k (member l d ms) = ((a : ℕ) × (a < k) × (l ≡ decimal a)) × Below k ms

above : (k a : ℕ) → a < k → k ≤ 9 → slice_cmp nat_cmp (decimal k) (decimal a) ≡ Greater
above k a less most =
    let one : decimal k ≡ (48 + k) ∷ [] = decimal_digit k (omega (arith, most)) in
    let other : decimal a ≡ (48 + a) ∷ [] = decimal_digit a (omega (arith, less, most)) in
    let at : Greater ≡ nat_cmp (48 + k) (48 + a) = nat_cmp_is (48 + k) (48 + a) Greater (omega (arith, less)) in
    rw (one, other, sym at) refl

put_last : (k : ℕ) (d : Data) (ms : Members) → k ≤ 9 → Below k ms → put (decimal k) d ms ≡ join ms (member (decimal k) d no_members)
put_last k d no_members most b = refl
put_last k d (member l e ms) most b =
    let is : slice_cmp nat_cmp (decimal k) l ≡ Greater = ap (slice_cmp nat_cmp (decimal k)) ((b.0).2) ∙ above k ((b.0).0) ((b.0).1) most in
    rw is (ap (member l e) (put_last k d ms most b.1))

below_more : (least k : ℕ) (d : Data) (ms : Members) → least ≤ k → Below least ms → Below (k + 1) (join ms (member (decimal k) d no_members))
below_more least k d no_members h b = ((k, omega arith, refl), tt)
below_more least k d (member l e ms) h b = (((b.0).0, omega (arith, h, (b.0).1), (b.0).2), below_more least k d ms h b.1)

rows_join : (sheet : Sheet) (least : ℕ) (ms : Members) (rows : List (ℕ × Option ℕ)) → Below least ms → rises_from least rows ≡ true → fold (with_row sheet) ms rows ≡ join ms (row_list sheet rows)
rows_join sheet least no_members [] b r = refl
rows_join sheet least (member k d ms) [] b r = ap (member k d) (rows_join sheet least ms [] b.1 refl)
rows_join sheet least ms (row ∷ rows) b r =
    let two = and_parts _ _ r in
    let three = and_parts _ _ two.1 in
    let low : least ≤ row.0 = leb-true least row.0 two.0 in
    let high : row.0 ≤ 9 = leb-true row.0 9 three.0 in
    let loose : Below row.0 ms = looser least row.0 ms low b in
    let is = put_last row.0 (stage_or_null sheet row.1) ms high loose in
    let more = subst (Below (row.0 + 1)) (sym is) (below_more least row.0 (stage_or_null sheet row.1) ms low b) in
    rows_join sheet (row.0 + 1) (with_row sheet ms row) rows more three.1 ∙ ap (λ x. join x (row_list sheet rows)) is ∙ join_one ms (decimal row.0) (stage_or_null sheet row.1) (row_list sheet rows)
  where
    looser : (low high : ℕ) (ms : Members) → low ≤ high → Below low ms → Below high ms
    looser low high no_members h b = tt
    looser low high (member l e ms) h b = (((b.0).0, omega (arith, h, (b.0).1), (b.0).2), looser low high ms h b.1)

pub rows_rise : (sheet : Sheet) (rows : List (ℕ × Option ℕ)) → rises_from 0 rows ≡ true → rows_members sheet rows ≡ row_list sheet rows
rows_rise sheet rows r = rows_join sheet 0 no_members rows tt r
