-- Every operation on maps keeps a sound map sound.
use Rattle.std.proofs.Common.{◌≡◌, ◌<◌, ◌≤◌, ◌+◌, ℕ, zero, suc, Bool, true, false, cond, nat_lt, not, ◌==◌, Option, None, Some, List, [], ◌∷◌, ◌++◌, length, map, slice_get, option_and_then, option_map, refl, subst, arith, if◌then◌else◌}
use Rattle.std.specs.List.{AllByRecursion}
use Rattle.game_sheet.specs.declared.sheet.Place.{Place}
use Rattle.game_sheet.specs.declared.sheet.Sheet.{Sheet}
use Rattle.game_sheet.specs.declared.sheet.SpecRow.{SpecRow}
use Rattle.game_sheet.specs.declared.sheet.StageRow.{StageRow}
use Rattle.stage_map.specs.declared.active.Kept.{Kept}
use Rattle.stage_map.specs.declared.rows.Row.{Row}
use Rattle.stage_map.specs.Active.{Map, none, row_of, row_on}
use Rattle.stage_map.specs.IsSound.{IsSound, Rise, RowFits, Stands, StandsOrNull}
use Rattle.stage_map.proofs.MapsFit.{PlaceFits, SpecFits}
use Rattle.stage_map.specs.Rows.{each_at, entries_of, others, placed, put, put_all, spec_rows, unlimited, without}
use Rattle.stage_map.specs.Set.{kept_on, made, returned, set, set_within, settle, settled_by, stack_after, unfollowed_by}
use Rattle.stage_map.specs.Parts.{set_by}
use Rattle.stage_map.specs.Stages.{count_move, count_row, counted, end_stage, is_reached, rows_after, set_stage, stage_after, stage_left}
use Rattle.stage_map.proofs.Rising.{all_append, all_filter, all_put, all_weaker, all_without, put_stands, rise_put, rise_without}
use Rattle.std.specs.Option.{option_map_or}

abbrev pub InMatch : ℕ → List ℕ → Type 0
InMatch seats order = AllByRecursion (λ seat. seat < seats) order

module _ (specs stages seats most : ℕ) where
  abbrev pub Good : List Row → Type 0
  Good listed = Rise listed × AllByRecursion (RowFits stages seats most) listed

  abbrev pub Follows : Option ℕ → Type 0
  Follows next = (spec : ℕ) → next ≡ Some spec → spec < specs

  abbrev pub Kepts : List Kept → Type 0
  Kepts stack = AllByRecursion (λ (kept : Kept). Stands specs stages seats most kept.rows kept.next) stack

  good_put : (row : Row) (listed : List Row) → RowFits stages seats most row → Good listed → Good (put row listed)
  good_put row listed p g = (rise_put row listed g.0, all_put (RowFits stages seats most) row listed p g.1)

  good_without : (seat : ℕ) (listed : List Row) → Good listed → Good (without seat listed)
  good_without seat listed g = (rise_without seat listed g.0, all_without (RowFits stages seats most) seat listed g.1)

  abbrev EntryFits : ℕ × Place → Type 0
  EntryFits entry = (entry.0 < seats) × PlaceFits stages entry.1

  placed_fits : (spec : SpecRow) (place : Place) (seat : ℕ) → seat < seats → PlaceFits stages place → RowFits stages seats most (placed spec place seat)
  placed_fits spec place seat h p = record { seat = h; stage = p.stage; count = omega arith }

  good_put_all : (spec : SpecRow) (entries : List (ℕ × Place)) (listed : List Row) → AllByRecursion EntryFits entries → Good listed → Good (put_all spec entries listed)
  good_put_all spec [] listed a g = g
  good_put_all spec (entry ∷ entries) listed a g =
      good_put_all spec entries (put (placed spec entry.1 entry.0) listed) a.1 (good_put (placed spec entry.1 entry.0) listed (placed_fits spec entry.1 entry.0 a.0.0 a.0.1) g)

  at_fit : (place : Place) (given : List ℕ) → PlaceFits stages place → InMatch seats given → AllByRecursion EntryFits (map (λ seat. (seat, place)) given)
  at_fit place [] p a = tt
  at_fit place (seat ∷ given) p a = ((a.0, p), at_fit place given p a.1)

  each_fit : (place : Option Place) (given : List ℕ) → ((p : Place) → place ≡ Some p → PlaceFits stages p) → InMatch seats given → AllByRecursion EntryFits (each_at place given)
  each_fit None given f a = tt
  each_fit (Some place) given f a = at_fit place given (f place refl) a

  value_fit : (value : List (ℕ × Place)) → AllByRecursion (λ (entry : ℕ × Place). entry.0 < seats) value → AllByRecursion (λ (entry : ℕ × Place). PlaceFits stages entry.1) value → AllByRecursion EntryFits value
  value_fit [] a b = tt
  value_fit (entry ∷ value) a b = ((a.0, b.0), value_fit value a.1 b.1)

  entries_fit : (spec : SpecRow) (current : ℕ) (order : List ℕ) → SpecFits specs stages seats spec → current < seats → InMatch seats order → AllByRecursion EntryFits (entries_of spec current order)
  entries_fit spec current order f h o =
      let first = each_at spec.current (current ∷ []) in
      let second = each_at spec.others (others current order) in
      let third = each_at spec.all order in
      all_append EntryFits (first ++ second ++ third) spec.value
      (all_append EntryFits (first ++ second) third
      (all_append EntryFits first second
      (each_fit spec.current (current ∷ []) f.current (h, tt))
      (each_fit spec.others (others current order) f.others (all_filter (λ seat. seat < seats) (λ seat. not (seat == current)) order o)))
      (each_fit spec.all order f.all o))
      (value_fit spec.value f.value_seats f.value_places)

  good_spec_rows : (spec : SpecRow) (current : ℕ) (order : List ℕ) → SpecFits specs stages seats spec → current < seats → InMatch seats order → Good (spec_rows spec current order)
  good_spec_rows spec current order f h o = good_put_all spec (entries_of spec current order) [] (entries_fit spec current order f h o) (tt, tt)

  -- a map that may have become empty
  abbrev pub NearlyBy : Option (List Row) → Map → Type 0
  NearlyBy None m = (m.next ≡ None) × (m.stack ≡ [])
  NearlyBy (Some listed) m = Good listed × Follows m.next

  pub record Nearly (m : Map) : Type 0 where
    pub present : NearlyBy m.rows m
    pub earlier : Kepts m.stack

  nearly_by : (rows : Option (List Row)) (m : Map) → StandsOrNull specs stages seats most rows m → NearlyBy rows m
  nearly_by None m s = s
  nearly_by (Some listed) m s = ((s.rise, s.fit), s.follower)

  pub nearly : (m : Map) → IsSound specs stages seats most m → Nearly m
  nearly m s = record { present = nearly_by m.rows m s.present; earlier = s.earlier }

  pub null_sound : IsSound specs stages seats most none
  null_sound = record { present = (refl, refl); earlier = tt }

  returned_sound : (stack : List Kept) → Kepts stack → IsSound specs stages seats most (returned stack)
  returned_sound [] k = null_sound
  returned_sound (top ∷ stack) k = record { present = k.0; earlier = k.1 }

  with_row : (row : Row) (listed : List Row) (next : Option ℕ) → Good (row ∷ listed) → Follows next → Stands specs stages seats most (row ∷ listed) next
  with_row row listed next g f = record { not_empty = omega arith; rise = g.0; fit = g.1; follower = f }

  settled_sound : (follow : ℕ → Map → Map) (rows : Option (List Row)) (next : Option ℕ) (m : Map) → rows ≡ m.rows → next ≡ m.next → NearlyBy rows m → Kepts m.stack → ((spec : ℕ) → IsSound specs stages seats most (follow spec m)) → IsSound specs stages seats most (settled_by follow rows next m)
  settled_sound follow None next m e d n k f = record { present = subst (λ rows. StandsOrNull specs stages seats most rows m) e n; earlier = k }
  settled_sound follow (Some []) None m e d n k f = returned_sound m.stack k
  settled_sound follow (Some []) (Some spec) m e d n k f = f spec
  settled_sound follow (Some (row ∷ listed)) next m e d n k f = record { present = subst (λ rows. StandsOrNull specs stages seats most rows m) e (with_row row listed m.next n.0 n.1); earlier = k }

  unfollowed_sound : (rows : Option (List Row)) (m : Map) → rows ≡ m.rows → NearlyBy rows m → Kepts m.stack → IsSound specs stages seats most (unfollowed_by rows m)
  unfollowed_sound None m e n k = record { present = subst (λ rows. StandsOrNull specs stages seats most rows m) e n; earlier = k }
  unfollowed_sound (Some []) m e n k = returned_sound m.stack k
  unfollowed_sound (Some (row ∷ listed)) m e n k = record { present = subst (λ rows. StandsOrNull specs stages seats most rows m) e (with_row row listed m.next n.0 n.1); earlier = k }

  kept_sound : (rows : Option (List Row)) (m : Map) → NearlyBy rows m → Kepts m.stack → Kepts (kept_on rows m.next m.stack)
  kept_sound None m n k = k
  kept_sound (Some []) m n k = k
  kept_sound (Some (row ∷ listed)) m n k = (with_row row listed m.next n.0 n.1, k)

  stack_sound : (keeps : Bool) (m : Map) → Nearly m → Kepts (stack_after keeps m)
  stack_sound true m n = kept_sound m.rows m n.present n.earlier
  stack_sound false m n = tt

  made_nearly : (spec : SpecRow) (current : ℕ) (order : List ℕ) (m : Map) → SpecFits specs stages seats spec → current < seats → InMatch seats order → Nearly m → Nearly (made spec current order m)
  made_nearly spec current order m f h o n = record { present = (good_spec_rows spec current order f h o, f.next); earlier = stack_sound spec.revert m n }

  set_by_sound : (follow : ℕ → Map → Map) (spec : Option SpecRow) (current : ℕ) (order : List ℕ) (m : Map) → ((row : SpecRow) → spec ≡ Some row → SpecFits specs stages seats row) → current < seats → InMatch seats order → Nearly m → ((next : ℕ) (emptied : Map) → Nearly emptied → IsSound specs stages seats most (follow next emptied)) → IsSound specs stages seats most (set_by follow spec current order m)
  set_by_sound follow None current order m f h o n s = unfollowed_sound m.rows m refl n.present n.earlier
  set_by_sound follow (Some row) current order m f h o n s =
      let now : Nearly (made row current order m) = made_nearly row current order m (f row refl) h o n in
      settled_sound follow (Some (spec_rows row current order)) row.next (made row current order m) refl refl now.present now.earlier (λ next. s next (made row current order m) now)

  abbrev pub SpecsFit : Sheet → Type 0
  SpecsFit sheet = (place : ℕ) (row : SpecRow) → slice_get sheet.specs place ≡ Some row → SpecFits specs stages seats row

  abbrev pub StagesFit : Sheet → Type 0
  StagesFit sheet = (place : ℕ) (row : StageRow) (next : ℕ) → slice_get sheet.stages place ≡ Some row → row.next ≡ Some next → next < stages

  set_within_sound : (n : ℕ) (sheet : Sheet) (current : ℕ) (order : List ℕ) (spec : ℕ) (m : Map) → SpecsFit sheet → current < seats → InMatch seats order → Nearly m → IsSound specs stages seats most (set_within n sheet current order spec m)
  unfolding set_within
  set_within_sound zero sheet current order spec m f h o n = unfollowed_sound m.rows m refl n.present n.earlier
  set_within_sound (suc k) sheet current order spec m f h o n =
      set_by_sound (set_within k sheet current order) (slice_get sheet.specs spec) current order m (λ row e. f spec row e) h o n (λ next emptied near. set_within_sound k sheet current order next emptied f h o near)

  pub set_sound : (sheet : Sheet) (spec current : ℕ) (order : List ℕ) (m : Map) → SpecsFit sheet → current < seats → InMatch seats order → Nearly m → IsSound specs stages seats most (set sheet spec current order m)
  set_sound sheet spec current order m f h o n = set_within_sound (length sheet.specs) sheet current order spec m f h o n

  settle_sound : (sheet : Sheet) (current : ℕ) (order : List ℕ) (m : Map) → SpecsFit sheet → current < seats → InMatch seats order → Nearly m → IsSound specs stages seats most (settle sheet current order m)
  settle_sound sheet current order m f h o n =
      settled_sound (λ spec emptied. set sheet spec current order emptied) m.rows m.next m refl refl n.present n.earlier (λ spec. set_sound sheet spec current order m f h o n)

  unlimited_fits : (seat stage : ℕ) → seat < seats → stage < stages → RowFits stages seats most (unlimited seat stage)
  unlimited_fits seat stage h k = record { seat = h; stage = λ s e. (let same : stage ≡ s = cc in subst (λ t. t < stages) same k); count = omega arith }

  stage_set_sound : (rows : Option (List Row)) (seat stage : ℕ) (m : Map) → seat < seats → stage < stages → StandsOrNull specs stages seats most rows m → Kepts m.stack → IsSound specs stages seats most (option_map_or (λ listed. record m { rows = Some (put (unlimited seat stage) listed) }) rows (record { rows = Some (unlimited seat stage ∷ []); next = None; stack = [] }))
  stage_set_sound None seat stage m h k s a =
      record { present = record { not_empty = omega arith; rise = (tt, tt); fit = (unlimited_fits seat stage h k, tt); follower = λ spec e. cc }; earlier = tt }
  stage_set_sound (Some listed) seat stage m h k s a =
      let good = good_put (unlimited seat stage) listed (unlimited_fits seat stage h k) (s.rise, s.fit) in
      record { present = record { not_empty = put_stands (unlimited seat stage) listed; rise = good.0; fit = good.1; follower = s.follower }; earlier = a }

  pub set_stage_sound : (seat stage : ℕ) (m : Map) → seat < seats → stage < stages → IsSound specs stages seats most m → IsSound specs stages seats most (set_stage seat stage m)
  set_stage_sound seat stage m h k s = stage_set_sound m.rows seat stage m h k s.present s.earlier

  found_at : (b : Bool) (other : Row) (rest : Option Row) (row : Row) → cond b (Some other) rest ≡ Some row → RowFits stages seats most other → (rest ≡ Some row → RowFits stages seats most row) → RowFits stages seats most row
  found_at true other rest row e p f = let same : other ≡ row = cc in subst (RowFits stages seats most) same p
  found_at false other rest row e p f = f e

  found_fits : (seat : ℕ) (listed : List Row) (row : Row) → row_of seat listed ≡ Some row → AllByRecursion (RowFits stages seats most) listed → RowFits stages seats most row
  found_fits seat [] row e a = cc
  found_fits seat (other ∷ listed) row e a = found_at (other.seat == seat) other (row_of seat listed) row e a.0 (λ d. found_fits seat listed row d a.1)

  pub listed_fits : (seat : ℕ) (rows : Option (List Row)) (m : Map) (row : Row) → option_and_then (row_of seat) rows ≡ Some row → StandsOrNull specs stages seats most rows m → RowFits stages seats most row
  listed_fits seat None m row e s = cc
  listed_fits seat (Some listed) m row e s = found_fits seat listed row e s.fit

  next_of : (o : Option StageRow) (stage : ℕ) → ((row : StageRow) (next : ℕ) → o ≡ Some row → row.next ≡ Some next → next < stages) → option_and_then (λ (row : StageRow). row.next) o ≡ Some stage → stage < stages
  next_of None stage f e = cc
  next_of (Some row) stage f e = f row stage refl e

  next_fits : (sheet : Sheet) (stage : Option ℕ) (next : ℕ) → StagesFit sheet → stage_after sheet stage ≡ Some next → next < stages
  next_fits sheet None next f e = cc
  next_fits sheet (Some stage) next f e = next_of (slice_get sheet.stages stage) next (f stage) e

  after_good : (next : Option ℕ) (seat : ℕ) (listed : List Row) → seat < seats → ((stage : ℕ) → next ≡ Some stage → stage < stages) → Good listed → Good (rows_after next seat listed)
  after_good None seat listed h f g = good_without seat listed g
  after_good (Some next) seat listed h f g = good_put (unlimited seat next) listed (unlimited_fits seat next h (f next refl)) g

  left_nearly : (rows : Option (List Row)) (next : Option ℕ) (seat : ℕ) (m : Map) → seat < seats → ((stage : ℕ) → next ≡ Some stage → stage < stages) → NearlyBy rows m → NearlyBy (option_map (rows_after next seat) rows) (record m { rows = option_map (rows_after next seat) rows })
  left_nearly None next seat m h f n = n
  left_nearly (Some listed) next seat m h f n = (after_good next seat listed h f n.0, n.1)

  left_sound : (sheet : Sheet) (row : Row) (current : ℕ) (order : List ℕ) (m : Map) → SpecsFit sheet → StagesFit sheet → current < seats → InMatch seats order → row.seat < seats → Nearly m → IsSound specs stages seats most (stage_left sheet row current order m)
  left_sound sheet row current order m f g h o k n =
      settle_sound sheet current order (record m { rows = option_map (rows_after (stage_after sheet row.stage) row.seat) m.rows }) f h o
      (record { present = left_nearly m.rows (stage_after sheet row.stage) row.seat m k (λ stage. next_fits sheet row.stage stage g) n.present; earlier = n.earlier })

  either_sound : (b : Bool) (m n : Map) → IsSound specs stages seats most m → IsSound specs stages seats most n → IsSound specs stages seats most (cond b m n)
  either_sound true m n s t = s
  either_sound false m n s t = t

  end_row_sound : (sheet : Sheet) (row : Option Row) (current : ℕ) (order : List ℕ) (m : Map) → SpecsFit sheet → StagesFit sheet → current < seats → InMatch seats order → ((r : Row) → row ≡ Some r → r.seat < seats) → IsSound specs stages seats most m → IsSound specs stages seats most (option_map_or (λ row. if nat_lt row.count row.least then m else stage_left sheet row current order m) row m)
  end_row_sound sheet None current order m f g h o k s = s
  end_row_sound sheet (Some row) current order m f g h o k s = either_sound (nat_lt row.count row.least) m (stage_left sheet row current order m) s (left_sound sheet row current order m f g h o (k row refl) (nearly m s))

  pub end_stage_sound : (sheet : Sheet) (seat current : ℕ) (order : List ℕ) (m : Map) → SpecsFit sheet → StagesFit sheet → current < seats → InMatch seats order → IsSound specs stages seats most m → IsSound specs stages seats most (end_stage sheet seat current order m)
  end_stage_sound sheet seat current order m f g h o s =
      end_row_sound sheet (row_on m seat) current order m f g h o (λ row e. (listed_fits seat m.rows m row e s.present).seat) s

  counted_sound : (rows : Option (List Row)) (row : Row) (m : Map) → RowFits stages seats most row → StandsOrNull specs stages seats most rows m → Kepts m.stack → IsSound specs stages seats most (record m { rows = option_map (put row) rows })
  counted_sound None row m p s k = record { present = s; earlier = k }
  counted_sound (Some listed) row m p s k =
      let good = good_put row listed p (s.rise, s.fit) in
      record { present = record { not_empty = put_stands row listed; rise = good.0; fit = good.1; follower = s.follower }; earlier = k }

  count_row_sound : (sheet : Sheet) (row : Option Row) (current : ℕ) (order : List ℕ) (m : Map) → SpecsFit sheet → StagesFit sheet → current < seats → InMatch seats order → ((r : Row) → row ≡ Some r → RowFits stages seats most (counted r)) → IsSound specs stages seats most m → IsSound specs stages seats most (count_row sheet row current order m)
  count_row_sound sheet None current order m f g h o k s = s
  count_row_sound sheet (Some row) current order m f g h o k s =
      either_sound (is_reached row.most (row.count + 1)) (stage_left sheet row current order m) (record m { rows = option_map (put (counted row)) m.rows })
      (left_sound sheet row current order m f g h o (k row refl).seat (nearly m s))
      (counted_sound m.rows (counted row) m (k row refl) s.present s.earlier)

row_weaker : (stages seats most more : ℕ) → most ≤ more → (row : Row) → RowFits stages seats most row → RowFits stages seats more row
row_weaker stages seats most more h row p = record { seat = p.seat; stage = p.stage; count = omega arith }

stands_weaker : (specs stages seats most more : ℕ) → most ≤ more → (listed : List Row) (next : Option ℕ) → Stands specs stages seats most listed next → Stands specs stages seats more listed next
stands_weaker specs stages seats most more h listed next s =
    record { not_empty = s.not_empty; rise = s.rise; fit = all_weaker (RowFits stages seats most) (RowFits stages seats more) (row_weaker stages seats most more h) listed s.fit; follower = s.follower }

present_weaker : (specs stages seats most more : ℕ) → most ≤ more → (rows : Option (List Row)) (m : Map) → StandsOrNull specs stages seats most rows m → StandsOrNull specs stages seats more rows m
present_weaker specs stages seats most more h None m s = s
present_weaker specs stages seats most more h (Some listed) m s = stands_weaker specs stages seats most more h listed m.next s

-- a greater bound of the counts is one too
pub sound_weaker : (specs stages seats most more : ℕ) (m : Map) → most ≤ more → IsSound specs stages seats most m → IsSound specs stages seats more m
sound_weaker specs stages seats most more m h s = record {
  present = present_weaker specs stages seats most more h m.rows m s.present;
  earlier = all_weaker (λ (kept : Kept). Stands specs stages seats most kept.rows kept.next) (λ (kept : Kept). Stands specs stages seats more kept.rows kept.next) (λ kept. stands_weaker specs stages seats most more h kept.rows kept.next) m.stack s.earlier;
}

counted_fits : (stages seats most : ℕ) (row : Row) → RowFits stages seats most row → RowFits stages seats (most + 1) (counted row)
counted_fits stages seats most row p = record { seat = p.seat; stage = p.stage; count = omega arith }

pub count_move_sound : (specs stages seats most : ℕ) (sheet : Sheet) (seat current : ℕ) (order : List ℕ) (m : Map) → SpecsFit specs stages seats most sheet → StagesFit specs stages seats most sheet → current < seats → InMatch seats order → IsSound specs stages seats most m → IsSound specs stages seats (most + 1) (count_move sheet seat current order m)
count_move_sound specs stages seats most sheet seat current order m f g h o s =
    count_row_sound specs stages seats (most + 1) sheet (row_on m seat) current order m f g h o
    (λ row e. counted_fits stages seats most row (listed_fits specs stages seats most seat m.rows m row e s.present))
    (sound_weaker specs stages seats most (most + 1) m (omega arith) s)
