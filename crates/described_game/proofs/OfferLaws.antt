-- What is offered is allowed, and hangs on nothing but what the seat sees.
use Rattle.std.specs.Prelude.{◌≡◌, ◌&&◌, ◌+◌, ◌++◌, ℕ, zero, suc, Bool, true, false, if◌then◌else◌, pos, List, [], ◌∷◌, map, slice_get, Option, Some, refl}
use Rattle.std.proofs.Common.{ap, ◌∙◌, sym, subst, arith}
use Rattle.std.proofs.lemmas.Bool.{and_parts}
use Rattle.std.proofs.lemmas.List.Elements.{filter_agree}
use Rattle.std.specs.List.{AllByRecursion, filter, list_all, range_with_len}
use Rattle.std.specs.Option.{option_map_or}
use Rattle.code_laws.proofs.SightLaws.{same_value}
use Rattle.code_laws.specs.Sight.{reads_own}
use Rattle.game_code.specs.Runs.{performed}
use Rattle.game_code.specs.Setting.{Setting}
use Rattle.game_sheet.specs.declared.args.Arg.{Arg}
use Rattle.game_sheet.specs.declared.args.Arg.TheVariants.{Whole}
use Rattle.game_sheet.specs.declared.ctx.Ctx.{Ctx}
use Rattle.game_slots.specs.Tables.{strip}
use Rattle.game_slots.specs.declared.table.Table.{Table}
use Rattle.game_trait.specs.Deed.{Deed, Done, GaveUp, Invalid, Lack}
use Rattle.game_trait.specs.Offers.{offered, offered_known}
use Rattle.slot_values.specs.Spans.{count_between}
use Rattle.slot_values.specs.Values.{is_true, number_of}
use Rattle.stage_map.specs.Moves.{moves as moves_of}
use Rattle.described_game.specs.Arguments.{arguments_fit}
use Rattle.described_game.specs.Moves.{IsValid, allowed, barred, made, played, setting_at}
use Rattle.described_game.specs.Offers.{all_offers, group_numbers, has_number, is_among, kept_rows, listed_count, listed_item, listed_items, move_offers, offers_from, rows_after, rows_count}
use Rattle.described_game.specs.Tests.{group_sees_own, move_sees_own}
use Rattle.described_game.specs.declared.parts.ArgumentGroup.{ArgumentGroup}
use Rattle.described_game.specs.declared.parts.ArgumentGroup.TheVariants.{One, Listed}
use Rattle.described_game.specs.declared.parts.GameParts.{GameParts}
use Rattle.described_game.specs.declared.parts.ListedRow.{ListedRow}
use Rattle.described_game.specs.declared.parts.MoveCode.{MoveCode}

-- ---- offers are allowed

barred_valid : (deed : Deed Table Lack) → IsValid (barred deed)
barred_valid (Done table left queued) = tt
barred_valid (GaveUp why) = tt

made_valid : (code : MoveCode) (s : Setting) (table : Table) (words : List ℕ) (test : Bool) → test ≡ true → IsValid (if test then barred (performed code.code s table words) else GaveUp Invalid)
made_valid code s table words true is = barred_valid (performed code.code s table words)
made_valid code s table words false is = absurd (cc)

-- what holds of each item of a list that passes a test holds of those that a filter keeps
keeps : {X : Type 0} (P : X → Type 0) (x : X) (rest : List X) (passes : Bool) → (passes ≡ true → P x) → AllByRecursion P rest → AllByRecursion P (if passes then x ∷ rest else rest)
keeps P x rest true each all = (each refl, all)
keeps P x rest false each all = all

each_kept : {X : Type 0} (P : X → Type 0) (test : X → Bool) → ((x : X) → test x ≡ true → P x) → (xs : List X) → AllByRecursion P (filter test xs)
each_kept P test each [] = tt
each_kept P test each (x ∷ xs) = keeps P x (filter test xs) (test x) (each x) (each_kept P test each xs)

each_mapped : {X Y : Type 0} (P : Y → Type 0) (f : X → Y) (xs : List X) → AllByRecursion (λ x. P (f x)) xs → AllByRecursion P (map f xs)
each_mapped P f [] all = tt
each_mapped P f (x ∷ xs) all = (all.0, each_mapped P f xs all.1)

each_joined : {X : Type 0} (P : X → Type 0) (xs ys : List X) → AllByRecursion P xs → AllByRecursion P ys → AllByRecursion P (xs ++ ys)
each_joined P [] ys all more = more
each_joined P (x ∷ xs) ys all more = (all.0, each_joined P xs ys all.1 more)

each_if : {X : Type 0} (P : X → Type 0) (test : Bool) (xs : List X) → AllByRecursion P xs → AllByRecursion P (if test then xs else [])
each_if P true xs all = all
each_if P false xs all = tt

module _ (parts : GameParts) (table : Table) (ctx : Ctx) (seat : ℕ) where
  abbrev given : Setting
  given = setting_at parts ctx (Some seat) []

  abbrev Allowed : ℕ × List Arg → Type 0
  Allowed offer = (words : List ℕ) → IsValid (played parts table ctx seat offer.0 offer.1 words)

  move_allowed : (id : ℕ) (code : MoveCode) → slice_get parts.moves id ≡ Some code → AllByRecursion Allowed (move_offers code id given table)
  move_allowed id code found =
      let test = λ (row : List Arg). allowed code (setting_at parts ctx (Some seat) row) table in
      let rows = rows_after [] code.arguments (map (λ (group : ArgumentGroup). group_numbers group given table) code.arguments) in
      each_mapped Allowed (λ (row : List Arg). (id, row)) (filter test rows)
      (each_kept (λ (row : List Arg). Allowed (id, row)) test
      (λ row passes words. subst (λ (o : Option MoveCode). IsValid (option_map_or (λ (c : MoveCode). made c (setting_at parts ctx (Some seat) row) table words) o (GaveUp Invalid))) (sym found)
      (made_valid code (setting_at parts ctx (Some seat) row) table words (test row) passes)) rows)

  from_allowed : (ids : List ℕ) (id : ℕ) (codes : List MoveCode) → ((i : ℕ) (code : MoveCode) → slice_get codes i ≡ Some code → slice_get parts.moves (id + i) ≡ Some code) → AllByRecursion Allowed (offers_from ids given table id codes)
  from_allowed ids id [] found = tt
  from_allowed ids id (code ∷ codes) found =
      let here : id + zero ≡ id = omega arith in
      each_joined Allowed (if is_among ids id then move_offers code id given table else []) (offers_from ids given table (id + 1) codes)
      (each_if Allowed (is_among ids id) (move_offers code id given table) (move_allowed id code (subst (λ k. slice_get parts.moves k ≡ Some code) here (found zero code refl))))
      (from_allowed ids (id + 1) codes (λ i c is. let later : id + suc i ≡ id + 1 + i = omega arith in subst (λ k. slice_get parts.moves k ≡ Some c) later (found (suc i) c is)))

  -- each move that is offered is allowed
  pub offers_allowed : AllByRecursion Allowed (offered ctx seat (all_offers parts table ctx seat))
  offers_allowed =
      offered_known Allowed ctx seat (all_offers parts table ctx seat)
      (from_allowed (moves_of parts.sheet ctx seat) 0 parts.moves (λ i code is. let same : i ≡ 0 + i = omega arith in subst (λ k. slice_get parts.moves k ≡ Some code) same is))

-- ---- offers are those on the seat's view

map_agree : {X Y : Type 0} (f g : X → Y) → ((x : X) → f x ≡ g x) → (xs : List X) → map f xs ≡ map g xs
map_agree f g same [] = refl
map_agree f g same (x ∷ xs) = ap (λ y. y ∷ map f xs) (same x) ∙ ap (λ ys. g x ∷ ys) (map_agree f g same xs)

module _ (parts : GameParts) (table : Table) (ctx : Ctx) (seat : ℕ) where
  abbrev seen : Table
  seen = strip table (Some seat)

  abbrev setting : Setting
  setting = setting_at parts ctx (Some seat) []

  items_seen : (row : ListedRow) → group_sees_own (Listed row) ≡ true → listed_items row setting seen ≡ listed_items row setting table
  items_seen row own =
      let both = and_parts (reads_own row.length) (reads_own row.item) own in
      ap (λ value. map (listed_item row setting seen) (range_with_len 0 (count_between row.most (Some (pos 0)) (number_of value)))) (same_value setting table [] seat refl row.length [] both.0)
      ∙ map_agree (listed_item row setting seen) (listed_item row setting table) (λ i. same_value setting table [] seat refl row.item (Some (Whole (pos i)) ∷ []) both.1) (range_with_len 0 (listed_count row setting table))

  numbers_seen : (group : ArgumentGroup) → group_sees_own group ≡ true → group_numbers group setting seen ≡ group_numbers group setting table
  numbers_seen (One row) own = refl
  numbers_seen (Listed row) own = ap (λ items. filter (has_number items) (range_with_len 0 (rows_count row.ranges))) (items_seen row own)

  all_seen : (groups : List ArgumentGroup) → list_all group_sees_own groups ≡ true → map (λ (group : ArgumentGroup). group_numbers group setting seen) groups ≡ map (λ (group : ArgumentGroup). group_numbers group setting table) groups
  all_seen [] own = refl
  all_seen (group ∷ groups) own =
      let parts_own = and_parts (group_sees_own group) (list_all group_sees_own groups) own in
      let rest = map (λ (g : ArgumentGroup). group_numbers g setting seen) groups in
      ap (λ (numbers : List ℕ). numbers ∷ rest) (numbers_seen group parts_own.0) ∙ ap (λ (rest : List (List ℕ)). group_numbers group setting table ∷ rest) (all_seen groups parts_own.1)

  allowed_seen : (code : MoveCode) (row : List Arg) → reads_own code.when ≡ true → allowed code (setting_at parts ctx (Some seat) row) seen ≡ allowed code (setting_at parts ctx (Some seat) row) table
  allowed_seen code row own =
      let s = setting_at parts ctx (Some seat) row in
      ap (λ value. arguments_fit ctx.seats code.arguments row && is_true value) (same_value s table [] seat refl code.when [] own)

  move_seen : (id : ℕ) (code : MoveCode) → move_sees_own code ≡ true → move_offers code id setting seen ≡ move_offers code id setting table
  move_seen id code own =
      let both = and_parts (reads_own code.when) (list_all group_sees_own code.arguments) own in
      ap (λ (numbers : List (List ℕ)). kept_rows code id setting seen (rows_after [] code.arguments numbers)) (all_seen code.arguments both.1)
      ∙ ap (map (λ (row : List Arg). (id, row)))
      (filter_agree (λ (row : List Arg). allowed code (setting_at parts ctx (Some seat) row) seen) (λ (row : List Arg). allowed code (setting_at parts ctx (Some seat) row) table) (λ row. allowed_seen code row both.0)
      (rows_after [] code.arguments (map (λ (group : ArgumentGroup). group_numbers group setting table) code.arguments)))

  from_seen : (ids : List ℕ) (id : ℕ) (codes : List MoveCode) → list_all move_sees_own codes ≡ true → offers_from ids setting seen id codes ≡ offers_from ids setting table id codes
  from_seen ids id [] own = refl
  from_seen ids id (code ∷ codes) own =
      let both = and_parts (move_sees_own code) (list_all move_sees_own codes) own in
      ap (λ (offers : List (ℕ × List Arg)). (if is_among ids id then offers else []) ++ offers_from ids setting seen (id + 1) codes) (move_seen id code both.0)
      ∙ ap (λ (offers : List (ℕ × List Arg)). (if is_among ids id then move_offers code id setting table else []) ++ offers) (from_seen ids (id + 1) codes both.1)

  -- a seat is offered the same on its view
  pub offers_seen : list_all move_sees_own parts.moves ≡ true → offered ctx seat (all_offers parts seen ctx seat) ≡ offered ctx seat (all_offers parts table ctx seat)
  offers_seen own = ap (offered ctx seat) (from_seen (moves_of parts.sheet ctx seat) 0 parts.moves own)
