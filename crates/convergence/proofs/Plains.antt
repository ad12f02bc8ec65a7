-- What a match comes to may be shown: its contexts are plain, and so are the actions that a client may ask for.
use Rattle.std.proofs.Common.{◌≡◌, ◌<◌, ◌≤◌, ◌+◌, ◌*◌, ℕ, suc, Bool, true, false, nat_eq, nat_lt, List, [], ◌∷◌, length, map, position, get_or, Option, Some, None, is_some, option_map, if◌then◌else◌, arith, refl, sym, subst}
use Rattle.std.specs.List.{AllByRecursion, position_or_len}
use Rattle.std.specs.Prelude.{IfSome}
use Rattle.std.specs.Str.{bytes_eq}
use Rattle.std.proofs.lemmas.Bool.Decides.{nat_tests}
use Rattle.game_sheet.specs.SheetFits.{SheetFits}
use Rattle.game_sheet.specs.SheetNames.{move_of, phase_of, stage_of}
use Rattle.game_sheet.specs.declared.act.Act.{Act}
use Rattle.game_sheet.specs.declared.act.Act.TheVariants.{Move, Event}
use Rattle.game_sheet.specs.declared.act.Event.{Event as Happening}
use Rattle.game_sheet.specs.declared.act.Event.TheVariants.{SetPhase, SetStage}
use Rattle.game_sheet.specs.declared.act.EventKind.{EventKind}
use Rattle.game_sheet.specs.declared.act.EventKind.TheVariants as kind
use Rattle.game_sheet.specs.declared.act.Outcome.{Outcome}
use Rattle.game_sheet.specs.declared.act.Outcome.TheVariants.{Winner, Draw, Ended}
use Rattle.game_sheet.specs.declared.ctx.Ctx.{Ctx}
use Rattle.game_sheet.specs.declared.sheet.Sheet.{Sheet}
use Rattle.game_trait.specs.InSheet.{ActInSheet, EventInSheet, OutcomeFits}
use Rattle.phase_flow.specs.IsSound.{IsSound}
use Rattle.player_sight.specs.Plain.{ActFits, ActiveFits, EventFits, IsIn, IsPlainCtx, OverFits, RowsFit}
use Rattle.stage_map.specs.Active.{Map, shown, shown_row}
use Rattle.stage_map.specs.IsSound.{Rise, RowFits, StandsOrNull}
use Rattle.stage_map.specs.Moves.{may, place_of}
use Rattle.stage_map.specs.Parts.{may_on}
use Rattle.stage_map.specs.declared.rows.Row.{Row}
use Rattle.wire_json.specs.Asking.{AskedFits, MayAim}
use Rattle.wire_json.specs.Resolve.{act_of, event_of}
use Rattle.wire_json.specs.declared.asked.Asked.{Asked}
use Rattle.wire_json.specs.declared.asked.Asked.TheVariants as asked
use Rattle.wire_json.specs.declared.asked.AskedTo.{AskedTo}
use Rattle.wire_json.specs.declared.asked.AskedTo.TheVariants as to

-- ---- contexts

by_place : (P : ℕ → Type 0) (xs : List ℕ) → ((i : ℕ) → i < length xs → P (get_or xs i 0)) → AllByRecursion P xs
by_place P [] h = tt
by_place P (x ∷ xs) h = (h 0 (omega arith), by_place P xs (λ i l. h (suc i) (omega arith)))

pub is_in : (count : ℕ) (o : Option ℕ) → ((i : ℕ) → o ≡ Some i → i < count) → IsIn count o
is_in count None h = tt
is_in count (Some i) h = h i refl

above_all : (low : ℕ) (x : Row) (xs : List Row) → low ≤ x.seat → AllByRecursion (λ (later : Row). x.seat < later.seat) xs → AllByRecursion (λ (later : Row). x.seat + 1 ≤ later.seat) xs
above_all low x [] h a = tt
above_all low x (y ∷ xs) h a = (omega (arith, a.0), above_all low x xs h a.1)

over_fits : (o : Option Outcome) → IfSome o OutcomeFits → OverFits o
over_fits None h = tt
over_fits (Some (Winner seat)) h = omega (arith, h)
over_fits (Some Draw) h = tt
over_fits (Some Ended) h = tt

module _ (sheet : Sheet) (fits : SheetFits sheet) where
  rows_fit : (seats most low : ℕ) (xs : List Row) → seats ≤ 16 → AllByRecursion (λ (row : Row). low ≤ row.seat) xs → Rise xs → AllByRecursion (RowFits (length sheet.stages) seats most) xs → RowsFit sheet low (map shown_row xs)
  rows_fit seats most low [] few l r f = tt
  rows_fit seats most low (x ∷ xs) few l r f =
      (l.0, omega (arith, f.0.seat), is_in (length sheet.stages) x.stage f.0.stage, rows_fit seats most (x.seat + 1) xs few (above_all low x xs l.0 r.0) r.1 f.1)

  all_from_zero : (xs : List Row) → AllByRecursion (λ (row : Row). 0 ≤ row.seat) xs
  all_from_zero [] = tt
  all_from_zero (x ∷ xs) = (omega arith, all_from_zero xs)

  active_fits : (specs seats most : ℕ) (rows : Option (List Row)) (m : Map) → seats ≤ 16 → StandsOrNull specs (length sheet.stages) seats most rows m → ActiveFits sheet (option_map (map shown_row) rows)
  active_fits specs seats most None m few s = tt
  active_fits specs seats most (Some xs) m few s = rows_fit seats most 0 xs few (all_from_zero xs) s.rise s.fit

  pub plain_ctx : (n : ℕ) (ctx : Ctx) (active : Map) → n ≤ 4096 → IsSound sheet n ctx active → ctx.turn ≤ 65 + 64 * n → IfSome ctx.over OutcomeFits → IsPlainCtx sheet ctx
  plain_ctx n ctx active few s turns over =
      let seats : ctx.seats ≤ 16 = omega (arith, s.seats_most, fits.most) in
      let current : ctx.current < ctx.seats = subst (λ k. k < ctx.seats) s.current (s.order.inside ctx.pos 0 s.pos) in
      record {
        seats = omega arith;
        turn = omega arith;
        current = omega arith;
        order = by_place (λ seat. seat ≤ 255) ctx.order (λ i l. let inside : get_or ctx.order i 0 < ctx.seats = s.order.inside i 0 l in omega arith);
        pos = omega (arith, s.pos, s.order.most);
        phase = is_in (length sheet.phases) ctx.phase s.phase;
        active = subst (ActiveFits sheet) (sym s.shows) (active_fits _ ctx.seats n active.rows active seats s.map_sound.present);
        moves = omega (arith, s.moves);
        over = over_fits ctx.over over;
      }

-- ---- seats that may act

same_seat : (a b : ℕ) → nat_eq a b ≡ true → a ≡ b
same_seat a b h = grind (arith, nat_tests)

by_row : (seats seat : ℕ) (row : Row) (rest : Option (Option ℕ)) (b : Bool) → nat_eq row.seat seat ≡ b → row.seat < seats → (is_some rest ≡ true → seat < seats) → is_some (if b then Some row.stage else rest) ≡ true → seat < seats
by_row seats seat row rest true e r later h = subst (λ n. n < seats) (same_seat row.seat seat e) r
by_row seats seat row rest false e r later h = later h

listed_seat : (stages seats most seat : ℕ) (listed : List Row) → AllByRecursion (RowFits stages seats most) listed → is_some (place_of (map shown_row listed) seat) ≡ true → seat < seats
listed_seat stages seats most seat [] a h = cc
listed_seat stages seats most seat (row ∷ listed) a h =
    by_row seats seat row (place_of (map shown_row listed) seat) (nat_eq row.seat seat) refl a.0.seat (λ g. listed_seat stages seats most seat listed a.1 g) h

mapped_seat : (specs stages seats most seat current : ℕ) (rows : Option (List Row)) (m : Map) → StandsOrNull specs stages seats most rows m → current < seats → may_on (option_map (map shown_row) rows) current seat ≡ true → seat < seats
mapped_seat specs stages seats most seat current None m s c h = subst (λ n. n < seats) (sym (same_seat seat current h)) c
mapped_seat specs stages seats most seat current (Some listed) m s c h = listed_seat stages seats most seat listed s.fit h

pub may_be_seat : (sheet : Sheet) (most : ℕ) (ctx : Ctx) (active : Map) (seat : ℕ) → IsSound sheet most ctx active → may ctx seat ≡ true → seat < ctx.seats
may_be_seat sheet most ctx active seat s h =
    let current : ctx.current < ctx.seats = subst (λ n. n < ctx.seats) s.current (s.order.inside ctx.pos 0 s.pos) in
    let shown_may : may_on (shown active) ctx.current seat ≡ true = subst (λ rows. may_on rows ctx.current seat ≡ true) s.shows h in
    mapped_seat _ _ ctx.seats most seat ctx.current active.rows active s.map_sound.present current shown_may

-- ---- acts that are asked for by names

chosen : (b : Bool) (n i : ℕ) → (if b then Some n else None) ≡ Some i → (b ≡ true) × (n ≡ i)
chosen true n i h = (refl, cc)
chosen false n i h = cc

below_is : (m n : ℕ) → nat_lt m n ≡ true → m < n
below_is m n h = grind (arith, nat_tests)

within : {X : Type 0} (p : X → Bool) (xs : List X) (i : ℕ) → position p xs ≡ Some i → i < length xs
within p xs i h =
    let at = chosen (nat_lt (position_or_len p xs) (length xs)) (position_or_len p xs) i h in
    subst (λ k. k < length xs) at.1 (below_is (position_or_len p xs) (length xs) at.0)

module _ (sheet : Sheet) where
  abbrev SomeEventFits : Option Happening → Type 0
  SomeEventFits None = Unit {0}
  SomeEventFits (Some e) = EventInSheet sheet e × EventFits sheet e

  phase_fits : (o : Option ℕ) → ((i : ℕ) → o ≡ Some i → i < length sheet.phases) → SomeEventFits (option_map SetPhase o)
  phase_fits None h = tt
  phase_fits (Some i) h = (h i refl, h i refl)

  stage_fits : (o : Option ℕ) → ((i : ℕ) → o ≡ Some i → i < length sheet.stages) → SomeEventFits (option_map SetStage o)
  stage_fits None h = tt
  stage_fits (Some i) h = (h i refl, h i refl)

  event_fits : (k : EventKind) (t : AskedTo) → MayAim k t → SomeEventFits (event_of sheet k t)
  event_fits kind.EndTurn to.Nothing h = (tt, tt)
  event_fits kind.EndTurn (to.Seat seat) h = (tt, h)
  event_fits kind.EndTurn (to.Name name) h = absurd h
  event_fits kind.EndPhase to.Nothing h = (tt, tt)
  event_fits kind.EndPhase (to.Seat seat) h = absurd h
  event_fits kind.EndPhase (to.Name name) h = absurd h
  event_fits kind.SetPhase to.Nothing h = absurd h
  event_fits kind.SetPhase (to.Seat seat) h = absurd h
  event_fits kind.SetPhase (to.Name name) h = phase_fits (phase_of sheet name) (within (λ row. bytes_eq row.name name) sheet.phases)
  event_fits kind.EndStage to.Nothing h = (tt, tt)
  event_fits kind.EndStage (to.Seat seat) h = absurd h
  event_fits kind.EndStage (to.Name name) h = absurd h
  event_fits kind.SetStage to.Nothing h = absurd h
  event_fits kind.SetStage (to.Seat seat) h = absurd h
  event_fits kind.SetStage (to.Name name) h = stage_fits (stage_of sheet name) (within (λ row. bytes_eq row.name name) sheet.stages)
  event_fits kind.EndGame to.Nothing h = (tt, refl)
  event_fits kind.EndGame (to.Seat seat) h = absurd h
  event_fits kind.EndGame (to.Name name) h = absurd h

  abbrev SomeActFits : Option Act → Type 0
  SomeActFits None = Unit {0}
  SomeActFits (Some act) = ActInSheet sheet act × ActFits sheet false act

  mapped_event : (o : Option Happening) → SomeEventFits o → SomeActFits (option_map Event o)
  mapped_event None h = tt
  mapped_event (Some e) h = h

  some_fits : (a : Asked) → AskedFits a → SomeActFits (act_of sheet a)
  some_fits (asked.Move name args) h = moved (move_of sheet name) (within (λ row. bytes_eq row.name name) sheet.moves)
    where
      moved : (o : Option ℕ) → ((i : ℕ) → o ≡ Some i → i < length sheet.moves) → SomeActFits (option_map (λ id. Move id args) o)
      moved None known = tt
      moved (Some id) known = (known id refl, (known id refl, h.1))
  some_fits (asked.Event k t) h = mapped_event (event_of sheet k t) (event_fits k t h)
  some_fits asked.Undo h = (tt, tt)
  some_fits asked.Redo h = (tt, tt)

  -- what a client may ask for, once its names are looked up, is in the sheet and may stand in a log
  pub asked_fits : (a : Asked) (act : Act) → AskedFits a → act_of sheet a ≡ Some act → ActInSheet sheet act × ActFits sheet false act
  asked_fits a act h e = subst SomeActFits e (some_fits a h)
