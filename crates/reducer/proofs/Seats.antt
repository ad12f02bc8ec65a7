-- A seat that may act is a seat of the match.
use Rattle.std.proofs.Common.{◌≡◌, ◌<◌, ℕ, Bool, true, false, nat_eq, List, [], ◌∷◌, map, Option, Some, None, is_some, option_map, if◌then◌else◌, arith, refl, sym, subst}
use Rattle.std.specs.List.{AllByRecursion}
use Rattle.std.proofs.lemmas.Bool.Decides.{nat_tests}
use Rattle.game_sheet.specs.declared.ctx.Ctx.{Ctx}
use Rattle.game_sheet.specs.declared.sheet.Sheet.{Sheet}
use Rattle.stage_map.specs.declared.rows.Row.{Row}
use Rattle.stage_map.specs.Active.{Map, shown, shown_row}
use Rattle.stage_map.specs.IsSound.{RowFits, StandsOrNull}
use Rattle.stage_map.specs.Moves.{may, place_of}
use Rattle.stage_map.specs.Parts.{may_on}
use Rattle.phase_flow.specs.IsSound.{IsSound}

same_seat : (a b : ℕ) → nat_eq a b ≡ true → a ≡ b
same_seat a b h = grind (arith, nat_tests)

by_row : (seats seat : ℕ) (row : Row) (rest : Option (Option ℕ)) (b : Bool) → nat_eq row.seat seat ≡ b → row.seat < seats → (is_some rest ≡ true → seat < seats) → is_some (if b then Some row.stage else rest) ≡ true → seat < seats
by_row seats seat row rest true e r later h = subst (λ n. n < seats) (same_seat row.seat seat e) r
by_row seats seat row rest false e r later h = later h

listed_seat : (stages seats most seat : ℕ) (listed : List Row) → AllByRecursion (RowFits stages seats most) listed → is_some (place_of (map shown_row listed) seat) ≡ true → seat < seats
listed_seat stages seats most seat [] a h = cc
listed_seat stages seats most seat (row ∷ listed) a h =
    by_row seats seat row (place_of (map shown_row listed) seat) (nat_eq row.seat seat) refl a.0.seat (λ g. listed_seat stages seats most seat listed a.1 g) h

mapped_seat : (specs stages seats most seat current : ℕ) (rows : Option (List Row)) (m : Map) → StandsOrNull specs stages seats most rows m → current < seats → may_on (option_map (map shown_row) rows) current seat ≡ true → seat < seats
mapped_seat specs stages seats most seat current None m s c h = subst (λ n. n < seats) (sym (same_seat seat current h)) c
mapped_seat specs stages seats most seat current (Some listed) m s c h = listed_seat stages seats most seat listed s.fit h

pub may_is_seat : (sheet : Sheet) (most : ℕ) (ctx : Ctx) (active : Map) (seat : ℕ) → IsSound sheet most ctx active → may ctx seat ≡ true → seat < ctx.seats
may_is_seat sheet most ctx active seat s h =
    let current : ctx.current < ctx.seats = subst (λ n. n < ctx.seats) s.current (s.order.inside ctx.pos 0 s.pos) in
    let shown_may : may_on (shown active) ctx.current seat ≡ true = subst (λ rows. may_on rows ctx.current seat ≡ true) s.shows h in
    mapped_seat _ _ ctx.seats most seat ctx.current active.rows active s.map_sound.present current shown_may
