-- A context that may stand in a plain snapshot reads back from its value.
use Rattle.std.proofs.Common.{◌≡◌, ℕ, ◌≤◌, List, [], ◌∷◌, Bool, true, false, cond, Option, Some, None, Ok, codes, refl, sym, ap, ◌∙◌, subst, if◌then◌else◌}
use Rattle.std.specs.List.{AllByRecursion}
use Rattle.std.specs.Prelude.{option_and_then, unwrap_or}
use Rattle.std.specs.Result.{result_ok}
use Rattle.serde_json.specs.Data.{Data, null, boolean, number, string, array, object, Items, Members, no_members, member}
use Rattle.serde_json.specs.Find.{get_member, as_bool}
use Rattle.json_tree.specs.Canonical.{IsCanonical, MembersAreCanonical}
use Rattle.json_tree.specs.Fields.{list_in}
use Rattle.json_tree.specs.Names.{has_extra}
use Rattle.json_tree.proofs.Rows.{row_is, canonical_member}
use Rattle.game_sheet.specs.SheetFits.{SheetFits}
use Rattle.game_sheet.specs.declared.act.Outcome.{Outcome}
use Rattle.game_sheet.specs.declared.act.Outcome.TheVariants.{Winner, Draw, Ended}
use Rattle.game_sheet.specs.declared.ctx.Ctx.{Ctx}
use Rattle.game_sheet.specs.declared.sheet.Sheet.{Sheet}
use Rattle.player_sight.specs.CtxData.{active_data, outcome_data, over_data, ctx_data}
use Rattle.sight_reading.specs.CtxReading.{Rows, active_from, active_in, over_in, is_flag, outcome_in, winner_in, order_in, phase_in, counts_in, ctx_in}
use Rattle.sheet_json.specs.Seats.{natural}
use Rattle.player_sight.specs.Parts.{naturals, phase_or_null}
use Rattle.player_sight.specs.Plain.{OverFits, IsPlainCtx}
use Rattle.sight_reading.specs.Reading.{naturals_from}
use Rattle.sight_reading.specs.declared.ctx_read.Counts.{Counts}
use Rattle.sight_reading.proofs.EntryLaws.{phase_again, phase_is}
use Rattle.sight_reading.proofs.NumberLaws.{good, natural_is, natural_again}
use Rattle.sight_reading.proofs.PartLaws.{step, chained, mapped, past, naturals_is, naturals_again}
use Rattle.sight_reading.proofs.RowLaws.{active_again}
use Rattle.sight_reading.proofs.RowsAre.{active_is}
use Rattle.std.specs.Option.{option_map_or}

abbrev over_from : Data → Option (Option Outcome)
over_from d = over_in (Some d)

over_again : (over : Option Outcome) → OverFits over → over_from (over_data over) ≡ Some over
unfolding outcome_in winner_in
over_again None h = refl
over_again (Some (Winner seat)) h = rw (natural_again 255 seat h) refl
over_again (Some Draw) h = refl
over_again (Some Ended) h = refl

pub ctx_again : (sheet : Sheet) (ctx : Ctx) → SheetFits sheet → IsPlainCtx sheet ctx → ctx_in sheet (ctx_data sheet ctx) ≡ Some ctx
unfolding ctx_in counts_in
ctx_again sheet ctx fit h =
    rw (
      active_again sheet ctx.active fit h.active,
      over_again ctx.over h.over,
      phase_again sheet ctx.phase fit h.phase,
      naturals_again ctx.order h.order,
      natural_again 255 ctx.current h.current,
      natural_again 4294967295 ctx.moves h.moves,
      natural_again 255 ctx.seats h.seats,
      natural_again 255 ctx.pos h.pos,
      natural_again 4294967295 ctx.turn h.turn,
    ) refl

-- ---- from a value to its context

winner_is : (ms : Members) (seat : ℕ) → MembersAreCanonical ms → winner_in (object ms) ≡ Some seat → (ms ≡ member (codes "winner") (natural seat) no_members) × (seat ≤ 255)
unfolding winner_in
winner_is ms seat c e =
    let known = past (has_extra (codes "winner" ∷ []) ms) _ seat e in
    let at = natural_is 255 (get_member (codes "winner") ms) seat known.1 in
    (row_is (codes "winner" ∷ []) ms (member (codes "winner") (natural seat) no_members) c (tt, tt) known.0 refl (at.0, tt), at.1)

true_is : (o : Option Data) → unwrap_or (option_and_then as_bool o) false ≡ true → o ≡ Some (boolean true)
true_is None e = absurd (cc)
true_is (Some null) e = absurd (cc)
true_is (Some (boolean true)) e = refl
true_is (Some (boolean false)) e = absurd (cc)
true_is (Some (number n)) e = absurd (cc)
true_is (Some (string s)) e = absurd (cc)
true_is (Some (array ds)) e = absurd (cc)
true_is (Some (object ms)) e = absurd (cc)

unless : (b rest : Bool) → cond b false rest ≡ true → (b ≡ false) × (rest ≡ true)
unless true rest e = absurd (cc)
unless false rest e = (refl, e)

flag_is : (name : List ℕ) (ms : Members) → MembersAreCanonical ms → has_extra (name ∷ []) (member name (boolean true) no_members) ≡ false → get_member name (member name (boolean true) no_members) ≡ Some (boolean true)
    → is_flag name (object ms) ≡ true → ms ≡ member name (boolean true) no_members
flag_is name ms c own here e =
    let known = unless (has_extra (name ∷ []) ms) _ e in
    row_is (name ∷ []) ms (member name (boolean true) no_members) c (tt, tt) known.0 own (true_is (get_member name ms) known.1 ∙ sym here, tt)

abbrev IsOver : Members → Outcome → Type 0
IsOver ms outcome = (object ms ≡ outcome_data outcome) × OverFits (Some outcome)

chosen : (a b : Bool) (ms : Members) (outcome : Outcome) → (a ≡ true → IsOver ms Draw) → (b ≡ true → IsOver ms Ended) → cond a (Some Draw) (cond b (Some Ended) None) ≡ Some outcome → IsOver ms outcome
chosen true b ms outcome h k e = let is : Draw ≡ outcome = cc (e) in subst (IsOver ms) is (h refl)
chosen false true ms outcome h k e = let is : Ended ≡ outcome = cc (e) in subst (IsOver ms) is (k refl)
chosen false false ms outcome h k e = absurd (cc (e))

outcome_by_is : (ms : Members) (o : Option ℕ) (outcome : Outcome) → MembersAreCanonical ms → winner_in (object ms) ≡ o → option_map_or (λ seat. Some (Winner seat)) o (if is_flag (codes "draw") (object ms) then Some Draw else if is_flag (codes "ended") (object ms) then Some Ended else None) ≡ Some outcome → IsOver ms outcome
outcome_by_is ms (Some seat) outcome c w e =
    let is : Winner seat ≡ outcome = cc (e) in
    let won = winner_is ms seat c w in
    subst (IsOver ms) is (ap object won.0, won.1)
outcome_by_is ms None outcome c w e =
    chosen (is_flag (codes "draw") (object ms)) (is_flag (codes "ended") (object ms)) ms outcome
    (λ h. (ap object (flag_is (codes "draw") ms c refl refl h), tt)) (λ h. (ap object (flag_is (codes "ended") ms c refl refl h), tt)) e

over_is : (d : Data) (over : Option Outcome) → IsCanonical d → over_from d ≡ Some over → (d ≡ over_data over) × OverFits over
unfolding outcome_in
over_is null None c e = (refl, tt)
over_is null (Some outcome) c e = absurd (cc)
over_is (boolean b) over c e = absurd (cc)
over_is (number n) over c e = absurd (cc)
over_is (string s) over c e = absurd (cc)
over_is (array ds) over c e = absurd (cc)
over_is (object ms) over c e =
    let outcome = mapped (λ x. Some x) (option_map_or (λ seat. Some (Winner seat)) (winner_in (object ms)) (if is_flag (codes "draw") (object ms) then Some Draw else if is_flag (codes "ended") (object ms) then Some Ended else None)) over e in
    let is = outcome_by_is ms (winner_in (object ms)) outcome.0 c refl outcome.1 in
    subst (λ x. (object ms ≡ over_data x) × OverFits x) outcome.2 is

record AreCounts (ms : Members) (counts : Counts) : Type 0 where
  current : get_member (codes "currentPlayer") ms ≡ Some (natural counts.current)
  moves : get_member (codes "numMoves") ms ≡ Some (natural counts.moves)
  seats : get_member (codes "numPlayers") ms ≡ Some (natural counts.seats)
  pos : get_member (codes "playOrderPos") ms ≡ Some (natural counts.pos)
  turn : get_member (codes "turn") ms ≡ Some (natural counts.turn)
  current_fits : counts.current ≤ 255
  moves_fit : counts.moves ≤ 4294967295
  seats_fit : counts.seats ≤ 255
  pos_fits : counts.pos ≤ 255
  turn_fits : counts.turn ≤ 4294967295

counts_are : (ms : Members) (counts : Counts) → counts_in (object ms) ≡ Some counts → AreCounts ms counts
unfolding counts_in
counts_are ms counts e =
    let current = step _ _ counts e in
    let moves = step _ _ counts current.2 in
    let seats = step _ _ counts moves.2 in
    let pos = step _ _ counts seats.2 in
    let turn = step _ _ counts pos.2 in
    let a = natural_is 255 (get_member (codes "currentPlayer") ms) current.0 current.1 in
    let b = natural_is 4294967295 (get_member (codes "numMoves") ms) moves.0 moves.1 in
    let c = natural_is 255 (get_member (codes "numPlayers") ms) seats.0 seats.1 in
    let d = natural_is 255 (get_member (codes "playOrderPos") ms) pos.0 pos.1 in
    let f = natural_is 4294967295 (get_member (codes "turn") ms) turn.0 turn.1 in
    let all : Counts = record { current = current.0; moves = moves.0; seats = seats.0; pos = pos.0; turn = turn.0 } in
    let same : all ≡ counts = cc (turn.2) in
    subst (AreCounts ms) same
    (record { current = a.0; moves = b.0; seats = c.0; pos = d.0; turn = f.0; current_fits = a.1; moves_fit = b.1; seats_fit = c.1; pos_fits = d.1; turn_fits = f.1 })

pub list_is : (o : Option Data) (ds : Items) → list_in o ≡ Ok ds → o ≡ Some (array ds)
list_is None ds e = absurd (cc)
list_is (Some null) ds e = absurd (cc)
list_is (Some (boolean b)) ds e = absurd (cc)
list_is (Some (number n)) ds e = absurd (cc)
list_is (Some (string t)) ds e = absurd (cc)
list_is (Some (array es)) ds e = let same : es ≡ ds = cc in ap (λ x. Some (array x)) same
list_is (Some (object ms)) ds e = absurd (cc)

order_is : (o : Option Data) (order : List ℕ) → order_in o ≡ Some order → (o ≡ Some (naturals order)) × AllByRecursion (λ seat. seat ≤ 255) order
order_is o order e =
    let ds = chained naturals_from (result_ok (list_in o)) order e in
    let are = naturals_is ds.0 order ds.2 in
    (list_is o ds.0 (good (list_in o) ds.0 ds.1) ∙ ap (λ x. Some (array x)) are.0, are.1)

abbrev pub Reads : Sheet → Data → Ctx → Type 0
Reads sheet d ctx = (d ≡ ctx_data sheet ctx) × IsPlainCtx sheet ctx

abbrev ctx_names : List (List ℕ)
ctx_names = codes "activePlayers" ∷ codes "currentPlayer" ∷ codes "gameover" ∷ codes "numMoves" ∷ codes "numPlayers" ∷ codes "phase"
    ∷ codes "playOrder" ∷ codes "playOrderPos" ∷ codes "turn" ∷ []

abbrev ctx_from : Option Rows → Option Outcome → Option ℕ → List ℕ → Counts → Ctx
ctx_from active over phase order n =
    record { seats = n.seats; turn = n.turn; current = n.current; order = order; pos = n.pos; phase = phase; active = active; moves = n.moves; over = over }

-- the members of an object with these values
ctx_row : Data → Data → Data → Data → Counts → Members
ctx_row active over phase order counts =
    member (codes "activePlayers") active
    (member (codes "currentPlayer") (natural counts.current)
    (member (codes "gameover") over
    (member (codes "numMoves") (natural counts.moves)
    (member (codes "numPlayers") (natural counts.seats)
    (member (codes "phase") phase
    (member (codes "playOrder") order
    (member (codes "playOrderPos") (natural counts.pos)
    (member (codes "turn") (natural counts.turn) no_members))))))))

ctx_members_are : (sheet : Sheet) (ms : Members) (ctx : Ctx) → MembersAreCanonical ms → ctx_in sheet (object ms) ≡ Some ctx → Reads sheet (object ms) ctx
unfolding ctx_in ctx_row
ctx_members_are sheet ms ctx c e =
    let known = past (has_extra ctx_names ms) _ ctx e in
    let over = step (over_in (get_member (codes "gameover") ms)) _ ctx known.1 in
    let phase = step (phase_in sheet (get_member (codes "phase") ms)) _ ctx over.2 in
    let counts = step (counts_in (object ms)) _ ctx phase.2 in
    let order = step (order_in (get_member (codes "playOrder") ms)) _ ctx counts.2 in
    let active = step (active_in sheet (get_member (codes "activePlayers") ms)) _ ctx order.2 in
    let active_there = chained (active_from sheet) (get_member (codes "activePlayers") ms) active.0 active.1 in
    let actives = active_is sheet active_there.0 active.0 (canonical_member (codes "activePlayers") ms active_there.0 c active_there.1) active_there.2 in
    let over_there = chained over_from (get_member (codes "gameover") ms) over.0 over.1 in
    let overs = over_is over_there.0 over.0 (canonical_member (codes "gameover") ms over_there.0 c over_there.1) over_there.2 in
    let phases = phase_is sheet (get_member (codes "phase") ms) phase.0 phase.1 in
    let orders = order_is (get_member (codes "playOrder") ms) order.0 order.1 in
    let many = counts_are ms counts.0 counts.1 in
    let row = row_is ctx_names ms (ctx_row (active_data sheet active.0) (over_data over.0) (phase_or_null sheet phase.0) (naturals order.0) counts.0) c
    ((refl, (refl, (refl, (refl, (refl, (refl, (refl, (refl, tt)))))))), ((refl, (refl, (refl, (refl, (refl, (refl, (refl, tt))))))), ((refl, (refl, (refl, (refl, (refl, (refl, tt)))))), ((refl, (refl, (refl, (refl, (refl, tt))))), ((refl, (refl, (refl, (refl, tt)))), ((refl, (refl, (refl, tt))), ((refl, (refl, tt)), ((refl, tt), (tt, tt))))))))) known.0 refl
    (active_there.1 ∙ ap (λ d. Some d) actives.0, (many.current, (over_there.1 ∙ ap (λ d. Some d) overs.0, (many.moves, (many.seats, (phases.0, (orders.0, (many.pos, (many.turn, tt))))))))) in
    let plain : IsPlainCtx sheet (ctx_from active.0 over.0 phase.0 order.0 counts.0) = record {
      seats = many.seats_fit;
      turn = many.turn_fits;
      current = many.current_fits;
      order = orders.1;
      pos = many.pos_fits;
      phase = phases.1;
      active = actives.1;
      moves = many.moves_fit;
      over = overs.1;
    } in
    let same : ctx_from active.0 over.0 phase.0 order.0 counts.0 ≡ ctx = cc (active.2) in
    subst (Reads sheet (object ms)) same (ap object row, plain)

pub ctx_is : (sheet : Sheet) (d : Data) (ctx : Ctx) → IsCanonical d → ctx_in sheet d ≡ Some ctx → Reads sheet d ctx
unfolding ctx_in
ctx_is sheet null ctx c e = absurd (cc)
ctx_is sheet (boolean b) ctx c e = absurd (cc)
ctx_is sheet (number n) ctx c e = absurd (cc)
ctx_is sheet (string s) ctx c e = absurd (cc)
ctx_is sheet (array ds) ctx c e = absurd (cc)
ctx_is sheet (object ms) ctx c e = ctx_members_are sheet ms ctx c e
