-- An entry that may stand in a plain snapshot reads back from its value, and what reads as an entry is its value.
use Rattle.std.proofs.Common.{◌≡◌, ℕ, List, [], ◌∷◌, length, Option, Some, None, codes, refl, sym, ap, ◌∙◌, subst}
use Rattle.serde_json.specs.Data.{Data, null, boolean, number, string, array, object, Members, no_members, member}
use Rattle.serde_json.specs.Find.{get_member}
use Rattle.json_tree.specs.Canonical.{IsCanonical, MembersAreCanonical}
use Rattle.json_tree.specs.Names.{has_extra}
use Rattle.json_tree.proofs.Rows.{row_is, canonical_member}
use Rattle.game_sheet.specs.SheetFits.{SheetFits}
use Rattle.game_sheet.specs.declared.sheet.PhaseRow.{PhaseRow}
use Rattle.game_sheet.specs.declared.sheet.Sheet.{Sheet}
use Rattle.move_log.specs.declared.entry.Entry.{Entry}
use Rattle.sight_reading.specs.CtxReading.{phase_in}
use Rattle.player_sight.specs.EntryData.{act_data, entry_data}
use Rattle.game_sheet.specs.SheetNames.{phase_of}
use Rattle.sheet_json.specs.Seats.{natural}
use Rattle.sight_reading.specs.EntryReading.{deed_in, entry_in}
use Rattle.player_sight.specs.Parts.{phase_or_null}
use Rattle.player_sight.specs.Plain.{IsIn, IsPlainEntry}
use Rattle.sight_reading.specs.Reading.{id_or_null}
use Rattle.sight_reading.specs.declared.entry_read.Deed.{Deed}
use Rattle.sight_reading.proofs.NumberLaws.{natural_is, natural_again}
use Rattle.sight_reading.proofs.PartLaws.{name_or_null, step, chained, past, id_is, id_again}
use Rattle.sight_reading.proofs.ActLaws.{deed_as, deed_again, deed_shown}

pub phase_again : (sheet : Sheet) (o : Option ℕ) → SheetFits sheet → IsIn (length sheet.phases) o → id_or_null (phase_of sheet) (phase_or_null sheet o) ≡ Some o
phase_again sheet None fit h = refl
phase_again sheet (Some id) fit h = id_again (λ (row : PhaseRow). row.name) sheet.phases (Some id) fit.phase_names h

abbrev entry_from : Deed → ℕ → Option ℕ → ℕ → ℕ → Entry
entry_from deed at phase seat turn = record { seat = seat; act = deed.act; hidden = deed.hidden; number = at; turn = turn; phase = phase; words = 0 }

no_words : (e : Entry) → e.words ≡ 0 → entry_from (deed_as e.hidden e.act) e.number e.phase e.seat e.turn ≡ e
no_words e h = ap (λ w. record e { words = w }) (sym h)

pub entry_again : (sheet : Sheet) (e : Entry) → SheetFits sheet → IsPlainEntry sheet e → entry_in sheet (entry_data sheet e) ≡ Some e
unfolding entry_in
entry_again sheet e fit h =
    rw (deed_again sheet e.hidden e.act fit h.act, natural_again 4294967295 e.number h.number, phase_again sheet e.phase fit h.phase, natural_again 255 e.seat h.seat, natural_again 4294967295 e.turn h.turn) (ap (λ x. Some x) (no_words e h.words))

-- ---- from a value to its entry

phase_same : (sheet : Sheet) (o : Option ℕ) → name_or_null (λ (row : PhaseRow). row.name) sheet.phases o ≡ phase_or_null sheet o
phase_same sheet None = refl
phase_same sheet (Some id) = refl

pub phase_is : (sheet : Sheet) (o : Option Data) (phase : Option ℕ) → phase_in sheet o ≡ Some phase → (o ≡ Some (phase_or_null sheet phase)) × IsIn (length sheet.phases) phase
phase_is sheet o phase e =
    let d = chained (id_or_null (phase_of sheet)) o phase e in
    let is = id_is (λ (row : PhaseRow). row.name) sheet.phases d.0 phase d.2 in
    (d.1 ∙ ap (λ x. Some x) (is.0 ∙ phase_same sheet phase), is.1)

abbrev entry_names : List (List ℕ)
entry_names = codes "act" ∷ codes "number" ∷ codes "phase" ∷ codes "seat" ∷ codes "turn" ∷ []

entry_row : Data → ℕ → Data → ℕ → ℕ → Members
entry_row act at phase seat turn =
    member (codes "act") act (member (codes "number") (natural at) (member (codes "phase") phase (member (codes "seat") (natural seat) (member (codes "turn") (natural turn) no_members))))

abbrev pub Reads : Sheet → Data → Entry → Type 0
Reads sheet d e = (d ≡ entry_data sheet e) × IsPlainEntry sheet e

entry_members_are : (sheet : Sheet) (ms : Members) (e : Entry) → MembersAreCanonical ms → entry_in sheet (object ms) ≡ Some e → Reads sheet (object ms) e
unfolding entry_in entry_row
entry_members_are sheet ms e c is =
    let known = past (has_extra entry_names ms) _ e is in
    let at = step _ _ e known.1 in
    let phase = step _ _ e at.2 in
    let seat = step _ _ e phase.2 in
    let turn = step _ _ e seat.2 in
    let deed = step _ _ e turn.2 in
    let act = chained (deed_in sheet) (get_member (codes "act") ms) deed.0 deed.1 in
    let deed_value = deed_shown sheet act.0 deed.0 (canonical_member (codes "act") ms act.0 c act.1) act.2 in
    let number = natural_is 4294967295 (get_member (codes "number") ms) at.0 at.1 in
    let in_phase = phase_is sheet (get_member (codes "phase") ms) phase.0 phase.1 in
    let place = natural_is 255 (get_member (codes "seat") ms) seat.0 seat.1 in
    let count = natural_is 4294967295 (get_member (codes "turn") ms) turn.0 turn.1 in
    let row = row_is entry_names ms (entry_row (act_data sheet deed.0.hidden deed.0.act) at.0 (phase_or_null sheet phase.0) seat.0 turn.0) c
    ((refl, (refl, (refl, (refl, tt)))), ((refl, (refl, (refl, tt))), ((refl, (refl, tt)), ((refl, tt), (tt, tt))))) known.0 refl
    (act.1 ∙ ap (λ d. Some d) deed_value.0, (number.0, (in_phase.0, (place.0, (count.0, tt))))) in
    let same : entry_from deed.0 at.0 phase.0 seat.0 turn.0 ≡ e = cc (deed.2) in
    let plain : IsPlainEntry sheet (entry_from deed.0 at.0 phase.0 seat.0 turn.0) = record { seat = place.1; act = deed_value.1; number = number.1; turn = count.1; phase = in_phase.1; words = refl } in
    subst (Reads sheet (object ms)) same (ap object row, plain)

pub entry_is : (sheet : Sheet) (d : Data) (e : Entry) → IsCanonical d → entry_in sheet d ≡ Some e → Reads sheet d e
unfolding entry_in
entry_is sheet null e c is = absurd (cc)
entry_is sheet (boolean b) e c is = absurd (cc)
entry_is sheet (number n) e c is = absurd (cc)
entry_is sheet (string s) e c is = absurd (cc)
entry_is sheet (array ds) e c is = absurd (cc)
entry_is sheet (object ms) e c is = entry_members_are sheet ms e c is
