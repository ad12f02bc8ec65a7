-- Parts without a fault pass all tests.
use Rattle.std.proofs.Common.{◌≡◌, ◌≤◌, ℕ, Bool, true, false, if◌then◌else◌, Option, Some, None, length, refl, arith}
use Rattle.std.specs.Prelude.{◌==◌}
use Rattle.std.proofs.lemmas.Bool.{and_parts, eqb-true}
use Rattle.described_game.specs.Tests.{IsSound, code_fault, codes_fit, counts_fit, either_fault, fault_unless, first_fault, is_quiet, moves_see_own, offers_small, seats_fit, sheet_fault, slot_fault, starts_fit, texts_fit}
use Rattle.described_game.specs.declared.faults.PartFault.{PartFault}
use Rattle.described_game.specs.declared.faults.PartFault.TheVariants.{Sheet as InSheet, Counts, Names, Seats, Text as LongText, Start, Setup, Code, Sight, Arguments}
use Rattle.described_game.specs.declared.parts.GameParts.{GameParts}
use Rattle.game_sheet.proofs.Fits.{fits}
use Rattle.game_sheet.specs.SheetFits.{SheetFits}
use Rattle.game_sheet.specs.SheetRules.{broken}
use Rattle.slot_json.specs.TableForms.{layout_fits}

neither : (one other : Option PartFault) → either_fault one other ≡ None → (one ≡ None) × (other ≡ None)
neither None other is = (refl, is)
neither (Some fault) other is = absurd (cc)

holds : (test : Bool) (fault : PartFault) → fault_unless test fault ≡ None → test ≡ true
holds true fault is = refl
holds false fault is = absurd (cc)

unbroken : (rule : ℕ) (test : Bool) (fault : PartFault) → (rule == 0) ≡ test → (if test then None else Some fault) ≡ None → rule ≡ 0
unbroken rule true fault tested is = eqb-true rule 0 tested
unbroken rule false fault tested is = absurd (cc)

pub sound : (parts : GameParts) → first_fault parts ≡ None → IsSound parts
sound parts none =
    let three = neither (sheet_fault parts) (either_fault (slot_fault parts) (code_fault parts)) none in
    let two = neither (slot_fault parts) (code_fault parts) three.1 in
    let of_sheet = neither (if broken parts.sheet == 0 then None else Some (InSheet (record { rule = broken parts.sheet }))) (either_fault (fault_unless (counts_fit parts) Counts) (fault_unless (seats_fit parts) Seats)) three.0 in
    let of_counts = neither (fault_unless (counts_fit parts) Counts) (fault_unless (seats_fit parts) Seats) of_sheet.1 in
    let of_names = neither (fault_unless (layout_fits parts.layout) Names) (either_fault (fault_unless (texts_fit parts) LongText) (fault_unless (starts_fit parts) Start)) two.0 in
    let of_texts = neither (fault_unless (texts_fit parts) LongText) (fault_unless (starts_fit parts) Start) of_names.1 in
    let of_code = neither (either_fault (fault_unless (is_quiet parts) Setup) (fault_unless (codes_fit parts) Code)) (either_fault (fault_unless (moves_see_own parts) Sight) (fault_unless (offers_small parts) Arguments)) two.1 in
    let of_pieces = neither (fault_unless (is_quiet parts) Setup) (fault_unless (codes_fit parts) Code) of_code.0 in
    let of_moves = neither (fault_unless (moves_see_own parts) Sight) (fault_unless (offers_small parts) Arguments) of_code.1 in
    record {
      unbroken = unbroken (broken parts.sheet) (broken parts.sheet == 0) (InSheet (record { rule = broken parts.sheet })) refl of_sheet.0;
      counts = holds (counts_fit parts) Counts of_counts.0;
      names = holds (layout_fits parts.layout) Names of_names.0;
      seats = holds (seats_fit parts) Seats of_counts.1;
      texts = holds (texts_fit parts) LongText of_texts.0;
      starts = holds (starts_fit parts) Start of_texts.1;
      quiet = holds (is_quiet parts) Setup of_pieces.0;
      codes = holds (codes_fit parts) Code of_pieces.1;
      sight = holds (moves_see_own parts) Sight of_moves.0;
      small = holds (offers_small parts) Arguments of_moves.1;
    }

-- there are few moves
pub few_moves : (parts : GameParts) → IsSound parts → length parts.moves ≤ 64
few_moves parts is =
    let fit : SheetFits parts.sheet = fits parts.sheet is.unbroken in
    let same : length parts.moves ≡ length parts.sheet.moves = eqb-true (length parts.moves) (length parts.sheet.moves) (and_parts (length parts.moves == length parts.sheet.moves) (length parts.phases == length parts.sheet.phases) is.counts).0 in
    omega (arith, same, fit.moves)
