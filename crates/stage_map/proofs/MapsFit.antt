-- What maps take from a sheet that fits, in a match of so many seats.
use Rattle.std.proofs.Common.{◌≡◌, ◌<◌, ◌≤◌, ℕ, Some, length, slice_get, arith}
use Rattle.std.proofs.lemmas.List.Elements.{recursion_from_All}
use Rattle.std.specs.List.{AllByRecursion}
use Rattle.game_sheet.specs.SheetFits.{SheetFits, SpecFits as SpecIsSound, PlaceFits as PlaceIsSound}
use Rattle.game_sheet.specs.declared.sheet.Place.{Place}
use Rattle.game_sheet.specs.declared.sheet.Sheet.{Sheet}
use Rattle.game_sheet.specs.declared.sheet.SpecRow.{SpecRow}
use Rattle.game_sheet.specs.declared.sheet.StageRow.{StageRow}
use Rattle.stage_map.proofs.Rising.{all_weaker}

pub record PlaceFits (stages : ℕ) (place : Place) : Type 0 where
  pub stage : (stage : ℕ) → place.stage ≡ Some stage → stage < stages

-- a spec in a table of so many, in a match of so many seats
pub record SpecFits (specs stages seats : ℕ) (row : SpecRow) : Type 0 where
  pub current : (place : Place) → row.current ≡ Some place → PlaceFits stages place
  pub others : (place : Place) → row.others ≡ Some place → PlaceFits stages place
  pub all : (place : Place) → row.all ≡ Some place → PlaceFits stages place
  pub value_seats : AllByRecursion (λ (entry : ℕ × Place). entry.0 < seats) row.value
  pub value_places : AllByRecursion (λ (entry : ℕ × Place). PlaceFits stages entry.1) row.value
  pub next : (spec : ℕ) → row.next ≡ Some spec → spec < specs

place_fits : (sheet : Sheet) (place : Place) → PlaceIsSound sheet place → PlaceFits (length sheet.stages) place
place_fits sheet place f = record { stage = f.stage }

pub spec_fits : (sheet : Sheet) (seats : ℕ) → SheetFits sheet → sheet.min_seats ≤ seats → (place : ℕ) (row : SpecRow) → slice_get sheet.specs place ≡ Some row → SpecFits (length sheet.specs) (length sheet.stages) seats row
spec_fits sheet seats fits enough place row e =
    let f : SpecIsSound sheet row = fits.spec place row e in
    record {
      current = λ p is. place_fits sheet p (f.current p is);
      others = λ p is. place_fits sheet p (f.others p is);
      all = λ p is. place_fits sheet p (f.all p is);
      value_seats = all_weaker (λ (entry : ℕ × Place). entry.0 < sheet.min_seats) (λ (entry : ℕ × Place). entry.0 < seats) (λ entry h. omega arith) row.value (recursion_from_All (λ (entry : ℕ × Place). entry.0 < sheet.min_seats) row.value f.seats);
      value_places = all_weaker (λ (entry : ℕ × Place). PlaceIsSound sheet entry.1) (λ (entry : ℕ × Place). PlaceFits (length sheet.stages) entry.1) (λ entry. place_fits sheet entry.1) row.value (recursion_from_All (λ (entry : ℕ × Place). PlaceIsSound sheet entry.1) row.value f.places);
      next = f.next;
    }

pub stage_fits : (sheet : Sheet) → SheetFits sheet → (place : ℕ) (row : StageRow) (next : ℕ) → slice_get sheet.stages place ≡ Some row → row.next ≡ Some next → next < length sheet.stages
stage_fits sheet fits place row next e f = (fits.stage place row e).next next f
