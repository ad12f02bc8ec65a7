-- A number from 0: what is read is what has that value, and its value reads as it.
use Rattle.std.proofs.Common.{◌≡◌, ℕ, ◌≤◌, Option, Some, Ok, Err, ap}
use Rattle.std.specs.Prelude.{Result}
use Rattle.std.specs.Result.{result_ok}
use Rattle.serde_json.specs.Data.{Data}
use Rattle.json_tree.specs.Fields.{natural_in}
use Rattle.sheet_json.specs.Seats.{natural}
use Rattle.sheet_json.proofs.SeatLaws as seats
use Rattle.sight_reading.specs.Reading.{natural_at}

pub good : {A E : Type 0} (r : Result A E) (x : A) → result_ok r ≡ Some x → r ≡ Ok x
good (Ok y) x e = let same : y ≡ x = cc in ap (λ z. Ok z) same
good (Err fault) x e = absurd (cc)

pub natural_is : (most : ℕ) (o : Option Data) (n : ℕ) → natural_at most o ≡ Some n → (o ≡ Some (natural n)) × (n ≤ most)
natural_is most o n e = seats.natural_is most o n (good (natural_in most o) n e)

pub natural_again : (most n : ℕ) → n ≤ most → natural_at most (Some (natural n)) ≡ Some n
natural_again most n h = ap result_ok (seats.natural_again most n h)
