-- The test of the cells says whether the boards are equal.
use Rattle.std.proofs.Common.{◌≡◌, ℕ, Option, Some, None, refl, ap, eq-eqb}
use Rattle.std.specs.Bool.{Decides}
use Rattle.std.specs.Option.{option_eq}
use Rattle.std.specs.Prelude.{nat_eq}
use Rattle.std.proofs.lemmas.Bool.{eqb-true, false≢true}
use Rattle.std.proofs.lemmas.Slice.Eq.{slice_eq-Decides}
use Rattle.table_states.specs.declared.board.Board.{Board}
use Rattle.table_states.proofs.board.BoardState.same.Goals as goal

same_cell : (x y : Option ℕ) → Decides (option_eq nat_eq x y) (x ≡ y)
same_cell None None = (λ _. refl, λ _. refl)
same_cell None (Some y) = (λ e. absurd (false≢true e), λ e. absurd (cc))
same_cell (Some x) None = (λ e. absurd (false≢true e), λ e. absurd (cc))
same_cell (Some x) (Some y) = (λ e. ap Some (eqb-true x y e), λ e. eq-eqb x y (cc))

pub returns : goal.returns
returns c =
    let decides = slice_eq-Decides same_cell c.args.self.now.cells c.args.other.now.cells c.eq.result c.eq.ensures in
    let board : _ → Board = λ cells. record { cells = cells } in
    (λ e. ap board (decides.0 e), λ e. decides.1 (ap (λ (b : Board). b.cells) e))
