-- How the states of the three games are written down, and that these forms keep their laws.
use Rattle.std.specs.Prelude.{◌≡◌, ℕ, List, [], ◌∷◌, codes, Option, refl}
use Rattle.std.proofs.Common.{lit<}
use Rattle.serde_json.specs.Data.{Members, member, no_members}
use Rattle.open_game.specs.Form.{Form, StateLaws}
use Rattle.open_game.specs.Forms.{greatest, list_of, natural, object_of_one, object_of_two, seat_or_none}
use Rattle.open_game.proofs.FormLaws.{AreNames, IsName, list_laws, natural_laws, one_laws, seat_laws, two_laws}
use Rattle.table_states.specs.Points.{Points}
use Rattle.table_states.specs.declared.board.Board.{Board}
use Rattle.table_states.specs.declared.heap.Heap.{Heap}

-- nine cells, each free or of one of the two seats
abbrev pub board_form : Form Board
board_form = object_of_one (codes "cells") (list_of 9 9 (seat_or_none 1)) (λ cells. record { cells = cells }) (λ b. b.cells)

-- a number of 32 bits, and one of eight seats or none
abbrev pub heap_form : Form Heap
heap_form = object_of_two (codes "heap") (natural greatest) (codes "last") (seat_or_none 7) (λ left last. record { left = left; last = last }) (λ h. h.left) (λ h. h.last)

-- one to eight totals; they and the pot are numbers of 32 bits
abbrev pub points_form : Form Points
points_form = object_of_two (codes "pot") (natural greatest) (codes "totals") (list_of 1 8 (natural greatest)) (λ pot totals. record { pot = pot; totals = totals }) (λ p. p.pot) (λ p. p.totals)

-- its last member
abbrev pub from_totals : List ℕ → Members
from_totals totals = member (codes "totals") ((list_of 1 8 (natural greatest)).value totals) no_members

-- ---- laws

cells_named : IsName (codes "cells")
cells_named = record { known = λ d. refl; found = λ d. refl; ascii = refl }

pub board_laws : StateLaws board_form
board_laws = one_laws (codes "cells") cells_named (list_of 9 9 (seat_or_none 1)) (list_laws (seat_or_none 1) (seat_laws 1 (lit< tt)) 9 9) (λ cells. record { cells = cells }) (λ b. b.cells) (λ b. refl) (λ cells. refl)

heap_named : AreNames (codes "heap") (codes "last")
heap_named = record { rise = refl; known = λ d e. refl; first = λ d e. refl; second = λ d e. refl; ascii = refl; ascii_too = refl }

pub heap_laws : StateLaws heap_form
heap_laws = two_laws (codes "heap") (codes "last") heap_named (natural greatest) (natural_laws greatest (lit< tt)) (seat_or_none 7) (seat_laws 7 (lit< tt))
    (λ left last. record { left = left; last = last }) (λ h. h.left) (λ h. h.last) (λ h. refl) (λ left last. refl) (λ left last. refl)

points_named : AreNames (codes "pot") (codes "totals")
points_named = record { rise = refl; known = λ d e. refl; first = λ d e. refl; second = λ d e. refl; ascii = refl; ascii_too = refl }

pub points_laws : StateLaws points_form
points_laws = two_laws (codes "pot") (codes "totals") points_named (natural greatest) (natural_laws greatest (lit< tt)) (list_of 1 8 (natural greatest)) (list_laws (natural greatest) (natural_laws greatest (lit< tt)) 1 8)
    (λ pot totals. record { pot = pot; totals = totals }) (λ p. p.pot) (λ p. p.totals) (λ p. refl) (λ pot totals. refl) (λ pot totals. refl)
