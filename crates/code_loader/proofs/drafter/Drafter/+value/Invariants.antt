use Rattle.std.proofs.Common.{◌+◌, ◌*◌}
use Rattle.code_loader.proofs.drafter.Drafter.+value.Given as goal

-- how deep it may still go, and at one depth from what may have other values inside down to an expression
abbrev pub decreases-leaf : goal.decreases-leaf
decreases-leaf l = 32 * l.left + 21

abbrev pub decreases-made : goal.decreases-made
decreases-made l = 32 * l.left + 20

abbrev pub decreases-built : goal.decreases-built
decreases-built l = 32 * l.left + 9

abbrev pub decreases-name : goal.decreases-name
decreases-name l = 32 * l.left + 9

abbrev pub decreases-found : goal.decreases-found
decreases-found l = 32 * l.left + 8

abbrev pub decreases-stored : goal.decreases-stored
decreases-stored l = 32 * l.left + 8

abbrev pub decreases-over_list : goal.decreases-over_list
decreases-over_list l = 32 * l.left + 7

abbrev pub decreases-over_span : goal.decreases-over_span
decreases-over_span l = 32 * l.left + 7

abbrev pub decreases-place : goal.decreases-place
decreases-place l = 32 * l.left + 7

abbrev pub decreases-round : goal.decreases-round
decreases-round l = 32 * l.left + 7

abbrev pub decreases-sought_in : goal.decreases-sought_in
decreases-sought_in l = 32 * l.left + 7

abbrev pub decreases-cell_at : goal.decreases-cell_at
decreases-cell_at l = 32 * l.left + 6

abbrev pub decreases-item_at : goal.decreases-item_at
decreases-item_at l = 32 * l.left + 6

abbrev pub decreases-item_of : goal.decreases-item_of
decreases-item_of l = 32 * l.left + 6

abbrev pub decreases-one_round : goal.decreases-one_round
decreases-one_round l = 32 * l.left + 6

abbrev pub decreases-places : goal.decreases-places
decreases-places l = 32 * l.left + 6

abbrev pub decreases-best : goal.decreases-best
decreases-best l = 32 * l.left + 5

abbrev pub decreases-list : goal.decreases-list
decreases-list l = 32 * l.left + 5

abbrev pub decreases-lone_slot : goal.decreases-lone_slot
decreases-lone_slot l = 32 * l.left + 5

abbrev pub decreases-best_round : goal.decreases-best_round
decreases-best_round l = 32 * l.left + 4

abbrev pub decreases-call : goal.decreases-call
decreases-call l = 32 * l.left + 4

abbrev pub decreases-rounds : goal.decreases-rounds
decreases-rounds l = 32 * l.left + 4

abbrev pub decreases-slot : goal.decreases-slot
decreases-slot l = 32 * l.left + 4

abbrev pub decreases-body : goal.decreases-body
decreases-body l = 32 * l.left + 3

abbrev pub decreases-called : goal.decreases-called
decreases-called l = 32 * l.left + 3

abbrev pub decreases-choice : goal.decreases-choice
decreases-choice l = 32 * l.left + 3

abbrev pub decreases-denied : goal.decreases-denied
decreases-denied l = 32 * l.left + 3

abbrev pub decreases-lesser : goal.decreases-lesser
decreases-lesser l = 32 * l.left + 3

abbrev pub decreases-magnitude : goal.decreases-magnitude
decreases-magnitude l = 32 * l.left + 3

abbrev pub decreases-negative : goal.decreases-negative
decreases-negative l = 32 * l.left + 3

abbrev pub decreases-operands : goal.decreases-operands
decreases-operands l = 32 * l.left + 3

abbrev pub decreases-question : goal.decreases-question
decreases-question l = 32 * l.left + 3

abbrev pub decreases-size : goal.decreases-size
decreases-size l = 32 * l.left + 3

abbrev pub decreases-slot_of : goal.decreases-slot_of
decreases-slot_of l = 32 * l.left + 3

abbrev pub decreases-span : goal.decreases-span
decreases-span l = 32 * l.left + 3

abbrev pub decreases-bound : goal.decreases-bound
decreases-bound l = 32 * l.left + 2

abbrev pub decreases-condition : goal.decreases-condition
decreases-condition l = 32 * l.left + 2

abbrev pub decreases-given_value : goal.decreases-given_value
decreases-given_value l = 32 * l.left + 2

abbrev pub decreases-joined : goal.decreases-joined
decreases-joined l = 32 * l.left + 2

abbrev pub decreases-number : goal.decreases-number
decreases-number l = 32 * l.left + 2

abbrev pub decreases-written_out : goal.decreases-written_out
decreases-written_out l = 32 * l.left + 2

abbrev pub decreases-expression : goal.decreases-expression
decreases-expression l = 32 * l.left + 1
