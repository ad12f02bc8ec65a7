-- Which expressions read no more than what the seat that moves sees: no secret slots, and of seats' slots its own alone.
use Rattle.std.specs.Prelude.{◌&&◌, Bool, true, false}
use Rattle.game_code.specs.declared.expression.Expression.{Expression}
use Rattle.game_code.specs.declared.expression.Expression.TheVariants.{Literal, Local, Argument, Word, Item', Cell', Length', Size', Not', Operate', If', Let', Gather'}
use Rattle.game_code.specs.declared.expression.ItemList.{ItemList}
use Rattle.game_code.specs.declared.expression.ItemList.TheVariants.{Common, Player, Secret, Work, Constant, Order}
use Rattle.game_code.specs.declared.expression.Word.{Word as MatchWord}
use Rattle.game_code.specs.declared.expression.Word.TheVariants.{Seat, Seats, Current, Turn, Moves, Place, Phase}

abbrev pub is_seat : MatchWord → Bool
is_seat Seat = true
is_seat other = false

-- whether an expression is the seat that moves, as it stands
abbrev pub is_mover : Expression → Bool
is_mover (Word word) = is_seat word
is_mover other = false

-- whether the seat that moves sees a list, of the seat that an expression is
abbrev pub is_seen : ItemList → Expression → Bool
is_seen (Player slot) seat = is_mover seat
is_seen (Secret slot) seat = false
is_seen other seat = true

abbrev pub reads_own : Expression → Bool
reads_own (Literal value) = true
reads_own (Local place) = true
reads_own (Argument place) = true
reads_own (Word word) = true
reads_own (Item' list p seat q at) = is_seen list seat && reads_own seat && reads_own at
reads_own (Cell' p row q column columns) = reads_own row && reads_own column
reads_own (Length' list p seat) = is_seen list seat && reads_own seat
reads_own (Size' p text) = reads_own text
reads_own (Not' p test) = reads_own test
reads_own (Operate' operator p a q b) = reads_own a && reads_own b
reads_own (If' p test q a r b) = reads_own test && reads_own a && reads_own b
reads_own (Let' p value q body) = reads_own value && reads_own body
reads_own (Gather' gather most p from q to r body) = reads_own from && reads_own to && reads_own body
