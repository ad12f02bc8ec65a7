-- A takeover: what it makes of a core's bench, and what the bench's answer is to the session.
use Rattle.std.specs.Prelude.{ℕ, Bool, true, false, Option, Some, None, Result, Ok}
use Rattle.game_sheet.specs.MatchName.{Name}
use Rattle.wire_json.specs.Refusals.{Refusal as Fault}
use Rattle.wire_json.specs.declared.client.ClientMsg.{ClientMsg}
use Rattle.wire_json.specs.declared.client.ClientMsg.TheVariants as line
use Rattle.wire_json.specs.declared.refusal.Refusal.TheVariants.{NotABot}
use Rattle.game_hall.specs.declared.answer.Answer.{Answer}
use Rattle.game_hall.specs.declared.answer.Answer.TheVariants as answer
use Rattle.game_hall.specs.declared.bench.Bench.{Bench}
use Rattle.game_hall.specs.declared.bench.Bench.TheVariants.{Idle, Wants, Sought}
use Rattle.game_hall.specs.declared.next.Next.{Next}
use Rattle.game_hall.specs.declared.next.Next.TheVariants.{Silent}

-- where there is a bench, a takeover is put to it
abbrev pub bench_after : Bench → Result ClientMsg Fault → Bench
bench_after Idle (Ok (line.Takeover name seat)) = Wants name seat
bench_after bench read = bench

-- it waits for the bench's answer then, and no room is called
abbrev pub or_bench : {X : Type 0} → Bench → Result ClientMsg Fault → Next X → Next X
or_bench Idle (Ok (line.Takeover name seat)) next = Silent
or_bench bench read next = next

-- the seat whose bot is to be asked to leave
abbrev pub wanted : Bench → Option (Name × ℕ)
wanted (Wants name seat) = Some (name, seat)
wanted other = None

-- the bench was asked
abbrev pub sought : Bench → Bench
sought (Wants name seat) = Sought name seat
sought other = other

-- the seat that the bench was asked for
abbrev pub sought_for : Bench → Option (Name × ℕ)
sought_for (Sought name seat) = Some (name, seat)
sought_for other = None

-- what the session is told: whether the bench holds the seat decides
abbrev pub bench_answer : Bool → Name × ℕ → Answer
bench_answer true place = answer.Asked place.0 place.1
bench_answer false place = answer.Refused NotABot
