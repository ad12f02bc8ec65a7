-- What a takeover makes of a core, by what the core knows of the bench.
use Rattle.std.proofs.Common.{◌≡◌, ℕ, Bool, None, Ok, refl, sym, ap, ◌∙◌}
use Rattle.game_sheet.specs.MatchName.{Name}
use Rattle.wire_json.specs.declared.client.ClientMsg.TheVariants as line
use Rattle.wire_json.specs.declared.refusal.Refusal.TheVariants.{NotABot}
use Rattle.game_hall.specs.Bench.{bench_after, bench_answer, or_bench}
use Rattle.game_hall.specs.Core.{Core, bot_answered, bot_wanted, moved}
use Rattle.game_hall.specs.Requests.{refuses}
use Rattle.game_hall.specs.declared.bench.Bench.{Bench}
use Rattle.game_hall.specs.declared.bench.Bench.TheVariants.{Absent, Idle, Wants, Sought}
use Rattle.game_hall.specs.declared.next.Next.TheVariants.{Says}

-- what a takeover makes of a core with this bench
abbrev pub taken_over : {X : Type 0} → Core X → Bench → Name → ℕ → Core X
taken_over c bench name seat = moved (record c { bench = bench_after bench (Ok (line.Takeover name seat)) }) (or_bench bench (Ok (line.Takeover name seat)) (refuses NotABot))

pub no_call_is : {X : Type 0} (c : Core X) (bench : Bench) (name : Name) (seat : ℕ) → (taken_over c bench name seat).call ≡ None
no_call_is c Absent name seat = refl
no_call_is c Idle name seat = refl
no_call_is c (Wants other at) name seat = refl
no_call_is c (Sought other at) name seat = refl

pub absent_is : {X : Type 0} (c : Core X) (bench : Bench) (name : Name) (seat : ℕ) → c.bench ≡ bench → bench ≡ Absent
    → taken_over c bench name seat ≡ moved c (refuses NotABot)
absent_is c bench name seat is absent =
    ap (λ b. taken_over c b name seat) absent ∙ ap (λ b. moved (record c { bench = b }) (refuses NotABot)) (sym (is ∙ absent))

pub asked_is : {X : Type 0} (c : Core X) (bench : Bench) (name : Name) (seat : ℕ) (held : Bool) → c.bench ≡ bench → bench ≡ Idle
    → bot_answered (bot_wanted (taken_over c bench name seat)) held ≡ moved c (Says (bench_answer held (name, seat)))
asked_is c bench name seat held is idle =
    ap (λ b. bot_answered (bot_wanted (taken_over c b name seat)) held) idle ∙ ap (λ b. moved (record c { bench = b }) (Says (bench_answer held (name, seat)))) (sym (is ∙ idle))
