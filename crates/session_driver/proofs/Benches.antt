-- What a line and the calls of its request make of the core's bench.
use Rattle.std.proofs.Common.{◌≡◌, ◌⊎◌, ℕ, List, [], ◌∷◌, Option, Some, None, Result, Ok, Err, inl, inr, refl, ap, ◌∙◌}
use Rattle.any_game.specs.AnyRules.{named}
use Rattle.any_game.specs.GameKind.{GameKind}
use Rattle.game_hall.specs.Bench.{bench_after, or_bench}
use Rattle.game_hall.specs.Core.{Core, answered, asked, moved, replied, starved}
use Rattle.game_hall.specs.Requests.{hears, next}
use Rattle.game_hall.specs.Words.{next_action}
use Rattle.game_hall.specs.declared.bench.Bench.{Bench}
use Rattle.game_hall.specs.declared.bench.Bench.TheVariants.{Absent, Idle, Wants, Sought}
use Rattle.game_hall.specs.declared.next.Next.{Next}
use Rattle.game_hall.specs.declared.next.Next.TheVariants.{Calls, Says, Attaches, Silent}
use Rattle.game_hall.specs.declared.request.Request.{Request}
use Rattle.room_history.specs.declared.reply.RoomReply.{RoomReply}
use Rattle.wire_json.specs.ClientReading.{client_read}
use Rattle.wire_json.specs.Refusals.{Refusal as Fault}
use Rattle.wire_json.specs.declared.client.ClientMsg.{ClientMsg}
use Rattle.wire_json.specs.declared.client.ClientMsg.TheVariants as line
use Rattle.session_driver.specs.Bench.{IsAtRest, Seeks, TurnsToBench}
use Rattle.session_driver.specs.Calls.{Did}
use Rattle.session_driver.specs.Hearing.{Draws, HearsLine, HearsReply, Makes, RunsOut, Side, side}
use Rattle.session_driver.specs.declared.tally.Tally.{Tally}
use Rattle.session_driver.proofs.Along.{none_made}

-- ---- going on keeps the bench

-- two cores whose benches are the same, and which both have a bot at a seat, or neither
abbrev AreBenched : Core GameKind → Core GameKind → Type 0
AreBenched c d = (d.bench ≡ c.bench) × (d.sat ≡ c.sat)

moved_benched : (c : Core GameKind) (x : Next GameKind) → AreBenched c (moved c x)
moved_benched c (Calls room made request) = (refl, refl)
moved_benched c (Says a) = (refl, refl)
moved_benched c (Attaches room) = (refl, refl)
moved_benched c Silent = (refl, refl)

over : (c d e : Core GameKind) → AreBenched c d → e ≡ d → AreBenched c e
over c d e h is = (ap (λ (x : Core GameKind). x.bench) is ∙ h.0, ap (λ (x : Core GameKind). x.sat) is ∙ h.1)

replied_benched : (c : Core GameKind) (request : Option Request) (told : RoomReply) → AreBenched c (replied named c request told)
replied_benched c None told = (refl, refl)
replied_benched c (Some request) told = moved_benched c (next named c.rooms request told)

reply_benched : (c : Core GameKind) (told : RoomReply) (d : Core GameKind) → HearsReply (asked c) told d → AreBenched c d
reply_benched c told d (inl is) = over c (answered named (asked c) told) d (replied_benched (asked c) c.request told) is
reply_benched c told d (inr h) = over c (starved (asked c) None) d (refl, refl) h.0

module _ {S : Type 0} (calls : S → ℕ → Did → S → Type 0) where
  makes_benched : (s : Side S) (all : List Did) (t : Side S) → Makes calls s all t → AreBenched s.core t.core
  makes_benched s [] t is = over s.core s.core t.core (refl, refl) (ap (λ (x : Side S). x.core) is)
  makes_benched s (made ∷ earlier) t (m, before, (wanted, called, hears_it)) =
      let first = makes_benched s earlier m before in
      let last = reply_benched m.core made.reply t.core hears_it in
      (last.0 ∙ first.0, last.1 ∙ first.1)

-- ---- a line

-- what a line makes of a core with this bench
abbrev after_line : Core GameKind → Bench → Result ClientMsg Fault → Next GameKind → Core GameKind
after_line c bench read n = moved (record c { bench = bench_after bench read }) (or_bench bench read n)

-- the bench is as it was; or a takeover waits for it, and no call is made
abbrev TurnsAtOnce : Bench → Core GameKind → Type 0
TurnsAtOnce bench after = (after.bench ≡ bench) ⊎ (Seeks after × (after.call ≡ None))

same_bench : (c : Core GameKind) (bench : Bench) (n : Next GameKind) → TurnsAtOnce bench (moved (record c { bench = bench }) n)
same_bench c bench n = inl (moved_benched (record c { bench = bench }) n).0

line_turns : (c : Core GameKind) (bench : Bench) (read : Result ClientMsg Fault) (n : Next GameKind) → IsAtRest bench → c.said ≡ None → TurnsAtOnce bench (after_line c bench read n)
line_turns c Absent read n rest quiet = same_bench c Absent n
line_turns c Idle (Ok (line.Takeover name seat)) n rest quiet = inr (record { name = name; seat = seat; wants = refl; quiet = quiet }, refl)
line_turns c Idle (Ok line.Games) n rest quiet = same_bench c Idle n
line_turns c Idle (Ok (line.Matches game)) n rest quiet = same_bench c Idle n
line_turns c Idle (Ok (line.Look name)) n rest quiet = same_bench c Idle n
line_turns c Idle (Ok (line.Create game seats)) n rest quiet = same_bench c Idle n
line_turns c Idle (Ok (line.Join name player seat)) n rest quiet = same_bench c Idle n
line_turns c Idle (Ok (line.Rename key name player seat)) n rest quiet = same_bench c Idle n
line_turns c Idle (Ok (line.Leave key name seat)) n rest quiet = same_bench c Idle n
line_turns c Idle (Ok (line.Sync name viewer protocol)) n rest quiet = same_bench c Idle n
line_turns c Idle (Ok (line.Act submission)) n rest quiet = same_bench c Idle n
line_turns c Idle (Err fault) n rest quiet = same_bench c Idle n
line_turns c (Wants name seat) read n rest quiet = absurd rest
line_turns c (Sought name seat) read n rest quiet = absurd rest

line_sat : (c : Core GameKind) (bench : Bench) (read : Result ClientMsg Fault) (n : Next GameKind) → (after_line c bench read n).sat ≡ c.sat
line_sat c bench read n = (moved_benched (record c { bench = bench_after bench read }) (or_bench bench read n)).1

module _ {S : Type 0} (calls : S → ℕ → Did → S → Type 0) where
  -- the calls of the request change nothing of it
  run_turns : (bench : Bench) (s : Side S) (tally : Tally) (t : Side S) → TurnsAtOnce bench s.core → RunsOut calls s tally t → (t.core.bench ≡ bench) ⊎ Seeks t.core
  run_turns bench s tally t (inl same) r = inl ((makes_benched calls s r.makes.all t r.makes.made).0 ∙ same)
  run_turns bench s tally t (inr (seeks, none)) r =
      let stays = none_made calls s r.makes.all t none r.makes.made in
      inr (record {
        name = seeks.name;
        seat = seeks.seat;
        wants = ap (λ (x : Side S). x.core.bench) stays ∙ seeks.wants;
        quiet = ap (λ (x : Side S). x.core.said) stays ∙ seeks.quiet;
      })

  at_once : (text : List ℕ) (c : Core GameKind) (before : Draws) (d : Core GameKind) (left : Draws) → HearsLine text c before d left → IsAtRest c.bench → c.said ≡ None
      → TurnsAtOnce c.bench d
  at_once text c before d left (inl h) rest quiet =
      let n = hears named c.rooms c.at (client_read text) (next_action before.words).left before.seed in
      as_it_is (after_line c c.bench (client_read text) n) h.0 (line_turns c c.bench (client_read text) n rest quiet)
    where
      as_it_is : (e : Core GameKind) → d ≡ e → TurnsAtOnce c.bench e → TurnsAtOnce c.bench d
      as_it_is e is (inl same) = inl (ap (λ (x : Core GameKind). x.bench) is ∙ same)
      as_it_is e is (inr (seeks, none)) = inr (
        record {
          name = seeks.name;
          seat = seeks.seat;
          wants = ap (λ (x : Core GameKind). x.bench) is ∙ seeks.wants;
          quiet = ap (λ (x : Core GameKind). x.said) is ∙ seeks.quiet;
        },
        ap (λ (x : Core GameKind). x.call) is ∙ none,
      )
  at_once text c before d left (inr h) rest quiet = inl (ap (λ (x : Core GameKind). x.bench) h.0)

  pub hear_turns : (text : List ℕ) (s : Side S) (before : Draws) (d : Core GameKind) (left : Draws) (tally : Tally) (t : Side S) → HearsLine text s.core before d left
      → RunsOut calls (side s.rooms d) tally t → s.core.said ≡ None → IsAtRest s.core.bench → TurnsToBench s.core t.core
  hear_turns text s before d left tally t h r quiet rest = run_turns s.core.bench (side s.rooms d) tally t (at_once text s.core before d left h rest quiet) r

  pub hear_sat : (text : List ℕ) (s : Side S) (before : Draws) (d : Core GameKind) (left : Draws) (tally : Tally) (t : Side S) → HearsLine text s.core before d left
      → RunsOut calls (side s.rooms d) tally t → t.core.sat ≡ s.core.sat
  hear_sat text s before d left tally t h r = (makes_benched calls (side s.rooms d) r.makes.all t r.makes.made).1 ∙ line h
    where
      line : HearsLine text s.core before d left → d.sat ≡ s.core.sat
      line (inl is) = ap (λ (x : Core GameKind). x.sat) is.0
          ∙ line_sat s.core s.core.bench (client_read text) (hears named s.core.rooms s.core.at (client_read text) (next_action before.words).left before.seed)
      line (inr is) = ap (λ (x : Core GameKind). x.sat) is.0
