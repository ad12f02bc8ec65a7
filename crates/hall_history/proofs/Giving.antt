-- What a request leaves: its core moved once, nothing open, and after `again` all as it was but for the rooms' histories.
use Rattle.std.proofs.Common.{◌≡◌, ℕ, zero, suc, ◌+◌, if◌then◌else◌, List, length, Option, Some, None, Result, refl, ap}
use Rattle.game_trait.specs.Rules.{Rules}
use Rattle.wire_json.specs.ClientReading.{client_read}
use Rattle.wire_json.specs.Refusals.{Refusal as Fault}
use Rattle.wire_json.specs.declared.client.ClientMsg.{ClientMsg}
use Rattle.game_hall.specs.Core.{Core, is_again, moved}
use Rattle.game_hall.specs.Requests.{hears}
use Rattle.game_hall.specs.Words.{seed_left_by, words_drawn_by}
use Rattle.game_hall.specs.declared.answer.Answer.{Answer}
use Rattle.game_hall.specs.declared.answer.Answer.TheVariants.{Again}
use Rattle.game_hall.specs.declared.next.Next.{Next}
use Rattle.game_hall.specs.declared.next.Next.TheVariants.{Says}
use Rattle.game_hall.proofs.Running.{answer_alone, line_ends, went}
use Rattle.hall_history.specs.Adding.{Adds, IsAsking}
use Rattle.hall_history.specs.Hall.{Hall, after_line, begun, core_of, request, runs, ticket_in}
use Rattle.hall_history.specs.Mark.{Luck, Lucky, Mark, Served, Unread, Starved, ask_rooms}
use Rattle.hall_history.proofs.Adds.{adds_none, run_adds}
use Rattle.hall_history.proofs.Asking.{NextFits, call_asks, hears_stays, next_fits, stays_fits}
use Rattle.hall_history.proofs.Placing.{same_at}

module _ {X G : Type 0} (named : List ℕ → Option X) (rules : X → Rules G) (tape : ℕ → List ℕ) where
  abbrev with_luck : Hall X → Luck → Lucky X
  with_luck h luck = record { rooms = h.rooms; luck = luck }

  pub request_ends : (mark : Mark) (h : Hall X) (pass : ℕ) (read : Result ClientMsg Fault) → (request named rules tape mark h pass read).0.request ≡ None
  request_ends Served h pass read = line_ends named (ask_rooms rules pass) (core_of h pass) read (tape h.place) h.seed (with_luck h None)
  request_ends Unread h pass read = refl
  request_ends (Starved zero there) h pass read = refl
  request_ends (Starved (suc n) there) h pass read =
      line_ends named (ask_rooms rules pass) (core_of h pass) read (tape h.place) h.seed (with_luck h (Some (suc n, there)))

  pub request_moves : (mark : Mark) (h : Hall X) (pass : ℕ) (read : Result ClientMsg Fault)
      → (next : Next X) × ((request named rules tape mark h pass read).0 ≡ moved (core_of h pass) next)
  request_moves Served h pass read =
      went named (ask_rooms rules pass) (length h.rooms + 1) (core_of h pass) (hears named (length h.rooms) (h.at pass) read (tape h.place) h.seed) (with_luck h None)
  request_moves Unread h pass read = (Says (Again None), refl)
  request_moves (Starved zero there) h pass read = (Says (Again (ticket_in read)), refl)
  request_moves (Starved (suc n) there) h pass read =
      went named (ask_rooms rules pass) (length h.rooms + 1) (core_of h pass) (hears named (length h.rooms) (h.at pass) read (tape h.place) h.seed)
      (with_luck h (Some (suc n, there)))

  -- every direct answer leaves the session where it is
  runs_stays : (luck : Luck) (h : Hall X) (pass : ℕ) (read : Result ClientMsg Fault) (a : Answer)
      → (runs named rules luck pass h.rooms (begun named tape h pass read)).0.said ≡ Some a → (runs named rules luck pass h.rooms (begun named tape h pass read)).0.at ≡ h.at pass
  runs_stays luck h pass read a e =
      ap (λ (d : Core X). d.at)
      (answer_alone named (ask_rooms rules pass) (length h.rooms + 1) (core_of h pass) (hears named (length h.rooms) (h.at pass) read (tape h.place) h.seed) (with_luck h luck) a refl e)

  pub request_stays : (mark : Mark) (h : Hall X) (pass : ℕ) (read : Result ClientMsg Fault) (a : Answer)
      → (request named rules tape mark h pass read).0.said ≡ Some a → (request named rules tape mark h pass read).0.at ≡ h.at pass
  request_stays Served h pass read a e = runs_stays None h pass read a e
  request_stays Unread h pass read a e = refl
  request_stays (Starved zero there) h pass read a e = refl
  request_stays (Starved (suc n) there) h pass read a e = runs_stays (Some (suc n, there)) h pass read a e

  pub answered_stays : (mark : Mark) (h : Hall X) (pass : ℕ) (line : List ℕ) (a : Answer) → (after_line named rules tape mark h pass line).1 ≡ Some a
      → (q : ℕ) → (after_line named rules tape mark h pass line).0.at q ≡ h.at q
  answered_stays mark h pass line a e q =
      same_at h.at pass (request named rules tape mark h pass (client_read line)).0.at q (request_stays mark h pass (client_read line) a e)

  pub place_back : (mark : Mark) (h : Hall X) (pass : ℕ) (line : List ℕ) (ticket : Option ℕ) → (after_line named rules tape mark h pass line).1 ≡ Some (Again ticket)
      → (after_line named rules tape mark h pass line).0.place ≡ h.place
  place_back mark h pass line ticket e = ap (λ said. if is_again said then h.place else h.place + words_drawn_by (client_read line) h.seed) e

  pub seed_back : (mark : Mark) (h : Hall X) (pass : ℕ) (line : List ℕ) (ticket : Option ℕ) → (after_line named rules tape mark h pass line).1 ≡ Some (Again ticket)
      → (after_line named rules tape mark h pass line).0.seed ≡ h.seed
  seed_back mark h pass line ticket e = ap (λ said. if is_again said then h.seed else seed_left_by (client_read line) h.seed) e

  -- ---- its entries

  runs_add : (luck : Luck) (h : Hall X) (pass : ℕ) (read : Result ClientMsg Fault) → Adds IsAsking pass h.rooms (runs named rules luck pass h.rooms (begun named tape h pass read)).1.rooms
  runs_add luck h pass read =
      let x = hears named (length h.rooms) (h.at pass) read (tape h.place) h.seed in
      run_adds named rules IsAsking pass (λ y. NextFits (length h.rooms) (h.at pass) y) (length h.rooms)
      (λ room made asked f. call_asks (length h.rooms) (h.at pass) room made asked f)
      (λ room made asked told f. next_fits named (length h.rooms) (h.at pass) asked told)
      (length h.rooms + 1) (core_of h pass) x (with_luck h luck) refl (stays_fits (length h.rooms) (h.at pass) x (hears_stays named (length h.rooms) (h.at pass) read (tape h.place) h.seed))

  pub line_adds : (mark : Mark) (h : Hall X) (pass : ℕ) (line : List ℕ) → Adds IsAsking pass h.rooms (after_line named rules tape mark h pass line).0.rooms
  line_adds Served h pass line = runs_add None h pass (client_read line)
  line_adds Unread h pass line = adds_none IsAsking pass h.rooms
  line_adds (Starved zero there) h pass line = adds_none IsAsking pass h.rooms
  line_adds (Starved (suc n) there) h pass line = runs_add (Some (suc n, there)) h pass (client_read line)
