-- What a core hears by what its calls answer, and that each reply leaves a request fewer calls.
use Rattle.std.proofs.Common.{◌≡◌, ◌≤◌, ◌<◌, ◌-◌, ℕ, suc, ◌+◌, Bool, true, false, if◌then◌else◌, List, ◌∷◌, length, Option, Some, None, inl, inr, refl, sym, ap, subst, ◌∙◌, arith}
use Rattle.std.specs.Prelude.{nat_lt}
use Rattle.std.proofs.lemmas.Bool.Decides.{nat_tests}
use Rattle.any_game.specs.AnyRules.{named}
use Rattle.any_game.specs.GameKind.{GameKind}
use Rattle.game_hall.specs.Bench.{bench_after, or_bench}
use Rattle.game_hall.specs.Core.{Core, IsSettled, asked, moved, replied, starved}
use Rattle.game_hall.specs.Requests.{hears, is_attached, is_busy, is_judged, is_starved, lists, makes, next, tries, with_row}
use Rattle.game_hall.specs.Words.{next_action}
use Rattle.game_hall.specs.declared.answer.Answer.{Answer}
use Rattle.game_hall.specs.declared.next.Next.{Next}
use Rattle.game_hall.specs.declared.next.Next.TheVariants.{Calls, Says, Attaches, Silent}
use Rattle.game_hall.specs.declared.request.Request.{Request}
use Rattle.game_hall.specs.declared.request.Request.TheVariants.{Creating, Listing, Looking, Joining, Renaming, Leaving, Syncing, Acting}
use Rattle.room_history.specs.declared.call.RoomCall.{RoomCall}
use Rattle.room_history.specs.declared.reply.RoomReply.{RoomReply}
use Rattle.wire_json.specs.ClientReading.{client_read}
use Rattle.game_hall.specs.Counts.{accepts, refuses}
use Rattle.session_driver.specs.Counts.{counted}
use Rattle.session_driver.specs.Calls.{Did, did}
use Rattle.session_driver.specs.Hearing.{Draws, HearsLine, HearsReply, MakesCounted, Side, side}
use Rattle.session_driver.specs.declared.tally.Tally.{Tally}
use Rattle.session_driver.specs.Left.{left}

-- ---- each reply leaves fewer calls

abbrev left_by : ℕ → Next GameKind → ℕ
left_by rooms (Calls room made request) = left rooms (Some request)
left_by rooms other = 0

moved_left : (c : Core GameKind) (x : Next GameKind) → left c.rooms (moved c x).request ≡ left_by c.rooms x
moved_left c (Calls room made request) = refl
moved_left c (Says a) = refl
moved_left c (Attaches room) = refl
moved_left c Silent = refl

below_is : (m n : ℕ) → nat_lt m n ≡ true → m < n
below_is m n e = grind (arith, nat_tests)

lower : (rooms room : ℕ) → nat_lt (room + 1) rooms ≡ true → suc (rooms - (room + 1)) + 1 ≤ suc (rooms - room)
lower rooms room e =
    let low : room + 1 < rooms = below_is (room + 1) rooms e in
    omega (arith, low)

none_left : (n : ℕ) → 0 + 1 ≤ suc n
none_left n = omega arith

makes_left : (rooms room : ℕ) (found : Option GameKind) (game : List ℕ) (seats : ℕ) (seed : List ℕ) → nat_lt (room + 1) rooms ≡ true
    → left_by rooms (makes found game seats seed (room + 1)) + 1 ≤ suc (rooms - room)
makes_left rooms room None game seats seed e = none_left (rooms - room)
makes_left rooms room (Some x) game seats seed e = lower rooms room e

if_left : (rooms most : ℕ) (b : Bool) (x y : Next GameKind) → (b ≡ true → left_by rooms x + 1 ≤ most) → left_by rooms y + 1 ≤ most → left_by rooms (if b then x else y) + 1 ≤ most
if_left rooms most true x y h k = h refl
if_left rooms most false x y h k = k

next_left : (rooms : ℕ) (request : Request) (told : RoomReply) → left_by rooms (next named rooms request told) + 1 ≤ left rooms (Some request)
next_left rooms (Creating game seats seed room) told =
    if_left rooms (suc (rooms - room)) (is_busy told) (tries named rooms game seats seed (room + 1)) (Says _)
    (λ _. if_left rooms (suc (rooms - room)) (nat_lt (room + 1) rooms) (makes (named game) game seats seed (room + 1)) (Says _) (makes_left rooms room (named game) game seats seed) (none_left (rooms - room)))
    (none_left (rooms - room))
next_left rooms (Listing game rows room) told =
    if_left rooms (suc (rooms - room)) (is_starved told) (Says _) (lists rooms game (with_row game rows told) (room + 1)) (λ _. none_left (rooms - room))
    (if_left rooms (suc (rooms - room)) (nat_lt (room + 1) rooms) (Calls (room + 1) _ (Listing game (with_row game rows told) (room + 1))) (Says _) (lower rooms room) (none_left (rooms - room)))
next_left rooms Looking told = none_left 0
next_left rooms (Joining name seat key) told = none_left 0
next_left rooms (Renaming name seat) told = none_left 0
next_left rooms (Leaving name seat) told = none_left 0
next_left rooms (Syncing room) told = if_left rooms 1 (is_attached told) (Attaches room) (Says _) (λ _. none_left 0) (none_left 0)
next_left rooms (Acting ticket) told = if_left rooms 1 (is_judged told) Silent (Says _) (λ _. none_left 0) (none_left 0)

some_left : (rooms : ℕ) (request : Request) → 1 ≤ left rooms (Some request)
some_left rooms (Creating game seats seed room) = omega arith
some_left rooms (Listing game rows room) = omega arith
some_left rooms Looking = omega arith
some_left rooms (Joining name seat key) = omega arith
some_left rooms (Renaming name seat) = omega arith
some_left rooms (Leaving name seat) = omega arith
some_left rooms (Syncing room) = omega arith
some_left rooms (Acting ticket) = omega arith

-- ---- a core from one call to the next

pub moved_keeps : (c : Core GameKind) (x : Next GameKind) → ((moved c x).rooms ≡ c.rooms) × ((moved c x).pass ≡ c.pass)
moved_keeps c (Calls room made request) = (refl, refl)
moved_keeps c (Says a) = (refl, refl)
moved_keeps c (Attaches room) = (refl, refl)
moved_keeps c Silent = (refl, refl)

pub line_keeps : (line : List ℕ) (c : Core GameKind) (before : Draws) (d : Core GameKind) (rest : Draws) → HearsLine line c before d rest → (d.rooms ≡ c.rooms) × (d.pass ≡ c.pass)
line_keeps line c before d rest (inl h) =
    let read = client_read line in
    let keeps = moved_keeps (record c { bench = bench_after c.bench read }) (or_bench c.bench read (hears named c.rooms c.at read (next_action before.words).left before.seed)) in
    (ap (λ (x : Core GameKind). x.rooms) h.0 ∙ keeps.0, ap (λ (x : Core GameKind). x.pass) h.0 ∙ keeps.1)
line_keeps line c before d rest (inr h) = (ap (λ (x : Core GameKind). x.rooms) h.0, ap (λ (x : Core GameKind). x.pass) h.0)

-- a reply that is heard keeps the rooms and the pass, and leaves fewer calls
pub record Nears (c d : Core GameKind) : Type 0 where
  pub rooms_are : d.rooms ≡ c.rooms
  pub pass_is : d.pass ≡ c.pass
  pub fewer : left d.rooms d.request + 1 ≤ left c.rooms c.request

nears_next : (c : Core GameKind) (request : Request) (told : RoomReply) (d : Core GameKind) → c.request ≡ Some request → d ≡ moved c (next named c.rooms request told) → Nears c d
nears_next c request told d open_one e =
    let x = next named c.rooms request told in
    let keeps = moved_keeps c x in
    let rooms_are : d.rooms ≡ c.rooms = ap (λ (k : Core GameKind). k.rooms) e ∙ keeps.0 in
    let is : left d.rooms d.request ≡ left_by c.rooms x = ap (λ n. left n d.request) rooms_are ∙ ap (λ (k : Core GameKind). left c.rooms k.request) e ∙ moved_left c x in
    record {
      rooms_are = rooms_are;
      pass_is = ap (λ (k : Core GameKind). k.pass) e ∙ keeps.1;
      fewer = subst (λ n. n + 1 ≤ left c.rooms c.request) (sym is) (subst (λ q. left_by c.rooms x + 1 ≤ left c.rooms q) (sym open_one) (next_left c.rooms request told));
    }

nears_starved : (c : Core GameKind) (request : Request) (d : Core GameKind) → c.request ≡ Some request → d ≡ starved c None → Nears c d
nears_starved c request d open_one e = record {
  rooms_are = ap (λ (k : Core GameKind). k.rooms) e;
  pass_is = ap (λ (k : Core GameKind). k.pass) e;
  fewer = subst (λ q. left d.rooms q + 1 ≤ left c.rooms c.request) (sym (ap (λ (k : Core GameKind). k.request) e))
      (subst (λ q. 0 + 1 ≤ left c.rooms q) (sym open_one) (some_left c.rooms request));
}

pub nears : (c : Core GameKind) (request : Request) (told : RoomReply) (d : Core GameKind) → c.request ≡ Some request → HearsReply c told d → Nears c d
nears c request told d open_one (inl e) = nears_next c request told d open_one (e ∙ ap (λ q. replied named c q told) open_one)
nears c request told d open_one (inr e) = nears_starved c request d open_one e.0

none_some : {A B : Type 0} (x : A) → None ≡ Some x → B
none_some x e = absurd (cc)

-- a settled core with a call has its request
pub open_request : (wanted : Option (ℕ × RoomCall GameKind)) (open_one : Option Request) (said : Option Answer) (x : ℕ × RoomCall GameKind) → wanted ≡ Some x → IsSettled wanted open_one said
    → ((request : Request) × (open_one ≡ Some request)) × (said ≡ None)
open_request None open_one said x e s = none_some x e
open_request (Some y) None said x e s = absurd (cc (s.0))
open_request (Some y) (Some request) said x e s = ((request, refl), s.1)

pub asked_none : (c : Core GameKind) → c.call ≡ None → asked c ≡ c
asked_none c none = ap (λ k. record c { call = k }) (sym none)

-- a line and a reply that are heard leave a settled core
pub moved_settled : (c : Core GameKind) (x : Next GameKind) → c.said ≡ None → IsSettled (moved c x).call (moved c x).request (moved c x).said
moved_settled c (Calls room made request) e = (refl, e)
moved_settled c (Says a) e = refl
moved_settled c (Attaches room) e = refl
moved_settled c Silent e = refl

pub replied_settled : (c : Core GameKind) (request : Request) (told : RoomReply) (d : Core GameKind) → c.said ≡ None → c.request ≡ Some request → HearsReply c told d
    → IsSettled d.call d.request d.said
replied_settled c request told d plain is (inl e) =
    subst (λ (x : Core GameKind). IsSettled x.call x.request x.said) (sym (e ∙ ap (λ q. replied named c q told) is)) (moved_settled c (next named c.rooms request told) plain)
replied_settled c request told d plain is (inr e) = subst (λ (x : Core GameKind). IsSettled x.call x.request x.said) (sym e.0) refl

pub line_settled : (line : List ℕ) (c : Core GameKind) (before : Draws) (d : Core GameKind) (rest : Draws) → c.said ≡ None → HearsLine line c before d rest
    → IsSettled d.call d.request d.said
line_settled line c before d rest plain (inl e) =
    let read = client_read line in
    let next = or_bench c.bench read (hears named c.rooms c.at read (next_action before.words).left before.seed) in
    subst (λ (x : Core GameKind). IsSettled x.call x.request x.said) (sym e.0) (moved_settled (record c { bench = bench_after c.bench read }) next plain)
line_settled line c before d rest plain (inr e) = subst (λ (x : Core GameKind). IsSettled x.call x.request x.said) (sym e.0) refl

-- ---- calls, one after another

one_more : (all so_far this sum now : ℕ) → so_far ≡ sum → this ≡ now → all ≡ so_far + this → all ≡ sum + now
one_more all so_far this sum now p q r = omega (arith, p, q, r)

module _ {S : Type 0} (calls : S → ℕ → Did → S → Type 0) where
  pub makes_next : (s : Side S) (n : ℕ) (tally : Tally) (rooms : S) (core : Core GameKind) → MakesCounted calls s n tally (side rooms core)
      → (room : ℕ) (made : RoomCall GameKind) (told : RoomReply) (after : S) (d : Core GameKind) (one all : Tally)
      → core.call ≡ Some (room, made) → calls rooms core.pass (did room made told) after → HearsReply (asked core) told d
      → one.accepted ≡ accepts told → one.refused ≡ refuses told → all.accepted ≡ tally.accepted + one.accepted → all.refused ≡ tally.refused + one.refused
      → MakesCounted calls s (n + 1) all (side after d)
  makes_next s n tally rooms core m room made told after d one all wanted called heard_it adds cuts more fewer = record {
    all = did room made told ∷ m.all;
    made = (side rooms core, m.made, (wanted, called, heard_it));
    many = longer (length m.all) n m.many;
    accepted = one_more all.accepted tally.accepted one.accepted (counted accepts m.all) (accepts told) m.accepted adds more;
    refused = one_more all.refused tally.refused one.refused (counted refuses m.all) (refuses told) m.refused cuts fewer;
  }
    where
      longer : (k n : ℕ) → k ≡ n → suc k ≡ n + 1
      longer k n e = omega (arith, e)
