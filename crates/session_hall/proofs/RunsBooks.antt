-- The calls that the driver makes on books in one thread are a run of hall_history's.
use Rattle.std.proofs.Common.{◌≡◌, ◌≤◌, ◌<◌, inl, inr, ℕ, suc, ◌+◌, Bool, true, List, [], ◌∷◌, length, slice_index_or, Some, None, refl, sym, ap, ◌∙◌, subst, arith}
use Rattle.any_game.specs.AnyRules.{any_rules, named}
use Rattle.any_game.specs.GameKind.{GameKind}
use Rattle.any_game.specs.declared.any_g.AnyG.{AnyG}
use Rattle.game_hall.specs.Core.{Core, IsSettled, asked, moved, replied}
use Rattle.game_hall.specs.Requests.{next}
use Rattle.game_hall.specs.declared.next.Next.{Next}
use Rattle.game_hall.specs.declared.next.Next.TheVariants.{Calls, Says, Attaches, Silent}
use Rattle.game_hall.specs.declared.request.Request.{Request}
use Rattle.game_hall.specs.Counts.{accepts, refuses}
use Rattle.session_driver.specs.Counts.{counted}
use Rattle.hall_history.specs.Rooms.{History, Rooms, history_of}
use Rattle.match_master.specs.Held.{Held, StandsFor}
use Rattle.session_driver.specs.Calls.{Did}
use Rattle.session_driver.specs.Hearing.{HearsReply, Makes, RunsOut, Side, side}
use Rattle.session_driver.specs.OfBooks.{AreInOrder, CallsBook, RoomCalls}
use Rattle.session_hall.specs.Held.{AreBooks, IsBook}
use Rattle.session_hall.specs.Requests.{with_calls}
use Rattle.session_hall.proofs.Requests.{Asks, Runs}
use Rattle.session_driver.specs.declared.tally.Tally.{Tally}
use Rattle.session_hall.proofs.Books.{Books}
use Rattle.session_hall.proofs.Running.{RunsFrom, runs_closed, runs_first, runs_next}
use Rattle.session_driver.proofs.Steps.{asked_none, open_request, replied_settled}

-- ---- the books as the driver knows them

abbrev pub room_of : Held GameKind AnyG → ℕ
room_of b = b.room

abbrev pub stands_by : Held GameKind AnyG → RoomCalls → Type 0
stands_by b h = StandsFor any_rules b h

abbrev pub always_whole : Held GameKind AnyG → Bool
always_whole b = true

abbrev pub calls_book : Books → ℕ → Did → Books → Type 0
calls_book books pass made after = CallsBook room_of stands_by always_whole books pass made after

pub in_order : (books : Books) (rooms : Rooms GameKind) → AreBooks books rooms → AreInOrder room_of stands_by books
in_order books rooms a room d low =
    let book : IsBook room rooms (slice_index_or books room d) = a.each room d (subst (λ k. room < k) a.count low) in
    (book.number, (history_of rooms room, book.stands))

-- what calls count together
abbrev tally_of : List Did → Tally
tally_of all = record { accepted = counted accepts all; refused = counted refuses all }

abbrev tally_one : Did → Tally
tally_one made = record { accepted = accepts made.reply; refused = refuses made.reply }

-- so far: it has run, and its core is settled, of the same pass
pub record SoFar (pass : ℕ) (c : Core GameKind) (rooms : Rooms GameKind) (all : List Did) (t : Side Books) : Type 0 where
  pub runs : RunsFrom (length all) pass c rooms (with_calls pass all rooms) t.core t.rooms (tally_of all)
  pub settled : IsSettled t.core.call t.core.request t.core.said
  pub pass_is : t.core.pass ≡ pass

module _ (pass : ℕ) (c : Core GameKind) (rooms : Rooms GameKind) where
  one_further : (all : List Did) (m : Side Books) → SoFar pass c rooms all m → (made : Did) (t : Side Books) → m.core.call ≡ Some (made.room, made.call) → calls_book m.rooms m.core.pass made t.rooms
      → HearsReply (asked m.core) made.reply t.core → SoFar pass c rooms (made ∷ all) t
  one_further all m f made t wanted called heard_it = record {
    runs = subst (λ n. RunsFrom n pass c rooms (with_calls pass (made ∷ all) rooms) t.core t.rooms (tally_of (made ∷ all))) (longer (length all))
        (subst (λ bs. RunsFrom (length all + 1) pass c rooms (with_calls pass (made ∷ all) rooms) t.core bs (tally_of (made ∷ all))) (sym called.set)
        (runs_next (length all) pass c rooms (with_calls pass all rooms) m.core m.rooms (tally_of all) f.runs made.room made.call made.reply open_one.0.0 wanted open_one.0.1 called.here t.core called.old called.book called.is called.room
        (tally_one made) (tally_of (made ∷ all)) asks refl refl));
    settled = replied_settled (asked m.core) open_one.0.0 made.reply t.core open_one.1 open_one.0.1 heard_it;
    pass_is = passes_on heard_it ∙ f.pass_is;
  }
    where
      open_one : ((request : Request) × (m.core.request ≡ Some request)) × (m.core.said ≡ None)
      open_one = open_request m.core.call m.core.request m.core.said (made.room, made.call) wanted f.settled

      longer : (n : ℕ) → n + 1 ≡ suc n
      longer n = omega arith

      asks : (h : History GameKind) → StandsFor any_rules called.old h → Asks pass called.old.room made.call made.reply (asked m.core) h t.core called.book (tally_one made)
      asks h s = subst (λ p. Asks p called.old.room made.call made.reply (asked m.core) h t.core called.book (tally_one made)) f.pass_is (record {
        is = called.told h s;
        fed = called.fed refl;
        stands = called.stands h s;
        heard = heard_it;
        accepted = refl;
        refused = refl;
      })

      moved_pass : (x : Next GameKind) → (moved (asked m.core) x).pass ≡ m.core.pass
      moved_pass (Calls room asked_for request) = refl
      moved_pass (Says a) = refl
      moved_pass (Attaches room) = refl
      moved_pass Silent = refl

      passes_on : HearsReply (asked m.core) made.reply t.core → t.core.pass ≡ m.core.pass
      passes_on (inl e) = ap (λ (x : Core GameKind). x.pass) (e ∙ ap (λ q. replied named (asked m.core) q made.reply) open_one.0.1) ∙ moved_pass (next named m.core.rooms open_one.0.0 made.reply)
      passes_on (inr e) = ap (λ (x : Core GameKind). x.pass) e.0

  so_far : (books : Books) → AreBooks books rooms → IsSettled c.call c.request c.said → c.pass ≡ pass → (all : List Did) (t : Side Books) → Makes calls_book (side books c) all t → SoFar pass c rooms all t
  so_far books a settled same [] t e = subst (λ x. SoFar pass c rooms [] x) (sym e) (record {
    runs = runs_first pass c rooms books (tally_of []) refl refl a;
    settled = settled;
    pass_is = same;
  })
  so_far books a settled same (made ∷ earlier) t (m, before, (wanted, called, heard_it)) =
      one_further earlier m (so_far books a settled same earlier m before) made t wanted called heard_it

-- the clause of session_hall's `run`
pub hall_runs : (c : Core GameKind) (rooms : Rooms GameKind) (books : Books) (tally : Tally) (d : Core GameKind) (after : Books) → AreBooks books rooms → IsSettled c.call c.request c.said
    → c.rooms ≡ length books → (r : RunsOut calls_book (side books c) tally (side after d)) → Runs c.pass c rooms (with_calls c.pass r.makes.all rooms) d after tally
hall_runs c rooms books tally d after a settled many r =
    let f = so_far c.pass c rooms books a settled refl r.makes.all (side after d) r.makes.made in
    let same_books : length after ≡ length rooms = f.runs.stand.count ∙ f.runs.count in
    let few : length r.makes.all ≤ length after + 1 = enough (length r.makes.all) r.n c.rooms (length books) (length rooms) (length after) r.makes.many r.most many a.count same_books in
    let left : Rooms GameKind = with_calls c.pass r.makes.all rooms in
    let ran : Runs c.pass c rooms left (asked d) after (tally_of r.makes.all) = runs_closed (length r.makes.all) c.pass c rooms left d after (tally_of r.makes.all) f.runs r.done few in
    let told : tally_of r.makes.all ≡ tally = as_counted r.makes.all tally r.makes.accepted r.makes.refused in
    subst (λ t. Runs c.pass c rooms left d after t) told (subst (λ x. Runs c.pass c rooms left x after (tally_of r.makes.all)) (asked_none d r.done) ran)
  where
    enough : (made n m books rooms after : ℕ) → made ≡ n → n ≤ m + 1 → m ≡ books → books ≡ rooms → after ≡ rooms → made ≤ after + 1
    enough made n m books rooms after e l f g h = omega (arith, e, l, f, g, h)

    as_counted : (all : List Did) (t : Tally) → t.accepted ≡ counted accepts all → t.refused ≡ counted refuses all → tally_of all ≡ t
    as_counted all t e g = ap (λ x. record { accepted = x; refused = counted refuses all }) (sym e) ∙ ap (λ x. record { accepted = t.accepted; refused = x }) (sym g)
