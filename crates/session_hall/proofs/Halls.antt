-- A SessionHall stands for a hall after each of its calls.
use Rattle.std.proofs.Common.{◌≡◌, ◌≤◌, ◌<◌, ℕ, ◌+◌, ◌==◌, Bool, true, false, if◌then◌else◌, nat_lt, List, ◌∷◌, ◌++◌, length, take, drop, slice_index_or, slice_set, Option, Some, None, refl, sym, ap, ◌∙◌, subst, arith}
use Rattle.std.proofs.lemmas.Bool.Decides.{nat_tests}
use Rattle.std.proofs.lemmas.List.{set-get_or}
use Rattle.std.proofs.Math.Seq.{take-append_seam}
use Rattle.any_game.specs.AnyRules.{any_rules, named}
use Rattle.any_game.specs.GameKind.{GameKind}
use Rattle.any_game.specs.declared.any_g.AnyG.{AnyG}
use Rattle.dice_words.specs.Strip.{Strip}
use Rattle.game_hall.specs.Core.{Core, fresh, is_again, moved, plain, released, written}
use Rattle.game_hall.specs.Words.{drawn, next_action, seed_left_by, seed_of, seed_words, words_drawn_by}
use Rattle.game_hall.specs.declared.next.Next.{Next}
use Rattle.game_hall.specs.declared.next.Next.TheVariants.{Calls, Says, Attaches, Silent}
use Rattle.hall_history.specs.Freeing.{frees}
use Rattle.hall_history.specs.Parts.{frees_at, room_after}
use Rattle.hall_history.specs.Hall.{Hall, after_line, attached_to, core_of, request}
use Rattle.game_sheet.specs.MatchName.{Name}
use Rattle.hall_history.specs.Opening.{after_open, own_entry, own_pass, seat_key}
use Rattle.hall_history.specs.Rooms.{History, Rooms, history_of, with_entry}
use Rattle.hall_history.proofs.Giving.{line_adds, request_ends, request_moves}
use Rattle.hall_history.proofs.Opens.{open_adds}
use Rattle.hall_history.proofs.Rooming.{is_same, same_length}
use Rattle.match_master.specs.Held.{Held, StandsFor, is_starved, may_starve}
use Rattle.room_history.specs.Presence.{attached_after}
use Rattle.room_history.specs.Room.{reply}
use Rattle.room_history.specs.declared.call.RoomCall.{RoomCall}
use Rattle.room_history.specs.declared.call.RoomCall.TheVariants as call
use Rattle.room_history.specs.declared.reply.RoomReply.{RoomReply}
use Rattle.room_object.specs.Entry.{Entry, entry}
use Rattle.wire_json.specs.ClientReading.{client_read}
use Rattle.session_hall.specs.Answered.{Frees, HearsLineBy, Leaves, Opens, leaving, leaving_by}
use Rattle.session_hall.specs.Held.{AreBooks, AreCores, HeldHall, IsBook, IsTape, StandsForHall, StandsForOne}
use Rattle.session_hall.specs.Opens.{OpensIn}
use Rattle.session_hall.specs.Requests.{with_calls}
use Rattle.session_driver.specs.Calls.{Did, did}
use Rattle.session_driver.specs.Freeing.{Frees as FreesBy, FreesAt, freed_by}
use Rattle.session_driver.specs.OfBooks.{AreInOrder}
use Rattle.session_driver.specs.Hearing.{Draws, Hears, Side, draws, side}
use Rattle.session_driver.specs.declared.tally.Tally.{Tally}
use Rattle.session_driver.proofs.Along.{drawn_served}
use Rattle.session_hall.proofs.Requests.{HearsRequest, IsReady}
use Rattle.session_hall.proofs.Hearing.{hears_as}
use Rattle.session_hall.proofs.OfHall.{hall_hears_line}
use Rattle.session_hall.proofs.RunsBooks.{calls_book, in_order, room_of, stands_by}
use Rattle.session_hall.proofs.Books.{Books, put_core, put_entry, same_cores}
use Rattle.session_hall.proofs.Tapes.{after_drawing, after_rewinding, next_words}

is_below : (m n : ℕ) → m < n → nat_lt m n ≡ true
is_below m n l = grind (arith, nat_tests)

not_starved : (b : Bool) → (b ≡ true → false ≡ true) → b ≡ false
not_starved true h = sym (h refl)
not_starved false h = refl

-- a list that was put back whole
pub refilled : {A : Type 0} (n : ℕ) (xs ys : List A) → length xs ≡ n → take n (xs ++ drop (length xs) ys) ≡ xs
refilled n xs ys e = ap (λ k. take k (xs ++ drop (length xs) ys)) (sym e) ∙ take-append_seam xs (drop (length xs) ys)

some_none : {A : Type 0} (x : A) → Some x ≡ None → ⊥
some_none x e = cc

-- a core whose request is closed is between two lines, once its answer is handed out
closed_core : (h : Hall GameKind) (pass : ℕ) (next : Next GameKind) → (moved (core_of h pass) next).request ≡ None
    → plain (moved (core_of h pass) next) ≡ record (fresh pass (length h.rooms)) { at = (moved (core_of h pass) next).at }
closed_core h pass (Calls room made asked) e = absurd (some_none asked e)
closed_core h pass (Says a) e = refl
closed_core h pass (Attaches room) e = refl
closed_core h pass Silent e = refl

idle_core : (h : Hall GameKind) (pass : ℕ) (c : Core GameKind) (next : Next GameKind) → c ≡ moved (core_of h pass) next → c.request ≡ None
    → plain c ≡ record (fresh pass (length h.rooms)) { at = c.at }
idle_core h pass c next e closed =
    ap (λ x. plain x) e ∙ closed_core h pass next (ap (λ (x : Core GameKind). x.request) (sym e) ∙ closed)
    ∙ ap (λ (x : Core GameKind). record (fresh pass (length h.rooms)) { at = x.at }) (sym e)

own_at : (pass : ℕ) (room : Option ℕ) (at : ℕ → Option ℕ) → attached_to pass room at pass ≡ room
own_at pass room at = ap (λ b. if b then room else at pass) (is_same pass)

other_at : (pass : ℕ) (room : Option ℕ) (at : ℕ → Option ℕ) (q : ℕ) → (pass == q) ≡ false → attached_to pass room at q ≡ at q
other_at pass room at q e = ap (λ b. if b then room else at q) e

core_at : (h : Hall GameKind) (pass n : ℕ) (at : Option ℕ) → n ≡ length h.rooms → at ≡ h.at pass → record (fresh pass n) { at = at } ≡ core_of h pass
core_at h pass n at l e = ap (λ m. record (fresh pass m) { at = at }) l ∙ ap (λ a. record (fresh pass (length h.rooms)) { at = a }) e

-- whatever the tape, it stands for some hall
pub stands_for_one : (tape : ℕ → List ℕ) (held : HeldHall) (h : Hall GameKind) → StandsForHall tape held h → StandsForOne held
stands_for_one tape held h s = (
  h,
  record {
    least = s.least;
    most = s.most;
    books_held = s.books_held;
    cores_held = s.cores_held;
    tape_held = record { live = s.tape_held.live; gives = λ at. refl; stands_at = s.tape_held.stands_at };
    seed_held = s.seed_held;
  },
)

module _ (tape : ℕ → List ℕ) (held : HeldHall) (h : Hall GameKind) (s : StandsForHall tape held h) where
  -- what stands for another hall with as many rooms
  stands_with : (next : Hall GameKind) (books : Books) (cores : List (Core GameKind)) (strip : Strip) (seed : Option (List ℕ))
      → length next.rooms ≡ length h.rooms → AreBooks books next.rooms → AreCores cores next → IsTape tape next.place strip → seed ≡ next.seed
      → StandsForHall tape (record { books = books; cores = cores; tape = strip; seed = seed }) next
  stands_with next books cores strip seed l b c t e = record {
    least = subst (λ n. 1 ≤ n) (sym l) s.least;
    most = subst (λ n. n ≤ 64) (sym l) s.most;
    books_held = b;
    cores_held = c;
    tape_held = t;
    seed_held = e;
  }

  -- ---- what a call finds

  module _ (pass : ℕ) (there : pass < 32) (c : Core GameKind) (is : c ≡ slice_index_or held.cores pass c) where
    pub own_core : c ≡ core_of h pass
    own_core = is ∙ s.cores_held.each pass c there

    pub own_rooms : c.rooms ≡ length held.books
    own_rooms = ap (λ (x : Core GameKind). x.rooms) own_core ∙ sym s.books_held.count

    pub own_request : c.request ≡ None
    own_request = ap (λ (x : Core GameKind). x.request) own_core

    pub own_said : c.said ≡ None
    own_said = ap (λ (x : Core GameKind). x.said) own_core

    pub own_room : c.at ≡ h.at pass
    own_room = ap (λ (x : Core GameKind). x.at) own_core

  few_books : length held.books ≤ 255
  few_books = omega (arith, s.most, s.books_held.count)

  -- the driver may call them
  pub books_serve : (length held.books ≤ 255) × AreInOrder room_of stands_by held.books
  books_serve = (few_books, in_order held.books h.rooms s.books_held)

  -- ---- a session's line

  module _ (pass : ℕ) (there : pass < 32) (line : List ℕ) (d : Core GameKind) (books : Books) (said : List ℕ) (again : Bool) (tally : Tally) (calls : List Did)
      (r : HearsRequest tape h pass (client_read line) d books said again tally (with_calls pass calls h.rooms)) (strip : Strip) (seed : Option (List ℕ))
      (kept : again ≡ true → IsTape tape h.place strip × (seed ≡ h.seed))
      (drew : again ≡ false → IsTape tape (h.place + words_drawn_by (client_read line) h.seed) strip × (seed ≡ seed_left_by (client_read line) h.seed)) where
    abbrev done : Core GameKind × Rooms GameKind
    done = ((request named any_rules tape r.mark h pass (client_read line)).0, (request named any_rules tape r.mark h pass (client_read line)).1.rooms)

    abbrev next : Hall GameKind
    next = (after_line named any_rules tape r.mark h pass line).0

    as_many : length next.rooms ≡ length h.rooms
    as_many = (line_adds named any_rules tape r.mark h pass line).0

    is_idle : d ≡ core_of next pass
    is_idle =
        let moves = request_moves named any_rules tape r.mark h pass (client_read line) in
        r.core ∙ idle_core h pass done.0 moves.0 moves.1 (request_ends named any_rules tape r.mark h pass (client_read line))
        ∙ core_at next pass (length h.rooms) done.0.at (sym as_many) (sym (own_at pass done.0.at h.at))

    words_by : (b : Bool) → again ≡ b → IsTape tape next.place strip
    words_by true e = subst (λ b. IsTape tape (if b then h.place else h.place + words_drawn_by (client_read line) h.seed) strip) (sym e ∙ r.want) (kept e).0
    words_by false e = subst (λ b. IsTape tape (if b then h.place else h.place + words_drawn_by (client_read line) h.seed) strip) (sym e ∙ r.want) (drew e).0

    seed_by : (b : Bool) → again ≡ b → seed ≡ next.seed
    seed_by true e = subst (λ b. seed ≡ (if b then h.seed else seed_left_by (client_read line) h.seed)) (sym e ∙ r.want) (kept e).1
    seed_by false e = subst (λ b. seed ≡ (if b then h.seed else seed_left_by (client_read line) h.seed)) (sym e ∙ r.want) (drew e).1

    pub line_heard : HearsLineBy tape h pass line (record { books = books; cores = slice_set held.cores pass d; tape = strip; seed = seed }) said again tally calls
    line_heard = record {
      heard = record {
        mark = r.mark;
        stands = stands_with next books (slice_set held.cores pass d) strip seed as_many r.stand
            (put_core held.cores h next pass d s.cores_held there as_many is_idle (λ q e. other_at pass done.0.at h.at q e)) (words_by again refl) (seed_by again refl);
        text = r.text;
        want = r.want;
        tallies = r.tallies;
      };
      rooms = r.rooms;
    }

  -- ---- a session's line, by what the driver made of it

  module _ (pass : ℕ) (there : pass < 32) (line : List ℕ) (c : Core GameKind) (is : c ≡ slice_index_or held.cores pass c)
      (d : Core GameKind) (after : Books) (left : Draws) (tally : Tally) (k : Hears calls_book line (side held.books c) (draws held.tape held.seed) (side after d) left tally)
      (now : Core GameKind) (is_now : now ≡ plain d) (said : List ℕ) (is_said : said ≡ written d) (again : Bool) (is_again_so : again ≡ is_again d.said) where
    ready : IsReady tape h pass c held.books (next_action held.tape).left held.seed
    ready = record { is_core = own_core pass there c is; are_books = s.books_held; are_words = next_words tape h.place held.tape s.tape_held; is_seed = s.seed_held }

    heard_so : HearsRequest tape h pass (client_read line) now after said again tally (with_calls pass k.runs.makes.all h.rooms)
    heard_so =
        hears_as tape h pass (client_read line) d now after after said again tally tally (with_calls pass k.runs.makes.all h.rooms)
        (hall_hears_line tape h pass line c held.books (draws held.tape held.seed) ready d after left tally k) is_now is_said is_again_so refl refl

    -- there was no memory for it
    kept : again ≡ true → IsTape tape h.place left.words × (left.seed ≡ h.seed)
    kept e =
        let given : left ≡ draws (next_action held.tape) held.seed = k.draws_after ∙ ap (λ b. if b then draws (next_action held.tape) held.seed else k.left) (sym is_again_so ∙ e) in (
          after_rewinding tape h.place held.tape s.tape_held held.tape left.words refl (ap (λ (x : Draws). x.words) given),
          ap (λ (x : Draws). x.seed) given ∙ s.seed_held,
        )

    drew : again ≡ false → IsTape tape (h.place + words_drawn_by (client_read line) h.seed) left.words × (left.seed ≡ seed_left_by (client_read line) h.seed)
    drew e =
        let so : left ≡ draws (drawn (words_drawn_by (client_read line) held.seed) (next_action held.tape)) (seed_left_by (client_read line) held.seed) =
        drawn_served calls_book line (side held.books c) (draws held.tape held.seed) (side after d) left tally k (sym is_again_so ∙ e) in (
          after_drawing tape h.place held.tape s.tape_held (words_drawn_by (client_read line) h.seed) left.words
              (ap (λ (x : Draws). x.words) so ∙ ap (λ x. drawn (words_drawn_by (client_read line) x) (next_action held.tape)) s.seed_held),
          ap (λ (x : Draws). x.seed) so ∙ ap (λ x. seed_left_by (client_read line) x) s.seed_held,
        )

    pub line_driven : HearsLineBy tape h pass line (record { books = after; cores = slice_set held.cores pass now; tape = left.words; seed = left.seed }) said again tally k.runs.makes.all
    line_driven = line_heard pass there line now after said again tally k.runs.makes.all heard_so left.words left.seed kept drew

  -- ---- a Take and a Detach

  pub none_freed : (pass : ℕ) (made : RoomCall GameKind) → h.at pass ≡ None → Frees tape h pass made held None
  none_freed pass made e =
      let is : frees any_rules h pass made ≡ (h, None) = ap (λ at. frees_at any_rules h pass made at) e in
      record { stands = subst (λ x. StandsForHall tape held x.0) (sym is) s; reply = sym (ap (λ x. x.1) is) }

  module _ (pass : ℕ) (there : pass < 32) (made : RoomCall GameKind) (room : ℕ) (at_room : h.at pass ≡ Some room) (below : room < length h.rooms)
      (b : Held GameKind AnyG) (numbered : b.room ≡ room) (book : StandsFor any_rules b (entry pass made false ∷ history_of h.rooms room))
      (told : RoomReply) (replied : told ≡ reply any_rules room (history_of h.rooms room) (entry pass made false))
      (c : Core GameKind) (moved_to : c ≡ record (fresh pass (length h.rooms)) { at = room_after room made told }) where
    abbrev freed_hall : Hall GameKind
    freed_hall = record h { rooms = with_entry h.rooms room (entry pass made false); at = attached_to pass (room_after room made told) h.at }

    fewer : length freed_hall.rooms ≡ length h.rooms
    fewer = same_length h.rooms room (entry pass made false)

    is_freed : frees any_rules h pass made ≡ (freed_hall, Some told)
    is_freed =
        ap (λ at. frees_at any_rules h pass made at) at_room
        ∙ ap (λ x. (record h { rooms = with_entry h.rooms room (entry pass made false); at = attached_to pass (room_after room made x) h.at }, Some x)) (sym replied)

    pub one_freed : Frees tape h pass made (record { books = slice_set held.books room b; cores = slice_set held.cores pass c; tape = held.tape; seed = held.seed }) (Some told)
    one_freed = record {
      stands = subst (λ x. StandsForHall tape (record { books = slice_set held.books room b; cores = slice_set held.cores pass c; tape = held.tape; seed = held.seed }) x.0) (sym is_freed)
          (stands_with freed_hall (slice_set held.books room b) (slice_set held.cores pass c) held.tape held.seed fewer
          (put_entry held.books h.rooms room b (entry pass made false) s.books_held below numbered book)
          (put_core held.cores h freed_hall pass c s.cores_held there fewer
          (moved_to ∙ core_at freed_hall pass (length h.rooms) (room_after room made told) (sym fewer) (sym (own_at pass (room_after room made told) h.at)))
          (λ q e. other_at pass (room_after room made told) h.at q e))
          s.tape_held s.seed_held);
      reply = sym (ap (λ x. x.1) is_freed);
    }

  module _ (pass : ℕ) (there : pass < 32) (made : RoomCall GameKind) (never : may_starve made ≡ false) (c : Core GameKind) (is : c ≡ slice_index_or held.cores pass c)
      (room : ℕ) (at : Some room ≡ c.at) (told : RoomReply) (books : Books) (called : calls_book held.books pass (did room made told) books) where
    served : is_starved told ≡ false
    served = not_starved (is_starved told) (λ e. sym never ∙ called.fed refl e)

    in_rooms : room < length h.rooms
    in_rooms = subst (λ k. room < k) s.books_held.count called.here

    held_book : IsBook room h.rooms called.old
    held_book = subst (λ x. IsBook room h.rooms x) (sym called.is) (s.books_held.each room called.old in_rooms)

    core_by : (b : Bool) → (if b then c else released c) ≡ record (fresh pass (length h.rooms)) { at = if b then Some room else None }
    core_by true = own_core pass there c is ∙ ap (λ a. record (fresh pass (length h.rooms)) { at = a }) (sym (own_room pass there c is) ∙ sym at)
    core_by false = ap (λ y. released y) (own_core pass there c is)

    freed_as : (d : Core GameKind) → d ≡ freed_by made told c
        → Frees tape h pass made (record { books = slice_set held.books room called.book; cores = slice_set held.cores pass d; tape = held.tape; seed = held.seed }) (Some told)
    freed_as d e =
        one_freed pass there made room (sym (own_room pass there c is) ∙ sym at) in_rooms called.book (called.room ∙ held_book.number)
        (subst (λ b. StandsFor any_rules called.book (entry pass made b ∷ history_of h.rooms room)) served (called.stands (history_of h.rooms room) held_book.stands))
        told
        (called.told (history_of h.rooms room) held_book.stands ∙ ap (λ k. reply any_rules k (history_of h.rooms room) (entry pass made (is_starved told))) held_book.number
        ∙ ap (λ b. reply any_rules room (history_of h.rooms room) (entry pass made b)) served)
        d (e ∙ core_by (attached_after true made told))

    pub freed_there : (d : Core GameKind) → d ≡ freed_by made told c
        → Frees tape h pass made (record { books = books; cores = slice_set held.cores pass d; tape = held.tape; seed = held.seed }) (Some told)
    freed_there d e =
        subst (λ bs. Frees tape h pass made (record { books = bs; cores = slice_set held.cores pass d; tape = held.tape; seed = held.seed }) (Some told)) (sym called.set) (freed_as d e)

  -- by what the driver made of it
  module _ (pass : ℕ) (there : pass < 32) (made : RoomCall GameKind) (never : may_starve made ≡ false) (c : Core GameKind) (is : c ≡ slice_index_or held.cores pass c)
      (told : Option RoomReply) (books : Books) (d : Core GameKind) where
    abbrev after_freeing : Side Books → HeldHall
    after_freeing t = record { books = t.rooms; cores = slice_set held.cores pass t.core; tape = held.tape; seed = held.seed }

    same_books : slice_set held.cores pass c ≡ held.cores
    same_books = ap (λ x. slice_set held.cores pass x) is ∙ set-get_or held.cores pass c

    freed_by_room : (at : Option ℕ) → at ≡ c.at → FreesAt calls_book made at (side held.books c) told (side books d) → Frees tape h pass made (after_freeing (side books d)) told
    freed_by_room None e (none, stays) =
        subst (λ x. Frees tape h pass made (after_freeing x) told) (sym stays)
        (subst (λ o. Frees tape h pass made (after_freeing (side held.books c)) o) (sym none)
        (subst (λ cores. Frees tape h pass made (record { books = held.books; cores = cores; tape = held.tape; seed = held.seed }) None) (sym same_books)
        (none_freed pass made (sym (own_room pass there c is) ∙ sym e))))
    freed_by_room (Some room) e (reply, is_told, called, is_core) =
        subst (λ o. Frees tape h pass made (after_freeing (side books d)) o) (sym is_told)
        (freed_there pass there made never c is room e reply books
        (subst (λ p. calls_book held.books p (did room made reply) books) (ap (λ (x : Core GameKind). x.pass) (own_core pass there c is)) called) d is_core)

    pub freed_by_driver : FreesBy calls_book made (side held.books c) told (side books d) → Frees tape h pass made (after_freeing (side books d)) told
    freed_by_driver f = freed_by_room c.at refl f

  -- ---- a player's leaving

  pub one_leaves : (name : Name) (seat : ℕ) → name.room < length h.rooms → nat_lt name.room (length h.rooms) ≡ true
      → (b : Held GameKind AnyG) → b.room ≡ name.room
      → StandsFor any_rules b (own_entry (call.Leave name.serial seat (seat_key seat)) ∷ history_of h.rooms name.room)
      → (told : RoomReply) → told ≡ reply any_rules name.room (history_of h.rooms name.room) (own_entry (call.Leave name.serial seat (seat_key seat)))
      → Leaves tape h name seat (record { books = slice_set held.books name.room b; cores = held.cores; tape = held.tape; seed = held.seed }) (Some told)
  one_leaves name seat below e b numbered book told replied =
      let left : Entry (RoomCall GameKind) = own_entry (call.Leave name.serial seat (seat_key seat)) in
      let next : Hall GameKind = record h { rooms = with_entry h.rooms name.room left } in
      let is : leaving h name seat ≡ (next, Some told) =
      ap (λ b. if b then leaving_by h name.room left else (h, None)) e ∙ ap (λ x. (next, Some x)) (sym replied) in
      let fewer : length next.rooms ≡ length h.rooms = same_length h.rooms name.room left in
      record {
        stands = subst (λ x. StandsForHall tape (record { books = slice_set held.books name.room b; cores = held.cores; tape = held.tape; seed = held.seed }) x.0) (sym is)
            (stands_with next (slice_set held.books name.room b) held.cores held.tape held.seed fewer
            (put_entry held.books h.rooms name.room b left s.books_held below numbered book)
            (same_cores held.cores h next s.cores_held fewer (λ pass. refl)) s.tape_held s.seed_held);
        reply = sym (ap (λ x. x.1) is);
      }

  pub player_leaves : (name : Name) (seat : ℕ) → name.room < length held.books → (old new : Held GameKind AnyG) → old ≡ slice_index_or held.books name.room old → new.room ≡ old.room
      → (told : RoomReply)
      → ((g : History GameKind) → StandsFor any_rules old g → told ≡ reply any_rules old.room g (entry own_pass (call.Leave name.serial seat (seat_key seat)) (is_starved told)))
      → ((g : History GameKind) → StandsFor any_rules old g → StandsFor any_rules new (entry own_pass (call.Leave name.serial seat (seat_key seat)) (is_starved told) ∷ g))
      → (is_starved told ≡ true → false ≡ true)
      → Leaves tape h name seat (record { books = slice_set held.books name.room new; cores = held.cores; tape = held.tape; seed = held.seed }) (Some told)
  player_leaves name seat below old new found same told answered stands fed =
      let served : is_starved told ≡ false = not_starved (is_starved told) fed in
      let there : name.room < length h.rooms = subst (λ k. name.room < k) s.books_held.count below in
      let book : IsBook name.room h.rooms old = subst (λ x. IsBook name.room h.rooms x) (sym found) (s.books_held.each name.room old there) in
      let left : RoomCall GameKind = call.Leave name.serial seat (seat_key seat) in
      one_leaves name seat there (is_below name.room (length h.rooms) there) new (same ∙ book.number)
      (subst (λ b. StandsFor any_rules new (entry own_pass left b ∷ history_of h.rooms name.room)) served (stands (history_of h.rooms name.room) book.stands))
      told
      (answered (history_of h.rooms name.room) book.stands ∙ ap (λ k. reply any_rules k (history_of h.rooms name.room) (entry own_pass left (is_starved told))) book.number
      ∙ ap (λ b. reply any_rules name.room (history_of h.rooms name.room) (entry own_pass left b)) served)

  pub player_leaves_by : (name : Name) (seat room : ℕ) → room ≡ name.room → (made : RoomCall GameKind) → made ≡ call.Leave name.serial seat (seat_key seat)
      → room < length held.books → (old new : Held GameKind AnyG) → old ≡ slice_index_or held.books room old → new.room ≡ old.room → (told : RoomReply)
      → ((g : History GameKind) → StandsFor any_rules old g → told ≡ reply any_rules old.room g (entry own_pass made (is_starved told)))
      → ((g : History GameKind) → StandsFor any_rules old g → StandsFor any_rules new (entry own_pass made (is_starved told) ∷ g))
      → (is_starved told ≡ true → may_starve made ≡ true)
      → Leaves tape h name seat (record { books = slice_set held.books room new; cores = held.cores; tape = held.tape; seed = held.seed }) (Some told)
  player_leaves_by name seat room is_room made is_made below old new found same told answered stands fed =
      let left : RoomCall GameKind = call.Leave name.serial seat (seat_key seat) in
      subst (λ r. Leaves tape h name seat (record { books = slice_set held.books r new; cores = held.cores; tape = held.tape; seed = held.seed }) (Some told)) (sym is_room)
      (player_leaves name seat (subst (λ r. r < length held.books) is_room below) old new (subst (λ r. old ≡ slice_index_or held.books r old) is_room found) same told
      (λ g k. answered g k ∙ ap (λ m. reply any_rules old.room g (entry own_pass m (is_starved told))) is_made)
      (λ g k. subst (λ m. StandsFor any_rules new (entry own_pass m (is_starved told) ∷ g)) is_made (stands g k))
      (λ e. subst (λ m. may_starve m ≡ true) is_made (fed e)))

  -- ---- a seed

  pub seed_set : (seed : List ℕ) → StandsForHall tape (record { books = held.books; cores = held.cores; tape = held.tape; seed = Some seed }) (record h { seed = Some seed })
  seed_set seed =
      let next : Hall GameKind = record h { seed = Some seed } in
      stands_with next held.books held.cores held.tape (Some seed) refl s.books_held (same_cores held.cores h next s.cores_held refl (λ pass. refl)) s.tape_held refl

  -- ---- an open

  -- whatever the rooms have come to
  pub any_opened : (books : Books) (after : Rooms GameKind) → length after ≡ length h.rooms → AreBooks books after
      → (strip : Strip) → IsTape tape (h.place + seed_words h.seed) strip
      → StandsForHall tape (record { books = books; cores = held.cores; tape = strip; seed = None }) (record h { rooms = after; place = h.place + seed_words h.seed; seed = None })
  any_opened books after l a strip t =
      let next : Hall GameKind = record h { rooms = after; place = h.place + seed_words h.seed; seed = None } in
      stands_with next books held.cores strip None l a (same_cores held.cores h next s.cores_held l (λ pass. refl)) t refl

  pub one_opened : (game : List ℕ) (seats : ℕ) (seed : List ℕ) → seed ≡ seed_of h.seed (tape h.place)
      → (books : Books) (made : Option Name) → OpensIn h.rooms game seats seed books made → (strip : Strip) → IsTape tape (h.place + seed_words h.seed) strip
      → Opens tape h game seats (record { books = books; cores = held.cores; tape = strip; seed = None }) made
  one_opened game seats seed e books made o strip t =
      let opens : OpensIn h.rooms game seats (seed_of h.seed (tape h.place)) books made = subst (λ x. OpensIn h.rooms game seats x books made) e o in
      record {
        stands = any_opened books (after_open named any_rules tape h game seats).0.rooms (open_adds named any_rules tape h game seats).0 opens.stand strip t;
        answer = opens.answer;
      }

  -- by what the code finds of the words, and of what the rooms came to
  module _ (game : List ℕ) (seats : ℕ) (next_tape : Strip) (is_next : next_tape ≡ next_action held.tape) (seed : List ℕ) (is_seed : seed ≡ seed_of held.seed next_tape.left)
      (ready : Option (List ℕ)) (is_taken : ready ≡ None) (strip : Strip) (drew : strip ≡ drawn (seed_words held.seed) next_tape) (books : Books) where
    tape_then : IsTape tape (h.place + seed_words h.seed) strip
    tape_then =
        after_drawing tape h.place held.tape s.tape_held (seed_words h.seed) strip
        (drew ∙ ap (λ x. drawn (seed_words held.seed) x) is_next ∙ ap (λ x. drawn (seed_words x) (next_action held.tape)) s.seed_held)

    pub seed_then : seed ≡ seed_of h.seed (tape h.place)
    seed_then =
        is_seed ∙ ap (λ (x : Strip). seed_of held.seed x.left) is_next ∙ ap (λ x. seed_of held.seed x) (next_words tape h.place held.tape s.tape_held)
        ∙ ap (λ x. seed_of x (tape h.place)) s.seed_held

    pub stays_some : (after : Rooms GameKind) × (length after ≡ length h.rooms) × AreBooks books after → StandsForOne (record { books = books; cores = held.cores; tape = strip; seed = ready })
    stays_some put =
        subst (λ x. StandsForOne (record { books = books; cores = held.cores; tape = strip; seed = x })) (sym is_taken)
        (stands_for_one tape (record { books = books; cores = held.cores; tape = strip; seed = None }) (record h { rooms = put.0; place = h.place + seed_words h.seed; seed = None })
        (any_opened books put.0 put.1 put.2 strip tape_then))

    pub opens_one : (made : Option Name) → OpensIn h.rooms game seats seed books made → Opens tape h game seats (record { books = books; cores = held.cores; tape = strip; seed = ready }) made
    opens_one made o =
        subst (λ x. Opens tape h game seats (record { books = books; cores = held.cores; tape = strip; seed = x }) made) (sym is_taken)
        (one_opened game seats seed seed_then books made o strip tape_then)
