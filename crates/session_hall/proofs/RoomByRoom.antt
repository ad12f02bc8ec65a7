-- An open asks room after room, as hall_history has it.
use Rattle.std.proofs.Common.{◌≡◌, ◌≤◌, ◌<◌, ℕ, zero, suc, ◌+◌, Bool, true, false, nat_lt, if◌then◌else◌, List, ◌∷◌, length, slice_index_or, slice_set, Option, Some, None, refl, sym, ap, ◌∙◌, subst, arith}
use Rattle.std.proofs.lemmas.Bool.Decides.{nat_tests}
use Rattle.any_game.specs.AnyRules.{any_rules, named}
use Rattle.any_game.specs.GameKind.{GameKind}
use Rattle.any_game.specs.declared.any_g.AnyG.{AnyG}
use Rattle.game_hall.specs.Core.{Core, fresh, moved}
use Rattle.game_hall.specs.Kept.{IsNamed}
use Rattle.game_hall.specs.Requests.{created_by, is_busy, makes, next, refuses, tries}
use Rattle.game_hall.specs.declared.answer.Answer.{Answer}
use Rattle.game_hall.specs.declared.answer.Answer.TheVariants as answer
use Rattle.game_hall.specs.declared.next.Next.TheVariants.{Says}
use Rattle.game_hall.specs.declared.request.Request.TheVariants.{Creating}
use Rattle.game_hall.proofs.Running.{moved_over}
use Rattle.game_sheet.specs.MatchName.{Name}
use Rattle.hall_history.specs.Opening.{own_entry, own_pass, seated_by}
use Rattle.hall_history.specs.Rooms.{History, Rooms, history_of, reply_in, with_entry}
use Rattle.hall_history.proofs.Rooming.{same_length}
use Rattle.match_master.specs.Held.{Held, StandsFor}
use Rattle.room_history.specs.declared.call.RoomCall.{RoomCall}
use Rattle.room_history.specs.declared.call.RoomCall.TheVariants as call
use Rattle.room_history.specs.declared.reply.RoomReply.{RoomReply}
use Rattle.room_history.specs.declared.reply.RoomReply.TheVariants as told_as
use Rattle.room_object.specs.Entry.{Entry}
use Rattle.wire_json.specs.declared.refusal.Refusal.TheVariants.{Full, NoGame}
use Rattle.session_hall.specs.Held.{AreBooks, IsBook}
use Rattle.session_hall.specs.Opens.{CreatesIn, MakesIn, OpensIn, made_by, opening_in, seated_in, tried_by}
use Rattle.session_hall.specs.declared.opening.Tried.{Tried}
use Rattle.session_hall.specs.declared.opening.Tried.TheVariants.{Busy, Made, Refused, Starved}
use Rattle.session_hall.proofs.Books.{Books, put_any, put_book, put_entry, put_match}
use Rattle.game_hall.proofs.Replies.{named_by}
use Rattle.session_hall.proofs.Running.{Lucks, runs, still, with_luck}

is_below : (m n : ℕ) → m < n → nat_lt m n ≡ true
is_below m n h = grind (arith, nat_tests)

not_below : (n : ℕ) → nat_lt n n ≡ false
not_below n = grind (arith, nat_tests)

-- ---- what a reply says

tried_busy : (told : RoomReply) → Busy ≡ tried_by told → is_busy told ≡ true
tried_busy told_as.Busy e = refl
tried_busy told e = cc

tried_made : (told : RoomReply) (serial : ℕ) → Made serial ≡ tried_by told → told ≡ told_as.Created serial
tried_made (told_as.Created n) serial e = cc
tried_made told serial e = cc

-- such an answer names no match
abbrev MakesNone : Answer → Type 0
MakesNone said = (made_by (Some said) ≡ None) × ((seats : ℕ) (rooms : Rooms GameKind) → seated_by (Some said) seats rooms ≡ rooms)

tried_none : (room : ℕ) (told : RoomReply) → Refused ≡ tried_by told → (is_busy told ≡ false) × MakesNone (created_by room told)
tried_none room (told_as.Created n) e = cc
tried_none room told_as.Busy e = cc
tried_none room told e = (refl, (refl, λ seats rooms. refl))

-- ---- room after room

module _ (rooms : Rooms GameKind) (game : List ℕ) (seats : ℕ) (seed : List ℕ) where
  abbrev own_core : Core GameKind
  own_core = fresh own_pass (length rooms)

  abbrev trying : ℕ → Core GameKind
  trying at = moved own_core (tries named (length rooms) game seats seed at)

  -- every room before this one was busy
  pub record OpensFrom (at : ℕ) (books : Books) : Type 0 where
    pub asked : Rooms GameKind
    pub rest : ℕ
    pub stand : AreBooks books asked
    pub count : length asked ≡ length rooms
    pub enough : at + rest ≡ length rooms + 1
    pub goes : opening_in rooms game seats seed ≡ runs rest own_pass (trying at) (with_luck asked None)

  pub opens_first : (books : Books) → AreBooks books rooms → OpensFrom 0 books
  opens_first books a = record { asked = rooms; rest = length rooms + 1; stand = a; count = refl; enough = from_zero; goes = refl }
    where
      from_zero : 0 + (length rooms + 1) ≡ length rooms + 1
      from_zero = omega arith

  -- an answer ends it
  ends_with : (said : Answer) (rest : ℕ) (left : Rooms GameKind) (done : Core GameKind × Lucks) → done ≡ runs rest own_pass (moved own_core (Says said)) (with_luck left None)
      → done ≡ (moved own_core (Says said), with_luck left None)
  ends_with said rest left done e = e ∙ still own_pass rest (moved own_core (Says said)) (with_luck left None) refl

  none_made : (said : Answer) (rest : ℕ) (left : Rooms GameKind) (books : Books)
      → opening_in rooms game seats seed ≡ runs rest own_pass (moved own_core (Says said)) (with_luck left None) → MakesNone said → AreBooks books left
      → OpensIn rooms game seats seed books None
  none_made said rest left books e none a =
      let ends = ends_with said rest left (opening_in rooms game seats seed) e in
      record {
        stand = subst (λ r. AreBooks books r) (sym (ap (λ done. seated_by done.0.said seats done.1.rooms) ends ∙ none.1 seats left)) a;
        answer = sym (ap (λ done. made_by done.0.said) ends ∙ none.0);
      }

  -- every room was busy
  pub opens_full : (books : Books) → OpensFrom (length rooms) books → OpensIn rooms game seats seed books None
  opens_full books o =
      none_made (answer.Refused Full) o.rest o.asked books
      (o.goes ∙ ap (λ b. runs o.rest own_pass (moved own_core (if b then makes (named game) game seats seed (length rooms) else refuses Full)) (with_luck o.asked None)) (not_below (length rooms)))
      (refl, λ s r. refl) o.stand

  module _ (at : ℕ) (below : at < length rooms) (books : Books) (o : OpensFrom at books) (b : Held GameKind AnyG) (numbered : b.room ≡ at) where
    there : at < length o.asked
    there = subst (λ n. at < n) (sym o.count) below

    trying_by : (found : Option GameKind) → named game ≡ found → opening_in rooms game seats seed ≡ runs o.rest own_pass (moved own_core (makes found game seats seed at)) (with_luck o.asked None)
    trying_by found e =
        o.goes
        ∙ ap (λ t. runs o.rest own_pass (moved own_core (if t then makes (named game) game seats seed at else refuses Full)) (with_luck o.asked None)) (is_below at (length rooms) below)
        ∙ ap (λ f. runs o.rest own_pass (moved own_core (makes f game seats seed at)) (with_luck o.asked None)) e

    -- there is no such game
    no_game : named game ≡ None → StandsFor any_rules b (history_of o.asked at) → OpensIn rooms game seats seed (slice_set books at b) None
    no_game e s =
        none_made (answer.Refused NoGame) o.rest o.asked (slice_set books at b) (trying_by None e) (refl, λ s r. refl)
        (put_book books o.asked o.asked at b o.stand refl there numbered s (λ r other. refl))

    module _ (x : GameKind) (found : named game ≡ Some x) where
      abbrev made_entry : Entry (RoomCall GameKind)
      made_entry = own_entry (call.Create x seats seed)

      abbrev told : RoomReply
      told = reply_in any_rules o.asked at made_entry

      abbrev grown : Rooms GameKind
      grown = with_entry o.asked at made_entry

      one_more : (rest : ℕ) → (n : ℕ) → at + rest ≡ n + 1 → at < n → (k : ℕ) × (rest ≡ suc k)
      one_more zero n e l = absurd (omega (arith, e, l))
      one_more (suc k) n e l = (k, refl)

      -- the room was asked
      abbrev left_calls : ℕ
      left_calls = (one_more o.rest (length rooms) o.enough below).0

      asked_one : opening_in rooms game seats seed ≡ runs left_calls own_pass (moved own_core (next named (length rooms) (Creating game seats seed at) told)) (with_luck grown None)
      asked_one =
          trying_by (Some x) found
          ∙ ap (λ n. runs n own_pass (moved own_core (makes (Some x) game seats seed at)) (with_luck o.asked None)) (one_more o.rest (length rooms) o.enough below).1
          ∙ ap (λ d. runs left_calls own_pass d (with_luck grown None)) (moved_over own_core at (call.Create x seats seed) (Creating game seats seed at) (next named (length rooms) (Creating game seats seed at) told))

      by_busy : (t : Bool) → is_busy told ≡ t
          → opening_in rooms game seats seed ≡ runs left_calls own_pass (moved own_core (if t then tries named (length rooms) game seats seed (at + 1) else Says (created_by at told))) (with_luck grown None)
      by_busy t e = asked_one ∙ ap (λ t. runs left_calls own_pass (moved own_core (if t then tries named (length rooms) game seats seed (at + 1) else Says (created_by at told))) (with_luck grown None)) e

      grown_books : StandsFor any_rules b (made_entry ∷ history_of o.asked at) → AreBooks (slice_set books at b) grown
      grown_books s = put_entry books o.asked at b made_entry o.stand there numbered s

      is_busy_one : Busy ≡ tried_by told → StandsFor any_rules b (made_entry ∷ history_of o.asked at) → OpensFrom (at + 1) (slice_set books at b)
      is_busy_one e s = record {
        asked = grown;
        rest = left_calls;
        stand = grown_books s;
        count = same_length o.asked at made_entry ∙ o.count;
        enough = counted (one_more o.rest (length rooms) o.enough below).1;
        goes = by_busy true (tried_busy told e);
      }
        where
          counted : o.rest ≡ suc left_calls → at + 1 + left_calls ≡ length rooms + 1
          counted e = omega (arith, e, o.enough)

      is_refused : Refused ≡ tried_by told → StandsFor any_rules b (made_entry ∷ history_of o.asked at) → OpensIn rooms game seats seed (slice_set books at b) None
      is_refused e s =
          let none = tried_none at told e in
          none_made (created_by at told) left_calls grown (slice_set books at b) (by_busy false none.0) none.1 (grown_books s)

      -- the match was made
      is_made_one : (serial : ℕ) → Made serial ≡ tried_by told → StandsFor any_rules b (seated_in serial seats (made_entry ∷ history_of o.asked at))
          → OpensIn rooms game seats seed (slice_set books at b) (Some (record { room = at; serial = serial }))
      is_made_one serial e s =
          let name : Name = record { room = at; serial = serial } in
          let created : told ≡ told_as.Created serial = tried_made told serial e in
          let ends : opening_in rooms game seats seed ≡ (moved own_core (Says (answer.Created name)), with_luck grown None) =
          ends_with (answer.Created name) left_calls grown (opening_in rooms game seats seed)
          (by_busy false (ap (λ t. is_busy t) created) ∙ ap (λ t. runs left_calls own_pass (moved own_core (Says (created_by at t))) (with_luck grown None)) created) in
          record {
            stand = subst (λ r. AreBooks (slice_set books at b) r) (sym (ap (λ done. seated_by done.0.said seats done.1.rooms) ends))
                (put_match books o.asked name seats b made_entry o.stand there numbered s);
            answer = sym (ap (λ done. made_by done.0.said) ends);
          }

    -- what came of asking this room
    pub goes_on_busy : (found : Option GameKind) → named game ≡ found → MakesIn at found seats seed (history_of o.asked at) Busy b → OpensFrom (at + 1) (slice_set books at b)
    goes_on_busy None e m = absurd (not_refused m.0)
      where
        not_refused : Busy ≡ Refused → ⊥
        not_refused e = cc
    goes_on_busy (Some x) e m = is_busy_one x e m.0 m.1

    pub ends_refused : (found : Option GameKind) → named game ≡ found → MakesIn at found seats seed (history_of o.asked at) Refused b → OpensIn rooms game seats seed (slice_set books at b) None
    ends_refused None e m = no_game e m.1
    ends_refused (Some x) e m = is_refused x e m.0 m.1

  -- a match was made in a room, by what that room's book stands for before players are seated
  module _ (at : ℕ) (below : at < length rooms) (books : Books) (o : OpensFrom at books) (serial : ℕ) where
    not_made : Made serial ≡ Refused → ⊥
    not_made e = cc

    pub has_serial : (found : Option GameKind) (b : Held GameKind AnyG) → named game ≡ found → MakesIn at found seats seed (history_of o.asked at) (Made serial) b → 1 ≤ serial
    has_serial None b e m = absurd (not_made m.0)
    has_serial (Some x) b e m = subst IsNamed (tried_made (reply_in any_rules o.asked at (own_entry (call.Create x seats seed))) serial m.0) (named_by any_rules at (history_of o.asked at) (own_entry (call.Create x seats seed)) _ refl)

    pub ends_made : (found : Option GameKind) (b c : Held GameKind AnyG) → named game ≡ found → MakesIn at found seats seed (history_of o.asked at) (Made serial) b
        → c.room ≡ at → ((h : History GameKind) → StandsFor any_rules b h → StandsFor any_rules c (seated_in serial seats h))
        → OpensIn rooms game seats seed (slice_set books at c) (Some (record { room = at; serial = serial }))
    ends_made None b c e m n all = absurd (not_made m.0)
    ends_made (Some x) b c e m n all = is_made_one at below books o c n x e serial m.0 (all (own_entry (call.Create x seats seed) ∷ history_of o.asked at) m.1)

  -- ---- by what the code finds of a room and what came of asking it

  module _ (at : ℕ) (below : at < length rooms) (books : Books) (o : OpensFrom at books) (old : Held GameKind AnyG) (is : old ≡ slice_index_or books at old) (b : Held GameKind AnyG) (same : b.room ≡ old.room)
      (tried : Tried) (created : (h : History GameKind) → StandsFor any_rules old h → CreatesIn old.room (named game) seats seed h tried b) where
    is_there : at < length o.asked
    is_there = subst (λ n. at < n) (sym o.count) below

    held : IsBook at o.asked old
    held = subst (λ x. IsBook at o.asked x) (sym is) (o.stand.each at old is_there)

    numbered : b.room ≡ at
    numbered = same ∙ held.number

    created_as : (t : Tried) → tried ≡ t → CreatesIn at (named game) seats seed (history_of o.asked at) t b
    created_as t e =
        subst (λ k. CreatesIn k (named game) seats seed (history_of o.asked at) t b) held.number
        (subst (λ x. CreatesIn old.room (named game) seats seed (history_of o.asked at) x b) e (created (history_of o.asked at) held.stands))

    pub busy_next : tried ≡ Busy → OpensFrom (at + 1) (slice_set books at b)
    busy_next e = goes_on_busy at below books o b numbered (named game) refl (created_as Busy e)

    pub refused_ends : tried ≡ Refused → OpensIn rooms game seats seed (slice_set books at b) None
    refused_ends e = ends_refused at below books o b numbered (named game) refl (created_as Refused e)

    pub serial_there : (serial : ℕ) → tried ≡ Made serial → 1 ≤ serial
    serial_there serial e = has_serial at below books o serial (named game) b refl (created_as (Made serial) e)

    pub made_ends : (serial : ℕ) → tried ≡ Made serial → (c : Held GameKind AnyG) → c.room ≡ b.room → ((h : History GameKind) → StandsFor any_rules b h → StandsFor any_rules c (seated_in serial seats h))
        → (name : Name) → name ≡ record { room = at; serial = serial } → OpensIn rooms game seats seed (slice_set books at c) (Some name)
    made_ends serial e c k all name n =
        subst (λ x. OpensIn rooms game seats seed (slice_set books at c) (Some x)) (sym n)
        (ends_made at below books o serial (named game) b c refl (created_as (Made serial) e) (k ∙ numbered) all)

    makes_some : (found : Option GameKind) (t : Tried) (h : History GameKind) → MakesIn at found seats seed h t b → (g : History GameKind) × StandsFor any_rules b g
    makes_some None t h m = (h, m.1)
    makes_some (Some x) t h m = (own_entry (call.Create x seats seed) ∷ h, m.1)

    creates_some : (t : Tried) → CreatesIn at (named game) seats seed (history_of o.asked at) t b → (g : History GameKind) × StandsFor any_rules b g
    creates_some Busy m = makes_some (named game) Busy (history_of o.asked at) m
    creates_some (Made serial) m = makes_some (named game) (Made serial) (history_of o.asked at) m
    creates_some Refused m = makes_some (named game) Refused (history_of o.asked at) m
    creates_some Starved m = m

    -- whatever came of it, the books stand
    pub stand_after : (c : Held GameKind AnyG) → c.room ≡ b.room → ((h : History GameKind) → StandsFor any_rules b h → (g : History GameKind) × StandsFor any_rules c g)
        → (after : Rooms GameKind) × (length after ≡ length rooms) × AreBooks (slice_set books at c) after
    stand_after c k all =
        let some : (g : History GameKind) × StandsFor any_rules b g = creates_some tried (created_as tried refl) in
        let more : (g : History GameKind) × StandsFor any_rules c g = all some.0 some.1 in
        let put : (after : Rooms GameKind) × (length after ≡ length o.asked) × AreBooks (slice_set books at c) after = put_any books o.asked at c more.0 o.stand is_there (k ∙ numbered) more.1 in
        (put.0, put.1 ∙ o.count, put.2)
