-- What passes have seen goes on with each call that their session makes, and what the passes of new desks have seen.
use Rattle.std.proofs.Common.{◌≡◌, ◌<◌, ◌+◌, ◌∙◌, ℕ, zero, suc, Bool, List, [], ◌∷◌, ◌++◌, length, map, Option, Some, None, refl, ap, sym, subst, arith, slice_index_or, slice_set}
use Rattle.std.specs.Prelude.{All, slice_get, take}
use Rattle.std.proofs.lemmas.List.{append-nil, append_assoc, map-append, nil_from_length, take_all}
use Rattle.any_game.specs.GameKind.{GameKind}
use Rattle.dice_words.specs.Strip.{Strip}
use Rattle.match_master.specs.Held.{is_starved}
use Rattle.room_desk.specs.History.{Begins, DeskId, dealt, held}
use Rattle.room_history.specs.declared.call.RoomCall.{RoomCall}
use Rattle.room_history.specs.declared.call.RoomCall.TheVariants as call
use Rattle.room_history.specs.declared.reply.RoomReply.{RoomReply}
use Rattle.room_object.specs.Entry.{entry}
use Rattle.session_driver.specs.Calls.{Did, did}
use Rattle.session_driver.specs.Freeing.{Frees, FreesAt}
use Rattle.session_driver.specs.Hearing.{Makes, Side}
use Rattle.session_pool.specs.Passes.{CallsDesk, Pass}
use Rattle.session_pool.specs.Rooms.{HaveSeen, StandFor}
use Rattle.session_pool.specs.Sittings.{Detaches}
use Rattle.session_pool.specs.Turn.{Calls, Heeds}
use Rattle.session_pool.specs.Watched.{AllBegin, History, seen_of}
use Rattle.session_pool.proofs.Places.{all_but_last, all_more}

-- ---- beginnings

pub begins_on : (h seen more : History) → Begins h seen → Begins seen more → Begins h more
begins_on h seen more (later, is) (newer, e) = (later ++ newer, is ∙ (ap (λ l. later ++ l) e ∙ sym (append_assoc later newer more)))

-- each history begins as it is
pub all_same : (histories : List History) → AllBegin histories histories
all_same [] = tt
all_same (h ∷ histories) = (([], refl), all_same histories)

-- beginnings of beginnings
pub all_through : (histories watch seen : List History) → AllBegin histories watch → AllBegin watch seen → AllBegin histories seen
all_through [] [] [] a b = tt
all_through [] [] (s ∷ seen) a b = absurd b
all_through [] (w ∷ watch) seen a b = absurd a
all_through (h ∷ histories) [] seen a b = absurd a
all_through (h ∷ histories) (w ∷ watch) [] a b = absurd b
all_through (h ∷ histories) (w ∷ watch) (s ∷ seen) a b = (begins_on h w s a.0 b.0, all_through histories watch seen a.1 b.1)

-- ---- calls

-- one pass has seen more
set_begins : (passes : List Pass) (room : ℕ) (p q : Pass) → slice_get passes room ≡ Some p → Begins q.seen p.seen → AllBegin (seen_of (slice_set passes room q)) (seen_of passes)
set_begins [] room p q here goes = tt
set_begins (x ∷ passes) zero p q here goes =
    let same : x ≡ p = cc in
    (subst (λ (y : Pass). Begins q.seen y.seen) (sym same) goes, all_same (seen_of passes))
set_begins (x ∷ passes) (suc room) p q here goes = (([], refl), set_begins passes room p q here goes)

module _ (may_refuse : RoomCall GameKind → Bool) where
  pub call_goes_on : (passes : List Pass) (made : Did) (after : List Pass) → CallsDesk may_refuse passes made after → AllBegin (seen_of after) (seen_of passes)
  call_goes_on passes made after (p, seen, here, called, set, fed) =
      subst (λ (l : List Pass). AllBegin (seen_of l) (seen_of passes)) (sym set)
      (set_begins passes made.room p (held p.desk p.number p.before seen) here (entry p.number made.call (is_starved made.reply) ∷ called.between, called.ends))

  makes_go_on : (s : Side (List Pass)) (all : List Did) (t : Side (List Pass)) → Makes (Calls may_refuse) s all t → AllBegin (seen_of t.rooms) (seen_of s.rooms)
  makes_go_on s [] t e = subst (λ (x : Side (List Pass)). AllBegin (seen_of x.rooms) (seen_of s.rooms)) (sym e) (all_same (seen_of s.rooms))
  makes_go_on s (made ∷ earlier) t (m, before, (wanted, called, heard_it)) =
      all_through (seen_of t.rooms) (seen_of m.rooms) (seen_of s.rooms) (call_goes_on m.rooms made t.rooms called) (makes_go_on s earlier m before)

  -- after a line
  pub heeds_go_on : (line : List ℕ) (s : Side (List Pass)) (words : Strip) (t : Side (List Pass)) (left : Strip) → Heeds may_refuse line s words t left → AllBegin (seen_of t.rooms) (seen_of s.rooms)
  heeds_go_on line s words t left (tally, h) = makes_go_on (record { rooms = s.rooms; core = h.core }) h.runs.makes.all t h.runs.makes.made

  -- after a Take, and after a Detach
  pub frees_go_on : (made : RoomCall GameKind) (s : Side (List Pass)) (told : Option RoomReply) (t : Side (List Pass)) → Frees (Calls may_refuse) made s told t → AllBegin (seen_of t.rooms) (seen_of s.rooms)
  frees_go_on made s told t h = by s.core.at h
    where
      by : (at : Option ℕ) → FreesAt (Calls may_refuse) made at s told t → AllBegin (seen_of t.rooms) (seen_of s.rooms)
      by None (none, stays) = subst (λ (x : Side (List Pass)). AllBegin (seen_of x.rooms) (seen_of s.rooms)) (sym stays) (all_same (seen_of s.rooms))
      by (Some room) (reply, is, called, core) = call_goes_on s.rooms (did room made reply) t.rooms called

  pub detaches_go_on : (s t : Side (List Pass)) → Detaches may_refuse s t → AllBegin (seen_of t.rooms) (seen_of s.rooms)
  detaches_go_on s t (told, frees) = frees_go_on call.Detach s told t frees

-- a session whose passes had seen histories has still seen them once it has gone on
pub went_since : (was old after : List Pass) (pasts : List History) → old ≡ was → AllBegin (seen_of after) (seen_of old) → AllBegin (seen_of was) pasts → AllBegin (seen_of after) pasts
went_since was old after pasts e goes since = all_through (seen_of after) (seen_of was) pasts (subst (λ (l : List Pass). AllBegin (seen_of after) (seen_of l)) e goes) since

-- ---- new desks

-- the passes of a new desk have seen what its room stood for
pub all_dealt : (past : History) (desk : DeskId) (n : ℕ) → All (λ (p : Pass). p.seen ≡ past) (dealt past desk n)
all_dealt past desk zero = λ i d low. absurd (omega arith)
all_dealt past desk (suc n) = all_more (λ (p : Pass). p.seen ≡ past) (dealt past desk n) (dealt past desk (suc n)) (held desk n past past) refl (all_dealt past desk n) refl

module _ {V : Type 0} (items : V → List Pass) where
  -- one room more
  pub one_more_seen : (rooms after : List V) (pasts : List History) (v : V) (past : History) → after ≡ rooms ++ v ∷ [] → HaveSeen (map items rooms) pasts → All (λ (p : Pass). p.seen ≡ past) (items v)
      → HaveSeen (map items after) (pasts ++ past ∷ [])
  one_more_seen rooms after pasts v past push all here = subst (λ vs. HaveSeen (map items vs) (pasts ++ past ∷ [])) (sym push) (on rooms pasts all)
    where
      on : (rooms : List V) (pasts : List History) → HaveSeen (map items rooms) pasts → HaveSeen (map items (rooms ++ v ∷ [])) (pasts ++ past ∷ [])
      on [] [] all = (here, tt)
      on [] (h ∷ pasts) all = absurd all
      on (r ∷ rooms) [] all = absurd all
      on (r ∷ rooms) (h ∷ pasts) all = (all.0, on rooms pasts all.1)

  -- the last pass is taken from a room
  take_seen : (rooms : List V) (pasts : List History) (i : ℕ) (v left : V) (p : Pass) → i < length rooms → items (slice_index_or rooms i v) ≡ items left ++ p ∷ [] → HaveSeen (map items rooms) pasts
      → HaveSeen (map items (slice_set rooms i left)) pasts × (take (suc i) pasts ≡ take i pasts ++ p.seen ∷ [])
  take_seen [] pasts i v left p low last all = absurd (omega (arith, low))
  take_seen (r ∷ rooms) [] i v left p low last all = absurd all
  take_seen (r ∷ rooms) (h ∷ pasts) zero v left p low last all =
      let here = all_but_last (λ (q : Pass). q.seen ≡ h) (items r) (items left) p last all.0 in
      ((here.1, all.1), ap (λ x. x ∷ []) (sym here.0))
  take_seen (r ∷ rooms) (h ∷ pasts) (suc i) v left p low last all =
      let more = take_seen rooms pasts i v left p (omega (arith, low)) last all.1 in
      ((all.0, more.0), ap (λ l. h ∷ l) more.1)

  -- and put to the row of its place
  pub row_seen : (rooms : List V) (pasts : List History) (i j : ℕ) (v left : V) (p : Pass) (row row' : List Pass) → j ≡ i + 1 → i < length rooms → items (slice_index_or rooms i v) ≡ items left ++ p ∷ []
      → row' ≡ row ++ p ∷ [] → HaveSeen (map items rooms) pasts → seen_of row ≡ take i pasts → HaveSeen (map items (slice_set rooms i left)) pasts × (seen_of row' ≡ take j pasts)
  row_seen rooms pasts i j v left p row row' e low last push all is =
      let up : suc i ≡ j = omega (arith, e) in
      let t = take_seen rooms pasts i v left p low last all in
      (t.0, ap seen_of push ∙ (map-append (λ (q : Pass). q.seen) row (p ∷ []) ∙ (ap (λ l. l ++ p.seen ∷ []) is ∙ (sym t.1 ∙ ap (λ k. take k pasts) up))))

  many_seen : (rooms : List V) (pasts : List History) → HaveSeen (map items rooms) pasts → length pasts ≡ length rooms
  many_seen [] [] all = refl
  many_seen [] (h ∷ pasts) all = absurd all
  many_seen (r ∷ rooms) [] all = absurd all
  many_seen (r ∷ rooms) (h ∷ pasts) all = let m = many_seen rooms pasts all.1 in omega (arith, m)

  -- once a pass of each room was taken
  pub whole_row : (rooms : List V) (pasts : List History) (i : ℕ) (row : List Pass) → length rooms < i + 1 → HaveSeen (map items rooms) pasts → seen_of row ≡ take i pasts → seen_of row ≡ pasts
  whole_row rooms pasts i row over all is = is ∙ take_all i pasts (let m = many_seen rooms pasts all in omega (arith, m, over))

module _ {B : Type 0} (stands_for : B → History → Type 0) where
  pub stand_more : (rooms : List B) (pasts : List History) (room : B) (past : History) → StandFor stands_for rooms pasts → stands_for room past → StandFor stands_for (rooms ++ room ∷ []) (pasts ++ past ∷ [])
  stand_more [] [] room past all here = (here, tt)
  stand_more [] (h ∷ pasts) room past all here = absurd all
  stand_more (b ∷ rooms) [] room past all here = absurd all
  stand_more (b ∷ rooms) (h ∷ pasts) room past all here = (all.0, stand_more rooms pasts room past all.1 here)

  -- rooms that each stand for a history stand for these, one by one
  pub some_stand : (rooms : List B) → All (λ b. (past : History) × stands_for b past) rooms → (pasts : List History) × StandFor stands_for rooms pasts
  some_stand [] all = ([], tt)
  some_stand (b ∷ rooms) all =
      let first = all 0 b (omega arith) in
      let more = some_stand rooms (λ k d low. all (suc k) d (omega (arith, low))) in
      (first.0 ∷ more.0, (first.1, more.1))

module _ {B V : Type 0} (stands_for : B → History → Type 0) (items : V → List Pass) (all : List B) where
  -- rooms of which those before the ones to come were opened: they stood for histories, which their passes have seen
  pub record Opened (coming : List B) (by_room : List V) : Type 0 where
    pub done : List B
    pub pasts : List History
    pub split : done ++ coming ≡ all
    pub stand : StandFor stands_for done pasts
    pub seen : HaveSeen (map items by_room) pasts

  pub none_opened : (coming : List B) (by_room : List V) → coming ≡ all → by_room ≡ [] → Opened coming by_room
  none_opened coming by_room e none = record { done = []; pasts = []; split = e; stand = tt; seen = subst (λ vs. HaveSeen (map items vs) []) (sym none) tt }

  pub one_opened : (coming rest : List B) (by_room after : List V) (b : B) (v : V) → coming ≡ b ∷ rest → after ≡ by_room ++ v ∷ []
      → ((past : History) × stands_for b past × All (λ (p : Pass). p.seen ≡ past) (items v)) → Opened coming by_room → Opened rest after
  one_opened coming rest by_room after b v e push (past, stands, here) h = record {
    done = h.done ++ b ∷ [];
    pasts = h.pasts ++ past ∷ [];
    split = append_assoc h.done (b ∷ []) rest ∙ (ap (λ l. h.done ++ l) (sym e) ∙ h.split);
    stand = stand_more stands_for h.done h.pasts b past h.stand stands;
    seen = one_more_seen items by_room after h.pasts v past push h.seen here;
  }

  pub all_opened : (coming : List B) (by_room : List V) → length coming ≡ 0 → Opened coming by_room → (pasts : List History) × StandFor stands_for all pasts × HaveSeen (map items by_room) pasts
  all_opened coming by_room none h =
      let done : h.done ≡ all = sym (append-nil h.done) ∙ (ap (λ l. h.done ++ l) (sym (nil_from_length coming none)) ∙ h.split) in
      (h.pasts, subst (λ bs. StandFor stands_for bs h.pasts) done h.stand, h.seen)
