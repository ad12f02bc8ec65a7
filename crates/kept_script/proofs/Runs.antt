-- The calls of a line, of a Take and of a Detach in a room's journal, one after another.
use Rattle.std.proofs.Common.{◌≡◌, ℕ, inl, inr, List, [], ◌∷◌, Bool, true, false, Option, Some, None, refl, sym, ap, ◌∙◌, subst}
use Rattle.any_game.specs.AnyRules.{named}
use Rattle.any_game.specs.GameKind.{GameKind}
use Rattle.game_hall.specs.Core.{Core, asked, replied}
use Rattle.game_hall.specs.Requests.{next}
use Rattle.game_hall.specs.declared.request.Request.{Request}
use Rattle.match_master.specs.Held.{is_starved, may_starve}
use Rattle.room_history.specs.declared.call.RoomCall.{RoomCall}
use Rattle.room_history.specs.declared.reply.RoomReply.{RoomReply}
use Rattle.room_object.specs.Entry.{entry}
use Rattle.session_driver.specs.Calls.{Did}
use Rattle.session_driver.specs.Freeing.{Frees, FreesAt}
use Rattle.session_driver.specs.Hearing.{Draws, Hears, HearsReply, Makes, Side, side}
use Rattle.session_driver.specs.declared.tally.Tally.{Tally}
use Rattle.session_driver.proofs.Along.{makes_by}
use Rattle.session_driver.proofs.Steps.{line_keeps, moved_keeps}
use Rattle.kept_room.specs.Journal.{Calls, Since}
use Rattle.kept_room.specs.declared.room.KeptRoom.{KeptRoom}
use Rattle.kept_room.proofs.Journals.{since_more, since_none}
use Rattle.kept_script.specs.Growing.{freeing_calls, line_calls}
use Rattle.kept_script.specs.OneRoom.{CallsOne, HearsKept, books_of, calls_book}
use Rattle.kept_script.specs.declared.visiting.OneRoom.{OneRoom}

-- ---- a session's pass stays

replied_pass : (c : Core GameKind) (open_one : Option Request) (told : RoomReply) → (replied named c open_one told).pass ≡ c.pass
replied_pass c None told = refl
replied_pass c (Some request) told = (moved_keeps c (next named c.rooms request told)).1

heard_pass : (c : Core GameKind) (told : RoomReply) (d : Core GameKind) → HearsReply c told d → d.pass ≡ c.pass
heard_pass c told d (inl e) = ap (λ (x : Core GameKind). x.pass) e ∙ replied_pass c c.request told
heard_pass c told d (inr e) = ap (λ (x : Core GameKind). x.pass) e.0

makes_pass : {S : Type 0} (calls : S → ℕ → Did → S → Type 0) (s : Side S) (all : List Did) (t : Side S) → Makes calls s all t → t.core.pass ≡ s.core.pass
makes_pass {S = S} calls s [] t e = ap (λ (x : Side S). x.core.pass) e
makes_pass calls s (made ∷ earlier) t (m, before, (wanted, called, heard_it)) = heard_pass (asked m.core) made.reply t.core heard_it ∙ makes_pass calls s earlier m before

-- a call that takes no memory is served
not_starved : (b : Bool) → (b ≡ true → false ≡ true) → b ≡ false
not_starved true h = sym (h refl)
not_starved false h = refl

module _ {D : Type 0} (is_told : D → Type 0) (seen : D → List ℕ) (may_leave : D → List ℕ → Type 0) (moment : D → ℕ) (left_since : D → ℕ → List ℕ → Type 0) (faults : D → ℕ) where
  -- what a call in the one room comes to, as the driver has it
  abbrev pub over_one : OneRoom D → ℕ → Did → OneRoom D → Type 0
  over_one d pass made e = CallsOne is_told seen may_leave moment left_since faults d.room.now pass made e.room.now × (e.room.ghost_name ≡ d.room.ghost_name)

  abbrev Was : KeptRoom D → KeptRoom D → Calls → Type 0
  Was old new more = Since is_told seen may_leave moment left_since faults old new more

  abbrev room_in : Side (OneRoom D) → KeptRoom D
  room_in s = s.rooms.room.now

  module _ (only_now : (disk : D) (c : List ℕ) → is_told disk → left_since disk (moment disk) c → may_leave disk c) where
    stays : (s t : Side (OneRoom D)) → t ≡ s → Was (room_in s) (room_in t) []
    stays s t e = subst (λ (x : Side (OneRoom D)). Was (room_in s) (room_in x) []) (sym e) (since_none is_told seen may_leave moment left_since faults only_now (room_in s))

    since_makes : (s : Side (OneRoom D)) (all : List Did) (t : Side (OneRoom D)) → Makes over_one s all t → Was (room_in s) (room_in t) (line_calls s.core.pass all)
    since_makes s [] t e = stays s t e
    since_makes s (made ∷ earlier) t (m, before, (wanted, called, heard_it)) =
        since_more is_told seen may_leave moment left_since faults (room_in s) (room_in m) (room_in t) (line_calls s.core.pass earlier) (entry s.core.pass made.call (is_starved made.reply) ∷ [])
        (since_makes s earlier m before)
        (subst (λ (p : ℕ). Was (room_in m) (room_in t) (entry p made.call (is_starved made.reply) ∷ [])) (makes_pass over_one s earlier m before) called.0.1)

    pub hears_kept : (line : List ℕ) (s : Side (OneRoom D)) (before : Draws) (t : Side (OneRoom D)) (after : Draws) (tally : Tally) → Hears over_one line s before t after tally
        → HearsKept is_told seen may_leave moment left_since faults (room_in s) (room_in t) line s.core before t.core after tally
    hears_kept line s before t after tally k = record {
      hears = record {
        core = k.core;
        left = k.left;
        line_heard = k.line_heard;
        runs = record {
          n = k.runs.n;
          most = k.runs.most;
          makes = record {
            all = k.runs.makes.all;
            made = makes_by over_one calls_book (λ (e : OneRoom D). books_of e.room.now) (λ d p made e called. called.0.0) (side s.rooms k.core) k.runs.makes.all t k.runs.makes.made;
            many = k.runs.makes.many;
            accepted = k.runs.makes.accepted;
            refused = k.runs.makes.refused;
          };
          done = k.runs.done;
          closed = k.runs.closed;
        };
        draws_after = k.draws_after;
      };
      since = subst (λ (p : ℕ). Was (room_in s) (room_in t) (line_calls p k.runs.makes.all)) (line_keeps line s.core before k.core k.left k.line_heard).1
          (since_makes (side s.rooms k.core) k.runs.makes.all t k.runs.makes.made);
    }

    pub since_frees : (made : RoomCall GameKind) → may_starve made ≡ false → (s : Side (OneRoom D)) (told : Option RoomReply) (t : Side (OneRoom D)) → Frees over_one made s told t
        → Was (room_in s) (room_in t) (freeing_calls s.core.pass made s.core.at)
    since_frees made never s told t f = by s.core.at f
      where
        by : (at : Option ℕ) → FreesAt over_one made at s told t → Was (room_in s) (room_in t) (freeing_calls s.core.pass made at)
        by None (none, same) = stays s t same
        by (Some room) (reply, is, called, core) =
            let served : is_starved reply ≡ false = not_starved (is_starved reply) (λ e. sym never ∙ called.0.0.fed refl e) in
            subst (λ (b : Bool). Was (room_in s) (room_in t) (entry s.core.pass made b ∷ [])) served called.0.1

  pub same_freed : (made : RoomCall GameKind) (s : Side (OneRoom D)) (told : Option RoomReply) (t : Side (OneRoom D)) → Frees over_one made s told t → t.rooms.room.ghost_name ≡ s.rooms.room.ghost_name
  same_freed made s told t f = by s.core.at f
    where
      by : (at : Option ℕ) → FreesAt over_one made at s told t → t.rooms.room.ghost_name ≡ s.rooms.room.ghost_name
      by None (none, stays) = ap (λ (x : Side (OneRoom D)). x.rooms.room.ghost_name) stays
      by (Some room) (reply, is, called, core) = called.1
