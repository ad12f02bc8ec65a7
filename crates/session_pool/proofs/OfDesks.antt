-- The passes of a session belong to the desks, in order, and go on doing so after each call.
use Rattle.std.proofs.Common.{◌≡◌, ◌<◌, ℕ, Bool, List, ◌++◌, length, arith, ap, sym, ◌∙◌, subst, true, slice_index_or, slice_set}
use Rattle.std.proofs.lemmas.List.{get_or-map, length-map}
use Rattle.std.proofs.lemmas.Option.{slice_get-get_or}
use Rattle.std.proofs.Math.Seq.{map-set_same}
use Rattle.any_game.specs.AnyRules.{any_rules}
use Rattle.any_game.specs.GameKind.{GameKind}
use Rattle.match_master.specs.Held.{is_starved}
use Rattle.room_desk.specs.History.{Called, SetUp, held}
use Rattle.room_history.specs.Room.{reply}
use Rattle.room_history.specs.declared.call.RoomCall.{RoomCall}
use Rattle.room_history.specs.declared.reply.RoomReply.{RoomReply}
use Rattle.room_object.specs.Entry.{Entry, entry}
use Rattle.game_hall.specs.Kept.{IsNamed}
use Rattle.game_hall.proofs.Replies.{named_by}
use Rattle.session_pool.specs.Passes.{Belong, CallsDesk, Pass, dealt_by, unseen}
use Rattle.session_driver.specs.Calls.{Did, did}

pub as_many : (desks : List SetUp) (number : ℕ) (passes : List Pass) → Belong desks number passes → length passes ≡ length desks
as_many desks number passes b =
    let l = ap length b in
    omega (arith, l, length-map passes unseen, length-map desks (dealt_by number))

pub belongs_at : (desks : List SetUp) (number : ℕ) (passes : List Pass) → Belong desks number passes → (i : ℕ) (p : Pass) (d : SetUp) → i < length desks
    → (slice_index_or passes i p).desk ≡ (slice_index_or desks i d).desk
belongs_at desks number passes b i p d low =
    let n = as_many desks number passes b in
    let one = get_or-map unseen passes i p (dealt_by number d) (omega arith) in
    let two = get_or-map (dealt_by number) desks i d (dealt_by number d) low in
    ap (λ (q : Pass). q.desk) (sym one ∙ (ap (λ xs. slice_index_or xs i (dealt_by number d)) b ∙ two))

pub belongs_set : (desks : List SetUp) (number : ℕ) (passes : List Pass) → Belong desks number passes → (i : ℕ) (p q : Pass) → unseen q ≡ unseen (slice_index_or passes i p)
    → Belong desks number (slice_set passes i q)
belongs_set desks number passes b i p q same = map-set_same unseen passes i q p same ∙ b

-- a call of an object whose replies are told otherwise, as are those that are want of memory
pub called_as : {C : Type 0} (f g : List (Entry C) → Entry C → RoomReply) → ((h : List (Entry C)) (e : Entry C) → f h e ≡ g h e) → (seen : List (Entry C)) (p : ℕ) (made : C) (b c : Bool) → b ≡ c
    → (r : RoomReply) (after : List (Entry C)) → Called f seen (entry p made b) r after → Called g seen (entry p made c) r after
called_as f g same seen p made b c starved r after called =
    subst (λ b. Called g seen (entry p made b) r after) starved
    (record { between = called.between; ends = called.ends; own = called.own; answered = called.answered ∙ same (called.between ++ seen) (entry p made b) })

-- a call by the pass at a place
pub calls_made : (may_refuse : RoomCall GameKind → Bool) (passes : List Pass) (i : ℕ) (p q : Pass) (call : RoomCall GameKind) (r : RoomReply) → i < length passes
    → q ≡ held (slice_index_or passes i p).desk (slice_index_or passes i p).number (slice_index_or passes i p).before q.seen
    → Called (reply any_rules (slice_index_or passes i p).desk.object) (slice_index_or passes i p).seen (entry (slice_index_or passes i p).number call (is_starved r)) r q.seen
    → (is_starved r ≡ true → may_refuse call ≡ true)
    → CallsDesk may_refuse passes (did i call r) (slice_set passes i q)
calls_made may_refuse passes i p q call r low is called fed = (slice_index_or passes i p, q.seen, slice_get-get_or passes i p low, called, ap (slice_set passes i) is, fed)

pub called_named : (may_refuse : RoomCall GameKind → Bool) (passes after : List Pass) (made : Did) → CallsDesk may_refuse passes made after → IsNamed made.reply
called_named may_refuse passes after made (p, seen, here, called, set, fed) =
    named_by any_rules p.desk.object (called.between ++ p.seen) (entry p.number made.call (is_starved made.reply)) made.reply called.answered
