-- A session's calls on the bench: its bot sits down, is asked to leave where somebody wants its seat, and rises; a takeover is put to it.
use Rattle.std.specs.Prelude.{◌≡◌, ◌||◌, ℕ, Bool, true, false, List, Option, Some, None}
use Rattle.any_game.specs.GameKind.{GameKind}
use Rattle.bench_wishes.specs.Bench.{bench_reply, is_starved, may_starve}
use Rattle.bench_wishes.specs.declared.call.WishCall.{WishCall}
use Rattle.bench_wishes.specs.declared.call.WishCall.TheVariants as call
use Rattle.bench_wishes.specs.declared.call.WishReply.{WishReply}
use Rattle.bench_wishes.specs.declared.call.WishReply.TheVariants as reply
use Rattle.game_hall.specs.Core.{Core, bot_answered, bot_wanted}
use Rattle.game_sheet.specs.MatchName.{Name}
use Rattle.room_desk.specs.History.{Called, Held, held}
use Rattle.room_object.specs.Entry.{Entry, entry}

-- a session's pass at the bench, with the history that it has seen there
abbrev pub Seen : Type 0
Seen = Held WishCall

-- The call was made by the pass. It has then seen the bench's history longer by what others did and by the call, which is replied as the history
-- says. Only a call that takes memory is replied that there is none.
abbrev pub Asks : Seen → WishCall → WishReply → Seen → Type 0
Asks p asked told after = (seen : List (Entry WishCall)) × Called bench_reply p.seen (entry p.number asked (is_starved told)) told seen
    × (after ≡ held p.desk p.number p.before seen) × (is_starved told ≡ true → may_starve asked ≡ true)

abbrev pub is_sat : WishReply → Bool
is_sat reply.Sat = true
is_sat other = false

abbrev pub is_yes : WishReply → Bool
is_yes reply.Yes = true
is_yes other = false

abbrev pub is_asked : WishReply → Bool
is_asked reply.Asked = true
is_asked other = false

-- ---- a bot's session, before each turn

-- a bot that hasn't sat down yet does
abbrev pub SitsDown : Bool → Name × ℕ → Seen → Seen → Bool → Type 0
SitsDown true seat p after sat = (after ≡ p) × (sat ≡ true)
SitsDown false seat p after sat = (told : WishReply) × Asks p (call.Sit seat.0 seat.1) told after × (sat ≡ is_sat told)

-- one that sat down is asked to leave, or was before, exactly where somebody wants its seat
abbrev pub IsAskedOut : Bool → Name × ℕ → Seen → Bool → Seen → Bool → Type 0
IsAskedOut false seat p asked after now = (after ≡ p) × (now ≡ asked)
IsAskedOut true seat p asked after now = (told : WishReply) × Asks p (call.Wished seat.0 seat.1) told after × (now ≡ (is_yes told || asked))

-- both, where the link tells a bot's seat
abbrev pub Readies : Option (Name × ℕ) → Seen → Bool → Bool → Seen → Bool → Bool → Type 0
Readies None p sat asked after sat_now now = (after ≡ p) × (sat_now ≡ sat) × (now ≡ asked)
Readies (Some seat) p sat asked after sat_now now = (m : Seen) × SitsDown sat seat p m sat_now × IsAskedOut sat_now seat m asked after now

-- ---- its end

-- a bot that sat down rises
abbrev pub Rises : Bool → Option (Name × ℕ) → Seen → Seen → Type 0
Rises true (Some seat) p after = (told : WishReply) × Asks p (call.Rise seat.0 seat.1) told after
Rises sat seat p after = after ≡ p

-- ---- a takeover

-- a takeover that waits is put to the bench once, and its answer is given to the core
abbrev pub Sought : Option (Name × ℕ) → Core GameKind → Seen → Core GameKind → Seen → Type 0
Sought None c p d after = (d ≡ c) × (after ≡ p)
Sought (Some seat) c p d after = (told : WishReply) × Asks p (call.Ask seat.0 seat.1) told after × (d ≡ bot_answered (bot_wanted c) (is_asked told))
