-- Where a bot's link stands: what it was sent, whether a call had no memory, what its client has come to, which of its own lines it gave, and
-- the last state number at which its bot was asked. And what it does next.
use Rattle.std.specs.Prelude.{◌≡◌, ◌==◌, ◌&&◌, ◌||◌, ℕ, List, [], length, Bool, true, false, not, nat_lt, is_some, if◌then◌else◌, Option, Some, None}
use Rattle.client_predict.specs.Client.{Client, Playing}
use Rattle.game_sheet.specs.Lines.{lines}
use Rattle.game_sheet.specs.MatchName.{Name}
use Rattle.player_sight.specs.declared.shown.Snapshot.{Snapshot}
use Rattle.bot_sitter.specs.Seen.{settled_of}
use Rattle.bot_sitter.specs.Told.{told_by}
use Rattle.bot_sitter.specs.declared.gave.Gave.{Gave}
use Rattle.bot_sitter.specs.declared.step.Step.{Step}
use Rattle.bot_sitter.specs.declared.step.Step.TheVariants as step
use Rattle.bot_sitter.specs.declared.told.Told.{Told}

pub record Sitting (X G : Type 0) : Type 0 where
  pub game : X
  pub name : Name
  pub seat : ℕ
  pub sent : List ℕ
  pub starved : Bool
  pub client : Option (Client G)
  pub gave : Gave
  pub asked_out : Bool
  pub last : Option ℕ

abbrev pub told_to : {X G : Type 0} → Sitting X G → Told
told_to s = told_by (lines s.sent)

abbrev pub playing_in : {G : Type 0} → Option (Client G) → Option (Playing G)
playing_in None = None
playing_in (Some c) = c.playing

abbrev pub settled_in : {G : Type 0} → Option (Client G) → Option (Snapshot G)
settled_in client = settled_of (playing_in client)

abbrev pub is_over : {G : Type 0} → Option (Snapshot G) → Bool
is_over None = false
is_over (Some s) = is_some s.ctx.over

-- whether a state number is above the last at which the bot was asked
abbrev pub is_above : Option ℕ → ℕ → Bool
is_above None number = true
is_above (Some before) number = nat_lt before number

abbrev pub may_ask_of : {G : Type 0} → Option ℕ → Option (Playing G) → Bool
may_ask_of last None = false
may_ask_of last (Some p) = (length p.waiting == 0) && is_above last p.settled.number

-- the client is synced, nothing waits, and the settled number is above each at which the bot was asked
abbrev pub may_ask : {G : Type 0} → Option ℕ → Option (Client G) → Bool
may_ask last None = false
may_ask last (Some c) = if c.gone then false else may_ask_of last c.playing

-- ---- the rules, in their order

abbrev pub play_step : {X G : Type 0} → Sitting X G → Step
play_step s = if may_ask s.last s.client then step.Ask else step.Rest

abbrev pub sync_step : {X G : Type 0} → Sitting X G → Option (List ℕ) → Step
sync_step s None = play_step s
sync_step s (Some key) = if s.gave.sync then play_step s else step.Sync key

abbrev pub join_step : {X G : Type 0} → Sitting X G → Option (List ℕ) → Step
join_step s key = if s.gave.join then sync_step s key else step.Join

abbrev pub leave_step : {X G : Type 0} → Sitting X G → Option (List ℕ) → Step
leave_step s None = join_step s None
leave_step s (Some key) = if s.asked_out then step.Leave key else join_step s (Some key)

-- by what its lines have told it. An `Ask` is a `Rest` where the game offers nothing.
abbrev pub told_step : {X G : Type 0} → Told → Sitting X G → Step
told_step t s =
    if t.again then step.Starve
    else if t.over || is_over (settled_in s.client) then step.End
    else if s.gave.leave && (t.left && not s.gave.sync) then step.End
    else if s.gave.leave then step.Rest
    else leave_step s t.key

-- what the link does next
abbrev pub step_of : {X G : Type 0} → Sitting X G → Step
step_of s = if s.starved then step.Starve else told_step (told_to s) s

abbrev pub new_sitting : {X G : Type 0} → X → Name → ℕ → Sitting X G
new_sitting game name seat = record {
  game = game;
  name = name;
  seat = seat;
  sent = [];
  starved = false;
  client = None;
  gave = record { join = false; sync = false; leave = false };
  asked_out = false;
  last = None;
}

-- the match and the seat, once its client is there, which is from `joined` on
abbrev pub seat_by : {G : Type 0} → Name → ℕ → Option (Client G) → Option (Name × ℕ)
seat_by name seat None = None
seat_by name seat (Some c) = Some (name, seat)

abbrev pub bot_seat_of : {X G : Type 0} → Sitting X G → Option (Name × ℕ)
bot_seat_of s = seat_by s.name s.seat s.client

-- what no answer changes
pub record Stays {X G : Type 0} (old new : Sitting X G) : Type 0 where
  pub game : new.game ≡ old.game
  pub sent : new.sent ≡ old.sent
  pub asked_out : new.asked_out ≡ old.asked_out
  pub seat : bot_seat_of new ≡ bot_seat_of old
