-- Where a bot's link stands with its bot, and what a receive makes of that.
use Rattle.std.specs.Prelude.{◌≡◌, ◌≤◌, ℕ, List, [], ◌∷◌, ◌++◌, length, slice_get, true, Option, Some, None}
use Rattle.any_game.specs.GameKind.{GameKind}
use Rattle.any_game.specs.AnyRules.{any_rules}
use Rattle.any_game.specs.declared.any_g.AnyG.{AnyG}
use Rattle.board_links.specs.declared.link.Came.{Came}
use Rattle.board_links.specs.declared.link.Came.TheVariants as came
use Rattle.game_sheet.specs.Lines.{lines}
use Rattle.game_sheet.specs.declared.args.Arg.{Arg}
use Rattle.player_sight.specs.declared.shown.Snapshot.{Snapshot}
use Rattle.wire_json.specs.declared.client.ClientMsg.{ClientMsg}
use Rattle.bot_sitter.specs.Ears.{IsLine}
use Rattle.bot_sitter.specs.Given.{GivesAct, gave_join, gave_leave, gave_sync, join_of, leave_of, option_asked, sync_of, with_last}
use Rattle.bot_sitter.specs.Sitting.{Sitting, settled_in, step_of}
use Rattle.bot_sitter.specs.declared.step.Step.{Step}
use Rattle.bot_sitter.specs.declared.step.Step.TheVariants as step
use Rattle.board_bots.specs.Glances.{glance_of}
use Rattle.board_bots.specs.Sight.{Sees}
use Rattle.board_bots.specs.declared.bot_link.Choice.{Choice}
use Rattle.board_bots.specs.declared.bot_link.Choice.TheVariants as choice
use Rattle.board_bots.specs.declared.bot_link.Said.{Said}
use Rattle.board_bots.specs.declared.bot_link.Said.TheVariants as said
use Rattle.board_bots.specs.declared.glance.Glance.{Glance}

-- the link's sitting, and what its bot has seen and chosen
pub record Moment : Type 0 where
  pub sitting : Sitting GameKind AnyG
  pub seen : List Glance
  pub chosen : List (Option ℕ)

abbrev pub moment : Sitting GameKind AnyG → List Glance → List (Option ℕ) → Moment
moment sitting seen chosen = record { sitting = sitting; seen = seen; chosen = chosen }

abbrev pub sat : Moment → Sitting GameKind AnyG → Moment
sat m s = record { sitting = s; seen = m.seen; chosen = m.chosen }

-- the bot was asked once, and kept the glance and its answer
abbrev pub asked : Moment → Snapshot AnyG → Option ℕ → Moment
asked m s choice = record { sitting = with_last m.sitting s.number; seen = m.seen ++ glance_of s ∷ []; chosen = m.chosen ++ choice ∷ [] }

-- a line of its own is given
abbrev pub GivesLine : ClientMsg → Came → Type 0
GivesLine message answer = (line : List ℕ) × (answer ≡ came.Line line) × IsLine message line

abbrev pub options_on : Sitting GameKind AnyG → Snapshot AnyG → List (ℕ × List Arg)
options_on s shown = (any_rules s.game).options shown.g shown.ctx s.seat

-- what the bot chose is given as an act of its client; if it chose none, the link rests
abbrev pub PlaysBy : Option ℕ → Snapshot AnyG → Moment → Came → Moment → Type 0
PlaysBy None s m answer after = (answer ≡ came.Quiet) × (after ≡ m)
PlaysBy (Some place) s m answer after =
    (offer : ℕ × List Arg) × (line : List ℕ) × (next : Sitting GameKind AnyG)
    × (slice_get (options_on m.sitting s) place ≡ Some offer)
    × (answer ≡ came.Line line)
    × GivesAct (any_rules m.sitting.game) m.sitting.starved (option_asked (any_rules m.sitting.game) offer) line m.sitting next
    × (after ≡ sat m next)

-- the bot is asked, if its game offers it something
abbrev pub AsksBy : List (ℕ × List Arg) → Snapshot AnyG → Moment → Came → Moment → Type 0
AsksBy [] s m answer after = (answer ≡ came.Quiet) × (after ≡ m)
AsksBy (offer ∷ offers) s m answer after = (choice : Option ℕ) × PlaysBy choice s (asked m s choice) answer after

abbrev pub Asks : Option (Snapshot AnyG) → Moment → Came → Moment → Type 0
Asks None m answer after = ⊥
Asks (Some s) m answer after = AsksBy (options_on m.sitting s) s m answer after

abbrev pub DoesStep : Step → Moment → Came → Moment → Type 0
DoesStep step.Starve m answer after = ⊥
DoesStep step.End m answer after = (answer ≡ came.Ended) × (after ≡ m)
DoesStep step.Rest m answer after = (answer ≡ came.Quiet) × (after ≡ m)
DoesStep (step.Leave key) m answer after = GivesLine (leave_of m.sitting key) answer × (after ≡ sat m (gave_leave m.sitting))
DoesStep step.Join m answer after = GivesLine (join_of m.sitting) answer × (after ≡ sat m (gave_join m.sitting))
DoesStep (step.Sync key) m answer after = GivesLine (sync_of m.sitting key) answer × (after ≡ sat m (gave_sync m.sitting))
DoesStep step.Ask m answer after = Asks (settled_in m.sitting.client) m answer after

-- the first of the nine rules that holds, or want of memory, which every later call has then
abbrev pub Receives : Came → Moment → Moment → Type 0
Receives came.NoMemory m after = after.sitting.starved ≡ true
Receives answer m after = DoesStep (step_of m.sitting) m answer after

-- what the bot has seen since its opening list is shown by what the link was sent
abbrev pub SeesTo : List Glance → Moment → Type 0
SeesTo opening m = Sees (any_rules m.sitting.game) opening (lines m.sitting.sent) m.sitting.last m.seen

-- ---- inside a receive

abbrev pub came_of : Said → Came
came_of (said.Line line) = came.Line line.items
came_of said.Quiet = came.Quiet
came_of said.Ended = came.Ended

-- what came of asking the bot on a snapshot: nothing where no option is offered, else its choice among them
abbrev pub ChosenOn : Snapshot AnyG → List (ℕ × List Arg) → Choice → List Glance → List (Option ℕ) → List Glance → List (Option ℕ) → Type 0
ChosenOn s offers choice.NoOption seen chosen seen2 chosen2 = (offers ≡ []) × (seen2 ≡ seen) × (chosen2 ≡ chosen)
ChosenOn s offers (choice.Passes number) seen chosen seen2 chosen2 =
    (1 ≤ length offers) × (number ≡ s.number) × (seen2 ≡ seen ++ glance_of s ∷ []) × (chosen2 ≡ chosen ++ None ∷ [])
ChosenOn s offers (choice.Plays number id args) seen chosen seen2 chosen2 =
    (place : ℕ) × (slice_get offers place ≡ Some (id, args)) × (number ≡ s.number) × (seen2 ≡ seen ++ glance_of s ∷ []) × (chosen2 ≡ chosen ++ Some place ∷ [])

-- the option that was chosen at a state number
abbrev pub IsPlay : Option (ℕ × List Arg) → ℕ → Choice → Type 0
IsPlay None number c = ⊥
IsPlay (Some offer) number c = c ≡ choice.Plays number offer.0 offer.1

-- one of some options, or none of them, was chosen at a state number
abbrev pub IsChoice : List (ℕ × List Arg) → ℕ → Option ℕ → Choice → Type 0
IsChoice offers number None c = (1 ≤ length offers) × (c ≡ choice.Passes number)
IsChoice offers number (Some place) c = IsPlay (slice_get offers place) number c

-- an option that was chosen at a state number is given as an act
abbrev pub ActsOn : Sitting GameKind AnyG → ℕ → ℕ → List Arg → Said → Sitting GameKind AnyG → Type 0
ActsOn old number id args (said.Line line) new =
    GivesAct (any_rules old.game) old.starved (option_asked (any_rules old.game) (id, args)) line.items (with_last old number) new
ActsOn old number id args other new = ⊥

abbrev pub Chooses : Choice → Sitting GameKind AnyG → List Glance → List (Option ℕ) → List Glance → List (Option ℕ) → Type 0
Chooses choice sitting seen chosen seen2 chosen2 =
    (s : Snapshot AnyG) × (settled_in sitting.client ≡ Some s) × ChosenOn s (options_on sitting s) choice seen chosen seen2 chosen2

-- the last number at which the bot was asked
abbrev pub last_after : Choice → Option ℕ → Option ℕ
last_after choice.NoOption last = last
last_after (choice.Passes number) last = Some number
last_after (choice.Plays number id args) last = Some number
