-- The workload: a world of fourteen clients that plays on by itself for a number of steps, each drawn from a tape of the steps' own, and
-- what it then tells in numbers.
use Rattle.std.specs.Prelude.{ℕ, zero, suc, ◌+◌, ◌-◌, ◌%◌, ◌==◌, List, [], ◌∷◌, ◌++◌, Bool, true, false, ◌&&◌, not, codes, decimal, if◌then◌else◌, length, nat_le, slice_get, Option, Some, None, is_some, fold, map}
use Rattle.dice_words.specs.Dice.{die}
use Rattle.game_sheet.specs.MatchName.{Name}
use Rattle.game_sheet.specs.declared.act.EventKind.TheVariants.{EndTurn}
use Rattle.game_sheet.specs.declared.args.Arg.{Arg}
use Rattle.game_sheet.specs.declared.sheet.MoveRow.{MoveRow}
use Rattle.game_trait.specs.Rules.{Rules}
use Rattle.client_predict.specs.Acting.{act_no}
use Rattle.client_predict.specs.Client.{Held, Playing, shown_of}
use Rattle.game_hall.specs.declared.answer.Answer.{Answer}
use Rattle.game_hall.specs.declared.answer.Answer.TheVariants.{Created}
use Rattle.wire_json.specs.declared.asked.Asked.{Asked}
use Rattle.wire_json.specs.declared.asked.Asked.TheVariants as asked
use Rattle.wire_json.specs.declared.asked.AskedTo.TheVariants as to
use Rattle.wire_json.specs.declared.protocol.Protocol.TheVariants.{One}
use Rattle.hall_history.specs.Counts.{accepts, refuses, hands_out, count_from}
use Rattle.hall_history.specs.Hall.{Hall}
use Rattle.hall_history.specs.Mark.{Served}
use Rattle.hall_history.specs.Opening.{after_open}
use Rattle.world_history.specs.World.{World, Step, Attaches, Acts, Arrives, Takes, Reads, Drops, Leaves, new_world, with_hall}
use Rattle.world_history.specs.WorldScript.{does}
use Rattle.std.specs.Option.{option_map_or}

-- a seat of a match of the round
pub record Place (X : Type 0) : Type 0 where
  pub game : X
  pub name : Name
  pub seat : ℕ

pub record Workload (X G : Type 0) : Type 0 where
  pub world : World X G
  -- the seats of the round, in the order of the clients
  pub places : List (Place X)
  -- how many words the steps have drawn
  pub drawn : ℕ
  -- how many actions no client made, and how many lines were read
  pub held : ℕ
  pub read : ℕ

-- the matches of a round: each game with its number of seats
abbrev pub round : List (List ℕ × ℕ)
round = (codes "tic-tac-toe", 2) ∷ (codes "countdown", 3) ∷ (codes "pig", 2) ∷ (codes "high-hand", 3) ∷ (codes "blind-bid", 4) ∷ []

-- a round has so many steps
abbrev pub round_steps : ℕ
round_steps = 1000

abbrev pub places_from : {X : Type 0} → X → Name → ℕ → ℕ → List (Place X)
places_from game name seat zero = []
places_from game name seat (suc seats) = record { game = game; name = name; seat = seat } ∷ places_from game name (seat + 1) seats

abbrev pub places_of : {X : Type 0} → Option X → Option Answer → ℕ → List (Place X)
places_of (Some game) (Some (Created name)) seats = places_from game name 0 seats
places_of found said seats = []

-- ---- the numbers

abbrev pub is_held : {X G : Type 0} → Option (Held X G) → Bool
is_held held = option_map_or (λ held. is_some (act_no held.client.gone held.client.playing)) held true

abbrev pub is_read : {X G : Type 0} → Option (Held X G) → List (List ℕ) → Bool
is_read (Some held) (line ∷ lines) = true
is_read held lines = false

abbrev pub one_if : Bool → ℕ
one_if b = if b then 1 else 0

abbrev pub held_by : {X G : Type 0} → Step X → World X G → ℕ
held_by (Acts c asked) w = one_if (is_held (w.clients c))
held_by step w = 0

abbrev pub read_by : {X G : Type 0} → Step X → World X G → ℕ
read_by (Reads c) w = one_if (is_read (w.clients c) (w.down c))
read_by step w = 0

-- ---- what a step asks for

-- an option of a game as a client asks for it
abbrev pub move_asked : Option MoveRow → List Arg → Asked
move_asked None args = asked.Undo
move_asked (Some row) args = asked.Move row.name args

abbrev pub option_asked : {G : Type 0} → Rules G → Option (ℕ × List Arg) → Asked
option_asked rules None = asked.Undo
option_asked rules (Some chosen) = move_asked (slice_get rules.sheet.moves chosen.0) chosen.1

abbrev pub options_in : {G : Type 0} → Rules G → Option (Playing G) → List (ℕ × List Arg)
options_in rules playing = option_map_or (λ p. option_map_or (λ seat. rules.options (shown_of rules p).g (shown_of rules p).ctx seat) p.seat []) playing []

module _ {X G : Type 0} (rules : X → Rules G) where
  -- the client takes one of its options by a word, or, without any, no word is drawn and it asks for an undo
  abbrev pub choice : Option (Held X G) → ℕ → Asked
  choice None word = asked.Undo
  choice (Some held) word =
      option_asked (rules held.game) (slice_get (options_in (rules held.game) held.client.playing) (die (length (options_in (rules held.game) held.client.playing)) word - 1))

  abbrev pub choice_words : Option (Held X G) → ℕ
  choice_words held = option_map_or (λ held. one_if (not (length (options_in (rules held.game) held.client.playing) == 0))) held 0

  -- by a number from 1 to 16
  abbrev pub step_of : World X G → ℕ → ℕ → ℕ → Step X
  step_of w c k word =
      if nat_le k 2 then Acts c (choice (w.clients c) word)
      else if k == 3 then Acts c (asked.Event EndTurn to.Nothing)
      else if k == 4 then Acts c asked.Undo
      else if nat_le k 8 then Arrives c
      else if nat_le k 11 then Takes c
      else Reads c

module _ {X G : Type 0} (named : List ℕ → Option X) (rules : X → Rules G) (tape : ℕ → List ℕ) where
  -- a line of the world, with what it counts
  abbrev pub goes : Step X → Workload X G → Workload X G
  goes step l = record l { world = (does named rules tape Served step l.world).0; held = l.held + held_by step l.world; read = l.read + read_by step l.world }

  abbrev pub go_all : List (Step X) → Workload X G → Workload X G
  go_all steps l = fold (λ l step. goes step l) l steps

  -- ---- a round begins: its matches, then each client at its seat, and then each client reads its first line

  abbrev pub with_match : Workload X G → Option X → ℕ → Hall X × Option Answer → Workload X G
  with_match l found seats done = record l { world = with_hall l.world done.0; places = l.places ++ places_of found done.1 seats }

  abbrev pub opens_all : List (List ℕ × ℕ) → Workload X G → Workload X G
  opens_all games l = fold (λ l game. with_match l (named game.0) game.1 (after_open named rules tape l.world.hall game.0 game.1)) l games

  abbrev pub attachings : ℕ → List (Place X) → List (Step X)
  attachings c [] = []
  attachings c (place ∷ places) = Attaches c place.game place.name (Some place.seat) One ∷ attachings (c + 1) places

  abbrev pub first_reads : ℕ → List (Place X) → List (Step X)
  first_reads c [] = []
  first_reads c (place ∷ places) = Arrives c ∷ Takes c ∷ Reads c ∷ first_reads (c + 1) places

  abbrev pub begins_round : Workload X G → Workload X G
  begins_round l = let opened = opens_all round (record l { places = [] }) in go_all (attachings 0 opened.places ++ first_reads 0 opened.places) opened

  -- ---- a round ends: each client is dropped, and every seat leaves

  abbrev pub drops_all : ℕ → List (Place X) → List (Step X)
  drops_all c [] = []
  drops_all c (place ∷ places) = Drops c ∷ drops_all (c + 1) places

  abbrev pub leavings : List (Place X) → List (Step X)
  leavings places = map (λ place. Leaves place.name place.seat) places

  abbrev pub ends_round : Workload X G → Workload X G
  ends_round l = go_all (drops_all 0 l.places ++ leavings l.places) l

  -- ---- the steps

  module _ (words : ℕ → List ℕ) where
    -- a step by its words: a client, what it does, and which option it takes
    abbrev pub step_by : Workload X G → List ℕ → Workload X G
    step_by l (c ∷ k ∷ word ∷ rest) = let client = die 14 c - 1 in let kind = die 16 k in
        goes (step_of rules l.world client kind word)
        (record l { drawn = l.drawn + (2 + (if nat_le kind 2 then choice_words rules (l.world.clients client) else 0)) })
    step_by l short = l

    abbrev pub takes_step : Workload X G → Workload X G
    takes_step l = step_by l (words l.drawn)

    -- a new round begins after every thousandth step but the last
    abbrev pub after_step : ℕ → ℕ → Workload X G → Workload X G
    after_step done left l = if (done % round_steps == 0) && not (left == 0) then begins_round (ends_round l) else l

    -- so many steps are done, and so many are left
    abbrev pub steps_from : ℕ → ℕ → Workload X G → Workload X G
    steps_from done zero l = l
    steps_from done (suc left) l = steps_from (done + 1) left (after_step (done + 1) left (takes_step l))

-- ---- what it tells

abbrev pub number_line : List ℕ → ℕ → List ℕ
number_line word n = word ++ 32 ∷ decimal n ++ 10 ∷ []

module _ {X G : Type 0} (rules : X → Rules G) where
  abbrev pub summary : ℕ → Workload X G → List ℕ
  summary steps l = number_line (codes "steps") steps
      ++ number_line (codes "accepted") (count_from rules accepts 0 l.world.hall.rooms)
      ++ number_line (codes "refused") (count_from rules refuses 0 l.world.hall.rooms)
      ++ number_line (codes "held") l.held
      ++ number_line (codes "read") l.read
      ++ number_line (codes "bytes") (count_from rules hands_out 0 l.world.hall.rooms)

module _ {X G : Type 0} (named : List ℕ → Option X) (rules : X → Rules G) (tape words : ℕ → List ℕ) where
  unfoldable pub transcript : ℕ → ℕ → List ℕ
  transcript rooms steps = let fresh : Workload X G = record { world = new_world rooms; places = []; drawn = 0; held = 0; read = 0 } in
      summary rules steps (steps_from named rules tape words 0 steps (begins_round named rules tape fresh))
