-- What the steps of a world come to where each is served, with what they count.
use Rattle.std.specs.Prelude.{◌≡◌, ◌++◌, ℕ, List, Bool, true, false, length, Option, Some, None, Result, Ok, Err}
use Rattle.std.specs.List.{concat}
use Rattle.any_game.specs.AnyRules.{any_rules, named}
use Rattle.any_game.specs.GameKind.{GameKind}
use Rattle.any_game.specs.declared.any_g.AnyG.{AnyG}
use Rattle.client_predict.specs.Reading.{is_starved}
use Rattle.client_predict.specs.declared.told.ActNo.{ActNo}
use Rattle.client_predict.specs.declared.told.ActNo.TheVariants as unmade
use Rattle.client_predict.specs.declared.told.FeedNo.{FeedNo}
use Rattle.client_predict.specs.declared.told.Predicted.{Predicted}
use Rattle.client_predict.specs.declared.told.Told.{Told}
use Rattle.game_hall.specs.Core.{is_again}
use Rattle.game_hall.specs.declared.answer.Answer.{Answer}
use Rattle.game_sheet.specs.Lines.{lines}
use Rattle.game_sheet.specs.MatchName.{Name}
use Rattle.game_sheet.specs.declared.act.Bye.{Bye}
use Rattle.hall_history.specs.Counts.{hands_out}
use Rattle.hall_history.specs.Freeing.{frees}
use Rattle.hall_history.specs.Mark.{Served}
use Rattle.hall_history.specs.Opening.{after_open}
use Rattle.world_history.specs.Workload.{is_held, is_read}
use Rattle.world_history.specs.World.{Step, World, with_down, with_hall}
use Rattle.world_history.specs.World as step
use Rattle.world_history.specs.WorldScript.{answer_lines, does, takes}
use Rattle.room_history.specs.Session.{bye_lines}
use Rattle.room_history.specs.declared.call.RoomCall.TheVariants.{Take}
use Rattle.room_history.specs.declared.reply.RoomReply.{RoomReply}
use Rattle.session_hall.specs.Opens.{made_by}
use Rattle.session_hall.specs.Requests.{Tallies}
use Rattle.session_driver.specs.declared.tally.Tally.{Tally}
use Rattle.wire_json.specs.declared.asked.Asked.{Asked}
use Rattle.client_world.specs.IsWorld.{HeldWorld, IsWorld}

-- how many bytes a reply hands out, if there is one
abbrev pub handed_in : Option RoomReply → ℕ
handed_in None = 0
handed_in (Some told) = hands_out told

-- whether no action was made, unless there was no memory
abbrev pub TellsHeld : Result Predicted ActNo → Bool → Type 0
TellsHeld (Ok told) held = held ≡ false
TellsHeld (Err unmade.NotSynced) held = held ≡ true
TellsHeld (Err unmade.Gone) held = held ≡ true
TellsHeld (Err unmade.TooManyWaiting) held = held ≡ true
TellsHeld (Err unmade.NoMemory) held = ⊥

-- whether a line was read, unless there was no memory
abbrev pub TellsRead : Option (Result Told FeedNo) → Bool → Type 0
TellsRead None read = read ≡ false
TellsRead (Some heard) read = (read ≡ true) × (is_starved heard ≡ false)

module _ (tape : ℕ → List ℕ) (w : World GameKind AnyG) where
  -- the world after a step that was served
  abbrev pub after : Step GameKind → World GameKind AnyG
  after step = (does named any_rules tape Served step w).0

  -- a match was opened; none where there was no room for it
  pub record OpensMatch (game : List ℕ) (seats : ℕ) (new : HeldWorld) (made : Option Name) : Type 0 where
    pub stands : IsWorld tape new (with_hall w (after_open named any_rules tape w.hall game seats).0)
    pub is : made ≡ made_by (after_open named any_rules tape w.hall game seats).1

  module _ (c : ℕ) where
    -- a client acted, or no action was made
    pub record HasActed (asked : Asked) (held : Bool) (new : HeldWorld) : Type 0 where
      pub stands : IsWorld tape new (after (step.Acts c asked))
      pub is : held ≡ is_held (w.clients c)

    -- a line arrived, and its action fared so
    pub record HasArrived (tally : Tally) (new : HeldWorld) : Type 0 where
      pub stands : IsWorld tape new (after (step.Arrives c))
      pub tallies : Tallies w.hall.rooms tally (after (step.Arrives c)).hall.rooms

    -- a direct answer went on the down link, which is none for want of memory
    pub record HasAnswered (answer : Option Answer) (new : HeldWorld) : Type 0 where
      pub stands : IsWorld tape new (with_down w c (w.down c ++ answer_lines answer))
      pub served : is_again answer ≡ false

    -- a Take handed out so many bytes
    pub record HasTaken (count : ℕ) (new : HeldWorld) : Type 0 where
      pub stands : IsWorld tape new (after (step.Takes c))
      pub is : count ≡ handed_in (frees any_rules w.hall c Take).1

    pub record HasHanded (bytes : List ℕ) (end : Option Bye) (count : ℕ) (new : HeldWorld) : Type 0 where
      pub stands : IsWorld tape new (with_down w c (w.down c ++ lines (bytes ++ concat (bye_lines end))))
      pub is : count ≡ length (bytes ++ concat (bye_lines end))

    -- the same by a Take's reply
    pub record HasHandedReply (told : RoomReply) (count : ℕ) (new : HeldWorld) : Type 0 where
      pub stands : IsWorld tape new (takes any_rules w c (w.hall, Some told)).0
      pub is : count ≡ hands_out told

    -- a client read a line, or there was none
    pub record HasRead (read : Bool) (new : HeldWorld) : Type 0 where
      pub stands : IsWorld tape new (after (step.Reads c))
      pub is : read ≡ is_read (w.clients c) (w.down c)
