-- What a line of commands comes to.
use Rattle.std.specs.Prelude.{◌≡◌, ◌≢◌, ℕ, List, Some, None, Err}
use Rattle.client_predict.specs.Client.{Client}
use Rattle.game_trait.specs.Rules.{Rules}
use Rattle.link_play.specs.Commands.{Command, Ends, command_of}
use Rattle.link_play.specs.Doing.{Does, Who, shows}
use Rattle.link_play.specs.Pieces.{Flow, Prints}
use Rattle.link_play.specs.Sitting.{Sitting}
use Rattle.link_play.specs.Stopping.{StopsIn}
use Rattle.link_play.specs.declared.stop.LineStatus.{LineStatus}
use Rattle.link_play.specs.declared.stop.LineStatus.TheVariants as status
use Rattle.link_play.specs.declared.stop.Stop.TheVariants as stop

-- what the client holds was printed, or some first part of it; or there was no memory for it
abbrev pub ShowsOn : {G : Type 0} → Rules G → Flow → Client G → List ℕ → List ℕ → Type 0
ShowsOn rules (Err stop.NoMemory) c before after = after ≡ before
ShowsOn rules flow c before after = Prints flow (shows rules c) before after

module _ {G : Type 0} (rules : Rules G) (who : Who) where
  -- a command that was read
  abbrev pub RanCommand : Command → LineStatus → Sitting G → Sitting G → Type 0
  RanCommand c status.Done s t = (c ≢ Ends) × Does rules who c s t
  RanCommand c status.Ended s t = (c ≡ Ends) × (t ≡ s)
  RanCommand c status.BadLine s t = ⊥
  RanCommand c status.Unread s t = ⊥
  RanCommand c (status.Stopped why) s t = StopsIn rules who c why s t

  abbrev pub RanLine : List ℕ → LineStatus → Sitting G → Sitting G → Type 0
  RanLine line status.Done s t = (c : Command) × (command_of line ≡ Some c) × (c ≢ Ends) × Does rules who c s t
  RanLine line status.Ended s t = (command_of line ≡ Some Ends) × (t ≡ s)
  RanLine line status.BadLine s t = (command_of line ≡ None) × (t ≡ s)
  RanLine line status.Unread s t = t ≡ s
  RanLine line (status.Stopped why) s t = (c : Command) × (command_of line ≡ Some c) × (c ≢ Ends) × StopsIn rules who c why s t
