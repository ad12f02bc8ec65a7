-- How a command is broken off, and what it has made of a player's sitting until then.
use Rattle.std.specs.Prelude.{◌≡◌, ◌⊎◌, ℕ, ◌<◌, List, Bool, take, length, Option, Some, None, Result, Ok, Err}
use Rattle.board_links.specs.declared.link.Came.TheVariants as came
use Rattle.client_predict.specs.Acting.{act_no}
use Rattle.client_predict.specs.Client.{Playing}
use Rattle.game_trait.specs.Rules.{Rules}
use Rattle.wire_json.specs.declared.asked.Asked.{Asked}
use Rattle.link_play.specs.Commands.{Command, Syncs, Nothing, Acts, Reads, Waits, Shows, Ends}
use Rattle.link_play.specs.Doing.{Does, Who, act_line, acted_text, acts, key_of, most_lines, most_quiet, quiet_text, shows, sync_line, with_action}
use Rattle.link_play.specs.Sitting.{Sitting, answered, becomes, hears_lines, prints, quiet_for, sends, takes_in, word_of}
use Rattle.link_play.specs.declared.stop.Stop.{Stop}
use Rattle.link_play.specs.declared.stop.Stop.TheVariants as stop

module _ {G : Type 0} where
  -- the sink fails, with some first part of a text
  abbrev pub StopsPrinting : Stop → List ℕ → Sitting G → Sitting G → Type 0
  StopsPrinting stop.WriteFault text s t = (n : ℕ) × (t ≡ prints s (take n text))
  StopsPrinting why text s t = ⊥

  -- a send fails or wants memory, with some first part of a line
  abbrev pub StopsSending : Stop → List ℕ → Sitting G → Sitting G → Type 0
  StopsSending stop.LinkFault line s t = (n : ℕ) × (t ≡ sends s (take n line))
  StopsSending stop.NoMemory line s t = (n : ℕ) × (t ≡ sends s (take n line))
  StopsSending why line s t = ⊥

  -- there is no memory, and nothing was done
  abbrev pub StopsAtOnce : Stop → Sitting G → Sitting G → Type 0
  StopsAtOnce stop.NoMemory s t = t ≡ s
  StopsAtOnce why s t = ⊥

module _ {G : Type 0} (rules : Rules G) where
  -- the link ends, gives too long a line or fails; there is no memory for its answer, or for the client to read a line that it gave; or
  -- what came of a line can't be printed
  abbrev pub StopsHearing : Stop → Sitting G → Sitting G → Type 0
  StopsHearing stop.LinkEnded s t = t ≡ answered s came.Ended
  StopsHearing stop.LinkLong s t = t ≡ answered s came.TooLong
  StopsHearing stop.LinkFault s t = t ≡ answered s came.Failed
  StopsHearing stop.NoMemory s t = (t ≡ s) ⊎ ((line : List ℕ) × (t ≡ answered s (came.Line line)))
  StopsHearing stop.WriteFault s t = (line : List ℕ) × (n : ℕ) × (t ≡ prints (takes_in rules s line) (take n (word_of rules s line)))

  -- after fewer lines than a `read` takes
  abbrev pub StopsReading : Stop → Sitting G → Sitting G → Type 0
  StopsReading why s t = (lines : List (List ℕ)) × (length lines < most_lines) × StopsHearing why (hears_lines rules s lines) t

  -- after fewer silences than a `wait` bears, or at its own word
  abbrev pub StopsWaiting : Stop → Sitting G → Sitting G → Type 0
  StopsWaiting why s t =
      ((times : ℕ) × (times < most_quiet) × StopsHearing why (quiet_for s times) t)
      ⊎ StopsPrinting why quiet_text (quiet_for s most_quiet) t

  abbrev pub StopsShowing : Stop → Sitting G → Sitting G → Type 0
  StopsShowing why s t = StopsAtOnce why s t ⊎ StopsPrinting why (shows rules s.client) s t

module _ {G : Type 0} (rules : Rules G) where
  -- at the line of an action that the client made, or at the word for it
  abbrev pub StopsActing : Option (List ℕ) → Stop → Asked → Sitting G → Sitting G → Type 0
  StopsActing key why asked s t =
      ((p : Playing G) × (s.client.playing ≡ Some p) × (act_no s.client.gone s.client.playing ≡ None)
      × StopsSending why (act_line rules key p asked) (becomes s (with_action rules s.client p asked)) t)
      ⊎ ((starved : Bool) × StopsPrinting why (acted_text rules starved s.client asked) (acts rules key starved s asked) t)

module _ {G : Type 0} (rules : Rules G) (who : Who) where
  abbrev pub StopsIn : Command → Stop → Sitting G → Sitting G → Type 0
  StopsIn Syncs why s t = StopsSending why (sync_line who) s t
  StopsIn Nothing why s t = ⊥
  StopsIn (Acts asked) why s t = StopsActing rules (key_of who.viewer) why asked s t
  StopsIn Reads why s t = StopsReading rules why s t
  StopsIn Waits why s t = StopsWaiting rules why s t
  StopsIn Shows why s t = StopsShowing rules why s t
  StopsIn Ends why s t = ⊥

  -- what a command comes to, done or broken off
  abbrev pub Did : Command → Result (Unit {0}) Stop → Sitting G → Sitting G → Type 0
  Did c (Ok done) s t = Does rules who c s t
  Did c (Err why) s t = StopsIn c why s t
