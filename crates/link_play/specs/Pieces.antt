-- What a print and a send of a player come to.
use Rattle.std.specs.Prelude.{◌≡◌, ℕ, List, ◌++◌, take, Result, Ok, Err}
use Rattle.board_links.specs.Faults.{HasRisen}
use Rattle.client_predict.specs.Client.{Client}
use Rattle.client_predict.specs.Reading.{reads}
use Rattle.game_trait.specs.Rules.{Rules}
use Rattle.world_history.specs.Words.{heard_word}
use Rattle.link_play.specs.Sitting.{on_line}
use Rattle.link_play.specs.declared.stop.Stop.{Stop}
use Rattle.link_play.specs.declared.stop.Stop.TheVariants as stop

abbrev pub Flow : Type 0
Flow = Result (Unit {0}) Stop

-- a text was printed, or some first part of it
abbrev pub Prints : Flow → List ℕ → List ℕ → List ℕ → Type 0
Prints (Ok done) text before after = after ≡ before ++ text
Prints (Err stop.WriteFault) text before after = (n : ℕ) × (after ≡ before ++ take n text)
Prints (Err why) text before after = ⊥

abbrev pub PrintRaises : Flow → ℕ → ℕ → Type 0
PrintRaises (Ok done) old new = new ≡ old
PrintRaises (Err stop.WriteFault) old new = HasRisen old new
PrintRaises (Err why) old new = ⊥

-- a line was sent, or some first part of it
abbrev pub Sends : Flow → List ℕ → List ℕ → List ℕ → Type 0
Sends (Ok done) line before after = after ≡ before ++ line
Sends (Err stop.LinkFault) line before after = (n : ℕ) × (after ≡ before ++ take n line)
Sends (Err stop.NoMemory) line before after = (n : ℕ) × (after ≡ before ++ take n line)
Sends (Err why) line before after = ⊥

abbrev pub SendRaises : Flow → ℕ → ℕ → Type 0
SendRaises (Ok done) old new = new ≡ old
SendRaises (Err stop.LinkFault) old new = HasRisen old new
SendRaises (Err stop.NoMemory) old new = new ≡ old
SendRaises (Err why) old new = ⊥

-- a client read a line, and what came of it was printed
abbrev pub TakesIn : {G : Type 0} → Rules G → List ℕ → Flow → Client G → Client G → List ℕ → List ℕ → Type 0
TakesIn rules line (Ok done) old new before after = (new ≡ (reads rules old line).client) × (after ≡ before ++ on_line (heard_word (reads rules old line).told))
TakesIn rules line (Err stop.WriteFault) old new before after =
    (new ≡ (reads rules old line).client) × ((n : ℕ) × (after ≡ before ++ take n (on_line (heard_word (reads rules old line).told))))
TakesIn rules line (Err stop.NoMemory) old new before after = (new ≡ old) × (after ≡ before)
TakesIn rules line (Err why) old new before after = ⊥

abbrev pub TakesRaises : Flow → ℕ → ℕ → Type 0
TakesRaises (Ok done) old new = new ≡ old
TakesRaises (Err stop.WriteFault) old new = HasRisen old new
TakesRaises (Err stop.NoMemory) old new = new ≡ old
TakesRaises (Err why) old new = ⊥
