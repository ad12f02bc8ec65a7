-- What an action comes to.
use Rattle.std.specs.Prelude.{◌≡◌, ℕ, Bool, List, Option, Ok, Err}
use Rattle.game_trait.specs.Rules.{Rules}
use Rattle.wire_json.specs.declared.asked.Asked.{Asked}
use Rattle.link_play.specs.Doing.{acted_text, acts}
use Rattle.link_play.specs.Pieces.{Flow}
use Rattle.link_play.specs.Sitting.{Sitting, prints}
use Rattle.link_play.specs.Stopping.{StopsActing}

abbrev pub ActsOn : {G : Type 0} → Rules G → Option (List ℕ) → Asked → Flow → Sitting G → Sitting G → Type 0
ActsOn rules key asked (Ok done) s t = (starved : Bool) × (t ≡ prints (acts rules key starved s asked) (acted_text rules starved s.client asked))
ActsOn rules key asked (Err why) s t = StopsActing rules key why asked s t
