-- Every own state of a game is written as a value that is nested at most 125 deep, and so stands in lines that can be read.
use Rattle.std.specs.Prelude.{◌≤◌, IsTrue}
use Rattle.game_trait.specs.Rules.{Rules}
use Rattle.serde_json.specs.Data.{depth}

abbrev pub StatesAreShallow : {X G : Type 0} → (X → Rules G) → Type 0
StatesAreShallow {X = X} {G = G} rules = (any : X) (g : G) → IsTrue ((rules any).own g) → depth ((rules any).value g) ≤ 125
