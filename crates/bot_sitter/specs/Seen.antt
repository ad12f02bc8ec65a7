-- What a client has settled that isn't gone, and which of two clients has settled all that the other has.
use Rattle.std.specs.Prelude.{◌≡◌, Option, Some, None, option_map, if◌then◌else◌}
use Rattle.client_predict.specs.Client.{Client, Playing}
use Rattle.player_sight.specs.declared.shown.Snapshot.{Snapshot}

abbrev pub settled_of : {G : Type 0} → Option (Playing G) → Option (Snapshot G)
settled_of playing = option_map (λ p. p.settled) playing

abbrev pub sees : {G : Type 0} → Client G → Option (Snapshot G)
sees c = if c.gone then None else settled_of c.playing

abbrev pub sees_in : {G : Type 0} → Option (Client G) → Option (Snapshot G)
sees_in None = None
sees_in (Some c) = sees c

-- what the one has settled, the other has
abbrev pub Agrees : {G : Type 0} → Option (Client G) → Client G → Type 0
Agrees {G} c d = (s : Snapshot G) → sees_in c ≡ Some s → sees d ≡ Some s
