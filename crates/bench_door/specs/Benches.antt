-- What a link of a bench tells is what the bot's link tells, or the door's; and which links a bench gives first.
use Rattle.std.specs.Prelude.{◌≡◌, List, [], ◌∷◌, ◌++◌}
use Rattle.bench_door.specs.declared.bench_link.BenchLink.{BenchLink}
use Rattle.bench_door.specs.declared.bench_link.BenchLink.TheVariants.{Bot, Other}
use Rattle.board_links.specs.declared.door.Visit.{Visit}
use Rattle.board_links.specs.declared.door.Visit.TheVariants as visit

abbrev pub by_link : {L B : Type 0} {A : Type 0} → (B → A) → (L → A) → BenchLink L B → A
by_link bot other (Bot link) = bot link
by_link bot other (Other link) = other link

-- the bots' links come first, the last of those that are left, and the door is left alone meanwhile
abbrev pub Gives : {L B D : Type 0} → Visit (BenchLink L B) → List B → List B → D → D → Type 0
Gives (visit.Came (Bot link)) before after door door_after = (before ≡ after ++ link ∷ []) × (door_after ≡ door)
Gives answer before after door door_after = (before ≡ []) × (after ≡ [])
