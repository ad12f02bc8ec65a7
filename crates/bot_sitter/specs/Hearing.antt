-- What a send does to a bot's link, and what its client has to do with the lines that it was sent: what it has settled is what a client has
-- that makes no act and passes verdicts and direct answers over.
use Rattle.std.specs.Prelude.{◌≡◌, ℕ, List, ◌++◌, take, Bool, true, false, Option}
use Rattle.board_links.specs.declared.link.Out.{Out}
use Rattle.board_links.specs.declared.link.Out.TheVariants as out
use Rattle.client_predict.specs.Client.{Client}
use Rattle.game_sheet.specs.Lines.{lines}
use Rattle.game_trait.specs.Rules.{Rules}
use Rattle.bot_sitter.specs.Hears.{clients_after}
use Rattle.client_predict.specs.Following.{followed}
use Rattle.bot_sitter.specs.Seen.{Agrees}
use Rattle.bot_sitter.specs.Sitting.{Sitting}
use Rattle.bot_sitter.specs.Told.{told_by}
use Rattle.bot_sitter.specs.declared.told.Told.{Told}

-- more lines may follow
abbrev pub AreCut : List ℕ → Type 0
AreCut bytes = (more : List ℕ) → lines (bytes ++ more) ≡ lines bytes ++ lines more

-- more lines were sent
abbrev pub Grows : List ℕ → List ℕ → Type 0
Grows sent after = (more : List (List ℕ)) × (lines after ≡ lines sent ++ more)

pub record IsHeard {G : Type 0} (rules : Rules G) (starved : Bool) (sent : List ℕ) (told : Told) (client : Option (Client G)) : Type 0 where
  pub cut : AreCut sent
  pub told_is : starved ≡ false → told ≡ told_by (lines sent)
  pub agrees : starved ≡ false → Agrees client (followed rules (lines sent))

-- the bytes were kept, and their lines were heard
abbrev pub heard_to : {X G : Type 0} → Rules G → Sitting X G → List ℕ → Sitting X G
heard_to rules s bytes = record s { sent = s.sent ++ bytes; client = clients_after rules s.client (lines bytes) }

-- without memory a first part of the bytes was kept, and every later call has none
pub record IsStarved {X G : Type 0} (old new : Sitting X G) (bytes : List ℕ) : Type 0 where
  pub starved : new.starved ≡ true
  pub kept : ℕ
  pub sent : new.sent ≡ old.sent ++ take kept bytes
  pub game : new.game ≡ old.game
  pub name : new.name ≡ old.name
  pub seat : new.seat ≡ old.seat
  pub gave : new.gave ≡ old.gave
  pub asked_out : new.asked_out ≡ old.asked_out
  pub last : new.last ≡ old.last

abbrev pub Hears : {X G : Type 0} → Rules G → Out → List ℕ → Sitting X G → Sitting X G → Type 0
Hears rules out.Done bytes old new = (old.starved ≡ false) × (new ≡ heard_to rules old bytes)
Hears rules out.NoMemory bytes old new = IsStarved old new bytes
Hears rules out.Failed bytes old new = ⊥

-- what no send changes
pub record IsKept {X G : Type 0} (old new : Sitting X G) : Type 0 where
  pub game : new.game ≡ old.game
  pub last : new.last ≡ old.last
  pub asked_out : new.asked_out ≡ old.asked_out
