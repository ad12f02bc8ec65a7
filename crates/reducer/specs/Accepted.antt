-- An action that a match accepted: whose it was, and what was done; and which actions a match can accept.
use Rattle.std.specs.Prelude.{◌<◌, ℕ, List, [], ◌∷◌}
use Rattle.game_sheet.specs.declared.act.Act.{Act}
use Rattle.game_sheet.specs.declared.sheet.Sheet.{Sheet}
use Rattle.game_trait.specs.InSheet.{ActInSheet}

pub record Accepted : Type 0 where
  pub seat : ℕ
  pub act : Act

-- those of its seats, of what is in its sheet
abbrev pub AreActs : Sheet → ℕ → List Accepted → Type 0
AreActs sheet seats [] = Unit {0}
AreActs sheet seats (a ∷ acts) = (a.seat < seats) × ActInSheet sheet a.act × AreActs sheet seats acts
