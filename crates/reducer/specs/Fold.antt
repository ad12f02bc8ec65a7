-- A match is the fold of its done actions from what it began with. Lists of actions have the latest one first.
use Rattle.std.specs.Prelude.{ℕ, List, length, Option}
use Rattle.game_sheet.specs.declared.act.Act.{Act}
use Rattle.game_sheet.specs.declared.refusal.GameRule.{GameRule}
use Rattle.game_trait.specs.Rules.{Rules}
use Rattle.phase_flow.specs.Reached.{Reached}
use Rattle.reducer.specs.Accepted.{Accepted}
use Rattle.reducer.specs.Answer.{answer_by}
use Rattle.reducer.specs.Folded.{came_by, folded, leads_to}
use Rattle.reducer.specs.Standing.{Standing}
use Rattle.reducer.specs.Struck.{struck_of}

-- what accepted actions come to: those of them that are done, one after the other
abbrev pub fold : {G : Type 0} → Rules G → Reached G → List Accepted → Reached G
fold rules first accepted = folded rules first (struck_of accepted).done

abbrev pub standing : {G : Type 0} → Rules G → Reached G → List Accepted → Standing G
standing rules first accepted = record {
  number = length accepted;
  table = fold rules first accepted;
  first = first;
  done = (struck_of accepted).done;
  undone = (struck_of accepted).undone;
  past = came_by rules first (struck_of accepted).done;
  ahead = leads_to rules (fold rules first accepted) (struck_of accepted).undone;
}

-- what a further action is answered; none where it is accepted
abbrev pub answer : {G : Type 0} → Rules G → Reached G → List Accepted → ℕ → Act → Option GameRule
answer rules first accepted seat act =
    let lists = struck_of accepted in answer_by rules first (fold rules first accepted) lists.done lists.undone seat act
