-- What a send leaves: all that was sent is heard, or a call had no memory.
use Rattle.std.proofs.Common.{◌≡◌, ◌++◌, ℕ, Bool, true, false, cond, not, List, Option, sym, ap, subst, ◌∙◌}
use Rattle.std.specs.Prelude.{fold}
use Rattle.std.proofs.lemmas.Grind.{fold-append}
use Rattle.board_links.specs.Answers.{AreLines}
use Rattle.client_predict.specs.Client.{Client}
use Rattle.game_sheet.specs.Lines.{lines}
use Rattle.game_trait.specs.Rules.{Rules}
use Rattle.client_predict.specs.Following.{followed}
use Rattle.bot_sitter.specs.Hearing.{AreCut, IsHeard}
use Rattle.bot_sitter.specs.Hears.{clients_after}
use Rattle.bot_sitter.specs.Seen.{Agrees}
use Rattle.bot_sitter.specs.Told.{nothing, told_by, told_line}
use Rattle.bot_sitter.specs.declared.told.Told.{Told}
use Rattle.bot_sitter.proofs.Agreeing.{agrees_more}
use Rattle.bot_sitter.proofs.Cutting.{cut_both, cut_lines}

pub heard_on : {G : Type 0} (rules : Rules G) (starved : Bool) (sent bytes all : List ℕ) (told told2 : Told) (client client2 : Option (Client G)) → starved ≡ false
    → IsHeard rules starved sent told client → AreLines bytes → all ≡ sent ++ bytes
    → told2 ≡ fold told_line told (lines bytes) → client2 ≡ clients_after rules client (lines bytes) → IsHeard rules starved all told2 client2
heard_on rules starved sent bytes all told told2 client client2 here h ends e t c = record {
  cut = subst AreCut (sym e) (cut_both sent bytes h.cut (cut_lines bytes ends));
  told_is = λ _. t ∙ ap (λ old. fold told_line old (lines bytes)) (h.told_is here) ∙ sym (fold-append told_line nothing (lines sent) (lines bytes)) ∙ ap told_by (sym (ap lines e ∙ h.cut bytes));
  agrees = λ _. subst (λ (x : Option (Client _)). Agrees x (followed rules (lines all))) (sym c) (agrees_more rules (lines sent) (lines bytes) (lines all) client (ap lines e ∙ h.cut bytes) (h.agrees here));
}

pub starved_on : {G : Type 0} (rules : Rules G) (sent bytes all : List ℕ) (told : Told) (client : Option (Client G))
    → AreCut sent → AreLines bytes → all ≡ sent ++ bytes → IsHeard rules true all told client
starved_on rules sent bytes all told client cut ends e = record {
  cut = subst AreCut (sym e) (cut_both sent bytes cut (cut_lines bytes ends));
  told_is = λ no. cc;
  agrees = λ no s seen. cc;
}

pub kept_by : (b : Bool) (all old new : List ℕ) (t : Bool) → all ≡ cond b new old → b ≡ not t → t ≡ false → all ≡ new
kept_by b all old new t e n f = e ∙ ap (λ x. cond x new old) (n ∙ ap not f)
