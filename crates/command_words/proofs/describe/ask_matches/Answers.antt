use Rattle.std.proofs.Common.{ap, ap₂, refl, subst, true, map, string_bytes, ◌≡◌, ◌∙◌}
use Rattle.std.proofs.lemmas.Result.{IfOk-weaker}
use Rattle.clap.specs.Words.{app_of, with_rule, is_simple_and_free, HasMatchesOf, FailsBy, fault_of}
use Rattle.clap.proofs.OnLiterals.{clap_on_literals}
use Rattle.command_words.specs.Describe.{ask_app}
use Rattle.command_words.proofs.describe.ask_matches.Goals as goal

is_free : is_simple_and_free ask_app ≡ true
unfolding clap_on_literals
is_free = refl

pub returns : goal.returns
returns c =
    let app_is : app_of c.in_ok-command.command ≡ ask_app = c.in_ok-command.ensures.shape c.value.ensures.own ∙ ap₂ with_rule c.new.ensures.app c.value.ensures.rule in
    let texts = map string_bytes c.args.words.now in
    let parse = c.try_get_matches_from in
    record {
      matches = IfOk-weaker parse.result _ _ (λ m h. subst (λ a. HasMatchesOf a texts m) app_is h) parse.ensures.matches;
      faults = subst (λ a. FailsBy (fault_of a texts) parse.result) app_is (parse.ensures.kinds (ap is_simple_and_free app_is ∙ is_free));
    }
