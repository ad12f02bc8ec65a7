use Rattle.std.proofs.Common.{ap, ap₂, refl, subst, true, map, string_bytes, ◌≡◌, ◌∙◌}
use Rattle.std.proofs.lemmas.Result.{IfOk-weaker}
use Rattle.clap.specs.Words.{app_of, with_rule, is_simple_and_free, HasMatchesOf, FailsBy, fault_of}
use Rattle.clap.proofs.OnLiterals.{clap_on_literals}
use Rattle.command_words.specs.Serve.{serve_app}
use Rattle.command_words.proofs.serve.matches_of.Goals as goal

is_free : is_simple_and_free serve_app ≡ true
unfolding clap_on_literals
is_free = refl

pub returns : goal.returns
returns c =
    let app_is : app_of c.in_ok-command.command ≡ serve_app = c.in_ok-command.ensures.shape c.flag.ensures.own
    ∙ ap₂ with_rule (c.in_ok-arg-14.ensures.shape c.option-13.ensures.own
    ∙ ap₂ with_rule (c.in_ok-arg-13.ensures.shape c.option-12.ensures.own
    ∙ ap₂ with_rule (c.in_ok-arg-12.ensures.shape c.option-11.ensures.own
    ∙ ap₂ with_rule (c.in_ok-arg-11.ensures.shape c.option-10.ensures.own
    ∙ ap₂ with_rule (c.in_ok-arg-10.ensures.shape c.option-9.ensures.own
    ∙ ap₂ with_rule (c.in_ok-arg-9.ensures.shape c.option-8.ensures.own
    ∙ ap₂ with_rule (c.in_ok-arg-8.ensures.shape c.option-7.ensures.own
    ∙ ap₂ with_rule (c.in_ok-arg-7.ensures.shape c.option-6.ensures.own
    ∙ ap₂ with_rule (c.in_ok-arg-6.ensures.shape c.option-5.ensures.own
    ∙ ap₂ with_rule (c.in_ok-arg-5.ensures.shape c.option-4.ensures.own
    ∙ ap₂ with_rule (c.in_ok-arg-4.ensures.shape c.option-3.ensures.own
    ∙ ap₂ with_rule (c.in_ok-arg-3.ensures.shape c.option-2.ensures.own
    ∙ ap₂ with_rule (c.in_ok-arg-2.ensures.shape c.option.ensures.own
    ∙ ap₂ with_rule (c.in_ok-arg.ensures.shape c.needed.ensures.own ∙ ap₂ with_rule c.new.ensures.app c.needed.ensures.rule) c.option.ensures.rule) c.option-2.ensures.rule) c.option-3.ensures.rule) c.option-4.ensures.rule) c.option-5.ensures.rule) c.option-6.ensures.rule) c.option-7.ensures.rule) c.option-8.ensures.rule) c.option-9.ensures.rule) c.option-10.ensures.rule) c.option-11.ensures.rule) c.option-12.ensures.rule) c.option-13.ensures.rule) c.flag.ensures.rule in
    let texts = map string_bytes c.args.words.now in
    let parse = c.try_get_matches_from in
    record {
      matches = IfOk-weaker parse.result _ _ (λ m h. subst (λ a. HasMatchesOf a texts m) app_is h) parse.ensures.matches;
      faults = subst (λ a. FailsBy (fault_of a texts) parse.result) app_is (parse.ensures.kinds (ap is_simple_and_free app_is ∙ is_free));
    }
