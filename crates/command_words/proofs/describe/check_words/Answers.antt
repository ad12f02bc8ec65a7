use Rattle.std.proofs.Common.{map, string_bytes, subst, sym}
use Rattle.clap.specs.Words.{fault_of, matches_of}
use Rattle.command_words.specs.Answers.{Answers}
use Rattle.command_words.specs.Describe.{check_app, check_from, check_in}
use Rattle.command_words.proofs.Describing.{check_accepted}
use Rattle.command_words.proofs.Refusals.{refused}
use Rattle.command_words.proofs.describe.check_words.Goals as goal

pub returns-in-Ok : goal.returns-in-Ok
returns-in-Ok c =
    let texts = map string_bytes c.args.words.now in
    subst (λ asked. Answers asked c.check_in.result) (sym (check_accepted texts c.in-Ok.matches c.in-Ok.ensures.matches c.in-Ok.ensures.faults)) c.check_in.ensures

pub returns-in-Err : goal.returns-in-Err
unfolding check_from
returns-in-Err c =
    let texts = map string_bytes c.args.words.now in
    refused (fault_of check_app texts) (check_in (matches_of check_app texts)) c.in-Err.error c.word_of.result c.in-Err.ensures.faults c.word_of.ensures
