use Rattle.std.proofs.Common.{map, string_bytes, subst, sym}
use Rattle.clap.specs.Words.{fault_of, matches_of}
use Rattle.command_words.specs.Answers.{Answers}
use Rattle.command_words.specs.Describe.{ask_app, ask_from, ask_in}
use Rattle.command_words.proofs.Describing.{ask_accepted}
use Rattle.command_words.proofs.Refusals.{refused}
use Rattle.command_words.proofs.describe.ask_words.Goals as goal

pub returns-in-Ok : goal.returns-in-Ok
returns-in-Ok c =
    let texts = map string_bytes c.args.words.now in
    subst (λ asked. Answers asked c.ask_in.result) (sym (ask_accepted texts c.in-Ok.matches c.in-Ok.ensures.matches c.in-Ok.ensures.faults)) c.ask_in.ensures

pub returns-in-Err : goal.returns-in-Err
unfolding ask_from
returns-in-Err c =
    let texts = map string_bytes c.args.words.now in
    refused (fault_of ask_app texts) (ask_in (matches_of ask_app texts)) c.in-Err.error c.word_of.result c.in-Err.ensures.faults c.word_of.ensures
