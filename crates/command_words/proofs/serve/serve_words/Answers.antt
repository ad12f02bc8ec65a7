use Rattle.std.proofs.Common.{map, string_bytes, subst, sym}
use Rattle.clap.specs.Words.{fault_of, matches_of}
use Rattle.command_words.specs.Answers.{Answers}
use Rattle.command_words.specs.Serve.{serve_app, serve_from, serve_in}
use Rattle.command_words.proofs.Refusals.{refused}
use Rattle.command_words.proofs.Serving.{accepted}
use Rattle.command_words.proofs.serve.serve_words.Goals as goal

pub returns-in-Ok-clause-asked : goal.returns-in-Ok-clause-asked
returns-in-Ok-clause-asked c =
    let texts = map string_bytes c.args.words.now in
    subst (λ asked. Answers asked c.words_in.result) (sym (accepted texts c.in-Ok.matches c.in-Ok.ensures.matches c.in-Ok.ensures.faults)) c.words_in.ensures.asked

pub returns-in-Err-clause-asked : goal.returns-in-Err-clause-asked
unfolding serve_from
returns-in-Err-clause-asked c =
    let texts = map string_bytes c.args.words.now in
    refused (fault_of serve_app texts) (serve_in (matches_of serve_app texts)) c.in-Err.error c.word_of.result c.in-Err.ensures.faults c.word_of.ensures
