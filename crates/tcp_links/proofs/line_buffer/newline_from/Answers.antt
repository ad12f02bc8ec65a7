use Rattle.tcp_links.proofs.Searches.{none_found, one_found}
use Rattle.tcp_links.proofs.line_buffer.newline_from.Goals as goal

pub returns-in-Some-clause-some : goal.returns-in-Some-clause-some
returns-in-Some-clause-some c =
    one_found c.args.bytes.now c.args.from c.in-Some.place c.requires.inside c.requires.before c.in-Some.ensures.0 c.in-Some.ensures.1

pub returns-in-None-clause-none : goal.returns-in-None-clause-none
returns-in-None-clause-none c = none_found c.args.bytes.now c.args.from c.requires.inside c.requires.before c.in-None.ensures
