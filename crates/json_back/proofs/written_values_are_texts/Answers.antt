use Rattle.json_back.proofs.Newlines.{written_whole_line}
use Rattle.json_back.proofs.Texts.{written_utf8, whole}
use Rattle.json_back.proofs.written_values_are_texts.Goals as goal

pub returns-clause-utf8 : goal.returns-clause-utf8
returns-clause-utf8 c = written_utf8

pub returns-clause-no_newline : goal.returns-clause-no_newline
returns-clause-no_newline c = written_whole_line

pub returns-clause-whole : goal.returns-clause-whole
returns-clause-whole c = whole
