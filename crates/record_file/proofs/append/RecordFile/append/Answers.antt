use Rattle.std.proofs.Common.{[], ◌∙◌}
use Rattle.record_file.proofs.Frames.{one_is_all}
use Rattle.record_file.proofs.append.RecordFile.append.Goals as goal

pub returns-clause-kept : goal.returns-clause-kept
returns-clause-kept g c records payload s is = c.append_all.ensures.kept records payload [] s (is ∙ one_is_all payload)

pub returns-clause-any_moment : goal.returns-clause-any_moment
returns-clause-any_moment g c records payload s is = c.append_all.ensures.any_moment records payload [] s (is ∙ one_is_all payload)
