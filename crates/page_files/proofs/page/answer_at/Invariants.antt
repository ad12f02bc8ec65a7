use Rattle.std.proofs.Common.{◌≡◌, drop}
use Rattle.page_files.specs.Pages.{answer_at}
use Rattle.page_files.proofs.page.answer_at.Given as goal

abbrev pub invariant-loop-page : goal.invariant-loop-page
invariant-loop-page l = answer_at (drop l.page-index l.pages) l.path ≡ answer_at l.pages l.path
