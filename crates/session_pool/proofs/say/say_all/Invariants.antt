use Rattle.std.proofs.Common.{◌≡◌, ◌++◌, Some, take}
use Rattle.std.specs.List.{concat}
use Rattle.std.specs.Prelude.{IsSome, is_some}
use Rattle.board_links.specs.Pieces.{told_bytes}
use Rattle.game_sheet.specs.Lines.{lines}
use Rattle.session_pool.proofs.say.say_all.Given as goal

abbrev pub invariant-loop-place : goal.invariant-loop-place
invariant-loop-place g l = record {
  faults : g.L.Link.faults l.link ≡ g.L.Link.faults l.fn.link;
  stage : g.L.Link.stage l.link ≡ g.L.Link.stage l.fn.link;
  answers : g.L.Link.answers l.link ≡ g.L.Link.answers l.fn.link;
  tells : is_some (g.L.Link.sent l.link) ≡ is_some (g.L.Link.sent l.fn.link);
  is_bot : g.L.Link.is_bot l.link ≡ g.L.Link.is_bot l.fn.link;
  asked_out : g.L.Link.asked_out l.link ≡ g.L.Link.asked_out l.fn.link;
  sent : IsSome (g.L.Link.sent l.fn.link) → g.L.Link.sent l.link ≡ Some (told_bytes (g.L.Link.sent l.fn.link) ++ concat (take l.place (lines l.bytes)));
}
