use Rattle.std.proofs.Common.{◌≡◌, ◌-◌, ◌≤◌, length, IsSome}
use Rattle.board_links.specs.Pieces.{told_bytes}
use Rattle.journal_bytes.proofs.Gives.{Front}
use Rattle.journal_bytes.proofs.given.all_bytes.Given as goal

abbrev pub invariant-source : goal.invariant-source
invariant-source g l = record {
  quiet : g.S.Source.faults l.source ≡ g.S.Source.faults l.initial.source;
  few : length l.bytes.items ≤ 268439552;
  front : IsSome (g.S.Source.left l.initial.source) → Front l.bytes.items (told_bytes (g.S.Source.left l.initial.source)) (g.S.Source.left l.source);
}

abbrev pub decreases-source : goal.decreases-source
decreases-source g l = 268435457 - length l.bytes.items
