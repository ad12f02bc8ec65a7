use Rattle.std.proofs.Common.{arith, ap, subst, length}
use Rattle.std.proofs.lemmas.List.{length-map}
use Rattle.game_sheet.specs.Lines.{lines}
use Rattle.game_sheet.proofs.Sharing.{AreShared, shared_lines}
use Rattle.game_sheet.proofs.bytes.Bytes.count.Goals as goal

pub returns-in-Shared : goal.returns-in-Shared
returns-in-Shared c =
    let are = subst (λ held. AreShared held (lines c.args.self.now)) c.in-Shared.is (shared_lines c.self.inside.held c.args.self.now c.self.view_is c.self.invariant) in
    let count = ap length are in
    omega (arith, count, length-map c.in-Shared.shared.items (λ line. line.value.items))
