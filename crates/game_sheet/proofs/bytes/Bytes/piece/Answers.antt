use Rattle.std.proofs.Common.{arith, ap, subst, length, sym, ◌<◌, Some, ◌∙◌}
use Rattle.std.proofs.lemmas.List.{length-map}
use Rattle.std.specs.Prelude.{slice_get}
use Rattle.game_sheet.specs.Lines.{lines}
use Rattle.game_sheet.proofs.Sharing.{AreShared, at_place, shared_lines}
use Rattle.game_sheet.proofs.bytes.Bytes.piece.Goals as goal

pub index-requires : goal.index-requires
index-requires c =
    let are = subst (λ held. AreShared held (lines c.args.self.now)) c.in-Shared.is (shared_lines c.self.inside.held c.args.self.now c.self.view_is c.self.invariant) in
    let count = ap length are in
    omega (arith, count, length-map c.in-Shared.shared.items (λ line. line.value.items))

pub returns-in-Shared : goal.returns-in-Shared
returns-in-Shared c =
    let are = subst (λ held. AreShared held (lines c.args.self.now)) c.in-Shared.is (shared_lines c.self.inside.held c.args.self.now c.self.view_is c.self.invariant) in
    let count = ap length are in
    let within : c.args.place < length c.in-Shared.shared.items = omega (arith, count, length-map c.in-Shared.shared.items (λ line. line.value.items)) in
    ap (λ all. slice_get all c.args.place) are
    ∙ at_place (λ line. line.value.items) c.in-Shared.shared.items c.args.place c.index.result.now within c.index.ensures
    ∙ ap Some (sym (c.as_slice-in-Shared.ensures.value ∙ ap (λ held. held.items) c.deref.ensures))
