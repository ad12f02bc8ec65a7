-- Without a fault all tests hold.
use Rattle.std.proofs.Common.{sym, ap, ◌∙◌}
use Rattle.described_game.specs.Tests.{either_fault, sheet_fault, slot_fault}
use Rattle.described_game.proofs.SoundLemmas.{sound}
use Rattle.described_game.proofs.checks.first_fault.Goals as goal

pub returns-clause-sound : goal.returns-clause-sound
returns-clause-sound c =
    let parts = c.args.parts.now in
    let later = c.either_fault.ensures ∙ ap (λ o. either_fault o c.code_fault.result) c.slot_fault.ensures ∙ ap (either_fault (slot_fault parts)) c.code_fault.ensures in
    let value = c.either_fault-2.ensures ∙ ap (λ o. either_fault o c.either_fault.result) c.sheet_fault.ensures ∙ ap (either_fault (sheet_fault parts)) later in
    λ none. sound parts (sym value ∙ none)
