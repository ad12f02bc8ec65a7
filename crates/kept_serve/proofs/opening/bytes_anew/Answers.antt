use Rattle.std.proofs.Common.{◌≡◌, ◌∙◌, ap, subst, sym, None}
use Rattle.any_game.specs.AnyRules.{any_rules}
use Rattle.kept_room.proofs.Drafts.{none_numbered}
use Rattle.kept_room.specs.Anew.{IsCleared}
use Rattle.room_history.specs.Room.{number, serials, standing}
use Rattle.kept_serve.proofs.Anew.{some_weaker}
use Rattle.kept_serve.proofs.opening.bytes_anew.Goals as goal

pub returns-in-None-clause-cleared : goal.returns-in-None-clause-cleared
returns-in-None-clause-cleared g c = λ old stands same.
    let room = c.args.room in
    let none : standing any_rules room old ≡ None = none_numbered (standing any_rules room old)
    (ap (λ n. number any_rules n old) (sym same) ∙ sym (c.number.ensures old stands) ∙ c.in-None.is) in
    let made : c.serial.result ≡ serials any_rules room old = c.serial.ensures old stands ∙ ap (λ n. serials any_rules n old) same in
    some_weaker c.cleared_bytes.result _ _ (λ bytes cleared. (none, (cleared.0, subst (λ n. IsCleared room n bytes.items cleared.0) made cleared.1))) c.cleared_bytes.ensures.cleared
