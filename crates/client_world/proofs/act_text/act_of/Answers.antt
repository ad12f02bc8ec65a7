use Rattle.std.proofs.Common.{Some, option_and_then, sym, ap, ◌∙◌}
use Rattle.wire_json.specs.Acts.{asked_in}
use Rattle.client_world.specs.Reading.{asked_by, asked_of}
use Rattle.client_world.proofs.Askable.{askable, in_utf8, kept}
use Rattle.client_world.proofs.act_text.act_of.Goals as goal

pub returns-in-Some-clause-act : goal.returns-in-Some-clause-act
returns-in-Some-clause-act c =
    kept _ c.in-Some.asked (sym c.in-Some.is ∙ c.in_ok-asked-in-Ok.ensures) c.names_are_utf8.ensures
    ∙ ap (λ d. option_and_then in_utf8 (asked_in d)) c.in-Ok.ensures.exact.1
    ∙ ap asked_by (sym c.in-Ok.ensures.exact.2)
    ∙ ap asked_of c.as_bytes.ensures.value

pub returns-in-Some-clause-askable : goal.returns-in-Some-clause-askable
returns-in-Some-clause-askable c =
    askable c.in-Ok.ensures.exact.0 _ (Some c.in-Some.asked) c.in-Ok.ensures.canonical c.in-Ok.ensures.exact.1 (sym c.in-Some.is ∙ c.in_ok-asked-in-Ok.ensures)
