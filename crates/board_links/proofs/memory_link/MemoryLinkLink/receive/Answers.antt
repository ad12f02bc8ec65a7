use Rattle.std.proofs.Common.{◌∙◌, ap, arith, ◌++◌, ◌∷◌, []}
use Rattle.board_links.specs.contracts.memory_link.MemoryLink.{the_view}
use Rattle.board_links.proofs.Scripts.{hears_by, script_at}
use Rattle.board_links.proofs.memory_link.MemoryLinkLink.receive.Goals as goal

pub returns-clause-hears : goal.returns-clause-hears
returns-clause-hears g c =
    rw (← c.self.view_is) (hears_by c.in-Ok.answer c.in-Ok.told (the_view c.self.inside) _ _ _ _ _ c.in-Ok.ensures.answer c.in-Ok.ensures.told
    (script_at c.in-Ok.answer c.self.inside.script.items c.self.inside.progress.place c.progress_after-self-inside.result.place c.len.result c.progress_after-self-inside.ensures.place (omega arith))
    (c.push_reserved.ensures.items ∙ ap (λ told. told ++ c.in-Ok.told ∷ []) c.reserve.ensures.items)
    c.progress_after-self-inside.ensures.calls c.progress_after-self-inside.ensures.faults c.progress_after-self-inside.ensures.stage)
