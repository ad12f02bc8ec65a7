use Rattle.std.proofs.Common.{ap, subst, sym, ◌∙◌}
use Rattle.line_runner.specs.Play.{RunsLine}
use Rattle.link_play.specs.Commands.{command_of}
use Rattle.page_player.specs.Page.{page_doing, page_play}
use Rattle.page_player.specs.PageLines.{Hears, asks_for, step_by}
use Rattle.page_player.proofs.Played.{began_line, page_line}
use Rattle.page_player.proofs.page.PageInterpreter.run_line.Goals as goal

pub returns-in-Hears : goal.returns-in-Hears
returns-in-Hears c = λ s stands.
    subst (λ told. RunsLine page_play page_doing s c.args.line.now c.hear.new.self c.args.text.now.items c.hear.new.text.items told) (sym c.ended.ensures)
    (page_line c.hear.result c.args.self.now c.hear.new.self c.args.line.now c.args.text.now.items c.hear.new.text.items (Hears c.in-Hears.said.now)
    (c.line_of.ensures ∙ ap step_by c.in-Hears.is) c.hear.ensures s stands)

pub returns-in-Asks : goal.returns-in-Asks
returns-in-Asks c = λ s stands.
    subst (λ told. RunsLine page_play page_doing s c.args.line.now c.ask.new.self c.args.text.now.items c.ask.new.text.items told) (sym c.ended-in-Asks.ensures)
    (page_line c.ask.result c.args.self.now c.ask.new.self c.args.line.now c.args.text.now.items c.ask.new.text.items (asks_for (command_of c.in-Asks.command.now))
    (c.line_of.ensures ∙ ap step_by c.in-Asks.is) c.ask.ensures s stands)

pub returns-in-Begins : goal.returns-in-Begins
returns-in-Begins c =
    began_line c.args.self.now c.begin_at.new.self c.args.line.now c.args.text.now.items c.begin_at.new.text.items c.begin_at.result _
    (c.line_of.ensures ∙ ap step_by c.in-Begins.is) c.begin_at.ensures
