use Rattle.std.proofs.Common.{ap, codes, ◌++◌, ◌∙◌}
use Rattle.page_files.specs.Pages.{first_lines}
use Rattle.page_files.proofs.page.lines_up_to_length.Goals as goal

pub returns : goal.returns
returns c =
    c.in_ok-extend_from_slice-2.ensures.items
    ∙ ap (λ lines. lines ++ codes "\r\nContent-Length: ")
    (c.in_ok-extend_from_slice.ensures.items ∙ ap (λ lines. lines ++ c.as_bytes.result.now) c.in_ok-lines.ensures
    ∙ ap (λ kind. first_lines c.args.form ++ kind) c.as_bytes.ensures.value)
