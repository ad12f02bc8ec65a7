use Rattle.std.proofs.Common.{◌≡◌, List, ℕ, ◌++◌, ◌+◌, ◌-◌, None, length, refl, ap, ◌∙◌, arith}
use Rattle.serde_json.specs.Data.{null}
use Rattle.serde_json.specs.Written.{compact_text}
use Rattle.wire_json.specs.ServerText.{text as server_text}
use Rattle.wire_json.specs.declared.protocol.Protocol.TheVariants.{One}
use Rattle.wire_json.specs.declared.server.ServerMsg.TheVariants.{Sync}
use Rattle.journal_replay.proofs.Cutting.{blank_size, cut, front, line_size}
use Rattle.journal_replay.proofs.line.put_view.Goals as goal

pub overflow_sub-begin : goal.overflow_sub-begin
overflow_sub-begin c =
    let name = c.args.name.now in
    let blank = blank_size name c.put_sync.new.out.items (c.in_ok-put_sync.ensures.text null refl ∙ ap (λ (l : List ℕ). l ++ server_text (Sync name None One null)) c.new-blank.ensures.items) in
    omega (arith, blank, c.len-begin.ensures)

pub overflow_sub-line : goal.overflow_sub-line
overflow_sub-line c = let line = line_size c.args.name.now c.args.line.now c.requires.0 c.requires.1 in omega (arith, line)

pub slice_bounds-extend_from_slice-count : goal.slice_bounds-extend_from_slice-count
slice_bounds-extend_from_slice-count c =
    let name = c.args.name.now in
    let blank = blank_size name c.put_sync.new.out.items (c.in_ok-put_sync.ensures.text null refl ∙ ap (λ (l : List ℕ). l ++ server_text (Sync name None One null)) c.new-blank.ensures.items) in
    let line = line_size name c.args.line.now c.requires.0 c.requires.1 in
    omega (arith, blank, line, c.len-begin.ensures)

pub slice_bounds-extend_from_slice-start : goal.slice_bounds-extend_from_slice-start
slice_bounds-extend_from_slice-start c =
    let name = c.args.name.now in
    let blank = blank_size name c.put_sync.new.out.items (c.in_ok-put_sync.ensures.text null refl ∙ ap (λ (l : List ℕ). l ++ server_text (Sync name None One null)) c.new-blank.ensures.items) in
    let line = line_size name c.args.line.now c.requires.0 c.requires.1 in
    omega (arith, blank, line, c.len-begin.ensures)

pub returns : goal.returns
returns c s is =
    let name = c.args.name.now in
    let blank = blank_size name c.put_sync.new.out.items (c.in_ok-put_sync.ensures.text null refl ∙ ap (λ (l : List ℕ). l ++ server_text (Sync name None One null)) c.new-blank.ensures.items) in
    let line = line_size name c.args.line.now s is in
    let begin : c.len-begin.result - 20 ≡ length (front name) = omega (arith, blank, c.len-begin.ensures) in
    let end : length c.args.line.now - 16 ≡ length (front name) + length (compact_text s) = omega (arith, line) in
    c.in_ok-extend_from_slice.ensures.items ∙ ap (λ (l : List ℕ). c.args.out.now.items ++ l) (cut name c.args.line.now s (c.len-begin.result - 20) (length c.args.line.now - 16) is begin end)
