use Rattle.std.proofs.Common.{◌≡◌, ◌++◌, None, OnOk, sym, ap, ◌∙◌, subst}
use Rattle.serde_json.specs.Written.{compact_text}
use Rattle.game_sheet.specs.MatchName.{Name}
use Rattle.wire_json.specs.ServerText.{text as server_text}
use Rattle.wire_json.specs.declared.protocol.Protocol.TheVariants.{One}
use Rattle.wire_json.specs.declared.server.ServerMsg.TheVariants.{Sync}
use Rattle.journal_replay.specs.ReplayText.{shown_text}
use Rattle.journal_replay.proofs.Asking.{shown_of}
use Rattle.journal_replay.proofs.room_text.put_match.Goals as goal

pub returns : goal.returns
returns c m st is =
    let s = shown_of m in
    let serial = sym (c.serial.ensures.value ∙ ap (λ (n : Name). n.serial) is) in
    let line = c.deref.ensures.value ∙ c.in_ok-line.ensures m st serial ∙ ap (λ (n : Name). server_text (Sync n None One s)) (sym is) in
    let put = c.put_shown-put.ensures s line in
    subst (λ (n : Name). OnOk c.put_shown-put.result (c.put_shown-put.new.text.items ≡ c.args.text.now.items ++ shown_text n (compact_text s))) is put
