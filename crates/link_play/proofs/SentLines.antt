-- The lines of messages from clients end with a newline.
use Rattle.std.proofs.Common.{◌≡◌, ℕ, List, subst, sym, refl}
use Rattle.board_links.specs.Answers.{AreLines}
use Rattle.serde_json.specs.Data.{object}
use Rattle.serde_json.specs.Written.{compact_text}
use Rattle.wire_json.specs.ClientText.{client_members, client_text}
use Rattle.wire_json.specs.declared.client.ClientMsg.{ClientMsg}

pub text_ends : (m : ClientMsg) → AreLines (client_text m)
unfolding client_text
text_ends m = (compact_text (object (client_members m)), refl)

pub line_ends : (line : List ℕ) (m : ClientMsg) → line ≡ client_text m → AreLines line
line_ends line m e = subst AreLines (sym e) (text_ends m)
