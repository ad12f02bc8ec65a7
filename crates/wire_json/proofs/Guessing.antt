-- A line that is the text of a message is a form of it.
use Rattle.std.proofs.Common.{◌≡◌, ◌≤◌, ◌++◌, ℕ, List, [], length, sym, ap, ◌∙◌, subst}
use Rattle.serde_json.specs.Data.{object}
use Rattle.serde_json.specs.Written.{compact_text}
use Rattle.wire_json.specs.ClientText.{client_members, ClientFits, ClientIsUtf8, IsForm}
use Rattle.wire_json.specs.declared.client.ClientMsg.{ClientMsg}
use Rattle.wire_json.proofs.ClientWriting.{is_form}

pub written : (line text old : List ℕ) (m : ClientMsg) → text ≡ old ++ compact_text (object (client_members m)) → old ≡ [] → ClientFits m → ClientIsUtf8 m → text ≡ line → length line ≤ 65536 → IsForm line m
written line text old m appended none fits utf8 same short =
    let is : compact_text (object (client_members m)) ≡ line = sym (appended ∙ ap (λ l. l ++ compact_text (object (client_members m))) none) ∙ same in
    subst (λ l. IsForm l m) is (is_form m fits utf8 (subst (λ l. length l ≤ 65536) (sym is) short))
