-- What is written for a message to a client is a form of the message, with its newline and without.
use Rattle.std.proofs.Common.{◌≤◌, ◌++◌, ◌∙◌}
use Rattle.std.proofs.lemmas.Str.{IsUtf8-append}
use Rattle.serde_json.specs.Data.{object, depth}
use Rattle.serde_json.specs.Read.{max_depth}
use Rattle.serde_json.specs.Written.{compact_text}
use Rattle.json_back.specs.Told.{AreTold}
use Rattle.json_back.proofs.Telling.{row_told, told_reads}
use Rattle.json_tree.specs.Lines.{newline}
use Rattle.json_tree.proofs.LineLaws.{newline_utf8}
use Rattle.json_tree.proofs.Newlines.{read_newline}
use Rattle.wire_json.specs.ServerReading.{ServerFits, IsServerForm}
use Rattle.wire_json.specs.ServerText.{server_members}
use Rattle.wire_json.specs.declared.server.ServerMsg.{ServerMsg}
use Rattle.wire_json.proofs.ServerTelling.{names_rise}

pub is_server_form : (m : ServerMsg) → ServerFits m → AreTold (server_members m) → depth (object (server_members m)) ≤ max_depth
    → IsServerForm (compact_text (object (server_members m))) m
is_server_form m fits told shallow =
    let row = row_told (server_members m) (names_rise m) shallow told in
    (record { utf8 = row.utf8; is = told_reads (object (server_members m)) row shallow; no_float = row.whole }, fits)

pub is_line_form : (m : ServerMsg) → ServerFits m → AreTold (server_members m) → depth (object (server_members m)) ≤ max_depth
    → IsServerForm (compact_text (object (server_members m)) ++ newline) m
is_line_form m fits told shallow =
    let form = is_server_form m fits told shallow in (
      record {
        utf8 = IsUtf8-append (compact_text (object (server_members m))) newline form.0.utf8 newline_utf8;
        is = read_newline (compact_text (object (server_members m))) ∙ form.0.is;
        no_float = form.0.no_float;
      },
      fits,
    )
