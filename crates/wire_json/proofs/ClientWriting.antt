-- What is written for a message from a client reads back as it: its object is writable, and nests a few levels deep.
use Rattle.std.proofs.Common.{◌≡◌, ◌≤◌, ◌++◌, length, lit≤, inl, Some, None, IsUtf8, refl, ◌∙◌, arith}
use Rattle.std.proofs.lemmas.Str.{IsUtf8-append}
use Rattle.serde_json.specs.Data.{object, depth}
use Rattle.serde_json.specs.Read.{max_depth}
use Rattle.serde_json.specs.Written.{compact_text}
use Rattle.json_tree.specs.Lines.{IsTextOf, newline}
use Rattle.json_tree.specs.Writable.{IsWritable, MembersAreWritable}
use Rattle.json_tree.proofs.LineLaws.{newline_utf8}
use Rattle.json_tree.proofs.Newlines.{read_newline}
use Rattle.json_tree.proofs.WritableRows.{ascii, fixed}
use Rattle.json_back.proofs.Texts.{written_utf8, whole}
use Rattle.json_back.proofs.Written.{written_reads}
use Rattle.game_sheet.specs.EventNames.{event_text}
use Rattle.game_sheet.specs.declared.act.EventKind.{EventKind}
use Rattle.game_sheet.specs.declared.act.EventKind.TheVariants.{EndTurn, EndPhase, SetPhase, EndStage, SetStage, EndGame}
use Rattle.sheet_json.proofs.ArgumentLaws.{arguments_writable, flat}
use Rattle.wire_json.specs.Asking.{aim, asked_members, MayAim, AskedFits, AimIsUtf8, AskedIsUtf8}
use Rattle.wire_json.specs.ClientText.{client_members, ClientFits, ClientIsUtf8, IsForm}
use Rattle.wire_json.specs.declared.asked.Asked.{Asked}
use Rattle.wire_json.specs.declared.asked.Asked.TheVariants.{Move, Event, Undo, Redo}
use Rattle.wire_json.specs.declared.asked.AskedTo.{AskedTo}
use Rattle.wire_json.specs.declared.asked.AskedTo.TheVariants.{Nothing, Seat, Name}
use Rattle.wire_json.specs.declared.client.ClientMsg.{ClientMsg}
use Rattle.wire_json.specs.declared.client.ClientMsg.TheVariants.{Games, Matches, Look, Create, Join, Rename, Leave, Sync, Act, Takeover}
use Rattle.wire_json.specs.declared.protocol.Protocol.TheVariants.{One, Two}
use Rattle.wire_json.proofs.Texts.{key_utf8, match_utf8}

-- ---- acts

event_utf8 : (kind : EventKind) → IsUtf8 (event_text kind)
event_utf8 EndTurn = ascii (event_text EndTurn) refl
event_utf8 EndPhase = ascii (event_text EndPhase) refl
event_utf8 SetPhase = ascii (event_text SetPhase) refl
event_utf8 EndStage = ascii (event_text EndStage) refl
event_utf8 SetStage = ascii (event_text SetStage) refl
event_utf8 EndGame = ascii (event_text EndGame) refl

aim_writable : (kind : EventKind) (to : AskedTo) → MayAim kind to → AimIsUtf8 to → IsWritable (aim to)
aim_writable kind Nothing h u = tt
aim_writable kind (Name name) h u = u
aim_writable EndTurn (Seat seat) h u = omega arith
aim_writable EndPhase (Seat seat) h u = absurd h
aim_writable SetPhase (Seat seat) h u = absurd h
aim_writable EndStage (Seat seat) h u = absurd h
aim_writable SetStage (Seat seat) h u = absurd h
aim_writable EndGame (Seat seat) h u = absurd h

pub asked_writable : (a : Asked) → AskedFits a → AskedIsUtf8 a → MembersAreWritable (asked_members a)
asked_writable (Move name args) h u = fixed (asked_members (Move name args)) refl (arguments_writable args h.1, (ascii _ refl, (u, tt)))
asked_writable (Event kind to) h u = fixed (asked_members (Event kind to)) refl (event_utf8 kind, (ascii _ refl, (aim_writable kind to h u, tt)))
asked_writable Undo h u = fixed (asked_members Undo) refl (ascii _ refl, tt)
asked_writable Redo h u = fixed (asked_members Redo) refl (ascii _ refl, tt)

aim_flat : (to : AskedTo) → depth (aim to) ≡ 0
aim_flat Nothing = refl
aim_flat (Seat seat) = refl
aim_flat (Name name) = refl

pub asked_shallow : (a : Asked) → depth (object (asked_members a)) ≤ 2
asked_shallow (Move name args) = rw (flat args) (lit≤ tt)
asked_shallow (Event kind to) = rw (aim_flat to) (lit≤ tt)
asked_shallow Undo = lit≤ tt
asked_shallow Redo = lit≤ tt

-- ---- messages

writable : (m : ClientMsg) → ClientFits m → ClientIsUtf8 m → MembersAreWritable (client_members m)
writable Games h u = fixed (client_members Games) refl (ascii _ refl, tt)
writable (Matches game) h u = fixed (client_members (Matches game)) refl (u, (ascii _ refl, tt))
writable (Look name) h u = fixed (client_members (Look name)) refl (match_utf8 name h, (ascii _ refl, tt))
writable (Create game seats) h u = fixed (client_members (Create game seats)) refl (u, (omega arith, (ascii _ refl, tt)))
writable (Join name player seat) h u = fixed (client_members (Join name player seat)) refl (match_utf8 name h.0, (u, (omega arith, (ascii _ refl, tt))))
writable (Rename key name player seat) h u = fixed (client_members (Rename key name player seat)) refl (key_utf8 key, (match_utf8 name h.1, (u, (omega arith, (ascii _ refl, tt)))))
writable (Leave key name seat) h u = fixed (client_members (Leave key name seat)) refl (key_utf8 key, (match_utf8 name h.1, (omega arith, (ascii _ refl, tt))))
writable (Sync name None One) h u = fixed (client_members (Sync name None One)) refl (tt, (match_utf8 name h.0, (tt, (ascii _ refl, tt))))
writable (Sync name None Two) h u = fixed (client_members (Sync name None Two)) refl (tt, (match_utf8 name h.0, (omega arith, (tt, (ascii _ refl, tt)))))
writable (Sync name (Some claim) One) h u = fixed (client_members (Sync name (Some claim) One)) refl (key_utf8 claim.1, (match_utf8 name h.0, (omega arith, (ascii _ refl, tt))))
writable (Sync name (Some claim) Two) h u = fixed (client_members (Sync name (Some claim) Two)) refl (key_utf8 claim.1, (match_utf8 name h.0, (omega arith, (omega arith, (ascii _ refl, tt)))))
writable (Act s) h u = fixed (client_members (Act s)) refl (asked_writable s.asked h.0 u, (key_utf8 s.key, (match_utf8 s.name h.2, (omega arith, (omega arith, (ascii _ refl, tt))))))
writable (Takeover name seat) h u = fixed (client_members (Takeover name seat)) refl (match_utf8 name h.0, (omega arith, (ascii _ refl, tt)))

shallow : (m : ClientMsg) → depth (object (client_members m)) ≤ max_depth
shallow Games = lit≤ tt
shallow (Matches game) = lit≤ tt
shallow (Look name) = lit≤ tt
shallow (Create game seats) = lit≤ tt
shallow (Join name player seat) = lit≤ tt
shallow (Rename key name player seat) = lit≤ tt
shallow (Leave key name seat) = lit≤ tt
shallow (Sync name None One) = lit≤ tt
shallow (Sync name None Two) = lit≤ tt
shallow (Sync name (Some claim) One) = lit≤ tt
shallow (Sync name (Some claim) Two) = lit≤ tt
shallow (Act s) = let few = asked_shallow s.asked in omega arith
shallow (Takeover name seat) = lit≤ tt

-- ---- the line

pub is_form : (m : ClientMsg) → ClientFits m → ClientIsUtf8 m → length (compact_text (object (client_members m))) ≤ 65536 → IsForm (compact_text (object (client_members m))) m
is_form m fits u short =
    let w = writable m fits u in
    let text : IsTextOf (compact_text (object (client_members m))) (client_members m) = record {
      utf8 = written_utf8 (object (client_members m)) w;
      is = written_reads (object (client_members m)) w (shallow m);
      no_float = whole (object (client_members m)) w;
    } in
    (inl (record { short = short; text = text }), fits)

pub is_line_form : (m : ClientMsg) → ClientFits m → ClientIsUtf8 m → length (compact_text (object (client_members m)) ++ newline) ≤ 65536 → IsForm (compact_text (object (client_members m)) ++ newline) m
is_line_form m fits u short =
    let w = writable m fits u in
    let text : IsTextOf (compact_text (object (client_members m)) ++ newline) (client_members m) = record {
      utf8 = IsUtf8-append _ _ (written_utf8 (object (client_members m)) w) newline_utf8;
      is = read_newline _ ∙ written_reads (object (client_members m)) w (shallow m);
      no_float = whole (object (client_members m)) w;
    } in
    (inl (record { short = short; text = text }), fits)
