-- The parts of each message read back from their texts.
use Rattle.std.proofs.Common.{◌≡◌, ◌≤◌, ◌<◌, ◌^◌, ◌-◌, ℕ, List, true, false, Option, None, Some, Ok, Err, IsUtf8, codes, refl, sym, ap, ◌∙◌, subst, arith}
use Rattle.std.specs.Prelude.{Result, OnOk}
use Rattle.json.proofs.Printed.Utf8.{are_ascii, IsUtf8-are_ascii}
use Rattle.serde_json.specs.Data.{Data, string, array, member, no_members, depth}
use Rattle.serde_json.specs.Read.{max_depth, read}
use Rattle.serde_json.specs.Written.{compact_text, has_float}
use Rattle.game_sheet.specs.MatchName.{Name}
use Rattle.game_sheet.specs.declared.act.Bye.{Bye}
use Rattle.hex.specs.Hex.{encode_lower}
use Rattle.json_back.specs.Told.{IsTold, AreTold}
use Rattle.json_back.proofs.Telling.{has_row_names, read_told, writable_told, row_told}
use Rattle.json_tree.specs.Writable.{IsWritable, ItemsAreWritable}
use Rattle.sheet_json.specs.Seats.{natural, natural_or_null, IsWithin}
use Rattle.wire_json.specs.MatchText.{match_text, IsName}
use Rattle.wire_json.specs.RowText.{row_data, rows_data}
use Rattle.wire_json.specs.ServerText.{field_or_null, names_data, parts_data, server_members}
use Rattle.wire_json.specs.ClientText.{place_members}
use Rattle.wire_json.specs.declared.match_row.MatchRow.{MatchRow}
use Rattle.wire_json.specs.declared.protocol.Protocol.{Protocol}
use Rattle.wire_json.specs.declared.protocol.Protocol.TheVariants.{One, Two}
use Rattle.wire_json.specs.declared.reason.Reason.{Reason}
use Rattle.wire_json.specs.declared.refusal.Member.{Member}
use Rattle.wire_json.specs.declared.refusal.Refusal.{Refusal}
use Rattle.wire_json.specs.RefusalText.{refusal_field}
use Rattle.wire_json.specs.declared.server.ServerMsg.{ServerMsg}
use Rattle.wire_json.specs.declared.server.ServerMsg.TheVariants as to_client
use Rattle.wire_json.proofs.PlainWords.{bye_ascii, reason_plain, refusal_ascii, member_ascii}
use Rattle.wire_json.proofs.Texts.{key_utf8, match_utf8}

abbrev Within : Data → Type 0
Within d = depth d ≤ max_depth → IsTold d

written : (d : Data) → IsWritable d → Within d
written d h = λ deep. writable_told d h

word : (s : List ℕ) → are_ascii s ≡ true → Within (string s)
word s h = written (string s) (IsUtf8-are_ascii s h)

count : (n : ℕ) → n ≤ 4294967295 → Within (natural n)
count n h = written (natural n) (omega arith)

count_or_null : (most : ℕ) (n : Option ℕ) → most ≤ 4294967295 → IsWithin most n → Within (natural_or_null n)
count_or_null most None m h = written (natural_or_null None) tt
count_or_null most (Some n) m h = count n (omega arith)

name_told : (name : Name) → IsName name → Within (string (match_text name))
name_told name h = written (string (match_text name)) (match_utf8 name h)

-- ---- the lobby

pub games_told : (names : List (List ℕ)) → ItemsAreWritable (names_data names) → AreTold (server_members (to_client.Games names))
games_told names h = (written (array (names_data names)) h, (word (codes "games") refl, tt))

pub matches_told : (rows : List MatchRow) → ItemsAreWritable (rows_data rows) → AreTold (server_members (to_client.Matches rows))
matches_told rows h = (written (array (rows_data rows)) h, (word (codes "matches") refl, tt))

pub match_told : (row : MatchRow) → IsWritable (row_data row) → AreTold (server_members (to_client.Match row))
match_told row h = (written (row_data row) h, (word (codes "match") refl, tt))

pub created_told : (name : Name) → IsName name → AreTold (server_members (to_client.Created name))
created_told name h = (name_told name h, (word (codes "created") refl, tt))

pub joined_told : (key : List ℕ) (name : Name) (seat : ℕ) → IsName name → seat ≤ 255 → AreTold (server_members (to_client.Joined key name seat))
joined_told key name seat h s = (written (string (encode_lower key)) (key_utf8 key), (name_told name h, (count seat (omega arith), (word (codes "joined") refl, tt))))

pub place_told : (name : Name) (seat : ℕ) (kind : List ℕ) → IsName name → seat ≤ 255 → IsUtf8 kind → AreTold (place_members name seat kind)
place_told name seat kind h s u = (name_told name h, (count seat (omega arith), (written (string kind) u, tt)))

-- ---- the stream

pub sync_told : (name : Name) (seat : Option ℕ) (protocol : Protocol) (snapshot : Data) → IsName name → IsWithin 255 seat → Within snapshot
    → AreTold (server_members (to_client.Sync name seat protocol snapshot))
sync_told name seat One snapshot h s w = (name_told name h, (count_or_null 255 seat (omega arith) s, (w, (word (codes "sync") refl, tt))))
sync_told name seat Two snapshot h s w = (name_told name h, (count 2 (omega arith), (count_or_null 255 seat (omega arith) s, (w, (word (codes "sync") refl, tt)))))

pub update_told : (ctx entry g : Data) (at : ℕ) → Within ctx → Within entry → Within g → at ≤ 4294967295 → AreTold (server_members (to_client.Update ctx entry g at))
update_told ctx entry g at c e s n = (c, (e, (s, (count at n, (word (codes "update") refl, tt)))))

parts_told : (gone put : Data) → Within gone → Within put → Within (parts_data gone put)
parts_told gone put n p = λ deep. row_told (member (codes "gone") gone (member (codes "put") put no_members)) refl deep (n, (p, tt))

pub change_told : (ctx entry gone put : Data) (at : ℕ) → Within ctx → Within entry → Within gone → Within put → at ≤ 4294967295
    → AreTold (server_members (to_client.Change ctx entry gone put at))
change_told ctx entry gone put at c e n p s = (c, (e, (parts_told gone put n p, (count at s, (word (codes "change") refl, (count (at - 1) (omega arith), tt))))))

pub ok_told : (at ticket : ℕ) → at ≤ 4294967295 → ticket ≤ 4294967295 → AreTold (server_members (to_client.Ok at ticket))
ok_told at ticket n t = (count at n, (count ticket t, (word (codes "ok") refl, tt)))

pub no_told : (at : ℕ) (reason : Reason) (ticket : ℕ) → at ≤ 4294967295 → ticket ≤ 4294967295 → AreTold (server_members (to_client.No at reason ticket))
no_told at reason ticket n t = (count at n, (word _ (reason_plain reason).ascii, (count ticket t, (word (codes "no") refl, tt))))

pub again_told : (ticket : Option ℕ) → IsWithin 4294967295 ticket → AreTold (server_members (to_client.Again ticket))
again_told ticket t = (count_or_null 4294967295 ticket (omega arith) t, (word (codes "again") refl, tt))

field_told : (field : Option Member) → Within (field_or_null field)
field_told None = written (field_or_null None) tt
field_told (Some field) = word _ (member_ascii field)

pub refused_told : (refusal : Refusal) → AreTold (server_members (to_client.Refused refusal))
refused_told refusal = (field_told (refusal_field refusal), (word _ (refusal_ascii refusal), (word (codes "refused") refl, tt)))

pub bye_told : (why : Bye) → AreTold (server_members (to_client.Bye why))
bye_told why = (word (codes "bye") refl, (word _ (bye_ascii why), tt))

-- ---- any message

pub names_rise : (m : ServerMsg) → has_row_names (server_members m) ≡ true
names_rise (to_client.Games names) = refl
names_rise (to_client.Matches rows) = refl
names_rise (to_client.Match row) = refl
names_rise (to_client.Created name) = refl
names_rise (to_client.Joined key name seat) = refl
names_rise (to_client.Renamed name seat) = refl
names_rise (to_client.Left name seat) = refl
names_rise (to_client.Asked name seat) = refl
names_rise (to_client.Sync name seat One snapshot) = refl
names_rise (to_client.Sync name seat Two snapshot) = refl
names_rise (to_client.Update ctx entry g at) = refl
names_rise (to_client.Change ctx entry gone put at) = refl
names_rise (to_client.Ok at ticket) = refl
names_rise (to_client.No at reason ticket) = refl
names_rise (to_client.Again ticket) = refl
names_rise (to_client.Refused refusal) = refl
names_rise (to_client.Bye why) = refl

-- ---- a part

-- a part's text, as a tree writes it
pub text_told : (d e : Data) (t : List ℕ) → e ≡ d → has_float d ≡ false → (has_float e ≡ false → t ≡ compact_text e) → IsUtf8 t → (depth e ≤ max_depth → read t ≡ Some e)
    → depth d ≤ max_depth → IsTold d
text_told d e t same whole text utf8 reads deep =
    let is : t ≡ compact_text d = text (subst (λ x. has_float x ≡ false) (sym same) whole) ∙ ap compact_text same in
    let back : read t ≡ Some e = reads (subst (λ x. depth x ≤ max_depth) (sym same) deep) in
    read_told d (subst IsUtf8 is utf8) (ap read (sym is) ∙ back ∙ ap Some same) whole

-- ---- where a call went well

pub on_ok : {T E : Type 0} {P : Type 0} (r : Result T E) → P → OnOk r P
on_ok (Ok x) p = p
on_ok (Err e) p = tt

pub on_ok_of : {T E : Type 0} {P Q : Type 0} (r : Result T E) → OnOk r P → (P → Q) → OnOk r Q
on_ok_of (Ok x) p f = f p
on_ok_of (Err e) p f = tt

pub on_ok_two : {T E : Type 0} {P Q S : Type 0} (r : Result T E) → OnOk r P → OnOk r Q → (P → Q → S) → OnOk r S
on_ok_two (Ok x) p q f = f p q
on_ok_two (Err e) p q f = tt

pub short : (n : ℕ) → n < 2 ^ 32 → n ≤ 4294967295
short n h = omega arith

pub a_byte : (n : ℕ) → n < 2 ^ 8 → n ≤ 255
a_byte n h = omega arith
