-- The change that a payload is the text of; none where it is the text of no change.
use Rattle.std.specs.Prelude.{◌≡◌, ◌≤◌, length, IsUtf8, ℕ, List, if◌then◌else◌, codes, bytes_eq, Option, Some, None, option_map, option_and_then, Result, Ok, Err}
use Rattle.std.specs.Result.{result_ok}
use Rattle.serde_json.specs.Data.{Data, object, Members}
use Rattle.serde_json.specs.Find.{get}
use Rattle.json_tree.specs.Fields.{text_in, natural_in}
use Rattle.json_tree.specs.Lines.{text_read}
use Rattle.json_tree.specs.declared.lines.LineFault.{LineFault}
use Rattle.any_game.specs.AnyRules.{any_rules, named}
use Rattle.any_game.specs.GameKind.{GameKind}
use Rattle.wire_json.specs.Acts.{asked_in}
use Rattle.hex.specs.Hex.{IsBytes}
use Rattle.wire_json.specs.Asking.{AskedFits, AskedIsUtf8}
use Rattle.wire_json.specs.KeyText.{IsKey, key_from, lower_hex}
use Rattle.room_changes.specs.declared.change.Change.{Change}
use Rattle.room_changes.specs.declared.change.Change.TheVariants as change
use Rattle.change_text.specs.Payload.{payload}

abbrev pub Found : Type 0
Found = Option (Change GameKind)

-- a text, and a number up to 255, under a name
abbrev pub text_under : List ℕ → Data → Option (List ℕ)
text_under name d = result_ok (text_in (get name d))

abbrev pub small_under : List ℕ → Data → Option ℕ
small_under name d = result_ok (natural_in 255 (get name d))

-- the change that an object says, by its members of the names that are looked for
abbrev pub create_in : Data → Found
create_in d =
    option_and_then (λ seats. option_and_then (λ seed. option_map (λ game. change.Create game seats seed) (option_and_then named (text_under (codes "game") d))) (option_and_then (lower_hex 32) (text_under (codes "seed") d))) (small_under (codes "seats") d)

abbrev pub key_under : Data → Option (List ℕ)
key_under d = option_and_then key_from (text_under (codes "key") d)

abbrev pub join_in : Data → Found
join_in d = option_and_then (λ seat. option_and_then (λ key. option_map (λ name. change.Join seat name key) (text_under (codes "name") d)) (key_under d)) (small_under (codes "seat") d)

abbrev pub rename_in : Data → Found
rename_in d = option_and_then (λ seat. option_and_then (λ key. option_map (λ name. change.Rename seat key name) (text_under (codes "name") d)) (key_under d)) (small_under (codes "seat") d)

abbrev pub leave_in : Data → Found
leave_in d = option_and_then (λ seat. option_map (λ key. change.Leave seat key) (key_under d)) (small_under (codes "seat") d)

abbrev pub act_in : Data → Found
act_in d = option_and_then (λ seat. option_map (λ asked. change.Act seat asked) (option_and_then asked_in (get (codes "act") d))) (small_under (codes "seat") d)

unfoldable pub change_in : Data → Found
change_in d = option_and_then (λ kind.
    if bytes_eq kind (codes "act") then act_in d
    else if bytes_eq kind (codes "create") then create_in d
    else if bytes_eq kind (codes "join") then join_in d
    else if bytes_eq kind (codes "rename") then rename_in d
    else if bytes_eq kind (codes "leave") then leave_in d
    else if bytes_eq kind (codes "clear") then Some change.Clear
    else None) (text_under (codes "kind") d)

-- a change is what is read where its text is the one that was read
abbrev pub change_of_line : List ℕ → Result Members LineFault → Found
change_of_line text (Ok ms) = option_and_then (λ c. if bytes_eq (payload any_rules c) text then Some c else None) (change_in (object ms))
change_of_line text (Err fault) = None

unfoldable pub change_read : List ℕ → Found
change_read text = change_of_line text (text_read text)

-- what the types of a change and its call see to, so that its text reads back
abbrev pub IsReadable : Change GameKind → Type 0
IsReadable (change.Create game seats seed) = (named (any_rules game).sheet.name ≡ Some game) × (seats ≤ 255) × (length seed ≡ 32) × IsBytes seed
IsReadable (change.Join seat name key) = (seat ≤ 255) × IsUtf8 name × IsKey key
IsReadable (change.Rename seat key name) = (seat ≤ 255) × IsUtf8 name × IsKey key
IsReadable (change.Leave seat key) = (seat ≤ 255) × IsKey key
IsReadable change.Clear = Unit {0}
IsReadable (change.Act seat asked) = (seat ≤ 255) × AskedFits asked × AskedIsUtf8 asked
