-- The texts of own states have at most so many bytes as the rows of their slots say.
use Rattle.std.proofs.Common.{◌≡◌, ◌≤◌, ◌<◌, ◌+◌, ◌*◌, ◌^◌, ◌&&◌, ℕ, suc, max, Bool, true, false, if◌then◌else◌, nat_le, nat_lt, ℤ, pos, negsuc, IsTrue, List, [], ◌∷◌, ◌++◌, length, map, Option, Some, None, codes, refl, sym, ◌∙◌, arith, lit<, lit≤}
use Rattle.std.specs.Prelude.{cond, decimal, int_le}
use Rattle.std.specs.List.{list_all}
use Rattle.std.specs.Str.{is_utf8}
use Rattle.std.proofs.Math.Nat.{le_trans, lt_of_le_of_lt, mul-le-mul_left, mul-suc}
use Rattle.std.proofs.lemmas.Bool.{and_parts, leb-true, ltb-true}
use Rattle.std.proofs.lemmas.Fmt.{length-decimal-le}
use Rattle.std.proofs.lemmas.List.{length-append}
use Rattle.json.specs.Print.{escape, escape_byte, escape_letter, quoted}
use Rattle.game_sheet.specs.Short.{is_plain, is_short}
use Rattle.game_sheet.specs.declared.args.Arg.{Arg}
use Rattle.game_sheet.specs.declared.args.Arg.TheVariants.{Whole, Text}
use Rattle.game_slots.specs.Slots.{SlotLists, argument_fits, slot_fits, slots_fit, value_fits}
use Rattle.game_slots.specs.Tables.{entry_fits, players_fit, secret_fits, table_fits}
use Rattle.game_slots.specs.declared.rows.ItemKind.{ItemKind}
use Rattle.game_slots.specs.declared.rows.ItemKind.TheVariants.{Number as NumberKind, Text as TextKind}
use Rattle.game_slots.specs.declared.rows.SlotRow.{SlotRow}
use Rattle.game_slots.specs.declared.table.Table.{Table}
use Rattle.open_game.specs.Forms.{list_value}
use Rattle.serde_json.specs.Data.{Data, Members, member, no_members}
use Rattle.serde_json.specs.View.{items_of}
use Rattle.serde_json.specs.Written.{comma_if, compact_text, items_text, members_text}
use Rattle.slot_json.specs.SlotForms.{first_item, kind_fits, members_value, most_fits, row_fits, rows_fit, slot_value, slots_value, value_json}
use Rattle.slot_json.specs.TableForms.{common_form, entry_value, has_slots, layout_fits, players_form, secret_form, table_value, with_part}
use Rattle.slot_json.specs.TextBytes.{HasShortTexts, digits, item_bytes, kind_bytes, most_bytes, number_bytes, object_bytes, part_bytes, rows_bytes, slot_bytes, text_limit}
use Rattle.slot_json.specs.declared.layout.Layout.{Layout}
use Rattle.slot_json.proofs.NameBytes.{name_bytes}
use Rattle.slot_json.proofs.SlotLaws.{is_lone, row_parts, told_fits, told_most, told_value}

-- ---- numbers

few : (k n m : ℕ) → 0 < k → 10 ^ k ≤ 2 ^ 64 → n ≤ m → m < 10 ^ k → length (decimal n) ≤ k
few k n m some fits low below =
    let small : n < 10 ^ k = lt_of_le_of_lt {n = n} {m = m} {k = 10 ^ k} low below in
    length-decimal-le k n some small (omega arith)

pick : (power m count k rest : ℕ) (below : Bool) → nat_lt m power ≡ below → (m < power → count ≤ k) → count ≤ rest → count ≤ (if below then k else rest)
pick power m count k rest true is small other = small (ltb-true m power is)
pick power m count k rest false is small other = other

digits_bound : (n m : ℕ) → n ≤ m → m ≤ 2147483648 → length (decimal n) ≤ digits m
digits_bound n m low big =
    let count = length (decimal n) in
    let last : count ≤ 10 = few 10 n m (lit< tt) (lit≤ tt) low (omega arith) in
    pick 10 m count 1 _ (nat_lt m 10) refl (λ b. few 1 n m (lit< tt) (lit≤ tt) low b)
    (pick 100 m count 2 _ (nat_lt m 100) refl (λ b. few 2 n m (lit< tt) (lit≤ tt) low b)
    (pick 1000 m count 3 _ (nat_lt m 1000) refl (λ b. few 3 n m (lit< tt) (lit≤ tt) low b)
    (pick 10000 m count 4 _ (nat_lt m 10000) refl (λ b. few 4 n m (lit< tt) (lit≤ tt) low b)
    (pick 100000 m count 5 _ (nat_lt m 100000) refl (λ b. few 5 n m (lit< tt) (lit≤ tt) low b)
    (pick 1000000 m count 6 _ (nat_lt m 1000000) refl (λ b. few 6 n m (lit< tt) (lit≤ tt) low b)
    (pick 10000000 m count 7 _ (nat_lt m 10000000) refl (λ b. few 7 n m (lit< tt) (lit≤ tt) low b)
    (pick 100000000 m count 8 _ (nat_lt m 100000000) refl (λ b. few 8 n m (lit< tt) (lit≤ tt) low b)
    (pick 1000000000 m count 9 10 (nat_lt m 1000000000) refl (λ b. few 9 n m (lit< tt) (lit≤ tt) low b) last))))))))

upper_bytes : (greatest : ℤ) (n : ℕ) → int_le (pos n) greatest ≡ true → int_le greatest (pos 2147483647) ≡ true → length (decimal n) ≤ number_bytes greatest
upper_bytes (pos m) n low big =
    let below : n ≤ m = leb-true n m low in
    let most : m ≤ 2147483647 = leb-true m 2147483647 big in
    digits_bound n m below (omega arith)
upper_bytes (negsuc m) n low big = absurd (cc)

lower_bytes : (least : ℤ) (n : ℕ) → int_le least (negsuc n) ≡ true → int_le (negsuc 2147483647) least ≡ true → length (decimal (suc n)) + 1 ≤ number_bytes least
lower_bytes (pos m) n low big = absurd (cc)
lower_bytes (negsuc m) n low big =
    let below : n ≤ m = leb-true n m low in
    let most : m ≤ 2147483647 = leb-true m 2147483647 big in
    let bound : length (decimal (suc n)) ≤ digits (m + 1) = digits_bound (suc n) (m + 1) (omega arith) (omega arith) in
    omega arith

-- ---- texts

two_bytes : (short control : Bool) (letter x y b : ℕ) → control ≡ false → length (cond short (92 ∷ letter ∷ []) (cond control (92 ∷ 117 ∷ 48 ∷ 48 ∷ x ∷ y ∷ []) (b ∷ []))) ≤ 2
two_bytes true control letter x y b is = lit≤ tt
two_bytes false false letter x y b is = lit≤ tt
two_bytes false true letter x y b is = absurd (cc)

no_control : (b : ℕ) (control : Bool) → nat_le 32 b ≡ true → nat_lt b 32 ≡ control → nat_lt b 32 ≡ false
no_control b false plain is = is
no_control b true plain is = absurd (omega (arith, leb-true 32 b plain, ltb-true b 32 is))

byte_bytes : (b : ℕ) → nat_le 32 b ≡ true → length (escape_byte b) ≤ 2
unfolding escape_byte
byte_bytes b plain = two_bytes (nat_lt 0 (escape_letter b)) (nat_lt b 32) (escape_letter b) _ _ b (no_control b (nat_lt b 32) plain refl)

escape_bytes : (bytes : List ℕ) → is_plain bytes ≡ true → length (escape bytes) ≤ 2 * length bytes
escape_bytes [] plain = lit≤ tt
escape_bytes (b ∷ bytes) plain =
    let parts = and_parts (nat_le 32 b) (is_plain bytes) plain in
    rw (length-append (escape_byte b) (escape bytes)) (omega (arith, byte_bytes b parts.0, escape_bytes bytes parts.1))

text_bytes : (text : List ℕ) → is_short text ≡ true → length (quoted text) ≤ 130
text_bytes text own =
    let outer = and_parts (nat_le (length text) 64 && is_plain text) (is_utf8 text) own in
    let inner = and_parts (nat_le (length text) 64) (is_plain text) outer.0 in
    rw (length-append (escape text) (34 ∷ [])) (omega (arith, escape_bytes text inner.1, leb-true (length text) 64 inner.0))

-- ---- items

argument_bytes : (kind : ItemKind) (argument : Arg) → kind_fits kind ≡ true → argument_fits kind argument ≡ true → length (compact_text (value_json (Some argument))) ≤ kind_bytes kind
argument_bytes (NumberKind least greatest) (Whole (pos n)) small fits =
    let high : length (decimal n) ≤ number_bytes greatest =
    upper_bytes greatest n (and_parts (int_le least (pos n)) (int_le (pos n) greatest) fits).1 (and_parts (int_le (negsuc 2147483647) least) (int_le greatest (pos 2147483647)) small).1 in
    omega arith
argument_bytes (NumberKind least greatest) (Whole (negsuc n)) small fits =
    let low : length (decimal (suc n)) + 1 ≤ number_bytes least =
    lower_bytes least n (and_parts (int_le least (negsuc n)) (int_le (negsuc n) greatest) fits).0 (and_parts (int_le (negsuc 2147483647) least) (int_le greatest (pos 2147483647)) small).0 in
    omega arith
argument_bytes (NumberKind least greatest) (Text text) small fits = absurd (cc)
argument_bytes TextKind (Whole z) small fits = absurd (cc)
argument_bytes TextKind (Text text) small fits = text_bytes text fits

null_bytes : (null_too : Bool) (bytes : ℕ) → null_too ≡ true → 4 ≤ (if null_too then max 4 bytes else bytes)
null_bytes true bytes is = omega arith
null_bytes false bytes is = absurd (cc)

more_bytes : (null_too : Bool) (bytes : ℕ) → bytes ≤ (if null_too then max 4 bytes else bytes)
more_bytes true bytes = omega arith
more_bytes false bytes = omega arith

value_bytes : (row : SlotRow) → kind_fits row.kind ≡ true → (value : Option Arg) → value_fits row value ≡ true → length (compact_text (value_json value)) ≤ item_bytes row
value_bytes row small None fits = null_bytes row.null (kind_bytes row.kind) fits
value_bytes row small (Some argument) fits =
    let bytes : length (compact_text (value_json (Some argument))) ≤ kind_bytes row.kind = argument_bytes row.kind argument small fits in
    let more : kind_bytes row.kind ≤ item_bytes row = more_bytes row.null (kind_bytes row.kind) in
    le_trans {n = length (compact_text (value_json (Some argument)))} {m = kind_bytes row.kind} {k = item_bytes row} bytes more

-- ---- lists

-- the text of each own value has at most so many bytes
abbrev AtMost : {A : Type 0} → ℕ → (A → Data) → (A → Bool) → Type 0
AtMost {A = A} most value own = (x : A) → IsTrue (own x) → length (compact_text (value x)) ≤ most

comma_bytes : (later : Bool) → length (comma_if later) ≤ 1
comma_bytes true = lit≤ tt
comma_bytes false = lit≤ tt

one_more : (comma first rest most others : ℕ) → comma ≤ 1 → first ≤ most → rest ≤ others + 1 → comma + (first + rest) ≤ (others + (most + 1)) + 1
one_more comma first rest most others c f r = omega (arith, c, f, r)

items_bytes : {A : Type 0} (most : ℕ) (value : A → Data) (own : A → Bool) → AtMost most value own → (later : Bool) (xs : List A) → list_all own xs ≡ true
    → length (items_text later (items_of (map value xs))) ≤ (most + 1) * length xs + 1
items_bytes most value own each later [] all = omega arith
items_bytes most value own each later (x ∷ xs) all =
    let parts = and_parts (own x) (list_all own xs) all in
    let rest = items_text true (items_of (map value xs)) in
    rw (length-append (comma_if later) (compact_text (value x) ++ rest), length-append (compact_text (value x)) rest, mul-suc (most + 1) (length xs))
    (one_more (length (comma_if later)) (length (compact_text (value x))) (length rest) most ((most + 1) * length xs) (comma_bytes later) (each x parts.0) (items_bytes most value own each true xs parts.1))

-- before the first item stands no comma
first_more : (first rest most others : ℕ) → first ≤ most → rest ≤ others + 1 → (first + rest) + 1 ≤ (others + (most + 1)) + 1
first_more first rest most others f r = omega (arith, f, r)

list_bytes : {A : Type 0} (count most : ℕ) (value : A → Data) (own : A → Bool) → AtMost most value own → (xs : List A) → 1 ≤ count → length xs ≤ count → list_all own xs ≡ true
    → length (compact_text (list_value value xs)) ≤ (most + 1) * count + 1
list_bytes count most value own each [] some few all = let grows = mul-le-mul_left {m = 1} {n = count} (most + 1) some in omega (arith, grows)
list_bytes count most value own each (x ∷ xs) some few all =
    let parts = and_parts (own x) (list_all own xs) all in
    let rest = items_text true (items_of (map value xs)) in
    let here : (length (compact_text (value x)) + length rest) + 1 ≤ ((most + 1) * length xs + (most + 1)) + 1 =
    first_more (length (compact_text (value x))) (length rest) most ((most + 1) * length xs) (each x parts.0) (items_bytes most value own each true xs parts.1) in
    let whole : length (compact_text (value x) ++ rest) ≡ length (compact_text (value x)) + length rest = length-append (compact_text (value x)) rest in
    let counted : (most + 1) * suc (length xs) ≡ (most + 1) * length xs + (most + 1) = mul-suc (most + 1) (length xs) in
    let grows : (most + 1) * suc (length xs) ≤ (most + 1) * count = mul-le-mul_left {m = suc (length xs)} {n = count} (most + 1) few in
    omega arith

-- ---- slots

told_bytes : (row : SlotRow) (lone : Bool) → kind_fits row.kind ≡ true → told_most lone row ≡ true → (items : List (Option Arg)) → told_fits lone row items ≡ true
    → length (compact_text (told_value lone items)) ≤ (if lone then item_bytes row else (item_bytes row + 1) * row.most + 1)
told_bytes row true small most items own = value_bytes row small (first_item items) (is_lone row items most own).fits
told_bytes row false small most items own =
    let outer = and_parts (nat_le 0 (length items) && nat_le (length items) row.most) (list_all (value_fits row) items) own in
    let inner = and_parts (nat_le 0 (length items)) (nat_le (length items) row.most) outer.0 in
    list_bytes row.most (item_bytes row) value_json (value_fits row) (value_bytes row small) items (leb-true 1 row.most most) (leb-true (length items) row.most inner.1) outer.1

slot_value_bytes : (row : SlotRow) → row_fits row ≡ true → (items : List (Option Arg)) → slot_fits row items ≡ true → length (compact_text (slot_value row items)) ≤ slot_bytes row
slot_value_bytes row fits items own = let parts = and_parts (kind_fits row.kind) (most_fits row) fits in told_bytes row row.lone parts.0 parts.1 items own

-- one more member
member_text : (later : Bool) (name : List ℕ) (d : Data) (ms : Members) (named held others : ℕ) → length (quoted name) ≤ named + 2 → length (compact_text d) ≤ held → length (members_text true ms) ≤ others + 1
    → length (members_text later (member name d ms)) ≤ ((named + 4 + held) + others) + 1
member_text later name d ms named held others n h o =
    let rest = compact_text d ++ members_text true ms in
    rw (length-append (comma_if later) (quoted name ++ 58 ∷ rest), length-append (quoted name) (58 ∷ rest), length-append (compact_text d) (members_text true ms))
    (omega (arith, comma_bytes later, n, h, o))

members_bytes : (later : Bool) (names : List (List ℕ)) (rows : List SlotRow) → rows_fit names rows ≡ true → (slots : SlotLists) → slots_fit rows slots ≡ true
    → length (members_text later (members_value names rows slots)) ≤ rows_bytes names rows + 1
members_bytes later [] rows fit slots own = omega arith
members_bytes later (name ∷ names) [] fit slots own = absurd (cc)
members_bytes later (name ∷ names) (row ∷ rows) fit [] own = absurd (cc)
members_bytes later (name ∷ names) (row ∷ rows) fit (items ∷ slots) own =
    let parts = row_parts name names row rows fit in
    let owns = and_parts (slot_fits row items) (slots_fit rows slots) own in
    member_text later name (slot_value row items) (members_value names rows slots) (length name) (slot_bytes row) (rows_bytes names rows)
    (name_bytes name parts.named) (slot_value_bytes row parts.fits items owns.0) (members_bytes true names rows parts.rest slots owns.1)

slots_bytes : (names : List (List ℕ)) (rows : List SlotRow) → rows_fit names rows ≡ true → (slots : SlotLists) → slots_fit rows slots ≡ true → length (compact_text (slots_value names rows slots)) ≤ object_bytes names rows
slots_bytes names rows fit slots own = omega (arith, members_bytes false names rows fit slots own)

-- null is no longer than an object with a member
first_long : (name : List ℕ) (names : List (List ℕ)) (row : SlotRow) (rows : List SlotRow) → 4 ≤ object_bytes (name ∷ names) (row ∷ rows)
first_long name names row rows = omega arith

entry_bytes : (names : List (List ℕ)) (row : SlotRow) (rows : List SlotRow) → rows_fit names (row ∷ rows) ≡ true → (entry : Option SlotLists) → entry_fits (row ∷ rows) entry ≡ true
    → length (compact_text (entry_value names (row ∷ rows) entry)) ≤ object_bytes names (row ∷ rows)
entry_bytes [] row rows fit entry own = absurd (cc)
entry_bytes (name ∷ names) row rows fit None own = first_long name names row rows
entry_bytes (name ∷ names) row rows fit (Some slots) own = slots_bytes (name ∷ names) (row ∷ rows) fit slots own

-- ---- parts

-- a part before others
part_text : (later : Bool) (rows : List SlotRow) (name : List ℕ) (d : Data) (ms : Members) (held others : ℕ) → length (quoted name) ≤ length name + 2 → (has_slots rows ≡ true → length (compact_text d) ≤ held)
    → ((later : Bool) → length (members_text later ms) ≤ others + 1) → length (members_text later (with_part (has_slots rows) name d ms)) ≤ (part_bytes rows name held + others) + 1
part_text later [] name d ms held others n h o = let rest = o later in omega (arith, rest)
part_text later (row ∷ rows) name d ms held others n h o = member_text later name d ms (length name) held others n (h refl) (o true)

common_bytes : (names : List (List ℕ)) (rows : List SlotRow) → rows_fit names rows ≡ true → (slots : SlotLists) → slots_fit rows slots ≡ true → has_slots rows ≡ true → length (compact_text (slots_value names rows slots)) ≤ object_bytes names rows
common_bytes names rows fit slots own there = slots_bytes names rows fit slots own

players_bytes : (names : List (List ℕ)) (rows : List SlotRow) (most : ℕ) → rows_fit names rows ≡ true → (entries : List (Option SlotLists)) → players_fit rows most entries ≡ true → has_slots rows ≡ true
    → length (compact_text (list_value (entry_value names rows) entries)) ≤ (object_bytes names rows + 1) * most + 2
players_bytes names [] most fit entries own there = absurd (cc)
players_bytes names (row ∷ rows) most fit entries own there =
    let outer = and_parts (nat_le 1 (length entries) && nat_le (length entries) most) (list_all (entry_fits (row ∷ rows)) entries) own in
    let inner = and_parts (nat_le 1 (length entries)) (nat_le (length entries) most) outer.0 in
    let some : 1 ≤ length entries = leb-true 1 (length entries) inner.0 in
    let few : length entries ≤ most = leb-true (length entries) most inner.1 in
    let enough : 1 ≤ most = omega arith in
    omega (arith, list_bytes most (object_bytes names (row ∷ rows)) (entry_value names (row ∷ rows)) (entry_fits (row ∷ rows)) (entry_bytes names row rows fit) entries enough few outer.1)

secret_bytes : (names : List (List ℕ)) (rows : List SlotRow) → rows_fit names rows ≡ true → (secret : Option SlotLists) → secret_fits rows secret ≡ true → has_slots rows ≡ true
    → length (compact_text (entry_value names rows secret)) ≤ object_bytes names rows
secret_bytes names [] fit secret own there = absurd (cc)
secret_bytes names (row ∷ rows) fit None own there = entry_bytes names row rows fit None refl
secret_bytes names (row ∷ rows) fit (Some slots) own there = entry_bytes names row rows fit (Some slots) own

-- ---- a state

none_more : (later : Bool) → length (members_text later no_members) ≤ 0 + 1
none_more later = lit≤ tt

pub table_bytes : (l : Layout) → layout_fits l ≡ true → (t : Table) → table_fits l.rows t ≡ true → length (compact_text (table_value l t)) ≤ most_bytes l
table_bytes l fit t own =
    let fits = and_parts (rows_fit l.common l.rows.common && rows_fit l.players l.rows.players) (rows_fit l.secret l.rows.secret) fit in
    let firsts = and_parts (rows_fit l.common l.rows.common) (rows_fit l.players l.rows.players) fits.0 in
    let outer = and_parts (slots_fit l.rows.common t.common && players_fit l.rows.players l.rows.most_seats t.players) (secret_fits l.rows.secret t.secret) own in
    let inner = and_parts (slots_fit l.rows.common t.common) (players_fit l.rows.players l.rows.most_seats t.players) outer.0 in
    let common = object_bytes l.common l.rows.common in
    let players = (object_bytes l.players l.rows.players + 1) * l.rows.most_seats + 2 in
    let secret = object_bytes l.secret l.rows.secret in
    let c = part_bytes l.rows.common (codes "common") common in
    let p = part_bytes l.rows.players (codes "players") players in
    let s = part_bytes l.rows.secret (codes "secret") secret in
    let last : (later : Bool) → length (members_text later (with_part (has_slots l.rows.secret) (codes "secret") ((secret_form l).value t.secret) no_members)) ≤ (s + 0) + 1 =
    λ later. part_text later l.rows.secret (codes "secret") ((secret_form l).value t.secret) no_members secret 0 (name_bytes (codes "secret") refl) (secret_bytes l.secret l.rows.secret fits.1 t.secret outer.1) none_more in
    let middle : (later : Bool) → length (members_text later (with_part (has_slots l.rows.players) (codes "players") ((players_form l).value t.players)
    (with_part (has_slots l.rows.secret) (codes "secret") ((secret_form l).value t.secret) no_members))) ≤ (p + (s + 0)) + 1 =
    λ later. part_text later l.rows.players (codes "players") ((players_form l).value t.players) _ players (s + 0) (name_bytes (codes "players") refl) (players_bytes l.players l.rows.players l.rows.most_seats firsts.1 t.players inner.1) last in
    let all = part_text false l.rows.common (codes "common") ((common_form l).value t.common) _ common (p + (s + 0)) (name_bytes (codes "common") refl) (common_bytes l.common l.rows.common firsts.0 t.common inner.0) middle in
    omega (arith, all)

pub short_texts : (l : Layout) (fits : Bool) → fits ≡ nat_le (most_bytes l) text_limit → layout_fits l ≡ true → fits ≡ true → HasShortTexts l
short_texts l fits value fit is table own =
    le_trans {n = length (compact_text (table_value l table))} {m = most_bytes l} {k = text_limit} (table_bytes l fit table own) (leb-true (most_bytes l) text_limit (sym value ∙ is))
