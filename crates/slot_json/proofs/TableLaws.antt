-- The form of states keeps the laws of forms.
use Rattle.std.proofs.Common.{◌≡◌, ◌&&◌, ◌||◌, ◌==◌, ℕ, Bool, true, false, not, if◌then◌else◌, List, [], ◌∷◌, length, Option, Some, None, option_map, refl, ap, ◌∙◌, sym, codes}
use Rattle.std.specs.Prelude.{IfSome}
use Rattle.std.proofs.Math.Dec.{eqb-suc-zero}
use Rattle.std.proofs.lemmas.Bool.{and_from, and_parts}
use Rattle.json.proofs.Printed.Utf8.{IsUtf8-are_ascii}
use Rattle.json_tree.proofs.Rows.{canonical_member, row_is}
use Rattle.json_tree.specs.Canonical.{IsOrdered, MembersAreCanonical}
use Rattle.json_tree.specs.Names.{has_extra}
use Rattle.json_tree.specs.Writable.{IsWritable, MembersAreWritable}
use Rattle.open_game.proofs.FormLaws.{list_laws, weaker}
use Rattle.open_game.specs.Form.{Form, FormLaws, IsReadFrom, StateLaws}
use Rattle.open_game.specs.Forms.{list_read, list_value}
use Rattle.game_slots.specs.Slots.{SlotLists, slots_fit}
use Rattle.game_slots.specs.Tables.{entry_fits, players_fit, secret_fits, table_fits}
use Rattle.game_slots.specs.declared.rows.SlotRow.{SlotRow}
use Rattle.game_slots.specs.declared.table.Table.{Table}
use Rattle.serde_json.specs.Data.{Data, null, boolean, number, string, array, object, Members, no_members}
use Rattle.serde_json.specs.Find.{get_member}
use Rattle.serde_json.specs.Written.{has_float, members_have_float}
use Rattle.slot_json.specs.SlotForms.{members_read, rows_fit, slots_form, slots_read, slots_value}
use Rattle.slot_json.specs.TableForms.{common_form, entry_form, entry_read, entry_value, has_slots, layout_fits, part_names, part_read, parts_value, players_form, secret_form, table_form, table_read, table_value, three, with_part}
use Rattle.slot_json.specs.declared.layout.Layout.{Layout}
use Rattle.slot_json.proofs.SlotLaws.{slots_laws}

abbrev Entries : Type 0
Entries = List (Option SlotLists)

-- ---- slots that may be hidden

module _ (names : List (List ℕ)) (rows : List SlotRow) (fit : rows_fit names rows ≡ true) where
  abbrev shown_laws : FormLaws (slots_form names rows)
  shown_laws = slots_laws names rows fit

  entry_float_free : (entry : Option SlotLists) → has_float (entry_value names rows entry) ≡ false
  entry_float_free None = refl
  entry_float_free (Some slots) = shown_laws.float_free slots

  entry_back : (entry : Option SlotLists) → entry_fits rows entry ≡ true → entry_read names rows (entry_value names rows entry) ≡ Some entry
  entry_back None own = refl
  entry_back (Some slots) own = ap (option_map Some) (shown_laws.reads_back slots own)

  entry_written : (entry : Option SlotLists) → entry_fits rows entry ≡ true → IsWritable (entry_value names rows entry)
  entry_written None own = tt
  entry_written (Some slots) own = shown_laws.written slots own

  some_reads : (v : Data) (o : Option SlotLists) → IfSome o (IsReadFrom (slots_form names rows) v) → IfSome (option_map Some o) (IsReadFrom (entry_form names rows) v)
  some_reads v None is = tt
  some_reads v (Some slots) is = is

  entry_reads : (v : Data) → IfSome (entry_read names rows v) (IsReadFrom (entry_form names rows) v)
  entry_reads null = (refl, λ c. refl)
  entry_reads (boolean b) = tt
  entry_reads (number n) = tt
  entry_reads (string s) = tt
  entry_reads (array ds) = tt
  entry_reads (object ms) = some_reads (object ms) (members_read names rows ms) (shown_laws.reads (object ms))

  pub entry_laws : FormLaws (entry_form names rows)
  entry_laws = record { float_free = entry_float_free; written = entry_written; reads_back = entry_back; reads = entry_reads }

-- ---- a part, which is there where it has slots

-- what a member holds
abbrev held : Bool → Data → Option Data
held true d = Some d
held false d = None

-- what was read of a part is own, and the part's member is what is written of it
abbrev IsPart : {A : Type 0} → (A → Bool) → (A → Data) → Bool → List ℕ → Members → A → Type 0
IsPart own value there name ms x = (own x ≡ true) × (MembersAreCanonical ms → get_member name ms ≡ held there (value x))

-- the laws of a part
record PartLaws {A : Type 0} (own : A → Bool) (value : A → Data) (read : Data → Option A) (absent : A) (there : Bool) : Type 0 where
  float_free : (x : A) → has_float (value x) ≡ false
  written : (x : A) → own x ≡ true → IsWritable (value x)
  back : (x : A) → own x ≡ true → part_read there read absent (held there (value x)) ≡ Some x
  reads : (name : List ℕ) (ms : Members) (found : Option Data) → get_member name ms ≡ found → IfSome (part_read there read absent found) (IsPart own value there name ms)

-- a member that was read has an own value, and is what is written of it
member_reads : {A : Type 0} (form : Form A) (laws : FormLaws form) (name : List ℕ) (ms : Members) (d : Data) → get_member name ms ≡ Some d → IfSome (form.read d) (IsPart form.own form.value true name ms)
member_reads form laws name ms d is = weaker (form.read d) (IsReadFrom form d) _ (λ x reads. (reads.0, λ c. is ∙ ap Some (sym (reads.1 (canonical_member name ms d c is))))) (laws.reads d)

there_reads : {A : Type 0} (form : Form A) (laws : FormLaws form) (absent : A) (name : List ℕ) (ms : Members) (found : Option Data) → get_member name ms ≡ found → IfSome (part_read true form.read absent found) (IsPart form.own form.value true name ms)
there_reads form laws absent name ms None is = tt
there_reads form laws absent name ms (Some d) is = member_reads form laws name ms d is

away_reads : {A : Type 0} (own : A → Bool) (value : A → Data) (read : Data → Option A) (absent : A) → own absent ≡ true → (name : List ℕ) (ms : Members) (found : Option Data) → get_member name ms ≡ found
    → IfSome (part_read false read absent found) (IsPart own value false name ms)
away_reads own value read absent fits name ms None is = (fits, λ c. is)
away_reads own value read absent fits name ms (Some d) is = tt

there_laws : {A : Type 0} (form : Form A) (laws : FormLaws form) (absent : A) → PartLaws form.own form.value form.read absent true
there_laws form laws absent = record {
  float_free = laws.float_free;
  written = laws.written;
  back = laws.reads_back;
  reads = there_reads form laws absent;
}

as_entry : (row : SlotRow) (rows : List SlotRow) (secret : Option SlotLists) → secret_fits (row ∷ rows) secret ≡ true → entry_fits (row ∷ rows) secret ≡ true
as_entry row rows None own = refl
as_entry row rows (Some slots) own = own

as_secret : (row : SlotRow) (rows : List SlotRow) (secret : Option SlotLists) → entry_fits (row ∷ rows) secret ≡ true → secret_fits (row ∷ rows) secret ≡ true
as_secret row rows None own = refl
as_secret row rows (Some slots) own = own

module _ (names : List (List ℕ)) where
  common_laws : (rows : List SlotRow) → rows_fit names rows ≡ true → PartLaws (slots_fit rows) (slots_value names rows) (slots_read names rows) [] (has_slots rows)
  common_laws [] fit = record {
    float_free = (slots_laws names [] fit).float_free;
    written = (slots_laws names [] fit).written;
    back = none;
    reads = away_reads (slots_fit []) (slots_value names []) (slots_read names []) [] refl;
  }
    where
      none : (slots : SlotLists) → slots_fit [] slots ≡ true → Some [] ≡ Some slots
      none [] own = refl
      none (items ∷ slots) own = absurd (cc)
  common_laws (row ∷ rows) fit = there_laws (slots_form names (row ∷ rows)) (slots_laws names (row ∷ rows) fit) []

  players_laws : (rows : List SlotRow) (most : ℕ) → rows_fit names rows ≡ true
      → PartLaws (players_fit rows most) (list_value (entry_value names rows)) (list_read 1 most (entry_read names rows)) [] (has_slots rows)
  players_laws [] most fit = record {
    float_free = (list_laws (entry_form names []) (entry_laws names [] fit) 1 most).float_free;
    written = write;
    back = none;
    reads = away_reads (players_fit [] most) (list_value (entry_value names [])) (list_read 1 most (entry_read names [])) [] refl;
  }
    where
      write : (entries : Entries) → (length entries == 0) ≡ true → IsWritable (list_value (entry_value names []) entries)
      write [] own = tt
      write (entry ∷ entries) own = let not_none = eqb-suc-zero (length entries) in absurd (cc)

      none : (entries : Entries) → (length entries == 0) ≡ true → Some [] ≡ Some entries
      none [] own = refl
      none (entry ∷ entries) own = let not_none = eqb-suc-zero (length entries) in absurd (cc)
  players_laws (row ∷ rows) most fit = let laws = list_laws (entry_form names (row ∷ rows)) (entry_laws names (row ∷ rows) fit) 1 most in record {
    float_free = laws.float_free;
    written = laws.written;
    back = laws.reads_back;
    reads = there_reads _ laws [];
  }

  secret_laws : (rows : List SlotRow) → rows_fit names rows ≡ true → PartLaws (secret_fits rows) (entry_value names rows) (entry_read names rows) None (has_slots rows)
  secret_laws [] fit = record {
    float_free = (entry_laws names [] fit).float_free;
    written = write;
    back = none;
    reads = away_reads (secret_fits []) (entry_value names []) (entry_read names []) None refl;
  }
    where
      write : (secret : Option SlotLists) → secret_fits [] secret ≡ true → IsWritable (entry_value names [] secret)
      write None own = tt
      write (Some slots) own = absurd (cc)

      none : (secret : Option SlotLists) → secret_fits [] secret ≡ true → Some None ≡ Some secret
      none None own = refl
      none (Some slots) own = absurd (cc)
  secret_laws (row ∷ rows) fit =
      let laws : FormLaws (entry_form names (row ∷ rows)) = entry_laws names (row ∷ rows) fit in
      record {
        float_free = laws.float_free;
        written = λ secret own. laws.written secret (as_entry row rows secret own);
        back = λ secret own. laws.reads_back secret (as_entry row rows secret own);
        reads = λ name ms found is. weaker (part_read true (entry_read names (row ∷ rows)) None found) (IsPart (entry_fits (row ∷ rows)) (entry_value names (row ∷ rows)) true name ms)
            (IsPart (secret_fits (row ∷ rows)) (entry_value names (row ∷ rows)) true name ms)
            (λ secret is_part. (as_secret row rows secret is_part.0, is_part.1)) (there_reads (entry_form names (row ∷ rows)) laws None name ms found is);
      }

-- ---- the object of the parts

-- the members of those parts that are there
record AreParts (a b c : Bool) (x y z : Data) : Type 0 where
  ordered : IsOrdered (parts_value a b c x y z)
  known : has_extra part_names (parts_value a b c x y z) ≡ false
  common : get_member (codes "common") (parts_value a b c x y z) ≡ held a x
  players : get_member (codes "players") (parts_value a b c x y z) ≡ held b y
  secret : get_member (codes "secret") (parts_value a b c x y z) ≡ held c z

are_parts : (a b c : Bool) (x y z : Data) → AreParts a b c x y z
are_parts true true true x y z = record { ordered = ((refl, (refl, tt)), ((refl, tt), (tt, tt))); known = refl; common = refl; players = refl; secret = refl }
are_parts true true false x y z = record { ordered = ((refl, tt), (tt, tt)); known = refl; common = refl; players = refl; secret = refl }
are_parts true false true x y z = record { ordered = ((refl, tt), (tt, tt)); known = refl; common = refl; players = refl; secret = refl }
are_parts true false false x y z = record { ordered = (tt, tt); known = refl; common = refl; players = refl; secret = refl }
are_parts false true true x y z = record { ordered = ((refl, tt), (tt, tt)); known = refl; common = refl; players = refl; secret = refl }
are_parts false true false x y z = record { ordered = (tt, tt); known = refl; common = refl; players = refl; secret = refl }
are_parts false false true x y z = record { ordered = (tt, tt); known = refl; common = refl; players = refl; secret = refl }
are_parts false false false x y z = record { ordered = tt; known = refl; common = refl; players = refl; secret = refl }

parts_written : (a b c : Bool) (x y z : Data) → IsWritable x → IsWritable y → IsWritable z → MembersAreWritable (parts_value a b c x y z)
parts_written true true true x y z p q r =
    ((refl, (refl, tt)), p, ((refl, tt), q, (tt, r, tt, IsUtf8-are_ascii (codes "secret") refl), IsUtf8-are_ascii (codes "players") refl), IsUtf8-are_ascii (codes "common") refl)
parts_written true true false x y z p q r = ((refl, tt), p, (tt, q, tt, IsUtf8-are_ascii (codes "players") refl), IsUtf8-are_ascii (codes "common") refl)
parts_written true false true x y z p q r = ((refl, tt), p, (tt, r, tt, IsUtf8-are_ascii (codes "secret") refl), IsUtf8-are_ascii (codes "common") refl)
parts_written true false false x y z p q r = (tt, p, tt, IsUtf8-are_ascii (codes "common") refl)
parts_written false true true x y z p q r = ((refl, tt), q, (tt, r, tt, IsUtf8-are_ascii (codes "secret") refl), IsUtf8-are_ascii (codes "players") refl)
parts_written false true false x y z p q r = (tt, q, tt, IsUtf8-are_ascii (codes "players") refl)
parts_written false false true x y z p q r = (tt, r, tt, IsUtf8-are_ascii (codes "secret") refl)
parts_written false false false x y z p q r = tt

part_float_free : (there : Bool) (name : List ℕ) (d : Data) (ms : Members) → has_float d ≡ false → members_have_float ms ≡ false → members_have_float (with_part there name d ms) ≡ false
part_float_free true name d ms free rest = ap (λ has. has || members_have_float ms) free ∙ rest
part_float_free false name d ms free rest = rest

-- ---- a state

module _ (l : Layout) (fit : layout_fits l ≡ true) where
  abbrev fits : (rows_fit l.common l.rows.common && rows_fit l.players l.rows.players ≡ true) × (rows_fit l.secret l.rows.secret ≡ true)
  fits = and_parts (rows_fit l.common l.rows.common && rows_fit l.players l.rows.players) (rows_fit l.secret l.rows.secret) fit

  abbrev firsts : (rows_fit l.common l.rows.common ≡ true) × (rows_fit l.players l.rows.players ≡ true)
  firsts = and_parts (rows_fit l.common l.rows.common) (rows_fit l.players l.rows.players) fits.0

  abbrev common : PartLaws (slots_fit l.rows.common) (common_form l).value (common_form l).read [] (has_slots l.rows.common)
  common = common_laws l.common l.rows.common firsts.0

  abbrev players : PartLaws (players_fit l.rows.players l.rows.most_seats) (players_form l).value (players_form l).read [] (has_slots l.rows.players)
  players = players_laws l.players l.rows.players l.rows.most_seats firsts.1

  abbrev secret : PartLaws (secret_fits l.rows.secret) (secret_form l).value (secret_form l).read None (has_slots l.rows.secret)
  secret = secret_laws l.secret l.rows.secret fits.1

  abbrev members_of : Table → Members
  members_of t = parts_value (has_slots l.rows.common) (has_slots l.rows.players) (has_slots l.rows.secret) ((common_form l).value t.common) ((players_form l).value t.players) ((secret_form l).value t.secret)

  abbrev found : (t : Table) → AreParts (has_slots l.rows.common) (has_slots l.rows.players) (has_slots l.rows.secret) ((common_form l).value t.common) ((players_form l).value t.players) ((secret_form l).value t.secret)
  found t = are_parts (has_slots l.rows.common) (has_slots l.rows.players) (has_slots l.rows.secret) ((common_form l).value t.common) ((players_form l).value t.players) ((secret_form l).value t.secret)

  -- what table_fits says
  record Owns (t : Table) : Type 0 where
    own_common : slots_fit l.rows.common t.common ≡ true
    own_players : players_fit l.rows.players l.rows.most_seats t.players ≡ true
    own_secret : secret_fits l.rows.secret t.secret ≡ true

  owns : (t : Table) → table_fits l.rows t ≡ true → Owns t
  owns t own =
      let outer = and_parts (slots_fit l.rows.common t.common && players_fit l.rows.players l.rows.most_seats t.players) (secret_fits l.rows.secret t.secret) own in
      let inner = and_parts (slots_fit l.rows.common t.common) (players_fit l.rows.players l.rows.most_seats t.players) outer.0 in
      record { own_common = inner.0; own_players = inner.1; own_secret = outer.1 }

  three_read : (ms : Members) (extra : Bool) (o : Option SlotLists) (p : Option Entries) (q : Option (Option SlotLists)) → has_extra part_names ms ≡ extra
      → IfSome o (IsPart (slots_fit l.rows.common) (common_form l).value (has_slots l.rows.common) (codes "common") ms)
      → IfSome p (IsPart (players_fit l.rows.players l.rows.most_seats) (players_form l).value (has_slots l.rows.players) (codes "players") ms)
      → IfSome q (IsPart (secret_fits l.rows.secret) (secret_form l).value (has_slots l.rows.secret) (codes "secret") ms)
      → IfSome (if not extra then three o p q else None) (IsReadFrom (table_form l) (object ms))
  three_read ms true o p q extra a b c = tt
  three_read ms false None p q extra a b c = tt
  three_read ms false (Some x) None q extra a b c = tt
  three_read ms false (Some x) (Some y) None extra a b c = tt
  three_read ms false (Some x) (Some y) (Some z) extra a b c =
      let is = found (record { common = x; players = y; secret = z }) in (
        and_from (slots_fit l.rows.common x && players_fit l.rows.players l.rows.most_seats y) (secret_fits l.rows.secret z) (and_from (slots_fit l.rows.common x) (players_fit l.rows.players l.rows.most_seats y) a.0 b.0) c.0,
        λ canonical. ap object (sym (row_is part_names ms (members_of (record { common = x; players = y; secret = z })) canonical is.ordered extra is.known
            (a.1 canonical ∙ sym is.common, (b.1 canonical ∙ sym is.players, (c.1 canonical ∙ sym is.secret, tt))))),
      )

  table_reads : (v : Data) → IfSome (table_read l v) (IsReadFrom (table_form l) v)
  table_reads null = tt
  table_reads (boolean b) = tt
  table_reads (number n) = tt
  table_reads (string s) = tt
  table_reads (array ds) = tt
  table_reads (object ms) = three_read ms (has_extra part_names ms)
      (part_read (has_slots l.rows.common) (common_form l).read [] (get_member (codes "common") ms))
      (part_read (has_slots l.rows.players) (players_form l).read [] (get_member (codes "players") ms))
      (part_read (has_slots l.rows.secret) (secret_form l).read None (get_member (codes "secret") ms)) refl
      (common.reads (codes "common") ms (get_member (codes "common") ms) refl)
      (players.reads (codes "players") ms (get_member (codes "players") ms) refl)
      (secret.reads (codes "secret") ms (get_member (codes "secret") ms) refl)

  abbrev read_of : Bool → Option Data → Option Data → Option Data → Option Table
  read_of extra d e f = if not extra then three (part_read (has_slots l.rows.common) (common_form l).read [] d) (part_read (has_slots l.rows.players) (players_form l).read [] e) (part_read (has_slots l.rows.secret) (secret_form l).read None f) else None

  table_back : (t : Table) → table_fits l.rows t ≡ true → table_read l (table_value l t) ≡ Some t
  table_back t own =
      let is = owns t own in
      let at = found t in
      let ms = members_of t in
      let kept_players = held (has_slots l.rows.players) ((players_form l).value t.players) in
      let kept_secret = held (has_slots l.rows.secret) ((secret_form l).value t.secret) in
      ap (λ extra. read_of extra (get_member (codes "common") ms) (get_member (codes "players") ms) (get_member (codes "secret") ms)) at.known
      ∙ ap (λ d. read_of false d (get_member (codes "players") ms) (get_member (codes "secret") ms)) at.common
      ∙ ap (λ e. read_of false (held (has_slots l.rows.common) ((common_form l).value t.common)) e (get_member (codes "secret") ms)) at.players
      ∙ ap (λ f. read_of false (held (has_slots l.rows.common) ((common_form l).value t.common)) kept_players f) at.secret
      ∙ ap (λ o. three o (part_read (has_slots l.rows.players) (players_form l).read [] kept_players) (part_read (has_slots l.rows.secret) (secret_form l).read None kept_secret)) (common.back t.common is.own_common)
      ∙ ap (λ o. three (Some t.common) o (part_read (has_slots l.rows.secret) (secret_form l).read None kept_secret)) (players.back t.players is.own_players)
      ∙ ap (λ o. three (Some t.common) (Some t.players) o) (secret.back t.secret is.own_secret)

  pub table_float_free : (t : Table) → has_float (table_value l t) ≡ false
  table_float_free t =
      part_float_free (has_slots l.rows.common) (codes "common") ((common_form l).value t.common) _ (common.float_free t.common)
      (part_float_free (has_slots l.rows.players) (codes "players") ((players_form l).value t.players) _ (players.float_free t.players)
      (part_float_free (has_slots l.rows.secret) (codes "secret") ((secret_form l).value t.secret) no_members (secret.float_free t.secret) refl))

  table_written : (t : Table) → table_fits l.rows t ≡ true → IsWritable (table_value l t)
  table_written t own =
      let is = owns t own in
      parts_written (has_slots l.rows.common) (has_slots l.rows.players) (has_slots l.rows.secret) _ _ _
      (common.written t.common is.own_common) (players.written t.players is.own_players) (secret.written t.secret is.own_secret)

  pub table_laws : StateLaws (table_form l)
  table_laws = record { laws = record { float_free = table_float_free; written = table_written; reads_back = table_back; reads = table_reads }; object = λ t. refl }
