-- How the parts of a state are written as JSON and read: a number or a text as itself, a list item by item, and as null what is missing or hidden.
use Rattle.std.specs.Prelude.{ℕ, ◌-◌, ◌^◌, ◌&&◌, Bool, true, if◌then◌else◌, List, [], ◌∷◌, codes, is_some, option_and_then, option_map, Option, Some, None}
use Rattle.std.specs.List.{list_all}
use Rattle.game_sheet.specs.Short.{is_short}
use Rattle.json_tree.specs.Fields.{read_each}
use Rattle.json_tree.specs.Names.{extra_in}
use Rattle.open_game.specs.Form.{Form}
use Rattle.open_game.specs.Forms.{list_value, member_read, natural}
use Rattle.secret_strip.specs.declared.split.Split.{Split}
use Rattle.serde_json.specs.Data.{Data, null, string, object, member, no_members}
use Rattle.serde_json.specs.Find.{as_array, as_null}
use Rattle.std.specs.Option.{option_map_or}

-- a function and what it is given, where both are there
abbrev pub apply : {A B : Type 0} → Option (A → B) → Option A → Option B
apply (Some f) (Some x) = Some (f x)
apply f x = None

-- what has a form and passes a test besides
abbrev pub where_holds : {A : Type 0} → (A → Bool) → Form A → Form A
where_holds test form = record form { own = λ x. test x && form.own x; read = λ v. option_and_then (λ x. if test x then Some x else None) (form.read v) }

-- a number of 32 bits
abbrev pub count_form : Form ℕ
count_form = natural (2 ^ 32 - 1)

-- a short text
abbrev pub read_text : Data → Option (List ℕ)
read_text (string text) = if is_short text then Some text else None
read_text _ = None

abbrev pub text_form : Form (List ℕ)
text_form = record { own = is_short; value = string; read = read_text }

-- null where there is none
abbrev pub or_none : {A : Type 0} → Form A → Form (Option A)
or_none form = record {
  own = λ found. option_map_or form.own found true;
  value = λ found. option_map_or form.value found null;
  read = λ v. if is_some (as_null v) then Some None else option_map Some (form.read v);
}

-- a list, item by item
abbrev pub each : {A : Type 0} → Form A → Form (List A)
each form = record { own = list_all form.own; value = list_value form.value; read = λ v. option_and_then (read_each form.read) (as_array v) }

-- what is read of an object without a member of another name
abbrev pub read_object : {A : Type 0} → List (List ℕ) → (Data → Option A) → Data → Option A
read_object names read v = if extra_in names v then None else read v

-- a split state: what is common, an entry for each player, and what is secret
abbrev pub split_form : {C S P : Type 0} → Form C → Form (List (Option P)) → Form (Option S) → Form (Split C S P)
split_form common players secret = record {
  own = λ g. common.own g.common && secret.own g.secret && players.own g.players;
  value = λ g. object (member (codes "common") (common.value g.common) (member (codes "players") (players.value g.players) (member (codes "secret") (secret.value g.secret) no_members)));
  read = read_object (codes "common" ∷ codes "players" ∷ codes "secret" ∷ []) (λ v. apply (apply (apply (Some (λ c ps s. record { common = c; players = ps; secret = s }))
      (member_read common.read (codes "common") v)) (member_read players.read (codes "players") v)) (member_read secret.read (codes "secret") v));
}
