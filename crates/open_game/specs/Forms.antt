-- Forms of parts of a state, and of a state that is an object of one or two named parts and no others.
use Rattle.std.specs.Prelude.{ℕ, Bool, true, ◌&&◌, if◌then◌else◌, nat_le, is_some, List, [], ◌∷◌, length, map, Option, Some, None, option_map, option_and_then}
use Rattle.std.specs.List.{list_all}
use Rattle.json_tree.specs.Names.{extra_in}
use Rattle.open_game.specs.Form.{Form}
use Rattle.serde_json.specs.Data.{Data, null, number, unsigned, array, object, member, no_members}
use Rattle.serde_json.specs.Find.{as_array, as_null, as_number, as_u64, get}
use Rattle.serde_json.specs.View.{items_of}
use Rattle.std.specs.Option.{option_map_or}
use Rattle.json_tree.specs.Fields.{read_each}

-- the greatest number of 32 bits
abbrev pub greatest : ℕ
greatest = 4294967295

-- ---- whole numbers up to a greatest one

abbrev pub natural_read : ℕ → Data → Option ℕ
natural_read most v = option_and_then (λ n. if nat_le n most then Some n else None) (option_and_then as_u64 (as_number v))

abbrev pub natural : ℕ → Form ℕ
natural most = record { own = λ n. nat_le n most; value = λ n. number (unsigned n); read = natural_read most }

-- ---- a seat up to a greatest one, or none

abbrev pub is_seat : ℕ → Option ℕ → Bool
is_seat most found = option_map_or (λ seat. nat_le seat most) found true

abbrev pub seat_value : Option ℕ → Data
seat_value found = option_map_or (λ seat. number (unsigned seat)) found null

-- null is no seat
abbrev pub seat_read : ℕ → Data → Option (Option ℕ)
seat_read most v = if is_some (as_null v) then Some None else option_map Some (natural_read most v)

abbrev pub seat_or_none : ℕ → Form (Option ℕ)
seat_or_none most = record { own = is_seat most; value = seat_value; read = seat_read most }

-- ---- lists of a least to a greatest length, each item in a form

abbrev pub is_between : ℕ → ℕ → ℕ → Bool
is_between least most n = nat_le least n && nat_le n most

abbrev pub counted : {A : Type 0} → ℕ → ℕ → List A → Option (List A)
counted least most xs = if is_between least most (length xs) then Some xs else None

abbrev pub list_value : {A : Type 0} → (A → Data) → List A → Data
list_value value xs = array (items_of (map value xs))

abbrev pub list_read : {A : Type 0} → ℕ → ℕ → (Data → Option A) → Data → Option (List A)
list_read least most read v = option_and_then (counted least most) (option_and_then (read_each read) (as_array v))

abbrev pub list_of : {A : Type 0} → ℕ → ℕ → Form A → Form (List A)
list_of least most form = record {
  own = λ xs. is_between least most (length xs) && list_all form.own xs;
  value = list_value form.value;
  read = list_read least most form.read;
}

-- ---- objects

-- what a member holds, where it is there
abbrev pub member_read : {A : Type 0} → (Data → Option A) → List ℕ → Data → Option A
member_read read name v = option_and_then read (get name v)

-- a state of one part, by how it is made of the part and how the part is taken from it
abbrev pub object_of_one : {A G : Type 0} → List ℕ → Form A → (A → G) → (G → A) → Form G
object_of_one name form make part = record {
  own = λ g. form.own (part g);
  value = λ g. object (member name (form.value (part g)) no_members);
  read = λ v. if extra_in (name ∷ []) v then None else option_map make (member_read form.read name v);
}

-- a state that is made of two parts, where both are there
abbrev pub both : {A B G : Type 0} → (A → B → G) → Option A → Option B → Option G
both make (Some first) (Some second) = Some (make first second)
both make first second = None

-- a state of two parts, whose names rise in byte order
abbrev pub object_of_two : {A B G : Type 0} → List ℕ → Form A → List ℕ → Form B → (A → B → G) → (G → A) → (G → B) → Form G
object_of_two one first two second make a_of b_of = record {
  own = λ g. first.own (a_of g) && second.own (b_of g);
  value = λ g. object (member one (first.value (a_of g)) (member two (second.value (b_of g)) no_members));
  read = λ v. if extra_in (one ∷ two ∷ []) v then None else both make (member_read first.read one v) (member_read second.read two v);
}
