-- How a file of the page is handed out, by its name in the folder.
use Rattle.std.specs.Prelude.{ℕ, ◌++◌, ◌-◌, ◌&&◌, ◌||◌, Bool, false, nat_le, nat_lt, if◌then◌else◌, List, [], ◌∷◌, length, take, drop, bytes_eq, codes}
use Rattle.std.specs.List.{ends_with, list_all}
use Rattle.page_files.specs.Heads.{anywhere}
use Rattle.page_files.specs.declared.form.Form.{Form}
use Rattle.page_files.specs.declared.form.Form.TheVariants as form

-- 0 to 9, or a to f
abbrev pub is_digit : ℕ → Bool
is_digit b = (nat_le 48 b && nat_le b 57) || (nat_le 97 b && nat_le b 102)

abbrev pub begins_digits : List ℕ → Bool
begins_digits bytes = if nat_lt (length bytes) 16 then false else list_all is_digit (take 16 bytes)

abbrev pub begins_dot : List ℕ → Bool
begins_dot bytes = bytes_eq (take 1 bytes) (codes ".")

-- a dot, sixteen such digits, and a dot
abbrev pub begins_sum : List ℕ → Bool
begins_sum bytes = begins_dot bytes && (begins_digits (drop 1 bytes) && begins_dot (drop 17 bytes))

-- a name that has a sum of what its file holds
abbrev pub has_sum : List ℕ → Bool
has_sum name = anywhere begins_sum name

abbrev pub is_packed : List ℕ → Bool
is_packed name = bytes_eq (drop (length name - 3) name) (codes ".gz")

-- A file whose name has a sum never changes, so a browser keeps it; where the name ends so, it is packed. Every other file is asked for at each visit.
abbrev pub form_of : List ℕ → Form
form_of name = if has_sum name then (if is_packed name then form.Packed else form.Kept) else form.Visited

abbrev pub unpacked_name : Form → List ℕ → List ℕ
unpacked_name form.Visited name = name
unpacked_name form.Kept name = name
unpacked_name form.Packed name = take (length name - 3) name

-- the name by which a file is asked for: none for the page itself, and that of a packed one without its end
abbrev pub asked_name : List ℕ → List ℕ
asked_name name = if bytes_eq name (codes "index.html") then [] else unpacked_name (form_of name) name

abbrev pub path_of : List ℕ → List ℕ
path_of name = codes "/" ++ asked_name name
