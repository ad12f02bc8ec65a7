-- The path of the file that keeps a room's changes, by the words of a call of the program.
use Rattle.std.specs.Prelude.{ℕ, if◌then◌else◌, ◌&&◌, nat_le, List, [], ◌∷◌, length, Option, Some, None, bytes_eq, codes, String, string_bytes}

-- behind a first word, of 1 to 4,096 bytes
abbrev pub path_by : List ℕ → List ℕ → Option (List ℕ)
path_by word path = if bytes_eq word (codes "kept") && nat_le 1 (length path) && nat_le (length path) 4096 then Some path else None

abbrev pub kept_path : {A : Type 0} → List (String A) → Option (List ℕ)
kept_path [] = None
kept_path (word ∷ []) = None
kept_path (word ∷ path ∷ []) = path_by (string_bytes word) (string_bytes path)
kept_path (word ∷ path ∷ more ∷ words) = None
