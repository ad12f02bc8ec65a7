-- What the head of a request asks for.
use Rattle.std.specs.Prelude.{ℕ, ◌==◌, ◌||◌, Bool, false, nat_lt, if◌then◌else◌, List, [], ◌∷◌, length, take, drop, position, bytes_eq, codes, Option, Some, None}
use Rattle.std.specs.Str.{str_eq_ignore_ascii_case}

-- these bytes begin with a word, whatever the case of its letters
abbrev pub begins : List ℕ → List ℕ → Bool
begins word bytes = if nat_lt (length bytes) (length word) then false else str_eq_ignore_ascii_case (take (length word) bytes) word

-- these bytes begin so at some place
unfoldable pub anywhere : (List ℕ → Bool) → List ℕ → Bool
anywhere starts [] = false
anywhere starts (b ∷ bytes) = starts (b ∷ bytes) || anywhere starts bytes

-- a word stands somewhere in these bytes, whatever the case of its letters
abbrev pub holds : List ℕ → List ℕ → Bool
holds word bytes = anywhere (begins word) bytes

-- a head that has a line `Upgrade:` asks for another protocol, as for a WebSocket
abbrev pub asks_socket : List ℕ → Bool
asks_socket head = holds (codes "\nupgrade:") head

abbrev pub asks_get : List ℕ → Bool
asks_get head = bytes_eq (take 4 head) (codes "GET ")

-- a blank ends a path, and so does the question mark before a query
abbrev pub ends_path : ℕ → Bool
ends_path b = (b == 32) || (b == 63)

abbrev pub up_to : List ℕ → Option ℕ → List ℕ
up_to bytes None = bytes
up_to bytes (Some place) = take place bytes

-- the path that a GET asks for, without its query
abbrev pub path_in : List ℕ → List ℕ
path_in head = up_to (drop 4 head) (position ends_path (drop 4 head))
