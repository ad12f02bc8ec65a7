-- The lines of a script that are in form, and the step that each asks for. Words are parted by exactly one blank, and numbers are decimal,
-- without sign and without leading zeros. Empty lines and lines that begin with # ask for nothing.
use Rattle.std.specs.Prelude.{ℕ, ◌+◌, ◌-◌, ◌*◌, ◌==◌, ◌&&◌, nat_le, List, [], ◌∷◌, length, take, drop, position, Option, Some, None, option_map, option_and_then, codes, bytes_eq, if◌then◌else◌}
use Rattle.std.specs.Str.Lossy.{utf8_valid_len}
use Rattle.any_game.specs.Names.{may_open}
use Rattle.wire_json.specs.KeyText.{lower_hex}
use Rattle.hall_history.specs.Script.{Step, Nothing, Seeds, Opens, Says, Takes, Detaches}
use Rattle.std.specs.Option.{option_map_or}

abbrev pub digit : ℕ → Option ℕ
digit b = if nat_le 48 b && nat_le b 57 then Some (b - 48) else None

-- a digit that another one may follow
abbrev pub leading : ℕ → Option ℕ
leading b = if b == 48 then None else digit b

-- the number of a digit after that of those before it
abbrev pub after : ℕ → ℕ → Option ℕ
after b n = option_map (λ d. 10 * n + d) (digit b)

-- a number of one to three digits
abbrev pub small_number : List ℕ → Option ℕ
small_number [] = None
small_number (a ∷ []) = digit a
small_number (a ∷ b ∷ []) = option_and_then (after b) (leading a)
small_number (a ∷ b ∷ c ∷ []) = option_and_then (after c) (option_and_then (after b) (leading a))
small_number (a ∷ b ∷ c ∷ d ∷ more) = None

abbrev pub at_most : ℕ → ℕ → Option ℕ
at_most most n = if nat_le n most then Some n else None

abbrev pub pass_of : List ℕ → Option ℕ
pass_of word = option_and_then (at_most 31) (small_number word)

abbrev pub seats_of : List ℕ → Option ℕ
seats_of word = option_and_then (at_most 255) (small_number word)

-- what stands before and after the first blank
abbrev pub parts : List ℕ → Option (List ℕ × List ℕ)
parts line = option_map (λ i. (take i line, drop (i + 1) line)) (position (λ b. b == 32) line)

-- a word that is a text
abbrev pub text_of : List ℕ → Option (List ℕ)
text_of word = if utf8_valid_len word == length word then Some word else None

-- a match of a game for a number of seats
abbrev pub opening : List ℕ → Option Step
opening rest = option_and_then (λ p. option_and_then (λ name. option_and_then
    (λ seats. if may_open name seats then Some (Opens name seats) else None) (seats_of p.1)) (text_of p.0)) (parts rest)

-- a line of a session
abbrev pub saying : List ℕ → List ℕ → Option Step
saying [] line = None
saying (b ∷ word) line = if b == 115 then option_map (λ pass. Says pass line) (pass_of word) else None

-- a word alone
abbrev pub alone : List ℕ → Option Step
alone [] = Some Nothing
alone (b ∷ word) = if b == 116 then option_map Takes (pass_of word) else
    (if b == 120 then option_map Detaches (pass_of word) else None)

-- a word that others follow
abbrev pub leads : List ℕ → List ℕ → Option Step
leads word rest = if bytes_eq word (codes "open") then opening rest else
    (if bytes_eq word (codes "seed") then option_map Seeds (lower_hex 32 rest) else saying word rest)

-- the step that a line asks for; none where it is in no form
unfoldable pub step_of : List ℕ → Option Step
step_of [] = Some Nothing
step_of (b ∷ rest) = if b == 35 then Some Nothing else option_map_or (λ p. leads p.0 p.1) (parts (b ∷ rest)) (alone (b ∷ rest))
