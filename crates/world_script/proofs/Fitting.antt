-- What the lines of a world ask for is in its form: names of matches, seats that are bytes, and actions in their form on the wire.
use Rattle.std.proofs.Common.{◌≡◌, ◌≤◌, refl, arith}
use Rattle.std.proofs.lemmas.Bool.Decides.{nat_tests}
use Rattle.std.specs.Prelude.{ℕ, ◌==◌, Bool, true, false, nat_le, if◌then◌else◌, List, [], ◌∷◌, bytes_eq, codes, Option, Some, None, option_map, option_and_then, Result, Ok, Err, IfOk, IfSome}
use Rattle.std.specs.Str.{is_utf8}
use Rattle.std.proofs.lemmas.Str.{IsUtf8-from_is_utf8}
use Rattle.serde_json.specs.Data.{Data, null, boolean, number, string, array, object, Members}
use Rattle.serde_json.specs.Read.{read}
use Rattle.serde_json.specs.Written.{members_have_float}
use Rattle.json_tree.specs.Canonical.{MembersAreCanonical}
use Rattle.json_tree.specs.Lines.{object_in, object_read, text_read}
use Rattle.json_tree.specs.declared.lines.LineFault.{LineFault}
use Rattle.json_tree.specs.declared.lines.LineFault.TheVariants.{NotJson, Float}
use Rattle.json_tree.proofs.Canonicals.{canonical_read}
use Rattle.game_sheet.specs.MatchName.{Name}
use Rattle.any_game.specs.AnyRules.{named}
use Rattle.any_game.specs.GameKind.{GameKind}
use Rattle.sheet_json.specs.Seats.{IsWithin}
use Rattle.wire_json.proofs.ActLaws.{asked_is}
use Rattle.wire_json.proofs.MatchTexts.{match_is}
use Rattle.wire_json.specs.Acts.{asked_in}
use Rattle.wire_json.specs.Asking.{AskedFits, AskedIsUtf8}
use Rattle.wire_json.specs.KeyText.{lower_hex}
use Rattle.wire_json.specs.MatchText.{IsName, match_from, number_from}
use Rattle.wire_json.specs.declared.asked.Asked.{Asked}
use Rattle.wire_json.specs.declared.asked.Asked.TheVariants.{Move, Event, Undo, Redo}
use Rattle.wire_json.specs.declared.asked.AskedTo.TheVariants as aim
use Rattle.wire_json.specs.declared.protocol.Protocol.{Protocol}
use Rattle.wire_json.specs.declared.protocol.Protocol.TheVariants.{One, Two}
use Rattle.world_history.specs.World.{Step, Nothing, Seeds, Opens, Attaches, Acts, Arrives, Takes, Reads, Drops, Leaves, Shows}
use Rattle.client_world.proofs.Askable.{in_utf8}
use Rattle.client_world.specs.Reading.{acting, asked_by, asked_is_utf8, asked_of, at_most, attaching, attaching_as, by_client, by_word, claim_in, client_in, client_step, cut, is_played, leaving, looker_in, looking, looking_in, opening, opening_of, seat_in, step_in, world_step_of}
use Rattle.world_convergence.specs.Steps.{StepFits}
use Rattle.line_runner.specs.Play.{steps_of}
use Rattle.std.specs.Option.{option_map_or}
use Rattle.std.specs.List.{AllByRecursion}

-- ---- what there is has a property

module _ {A : Type 0} (P : A → Type 0) where
  either : (b : Bool) (x y : Option A) → IfSome x P → IfSome y P → IfSome (if b then x else y) P
  either true x y h k = h
  either false x y h k = k

  module _ {B : Type 0} where
    next : (Q : B → Type 0) (f : B → Option A) (o : Option B) → IfSome o Q → ((b : B) → Q b → IfSome (f b) P) → IfSome (option_and_then f o) P
    next Q f None h more = tt
    next Q f (Some b) h more = more b h

    any : (f : B → Option A) (o : Option B) → ((b : B) → IfSome (f b) P) → IfSome (option_and_then f o) P
    any f None more = tt
    any f (Some b) more = more b

    mapped : (Q : B → Type 0) (f : B → A) (o : Option B) → IfSome o Q → ((b : B) → Q b → P (f b)) → IfSome (option_map f o) P
    mapped Q f None h more = tt
    mapped Q f (Some b) h more = more b h

-- ---- words

small : (n : ℕ) → nat_le n 255 ≡ true → n ≤ 255
small n e = grind (arith, nat_tests)

byte_by : (n : ℕ) (b : Bool) → nat_le n 255 ≡ b → IfSome (if b then Some n else None) (λ m. m ≤ 255)
byte_by n true e = small n e
byte_by n false e = tt

byte : (n : ℕ) → IfSome (at_most 255 n) (λ m. m ≤ 255)
byte n = byte_by n (nat_le n 255) refl

seat : (word : List ℕ) → IfSome (seat_in word) (λ m. m ≤ 255)
seat word = any (λ m. m ≤ 255) (at_most 255) (number_from word) byte

looker : (word : List ℕ) → IfSome (looker_in word) (IsWithin 255)
looker word = either (IsWithin 255) (bytes_eq word (codes "-")) (Some None) (option_map Some (seat_in word)) tt
    (mapped (IsWithin 255) (λ m. m ≤ 255) Some (seat_in word) (seat word) (λ m h. h))

abbrev LooksFrom : Option ℕ × Protocol → Type 0
LooksFrom l = IsWithin 255 l.0

looking_as : (protocol : Protocol) (word : List ℕ) → IfSome (looking_in protocol word) LooksFrom
looking_as protocol word = mapped LooksFrom (IsWithin 255) (λ seat. (seat, protocol)) (looker_in word) (looker word) (λ seat h. h)

looks_by : (rest : List ℕ) (o : Option (List ℕ × List ℕ)) → IfSome (option_map_or (λ p. if bytes_eq p.1 (codes "2") then looking_in Two p.0 else None) o (looking_in One rest)) LooksFrom
looks_by rest None = looking_as One rest
looks_by rest (Some p) = either LooksFrom (bytes_eq p.1 (codes "2")) (looking_in Two p.0) None (looking_as Two p.0) tt

looks : (rest : List ℕ) → IfSome (looking rest) LooksFrom
looks rest = looks_by rest (cut rest)

name_by : (s : List ℕ) (o : Option Name) → match_from s ≡ o → IfSome o IsName
name_by s None e = tt
name_by s (Some name) e = (match_is s name e).1

name : (s : List ℕ) → IfSome (match_from s) IsName
name s = name_by s (match_from s) refl

abbrev Claims : Name × Option ℕ × Protocol → Type 0
Claims c = IsName c.0 × IsWithin 255 c.1

claims_by : (p : List ℕ × List ℕ) → IfSome (option_and_then (λ name. option_map (λ l. (name, l.0, l.1)) (looking p.1)) (match_from p.0)) Claims
claims_by p = next Claims IsName (λ n. option_map (λ l. (n, l.0, l.1)) (looking p.1)) (match_from p.0) (name p.0)
    (λ n is. mapped Claims LooksFrom (λ l. (n, l.0, l.1)) (looking p.1) (looks p.1) (λ l within. (is, within)))

claims : (rest : List ℕ) → IfSome (claim_in rest) Claims
claims rest = any Claims (λ p. option_and_then (λ name. option_map (λ l. (name, l.0, l.1)) (looking p.1)) (match_from p.0)) (cut rest) claims_by

-- ---- acts

abbrev IsAct : Asked → Type 0
IsAct a = AskedFits a × AskedIsUtf8 a

texts : (a : Asked) → asked_is_utf8 a ≡ true → AskedIsUtf8 a
texts (Move n args) e = IsUtf8-from_is_utf8 n e
texts (Event kind aim.Nothing) e = tt
texts (Event kind (aim.Seat s)) e = tt
texts (Event kind (aim.Name n)) e = IsUtf8-from_is_utf8 n e
texts Undo e = tt
texts Redo e = tt

kept_by : (a : Asked) (b : Bool) → asked_is_utf8 a ≡ b → AskedFits a → IfSome (if b then Some a else None) IsAct
kept_by a true e fits = (fits, texts a e)
kept_by a false e fits = tt

kept : (a : Asked) → AskedFits a → IfSome (in_utf8 a) IsAct
kept a fits = kept_by a (asked_is_utf8 a) refl fits

fits_by : (ms : Members) (o : Option Asked) → MembersAreCanonical ms → asked_in (object ms) ≡ o → IfSome o AskedFits
fits_by ms None c e = tt
fits_by ms (Some a) c e = (asked_is ms a c e).1

asked : (r : Result Members LineFault) → IfOk r MembersAreCanonical → IfSome (asked_by r) IsAct
asked (Ok ms) c = next IsAct AskedFits in_utf8 (asked_in (object ms)) (fits_by ms (asked_in (object ms)) c refl) kept
asked (Err fault) c = tt

whole_by : (ms : Members) (b : Bool) → MembersAreCanonical ms → IfOk (if b then Err Float else Ok ms) MembersAreCanonical
whole_by ms true c = tt
whole_by ms false c = c

canonical_in : (text : List ℕ) (d : Data) → read text ≡ Some d → IfOk (object_in d) MembersAreCanonical
canonical_in text null e = tt
canonical_in text (boolean b) e = tt
canonical_in text (number n) e = tt
canonical_in text (string s) e = tt
canonical_in text (array ds) e = tt
canonical_in text (object ms) e = whole_by ms (members_have_float ms) (canonical_read text (object ms) e)

canonical_by : (text : List ℕ) (o : Option Data) → read text ≡ o → IfOk (object_read o) MembersAreCanonical
canonical_by text None e = tt
canonical_by text (Some d) e = canonical_in text d e

utf8_by : (text : List ℕ) (b : Bool) → IfOk (if b then object_read (read text) else Err NotJson) MembersAreCanonical
utf8_by text true = canonical_by text (read text) refl
utf8_by text false = tt

canonical : (text : List ℕ) → IfOk (text_read text) MembersAreCanonical
unfolding text_read
canonical text = utf8_by text (is_utf8 text)

-- ---- lines

abbrev Fit : Option (Step GameKind) → Type 0
Fit o = IfSome o StepFits

opens : (rest : List ℕ) → Fit (opening rest)
opens rest = any StepFits (λ p. option_and_then (opening_of p.0) (seat_in p.1)) (cut rest) (λ p. any StepFits (opening_of p.0) (seat_in p.1) (λ seats. either StepFits (is_played seats (named p.0)) (Some (Opens p.0 seats)) None tt tt))

seeds : (o : Option (List ℕ)) → Fit (option_map Seeds o)
seeds None = tt
seeds (Some seed) = tt

attaches_of : (client : ℕ) (claim : Name × Option ℕ × Protocol) (game : Option GameKind) → Claims claim → Fit (option_map (λ kind. Attaches client kind claim.0 claim.1 claim.2) game)
attaches_of client claim None h = tt
attaches_of client claim (Some kind) h = h

attaches : (rest : List ℕ) → Fit (attaching rest)
attaches rest = any StepFits (λ p. option_and_then (λ client. option_and_then (attaching_as client) (cut p.1)) (client_in p.0)) (cut rest) (λ p. any StepFits (λ client. option_and_then (attaching_as client) (cut p.1)) (client_in p.0)
    (λ client. any StepFits (attaching_as client) (cut p.1)
    (λ q. next StepFits Claims (λ claim. option_map (λ kind. Attaches client kind claim.0 claim.1 claim.2) (named q.0)) (claim_in q.1) (claims q.1) (λ claim h. attaches_of client claim (named q.0) h))))

acts : (rest : List ℕ) → Fit (acting rest)
acts rest = any StepFits (λ p. option_and_then (λ client. option_map (Acts client) (asked_of p.1)) (client_in p.0)) (cut rest) (λ p. any StepFits (λ client. option_map (Acts client) (asked_of p.1)) (client_in p.0)
    (λ client. mapped StepFits IsAct (Acts client) (asked_of p.1) (asked (text_read p.1) (canonical p.1)) (λ a h. h)))

leaves : (rest : List ℕ) → Fit (leaving rest)
leaves rest = any StepFits (λ p. option_and_then (λ name. option_map (Leaves name) (seat_in p.1)) (match_from p.0)) (cut rest) (λ p. any StepFits (λ n. option_map (Leaves n) (seat_in p.1)) (match_from p.0)
    (λ n. mapped StepFits (λ m. m ≤ 255) (Leaves n) (seat_in p.1) (seat p.1) (λ s h. tt)))

steps_client : (word : List ℕ) (client : ℕ) → Fit (client_step word client)
steps_client word client =
    either StepFits (bytes_eq word (codes "arrive")) (Some (Arrives client)) _ tt
    (either StepFits (bytes_eq word (codes "take")) (Some (Takes client)) _ tt
    (either StepFits (bytes_eq word (codes "read")) (Some (Reads client)) _ tt
    (either StepFits (bytes_eq word (codes "drop")) (Some (Drops client)) _ tt
    (either StepFits (bytes_eq word (codes "show")) (Some (Shows client)) None tt tt))))

of_client : (word rest : List ℕ) → Fit (by_client word rest)
of_client word rest = any StepFits (client_step word) (client_in rest) (steps_client word)

of_word : (word rest : List ℕ) → Fit (by_word word rest)
of_word word rest =
    either StepFits (bytes_eq word (codes "open")) (opening rest) _ (opens rest)
    (either StepFits (bytes_eq word (codes "seed")) (option_map Seeds (lower_hex 32 rest)) _ (seeds (lower_hex 32 rest))
    (either StepFits (bytes_eq word (codes "attach")) (attaching rest) _ (attaches rest)
    (either StepFits (bytes_eq word (codes "act")) (acting rest) _ (acts rest)
    (either StepFits (bytes_eq word (codes "leave")) (leaving rest) (by_client word rest) (leaves rest) (of_client word rest)))))

in_line : (line : List ℕ) → Fit (step_in line)
in_line line = any StepFits (λ p. by_word p.0 p.1) (cut line) (λ p. of_word p.0 p.1)

line_fits : (line : List ℕ) → Fit (world_step_of line)
unfolding world_step_of
line_fits [] = tt
line_fits (b ∷ rest) = either StepFits (b == 35) (Some Nothing) _ tt (either StepFits (is_utf8 (b ∷ rest)) (step_in (b ∷ rest)) None (in_line (b ∷ rest)) tt)

followed_fit : (o : Option (Step GameKind)) (steps : List (Step GameKind)) → Fit o → AllByRecursion StepFits steps → AllByRecursion StepFits (option_map_or (λ step. step ∷ steps) o [])
followed_fit None steps h more = tt
followed_fit (Some step) steps h more = (h, more)

-- the steps of a world's lines are in their form
pub lines_fit : (lines : List (List ℕ)) → AllByRecursion StepFits (steps_of world_step_of lines)
lines_fit [] = tt
lines_fit (line ∷ lines) = followed_fit (world_step_of line) (steps_of world_step_of lines) (line_fits line) (lines_fit lines)
