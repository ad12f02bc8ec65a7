-- Each fault of a client's line but want of memory is one that a refusal can point at.
use Rattle.std.proofs.Common.{◌≡◌, ℕ, List, [], ◌∷◌, Bool, true, false, cond, Option, Ok, Err, bytes_eq, codes, refl, subst}
use Rattle.std.specs.Prelude.{Result, IsSome, IfErr}
use Rattle.serde_json.specs.Data.{Data, object, Members}
use Rattle.serde_json.specs.Find.{get}
use Rattle.json_tree.specs.Fields.{text_in, natural_in}
use Rattle.json_tree.specs.Lines.{line_read}
use Rattle.json_tree.specs.Names.{extra_in}
use Rattle.json_tree.specs.Steps.{◌>>=◌}
use Rattle.json_tree.specs.declared.fields.FieldFault.{FieldFault}
use Rattle.json_tree.specs.declared.lines.LineFault.{LineFault}
use Rattle.sheet_json.specs.Seats.{or_null}
use Rattle.wire_json.specs.Acts.{act_in, text_within}
use Rattle.wire_json.specs.ClientReading.{match_in, key_in, key_of_seat_in, claim_in, protocol_in, place_in, player_in, count_in, stamp_in, sync_in, client_act_in, takeover_in, games_in, matches_in, look_in, create_in, join_in, rename_in, leave_in, lobby_as, client_as, client_in, client_read}
use Rattle.wire_json.specs.Refusals.{Refusal, Field, UnknownMessage, ExtraField, Gives, Refuses, at_field, of_line}
use Rattle.wire_json.specs.RefusalText.{member_from, IsAnswerable}
use Rattle.wire_json.specs.declared.client.ClientMsg.{ClientMsg}
use Rattle.wire_json.specs.declared.wire_no.WireNo.{WireNo}
use Rattle.wire_json.specs.declared.wire_no.WireNo.TheVariants as no

-- a refusal points at the member
abbrev Named : List ℕ → Type 0
Named name = IsSome (member_from name)

-- a fault in a member is in one that a refusal points at
abbrev IsNamed : {A : Type 0} → Result A Refusal → Type 0
IsNamed read = (n : List ℕ) (f : FieldFault) → read ≡ Err (Field n f) → Named n

-- ---- steps

never : {A : Type 0} (x : A) (n : List ℕ) (f : FieldFault) → Ok x ≡ Err (Field n f) → Named n
never x n f e = absurd (cc)

member_step : {A B : Type 0} (name : List ℕ) (read : Result A FieldFault) (next : A → Result B Refusal) (n : List ℕ) (f : FieldFault) → (at_field name read >>= next) ≡ Err (Field n f) → Named name
    → ((x : A) → next x ≡ Err (Field n f) → Named n) → Named n
member_step name (Ok x) next n f e h later = later x e
member_step name (Err fault) next n f e h later = let same : name ≡ n = cc in subst Named same h

then_step : {A B : Type 0} (read : Result A Refusal) (next : A → Result B Refusal) (n : List ℕ) (f : FieldFault) → (read >>= next) ≡ Err (Field n f) → IsNamed read
    → ((x : A) → next x ≡ Err (Field n f) → Named n) → Named n
then_step (Ok x) next n f e h later = later x e
then_step (Err refusal) next n f e h later = h n f (cc (e))

past_step : {A : Type 0} (b : Bool) (rest : Result A Refusal) (n : List ℕ) (f : FieldFault) → cond b (Err ExtraField) rest ≡ Err (Field n f) → (rest ≡ Err (Field n f) → Named n) → Named n
past_step true rest n f e later = absurd (cc)
past_step false rest n f e later = later e

either_named : {A : Type 0} (b : Bool) (x y : Result A Refusal) → IsNamed x → IsNamed y → IsNamed (cond b x y)
either_named true x y h k = h
either_named false x y h k = k

-- ---- rows

place_named : (d : Data) → IsNamed (place_in d)
place_named d n f e = member_step (codes "match") (match_in (get (codes "match") d)) _ n f e refl λ name e1. member_step (codes "seat") (natural_in 255 (get (codes "seat") d)) _ n f e1 refl λ seat e2. never _ n f e2

player_named : (d : Data) → IsNamed (player_in d)
player_named d n f e =
    member_step (codes "match") (match_in (get (codes "match") d)) _ n f e refl λ name e1.
    member_step (codes "name") (text_within 0 255 (get (codes "name") d)) _ n f e1 refl λ player e2.
    member_step (codes "seat") (natural_in 255 (get (codes "seat") d)) _ n f e2 refl λ seat e3.
    never _ n f e3

count_named : (d : Data) → IsNamed (count_in d)
count_named d n f e =
    member_step (codes "number") (natural_in 4294967295 (get (codes "number") d)) _ n f e refl λ at e1.
    member_step (codes "ticket") (natural_in 4294967295 (get (codes "ticket") d)) _ n f e1 refl λ ticket e2.
    never _ n f e2

stamp_named : (d : Data) → IsNamed (stamp_in d)
stamp_named d n f e =
    member_step (codes "key") (key_in (get (codes "key") d)) _ n f e refl λ key e1.
    member_step (codes "match") (match_in (get (codes "match") d)) _ n f e1 refl λ name e2.
    then_step (count_in d) _ n f e2 (count_named d) λ count e3.
    never _ n f e3

claim_named : (seat : Result (Option ℕ) FieldFault) (d : Data) → IsNamed (claim_in seat d)
claim_named seat d n f e =
    member_step (codes "key") (key_of_seat_in seat (get (codes "key") d)) _ n f e refl λ key e1.
    member_step (codes "match") (match_in (get (codes "match") d)) _ n f e1 refl λ name e2.
    never _ n f e2

sync_named : (d : Data) → IsNamed (sync_in d)
unfolding sync_in
sync_named d n f e =
    past_step (extra_in (codes "key" ∷ codes "match" ∷ codes "protocol" ∷ codes "seat" ∷ codes "type" ∷ []) d) _ n f e λ e0.
    then_step (claim_in (or_null (natural_in 255) (get (codes "seat") d)) d) _ n f e0 (claim_named (or_null (natural_in 255) (get (codes "seat") d)) d) λ claim e1.
    member_step (codes "protocol") (protocol_in (get (codes "protocol") d)) _ n f e1 refl λ protocol e2.
    member_step (codes "seat") (or_null (natural_in 255) (get (codes "seat") d)) _ n f e2 refl λ seat e3.
    never _ n f e3

act_named : (d : Data) → IsNamed (client_act_in d)
unfolding client_act_in
act_named d n f e =
    past_step (extra_in (codes "act" ∷ codes "key" ∷ codes "match" ∷ codes "number" ∷ codes "ticket" ∷ codes "type" ∷ []) d) _ n f e λ e0.
    member_step (codes "act") (act_in (get (codes "act") d)) _ n f e0 refl λ asked e1.
    then_step (stamp_in d) _ n f e1 (stamp_named d) λ stamp e2.
    never _ n f e2

takeover_named : (d : Data) → IsNamed (takeover_in d)
unfolding takeover_in
takeover_named d n f e =
    past_step (extra_in (codes "match" ∷ codes "seat" ∷ codes "type" ∷ []) d) _ n f e λ e0.
    then_step (place_in d) _ n f e0 (place_named d) λ place e1.
    never _ n f e1

games_named : (d : Data) → IsNamed (games_in d)
unfolding games_in
games_named d n f e =
    past_step (extra_in (codes "type" ∷ []) d) _ n f e λ e0.
    never _ n f e0

matches_named : (d : Data) → IsNamed (matches_in d)
unfolding matches_in
matches_named d n f e =
    past_step (extra_in (codes "game" ∷ codes "type" ∷ []) d) _ n f e λ e0.
    member_step (codes "game") (text_within 1 32 (get (codes "game") d)) _ n f e0 refl λ game e1.
    never _ n f e1

look_named : (d : Data) → IsNamed (look_in d)
unfolding look_in
look_named d n f e =
    past_step (extra_in (codes "match" ∷ codes "type" ∷ []) d) _ n f e λ e0.
    member_step (codes "match") (match_in (get (codes "match") d)) _ n f e0 refl λ name e1.
    never _ n f e1

create_named : (d : Data) → IsNamed (create_in d)
unfolding create_in
create_named d n f e =
    past_step (extra_in (codes "game" ∷ codes "seats" ∷ codes "type" ∷ []) d) _ n f e λ e0.
    member_step (codes "game") (text_within 1 32 (get (codes "game") d)) _ n f e0 refl λ game e1.
    member_step (codes "seats") (natural_in 255 (get (codes "seats") d)) _ n f e1 refl λ seats e2.
    never _ n f e2

join_named : (d : Data) → IsNamed (join_in d)
unfolding join_in
join_named d n f e =
    past_step (extra_in (codes "match" ∷ codes "name" ∷ codes "seat" ∷ codes "type" ∷ []) d) _ n f e λ e0.
    then_step (player_in d) _ n f e0 (player_named d) λ player e1.
    never _ n f e1

rename_named : (d : Data) → IsNamed (rename_in d)
unfolding rename_in
rename_named d n f e =
    past_step (extra_in (codes "key" ∷ codes "match" ∷ codes "name" ∷ codes "seat" ∷ codes "type" ∷ []) d) _ n f e λ e0.
    member_step (codes "key") (key_in (get (codes "key") d)) _ n f e0 refl λ key e1.
    then_step (player_in d) _ n f e1 (player_named d) λ player e2.
    never _ n f e2

leave_named : (d : Data) → IsNamed (leave_in d)
unfolding leave_in
leave_named d n f e =
    past_step (extra_in (codes "key" ∷ codes "match" ∷ codes "seat" ∷ codes "type" ∷ []) d) _ n f e λ e0.
    member_step (codes "key") (key_in (get (codes "key") d)) _ n f e0 refl λ key e1.
    then_step (place_in d) _ n f e1 (place_named d) λ place e2.
    never _ n f e2

-- ---- any message

unknown_named : {A : Type 0} (read : Result A Refusal) → read ≡ Err UnknownMessage → IsNamed read
unknown_named read is n f e = absurd (cc)

lobby_named : (kind : List ℕ) (d : Data) → IsNamed (lobby_as kind d)
lobby_named kind d =
    either_named (bytes_eq kind (codes "create")) _ _ (create_named d) (either_named (bytes_eq kind (codes "games")) _ _ (games_named d) (either_named (bytes_eq kind (codes "join")) _ _ (join_named d)
    (either_named (bytes_eq kind (codes "leave")) _ _ (leave_named d) (either_named (bytes_eq kind (codes "look")) _ _ (look_named d) (either_named (bytes_eq kind (codes "matches")) _ _ (matches_named d)
    (either_named (bytes_eq kind (codes "rename")) _ _ (rename_named d) (unknown_named (Err UnknownMessage) refl)))))))

as_named : (kind : Result (List ℕ) FieldFault) (d : Data) → IsNamed (client_as kind d)
as_named (Err fault) d = unknown_named (Err UnknownMessage) refl
as_named (Ok kind) d =
    either_named (bytes_eq kind (codes "act")) _ _ (act_named d) (either_named (bytes_eq kind (codes "sync")) _ _ (sync_named d) (either_named (bytes_eq kind (codes "takeover")) _ _ (takeover_named d) (lobby_named kind d)))

in_named : (d : Data) → IsNamed (client_in d)
unfolding client_in
in_named d = as_named (text_in (get (codes "type") d)) d

line_named : (r : Result Members LineFault) → IsNamed (of_line r >>= λ ms. client_in (object ms))
line_named (Ok ms) n f e = in_named (object ms) n f e
line_named (Err fault) n f e = absurd (cc)

client_named : (line : List ℕ) → IsNamed (client_read line)
unfolding client_read
client_named line = line_named (line_read 65536 line)

refused : (e : WireNo) (line : List ℕ) → Refuses e (client_read line) → IsAnswerable e
refused (no.Line fault) line h = tt
refused no.UnknownMessage line h = tt
refused no.ExtraField line h = tt
refused (no.Field name fault) line h = client_named line name.now fault h
refused no.NoMemory line h = tt

pub is_answerable : (r : Result ClientMsg WireNo) (line : List ℕ) → Gives r (client_read line) → IfErr r IsAnswerable
is_answerable (Ok m) line h = tt
is_answerable (Err e) line h = refused e line h
