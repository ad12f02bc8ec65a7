-- The rows of the lobby's answers: each reads as the message that it is the object of.
use Rattle.std.proofs.Common.{◌≡◌, ℕ, ◌≤◌, List, [], ◌∷◌, Ok, Err, codes, refl, subst}
use Rattle.std.specs.Prelude.{Result}
use Rattle.serde_json.specs.Data.{object, Members}
use Rattle.serde_json.specs.Find.{get_member}
use Rattle.json_tree.specs.Canonical.{MembersAreCanonical}
use Rattle.json_tree.specs.Fields.{text_in}
use Rattle.json_tree.specs.Names.{has_extra}
use Rattle.json_tree.specs.Steps.{◌>>=◌}
use Rattle.json_tree.proofs.Rows.{row_is, canonical_member}
use Rattle.game_sheet.specs.MatchName.{Name}
use Rattle.sheet_json.proofs.SeatLaws.{natural_is, natural_again}
use Rattle.wire_json.specs.MatchText.{IsName}
use Rattle.wire_json.specs.Refusals.{Refusal, ExtraField}
use Rattle.wire_json.specs.ServerReading.{ServerFits, games_in, matches_in, match_row_in, created_in, joined_in, place_in}
use Rattle.wire_json.specs.ServerText.{server_members}
use Rattle.wire_json.specs.ClientText.{place_members}
use Rattle.wire_json.specs.declared.server.ServerMsg.{ServerMsg}
use Rattle.wire_json.specs.declared.server.ServerMsg.TheVariants as to_client
use Rattle.wire_json.proofs.FieldLaws.{step, past, text_is, match_member_is, match_member_again, key_member_is, key_member_again}
use Rattle.wire_json.proofs.RowLaws.{names_member_are, names_member_again, row_member_is, row_member_again, rows_member_are, rows_member_again}

abbrev good : ServerMsg → Result ServerMsg Refusal
good x = Ok x

last : (x y : ServerMsg) → good x ≡ good y → x ≡ y
last x y e = cc

abbrev Is : Members → ServerMsg → Type 0
Is ms m = (ms ≡ server_members m) × ServerFits m

abbrev IsOfType : Members → List ℕ → Type 0
IsOfType ms kind = text_in (get_member (codes "type") ms) ≡ Ok kind

-- ---- the games

games_names : List (List ℕ)
games_names = codes "games" ∷ codes "type" ∷ []

pub games_is : (ms : Members) (m : ServerMsg) → MembersAreCanonical ms → IsOfType ms (codes "games") → games_in (object ms) ≡ Ok m → Is ms m
unfolding games_in games_names
games_is ms m c kind e =
    let known = past (has_extra games_names ms) ExtraField _ m e in
    let names = step _ _ _ m known.1 in
    let are = names_member_are (get_member (codes "games") ms) names.0 names.1 in
    let row = row_is games_names ms (server_members (to_client.Games names.0)) c ((refl, tt), (tt, tt)) known.0 refl (are.0, (text_is _ _ kind, tt)) in
    subst (λ x. Is ms x) (last (to_client.Games names.0) m names.2) (row, are.1)

pub games_again : (names : List (List ℕ)) → ServerFits (to_client.Games names) → games_in (object (server_members (to_client.Games names))) ≡ Ok (to_client.Games names)
unfolding games_in
games_again names h = rw (names_member_again names h) refl

-- ---- matches

matches_names : List (List ℕ)
matches_names = codes "matches" ∷ codes "type" ∷ []

pub matches_is : (ms : Members) (m : ServerMsg) → MembersAreCanonical ms → IsOfType ms (codes "matches") → matches_in (object ms) ≡ Ok m → Is ms m
unfolding matches_in matches_names
matches_is ms m c kind e =
    let known = past (has_extra matches_names ms) ExtraField _ m e in
    let rows = step _ _ _ m known.1 in
    let are = rows_member_are (get_member (codes "matches") ms) rows.0 (λ d h. canonical_member (codes "matches") ms d c h) rows.1 in
    let row = row_is matches_names ms (server_members (to_client.Matches rows.0)) c ((refl, tt), (tt, tt)) known.0 refl (are.0, (text_is _ _ kind, tt)) in
    subst (λ x. Is ms x) (last (to_client.Matches rows.0) m rows.2) (row, are.1)

one_names : List (List ℕ)
one_names = codes "row" ∷ codes "type" ∷ []

pub match_is : (ms : Members) (m : ServerMsg) → MembersAreCanonical ms → IsOfType ms (codes "match") → match_row_in (object ms) ≡ Ok m → Is ms m
unfolding match_row_in one_names
match_is ms m c kind e =
    let known = past (has_extra one_names ms) ExtraField _ m e in
    let one = step _ _ _ m known.1 in
    let is = row_member_is (get_member (codes "row") ms) one.0 (λ d h. canonical_member (codes "row") ms d c h) one.1 in
    let row = row_is one_names ms (server_members (to_client.Match one.0)) c ((refl, tt), (tt, tt)) known.0 refl (is.0, (text_is _ _ kind, tt)) in
    subst (λ x. Is ms x) (last (to_client.Match one.0) m one.2) (row, is.1)

created_names : List (List ℕ)
created_names = codes "match" ∷ codes "type" ∷ []

pub created_is : (ms : Members) (m : ServerMsg) → MembersAreCanonical ms → IsOfType ms (codes "created") → created_in (object ms) ≡ Ok m → Is ms m
unfolding created_in created_names
created_is ms m c kind e =
    let known = past (has_extra created_names ms) ExtraField _ m e in
    let name = step _ _ _ m known.1 in
    let is = match_member_is _ name.0 name.1 in
    let row = row_is created_names ms (server_members (to_client.Created name.0)) c ((refl, tt), (tt, tt)) known.0 refl (is.0, (text_is _ _ kind, tt)) in
    subst (λ x. Is ms x) (last (to_client.Created name.0) m name.2) (row, is.1)

-- ---- seats

joined_names : List (List ℕ)
joined_names = codes "key" ∷ codes "match" ∷ codes "seat" ∷ codes "type" ∷ []

pub joined_is : (ms : Members) (m : ServerMsg) → MembersAreCanonical ms → IsOfType ms (codes "joined") → joined_in (object ms) ≡ Ok m → Is ms m
unfolding joined_in joined_names
joined_is ms m c kind e =
    let known = past (has_extra joined_names ms) ExtraField _ m e in
    let key = step _ _ _ m known.1 in
    let name = step _ _ _ m key.2 in
    let seat = step _ _ _ m name.2 in
    let secret = key_member_is _ key.0 key.1 in
    let is = match_member_is _ name.0 name.1 in
    let place = natural_is 255 _ seat.0 seat.1 in
    let row = row_is joined_names ms (server_members (to_client.Joined key.0 name.0 seat.0)) c ((refl, (refl, (refl, tt))), ((refl, (refl, tt)), ((refl, tt), (tt, tt)))) known.0 refl
    (secret.0, (is.0, (place.0, (text_is _ _ kind, tt)))) in
    subst (λ x. Is ms x) (last (to_client.Joined key.0 name.0 seat.0) m seat.2) (row, (secret.1, is.1, place.1))

place_names : List (List ℕ)
place_names = codes "match" ∷ codes "seat" ∷ codes "type" ∷ []

abbrev IsPlace : Members → List ℕ → Name × ℕ → Type 0
IsPlace ms kind at = (ms ≡ place_members at.0 at.1 kind) × IsName at.0 × (at.1 ≤ 255)

place_is : (ms : Members) (kind : List ℕ) (at : Name × ℕ) → MembersAreCanonical ms → IsOfType ms kind → place_in (object ms) ≡ Ok at → IsPlace ms kind at
unfolding place_in place_names
place_is ms kind at c is_kind e =
    let known = past (has_extra place_names ms) ExtraField _ at e in
    let name = step _ _ _ at known.1 in
    let seat = step _ _ _ at name.2 in
    let made : Name × ℕ = (name.0, seat.0) in
    let same : made ≡ at = cc (seat.2) in
    let is = match_member_is _ name.0 name.1 in
    let place = natural_is 255 _ seat.0 seat.1 in
    let row = row_is place_names ms (place_members name.0 seat.0 kind) c ((refl, (refl, tt)), ((refl, tt), (tt, tt))) known.0 refl (is.0, (place.0, (text_is _ _ is_kind, tt))) in
    subst (λ x. IsPlace ms kind x) same (row, is.1, place.1)

place_again : (name : Name) (seat : ℕ) (kind : List ℕ) → IsName name → seat ≤ 255 → place_in (object (place_members name seat kind)) ≡ Ok (name, seat)
unfolding place_in
place_again name seat kind h i = rw (match_member_again name h, natural_again 255 seat i) refl

-- what follows the place is the message of it
placed_is : (message : Name → ℕ → ServerMsg) (r : Result (Name × ℕ) Refusal) (m : ServerMsg) → (r >>= λ at. Ok (message at.0 at.1)) ≡ Ok m → (at : Name × ℕ) × (r ≡ Ok at) × (message at.0 at.1 ≡ m)
placed_is message (Ok at) m e = (at, refl, cc)
placed_is message (Err fault) m e = absurd (cc)

pub renamed_is : (ms : Members) (m : ServerMsg) → MembersAreCanonical ms → IsOfType ms (codes "renamed") → (place_in (object ms) >>= λ at. Ok (to_client.Renamed at.0 at.1)) ≡ Ok m → Is ms m
renamed_is ms m c kind e =
    let found = placed_is to_client.Renamed (place_in (object ms)) m e in
    let is = place_is ms _ found.0 c kind found.1 in
    subst (λ x. Is ms x) found.2 (is.0, (is.1, is.2))

pub left_is : (ms : Members) (m : ServerMsg) → MembersAreCanonical ms → IsOfType ms (codes "left") → (place_in (object ms) >>= λ at. Ok (to_client.Left at.0 at.1)) ≡ Ok m → Is ms m
left_is ms m c kind e =
    let found = placed_is to_client.Left (place_in (object ms)) m e in
    let is = place_is ms _ found.0 c kind found.1 in
    subst (λ x. Is ms x) found.2 (is.0, (is.1, is.2))

pub asked_is : (ms : Members) (m : ServerMsg) → MembersAreCanonical ms → IsOfType ms (codes "asked") → (place_in (object ms) >>= λ at. Ok (to_client.Asked at.0 at.1)) ≡ Ok m → Is ms m
asked_is ms m c kind e =
    let found = placed_is to_client.Asked (place_in (object ms)) m e in
    let is = place_is ms _ found.0 c kind found.1 in
    subst (λ x. Is ms x) found.2 (is.0, (is.1, is.2))

-- ---- the way back

pub matches_again : (rows : _) → ServerFits (to_client.Matches rows) → matches_in (object (server_members (to_client.Matches rows))) ≡ Ok (to_client.Matches rows)
unfolding matches_in
matches_again rows h = rw (rows_member_again rows h) refl

pub match_again : (row : _) → ServerFits (to_client.Match row) → match_row_in (object (server_members (to_client.Match row))) ≡ Ok (to_client.Match row)
unfolding match_row_in
match_again row h = rw (row_member_again row h) refl

pub created_again : (name : Name) → IsName name → created_in (object (server_members (to_client.Created name))) ≡ Ok (to_client.Created name)
unfolding created_in
created_again name h = rw (match_member_again name h) refl

pub joined_again : (key : List ℕ) (name : Name) (seat : ℕ) → ServerFits (to_client.Joined key name seat) → joined_in (object (server_members (to_client.Joined key name seat))) ≡ Ok (to_client.Joined key name seat)
unfolding joined_in
joined_again key name seat h = rw (key_member_again key h.0, match_member_again name h.1, natural_again 255 seat h.2) refl

pub renamed_again : (name : Name) (seat : ℕ) → ServerFits (to_client.Renamed name seat)
    → (place_in (object (place_members name seat (codes "renamed"))) >>= λ at. Ok (to_client.Renamed at.0 at.1)) ≡ Ok (to_client.Renamed name seat)
renamed_again name seat h = rw (place_again name seat (codes "renamed") h.0 h.1) refl

pub left_again : (name : Name) (seat : ℕ) → ServerFits (to_client.Left name seat)
    → (place_in (object (place_members name seat (codes "left"))) >>= λ at. Ok (to_client.Left at.0 at.1)) ≡ Ok (to_client.Left name seat)
left_again name seat h = rw (place_again name seat (codes "left") h.0 h.1) refl

pub asked_again : (name : Name) (seat : ℕ) → ServerFits (to_client.Asked name seat)
    → (place_in (object (place_members name seat (codes "asked"))) >>= λ at. Ok (to_client.Asked at.0 at.1)) ≡ Ok (to_client.Asked name seat)
asked_again name seat h = rw (place_again name seat (codes "asked") h.0 h.1) refl
