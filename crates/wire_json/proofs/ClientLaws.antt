-- A line from a client reads as the message that it is a form of, and as no other.
use Rattle.std.proofs.Common.{◌≡◌, ◌≤◌, ◌==◌, ℕ, List, [], ◌∷◌, length, Bool, true, false, cond, ◌⊎◌, inl, inr, Option, Some, None, Ok, Err, bytes_eq, codes, refl, ap, ◌∙◌, subst, arith, if◌then◌else◌}
use Rattle.std.proofs.lemmas.Bool.{eqb-true}
use Rattle.std.proofs.lemmas.Slice.Eq.{bytes_eq-Decides}
use Rattle.std.specs.Prelude.{Result}
use Rattle.serde_json.specs.Data.{Data, string, object, Members, null}
use Rattle.serde_json.specs.Find.{get_member}
use Rattle.hex.specs.Hex.{encode_lower}
use Rattle.json_tree.specs.Canonical.{MembersAreCanonical}
use Rattle.json_tree.specs.Fields.{text_in, natural_in}
use Rattle.json_tree.specs.Lines.{line_read, IsLineOf}
use Rattle.json_tree.specs.Names.{has_extra}
use Rattle.json_tree.specs.Steps.{◌>>=◌}
use Rattle.json_tree.specs.declared.fields.FieldFault.{FieldFault}
use Rattle.json_tree.specs.declared.lines.LineFault.{LineFault}
use Rattle.json_tree.proofs.LineLaws.{line_is, line_again, canonical_line}
use Rattle.json_tree.proofs.Rows.{row_is}
use Rattle.game_sheet.specs.MatchName.{Name}
use Rattle.game_sheet.specs.Viewer.{Viewer, seat_of}
use Rattle.sheet_json.specs.Seats.{natural, natural_or_null, or_null}
use Rattle.sheet_json.proofs.SeatLaws.{bound, natural_is, natural_again, Holds, or_null_is}
use Rattle.wire_json.specs.KeyText.{IsKey}
use Rattle.wire_json.specs.MatchText.{match_text, IsName}
use Rattle.wire_json.specs.ClientText.{protocol_number, client_members, said_members, ViewerFits, ClientFits, IsForm}
use Rattle.wire_json.specs.ClientReading.{key_in, both_or_neither, viewer_of, claim_in, protocol_in, place_in, player_in, count_in, stamp_in, sync_in, client_act_in, takeover_in, games_in, matches_in, look_in, create_in, join_in, rename_in, leave_in, lobby_as, client_as, client_in, client_read}
use Rattle.wire_json.specs.Refusals.{Refusal, ExtraField, UnknownMessage, of_line}
use Rattle.wire_json.specs.declared.asked.Asked.{Asked}
use Rattle.wire_json.specs.declared.client.ClientMsg.{ClientMsg}
use Rattle.wire_json.specs.declared.client.ClientMsg.TheVariants.{Games, Matches, Look, Create, Join, Rename, Leave, Sync, Act, Takeover}
use Rattle.wire_json.specs.declared.protocol.Protocol.{Protocol}
use Rattle.wire_json.specs.declared.protocol.Protocol.TheVariants.{One, Two}
use Rattle.wire_json.specs.declared.submission.Submission.{Submission}
use Rattle.wire_json.proofs.FieldLaws.{step, past, formed, text_is, short_text_is, short_text_again, match_member_is, match_member_again, key_member_is, key_member_again, seat_key_is}
use Rattle.wire_json.proofs.ActLaws.{act_is, act_again}
use Rattle.std.specs.Option.{option_map_or}

abbrev good : {A : Type 0} → A → Result A Refusal
good x = Ok x

last : {A : Type 0} (x y : A) → good x ≡ good y → x ≡ y
last x y e = cc

-- the object is one that the message is read from, and the message is in its form
abbrev Reads : Members → ClientMsg → Type 0
Reads ms m = ((ms ≡ client_members m) ⊎ (ms ≡ said_members m)) × ClientFits m

-- the member holds this text
abbrev HasText : Members → List ℕ → List ℕ → Type 0
HasText ms name text = get_member name ms ≡ Some (string text)

abbrev IsOfType : Members → List ℕ → Type 0
IsOfType ms kind = text_in (get_member (codes "type") ms) ≡ Ok kind

-- ---- members that several rows have

-- the object names this match and this seat
record IsPlace (ms : Members) (name : Name) (seat : ℕ) : Type 0 where
  named : HasText ms (codes "match") (match_text name)
  seated : get_member (codes "seat") ms ≡ Some (natural seat)
  name_fits : IsName name
  seat_fits : seat ≤ 255

place_is : (ms : Members) (place : Name × ℕ) → place_in (object ms) ≡ Ok place → IsPlace ms place.0 place.1
place_is ms place e =
    let name = step _ _ _ place e in
    let seat = step _ _ _ place name.2 in
    let match = match_member_is _ name.0 name.1 in
    let number = natural_is 255 _ seat.0 seat.1 in
    subst (λ p. IsPlace ms p.0 p.1) (last (name.0, seat.0) place seat.2) (record { named = match.0; seated = number.0; name_fits = match.1; seat_fits = number.1 })

-- the object names this match and this seat, and a player
record IsPlayer (ms : Members) (name : Name) (player : List ℕ) (seat : ℕ) : Type 0 where
  named : HasText ms (codes "match") (match_text name)
  called : HasText ms (codes "name") player
  seated : get_member (codes "seat") ms ≡ Some (natural seat)
  name_fits : IsName name
  player_fits : length player ≤ 255
  seat_fits : seat ≤ 255

player_is : (ms : Members) (p : Name × List ℕ × ℕ) → player_in (object ms) ≡ Ok p → IsPlayer ms p.0 p.1 p.2
player_is ms p e =
    let name = step _ _ _ p e in
    let player = step _ _ _ p name.2 in
    let seat = step _ _ _ p player.2 in
    let match = match_member_is _ name.0 name.1 in
    let text = short_text_is 0 255 _ player.0 player.1 in
    let number = natural_is 255 _ seat.0 seat.1 in
    subst (λ q. IsPlayer ms q.0 q.1 q.2) (last (name.0, player.0, seat.0) p seat.2)
    (record { named = match.0; called = text.0; seated = number.0; name_fits = match.1; player_fits = text.2; seat_fits = number.1 })

-- ---- rows of the lobby

games_names : List (List ℕ)
games_names = codes "type" ∷ []

games_is : (ms : Members) (m : ClientMsg) → MembersAreCanonical ms → IsOfType ms (codes "games") → games_in (object ms) ≡ Ok m → Reads ms m
unfolding games_in games_names
games_is ms m c kind e =
    let known = past (has_extra games_names ms) ExtraField _ m e in
    let row = row_is games_names ms (client_members Games) c (tt, tt) known.0 refl (text_is _ _ kind, tt) in
    subst (Reads ms) (last Games m known.1) (inl row, tt)

matches_names : List (List ℕ)
matches_names = codes "game" ∷ codes "type" ∷ []

matches_is : (ms : Members) (m : ClientMsg) → MembersAreCanonical ms → IsOfType ms (codes "matches") → matches_in (object ms) ≡ Ok m → Reads ms m
unfolding matches_in matches_names
matches_is ms m c kind e =
    let known = past (has_extra matches_names ms) ExtraField _ m e in
    let game = step _ _ _ m known.1 in
    let text = short_text_is 1 32 _ game.0 game.1 in
    let row = row_is matches_names ms (client_members (Matches game.0)) c ((refl, tt), (tt, tt)) known.0 refl (text.0, (text_is _ _ kind, tt)) in
    subst (Reads ms) (last (Matches game.0) m game.2) (inl row, (text.1, text.2))

matches_again : (game : List ℕ) → ClientFits (Matches game) → matches_in (object (client_members (Matches game))) ≡ Ok (Matches game)
unfolding matches_in
matches_again game h = rw (short_text_again 1 32 game h.0 h.1) refl

look_names : List (List ℕ)
look_names = codes "match" ∷ codes "type" ∷ []

look_is : (ms : Members) (m : ClientMsg) → MembersAreCanonical ms → IsOfType ms (codes "look") → look_in (object ms) ≡ Ok m → Reads ms m
unfolding look_in look_names
look_is ms m c kind e =
    let known = past (has_extra look_names ms) ExtraField _ m e in
    let name = step _ _ _ m known.1 in
    let match = match_member_is _ name.0 name.1 in
    let row = row_is look_names ms (client_members (Look name.0)) c ((refl, tt), (tt, tt)) known.0 refl (match.0, (text_is _ _ kind, tt)) in
    subst (Reads ms) (last (Look name.0) m name.2) (inl row, match.1)

look_again : (name : Name) → ClientFits (Look name) → look_in (object (client_members (Look name))) ≡ Ok (Look name)
unfolding look_in
look_again name h = rw (match_member_again name h) refl

create_names : List (List ℕ)
create_names = codes "game" ∷ codes "seats" ∷ codes "type" ∷ []

create_is : (ms : Members) (m : ClientMsg) → MembersAreCanonical ms → IsOfType ms (codes "create") → create_in (object ms) ≡ Ok m → Reads ms m
unfolding create_in create_names
create_is ms m c kind e =
    let known = past (has_extra create_names ms) ExtraField _ m e in
    let game = step _ _ _ m known.1 in
    let seats = step _ _ _ m game.2 in
    let text = short_text_is 1 32 _ game.0 game.1 in
    let count = natural_is 255 _ seats.0 seats.1 in
    let row = row_is create_names ms (client_members (Create game.0 seats.0)) c ((refl, (refl, tt)), ((refl, tt), (tt, tt))) known.0 refl (text.0, (count.0, (text_is _ _ kind, tt))) in
    subst (Reads ms) (last (Create game.0 seats.0) m seats.2) (inl row, ((text.1, text.2), count.1))

create_again : (game : List ℕ) (seats : ℕ) → ClientFits (Create game seats) → create_in (object (client_members (Create game seats))) ≡ Ok (Create game seats)
unfolding create_in
create_again game seats h = rw (short_text_again 1 32 game h.0.0 h.0.1, natural_again 255 seats h.1) refl

join_names : List (List ℕ)
join_names = codes "match" ∷ codes "name" ∷ codes "seat" ∷ codes "type" ∷ []

join_is : (ms : Members) (m : ClientMsg) → MembersAreCanonical ms → IsOfType ms (codes "join") → join_in (object ms) ≡ Ok m → Reads ms m
unfolding join_in join_names
join_is ms m c kind e =
    let known = past (has_extra join_names ms) ExtraField _ m e in
    let p = bound (player_in (object ms)) _ m known.1 in
    let is = player_is ms p.0 p.1 in
    let row = row_is join_names ms (client_members (Join p.0.0 p.0.1 p.0.2)) c ((refl, (refl, (refl, tt))), ((refl, (refl, tt)), ((refl, tt), (tt, tt)))) known.0 refl (is.named, (is.called, (is.seated, (text_is _ _ kind, tt)))) in
    subst (Reads ms) (last (Join p.0.0 p.0.1 p.0.2) m p.2) (inl row, (is.name_fits, is.player_fits, is.seat_fits))

join_again : (name : Name) (player : List ℕ) (seat : ℕ) → ClientFits (Join name player seat) → join_in (object (client_members (Join name player seat))) ≡ Ok (Join name player seat)
unfolding join_in
join_again name player seat h = rw (match_member_again name h.0, short_text_again 0 255 player (omega arith) h.1, natural_again 255 seat h.2) refl

rename_names : List (List ℕ)
rename_names = codes "key" ∷ codes "match" ∷ codes "name" ∷ codes "seat" ∷ codes "type" ∷ []

rename_is : (ms : Members) (m : ClientMsg) → MembersAreCanonical ms → IsOfType ms (codes "rename") → rename_in (object ms) ≡ Ok m → Reads ms m
unfolding rename_in rename_names
rename_is ms m c kind e =
    let known = past (has_extra rename_names ms) ExtraField _ m e in
    let key = step _ _ _ m known.1 in
    let p = bound (player_in (object ms)) _ m key.2 in
    let owner = key_member_is _ key.0 key.1 in
    let is = player_is ms p.0 p.1 in
    let row = row_is rename_names ms (client_members (Rename key.0 p.0.0 p.0.1 p.0.2)) c ((refl, (refl, (refl, (refl, tt)))), ((refl, (refl, (refl, tt))), ((refl, (refl, tt)), ((refl, tt), (tt, tt))))) known.0 refl (owner.0, (is.named, (is.called, (is.seated, (text_is _ _ kind, tt))))) in
    subst (Reads ms) (last (Rename key.0 p.0.0 p.0.1 p.0.2) m p.2) (inl row, (owner.1, is.name_fits, is.player_fits, is.seat_fits))

rename_again : (key : List ℕ) (name : Name) (player : List ℕ) (seat : ℕ) → ClientFits (Rename key name player seat)
    → rename_in (object (client_members (Rename key name player seat))) ≡ Ok (Rename key name player seat)
unfolding rename_in
rename_again key name player seat h = rw (key_member_again key h.0, match_member_again name h.1, short_text_again 0 255 player (omega arith) h.2, natural_again 255 seat h.3) refl

leave_names : List (List ℕ)
leave_names = codes "key" ∷ codes "match" ∷ codes "seat" ∷ codes "type" ∷ []

leave_is : (ms : Members) (m : ClientMsg) → MembersAreCanonical ms → IsOfType ms (codes "leave") → leave_in (object ms) ≡ Ok m → Reads ms m
unfolding leave_in leave_names
leave_is ms m c kind e =
    let known = past (has_extra leave_names ms) ExtraField _ m e in
    let key = step _ _ _ m known.1 in
    let place = bound (place_in (object ms)) _ m key.2 in
    let owner = key_member_is _ key.0 key.1 in
    let is = place_is ms place.0 place.1 in
    let row = row_is leave_names ms (client_members (Leave key.0 place.0.0 place.0.1)) c ((refl, (refl, (refl, tt))), ((refl, (refl, tt)), ((refl, tt), (tt, tt)))) known.0 refl (owner.0, (is.named, (is.seated, (text_is _ _ kind, tt)))) in
    subst (Reads ms) (last (Leave key.0 place.0.0 place.0.1) m place.2) (inl row, (owner.1, is.name_fits, is.seat_fits))

leave_again : (key : List ℕ) (name : Name) (seat : ℕ) → ClientFits (Leave key name seat) → leave_in (object (client_members (Leave key name seat))) ≡ Ok (Leave key name seat)
unfolding leave_in
leave_again key name seat h = rw (key_member_again key h.0, match_member_again name h.1, natural_again 255 seat h.2) refl

takeover_names : List (List ℕ)
takeover_names = codes "match" ∷ codes "seat" ∷ codes "type" ∷ []

takeover_is : (ms : Members) (m : ClientMsg) → MembersAreCanonical ms → IsOfType ms (codes "takeover") → takeover_in (object ms) ≡ Ok m → Reads ms m
unfolding takeover_in takeover_names
takeover_is ms m c kind e =
    let known = past (has_extra takeover_names ms) ExtraField _ m e in
    let place = bound (place_in (object ms)) _ m known.1 in
    let is = place_is ms place.0 place.1 in
    let row = row_is takeover_names ms (client_members (Takeover place.0.0 place.0.1)) c ((refl, (refl, tt)), ((refl, tt), (tt, tt))) known.0 refl (is.named, (is.seated, (text_is _ _ kind, tt))) in
    subst (Reads ms) (last (Takeover place.0.0 place.0.1) m place.2) (inl row, (is.name_fits, is.seat_fits))

takeover_again : (name : Name) (seat : ℕ) → ClientFits (Takeover name seat) → takeover_in (object (client_members (Takeover name seat))) ≡ Ok (Takeover name seat)
unfolding takeover_in
takeover_again name seat h = rw (match_member_again name h.0, natural_again 255 seat h.1) refl

-- ---- sync

-- the members `key` and `seat` are those of the viewer
abbrev AreViewer : Option Data → Option Data → Viewer → Type 0
AreViewer key seat viewer = (key ≡ Some (option_map_or (λ claim. string (encode_lower claim.1)) viewer null)) × (seat ≡ Some (natural_or_null (seat_of viewer))) × ViewerFits viewer

viewer_is : (k s : Option Data) (key : Option (List ℕ)) (seat : Option ℕ) → Holds key_in k key → Holds (natural_in 255) s seat → both_or_neither key seat ≡ true → AreViewer k s (viewer_of key seat)
viewer_is k s None None h i b = (h, i, tt)
viewer_is k s None (Some seat) h i b = absurd (cc)
viewer_is k s (Some key) None h i b = absurd (cc)
viewer_is k s (Some key) (Some seat) h i b = let is = key_member_is k key h in let at = natural_is 255 s seat i in (is.0, at.0, (at.1, is.1))

-- the member `protocol` is this protocol's number, or is left out for the first
abbrev Says : Option Data → Protocol → Type 0
Says found protocol = ((found ≡ None) × (One ≡ protocol)) ⊎ (found ≡ Some (natural (protocol_number protocol)))

numbered : (b c : Bool) (n : ℕ) (protocol : Protocol) → (n == 1) ≡ b → (n == 2) ≡ c → cond b (Some One) (cond c (Some Two) None) ≡ Some protocol → n ≡ protocol_number protocol
numbered true c n protocol is h e = let same : One ≡ protocol = cc in subst (λ p. n ≡ protocol_number p) same (eqb-true n 1 is)
numbered false true n protocol is h e = let same : Two ≡ protocol = cc in subst (λ p. n ≡ protocol_number p) same (eqb-true n 2 h)
numbered false false n protocol is h e = absurd (cc)

protocol_is : (found : Option Data) (protocol : Protocol) → protocol_in found ≡ Ok protocol → Says found protocol
protocol_is None protocol e = let same : One ≡ protocol = cc in inl (refl, same)
protocol_is (Some d) protocol e =
    let n = bound (natural_in 2 (Some d)) _ protocol e in
    let is = natural_is 2 (Some d) n.0 n.1 in
    inr (is.0 ∙ ap (λ x. Some (natural x)) (numbered (n.0 == 1) (n.0 == 2) n.0 protocol refl refl (formed (if n.0 == 1 then Some One else if n.0 == 2 then Some Two else None) protocol n.2)))

sync_names : List (List ℕ)
sync_names = codes "key" ∷ codes "match" ∷ codes "protocol" ∷ codes "seat" ∷ codes "type" ∷ []

abbrev SyncRow : Members → Name → Viewer → Protocol → Type 0
SyncRow ms name viewer protocol = (ms ≡ client_members (Sync name viewer protocol)) ⊎ (ms ≡ said_members (Sync name viewer protocol))

sync_row : (ms : Members) (name : Name) (viewer : Viewer) (protocol : Protocol) → MembersAreCanonical ms → has_extra sync_names ms ≡ false → get_member (codes "key") ms ≡ Some (option_map_or (λ claim. string (encode_lower claim.1)) viewer null)
    → HasText ms (codes "match") (match_text name) → Says (get_member (codes "protocol") ms) protocol → get_member (codes "seat") ms ≡ Some (natural_or_null (seat_of viewer)) → HasText ms (codes "type") (codes "sync")
    → SyncRow ms name viewer protocol
unfolding sync_names
sync_row ms name viewer protocol c known key match (inl unsaid) seat kind =
    subst (SyncRow ms name viewer) unsaid.1
    (inl (row_is sync_names ms (client_members (Sync name viewer One)) c ((refl, (refl, (refl, tt))), ((refl, (refl, tt)), ((refl, tt), (tt, tt)))) known refl (key, (match, (unsaid.0, (seat, (kind, tt)))))))
sync_row ms name viewer protocol c known key match (inr said) seat kind =
    inr (row_is sync_names ms (said_members (Sync name viewer protocol)) c ((refl, (refl, (refl, (refl, tt)))), ((refl, (refl, (refl, tt))), ((refl, (refl, tt)), ((refl, tt), (tt, tt))))) known refl (key, (match, (said, (seat, (kind, tt))))))

-- the key stands beside the seat, and the match is named
claim_is : (ms : Members) (seat : Result (Option ℕ) FieldFault) (claim : Option (List ℕ) × Name) (s : Option ℕ) → claim_in seat (object ms) ≡ Ok claim → seat ≡ Ok s
    → Holds key_in (get_member (codes "key") ms) claim.0 × (both_or_neither claim.0 s ≡ true) × HasText ms (codes "match") (match_text claim.1) × IsName claim.1
claim_is ms seat claim s e is =
    let key = step _ _ _ claim e in
    let name = step _ _ _ claim key.2 in
    let both = seat_key_is _ _ key.0 s key.1 is in
    let match = match_member_is _ name.0 name.1 in
    subst (λ p. Holds key_in (get_member (codes "key") ms) p.0 × (both_or_neither p.0 s ≡ true) × HasText ms (codes "match") (match_text p.1) × IsName p.1) (last (key.0, name.0) claim name.2)
    (both.0, both.1, match.0, match.1)

sync_is : (ms : Members) (m : ClientMsg) → MembersAreCanonical ms → IsOfType ms (codes "sync") → sync_in (object ms) ≡ Ok m → Reads ms m
unfolding sync_in sync_names
sync_is ms m c kind e =
    let known = past (has_extra sync_names ms) ExtraField _ m e in
    let claim = bound (claim_in (or_null (natural_in 255) (get_member (codes "seat") ms)) (object ms)) _ m known.1 in
    let protocol = step _ _ _ m claim.2 in
    let seat = step _ _ _ m protocol.2 in
    let is = claim_is ms _ claim.0 seat.0 claim.1 seat.1 in
    let viewer = viewer_is _ _ claim.0.0 seat.0 is.0 (or_null_is (natural_in 255) _ seat.0 seat.1) is.1 in
    let row = sync_row ms claim.0.1 (viewer_of claim.0.0 seat.0) protocol.0 c known.0 viewer.0 is.2 (protocol_is _ protocol.0 protocol.1) viewer.1 (text_is _ _ kind) in
    subst (Reads ms) (last (Sync claim.0.1 (viewer_of claim.0.0 seat.0) protocol.0) m seat.2) (row, (is.3, viewer.2))

sync_again : (name : Name) (viewer : Viewer) (protocol : Protocol) → IsName name → ViewerFits viewer → sync_in (object (client_members (Sync name viewer protocol))) ≡ Ok (Sync name viewer protocol)
unfolding sync_in
sync_again name None One h v = rw (match_member_again name h) refl
sync_again name None Two h v = rw (match_member_again name h) refl
sync_again name (Some viewer) One h v = rw (key_member_again viewer.1 v.1, natural_again 255 viewer.0 v.0, match_member_again name h) refl
sync_again name (Some viewer) Two h v = rw (key_member_again viewer.1 v.1, natural_again 255 viewer.0 v.0, match_member_again name h) refl

said_again : (name : Name) (viewer : Viewer) (protocol : Protocol) → IsName name → ViewerFits viewer → sync_in (object (said_members (Sync name viewer protocol))) ≡ Ok (Sync name viewer protocol)
unfolding sync_in
said_again name None One h v = rw (match_member_again name h) refl
said_again name None Two h v = rw (match_member_again name h) refl
said_again name (Some viewer) One h v = rw (key_member_again viewer.1 v.1, natural_again 255 viewer.0 v.0, match_member_again name h) refl
said_again name (Some viewer) Two h v = rw (key_member_again viewer.1 v.1, natural_again 255 viewer.0 v.0, match_member_again name h) refl

-- ---- act

act_names : List (List ℕ)
act_names = codes "act" ∷ codes "key" ∷ codes "match" ∷ codes "number" ∷ codes "ticket" ∷ codes "type" ∷ []

-- the object has these members beside the act
record IsStamp (ms : Members) (key : List ℕ) (name : Name) (at ticket : ℕ) : Type 0 where
  owned : HasText ms (codes "key") (encode_lower key)
  named : HasText ms (codes "match") (match_text name)
  numbers : get_member (codes "number") ms ≡ Some (natural at)
  counts : get_member (codes "ticket") ms ≡ Some (natural ticket)
  key_fits : IsKey key
  name_fits : IsName name
  at_fits : at ≤ 4294967295
  ticket_fits : ticket ≤ 4294967295

count_is : (ms : Members) (count : ℕ × ℕ) → count_in (object ms) ≡ Ok count
    → (get_member (codes "number") ms ≡ Some (natural count.0)) × (get_member (codes "ticket") ms ≡ Some (natural count.1)) × (count.0 ≤ 4294967295) × (count.1 ≤ 4294967295)
count_is ms count e =
    let at = step _ _ _ count e in
    let ticket = step _ _ _ count at.2 in
    let number = natural_is 4294967295 _ at.0 at.1 in
    let tickets = natural_is 4294967295 _ ticket.0 ticket.1 in
    subst (λ p. (get_member (codes "number") ms ≡ Some (natural p.0)) × (get_member (codes "ticket") ms ≡ Some (natural p.1)) × (p.0 ≤ 4294967295) × (p.1 ≤ 4294967295)) (last (at.0, ticket.0) count ticket.2)
    (number.0, tickets.0, number.1, tickets.1)

stamp_is : (ms : Members) (stamp : List ℕ × Name × ℕ × ℕ) → stamp_in (object ms) ≡ Ok stamp → IsStamp ms stamp.0 stamp.1 stamp.2 stamp.3
stamp_is ms stamp e =
    let key = step _ _ _ stamp e in
    let name = step _ _ _ stamp key.2 in
    let count = bound (count_in (object ms)) _ stamp name.2 in
    let owner = key_member_is _ key.0 key.1 in
    let match = match_member_is _ name.0 name.1 in
    let is = count_is ms count.0 count.1 in
    subst (λ s. IsStamp ms s.0 s.1 s.2 s.3) (last (key.0, name.0, count.0.0, count.0.1) stamp count.2) (record {
      owned = owner.0;
      named = match.0;
      numbers = is.0;
      counts = is.1;
      key_fits = owner.1;
      name_fits = match.1;
      at_fits = is.2;
      ticket_fits = is.3;
    })

abbrev submitted : Asked → List ℕ × Name × ℕ × ℕ → Submission
submitted asked stamp = record { name = stamp.1; key = stamp.0; number = stamp.2; ticket = stamp.3; asked = asked }

client_act_is : (ms : Members) (m : ClientMsg) → MembersAreCanonical ms → IsOfType ms (codes "act") → client_act_in (object ms) ≡ Ok m → Reads ms m
unfolding client_act_in act_names
client_act_is ms m c kind e =
    let known = past (has_extra act_names ms) ExtraField _ m e in
    let act = step _ _ _ m known.1 in
    let stamp = bound (stamp_in (object ms)) _ m act.2 in
    let asked = act_is (codes "act") ms act.0 c act.1 in
    let is = stamp_is ms stamp.0 stamp.1 in
    let row = row_is act_names ms (client_members (Act (submitted act.0 stamp.0))) c
    ((refl, (refl, (refl, (refl, (refl, tt))))), ((refl, (refl, (refl, (refl, tt)))), ((refl, (refl, (refl, tt))), ((refl, (refl, tt)), ((refl, tt), (tt, tt)))))) known.0 refl
    (asked.0, (is.owned, (is.named, (is.numbers, (is.counts, (text_is _ _ kind, tt)))))) in
    subst (Reads ms) (last (Act (submitted act.0 stamp.0)) m stamp.2) (inl row, (asked.1, is.key_fits, is.name_fits, is.at_fits, is.ticket_fits))

client_act_again : (s : Submission) → ClientFits (Act s) → client_act_in (object (client_members (Act s))) ≡ Ok (Act s)
unfolding client_act_in
client_act_again s h =
    rw (act_again s.asked h.0, key_member_again s.key h.1, match_member_again s.name h.2, natural_again 4294967295 s.number h.3, natural_again 4294967295 s.ticket h.4) refl

-- ---- any message

same_type : (kind other : List ℕ) (o : Option Data) → text_in o ≡ Ok kind → bytes_eq kind other ≡ true → text_in o ≡ Ok other
same_type kind other o is b = is ∙ ap (λ x. Ok x) ((bytes_eq-Decides kind other).0 b)

-- one row, or what the later ones give
either : (kind other : List ℕ) (row : Data → Result ClientMsg Refusal) (rest : Result ClientMsg Refusal) (ms : Members) (m : ClientMsg) → IsOfType ms kind
    → (IsOfType ms other → row (object ms) ≡ Ok m → Reads ms m) → (rest ≡ Ok m → Reads ms m) → cond (bytes_eq kind other) (row (object ms)) rest ≡ Ok m → Reads ms m
either kind other row rest ms m is here later e = by_test (bytes_eq kind other) refl e
  where
    by_test : (b : Bool) → bytes_eq kind other ≡ b → cond b (row (object ms)) rest ≡ Ok m → Reads ms m
    by_test true b e = here (same_type kind other (get_member (codes "type") ms) is b) e
    by_test false b e = later e

unknown : (ms : Members) (m : ClientMsg) → Err UnknownMessage ≡ good m → Reads ms m
unknown ms m e = absurd (cc)

lobby_by : (kind : List ℕ) (ms : Members) (m : ClientMsg) → MembersAreCanonical ms → IsOfType ms kind → lobby_as kind (object ms) ≡ Ok m → Reads ms m
lobby_by kind ms m c is e =
    either kind (codes "create") create_in _ ms m is (create_is ms m c)
    (either kind (codes "games") games_in _ ms m is (games_is ms m c)
    (either kind (codes "join") join_in _ ms m is (join_is ms m c)
    (either kind (codes "leave") leave_in _ ms m is (leave_is ms m c)
    (either kind (codes "look") look_in _ ms m is (look_is ms m c)
    (either kind (codes "matches") matches_in _ ms m is (matches_is ms m c)
    (either kind (codes "rename") rename_in _ ms m is (rename_is ms m c) (unknown ms m))))))) e

client_by : (r : Result (List ℕ) FieldFault) (ms : Members) (m : ClientMsg) → MembersAreCanonical ms → text_in (get_member (codes "type") ms) ≡ r → client_as r (object ms) ≡ Ok m → Reads ms m
client_by (Err fault) ms m c is e = absurd (cc)
client_by (Ok kind) ms m c is e =
    either kind (codes "act") client_act_in _ ms m is (client_act_is ms m c)
    (either kind (codes "sync") sync_in _ ms m is (sync_is ms m c)
    (either kind (codes "takeover") takeover_in _ ms m is (takeover_is ms m c) (lobby_by kind ms m c is))) e

client_is : (ms : Members) (m : ClientMsg) → MembersAreCanonical ms → client_in (object ms) ≡ Ok m → Reads ms m
unfolding client_in
client_is ms m c e = client_by (text_in (get_member (codes "type") ms)) ms m c refl e

client_again : (m : ClientMsg) → ClientFits m → client_in (object (client_members m)) ≡ Ok m
unfolding client_in games_in
client_again Games h = refl
client_again (Matches game) h = matches_again game h
client_again (Look name) h = look_again name h
client_again (Create game seats) h = create_again game seats h
client_again (Join name player seat) h = join_again name player seat h
client_again (Rename key name player seat) h = rename_again key name player seat h
client_again (Leave key name seat) h = leave_again key name seat h
client_again (Sync name None One) h = sync_again name None One h.0 h.1
client_again (Sync name None Two) h = sync_again name None Two h.0 h.1
client_again (Sync name (Some claim) One) h = sync_again name (Some claim) One h.0 h.1
client_again (Sync name (Some claim) Two) h = sync_again name (Some claim) Two h.0 h.1
client_again (Act s) h = client_act_again s h
client_again (Takeover name seat) h = takeover_again name seat h

client_said_again : (m : ClientMsg) → ClientFits m → client_in (object (said_members m)) ≡ Ok m
unfolding client_in
client_said_again (Sync name viewer protocol) h = said_again name viewer protocol h.0 h.1
client_said_again Games h = client_again Games h
client_said_again (Matches game) h = client_again (Matches game) h
client_said_again (Look name) h = client_again (Look name) h
client_said_again (Create game seats) h = client_again (Create game seats) h
client_said_again (Join name player seat) h = client_again (Join name player seat) h
client_said_again (Rename key name player seat) h = client_again (Rename key name player seat) h
client_said_again (Leave key name seat) h = client_again (Leave key name seat) h
client_said_again (Act s) h = client_again (Act s) h
client_said_again (Takeover name seat) h = client_again (Takeover name seat) h

-- ---- the line

line : (r : Result Members LineFault) (next : Members → Result ClientMsg Refusal) (m : ClientMsg) → (of_line r >>= next) ≡ Ok m → (ms : Members) × (r ≡ Ok ms) × (next ms ≡ Ok m)
line (Ok ms) next m e = (ms, refl, e)
line (Err fault) next m e = absurd (cc)

form : (text : List ℕ) (m : ClientMsg) (ms : Members) → IsLineOf 65536 text ms → Reads ms m → IsForm text m
form text m ms is (inl same, fits) = (inl (subst (IsLineOf 65536 text) same is), fits)
form text m ms is (inr same, fits) = (inr (subst (IsLineOf 65536 text) same is), fits)

-- what a line reads as, it is a form of
pub read_is : (text : List ℕ) (m : ClientMsg) → client_read text ≡ Ok m → IsForm text m
unfolding client_read
read_is text m e =
    let read = line (line_read 65536 text) (λ ms. client_in (object ms)) m e in
    let is = line_is 65536 text read.0 read.1 in
    form text m read.0 is (client_is read.0 m (canonical_line 65536 text read.0 is) read.2)

read_of : (text : List ℕ) (m : ClientMsg) (ms : Members) → IsLineOf 65536 text ms → client_in (object ms) ≡ Ok m → client_read text ≡ Ok m
unfolding client_read
read_of text m ms is e = rw (line_again 65536 text ms is) e

-- a line reads as what it is a form of
pub read_again : (text : List ℕ) (m : ClientMsg) → IsForm text m → client_read text ≡ Ok m
read_again text m (inl is, fits) = read_of text m (client_members m) is (client_again m fits)
read_again text m (inr is, fits) = read_of text m (said_members m) is (client_said_again m fits)
