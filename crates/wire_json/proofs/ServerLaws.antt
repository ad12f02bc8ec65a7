-- A line to a client reads as the message that it is a form of, and as no other.
use Rattle.std.proofs.Common.{◌≡◌, ◌≤◌, ℕ, List, [], ◌∷◌, Bool, true, false, cond, ◌⊎◌, inl, inr, Option, Some, None, Ok, Err, bytes_eq, codes, refl, ap, ◌∙◌, subst, arith}
use Rattle.std.proofs.lemmas.Bool.{leb-true}
use Rattle.std.proofs.lemmas.Slice.Eq.{bytes_eq-Decides}
use Rattle.std.specs.Prelude.{Result, nat_le, IfOk}
use Rattle.serde_json.specs.Data.{Data, string, object, Members}
use Rattle.serde_json.specs.Find.{get_member}
use Rattle.json_tree.specs.Canonical.{MembersAreCanonical}
use Rattle.json_tree.specs.Fields.{text_in, natural_in}
use Rattle.json_tree.specs.Lines.{text_read, IsTextOf}
use Rattle.json_tree.specs.Names.{has_extra}
use Rattle.json_tree.specs.Steps.{◌>>=◌}
use Rattle.json_tree.specs.declared.fields.FieldFault.{FieldFault}
use Rattle.json_tree.specs.declared.fields.FieldFault.TheVariants.{OutOfRange}
use Rattle.json_tree.specs.declared.lines.LineFault.{LineFault}
use Rattle.json_tree.proofs.LineLaws.{text_is as whole_text_is, text_again, canonical_text}
use Rattle.json_tree.proofs.Rows.{row_is}
use Rattle.game_sheet.specs.MatchName.{Name}
use Rattle.sheet_json.specs.Seats.{natural, natural_or_null}
use Rattle.wire_json.specs.MatchText.{match_text}
use Rattle.wire_json.specs.ReasonText.{reason_text}
use Rattle.wire_json.specs.ServerText.{server_members}
use Rattle.wire_json.specs.ServerReading.{ServerFits, IsServerForm, reason_table, reason_from, reason_in, protocol_in, synced_in, update_in, ok_in, no_in, again_in, answer_as, server_as, server_in, server_read}
use Rattle.wire_json.specs.Refusals.{Refusal, ExtraField, UnknownMessage, Gives, of_line}
use Rattle.wire_json.specs.declared.wire_no.WireNo.{WireNo}
use Rattle.wire_json.specs.declared.protocol.Protocol.{Protocol}
use Rattle.wire_json.specs.declared.protocol.Protocol.TheVariants as protocol
use Rattle.wire_json.specs.declared.reason.Reason.{Reason}
use Rattle.wire_json.specs.declared.reason.Reason.TheVariants.{NoMatch, Unauthorized, GameOver, MatchFull, CannotUndoNow, NotActive, UnknownMove, WrongNumber, NothingToUndo, NothingToRedo, NotYours, NotUndoable, InvalidMove, TooEarly, TooManyWords, TooManyEvents}
use Rattle.wire_json.specs.declared.server.ServerMsg.{ServerMsg}
use Rattle.wire_json.specs.declared.server.ServerMsg.TheVariants as to_client
use Rattle.wire_json.proofs.AnswerLaws.{within_is, within_again, again_is, refused_is, bye_is, refused_again, bye_again}
use Rattle.wire_json.proofs.ChangeLaws.{change_is, change_again}
use Rattle.wire_json.proofs.LobbyLaws.{games_is, games_again, matches_is, matches_again, match_is, match_again, created_is, created_again, joined_is, joined_again, renamed_is, renamed_again, left_is, left_again, asked_is, asked_again}
use Rattle.wire_json.proofs.Tables.{table_is}
use Rattle.wire_json.proofs.Trees.{tree_is}
use Rattle.wire_json.proofs.FieldLaws.{step, past, formed, text_is, match_member_is, match_member_again}
use Rattle.sheet_json.proofs.SeatLaws.{bound, tested, natural_is, natural_again, or_null_is}

abbrev good : ServerMsg → Result ServerMsg Refusal
good x = Ok x

last : (x y : ServerMsg) → good x ≡ good y → x ≡ y
last x y e = cc

-- ---- forms

reason_is : (s : List ℕ) (r : Reason) → reason_from s ≡ Some r → s ≡ reason_text r
reason_is s r e = table_is reason_text s reason_table r (refl, (refl, (refl, (refl, (refl, (refl, (refl, (refl, (refl, (refl, (refl, (refl, (refl, (refl, (refl, (refl, tt)))))))))))))))) e

reason_again : (r : Reason) → reason_from (reason_text r) ≡ Some r
reason_again NoMatch = refl
reason_again Unauthorized = refl
reason_again GameOver = refl
reason_again MatchFull = refl
reason_again CannotUndoNow = refl
reason_again NotActive = refl
reason_again UnknownMove = refl
reason_again WrongNumber = refl
reason_again NothingToUndo = refl
reason_again NothingToRedo = refl
reason_again NotYours = refl
reason_again NotUndoable = refl
reason_again InvalidMove = refl
reason_again TooEarly = refl
reason_again TooManyWords = refl
reason_again TooManyEvents = refl

reason_member_is : (o : Option Data) (r : Reason) → reason_in o ≡ Ok r → o ≡ Some (string (reason_text r))
reason_member_is o r e = let t = bound (text_in o) _ r e in text_is o t.0 t.1 ∙ ap (λ x. Some (string x)) (reason_is t.0 r (formed (reason_from t.0) r t.2))

two_is : (n : ℕ) → n ≤ 2 → 2 ≤ n → n ≡ 2
two_is n h i = omega arith

-- protocol 1 is not named
abbrev named : Protocol → Option Data
named protocol.One = None
named protocol.Two = Some (natural 2)

protocol_is : (o : Option Data) (p : Protocol) → protocol_in o ≡ Ok p → o ≡ named p
protocol_is None p e = let same : protocol.One ≡ p = cc in ap named same
protocol_is (Some d) p e =
    let found = bound (natural_in 2 (Some d)) _ p e in
    let t = tested (nat_le 2 found.0) protocol.Two p OutOfRange found.2 in
    let is = natural_is 2 (Some d) found.0 found.1 in
    let two = two_is found.0 is.1 (leb-true 2 found.0 t.0) in
    is.0 ∙ ap (λ n. Some (natural n)) two ∙ ap named t.1

-- ---- rows

no_names : List (List ℕ)
no_names = codes "number" ∷ codes "reason" ∷ codes "ticket" ∷ codes "type" ∷ []

no_is : (ms : Members) (m : ServerMsg) → MembersAreCanonical ms → text_in (get_member (codes "type") ms) ≡ Ok (codes "no") → no_in (object ms) ≡ Ok m → (ms ≡ server_members m) × ServerFits m
unfolding no_in no_names
no_is ms m c kind e =
    let known = past (has_extra no_names ms) ExtraField _ m e in
    let at = step _ _ _ m known.1 in
    let reason = step _ _ _ m at.2 in
    let ticket = step _ _ _ m reason.2 in
    let number = natural_is 4294967295 _ at.0 at.1 in
    let count = natural_is 4294967295 _ ticket.0 ticket.1 in
    let row = row_is no_names ms (server_members (to_client.No at.0 reason.0 ticket.0)) c ((refl, (refl, (refl, tt))), ((refl, (refl, tt)), ((refl, tt), (tt, tt)))) known.0 refl
    (number.0, (reason_member_is _ reason.0 reason.1, (count.0, (text_is _ _ kind, tt)))) in
    subst (λ x. (ms ≡ server_members x) × ServerFits x) (last (to_client.No at.0 reason.0 ticket.0) m ticket.2) (row, (number.1, count.1))

ok_names : List (List ℕ)
ok_names = codes "number" ∷ codes "ticket" ∷ codes "type" ∷ []

ok_is : (ms : Members) (m : ServerMsg) → MembersAreCanonical ms → text_in (get_member (codes "type") ms) ≡ Ok (codes "ok") → ok_in (object ms) ≡ Ok m → (ms ≡ server_members m) × ServerFits m
unfolding ok_in ok_names
ok_is ms m c kind e =
    let known = past (has_extra ok_names ms) ExtraField _ m e in
    let at = step _ _ _ m known.1 in
    let ticket = step _ _ _ m at.2 in
    let number = natural_is 4294967295 _ at.0 at.1 in
    let count = natural_is 4294967295 _ ticket.0 ticket.1 in
    let row = row_is ok_names ms (server_members (to_client.Ok at.0 ticket.0)) c ((refl, (refl, tt)), ((refl, tt), (tt, tt))) known.0 refl
    (number.0, (count.0, (text_is _ _ kind, tt))) in
    subst (λ x. (ms ≡ server_members x) × ServerFits x) (last (to_client.Ok at.0 ticket.0) m ticket.2) (row, (number.1, count.1))

sync_names : List (List ℕ)
sync_names = codes "match" ∷ codes "protocol" ∷ codes "seat" ∷ codes "snapshot" ∷ codes "type" ∷ []

synced_row : (ms : Members) (name : Name) (seat : Option ℕ) (p : Protocol) (snapshot : Data) → MembersAreCanonical ms → has_extra sync_names ms ≡ false
    → get_member (codes "match") ms ≡ Some (string (match_text name)) → get_member (codes "protocol") ms ≡ named p → get_member (codes "seat") ms ≡ Some (natural_or_null seat)
    → get_member (codes "snapshot") ms ≡ Some snapshot → get_member (codes "type") ms ≡ Some (string (codes "sync")) → ms ≡ server_members (to_client.Sync name seat p snapshot)
unfolding sync_names
synced_row ms name seat protocol.One snapshot c known match says place shown kind =
    row_is sync_names ms (server_members (to_client.Sync name seat protocol.One snapshot)) c
    ((refl, (refl, (refl, tt))), ((refl, (refl, tt)), ((refl, tt), (tt, tt)))) known refl (match, (says, (place, (shown, (kind, tt)))))
synced_row ms name seat protocol.Two snapshot c known match says place shown kind =
    row_is sync_names ms (server_members (to_client.Sync name seat protocol.Two snapshot)) c
    ((refl, (refl, (refl, (refl, tt)))), ((refl, (refl, (refl, tt))), ((refl, (refl, tt)), ((refl, tt), (tt, tt))))) known refl (match, (says, (place, (shown, (kind, tt)))))

synced_is : (ms : Members) (m : ServerMsg) → MembersAreCanonical ms → text_in (get_member (codes "type") ms) ≡ Ok (codes "sync") → synced_in (object ms) ≡ Ok m → (ms ≡ server_members m) × ServerFits m
unfolding synced_in sync_names
synced_is ms m c kind e =
    let known = past (has_extra sync_names ms) ExtraField _ m e in
    let name = step _ _ _ m known.1 in
    let protocol = step _ _ _ m name.2 in
    let seat = step _ _ _ m protocol.2 in
    let snapshot = step _ _ _ m seat.2 in
    let match = match_member_is _ name.0 name.1 in
    let place = within_is 255 _ seat.0 (or_null_is (natural_in 255) _ seat.0 seat.1) in
    let row = synced_row ms name.0 seat.0 protocol.0 snapshot.0 c known.0 match.0 (protocol_is _ protocol.0 protocol.1) place.0 (tree_is _ snapshot.0 snapshot.1) (text_is _ _ kind) in
    subst (λ x. (ms ≡ server_members x) × ServerFits x) (last (to_client.Sync name.0 seat.0 protocol.0 snapshot.0) m snapshot.2) (row, (match.1, place.1))

update_names : List (List ℕ)
update_names = codes "ctx" ∷ codes "entry" ∷ codes "g" ∷ codes "number" ∷ codes "type" ∷ []

update_is : (ms : Members) (m : ServerMsg) → MembersAreCanonical ms → text_in (get_member (codes "type") ms) ≡ Ok (codes "update") → update_in (object ms) ≡ Ok m → (ms ≡ server_members m) × ServerFits m
unfolding update_in update_names
update_is ms m c kind e =
    let known = past (has_extra update_names ms) ExtraField _ m e in
    let ctx = step _ _ _ m known.1 in
    let entry = step _ _ _ m ctx.2 in
    let g = step _ _ _ m entry.2 in
    let at = step _ _ _ m g.2 in
    let number = natural_is 4294967295 _ at.0 at.1 in
    let row = row_is update_names ms (server_members (to_client.Update ctx.0 entry.0 g.0 at.0)) c
    ((refl, (refl, (refl, (refl, tt)))), ((refl, (refl, (refl, tt))), ((refl, (refl, tt)), ((refl, tt), (tt, tt))))) known.0 refl
    (tree_is _ ctx.0 ctx.1, (tree_is _ entry.0 entry.1, (tree_is _ g.0 g.1, (number.0, (text_is _ _ kind, tt))))) in
    subst (λ x. (ms ≡ server_members x) × ServerFits x) (last (to_client.Update ctx.0 entry.0 g.0 at.0) m at.2) (row, number.1)

-- ---- any message

either : (b : Bool) (x rest : Result ServerMsg Refusal) (m : ServerMsg) → cond b x rest ≡ Ok m → ((b ≡ true) × (x ≡ Ok m)) ⊎ (rest ≡ Ok m)
either true x rest m e = inl (refl, e)
either false x rest m e = inr e

onlyif : (b : Bool) (x : Result ServerMsg Refusal) (refusal : Refusal) (m : ServerMsg) → cond b x (Err refusal) ≡ Ok m → (b ≡ true) × (x ≡ Ok m)
onlyif true x refusal m e = (refl, e)
onlyif false x refusal m e = absurd (cc)

kind_is : (kind name : List ℕ) (ms : Members) → text_in (get_member (codes "type") ms) ≡ Ok kind → bytes_eq kind name ≡ true → text_in (get_member (codes "type") ms) ≡ Ok name
kind_is kind name ms is e = is ∙ ap (λ x. Ok x) ((bytes_eq-Decides kind name).0 e)

answer_by : (kind : List ℕ) (ms : Members) (m : ServerMsg) → MembersAreCanonical ms → text_in (get_member (codes "type") ms) ≡ Ok kind → answer_as kind (object ms) ≡ Ok m → (ms ≡ server_members m) × ServerFits m
answer_by kind ms m c is e = elim (either (bytes_eq kind (codes "asked")) _ _ m e) [
  | inl p ↦ asked_is ms m c (kind_is kind _ ms is p.0) p.1
  | inr e1 ↦ elim (either (bytes_eq kind (codes "created")) _ _ m e1) [
    | inl p ↦ created_is ms m c (kind_is kind _ ms is p.0) p.1
    | inr e2 ↦ elim (either (bytes_eq kind (codes "games")) _ _ m e2) [
      | inl p ↦ games_is ms m c (kind_is kind _ ms is p.0) p.1
      | inr e3 ↦ elim (either (bytes_eq kind (codes "joined")) _ _ m e3) [
        | inl p ↦ joined_is ms m c (kind_is kind _ ms is p.0) p.1
        | inr e4 ↦ elim (either (bytes_eq kind (codes "left")) _ _ m e4) [
          | inl p ↦ left_is ms m c (kind_is kind _ ms is p.0) p.1
          | inr e5 ↦ elim (either (bytes_eq kind (codes "match")) _ _ m e5) [
            | inl p ↦ match_is ms m c (kind_is kind _ ms is p.0) p.1
            | inr e6 ↦ elim (either (bytes_eq kind (codes "matches")) _ _ m e6) [
              | inl p ↦ matches_is ms m c (kind_is kind _ ms is p.0) p.1
              | inr e7 ↦ let renamed = onlyif (bytes_eq kind (codes "renamed")) _ UnknownMessage m e7 in renamed_is ms m c (kind_is kind _ ms is renamed.0) renamed.1
            ]
          ]
        ]
      ]
    ]
  ]
]

server_by : (r : Result (List ℕ) FieldFault) (ms : Members) (m : ServerMsg) → MembersAreCanonical ms → text_in (get_member (codes "type") ms) ≡ r → server_as r (object ms) ≡ Ok m → (ms ≡ server_members m) × ServerFits m
server_by (Err fault) ms m c is e = absurd (cc)
server_by (Ok kind) ms m c is e = elim (either (bytes_eq kind (codes "again")) _ _ m e) [
  | inl p ↦ again_is ms m c (kind_is kind _ ms is p.0) p.1
  | inr e1 ↦ elim (either (bytes_eq kind (codes "bye")) _ _ m e1) [
    | inl p ↦ bye_is ms m c (kind_is kind _ ms is p.0) p.1
    | inr e2 ↦ elim (either (bytes_eq kind (codes "change")) _ _ m e2) [
      | inl p ↦ change_is ms m c (kind_is kind _ ms is p.0) p.1
      | inr e3 ↦ elim (either (bytes_eq kind (codes "no")) _ _ m e3) [
        | inl p ↦ no_is ms m c (kind_is kind _ ms is p.0) p.1
        | inr e4 ↦ elim (either (bytes_eq kind (codes "ok")) _ _ m e4) [
          | inl p ↦ ok_is ms m c (kind_is kind _ ms is p.0) p.1
          | inr e5 ↦ elim (either (bytes_eq kind (codes "refused")) _ _ m e5) [
            | inl p ↦ refused_is ms m c (kind_is kind _ ms is p.0) p.1
            | inr e6 ↦ elim (either (bytes_eq kind (codes "sync")) _ _ m e6) [
              | inl p ↦ synced_is ms m c (kind_is kind _ ms is p.0) p.1
              | inr e7 ↦ elim (either (bytes_eq kind (codes "update")) _ _ m e7) [
                | inl p ↦ update_is ms m c (kind_is kind _ ms is p.0) p.1
                | inr e8 ↦ answer_by kind ms m c is e8
              ]
            ]
          ]
        ]
      ]
    ]
  ]
]

server_is : (ms : Members) (m : ServerMsg) → MembersAreCanonical ms → server_in (object ms) ≡ Ok m → (ms ≡ server_members m) × ServerFits m
unfolding server_in
server_is ms m c e = server_by (text_in (get_member (codes "type") ms)) ms m c refl e

server_again : (m : ServerMsg) → ServerFits m → server_in (object (server_members m)) ≡ Ok m
unfolding server_in synced_in update_in ok_in no_in again_in
server_again (to_client.Games names) h = games_again names h
server_again (to_client.Matches rows) h = matches_again rows h
server_again (to_client.Match row) h = match_again row h
server_again (to_client.Created name) h = created_again name h
server_again (to_client.Joined key name seat) h = joined_again key name seat h
server_again (to_client.Renamed name seat) h = renamed_again name seat h
server_again (to_client.Left name seat) h = left_again name seat h
server_again (to_client.Asked name seat) h = asked_again name seat h
server_again (to_client.Change ctx entry gone put at) h = change_again ctx entry gone put at h
server_again (to_client.Sync name seat protocol.One snapshot) h = rw (match_member_again name h.0, within_again 255 seat h.1) refl
server_again (to_client.Sync name seat protocol.Two snapshot) h = rw (match_member_again name h.0, within_again 255 seat h.1) refl
server_again (to_client.Update ctx entry g at) h = rw (natural_again 4294967295 at h) refl
server_again (to_client.Ok at ticket) h = rw (natural_again 4294967295 at h.0, natural_again 4294967295 ticket h.1) refl
server_again (to_client.Again ticket) h = rw (within_again 4294967295 ticket h) refl
server_again (to_client.Refused refusal) h = refused_again refusal
server_again (to_client.Bye why) h = bye_again why
server_again (to_client.No at reason ticket) h = rw (natural_again 4294967295 at h.0, reason_again reason, natural_again 4294967295 ticket h.1) refl

-- ---- the line

line : (r : Result Members LineFault) (next : Members → Result ServerMsg Refusal) (m : ServerMsg) → (of_line r >>= next) ≡ Ok m → (ms : Members) × (r ≡ Ok ms) × (next ms ≡ Ok m)
line (Ok ms) next m e = (ms, refl, e)
line (Err fault) next m e = absurd (cc)

pub server_read_is : (text : List ℕ) (m : ServerMsg) → server_read text ≡ Ok m → IsServerForm text m
unfolding server_read
server_read_is text m e =
    let read = line (text_read text) (λ ms. server_in (object ms)) m e in
    let is = whole_text_is text read.0 read.1 in
    let message = server_is read.0 m (canonical_text text read.0 is) read.2 in
    (subst (IsTextOf text) message.0 is, message.1)

pub server_read_again : (text : List ℕ) (m : ServerMsg) → IsServerForm text m → server_read text ≡ Ok m
unfolding server_read
server_read_again text m h = rw (text_again text (server_members m) h.0) (server_again m h.1)

pub what_is_read : (text : List ℕ) (r : Result ServerMsg WireNo) → Gives r (server_read text) → IfOk r (λ m. IsServerForm text m)
what_is_read text (Ok m) h = server_read_is text m h
what_is_read text (Err e) h = tt
