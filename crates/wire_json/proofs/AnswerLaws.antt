-- The rows of answers, `again`, `refused` and `bye`: each reads as the message that it is the object of.
use Rattle.std.proofs.Common.{◌≡◌, ℕ, List, [], ◌∷◌, Option, Some, None, Ok, codes, refl, sym, ap, ◌∙◌, subst}
use Rattle.std.specs.Prelude.{Result}
use Rattle.serde_json.specs.Data.{Data, string, object, Members}
use Rattle.serde_json.specs.Find.{get_member}
use Rattle.json_tree.specs.Canonical.{MembersAreCanonical}
use Rattle.json_tree.specs.Fields.{text_in, natural_in}
use Rattle.json_tree.specs.Names.{has_extra}
use Rattle.json_tree.proofs.Rows.{row_is}
use Rattle.game_sheet.specs.declared.act.Bye.{Bye}
use Rattle.game_sheet.specs.declared.act.Bye.TheVariants.{Left, Lagging}
use Rattle.wire_json.specs.ByeText.{bye_text, bye_from}
use Rattle.sheet_json.specs.Seats.{IsWithin, natural_or_null, or_null}
use Rattle.sheet_json.proofs.SeatLaws.{bound, natural_is, natural_again, Holds, or_null_is}
use Rattle.wire_json.specs.RefusalText.{member_text, member_table, member_from, refusal_text, refusal_field, refusal_table, refusal_from, with_field}
use Rattle.wire_json.specs.ServerText.{field_or_null, server_members}
use Rattle.wire_json.specs.ServerReading.{ServerFits, member_in, refusal_in, why_in, again_in, refused_in, bye_in}
use Rattle.wire_json.specs.Refusals as fault
use Rattle.wire_json.specs.declared.refusal.Member.{Member}
use Rattle.wire_json.specs.declared.refusal.Member.TheVariants as part
use Rattle.wire_json.specs.declared.refusal.Refusal.{Refusal}
use Rattle.wire_json.specs.declared.refusal.Refusal.TheVariants.{BadMessage, NoGame, Full, BadSeats, NoStart, NoMatch, SeatTaken, NoSeat, BadName, Unauthorized, AlreadyAttached, NotAttached, NotABot}
use Rattle.wire_json.specs.declared.server.ServerMsg.{ServerMsg}
use Rattle.wire_json.specs.declared.server.ServerMsg.TheVariants as to_client
use Rattle.wire_json.proofs.FieldLaws.{step, past, formed, text_is}
use Rattle.wire_json.proofs.Tables.{table_is}
use Rattle.std.specs.Option.{option_map_or}

abbrev good : ServerMsg → Result ServerMsg fault.Refusal
good x = Ok x

last : (x y : ServerMsg) → good x ≡ good y → x ≡ y
last x y e = cc

-- ---- forms

pub within_is : (most : ℕ) (o : Option Data) (n : Option ℕ) → Holds (natural_in most) o n → (o ≡ Some (natural_or_null n)) × IsWithin most n
within_is most o None h = (h, tt)
within_is most o (Some n) h = natural_is most o n h

pub within_again : (most : ℕ) (n : Option ℕ) → IsWithin most n → or_null (natural_in most) (Some (natural_or_null n)) ≡ Ok n
within_again most None h = refl
within_again most (Some n) h = rw (natural_again most n h) refl

member_is : (o : Option Data) (m : Member) → member_in o ≡ Ok m → o ≡ Some (string (member_text m))
member_is o m e =
    let t = bound (text_in o) _ m e in
    text_is o t.0 t.1 ∙ ap (λ x. Some (string x)) (table_is member_text t.0 member_table m (refl, (refl, (refl, (refl, (refl, (refl, (refl, (refl, (refl, (refl, (refl, (refl, tt)))))))))))) (formed (member_from t.0) m t.2))

field_is : (o : Option Data) (f : Option Member) → Holds member_in o f → o ≡ Some (field_or_null f)
field_is o None h = h
field_is o (Some m) h = member_is o m h

field_again : (f : Option Member) → or_null member_in (Some (field_or_null f)) ≡ Ok f
field_again None = refl
field_again (Some part.Extra) = refl
field_again (Some part.Kind) = refl
field_again (Some part.Act) = refl
field_again (Some part.Game) = refl
field_again (Some part.Key) = refl
field_again (Some part.Match) = refl
field_again (Some part.Name) = refl
field_again (Some part.Number) = refl
field_again (Some part.Protocol) = refl
field_again (Some part.Seat) = refl
field_again (Some part.Seats) = refl
field_again (Some part.Ticket) = refl

word_is : (o : Option Data) (r : Refusal) → refusal_in o ≡ Ok r → o ≡ Some (string (refusal_text r))
word_is o r e =
    let t = bound (text_in o) _ r e in
    text_is o t.0 t.1 ∙ ap (λ x. Some (string x)) (table_is refusal_text t.0 refusal_table r (refl, (refl, (refl, (refl, (refl, (refl, (refl, (refl, (refl, (refl, (refl, (refl, (refl, tt))))))))))))) (formed (refusal_from t.0) r t.2))

-- what points at a field is that refusal with that field
record IsPointed (r : Refusal) (f : Option Member) (x : Refusal) : Type 0 where
  word : refusal_text r ≡ refusal_text x
  field : f ≡ refusal_field x

unpointed_is : (r : Refusal) (f : Option Member) (x : Refusal) → refusal_field r ≡ None → option_map_or (λ field. None) f (Some r) ≡ Some x → IsPointed r f x
unpointed_is r None x h e = let same : r ≡ x = cc in subst (IsPointed r None) same (record { word = refl; field = sym h })
unpointed_is r (Some m) x h e = absurd (cc)

pointed_is : (r : Refusal) (f : Option Member) (x : Refusal) → with_field r f ≡ Some x → IsPointed r f x
pointed_is (BadMessage old) f x e = let same : BadMessage f ≡ x = cc in subst (IsPointed (BadMessage old) f) same (record { word = refl; field = refl })
pointed_is NoGame f x e = unpointed_is NoGame f x refl e
pointed_is Full f x e = unpointed_is Full f x refl e
pointed_is BadSeats f x e = unpointed_is BadSeats f x refl e
pointed_is NoStart f x e = unpointed_is NoStart f x refl e
pointed_is NoMatch f x e = unpointed_is NoMatch f x refl e
pointed_is SeatTaken f x e = unpointed_is SeatTaken f x refl e
pointed_is NoSeat f x e = unpointed_is NoSeat f x refl e
pointed_is BadName f x e = unpointed_is BadName f x refl e
pointed_is Unauthorized f x e = unpointed_is Unauthorized f x refl e
pointed_is AlreadyAttached f x e = unpointed_is AlreadyAttached f x refl e
pointed_is NotAttached f x e = unpointed_is NotAttached f x refl e
pointed_is NotABot f x e = unpointed_is NotABot f x refl e

why_from : (s : List ℕ) (why : Bye) → bye_from s ≡ Some why → s ≡ bye_text why
why_from s why e = table_is bye_text s ((codes "left", Left) ∷ (codes "lagging", Lagging) ∷ []) why (refl, (refl, tt)) e

why_is : (o : Option Data) (why : Bye) → why_in o ≡ Ok why → o ≡ Some (string (bye_text why))
why_is o why e = let t = bound (text_in o) _ why e in text_is o t.0 t.1 ∙ ap (λ x. Some (string x)) (why_from t.0 why (formed (bye_from t.0) why t.2))

-- ---- rows

again_names : List (List ℕ)
again_names = codes "ticket" ∷ codes "type" ∷ []

pub again_is : (ms : Members) (m : ServerMsg) → MembersAreCanonical ms → text_in (get_member (codes "type") ms) ≡ Ok (codes "again") → again_in (object ms) ≡ Ok m → (ms ≡ server_members m) × ServerFits m
unfolding again_in again_names
again_is ms m c kind e =
    let known = past (has_extra again_names ms) fault.ExtraField _ m e in
    let ticket = step _ _ _ m known.1 in
    let count = within_is 4294967295 _ ticket.0 (or_null_is (natural_in 4294967295) _ ticket.0 ticket.1) in
    let row = row_is again_names ms (server_members (to_client.Again ticket.0)) c ((refl, tt), (tt, tt)) known.0 refl (count.0, (text_is _ _ kind, tt)) in
    subst (λ x. (ms ≡ server_members x) × ServerFits x) (last (to_client.Again ticket.0) m ticket.2) (row, count.1)

refused_names : List (List ℕ)
refused_names = codes "field" ∷ codes "reason" ∷ codes "type" ∷ []

pub refused_is : (ms : Members) (m : ServerMsg) → MembersAreCanonical ms → text_in (get_member (codes "type") ms) ≡ Ok (codes "refused") → refused_in (object ms) ≡ Ok m → (ms ≡ server_members m) × ServerFits m
unfolding refused_in refused_names
refused_is ms m c kind e =
    let known = past (has_extra refused_names ms) fault.ExtraField _ m e in
    let field = step _ _ _ m known.1 in
    let reason = step _ _ _ m field.2 in
    let refusal = step _ _ _ m reason.2 in
    let pointed = pointed_is reason.0 field.0 refusal.0 (formed (with_field reason.0 field.0) refusal.0 refusal.1) in
    let points = field_is _ field.0 (or_null_is member_in _ field.0 field.1) ∙ ap (λ f. Some (field_or_null f)) pointed.field in
    let word = word_is _ reason.0 reason.1 ∙ ap (λ w. Some (string w)) pointed.word in
    let row = row_is refused_names ms (server_members (to_client.Refused refusal.0)) c ((refl, (refl, tt)), ((refl, tt), (tt, tt))) known.0 refl (points, (word, (text_is _ _ kind, tt))) in
    subst (λ x. (ms ≡ server_members x) × ServerFits x) (last (to_client.Refused refusal.0) m refusal.2) (row, tt)

pub refused_again : (r : Refusal) → refused_in (object (server_members (to_client.Refused r))) ≡ Ok (to_client.Refused r)
unfolding refused_in
refused_again (BadMessage f) = rw (field_again f) refl
refused_again NoGame = refl
refused_again Full = refl
refused_again BadSeats = refl
refused_again NoStart = refl
refused_again NoMatch = refl
refused_again SeatTaken = refl
refused_again NoSeat = refl
refused_again BadName = refl
refused_again Unauthorized = refl
refused_again AlreadyAttached = refl
refused_again NotAttached = refl
refused_again NotABot = refl

bye_names : List (List ℕ)
bye_names = codes "type" ∷ codes "why" ∷ []

pub bye_is : (ms : Members) (m : ServerMsg) → MembersAreCanonical ms → text_in (get_member (codes "type") ms) ≡ Ok (codes "bye") → bye_in (object ms) ≡ Ok m → (ms ≡ server_members m) × ServerFits m
unfolding bye_in bye_names
bye_is ms m c kind e =
    let known = past (has_extra bye_names ms) fault.ExtraField _ m e in
    let why = step _ _ _ m known.1 in
    let row = row_is bye_names ms (server_members (to_client.Bye why.0)) c ((refl, tt), (tt, tt)) known.0 refl (text_is _ _ kind, (why_is _ why.0 why.1, tt)) in
    subst (λ x. (ms ≡ server_members x) × ServerFits x) (last (to_client.Bye why.0) m why.2) (row, tt)

pub bye_again : (why : Bye) → bye_in (object (server_members (to_client.Bye why))) ≡ Ok (to_client.Bye why)
unfolding bye_in
bye_again Left = refl
bye_again Lagging = refl
