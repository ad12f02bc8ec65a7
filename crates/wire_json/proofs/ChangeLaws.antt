-- A change reads as the message that it is the object of.
use Rattle.std.proofs.Common.{◌≡◌, ℕ, ◌≤◌, ◌+◌, ◌-◌, ◌==◌, List, [], ◌∷◌, Bool, true, false, cond, Option, Some, None, Ok, codes, refl, ap, ◌∙◌, subst, arith, eq-eqb}
use Rattle.std.proofs.lemmas.Bool.{le-leb, leb-true, eqb-true}
use Rattle.std.specs.Prelude.{nat_le, Result}
use Rattle.serde_json.specs.Data.{Data, null, boolean, number, string, array, object, Members, member, no_members}
use Rattle.serde_json.specs.Find.{get_member}
use Rattle.json_tree.specs.Canonical.{IsCanonical, MembersAreCanonical}
use Rattle.json_tree.specs.Fields.{text_in, natural_in}
use Rattle.json_tree.specs.Names.{has_extra}
use Rattle.json_tree.specs.declared.fields.FieldFault.TheVariants.{WrongKind, OutOfRange}
use Rattle.json_tree.proofs.Rows.{row_is, canonical_member}
use Rattle.sheet_json.specs.Seats.{natural}
use Rattle.sheet_json.proofs.SeatLaws.{bound, tested, natural_is, natural_again}
use Rattle.wire_json.specs.Acts.{is_object, object_member_in}
use Rattle.wire_json.specs.ChangeReading.{is_texts, if_holds, parts_of, parts_in, later_in, before_in}
use Rattle.wire_json.specs.Refusals.{Refusal, ExtraField}
use Rattle.wire_json.specs.ServerReading.{ServerFits, change_in}
use Rattle.wire_json.specs.ServerText.{parts_data, server_members}
use Rattle.wire_json.specs.declared.server.ServerMsg.{ServerMsg}
use Rattle.wire_json.specs.declared.server.ServerMsg.TheVariants as to_client
use Rattle.wire_json.proofs.ActLaws.{chained, mapped}
use Rattle.wire_json.proofs.FieldLaws.{step, past, formed, text_is}
use Rattle.wire_json.proofs.Trees.{tree_is}

abbrev good : ServerMsg → Result ServerMsg Refusal
good x = Ok x

last : (x y : ServerMsg) → good x ≡ good y → x ≡ y
last x y e = cc

-- ---- forms

object_member_is : (o : Option Data) (d : Data) → object_member_in o ≡ Ok d → (o ≡ Some d) × (is_object d ≡ true)
object_member_is None d e = absurd (cc)
object_member_is (Some f) d e =
    let t = tested (is_object f) f d WrongKind e in
    (ap Some t.1, subst (λ x. is_object x ≡ true) t.1 t.0)

object_member_again : (d : Data) → is_object d ≡ true → object_member_in (Some d) ≡ Ok d
object_member_again d h = rw h refl

held_by : (b : Bool) (f d : Data) → cond b (Some f) None ≡ Some d → (b ≡ true) × (f ≡ d)
held_by true f d e = (refl, cc)
held_by false f d e = absurd (cc)

held : (test : Data → Bool) (o : Option Data) (d : Data) → if_holds test o ≡ Some d → (o ≡ Some d) × (test d ≡ true)
held test None d e = absurd (cc)
held test (Some f) d e =
    let t = held_by (test f) f d e in
    (ap Some t.1, subst (λ x. test x ≡ true) t.1 t.0)

held_again : (test : Data → Bool) (d : Data) → test d ≡ true → if_holds test (Some d) ≡ Some d
held_again test d h = rw h refl

part_names : List (List ℕ)
part_names = codes "gone" ∷ codes "put" ∷ []

unless : {A : Type 0} (b : Bool) (rest : Option A) (y : A) → cond b None rest ≡ Some y → (b ≡ false) × (rest ≡ Some y)
unless true rest y e = absurd (cc)
unless false rest y e = (refl, e)

parts_are : (d : Data) (parts : Data × Data) → IsCanonical d → parts_of d ≡ Some parts → (d ≡ parts_data parts.0 parts.1) × (is_texts parts.0 ≡ true) × (is_object parts.1 ≡ true)
unfolding parts_of part_names
parts_are null parts c e = absurd (cc)
parts_are (boolean b) parts c e = absurd (cc)
parts_are (number n) parts c e = absurd (cc)
parts_are (string s) parts c e = absurd (cc)
parts_are (array ds) parts c e = absurd (cc)
parts_are (object ms) parts c e =
    let known = unless (has_extra part_names ms) _ parts e in
    let gone = chained _ (if_holds is_texts (get_member (codes "gone") ms)) parts known.1 in
    let put = mapped _ (if_holds is_object (get_member (codes "put") ms)) parts gone.2 in
    let names = held is_texts (get_member (codes "gone") ms) gone.0 gone.1 in
    let members = held is_object (get_member (codes "put") ms) put.0 put.1 in
    let row = row_is part_names ms (member (codes "gone") gone.0 (member (codes "put") put.0 no_members)) c ((refl, tt), (tt, tt)) known.0 refl (names.0, (members.0, tt)) in
    subst (λ x. (object ms ≡ parts_data x.0 x.1) × (is_texts x.0 ≡ true) × (is_object x.1 ≡ true)) put.2 (ap object row, names.1, members.1)

parts_again : (gone put : Data) → is_texts gone ≡ true → is_object put ≡ true → parts_in (Some (parts_data gone put)) ≡ Ok (gone, put)
unfolding parts_of
parts_again gone put h i = rw (held_again is_texts gone h, held_again is_object put i) refl

parts_member_are : (o : Option Data) (parts : Data × Data) → ((d : Data) → o ≡ Some d → IsCanonical d) → parts_in o ≡ Ok parts
    → (o ≡ Some (parts_data parts.0 parts.1)) × (is_texts parts.0 ≡ true) × (is_object parts.1 ≡ true)
parts_member_are o parts c e =
    let found = bound (object_member_in o) _ parts e in
    let there = object_member_is o found.0 found.1 in
    let are = parts_are found.0 parts (c found.0 there.0) (formed (parts_of found.0) parts found.2) in
    (there.0 ∙ ap Some are.0, are.1, are.2)

later_is : (o : Option Data) (n : ℕ) → later_in o ≡ Ok n → (o ≡ Some (natural n)) × (1 ≤ n) × (n ≤ 4294967295)
later_is o n e =
    let found = bound (natural_in 4294967295 o) _ n e in
    let t = tested (nat_le 1 found.0) found.0 n OutOfRange found.2 in
    let is = natural_is 4294967295 o found.0 found.1 in
    subst (λ x. (o ≡ Some (natural x)) × (1 ≤ x) × (x ≤ 4294967295)) t.1 (is.0, leb-true 1 found.0 t.0, is.1)

later_again : (n : ℕ) → 1 ≤ n → n ≤ 4294967295 → later_in (Some (natural n)) ≡ Ok n
later_again n h i = rw (natural_again 4294967295 n i, le-leb 1 n h) refl

before_is : (at : ℕ) (o : Option Data) (was : ℕ) → before_in at o ≡ Ok was → o ≡ Some (natural (at - 1))
before_is at o was e =
    let found = bound (natural_in 4294967295 o) _ was e in
    let t = tested (found.0 + 1 == at) found.0 was OutOfRange found.2 in
    let is = natural_is 4294967295 o found.0 found.1 in
    let next : found.0 + 1 ≡ at = eqb-true (found.0 + 1) at t.0 in
    let same : found.0 ≡ at - 1 = omega arith in
    is.0 ∙ ap (λ x. Some (natural x)) same

before_again : (at : ℕ) → 1 ≤ at → at ≤ 4294967295 → before_in at (Some (natural (at - 1))) ≡ Ok (at - 1)
before_again at h i =
    let low : at - 1 ≤ 4294967295 = omega arith in
    let next : at - 1 + 1 ≡ at = omega arith in
    rw (natural_again 4294967295 (at - 1) low, eq-eqb (at - 1 + 1) at next) refl

-- ---- the row

change_names : List (List ℕ)
change_names = codes "ctx" ∷ codes "entry" ∷ codes "g" ∷ codes "number" ∷ codes "type" ∷ codes "was" ∷ []

pub change_is : (ms : Members) (m : ServerMsg) → MembersAreCanonical ms → text_in (get_member (codes "type") ms) ≡ Ok (codes "change") → change_in (object ms) ≡ Ok m → (ms ≡ server_members m) × ServerFits m
unfolding change_in change_names
change_is ms m c kind e =
    let known = past (has_extra change_names ms) ExtraField _ m e in
    let ctx = step _ _ _ m known.1 in
    let entry = step _ _ _ m ctx.2 in
    let g = step _ _ _ m entry.2 in
    let at = step _ _ _ m g.2 in
    let was = step _ _ _ m at.2 in
    let shown = object_member_is _ ctx.0 ctx.1 in
    let parts = parts_member_are (get_member (codes "g") ms) g.0 (λ d h. canonical_member (codes "g") ms d c h) g.1 in
    let number = later_is _ at.0 at.1 in
    let row = row_is change_names ms (server_members (to_client.Change ctx.0 entry.0 g.0.0 g.0.1 at.0)) c
    ((refl, (refl, (refl, (refl, (refl, tt))))), ((refl, (refl, (refl, (refl, tt)))), ((refl, (refl, (refl, tt))), ((refl, (refl, tt)), ((refl, tt), (tt, tt)))))) known.0 refl
    (shown.0, (tree_is _ entry.0 entry.1, (parts.0, (number.0, (text_is _ _ kind, (before_is at.0 _ was.0 was.1, tt)))))) in
    subst (λ x. (ms ≡ server_members x) × ServerFits x) (last (to_client.Change ctx.0 entry.0 g.0.0 g.0.1 at.0) m was.2) (row, (shown.1, parts.1, parts.2, number.1, number.2))

pub change_again : (ctx entry gone put : Data) (at : ℕ) → ServerFits (to_client.Change ctx entry gone put at)
    → change_in (object (server_members (to_client.Change ctx entry gone put at))) ≡ Ok (to_client.Change ctx entry gone put at)
unfolding change_in
change_again ctx entry gone put at h = rw (object_member_again ctx h.0, parts_again gone put h.1 h.2, later_again at h.3 h.4, before_again at h.3 h.4) refl
