-- Writable values of the same text are the same, however deep they are; and what a change of writable values leads to is the new value.
use Rattle.std.proofs.Common.{◌≡◌, ◌≤◌, ℕ, max, List, [], ◌∷◌, map, Bool, true, false, cond, Some, Option, option_map, is_some, refl, sym, ap, ◌∙◌, subst, arith, append-nil}
use Rattle.json.specs.Json as json
use Rattle.json.specs.Lex.{tokens}
use Rattle.json.specs.Tree as tree
use Rattle.json.proofs.Printed.Tokens.{tokens-print}
use Rattle.json.proofs.Printed.Trees.{value-json_tokens, ArePrintable-json_tokens}
use Rattle.json_back.proofs.Puts.{canonical, writable_put}
use Rattle.json_back.proofs.Written.{as_deep, data_again, printable}
use Rattle.json_tree.specs.Names.{is_known}
use Rattle.json_tree.specs.Writable.{IsWritable, ItemsAreWritable, MembersAreWritable}
use Rattle.player_sight.specs.Change.{changed_members, gone_part, has_text_of, lost_names, members_in, patched, put_part, texts_in, with_members, without}
use Rattle.player_sight.proofs.Changes.{above_changed}
use Rattle.serde_json.specs.Data.{Data, null, boolean, number, string, array, object, Members, no_members, member, put, depth}
use Rattle.serde_json.specs.Find.{get}
use Rattle.serde_json.specs.Read.{of_json}
use Rattle.serde_json.specs.View.{items_of}
use Rattle.serde_json.specs.Written.{compact_text, outline}
use Rattle.serde_json.proofs.Texts.{print-outline}
use Rattle.sight_reading.proofs.Patches.{above_without}
use Rattle.sight_reading.proofs.Patching.{has_new_text}
use Rattle.wire_json.specs.ChangeReading.{are_texts}

-- ---- a text tells its value

told : (d : Data) → IsWritable d → tokens (compact_text d) ≡ tree.json_tokens (outline d)
told d w = ap tokens (sym (print-outline d)) ∙ tokens-print (tree.json_tokens (outline d)) (ArePrintable-json_tokens (outline d) (printable d w))

parsed : (n : ℕ) (d : Data) → IsWritable d → depth d ≤ n → json.value n (tokens (compact_text d)) ≡ Some (outline d, [])
parsed n d w h =
    ap (json.value n) (told d w ∙ sym (append-nil (tree.json_tokens (outline d))))
    ∙ value-json_tokens (outline d) n [] (subst (λ k. k ≤ n) (sym (as_deep d)) h)

one : {A : Type 0} (x y : A) → Some x ≡ Some y → x ≡ y
one x y e = cc

first : {A B : Type 0} (o : Option (A × B)) (x y : A) (u v : B) → o ≡ Some (x, u) → o ≡ Some (y, v) → x ≡ y
first {A = A} {B = B} o x y u v e f = one x y (ap (option_map (λ (p : A × B). p.0)) (sym e ∙ f))

pub same_value : (d e : Data) → IsWritable d → IsWritable e → compact_text d ≡ compact_text e → d ≡ e
same_value d e w v same =
    let n : ℕ = max (depth d) (depth e) in
    let low : depth d ≤ n = omega arith in
    let lower : depth e ≤ n = omega arith in
    let outlines : outline d ≡ outline e = first (json.value n (tokens (compact_text d))) (outline d) (outline e) [] [] (parsed n d w low) (ap (λ t. json.value n (tokens t)) same ∙ parsed n e v lower) in
    one d e (sym (data_again d w) ∙ ap of_json outlines ∙ data_again e v)

-- ---- the parts of a change are writable

writable_changed : (old : Data) (ms : Members) → MembersAreWritable ms → MembersAreWritable (changed_members old ms)
writable_changed old no_members w = tt
writable_changed old (member k d ms) w = by (has_text_of d (get k old)) (writable_changed old ms w.2)
  where
    by : (b : Bool) → MembersAreWritable (changed_members old ms) → MembersAreWritable (cond b (changed_members old ms) (member k d (changed_members old ms)))
    by true later = later
    by false later = (above_changed k old ms w.0, w.1, later, w.3)

pub put_writable : (old new : Data) → IsWritable new → IsWritable (put_part old new)
put_writable old null w = tt
put_writable old (boolean b) w = tt
put_writable old (number n) w = w
put_writable old (string s) w = w
put_writable old (array ds) w = w
put_writable old (object ms) w = writable_changed old ms w

lost_writable : (ms : Members) (new : Data) → MembersAreWritable ms → ItemsAreWritable (items_of (map string (lost_names ms new)))
lost_writable no_members new w = tt
lost_writable (member k d ms) new w = by (is_some (get k new)) (lost_writable ms new w.2)
  where
    by : (b : Bool) → ItemsAreWritable (items_of (map string (lost_names ms new))) → ItemsAreWritable (items_of (map string (cond b (lost_names ms new) (k ∷ lost_names ms new))))
    by true later = later
    by false later = (w.3, later)

members_writable : (d : Data) → IsWritable d → MembersAreWritable (members_in d)
members_writable null w = tt
members_writable (boolean b) w = tt
members_writable (number n) w = tt
members_writable (string s) w = tt
members_writable (array ds) w = tt
members_writable (object ms) w = w

pub gone_writable : (old new : Data) → IsWritable old → IsWritable (gone_part old new)
gone_writable old new w = lost_writable (members_in old) new (members_writable old w)

pub all_texts : (names : List (List ℕ)) → are_texts (items_of (map string names)) ≡ true
all_texts [] = refl
all_texts (name ∷ names) = all_texts names

-- ---- and so is what it leads to

writable_without : (names : List (List ℕ)) (ms : Members) → MembersAreWritable ms → MembersAreWritable (without names ms)
writable_without names no_members w = tt
writable_without names (member k d ms) w = by (is_known names k) (writable_without names ms w.2)
  where
    by : (b : Bool) → MembersAreWritable (without names ms) → MembersAreWritable (cond b (without names ms) (member k d (without names ms)))
    by true later = later
    by false later = (above_without k names ms w.0, w.1, later, w.3)

writable_with : (ms more : Members) → MembersAreWritable ms → MembersAreWritable more → MembersAreWritable (with_members ms more)
writable_with ms no_members w v = w
writable_with ms (member k d more) w v = writable_with (put k d ms) more (writable_put k d ms v.1 v.3 w) v.2

patched_writable : (old new : Data) → IsWritable old → IsWritable new → IsWritable (patched old (gone_part old new) (put_part old new))
patched_writable old null w v = tt
patched_writable old (boolean b) w v = tt
patched_writable old (number n) w v = v
patched_writable old (string s) w v = v
patched_writable old (array ds) w v = v
patched_writable old (object ms) w v =
    writable_with (without (texts_in (gone_part old (object ms))) (members_in old)) (changed_members old ms)
    (writable_without (texts_in (gone_part old (object ms))) (members_in old) (members_writable old w)) (writable_changed old ms v)

pub leads_to_new : (old new : Data) → IsWritable old → IsWritable new → patched old (gone_part old new) (put_part old new) ≡ new
leads_to_new old new w v =
    same_value (patched old (gone_part old new) (put_part old new)) new (patched_writable old new w v) v (has_new_text old new (canonical old w) (canonical new v))
