-- A writable value reads back from its compact text.
use Rattle.std.proofs.Common.{◌≡◌, ◌≤◌, ℕ, suc, max, pos, negsuc, List, [], Some, option_map, option_and_then, refl, sym, ap, ap₂, ◌∙◌, subst, arith, append-nil}
use Rattle.std.proofs.lemmas.Cmp.{nat_list_cmp_total}
use Rattle.std.specs.Ordering.{nat_cmp, ordering_reverse}
use Rattle.std.specs.declared.cmp.Ordering.TheVariants.{Less, Greater}
use Rattle.std.specs.Cmp.Lexicographic.{slice_cmp}
use Rattle.json.specs.Json as json
use Rattle.json.specs.Lex.{tokens}
use Rattle.json.specs.Tree as tree
use Rattle.json.proofs.Printed.Decimals.{IsNumber-decimal, IsNumber-signed_decimal}
use Rattle.json.proofs.Printed.Tokens.{tokens-print}
use Rattle.json.proofs.Printed.Trees.{value-json_tokens, ArePrintable-json_tokens}
use Rattle.json_tree.specs.Canonical.{AreAbove}
use Rattle.serde_json.specs.Data.{Num, unsigned, negative, float, Data, null, boolean, number, string, array, object, Items, no_items, item, Members, no_members, member, put, depth, items_depth, members_depth}
use Rattle.serde_json.specs.Read.{number_of, of_json, of_items, of_members, read, max_depth}
use Rattle.serde_json.specs.Written.{number_text, outline, items_outline, members_outline, compact_text}
use Rattle.serde_json.proofs.Numbers.{number_of-decimal, number_of-negative}
use Rattle.serde_json.proofs.Texts.{print-outline}
use Rattle.json_tree.specs.Writable.{IsWhole, IsWritable, ItemsAreWritable, MembersAreWritable}

-- ---- members that rise go in one after another

abbrev pub AllBefore : Members → Members → Type 0
AllBefore no_members ms = Unit {0}
AllBefore (member l e ls) ms = AreAbove l ms × AllBefore ls ms

abbrev pub push : List ℕ → Data → Members → Members
push k d no_members = member k d no_members
push k d (member l e ms) = member l e (push k d ms)

abbrev pub joined : Members → Members → Members
joined no_members ms = ms
joined (member l e ls) ms = member l e (joined ls ms)

greater : (l k : List ℕ) → slice_cmp nat_cmp l k ≡ Less → slice_cmp nat_cmp k l ≡ Greater
greater l k h = nat_list_cmp_total.antisymm k l ∙ ap ordering_reverse h

pub put_last : (k : List ℕ) (d : Data) (found rest : Members) → AllBefore found (member k d rest) → put k d found ≡ push k d found
put_last k d no_members rest h = refl
put_last k d (member l e ls) rest h = rw (greater l k h.0.0) (ap (member l e) (put_last k d ls rest h.1))

pub before_push : (k : List ℕ) (d : Data) (found rest : Members) → AllBefore found (member k d rest) → AreAbove k rest → AllBefore (push k d found) rest
before_push k d no_members rest h a = (a, tt)
before_push k d (member l e ls) rest h a = (h.0.1, before_push k d ls rest h.1 a)

pub joined_none : (ms : Members) → joined ms no_members ≡ ms
joined_none no_members = refl
joined_none (member l e ls) = ap (member l e) (joined_none ls)

pub joined_push : (k : List ℕ) (d : Data) (found rest : Members) → joined (push k d found) rest ≡ joined found (member k d rest)
joined_push k d no_members rest = refl
joined_push k d (member l e ls) rest = ap (member l e) (joined_push k d ls rest)

number_again : (n : Num) → IsWhole n → number_of (number_text n) ≡ Some n
number_again (unsigned n) h = number_of-decimal n h
number_again (negative (pos n)) h = absurd h
number_again (negative (negsuc n)) h = number_of-negative n (omega arith)
number_again (float x) h = absurd h

mutual
  pub data_again : (d : Data) → IsWritable d → of_json (outline d) ≡ Some d
  data_again null h = refl
  data_again (boolean b) h = refl
  data_again (number n) h = ap (option_map number) (number_again n h)
  data_again (string s) h = refl
  data_again (array ds) h = ap (option_map array) (items_again ds h)
  data_again (object ms) h = ap (option_map object) (members_again ms no_members h tt)

  items_again : (ds : Items) → ItemsAreWritable ds → of_items (items_outline ds) ≡ Some ds
  items_again no_items h = refl
  items_again (item d ds) h = rw (data_again d h.0, items_again ds h.1) refl

  members_again : (ms found : Members) → MembersAreWritable ms → AllBefore found ms → of_members (members_outline ms) found ≡ Some (joined found ms)
  members_again no_members found h b = ap Some (sym (joined_none found))
  members_again (member k d ms) found h b =
      ap (λ o. option_and_then (λ x. of_members (members_outline ms) (put k x found)) o) (data_again d h.1)
      ∙ ap (of_members (members_outline ms)) (put_last k d found ms b)
      ∙ members_again ms (push k d found) h.2 (before_push k d found ms b h.0)
      ∙ ap Some (joined_push k d found ms)

number_printable : (n : Num) → IsWhole n → tree.HasNumbers (json.number (number_text n))
number_printable (unsigned n) h = IsNumber-decimal n h
number_printable (negative (pos n)) h = absurd h
number_printable (negative (negsuc n)) h = IsNumber-signed_decimal (negsuc n) (omega arith)
number_printable (float x) h = absurd h

mutual
  pub printable : (d : Data) → IsWritable d → tree.HasNumbers (outline d)
  printable null h = tt
  printable (boolean b) h = tt
  printable (number n) h = number_printable n h
  printable (string s) h = tt
  printable (array ds) h = items_printable ds h
  printable (object ms) h = members_printable ms h

  items_printable : (ds : Items) → ItemsAreWritable ds → tree.ItemsHaveNumbers (items_outline ds)
  items_printable no_items h = tt
  items_printable (item d ds) h = (printable d h.0, items_printable ds h.1)

  members_printable : (ms : Members) → MembersAreWritable ms → tree.MembersHaveNumbers (members_outline ms)
  members_printable no_members h = tt
  members_printable (member k d ms) h = (printable d h.1, members_printable ms h.2)

mutual
  pub as_deep : (d : Data) → tree.depth (outline d) ≡ depth d
  as_deep null = refl
  as_deep (boolean b) = refl
  as_deep (number n) = refl
  as_deep (string s) = refl
  as_deep (array ds) = ap suc (items_as_deep ds)
  as_deep (object ms) = ap suc (members_as_deep ms)

  items_as_deep : (ds : Items) → tree.items_depth (items_outline ds) ≡ items_depth ds
  items_as_deep no_items = refl
  items_as_deep (item d ds) = ap₂ max (as_deep d) (items_as_deep ds)

  members_as_deep : (ms : Members) → tree.members_depth (members_outline ms) ≡ members_depth ms
  members_as_deep no_members = refl
  members_as_deep (member k d ms) = ap₂ max (as_deep d) (members_as_deep ms)

-- a writable value that is nested at most 127 deep reads back from its compact text
pub written_reads : (d : Data) → IsWritable d → depth d ≤ max_depth → read (compact_text d) ≡ Some d
written_reads d h shallow =
    let text : tokens (compact_text d) ≡ tree.json_tokens (outline d) = ap tokens (sym (print-outline d)) ∙ tokens-print (tree.json_tokens (outline d)) (ArePrintable-json_tokens (outline d) (printable d h)) in
    ap (λ ts. option_and_then of_json (option_and_then (λ p. json.if_last p.0 p.1) (json.value max_depth ts))) (text ∙ sym (append-nil _))
    ∙ ap (λ o. option_and_then of_json (option_and_then (λ p. json.if_last p.0 p.1) o)) (value-json_tokens (outline d) max_depth [] (subst (λ n. n ≤ max_depth) (sym (as_deep d)) shallow))
    ∙ data_again d h
