-- A value that is canonical and in range is writable, and putting a member keeps an object so.
use Rattle.std.proofs.Common.{Ordering, ℕ, pos, negsuc, List, IsUtf8}
use Rattle.std.specs.Ordering.{nat_cmp, match_ordering}
use Rattle.std.specs.declared.cmp.Ordering.TheVariants.{Less, Equal, Greater}
use Rattle.std.specs.Cmp.Lexicographic.{slice_cmp}
use Rattle.serde_json.specs.Data.{unsigned, negative, float, Data, null, boolean, number, string, array, object, Items, no_items, item, Members, no_members, member, put}
use Rattle.json_tree.specs.Canonical.{IsCanonical, ItemsAreCanonical, MembersAreCanonical}
use Rattle.json_tree.proofs.Canonicals.{canonical_put}
use Rattle.json_tree.specs.Writable.{IsWritable, ItemsAreWritable, MembersAreWritable}

mutual
  pub canonical : (d : Data) → IsWritable d → IsCanonical d
  canonical null h = tt
  canonical (boolean b) h = tt
  canonical (number (unsigned n)) h = tt
  canonical (number (negative (pos n))) h = absurd h
  canonical (number (negative (negsuc n))) h = tt
  canonical (number (float x)) h = absurd h
  canonical (string s) h = tt
  canonical (array ds) h = items_canonical ds h
  canonical (object ms) h = members_canonical ms h

  items_canonical : (ds : Items) → ItemsAreWritable ds → ItemsAreCanonical ds
  items_canonical no_items h = tt
  items_canonical (item d ds) h = (canonical d h.0, items_canonical ds h.1)

  pub members_canonical : (ms : Members) → MembersAreWritable ms → MembersAreCanonical ms
  members_canonical no_members h = tt
  members_canonical (member k d ms) h = (h.0, canonical d h.1, members_canonical ms h.2)

-- each value is writable and each name UTF-8, whatever the order
abbrev AreEach : Members → Type 0
AreEach no_members = Unit {0}
AreEach (member k d ms) = IsWritable d × IsUtf8 k × AreEach ms

each : (ms : Members) → MembersAreWritable ms → AreEach ms
each no_members h = tt
each (member k d ms) h = (h.1, h.3, each ms h.2)

ordered : (ms : Members) → MembersAreCanonical ms → AreEach ms → MembersAreWritable ms
ordered no_members c e = tt
ordered (member k d ms) c e = (c.0, e.0, ordered ms c.2 e.2, e.1)

each_put_at : (o : Ordering) (k l : List ℕ) (d e : Data) (ms : Members) → IsWritable d → IsUtf8 k → AreEach (member l e ms) → AreEach (put k d ms) → AreEach (match_ordering o (member k d (member l e ms)) (member l d ms) (member l e (put k d ms)))
each_put_at Less k l d e ms w u h p = (w, u, h)
each_put_at Equal k l d e ms w u h p = (w, h.1, h.2)
each_put_at Greater k l d e ms w u h p = (h.0, h.1, p)

each_put : (k : List ℕ) (d : Data) (ms : Members) → IsWritable d → IsUtf8 k → AreEach ms → AreEach (put k d ms)
each_put k d no_members w u h = (w, u, tt)
each_put k d (member l e ms) w u h = each_put_at (slice_cmp nat_cmp k l) k l d e ms w u h (each_put k d ms w u h.2)

pub writable_put : (k : List ℕ) (d : Data) (ms : Members) → IsWritable d → IsUtf8 k → MembersAreWritable ms → MembersAreWritable (put k d ms)
writable_put k d ms w u h = ordered (put k d ms) (canonical_put k d ms (canonical d w) (members_canonical ms h)) (each_put k d ms w u (each ms h))
