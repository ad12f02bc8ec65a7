-- What was dealt out to workers, taken together, and the numbers of services.
use Rattle.std.proofs.Common.{◌≡◌, ◌+◌, ◌/◌, ◌<◌, ◌≤◌, ℕ, zero, suc, List, [], ◌∷◌, ◌++◌, map, length, Option, Some, None, refl, ap, subst, sym, ◌∙◌, arith, slice_index_or, append_assoc, append-nil, length-append}
use Rattle.std.specs.Prelude.{All, is_some, false}
use Rattle.std.proofs.Math.Nat.{div-le_self}
use Rattle.std.proofs.lemmas.List.{length-map, map-append}
use Rattle.std.proofs.lemmas.List.Elements.{All-append, All-map}
use Rattle.std.proofs.lemmas.Nat.{le-div}
use Rattle.board_links.specs.declared.link.Came.{Came}
use Rattle.board_links.specs.declared.link.SessionEnd.{SessionEnd}
use Rattle.link_rounds.specs.Dealing.{dealt}
use Rattle.link_rounds.specs.Places.{About, Seat, Sits, SitsWith}

-- one part more, dealt after the others
dealt-append : {X : Type 0} (parts : List (List X)) (part : List X) → dealt (parts ++ part ∷ []) ≡ part ++ dealt parts
dealt-append [] part = sym (append-nil part)
dealt-append (first ∷ parts) part = ap (λ l. l ++ first) (dealt-append parts part) ∙ append_assoc part (dealt parts) first

module _ {B X : Type 0} (f : B → List X) where
  -- what one worker more has
  dealt_more : (benches more : List B) (bench : B) → more ≡ benches ++ bench ∷ [] → dealt (map f more) ≡ f bench ++ dealt (map f benches)
  dealt_more benches more bench e = ap (λ l. dealt (map f l)) e ∙ (ap dealt (map-append f benches (bench ∷ [])) ∙ dealt-append (map f benches) (f bench))

  -- so many more
  pub dealt_length : (benches more : List B) (bench : B) → more ≡ benches ++ bench ∷ [] → length (dealt (map f more)) ≡ length (f bench) + length (dealt (map f benches))
  dealt_length benches more bench e = ap length (dealt_more benches more bench e) ∙ length-append (f bench) (dealt (map f benches))

  -- none is left
  pub gathered_all : (benches : List B) (after all : List X) → benches ≡ [] → after ++ dealt (map f benches) ≡ all → after ≡ all
  gathered_all benches after all none is = sym (append-nil after) ∙ (ap (λ l. after ++ dealt (map f l)) (sym none) ∙ is)

  -- the last of those that were left goes to one worker more
  pub dealt_on : (benches more : List B) (bench : B) (left before all : List X) → more ≡ benches ++ bench ∷ [] → left ++ f bench ≡ before → before ++ dealt (map f benches) ≡ all → left ++ dealt (map f more) ≡ all
  dealt_on benches more bench left before all e part is =
      ap (λ l. left ++ l) (dealt_more benches more bench e) ∙ (sym (append_assoc left (f bench) (dealt (map f benches))) ∙ (ap (λ l. l ++ dealt (map f benches)) part ∙ is))

  -- what the worker that was hired last has comes first
  pub gathered_on : (benches more : List B) (bench : B) (before after all : List X) → more ≡ benches ++ bench ∷ [] → after ≡ before ++ f bench → before ++ dealt (map f more) ≡ all → after ++ dealt (map f benches) ≡ all
  gathered_on benches more bench before after all e part is =
      ap (λ l. l ++ dealt (map f benches)) part ∙ (append_assoc before (f bench) (dealt (map f benches)) ∙ (ap (λ l. before ++ l) (sym (dealt_more benches more bench e)) ∙ is))

  all_dealt : (P : X → Type 0) (benches : List B) → All (λ b. All P (f b)) benches → All P (dealt (map f benches))
  all_dealt P [] all = λ k d low. absurd (omega (arith, low))
  all_dealt P (b ∷ benches) all = All-append P (dealt (map f benches)) (f b) (all_dealt P benches (λ k d low. all (suc k) d (omega (arith, low)))) (all 0 b (omega arith))

  pub all_back : (P : X → Type 0) (left after : List X) (benches : List B) → left ≡ [] → after ≡ left ++ dealt (map f benches) → All (λ b. All P (f b)) benches → All P after
  all_back P left after benches none is all = subst (All P) (sym (is ∙ ap (λ l. l ++ dealt (map f benches)) none)) (all_dealt P benches all)

  map-dealt : {Y : Type 0} (n : X → Y) (g : B → List Y) → ((b : B) → map n (f b) ≡ g b) → (benches : List B) → map n (dealt (map f benches)) ≡ dealt (map g benches)
  map-dealt n g same [] = refl
  map-dealt n g same (b ∷ benches) =
      map-append n (dealt (map f benches)) (f b) ∙ (ap (λ l. l ++ map n (f b)) (map-dealt n g same benches) ∙ ap (λ l. dealt (map g benches) ++ l) (same b))

front : {X : Type 0} (P : X → Type 0) (xs ys : List X) → All P (xs ++ ys) → All P xs
front P [] ys h k d low = absurd (omega (arith, low))
front P (x ∷ xs) ys h zero d low = h 0 d (omega arith)
front P (x ∷ xs) ys h (suc k) d low = front P xs ys (λ j e l. h (suc j) e (omega (arith, l))) k d (omega (arith, low))

-- one worker gets all
pub whole_part : (n m : ℕ) → m ≡ 1 → n / m ≡ n
whole_part n m one =
    let all : n / 1 ≡ n = omega (arith, div-le_self n 1, le-div n n 1 (omega arith) (omega arith)) in
    ap (λ k. n / k) one ∙ all

pub empty_by : {X : Type 0} (n : ℕ) (l : List X) → n ≡ length l → n ≡ 0 → l ≡ []
empty_by n [] len none = refl
empty_by n (x ∷ l) len none = absurd (omega (arith, len, none))

module _ {B X Y : Type 0} (n : X → Y) (f : B → List X) (g : B → List Y) (same : (b : B) → map n (f b) ≡ g b) (old new : List B) (kept : map g new ≡ map g old) where
  -- what the workers have is the same as before, by its numbers
  pub numbers_kept : map n (dealt (map f new)) ≡ map n (dealt (map f old))
  numbers_kept = map-dealt f n g same new ∙ (ap dealt kept ∙ sym (map-dealt f n g same old))

  pub length_kept : length (dealt (map f new)) ≡ length (dealt (map f old))
  length_kept = sym (length-map (dealt (map f new)) n) ∙ (ap length numbers_kept ∙ length-map (dealt (map f old)) n)

  -- all of it was dealt, and all is taken back
  pub numbers_back : (left after all : List X) → left ≡ [] → left ++ dealt (map f old) ≡ all → after ≡ left ++ dealt (map f new) → map n after ≡ map n all
  numbers_back left after all none dealt_is is =
      ap (map n) (is ∙ ap (λ l. l ++ dealt (map f new)) none) ∙ (numbers_kept ∙ ap (map n) (sym (ap (λ l. l ++ dealt (map f old)) none) ∙ dealt_is))

-- all that was dealt has room where it stood before
pub room_back : {X : Type 0} (left dealt_out all : List X) (here stood capacity room : ℕ) → left ++ dealt_out ≡ all → here ≡ length left → stood ≡ length all → stood ≤ capacity → capacity ≤ room → here + length dealt_out ≤ room
room_back left dealt_out all here stood capacity room is h s fits more = omega (arith, ap length is, length-append left dealt_out, h, s, fits, more)

-- what holds of all holds of the first
pub all_front : {X : Type 0} (P : X → Type 0) (xs ys all : List X) → xs ++ ys ≡ all → All P all → All P xs
all_front P xs ys all is h = front P xs ys (subst (All P) (sym is) h)

-- what is the same of each item is the same of all
pub map_same : {X Y : Type 0} (f : X → Y) (xs ys : List X) → length ys ≡ length xs → ((k : ℕ) (d : X) → k < length xs → f (slice_index_or ys k d) ≡ f (slice_index_or xs k d)) → map f ys ≡ map f xs
map_same f [] [] len same = refl
map_same f [] (y ∷ ys) len same = absurd (omega (arith, len))
map_same f (x ∷ xs) [] len same = absurd (omega (arith, len))
map_same f (x ∷ xs) (y ∷ ys) len same =
    ap (λ z. z ∷ map f ys) (same 0 x (omega arith)) ∙ ap (λ l. f x ∷ l) (map_same f xs ys (omega (arith, len)) (λ k d low. same (suc k) d (omega (arith, low))))

module _ {S L : Type 0} (turn : S → List Came → List ℕ → Option SessionEnd → S → Option (List Came) → Option (List ℕ) → Type 0) (leave : S → S → Type 0) (a : About L) (rests : S → Type 0) where
  at_rest : (s : S) (link : Option L) (end : Option SessionEnd) → is_some link ≡ false → SitsWith turn leave a rests s link end → rests s
  at_rest s None None none sits = sits
  at_rest s None (Some why) none sits = absurd sits
  at_rest s (Some link) end none sits = absurd (cc)

  -- no service of places without a link has a session
  pub all_rest : (places : List (Seat S L)) → All (λ p. is_some p.link ≡ false) places → All (Sits turn leave a rests) places → All rests (map (λ (p : Seat S L). p.service) places)
  all_rest places free sit =
      All-map rests (λ (p : Seat S L). p.service) places
      (λ k d low. at_rest (slice_index_or places k d).service (slice_index_or places k d).link (slice_index_or places k d).end (free k d low) (sit k d low))
