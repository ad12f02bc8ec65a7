-- Bytes made of lines, and lines sent one after another.
use Rattle.std.proofs.Common.{◌≡◌, ◌==◌, ◌≤◌, ◌+◌, ◌++◌, ℕ, zero, suc, Bool, true, false, if◌then◌else◌, List, [], ◌∷◌, length, take, Option, Some, None, arith, refl, sym, ap, ◌∙◌, append_assoc, ⊎_elim, add-one, subst}
use Rattle.std.specs.Prelude.{IsSome, slice_get}
use Rattle.std.specs.List.{concat, onto_first}
use Rattle.std.proofs.lemmas.Bool.{cases_lt}
use Rattle.std.proofs.lemmas.Bool.Decides.{nat_tests}
use Rattle.std.proofs.lemmas.List.{append-nil, take_all, take-append-le}
use Rattle.std.proofs.Math.Seq.{take-append-add, take-append_seam}
use Rattle.board_links.specs.Answers.{AreLines}
use Rattle.board_links.specs.Pieces.{told_bytes}
use Rattle.board_links.specs.declared.link.SessionEnd.{SessionEnd}
use Rattle.game_sheet.specs.Lines.{lines}
use Rattle.session_pool.specs.Lines.{AreWhole, EachIsLine, SentAs}

-- ---- lines of bytes

-- there is a line, and each has its newline
abbrev SomeAreLines : List (List ℕ) → Type 0
SomeAreLines [] = ⊥
SomeAreLines (line ∷ more) = AreLines line × EachIsLine more

some_each : (ls : List (List ℕ)) → SomeAreLines ls → EachIsLine ls
some_each [] h = absurd h
some_each (line ∷ more) h = h

is_newline : (byte : ℕ) → (byte == 10) ≡ true → AreLines (byte ∷ [])
is_newline byte e = let is : byte ≡ 10 = grind (arith, nat_tests) in ([], ap (λ b. b ∷ []) is)

longer : (byte : ℕ) (ls : List (List ℕ)) → SomeAreLines ls → SomeAreLines (onto_first byte ls)
longer byte [] h = absurd h
longer byte (line ∷ more) h = ((byte ∷ h.0.0, ap (λ l. byte ∷ l) h.0.1), h.1)

-- bytes before a newline and whole lines are whole lines
cut : (before rest : List ℕ) → EachIsLine (lines rest) → SomeAreLines (lines (before ++ 10 ∷ rest))
cut [] rest h = (([], refl), h)
cut (byte ∷ before) rest h = by (byte == 10) refl (cut before rest h)
  where
    by : (b : Bool) → (byte == 10) ≡ b → SomeAreLines (lines (before ++ 10 ∷ rest))
        → SomeAreLines (if b then (byte ∷ []) ∷ lines (before ++ 10 ∷ rest) else onto_first byte (lines (before ++ 10 ∷ rest)))
    by true e more = (is_newline byte e, some_each (lines (before ++ 10 ∷ rest)) more)
    by false e more = longer byte (lines (before ++ 10 ∷ rest)) more

joined_lines : (line rest : List ℕ) → AreLines line → AreWhole rest → AreWhole (line ++ rest)
joined_lines line rest is h =
    let parted : line ++ rest ≡ is.0 ++ 10 ∷ rest = ap (λ l. l ++ rest) is.1 ∙ append_assoc is.0 (10 ∷ []) rest in
    subst AreWhole (sym parted) (some_each (lines (is.0 ++ 10 ∷ rest)) (cut is.0 rest h))

pub lines_whole : (line : List ℕ) → AreLines line → AreWhole line
lines_whole line is = subst AreWhole (sym is.1) (some_each (lines (is.0 ++ 10 ∷ [])) (cut is.0 [] tt))

pub concat_whole : (ls : List (List ℕ)) → EachIsLine ls → AreWhole (concat ls)
concat_whole [] h = tt
concat_whole (line ∷ more) h = joined_lines line (concat more) h.0 (concat_whole more h.1)

pub one_more_line : (ls : List (List ℕ)) (line : List ℕ) → EachIsLine ls → AreLines line → EachIsLine (ls ++ line ∷ [])
one_more_line [] line h is = (is, tt)
one_more_line (first ∷ ls) line h is = (h.0, one_more_line ls line h.1 is)

none_some : {A : Type 0} (x : A) → None ≡ Some x → ⊥
none_some x e = cc

pub line_at : (ls : List (List ℕ)) (i : ℕ) (line : List ℕ) → slice_get ls i ≡ Some line → EachIsLine ls → AreLines line
line_at [] i line e h = absurd (none_some line e)
line_at (first ∷ ls) zero line e h = let same : first ≡ line = cc in subst AreLines same h.0
line_at (first ∷ ls) (suc i) line e h = line_at ls i line e h.1

-- ---- all of them

onto_bytes : (byte : ℕ) (ls : List (List ℕ)) → concat (onto_first byte ls) ≡ byte ∷ concat ls
onto_bytes byte [] = refl
onto_bytes byte (line ∷ more) = refl

pub concat_lines : (bytes : List ℕ) → concat (lines bytes) ≡ bytes
concat_lines [] = refl
concat_lines (byte ∷ bytes) = by (byte == 10) (concat_lines bytes)
  where
    by : (b : Bool) → concat (lines bytes) ≡ bytes → concat (if b then (byte ∷ []) ∷ lines bytes else onto_first byte (lines bytes)) ≡ byte ∷ bytes
    by true more = ap (λ l. byte ∷ l) more
    by false more = onto_bytes byte (lines bytes) ∙ ap (λ l. byte ∷ l) more

concat_next : (ls : List (List ℕ)) (i : ℕ) (line : List ℕ) → slice_get ls i ≡ Some line → concat (take (suc i) ls) ≡ concat (take i ls) ++ line
concat_next [] i line e = absurd (none_some line e)
concat_next (first ∷ ls) zero line e = let same : first ≡ line = cc in append-nil first ∙ same
concat_next (first ∷ ls) (suc i) line e = ap (λ l. first ++ l) (concat_next ls i line e) ∙ sym (append_assoc first (concat (take i ls)) line)

pub concat_more : (ls : List (List ℕ)) (i : ℕ) (line : List ℕ) → slice_get ls i ≡ Some line → concat (take (i + 1) ls) ≡ concat (take i ls) ++ line
concat_more ls i line e = ap (λ n. concat (take n ls)) (add-one i) ∙ concat_next ls i line e

-- ---- first parts

-- a first part of the bytes is one of the longer bytes
pub first_part : (n : ℕ) (bytes more : List ℕ) → (m : ℕ) × (take n bytes ≡ take m (bytes ++ more))
first_part n bytes more = ⊎_elim
    (λ past. (length bytes, take_all n bytes (omega arith) ∙ sym (take-append_seam bytes more)))
    (λ within. (n, sym (take-append-le n bytes more within)))
    (cases_lt (length bytes) n)

-- some lines, and a first part of the next, are a first part of all
pub part_of : (ls : List (List ℕ)) (i : ℕ) (line : List ℕ) (k : ℕ) → slice_get ls i ≡ Some line → (n : ℕ) × (concat (take i ls) ++ take k line ≡ take n (concat ls))
part_of [] i line k e = absurd (none_some line e)
part_of (first ∷ ls) zero line k e =
    let same : first ≡ line = cc in
    let m = first_part k first (concat ls) in
    (m.0, ap (λ l. take k l) (sym same) ∙ m.1)
part_of (first ∷ ls) (suc i) line k e =
    let m = part_of ls i line k e in (
      length first + m.0,
      append_assoc first (concat (take i ls)) (take k line) ∙ ap (λ l. first ++ l) m.1 ∙ sym (take-append-add first (concat ls) m.0),
    )

-- ---- lines that are sent one after another

pub sent_more : (bytes told : List ℕ) (place : ℕ) (line : List ℕ) (mid after : Option (List ℕ)) → slice_get (lines bytes) place ≡ Some line
    → mid ≡ Some (told ++ concat (take place (lines bytes))) → (IsSome mid → SentAs None line (told_bytes mid) after) → after ≡ Some (told ++ concat (take (place + 1) (lines bytes)))
sent_more bytes told place line mid after here is_mid tells =
    let one : after ≡ Some ((told ++ concat (take place (lines bytes))) ++ line) = subst (λ m. IsSome m → SentAs None line (told_bytes m) after) is_mid tells refl in
    one ∙ ap (λ t. Some t) (append_assoc told (concat (take place (lines bytes))) line ∙ ap (λ t. told ++ t) (sym (concat_more (lines bytes) place line here)))

pub sent_part : (bytes told : List ℕ) (place : ℕ) (line : List ℕ) (mid after : Option (List ℕ)) (why : SessionEnd) → slice_get (lines bytes) place ≡ Some line
    → mid ≡ Some (told ++ concat (take place (lines bytes))) → (IsSome mid → SentAs (Some why) line (told_bytes mid) after) → SentAs (Some why) bytes told after
sent_part bytes told place line mid after why here is_mid tells =
    let one : SentAs (Some why) line (told ++ concat (take place (lines bytes))) after = subst (λ m. IsSome m → SentAs (Some why) line (told_bytes m) after) is_mid tells refl in
    let part = part_of (lines bytes) place line one.0 here in (
      part.0,
      one.1 ∙ ap (λ t. Some t) (append_assoc told (concat (take place (lines bytes))) (take one.0 line)
          ∙ ap (λ t. told ++ t) (part.1 ∙ ap (take part.0) (concat_lines bytes))),
    )

pub lines_all : (bytes : List ℕ) (place : ℕ) → length (lines bytes) ≤ place → concat (take place (lines bytes)) ≡ bytes
lines_all bytes place all = ap concat (take_all place (lines bytes) all) ∙ concat_lines bytes

pub sent_all : (bytes told : List ℕ) (place : ℕ) (after : Option (List ℕ)) → length (lines bytes) ≤ place → after ≡ Some (told ++ concat (take place (lines bytes))) → after ≡ Some (told ++ bytes)
sent_all bytes told place after all is = is ∙ ap (λ t. Some (told ++ t)) (lines_all bytes place all)
