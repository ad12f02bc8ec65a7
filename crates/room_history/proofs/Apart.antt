-- Two first parts of one list, and lists of pieces that are the same but for the marks.
use Rattle.std.proofs.Common.{◌≡◌, ◌⊎◌, inl, inr, List, [], ◌∷◌, ◌++◌, refl, sym, ap, ◌∙◌}
use Rattle.room_history.specs.Course.{IsFirstPart}
use Rattle.wire_json.specs.ServerText.{text}
use Rattle.room_history.specs.Piece.{End, Line, Mark, Piece, message_lines, without_marks}

head_same : {A : Type 0} → (x y : A) (xs ys : List A) → (x ∷ xs) ≡ (y ∷ ys) → x ≡ y
head_same x y xs ys h = cc

tail_same : {A : Type 0} → (x y : A) (xs ys : List A) → (x ∷ xs) ≡ (y ∷ ys) → xs ≡ ys
tail_same x y xs ys h = cc

abbrev pub OneIsFirst : {A : Type 0} → List A → List A → Type 0
OneIsFirst a b = IsFirstPart a b ⊎ IsFirstPart b a

one_more : {A : Type 0} → (x y : A) (a b : List A) → x ≡ y → OneIsFirst a b → OneIsFirst (x ∷ a) (y ∷ b)
one_more x y a b e (inl f) = inl (f.0, rw (sym e) (ap (λ l. x ∷ l) f.1))
one_more x y a b e (inr f) = inr (f.0, rw (sym e) (ap (λ l. x ∷ l) f.1))

parts_of_one : {A : Type 0} → (a b r q : List A) → a ++ r ≡ b ++ q → OneIsFirst a b
parts_of_one [] b r q h = inl (b, refl)
parts_of_one (x ∷ a) [] r q h = inr (x ∷ a, refl)
parts_of_one (x ∷ a) (y ∷ b) r q h = one_more x y a b (head_same x y (a ++ r) (b ++ q) h) (parts_of_one a b r q (tail_same x y (a ++ r) (b ++ q) h))

pub one_is_first : {A : Type 0} → (a b whole : List A) → IsFirstPart a whole → IsFirstPart b whole → OneIsFirst a b
one_is_first a b whole f g = parts_of_one a b f.0 g.0 (sym f.1 ∙ g.1)

pub told_unmarked : (ps : List Piece) → message_lines (without_marks ps) ≡ message_lines ps
told_unmarked [] = refl
told_unmarked (Line m ∷ ps) = ap (λ x. x ++ text m ∷ []) (told_unmarked ps)
told_unmarked (Mark ∷ ps) = told_unmarked ps
told_unmarked (End why ∷ ps) = told_unmarked ps
