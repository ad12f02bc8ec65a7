-- The lines of messages from clients end with a newline, which is taken off.
use Rattle.std.proofs.Common.{◌≡◌, ◌<◌, ◌++◌, ℕ, List, [], ◌∷◌, length, Option, Some, None, IsSome, ap, subst, sym, refl, ◌∙◌, arith, length-append}
use Rattle.std.specs.Prelude.{option_to_list}
use Rattle.board_links.specs.Answers.{AreLines}
use Rattle.serde_json.specs.Data.{object}
use Rattle.serde_json.specs.Written.{compact_text}
use Rattle.wire_json.specs.ClientText.{client_members, client_text}
use Rattle.wire_json.specs.declared.client.ClientMsg.{ClientMsg}

text_ends : (m : ClientMsg) → AreLines (client_text m)
unfolding client_text
text_ends m = (compact_text (object (client_members m)), refl)

pub line_ends : (line : List ℕ) (m : ClientMsg) → line ≡ client_text m → AreLines line
line_ends line m e = subst AreLines (sym e) (text_ends m)

last_is : (xs ys : List ℕ) (x y : ℕ) → xs ++ x ∷ [] ≡ ys ++ y ∷ [] → x ≡ y
last_is [] [] x y e = cc
last_is [] (b ∷ []) x y e = cc
last_is [] (b ∷ (d ∷ ys)) x y e = cc
last_is (a ∷ []) [] x y e = cc
last_is (a ∷ (d ∷ xs)) [] x y e = cc
last_is (a ∷ xs) (b ∷ ys) x y e = let tail : xs ++ x ∷ [] ≡ ys ++ y ∷ [] = cc in last_is xs ys x y tail

pub some_bytes : (bytes : List ℕ) → AreLines bytes → 0 < length bytes
some_bytes bytes h = omega (arith, ap length h.1, length-append h.0 (10 ∷ []))

pub cut_last : (old new : List ℕ) (out : Option ℕ) → AreLines old → old ≡ new ++ option_to_list out → IsSome out → new ++ 10 ∷ [] ≡ old
cut_last old new None h e s = cc
cut_last old new (Some x) h e s = ap (λ y. new ++ y ∷ []) (sym (last_is new h.0 x 10 (sym e ∙ h.1))) ∙ sym e
