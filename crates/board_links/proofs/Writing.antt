-- What a writer holds after writes, where it tells its bytes.
use Rattle.std.proofs.Common.{◌≡◌, ◌++◌, ◌∙◌, ◌-◌, ℕ, List, length, take, drop, Option, Some, None, ap, sym, append_assoc}
use Rattle.std.proofs.lemmas.List.{length-drop, take-append-drop}
use Rattle.std.proofs.Math.Seq.{take-append_seam, take-length}
use Rattle.std.specs.Prelude.{IsSome}
use Rattle.std.specs.Io.KnownBytes.{Keeps}
use Rattle.board_links.specs.Pieces.{Writes, told_bytes}
use Rattle.board_links.specs.declared.sink.Put.TheVariants as put

pub kept : (old new : Option (List ℕ)) → Keeps old new → IsSome old → new ≡ old
kept None new keeps tells = absurd (cc)
kept (Some held) None keeps tells = absurd keeps
kept (Some held) (Some same) keeps tells = ap Some keeps

all_behind : (n : ℕ) (rest : List ℕ) → take (length rest - n) (drop n rest) ≡ drop n rest
all_behind n rest = ap (λ k. take k (drop n rest)) (sym (length-drop n rest)) ∙ take-length (drop n rest)

-- the bytes in front were taken, and then n of the rest
pub taken_on : (n : ℕ) (bytes front rest : List ℕ) → bytes ≡ front ++ rest → bytes ≡ (front ++ take n rest) ++ take (length rest - n) (drop n rest)
taken_on n bytes front rest e =
    e ∙ (ap (λ l. front ++ l) (sym (take-append-drop n rest))
    ∙ (sym (append_assoc front (take n rest) (drop n rest)) ∙ ap (λ l. (front ++ take n rest) ++ l) (sym (all_behind n rest))))

pub held_on : (held front more : List ℕ) (between after : Option (List ℕ)) → between ≡ Some (held ++ front) → after ≡ Some (told_bytes between ++ more) → after ≡ Some (held ++ (front ++ more))
held_on held front more between after e a = a ∙ (ap (λ b. Some (told_bytes b ++ more)) e ∙ ap Some (append_assoc held front more))

-- some first part of them was
pub first_held : (held bytes front rest : List ℕ) (after : Option (List ℕ)) → bytes ≡ front ++ rest → after ≡ Some (held ++ front) → Writes put.Failed bytes held after
first_held held bytes front rest after e a = (length front, a ∙ ap (λ l. Some (held ++ l)) (sym (ap (take (length front)) e ∙ take-append_seam front rest)))
