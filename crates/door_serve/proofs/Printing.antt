-- A text that is printed piece by piece, and what is known of it where a piece fails.
use Rattle.std.proofs.Common.{◌≡◌, ◌+◌, ℕ, zero, suc, List, [], ◌∷◌, ◌++◌, take, length, Option, Some, refl, sym, ap, ◌∙◌, append_assoc}
use Rattle.std.proofs.Math.Seq.{take-append-add}
use Rattle.board_links.specs.Pieces.{Writes, told_bytes}
use Rattle.board_links.specs.declared.sink.Put.{Put}
use Rattle.board_links.specs.declared.sink.Put.TheVariants as put
use Rattle.link_rounds.specs.declared.gate.DoorEnd.{DoorEnd}
use Rattle.link_rounds.specs.declared.gate.DoorEnd.TheVariants as door
use Rattle.door_serve.specs.Ends.{Printed, end_of}

first_part : (n : ℕ) (text more : List ℕ) → (m : ℕ) × (take n text ≡ take m (text ++ more))
first_part zero text more = (0, refl)
first_part (suc n) [] more = (0, refl)
first_part (suc n) (b ∷ text) more = let r = first_part n text more in (suc r.0, ap (λ l. b ∷ l) r.1)

-- the first piece fails
pub fails_first : (text more before : List ℕ) (after : Option (List ℕ)) → Writes put.Failed text before after → Writes put.Failed (text ++ more) before after
fails_first text more before after w =
    let r = first_part w.0 text more in (r.0, w.1 ∙ ap (λ l. Some (before ++ l)) r.1)

-- the first piece is printed, and then the rest or some first part of it
pub prints_on : (how : Put) (text more before : List ℕ) (between after : Option (List ℕ)) → between ≡ Some (before ++ text) → Writes how more (told_bytes between) after
    → Writes how (text ++ more) before after
prints_on put.Done text more before between after e w =
    w ∙ (ap (λ b. Some (told_bytes b ++ more)) e ∙ ap Some (append_assoc before text more))
prints_on put.Failed text more before between after e w = (
  length text + w.0,
  w.1 ∙ (ap (λ b. Some (told_bytes b ++ take w.0 more)) e ∙ (ap Some (append_assoc before text (take w.0 more))
      ∙ ap (λ l. Some (before ++ l)) (sym (take-append-add text more w.0)))),
)

-- how the serving ends says what was printed
pub by_end : (how : DoorEnd) (wrote : Put) (text before : List ℕ) (after : Option (List ℕ)) → Writes wrote text before after → Printed (end_of how wrote) text before after
by_end how put.Failed text before after w = w
by_end door.Done put.Done text before after w = w
by_end door.DoorFault put.Done text before after w = w
by_end door.NoMemory put.Done text before after w = w
