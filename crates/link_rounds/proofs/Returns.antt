-- One link more that came back, whose service was shown to the witness.
use Rattle.std.proofs.Common.{ℕ, List, [], Option, Some, None}
use Rattle.std.specs.Prelude.{IsSome}
use Rattle.std.proofs.lemmas.List.Elements.{All-push}
use Rattle.board_links.specs.Doors.{Returned, came_back, with_returned}
use Rattle.board_links.specs.declared.link.Came.{Came}
use Rattle.board_links.specs.declared.link.SessionEnd.{SessionEnd}
use Rattle.link_rounds.specs.Gate.{WasServed, WereServed}
use Rattle.link_rounds.specs.Turns.{Session}

module _ {S : Type 0} (turn : S → List Came → List ℕ → Option SessionEnd → S → Option (List Came) → Option (List ℕ) → Type 0) (leave : S → S → Type 0) (rests : S → Type 0) where
  -- what was known is known still
  still_known : (known later : S → Type 0) (keeps : (s : S) → known s → later s) (old : Option (List Returned)) → WereServed turn leave rests known old → WereServed turn leave rests later old
  still_known known later keeps None all = tt
  still_known known later keeps (Some links) all = λ k d low. let one = all k d low in (one.0, keeps one.0 one.1, one.2)

  were_more : (known : S → Type 0) (old : Option (List Returned)) (end : SessionEnd) (answers : Option (List Came)) (sent : Option (List ℕ)) → WereServed turn leave rests known old → WasServed turn leave rests known end answers sent
      → WereServed turn leave rests known (with_returned end answers sent old)
  were_more known None end answers sent all one = tt
  were_more known (Some links) end answers sent all one = All-push (λ r. WasServed turn leave rests known r.end r.answers r.sent) links (came_back end answers sent) all one

  pub were_shown : (known later : S → Type 0) (old : Option (List Returned)) (end : SessionEnd) (answers : Option (List Came)) (sent : Option (List ℕ)) (last : S) → ((s : S) → known s → later s) → later last
      → WereServed turn leave rests known old → (IsSome answers → IsSome sent → (first : S) × rests first × Session turn leave first [] [] end last answers sent)
      → WereServed turn leave rests later (with_returned end answers sent old)
  were_shown known later old end answers sent last keeps shown all one = were_more later old end answers sent (still_known known later keeps old all) (last, shown, one)
