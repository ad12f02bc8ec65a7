-- A kept object can be called again after each of its answers.
use Rattle.std.proofs.Common.{◌≡◌, inl, inr, ℕ, Bool, true, false, List, ◌∷◌, Option, None, sym, ◌∙◌, subst}
use Rattle.room_object.specs.Entry.{Entry, entry}
use Rattle.object_journal.specs.Keeping.{BreaksBy, IsBrokenBy, IsUnlessKept, StandsBy}
use Rattle.object_journal.specs.declared.kept_object.KeptReply.{KeptReply}
use Rattle.object_journal.specs.declared.kept_object.KeptReply.TheVariants.{StoreBroken, Full, NoMemory, Replied, NotKept}

module _ {O C R : Type 0} (stands_for : O → List (Entry C) → Type 0) (reply : List (Entry C) → Entry C → R) (is_starved is_accepted : R → Bool) (object object_after : O) (h : List (Entry C)) (pass : ℕ) (call : C) where
  abbrev Usable : Option ℕ → Type 0
  Usable broken = IsUnlessKept broken ((now : List (Entry C)) × stands_for object_after now)

  whole : (broken : Option ℕ) → broken ≡ None → (now : List (Entry C)) → stands_for object_after now → Usable broken
  whole broken e now stands = subst Usable (sym e) (now, stands)

  pub usable_after : (result : KeptReply R) (end : ℕ) (broken broken_after : Option ℕ) (faults faults_after : ℕ) → broken ≡ None → stands_for object h
      → StandsBy stands_for reply is_starved is_accepted object object_after h pass call result → BreaksBy result end broken broken_after faults faults_after → IsBrokenBy broken result → Usable broken_after
  usable_after (StoreBroken place) end broken after f g none stands by breaks is = absurd (subst (λ (o : Option ℕ). IsBrokenBy o (let r : KeptReply R = StoreBroken place in r)) none is)
  usable_after (Full place) end broken after f g none stands by breaks is = whole after (breaks ∙ none) h (subst (λ (o : O). stands_for o h) (sym by) stands)
  usable_after NoMemory end broken after f g none stands (inl same) breaks is = whole after (breaks ∙ none) h same
  usable_after NoMemory end broken after f g none stands (inr longer) breaks is = whole after (breaks ∙ none) (entry pass call true ∷ h) longer
  usable_after (Replied r) end broken after f g none stands by breaks is = whole after (breaks ∙ none) (entry pass call false ∷ h) by.2
  usable_after (NotKept place) end broken after f g none stands by breaks is = subst Usable (sym breaks.1) tt
