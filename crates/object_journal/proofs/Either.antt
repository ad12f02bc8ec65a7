-- What a crash leaves while a record is kept, by the records of histories.
use Rattle.std.proofs.Common.{◌≡◌, inl, inr, ℕ, Bool, true, false, List, [], ◌∷◌, ◌++◌, Option, if◌then◌else◌, refl, sym, ◌∙◌, ap, subst}
use Rattle.room_object.specs.Entry.{Entry, entry}
use Rattle.record_file.specs.Records.{HasRecords, IsBeforeOrAfter}
use Rattle.object_journal.specs.Keeping.{AddsPayload, HasEither}

pub was_accepted : {R : Type 0} (is_starved is_accepted : R → Bool) (at : Bool → R) (result : R) (s a : Bool) → result ≡ at (is_starved result) → s ≡ is_starved result → s ≡ false → a ≡ is_accepted result → a ≡ true → is_accepted (at false) ≡ true
was_accepted is_starved is_accepted at result s a answered s_is fed a_is good = sym (ap is_accepted (answered ∙ ap at (sym s_is ∙ fed))) ∙ (sym a_is ∙ good)

false_true : false ≡ true → ⊥
false_true e = cc

-- an accepted call met no want of memory
pub accepted_fed : {R : Type 0} (is_starved is_accepted : R → Bool) (at : Bool → R) (result : R) (a : Bool) → ((r : R) → is_starved r ≡ true → is_accepted r ≡ false) → result ≡ at (is_starved result) → a ≡ is_accepted result → a ≡ true → is_accepted (at false) ≡ true
accepted_fed is_starved is_accepted at result a alone answered a_is good = by (is_starved result) refl
  where
    by : (s : Bool) → is_starved result ≡ s → is_accepted (at false) ≡ true
    by true e = absurd (false_true (sym (alone result e) ∙ (sym a_is ∙ good)))
    by false e = sym (ap is_accepted (answered ∙ ap at e)) ∙ (sym a_is ∙ good)

pub either : {C R : Type 0} (o : Option (List ℕ)) (records : List (Entry C) → List (List ℕ)) (reply : List (Entry C) → Entry C → R) (is_accepted : R → Bool) (h : List (Entry C)) (pass : ℕ) (call : C) (payload : List ℕ)
    → AddsPayload o records reply is_accepted h pass call payload → is_accepted (reply h (entry pass call false)) ≡ true → (c : List ℕ) → IsBeforeOrAfter (records h) (payload ∷ []) c → HasEither (records h) (records (entry pass call false ∷ h)) c
either o records reply is_accepted h pass call payload adds good c (inl before) = inl before
either o records reply is_accepted h pass call payload adds good c (inr after) =
    inr (subst (λ (l : List (List ℕ)). HasRecords c l) (sym (adds false ∙ ap (λ b. if b then records h ++ payload ∷ [] else records h) good)) after)
