-- The draft of a file: one record more, and what it is once it is closed.
use Rattle.std.proofs.Common.{◌≡◌, ℕ, Bool, true, List, [], ◌∷◌, ◌++◌, Option, Some, None, option_map, refl, sym, ◌∙◌, ap, subst, append-nil}
use Rattle.std.specs.Prelude.{IfSome, is_some}
use Rattle.any_game.specs.GameKind.{GameKind}
use Rattle.any_game.specs.declared.any_g.AnyG.{AnyG}
use Rattle.object_journal.proofs.Scans.{follow_more}
use Rattle.object_journal.specs.Replaying.{HasMade}
use Rattle.record_file.proofs.Frames.{record-push}
use Rattle.record_file.specs.Damage.{AllFollow}
use Rattle.record_file.specs.Records.{open_records, record_bytes}
use Rattle.room_history.specs.Match.{Match, number_of}
use Rattle.room_object.specs.Entry.{Entry}
use Rattle.kept_room.specs.Anew.{IsDraft}

pub done_so : {A P : Type 0} (o : Option A) (b : Bool) → IfSome o (λ x. P) → b ≡ is_some o → b ≡ true → P
done_so None b none said so = absurd (let t = sym said ∙ so in cc)
done_so (Some x) b done said so = done

longer : (records : List (List ℕ)) (payload old new : List ℕ) → old ≡ open_records records → new ≡ old ++ (1 ∷ record_bytes payload) → new ≡ open_records (records ++ payload ∷ [])
longer records payload old new was is =
    is ∙ ap (λ (l : List ℕ). l ++ (1 ∷ record_bytes payload)) was ∙ ap (λ (l : List ℕ). open_records records ++ (1 ∷ l)) (sym (append-nil (record_bytes payload))) ∙ sym (record-push records payload [])
    ∙ append-nil (open_records (records ++ payload ∷ []))

module _ {O C : Type 0} (stands_for has_come : O → List (Entry C) → Type 0) (records : List (Entry C) → List (List ℕ)) (follows : List (List ℕ) → List ℕ → Bool) where
  pub drafted : (object after : O) (bytes bytes_after payload : List ℕ) (h : List (Entry C)) → IsDraft stands_for has_come records follows object bytes h → HasMade stands_for has_come records follows h payload after
      → bytes_after ≡ bytes ++ (1 ∷ record_bytes payload) → (now : List (Entry C)) × IsDraft stands_for has_come records follows after bytes_after now
  drafted object after bytes bytes_after payload h d made is = (
    made.after,
    record {
      stands = made.stands;
      came = made.came;
      is = longer (records h) payload bytes bytes_after d.is is ∙ ap open_records (sym made.adds);
      follow = subst (λ (r : List (List ℕ)). AllFollow follows [] r) (sym made.adds) (follow_more follows [] (records h) payload d.follow made.follows);
    },
  )

-- no match stands where none has a number
pub none_numbered : (o : Option (Match GameKind AnyG)) → option_map (λ (m : Match GameKind AnyG). number_of m) o ≡ None → o ≡ None
none_numbered None e = refl
none_numbered (Some m) e = absurd (cc)
