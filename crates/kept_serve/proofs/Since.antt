-- A call that added a record after a room was opened is none of those that came before.
use Rattle.std.proofs.Common.{◌≡◌, ◌⊎◌, ◌≤◌, ◌<◌, ℕ, List, [], ◌∷◌, ◌++◌, length, ap, arith, inl, inr, refl, sym, ◌∙◌}
use Rattle.std.proofs.lemmas.List.{append-nil, length-append, length-map}
use Rattle.any_game.specs.AnyRules.{any_rules}
use Rattle.any_game.specs.GameKind.{GameKind}
use Rattle.change_text.specs.Payload.{payload}
use Rattle.kept_room.specs.Hosting.{HasJust}
use Rattle.kept_room.specs.Journal.{Calls}
use Rattle.record_file.specs.Records.{HasRecords}
use Rattle.room_changes.specs.ChangesOf.{change_asked, change_made, changes_of, is_accepted}
use Rattle.room_changes.specs.declared.change.Change.{Change}
use Rattle.room_history.specs.Room.{reply, viewer_of}
use Rattle.room_history.specs.declared.call.RoomCall.{RoomCall}
use Rattle.room_journal.specs.Kept.{room_records, texts}
use Rattle.room_object.specs.Entry.{Entry}

same_first : {A : Type 0} (x y : A) (xs ys : List A) → x ∷ xs ≡ y ∷ ys → x ≡ y
same_first x y xs ys e = cc

same_rest : {A : Type 0} (x y : A) (xs ys : List A) → x ∷ xs ≡ y ∷ ys → xs ≡ ys
same_rest x y xs ys e = cc

joined : {A : Type 0} (x y : A) (xs ys : List A) → x ≡ y → xs ≡ ys → x ∷ xs ≡ y ∷ ys
joined x y xs ys first rest = cc

-- an entry lies in the one part or in the other
abbrev Lies : {A : Type 0} → List A → List A → List A → A → List A → Type 0
Lies {A} made first later e rest = ((before : List A) × (made ≡ later ++ (e ∷ before))) ⊎ ((mid : List A) × (first ≡ mid ++ (e ∷ rest)))

lies : {A : Type 0} (made first later : List A) (e : A) (rest : List A) → made ++ first ≡ later ++ (e ∷ rest) → Lies made first later e rest
lies [] first later e rest is = inr (later, is)
lies (x ∷ made) first [] e rest is = inl (made, joined x e made made (same_first x e (made ++ first) rest is) refl)
lies {A} (x ∷ made) first (y ∷ later) e rest is = by (lies made first later e rest (same_rest x y (made ++ first) (later ++ (e ∷ rest)) is))
  where
    by : Lies made first later e rest → Lies (x ∷ made) first (y ∷ later) e rest
    by (inl (before, here)) = inl (before, joined x y made (later ++ (e ∷ before)) (same_first x y (made ++ first) (later ++ (e ∷ rest)) is) here)
    by (inr found) = inr found

longer : (changes more : List (Change GameKind)) → length (texts changes) ≤ length (texts (changes ++ more))
longer changes more =
    let short = length-map changes (payload any_rules) in
    let long = length-map (changes ++ more) (payload any_rules) in
    let both = length-append changes more in
    omega (arith, short, long, both)

longer_by : (changes more : List (Change GameKind)) → (texts (changes ++ more) ≡ texts changes → ⊥) → length (texts changes) < length (texts (changes ++ more))
longer_by changes [] new = absurd (new (ap texts (append-nil changes)))
longer_by changes (c ∷ more) new =
    let short = length-map changes (payload any_rules) in
    let long = length-map (changes ++ c ∷ more) (payload any_rules) in
    let both = length-append changes (c ∷ more) in
    omega (arith, short, long, both)

module _ (room : ℕ) where
  abbrev count : Calls → ℕ
  count h = length (room_records room h)

  -- what a call adds to the changes
  abbrev added : Entry (RoomCall GameKind) → Calls → List (Change GameKind)
  added e h = change_made (is_accepted (reply any_rules room h e)) (change_asked (viewer_of any_rules room h e.pass) e.call)

  grows : (e : Entry (RoomCall GameKind)) (h : Calls) → count h ≤ count (e ∷ h)
  grows e h = longer (changes_of any_rules room h) (added e h)

  grows_by : (e : Entry (RoomCall GameKind)) (h : Calls) → (room_records room (e ∷ h) ≡ room_records room h → ⊥) → count h < count (e ∷ h)
  grows_by e h new = longer_by (changes_of any_rules room h) (added e h) new

  grows_all : (g h : Calls) → count h ≤ count (g ++ h)
  grows_all [] h = omega arith
  grows_all (e ∷ g) h = let one = grows e (g ++ h) in let more = grows_all g h in omega (arith, one, more)

  pub is_made : (file : List ℕ) (first made history past before gap : Calls) → history ≡ made ++ first → HasJust file (room_records room first) → past ≡ gap ++ before → HasRecords file (room_records room before)
      → (later : Calls) (e : Entry (RoomCall GameKind)) (earlier : Calls) → history ≡ later ++ (e ∷ (earlier ++ past)) → (room_records room (e ∷ (earlier ++ past)) ≡ room_records room (earlier ++ past) → ⊥)
      → (rest : Calls) × (made ≡ later ++ (e ∷ rest))
  is_made file first made history past before gap split just goes has later e earlier is new = by (lies made first later e (earlier ++ past) (sym split ∙ is))
    where
      by : Lies made first later e (earlier ++ past) → (rest : Calls) × (made ≡ later ++ (e ∷ rest))
      by (inl found) = found
      by (inr (mid, within)) =
          let same : count before ≡ count first = ap length (just.1 (room_records room before) has) in
          let whole : count first ≡ count (mid ++ (e ∷ (earlier ++ past))) = ap count within in
          let above = grows_all mid (e ∷ (earlier ++ past)) in
          let one = grows_by e (earlier ++ past) new in
          let middle = grows_all earlier past in
          let start : count past ≡ count (gap ++ before) = ap count goes in
          let below = grows_all gap before in
          absurd (omega (arith, same, whole, above, one, middle, start, below))
