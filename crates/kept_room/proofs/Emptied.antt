-- A room that was opened, after Detaches.
use Rattle.std.proofs.Common.{◌≡◌, ◌≤◌, ◌<◌, ◌==◌, ℕ, ◌+◌, Bool, true, false, if◌then◌else◌, List, [], ◌∷◌, Some, refl, sym, ap, ◌∙◌, subst, arith}
use Rattle.std.proofs.lemmas.Bool.Decides.{nat_tests}
use Rattle.any_game.specs.AnyRules.{any_rules}
use Rattle.any_game.specs.GameKind.{GameKind}
use Rattle.match_master.specs.Held.{may_starve}
use Rattle.record_file.specs.Damage.{AllFollow}
use Rattle.record_file.specs.Records.{HasRecords}
use Rattle.record_file.specs.declared.append.RecordFile.{RecordFile}
use Rattle.room_changes.specs.declared.change.Change.{Change}
use Rattle.room_disk.specs.Disk.{LeavesOnly}
use Rattle.room_history.specs.Presence.{is_attached}
use Rattle.room_history.specs.declared.call.RoomCall.{RoomCall}
use Rattle.room_history.specs.declared.call.RoomCall.TheVariants.{Detach}
use Rattle.room_journal.specs.Kept.{changes_read, may_follow, room_records, texts}
use Rattle.room_object.specs.Entry.{Entry, entry}
use Rattle.kept_room.specs.Hosting.{NobodyAfter}
use Rattle.kept_room.specs.Journal.{Calls, HasPart, Since}
use Rattle.kept_room.specs.Opened.{IsOpenedAs, IsOpenedRoom}
use Rattle.kept_room.specs.declared.room.KeptRoom.{KeptRoom}
use Rattle.kept_room.proofs.Asides.{detached, is_detach_fed, same_changes, same_records}

-- one pass more is detached
pub one_fewer : (room : ℕ) (h : Calls) (pass : ℕ) → NobodyAfter room pass h → NobodyAfter room (pass + 1) (entry pass Detach false ∷ h)
one_fewer room h pass nobody q low = detached room h pass q ∙ by (pass == q) refl
  where
    by : (b : Bool) → (pass == q) ≡ b → (if b then false else is_attached any_rules room h q) ≡ false
    by true e = refl
    by false e = nobody q (below e)
      where
        below : (pass == q) ≡ false → q < pass
        below e = grind (arith, nat_tests, low, e)

module _ {D : Type 0} (is_told : D → Type 0) (seen : D → List ℕ) (may_leave : D → List ℕ → Type 0) (moment : D → ℕ) (left_since : D → ℕ → List ℕ → Type 0) (faults : D → ℕ) where
  abbrev Opened : ℕ → D → Calls → Bool → KeptRoom D → Type 0
  Opened room start first told r = IsOpenedRoom is_told seen may_leave moment left_since faults room start first told r

  module _ (room : ℕ) (start : D) (first : Calls) (told : Bool) (old new : KeptRoom D) (pass : ℕ) (since : Since is_told seen may_leave moment left_since faults old new (entry pass Detach false ∷ []))
      (same : new.stopped ≡ old.stopped) (file : new.file ≡ old.file) where
    pub detach_opened : Opened room start first told old → Opened room start (entry pass Detach false ∷ first) told new
    detach_opened o = record {
      numbered = since.same_room ∙ o.numbered;
      whole = same ∙ o.whole;
      stands = since.stands first o.stands;
      journal = record {
        stands = since.stands first o.stands;
        keeps = λ e. since.kept (same ∙ o.whole) first (o.journal.keeps e);
        crash = λ e only.
            subst (λ (f : RecordFile D). LeavesOnly moment left_since start f.disk (HasPart (room_records room) (entry pass Detach false ∷ first) [])) (sym file)
            (subst (λ (records : List (List ℕ)). LeavesOnly moment left_since start old.file.disk (λ c. HasRecords c records)) (sym records_stay) (o.journal.crash e only));
        fits = λ e. tt;
        never_falls = subst (λ (f : RecordFile D). faults start ≤ faults f.disk) (sym file) o.journal.never_falls;
      };
      had = λ e. subst (λ (records : List (List ℕ)). HasRecords (seen start) records) (sym records_stay) (o.had e);
      only = λ e others has. o.only e others has ∙ sym records_stay;
      reads = subst (λ (cs : List (Change GameKind)). changes_read (texts cs) ≡ Some cs) (sym (same_changes room first pass Detach false refl)) o.reads;
      follow = subst (λ (records : List (List ℕ)). AllFollow (may_follow room) [] records) (sym records_stay) o.follow;
    }
      where
        records_stay : room_records room (entry pass Detach false ∷ first) ≡ room_records room first
        records_stay = same_records room first pass Detach false refl

  -- ---- Detaches of one pass after another

  abbrev OpenedAs : ℕ → D → Calls → KeptRoom D → Type 0
  OpenedAs room start first r = IsOpenedAs is_told seen may_leave moment left_since faults room start first r

  abbrev Empties : ℕ → D → KeptRoom D → ℕ → Type 0
  Empties room start r passes = (after : Calls) × OpenedAs room start after r × NobodyAfter room passes after

  pub first_emptied : (room : ℕ) (start : D) (first : Calls) (r : KeptRoom D) → OpenedAs room start first r → Empties room start r 0
  first_emptied room start first r o = (first, o, λ pass low. absurd (omega (arith, low)))

  pub emptied_more : (room : ℕ) (start : D) (old new : KeptRoom D) (pass : ℕ) (starved : Bool) → (starved ≡ true → may_starve {X = GameKind} Detach ≡ true)
      → Since is_told seen may_leave moment left_since faults old new (entry pass Detach starved ∷ []) → new.stopped ≡ old.stopped → new.file ≡ old.file → Empties room start old pass
      → Empties room start new (pass + 1)
  emptied_more room start old new pass starved fed since same file (after, o, nobody) =
      let e : entry pass Detach starved ≡ entry pass Detach false = ap (λ (b : Bool). entry pass Detach b) (is_detach_fed Detach starved refl fed) in
      let one : Since is_told seen may_leave moment left_since faults old new (entry pass Detach false ∷ []) = subst (λ (x : Entry (RoomCall GameKind)). Since is_told seen may_leave moment left_since faults old new (x ∷ [])) e since in (
        entry pass Detach false ∷ after,
        (detach_opened room start after false old new pass one same file o.0, λ told. detach_opened room start after true old new pass one same file (o.1 told)),
        one_fewer room after pass nobody,
      )

  pub all_fewer : (room : ℕ) (start : D) (r : KeptRoom D) (most passes : ℕ) → passes ≤ most → Empties room start r most → Empties room start r passes
  all_fewer room start r most passes low (after, o, nobody) = (after, o, λ pass under. nobody pass (omega (arith, low, under)))
