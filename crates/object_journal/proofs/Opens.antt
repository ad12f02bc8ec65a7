-- A file that is ready, and whose records were gone through, is opened.
use Rattle.std.proofs.Common.{◌≡◌, ℕ, Bool, List, None, arith, inr, refl, subst}
use Rattle.object_journal.specs.Opening.{IsOpened, StandsOpen}
use Rattle.object_journal.specs.Replaying.{Came}
use Rattle.record_file.specs.Ready.{IsReady}
use Rattle.record_file.specs.Records.{EndsAfter}
use Rattle.record_file.proofs.One.{one}
use Rattle.room_object.specs.Entry.{Entry}

module _ {O C D : Type 0} (stands_for has_come : O → List (Entry C) → Type 0) (records : List (Entry C) → List (List ℕ)) (may_follow : List (List ℕ) → List ℕ → Bool) (is_told : D → Type 0) (seen : D → List ℕ) (may_leave : D → List ℕ → Type 0)
    (disk after : D) (object : O) (read bytes : List ℕ) (end : ℕ) (same : read ≡ bytes) (told : is_told disk → is_told after) (ready : is_told disk → IsReady (seen disk) bytes (seen after) (may_leave after)) where
  abbrev Opens : List (Entry C) → Type 0
  Opens h = IsOpened stands_for has_come records may_follow is_told seen may_leave disk object after end None h

  opens : (h : List (Entry C)) → is_told disk → Came stands_for has_come records may_follow object read end h → Opens h
  opens h known came =
      let r = ready known in
      let ends : EndsAfter bytes (records h) = subst (λ (file : List ℕ). EndsAfter file (records h)) same came.ends in
      record {
        whole = refl;
        came = came.came;
        keeping = record {
          stands = came.stands;
          settled = record { told = told known; stands = subst (λ (file : List ℕ). EndsAfter file (records h)) r.same ends; place = came.place; durable = r.durable };
        };
        had = r.had (records h) (inr ends);
        only = λ others has. one bytes others (records h) (omega (arith, r.few)) (r.keeps others has) (inr ends);
        follow = came.follow;
      }

  -- where the disk goes by the model
  pub opens_told : is_told disk → ((h : List (Entry C)) × Came stands_for has_come records may_follow object read end h) → ((h : List (Entry C)) × Opens h)
  opens_told known (h, came) = (h, opens h known came)

  -- and whatever it does, by the same history
  pub opens_any : ((h : List (Entry C)) × Came stands_for has_come records may_follow object read end h)
      → ((h : List (Entry C)) × StandsOpen stands_for has_come records may_follow object end None h × (is_told disk → Opens h))
  opens_any (h, came) = (
    h,
    record { whole = refl; stands = came.stands; came = came.came; place = came.place; follow = came.follow },
    λ known. opens h known came,
  )
