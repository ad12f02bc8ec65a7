-- Turns one after another.
use Rattle.std.proofs.Common.{◌≡◌, ℕ, Bool, List, Option, Some, None, refl, subst}
use Rattle.std.specs.Prelude.{IsSome, suc, unwrap_or}
use Rattle.any_game.specs.GameKind.{GameKind}
use Rattle.board_links.specs.Pieces.{told_bytes}
use Rattle.board_links.specs.declared.link.Came.{Came}
use Rattle.link_rounds.specs.Turns.{Runs, told_answers}
use Rattle.room_history.specs.declared.call.RoomCall.{RoomCall}
use Rattle.session_pool.specs.Sittings.{Leaves}
use Rattle.session_pool.specs.Turn.{Stand, Turn}

pub some_told : {A : Type 0} (o : Option A) (d : A) → IsSome o → o ≡ Some (unwrap_or o d)
some_told None d is = absurd (cc)
some_told (Some x) d is = refl

pub runs_more : (may_refuse : RoomCall GameKind → Bool) (n : ℕ) (s m t : Stand) (heard : List Came) (sent : List ℕ) (answers later : Option (List Came)) (after last : Option (List ℕ)) → IsSome answers → IsSome after
    → Runs (Turn may_refuse) (Leaves may_refuse) n s heard sent m answers after → Turn may_refuse m (told_answers answers) (told_bytes after) None t later last → Runs (Turn may_refuse) (Leaves may_refuse) (suc n) s heard sent t later last
runs_more may_refuse n s m t heard sent answers later after last a b runs turn =
    (m, told_answers answers, told_bytes after, subst (λ o. Runs (Turn may_refuse) (Leaves may_refuse) n s heard sent m (Some (told_answers answers)) o) (some_told after _ b) (subst (λ o. Runs (Turn may_refuse) (Leaves may_refuse) n s heard sent m o after) (some_told answers _ a) runs), turn)

pub runs_told : (may_refuse : RoomCall GameKind → Bool) (n : ℕ) (s m : Stand) (heard : List Came) (sent : List ℕ) (answers : Option (List Came)) (after : Option (List ℕ)) → IsSome answers → IsSome after
    → Runs (Turn may_refuse) (Leaves may_refuse) n s heard sent m answers after → Runs (Turn may_refuse) (Leaves may_refuse) n s heard sent m (Some (told_answers answers)) (Some (told_bytes after))
runs_told may_refuse n s m heard sent answers after a b runs =
    subst (λ o. Runs (Turn may_refuse) (Leaves may_refuse) n s heard sent m (Some (told_answers answers)) o) (some_told after _ b) (subst (λ o. Runs (Turn may_refuse) (Leaves may_refuse) n s heard sent m o after) (some_told answers _ a) runs)
