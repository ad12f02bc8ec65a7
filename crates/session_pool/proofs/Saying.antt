-- What a turn says, put together from what its parts did.
use Rattle.std.proofs.Common.{◌≡◌, ℕ, Bool, List, [], Option, Some, None, refl, ◌∙◌, subst, inr}
use Rattle.std.specs.Prelude.{IsSome}
use Rattle.board_links.specs.Answers.{answers_after, with_answer}
use Rattle.board_links.specs.Pieces.{told_bytes}
use Rattle.board_links.specs.declared.link.Came.{Came}
use Rattle.board_links.specs.declared.link.SessionEnd.{SessionEnd}
use Rattle.game_hall.specs.Core.{Core, plain, written}
use Rattle.link_rounds.specs.Turns.{told_answers}
use Rattle.room_history.specs.declared.call.RoomCall.{RoomCall}
use Rattle.session_driver.specs.Hearing.{Side, side}
use Rattle.session_pool.specs.Lines.{IsSendEnd, SentAs}
use Rattle.any_game.specs.GameKind.{GameKind}
use Rattle.dice_words.specs.Strip.{Strip}
use Rattle.game_sheet.specs.MatchName.{Name}
use Rattle.session_bench.specs.Wishing.{Seen}
use Rattle.session_pool.specs.Passes.{Pass}
use Rattle.session_pool.specs.Turn.{Goes, GoesOn, Says, Stand, stand}
use Rattle.session_pool.proofs.Turns.{some_told}

pub says_stopped : (may_refuse : RoomCall GameKind → Bool) (s : Side (List Pass)) (sent : List ℕ) (w : SessionEnd) (after : Option (List ℕ)) → IsSendEnd (Some w) → SentAs (Some w) (written s.core) sent after
    → Says may_refuse s sent (Some w) (side s.rooms (plain s.core)) after
says_stopped may_refuse s sent w after ends part = inr (w, refl, ends, refl, part)

answer_told : (c : Came) (old mid : Option (List Came)) → IsSome old → mid ≡ answers_after c old → mid ≡ Some (with_answer c (told_answers old))
answer_told c None mid is h = absurd (cc)
answer_told c (Some heard) mid is h = h

-- over a link that tells its answers and its bytes, by what came and what was done then
pub went_on : (may_refuse : RoomCall GameKind → Bool) (c : Came) (s new : Stand) (old mid last : Option (List Came)) (before between after : Option (List ℕ)) (why : Option SessionEnd) → IsSome old → IsSome before
    → mid ≡ answers_after c old → last ≡ mid → between ≡ before → (IsSome between → Goes may_refuse c s (told_bytes between) why new after)
    → GoesOn may_refuse s (told_answers old) (told_bytes before) why new last after
went_on may_refuse c s new old mid last before between after why told_a told_s heard same same_sent goes =
    (c, same ∙ answer_told c old mid told_a heard, subst (λ m. IsSome m → Goes may_refuse c s (told_bytes m) why new after) same_sent goes told_s)

-- the same after a bot got ready, which kept what the link tells
pub readied_on : (may_refuse : RoomCall GameKind → Bool) (passes : List Pass) (c d : Core GameKind) (words : Strip) (p : Seen) (seat : Option (Name × ℕ)) (new : Stand) (old mid last : Option (List Came))
    (before between after : Option (List ℕ)) (why : Option SessionEnd) → d ≡ record c { sat = d.sat } → mid ≡ old → between ≡ before
    → (IsSome mid → IsSome between → GoesOn may_refuse (stand passes d words p seat) (told_answers mid) (told_bytes between) why new last after)
    → IsSome old → IsSome before → GoesOn may_refuse (stand passes (record c { sat = d.sat }) words p seat) (told_answers old) (told_bytes before) why new last after
readied_on may_refuse passes c d words p seat new old mid last before between after why core same same_sent goes a b =
    subst (λ (k : Core GameKind). GoesOn may_refuse (stand passes k words p seat) (told_answers old) (told_bytes before) why new last after) core (there a b)
  where
    here : IsSome old → IsSome between → GoesOn may_refuse (stand passes d words p seat) (told_answers old) (told_bytes between) why new last after
    here = subst (λ m. IsSome m → IsSome between → GoesOn may_refuse (stand passes d words p seat) (told_answers m) (told_bytes between) why new last after) same goes

    there : IsSome old → IsSome before → GoesOn may_refuse (stand passes d words p seat) (told_answers old) (told_bytes before) why new last after
    there = subst (λ m. IsSome old → IsSome m → GoesOn may_refuse (stand passes d words p seat) (told_answers old) (told_bytes m) why new last after) same_sent here

-- nothing was sent
pub stopped_at : (between : Option (List ℕ)) → IsSome between → between ≡ Some (told_bytes between)
stopped_at between is = some_told between [] is
