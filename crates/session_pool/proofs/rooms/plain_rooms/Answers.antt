use Rattle.std.proofs.Common.{◌+◌, ◌++◌, ◌∙◌, [], ◌∷◌, ap, map, refl, rules, sym}
use Rattle.std.proofs.lemmas.List.{map-append}
use Rattle.any_game.specs.AnyRules.{any_rules}
use Rattle.match_master.specs.Held.{StandsFor}
use Rattle.session_pool.specs.Rooms.{numbers}
use Rattle.session_pool.proofs.Dealing.{nobody_in_book, numbers_next}
use Rattle.session_pool.proofs.Places.{all_more}
use Rattle.session_pool.proofs.rooms.plain_rooms.Goals as goal

pub loop-room-preserved : goal.loop-room-preserved
loop-room-preserved c =
    let push = c.push_reserved.ensures.items in
    let i = c.loop-room.invariant in (
      ap (map (λ b. b.room)) push
          ∙ (map-append (λ b. b.room) _ _
          ∙ (ap (λ l. l ++ c.in_ok-book.book.room ∷ []) i.0
          ∙ (ap (λ n. numbers 0 c.loop-room.room ++ n ∷ []) c.in_ok-book.ensures.room ∙ sym (numbers_next c.loop-room.room (c.loop-room.room + 1) refl)))),
      all_more (λ b. StandsFor any_rules b []) _ _ _ push i.1 c.in_ok-book.ensures.stands,
      search rules,
      search rules,
    )

pub returns-clause-numbered : goal.returns-clause-numbered
returns-clause-numbered c = c.loop-room.invariant.0 ∙ ap (λ n. numbers 0 n) (sym c.loop-room.invariant.2)

pub returns-clause-stand : goal.returns-clause-stand
returns-clause-stand c k d low = ([], c.loop-room.invariant.1 k d low)

pub returns-clause-nobody : goal.returns-clause-nobody
returns-clause-nobody c places k d low past t = nobody_in_book _ (c.loop-room.invariant.1 k d low) places past t

pub returns-clause-fresh : goal.returns-clause-fresh
returns-clause-fresh c k d low = c.loop-room.invariant.1 k d low
