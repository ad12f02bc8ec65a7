-- How the end of a turn and of a session is shown.
use Rattle.std.proofs.Common.{◌≡◌, ◌++◌, ◌∙◌, ℕ, List, Option, Some, None, refl, ap, sym, subst}
use Rattle.std.specs.Prelude.{IsSome, IfSome, is_some}
use Rattle.board_links.specs.Doors.{EndsWith}
use Rattle.board_links.specs.Faults.{HasRisen}
use Rattle.board_links.specs.Pieces.{told_bytes}
use Rattle.board_links.specs.declared.link.SessionEnd.{SessionEnd}
use Rattle.board_links.specs.declared.link.SessionEnd.TheVariants as end
use Rattle.board_links.specs.declared.link.Stage.{Stage}
use Rattle.link_rounds.specs.Ends.{ByeSent, ShowsEnd}
use Rattle.session_pool.specs.Ends.{ShowsWhy}
use Rattle.session_pool.specs.Lines.{IsSendEnd}

-- after steps that raised nothing
pub shows_later : (why : Option SessionEnd) (old mid new : ℕ) → mid ≡ old → ShowsWhy mid new why → ShowsWhy old new why
shows_later why old mid new same is = subst (λ n. ShowsWhy n new why) same is

pub shows_end : (why : Option SessionEnd) (old mid new : ℕ) (at : Stage) → mid ≡ old → ShowsWhy mid new why → ShowsEnd old new at why
shows_end None old mid new at same is = is ∙ same
shows_end (Some end.Ended) old mid new at same is = absurd is
shows_end (Some end.LinkFault) old mid new at same is = subst (λ n. HasRisen n new) same is
shows_end (Some end.TooLong) old mid new at same is = absurd is
shows_end (Some (end.Bye bye)) old mid new at same is = is ∙ same
shows_end (Some end.NoMemory) old mid new at same is = is ∙ same

pub unwritten : (why : Option SessionEnd) (sent : Option (List ℕ)) → IsSendEnd why → ByeSent why sent
unwritten None sent is = tt
unwritten (Some end.Ended) sent is = tt
unwritten (Some end.LinkFault) sent is = tt
unwritten (Some end.TooLong) sent is = tt
unwritten (Some (end.Bye bye)) sent is = absurd is
unwritten (Some end.NoMemory) sent is = tt

-- a bye line that was sent stands last
pub bye_last : (before after : Option (List ℕ)) (line text : List ℕ) → text ≡ line → is_some after ≡ is_some before
    → (IsSome before → after ≡ Some (told_bytes before ++ text)) → IfSome after (EndsWith line)
bye_last before None line text is a tells = tt
bye_last None (Some x) line text is a tells = absurd (cc)
bye_last (Some y) (Some x) line text is a tells =
    let e : Some x ≡ Some (y ++ text) = tells refl in
    subst (λ o. IfSome o (EndsWith line)) (sym e) (y, ap (λ t. y ++ t) is)
