-- One more slot that may hold its start.
use Rattle.std.proofs.Common.{◌≡◌, ℕ, List, [], ◌∷◌, ◌++◌, true, subst, sym}
use Rattle.std.proofs.lemmas.List.Elements.{All-push}
use Rattle.game_frame.specs.FrameFits.{AreSound, is_sound}
use Rattle.game_frame.specs.declared.frame.SlotFrame.{SlotFrame}
use Rattle.game_frame.proofs.slots.part_of.Goals as goal

are_sound-push : (seats : ℕ) (slots later : List SlotFrame) (slot : SlotFrame) → later ≡ slots ++ slot ∷ [] → AreSound seats slots → is_sound seats slot.slot.row ≡ true → AreSound seats later
are_sound-push seats slots later slot pushed sound fits =
    let P : List SlotFrame → Type 0 = λ slots. AreSound seats slots in
    subst P (sym pushed) (All-push (λ (frame : SlotFrame). is_sound seats frame.slot.row ≡ true) slots slot sound fits)

pub loop-member-preserved : goal.loop-member-preserved
loop-member-preserved c =
    are_sound-push c.args.known.now.most_seats c.loop-member.slots c.push.new.self c.in_ok-slot_of.field-0 c.in_ok-push.ensures.ok c.loop-member.invariant c.in_ok-slot_of.ensures
