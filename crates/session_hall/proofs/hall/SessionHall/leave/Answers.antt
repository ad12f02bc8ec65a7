use Rattle.std.proofs.Common.{◌∙◌, ap, arith, subst, sym}
use Rattle.room_history.specs.declared.call.RoomCall.TheVariants as call
use Rattle.session_hall.specs.Held.{StandsForHall}
use Rattle.session_hall.proofs.Halls.{player_leaves_by, stands_for_one}
use Rattle.session_hall.proofs.hall.SessionHall.leave.Goals as goal

pub invariant_of-self : goal.invariant_of-self
invariant_of-self c = stands_for_one _ _ _ (player_leaves_by _ _ c.self.invariant.0 c.self.invariant.1
    c.args.name c.args.seat c.room-room.result c.room-room.ensures.value (call.Leave c.serial.result c.args.seat c.new.result)
    (ap (λ s. call.Leave s c.args.seat c.new.result) c.serial.ensures.value ∙ ap (λ k. call.Leave c.args.name.serial c.args.seat k) (c.new.ensures ∙ c.key_of_seat.ensures))
    (omega (arith, c.self.inside.books.books.ok.0)) c.index_mut.result.now c.apply.new.self c.index_mut.ensures.value c.apply.ensures.room c.apply.result c.apply.ensures.answered c.apply.ensures.stands c.apply.ensures.fed).stands

pub returns : goal.returns
returns c = λ tape h s. player_leaves_by tape _ h (subst (λ x. StandsForHall tape x h) (sym c.self.view_is) s)
    c.args.name c.args.seat c.room-room.result c.room-room.ensures.value (call.Leave c.serial.result c.args.seat c.new.result)
    (ap (λ s. call.Leave s c.args.seat c.new.result) c.serial.ensures.value ∙ ap (λ k. call.Leave c.args.name.serial c.args.seat k) (c.new.ensures ∙ c.key_of_seat.ensures))
    (omega (arith, c.self.inside.books.books.ok.0)) c.index_mut.result.now c.apply.new.self c.index_mut.ensures.value c.apply.ensures.room c.apply.result c.apply.ensures.answered c.apply.ensures.stands c.apply.ensures.fed
