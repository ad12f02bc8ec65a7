use Rattle.std.proofs.Common.{◌≡◌, ◌≤◌, ℕ, true, sym, ap, ◌∙◌, subst, arith}
use Rattle.any_game.specs.AnyRules.{any_rules}
use Rattle.room_history.specs.Room.{number, serials}
use Rattle.room_journal.proofs.Acting.{acts_in, no_match, nobody, unmade}
use Rattle.room_journal.proofs.room_book.RoomBook.submit.Goals as goal

pub returns-in-None-clause-does : goal.returns-in-None-clause-does
returns-in-None-clause-does c h stands fits = nobody c.args.self.now.room h c.args.self.now.keys.items c.args.seat c.args.asked fits (sym c.in-None.ensures)

pub returns-in-None-number-clause-does : goal.returns-in-None-number-clause-does
returns-in-None-number-clause-does c h stands fits =
    no_match c.args.self.now.room h c.args.seat c.args.asked (sym (c.in-None-number.ensures h stands ∙ ap (λ (n : ℕ). number any_rules n h) c.requires.same))

pub returns-then-serial-eq0-clause-does : goal.returns-then-serial-eq0-clause-does
returns-then-serial-eq0-clause-does c h stands fits =
    let none : c.serial-serial.result ≡ 0 = grind (arith, c.if-serial-eq0.true) in
    unmade c.args.self.now.room h c.args.self.now.keys.items c.args.seat c.args.asked fits (sym (c.serial-serial.ensures h stands ∙ ap (λ (n : ℕ). serials any_rules n h) c.requires.same) ∙ none)

pub new-requires-clause-room : goal.new-requires-clause-room
new-requires-clause-room c = subst (λ (n : ℕ). n ≤ 63) (sym c.attach.ensures.room) c.requires.few

pub returns-clause-does : goal.returns-clause-does
returns-clause-does c h stands fits =
    let attached : c.attach.result ≡ true = grind (arith, c.if-not-attach.false) in
    acts_in c.args.self.now.room c.attach.new.self.room c.attach.ensures.room h c.args.pass c.args.seat c.serial-serial.result c.in-Some-number.number c.args.self.now.keys.items c.call.new.self.keys.items c.in-Some.key c.args.asked c.new.result
    c.attach.new.self.book c.call.new.self.book c.call.result fits (c.serial-serial.ensures h stands ∙ ap (λ (n : ℕ). serials any_rules n h) c.requires.same) (c.in-Some-number.ensures h stands ∙ ap (λ (n : ℕ). number any_rules n h) c.requires.same) c.in-Some.ensures
    c.new.ensures (c.call.ensures.keys ∙ c.attach.ensures.keys) (c.attach.ensures.attaches h stands attached) c.call.ensures.calls
