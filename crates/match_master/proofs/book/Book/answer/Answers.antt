use Rattle.std.proofs.Common.{sym, subst}
use Rattle.match_master.specs.Does.{GoesBy}
use Rattle.match_master.proofs.CallLaws.{attach_goes, clear_goes, create_goes, detach_goes, join_goes, leave_goes, look_goes, rename_goes, submit_goes, take_goes}
use Rattle.match_master.proofs.book.Book.answer.Goals as goal

pub returns-in-Create-clause-goes : goal.returns-in-Create-clause-goes
returns-in-Create-clause-goes g c = λ standing h.
    subst (λ call. GoesBy g.X.Game.rules c.args.self.now standing c.args.pass call c.create.result c.create.new.self) (sym c.in-Create.is)
    (create_goes g.X.Game.rules c.args.self.now standing h c.args.pass c.in-Create.game c.in-Create.seats c.in-Create.seed c.create.result c.create.new.self (c.create.ensures.does standing h))

pub returns-in-Join-clause-goes : goal.returns-in-Join-clause-goes
returns-in-Join-clause-goes g c = λ standing h.
    subst (λ call. GoesBy g.X.Game.rules c.args.self.now standing c.args.pass call c.join.result c.join.new.self) (sym c.in-Join.is)
    (join_goes g.X.Game.rules c.args.self.now standing h c.args.pass c.in-Join.serial c.in-Join.seat c.in-Join.name c.in-Join.key c.join.result c.join.new.self (c.join.ensures.does standing h))

pub returns-in-Rename-clause-goes : goal.returns-in-Rename-clause-goes
returns-in-Rename-clause-goes g c = λ standing h.
    subst (λ call. GoesBy g.X.Game.rules c.args.self.now standing c.args.pass call c.rename.result c.rename.new.self) (sym c.in-Rename.is)
    (rename_goes g.X.Game.rules c.args.self.now standing h c.args.pass c.in-Rename.serial c.in-Rename.seat c.in-Rename.key c.in-Rename.name c.rename.result c.rename.new.self (c.rename.ensures.does standing h))

pub returns-in-Leave-clause-goes : goal.returns-in-Leave-clause-goes
returns-in-Leave-clause-goes g c = λ standing h.
    subst (λ call. GoesBy g.X.Game.rules c.args.self.now standing c.args.pass call c.leave.result c.leave.new.self) (sym c.in-Leave.is)
    (leave_goes g.X.Game.rules c.args.self.now standing h c.args.pass c.in-Leave.serial c.in-Leave.seat c.in-Leave.key c.leave.result c.leave.new.self (c.leave.ensures.does standing h))

pub returns-in-Attach-clause-goes : goal.returns-in-Attach-clause-goes
returns-in-Attach-clause-goes g c = λ standing h.
    subst (λ call. GoesBy g.X.Game.rules c.args.self.now standing c.args.pass call c.attach.result c.attach.new.self) (sym c.in-Attach.is)
    (attach_goes g.X.Game.rules c.args.self.now standing h c.args.pass c.in-Attach.serial c.in-Attach.viewer c.in-Attach.protocol c.attach.result c.attach.new.self (c.attach.ensures.does standing h))

pub returns-in-Submit-clause-goes : goal.returns-in-Submit-clause-goes
returns-in-Submit-clause-goes g c = λ standing h.
    subst (λ call. GoesBy g.X.Game.rules c.args.self.now standing c.args.pass call c.submit.result c.submit.new.self) (sym c.in-Submit.is)
    (submit_goes g.X.Game.rules c.args.self.now standing h c.args.pass c.in-Submit.submission c.submit.result c.submit.new.self (c.submit.ensures.does standing h))

pub returns-in-Look-clause-goes : goal.returns-in-Look-clause-goes
returns-in-Look-clause-goes g c = λ standing h.
    subst (λ call. GoesBy g.X.Game.rules c.args.self.now standing c.args.pass call c.look.result c.args.self.now) (sym c.in-Look.is)
    (look_goes g.X.Game.rules c.args.self.now standing h c.args.pass c.in-Look.serial c.look.result (c.look.ensures standing h))

pub returns-in-Take-clause-goes : goal.returns-in-Take-clause-goes
returns-in-Take-clause-goes g c = λ standing h.
    subst (λ call. GoesBy g.X.Game.rules c.args.self.now standing c.args.pass call c.take.result c.take.new.self) (sym c.in-Take.is)
    (take_goes g.X.Game.rules c.args.self.now standing h c.args.pass c.take.result c.take.new.self c.take.ensures.fed c.take.ensures.reply c.take.ensures.same c.take.ensures.after)

pub returns-in-Detach-clause-goes : goal.returns-in-Detach-clause-goes
returns-in-Detach-clause-goes g c = λ standing h.
    subst (λ call. GoesBy g.X.Game.rules c.args.self.now standing c.args.pass call c.detach.result c.detach.new.self) (sym c.in-Detach.is)
    (detach_goes g.X.Game.rules c.args.self.now standing h c.args.pass c.detach.result c.detach.new.self c.detach.ensures.fed c.detach.ensures.reply c.detach.ensures.same c.detach.ensures.after)

pub returns-in-Clear-clause-goes : goal.returns-in-Clear-clause-goes
returns-in-Clear-clause-goes g c = λ standing h.
    subst (λ call. GoesBy g.X.Game.rules c.args.self.now standing c.args.pass call c.clear.result c.clear.new.self) (sym c.in-Clear.is)
    (clear_goes g.X.Game.rules c.args.self.now standing h c.args.pass c.in-Clear.serial c.clear.result c.clear.new.self (c.clear.ensures.does standing h))
