use Rattle.std.proofs.Common.{◌++◌, ap, arith, drop, length, subst, sym, take}
use Rattle.std.proofs.lemmas.Result.{IfOk-weaker}
use Rattle.session_hall.specs.Answered.{Opens}
use Rattle.session_hall.specs.Held.{AreBooks, StandsForHall, StandsForOne}
use Rattle.session_hall.specs.Opens.{OpensIn}
use Rattle.session_hall.proofs.Halls.{opens_one, refilled, stays_some}
use Rattle.session_hall.proofs.hall.SessionHall.open.Goals as goal

pub invariant_of-self : goal.invariant_of-self
invariant_of-self c =
    subst (λ b. StandsForOne (record { books = b; cores = c.self.inside.cores.items; tape = c.match_seed-seed.new.tape; seed = c.match_seed-seed.new.ready }))
    (sym (refilled c.self.inside.books.books.len c.open_match.new.books c.self.inside.books.books.items (omega (arith, c.open_match.auto.books, c.self.inside.books.books.ok.0, ap length c.deref_mut.ensures.value))))
    (stays_some _ _ c.self.invariant.0 c.self.invariant.1 c.args.game.now c.args.seats c.begin.new.self c.begin.ensures.value c.match_seed-seed.result c.match_seed-seed.ensures.value
    c.match_seed-seed.new.ready c.match_seed-seed.ensures.taken c.match_seed-seed.new.tape c.match_seed-seed.ensures.drawn c.open_match.new.books
    (c.open_match.ensures.stand c.self.invariant.0.rooms (subst (λ x. AreBooks x c.self.invariant.0.rooms) (sym c.deref_mut.ensures.value) c.self.invariant.1.books_held)))

pub returns : goal.returns
returns c = λ tape h s.
    let k = subst (λ x. StandsForHall tape x h) (sym c.self.view_is) s in
    IfOk-weaker c.open_match.result (λ made. OpensIn h.rooms c.args.game.now c.args.seats c.match_seed-seed.result c.open_match.new.books made)
    (λ made. Opens tape h c.args.game.now c.args.seats (record { books = take c.self.inside.books.books.len (c.open_match.new.books ++ drop (length c.open_match.new.books) c.self.inside.books.books.items); cores = c.self.inside.cores.items; tape = c.match_seed-seed.new.tape; seed = c.match_seed-seed.new.ready }) made)
    (λ made o. subst (λ b. Opens tape h c.args.game.now c.args.seats (record { books = b; cores = c.self.inside.cores.items; tape = c.match_seed-seed.new.tape; seed = c.match_seed-seed.new.ready }) made)
    (sym (refilled c.self.inside.books.books.len c.open_match.new.books c.self.inside.books.books.items (omega (arith, c.open_match.auto.books, c.self.inside.books.books.ok.0, ap length c.deref_mut.ensures.value))))
    (opens_one tape _ h k c.args.game.now c.args.seats c.begin.new.self c.begin.ensures.value c.match_seed-seed.result c.match_seed-seed.ensures.value
    c.match_seed-seed.new.ready c.match_seed-seed.ensures.taken c.match_seed-seed.new.tape c.match_seed-seed.ensures.drawn c.open_match.new.books made o))
    (c.open_match.ensures.opened h.rooms (subst (λ x. AreBooks x h.rooms) (sym c.deref_mut.ensures.value) k.books_held))
