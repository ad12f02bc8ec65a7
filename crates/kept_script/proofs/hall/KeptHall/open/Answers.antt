use Rattle.std.proofs.lemmas.Result.{IfOk-weaker}
use Rattle.hall_history.specs.Tapes.{hall_tape}
use Rattle.session_hall.specs.Answered.{Opens}
use Rattle.session_hall.specs.Held.{HeldHall}
use Rattle.session_hall.specs.Opens.{OpensIn}
use Rattle.session_hall.proofs.Halls.{opens_one, seed_then}
use Rattle.kept_script.specs.OneRoom.{books_of}
use Rattle.kept_script.proofs.Moving.{has_one, open_moves}
use Rattle.kept_script.proofs.OneCall.{first_room}
use Rattle.kept_script.proofs.hall.KeptHall.open.Goals as goal

pub open_match-requires : goal.open_match-requires
open_match-requires g c =
    let h = c.requires.stands.0 in
    let s = c.requires.stands.1 in
    record {
      first = c.requires.first;
      stands = (h.rooms, s.books_held);
      serves = (first_room c.args.self.now h c.requires.first s).1;
    }

pub returns : goal.returns
returns g c =
    let n = c.open_match.new in
    let w = c.match_seed-seed in
    record {
      opened = record {
        more = c.open_match.ensures.since.0;
        since = c.open_match.ensures.since.1;
        comes = λ h s.
            let held : HeldHall = record { books = books_of n.room; cores = c.args.self.now.cores.items; tape = w.new.tape; seed = w.new.ready } in
            open_moves c.open_match.result h (has_one c.args.self.now h s) c.args.game.now c.args.seats w.result
            (seed_then hall_tape _ h s c.args.game.now c.args.seats c.begin.new.self c.begin.ensures.value w.result w.ensures.value w.new.ready w.ensures.taken w.new.tape w.ensures.drawn (books_of n.room))
            held c.open_match.ensures.since.0
            (IfOk-weaker c.open_match.result (λ made. OpensIn h.rooms c.args.game.now c.args.seats w.result (books_of n.room) made) (λ made. Opens hall_tape h c.args.game.now c.args.seats held made)
            (λ made o. opens_one hall_tape _ h s c.args.game.now c.args.seats c.begin.new.self c.begin.ensures.value w.result w.ensures.value w.new.ready w.ensures.taken w.new.tape w.ensures.drawn (books_of n.room) made o)
            (c.open_match.ensures.opened h.rooms s.books_held))
            c.open_match.ensures.since.2;
      };
    }
