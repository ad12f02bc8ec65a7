use Rattle.std.proofs.Common.{Some, refl}
use Rattle.board_links.specs.declared.link.Came.TheVariants as came
use Rattle.board_links.specs.declared.link.SessionEnd.TheVariants as end
use Rattle.session_driver.specs.Hearing.{side}
use Rattle.session_pool.specs.Turn.{stand}
use Rattle.session_pool.specs.Watched.{seen_of}
use Rattle.session_pool.proofs.Ends.{shows_end}
use Rattle.session_pool.proofs.Saying.{stopped_at, went_on}
use Rattle.session_pool.proofs.Seeing.{all_same, all_through, heeds_go_on}
use Rattle.session_pool.proofs.turn.go_on.Goals as goal

-- a line was heeded, a takeover was put to the bench, and then the session spoke
pub returns-in-Line-clause-shows : goal.returns-in-Line-clause-shows
returns-in-Line-clause-shows g c =
    shows_end c.speak.result (g.L.Link.faults c.args.link.now) (g.L.Link.faults c.receive.new.self) (g.L.Link.faults c.speak.new.link) (g.L.Link.stage c.speak.new.link)
    c.in-Line.ensures.raises c.speak.ensures.shows

pub returns-in-Line-clause-goes_on : goal.returns-in-Line-clause-goes_on
returns-in-Line-clause-goes_on g c =
    all_through (seen_of c.speak.new.passes) (seen_of c.heed.new.passes) (seen_of c.args.passes.now) c.speak.ensures.goes_on
    (heeds_go_on g.B.Object.may_starve c.in-Line.line (side c.args.passes.now c.args.core.now) c.args.words.now (side c.heed.new.passes c.heed.new.core) c.heed.new.words c.heed.ensures.heeds)

pub returns-in-Line-clause-goes : goal.returns-in-Line-clause-goes
returns-in-Line-clause-goes g c seat told_a told_s =
    let m = side c.heed.new.passes c.heed.new.core in
    went_on g.B.Object.may_starve (came.Line c.in-Line.line) (stand c.args.passes.now c.args.core.now c.args.words.now c.args.bench_pass.now seat) (stand c.speak.new.passes c.speak.new.core c.heed.new.words c.put_to_bench.new.bench_pass seat)
    (g.L.Link.answers c.args.link.now) (g.L.Link.answers c.receive.new.self) (g.L.Link.answers c.speak.new.link) (g.L.Link.sent c.args.link.now) (g.L.Link.sent c.receive.new.self) (g.L.Link.sent c.speak.new.link)
    c.speak.result told_a told_s (c.in-Line.ensures.told told_a) c.speak.ensures.answers c.receive.ensures.sent
    (λ told. (m, c.put_to_bench.new.core, c.heed.ensures.heeds, c.put_to_bench.ensures.sought, c.speak.ensures.told told, refl))

-- nothing came, and the session takes what waits
pub returns-in-Quiet-clause-shows : goal.returns-in-Quiet-clause-shows
returns-in-Quiet-clause-shows g c =
    shows_end c.speak-in-Quiet.result (g.L.Link.faults c.args.link.now) (g.L.Link.faults c.receive.new.self) (g.L.Link.faults c.speak-in-Quiet.new.link) (g.L.Link.stage c.speak-in-Quiet.new.link)
    c.in-Quiet.ensures.raises c.speak-in-Quiet.ensures.shows

pub speak-requires-in-Quiet-clause-done : goal.speak-requires-in-Quiet-clause-done
speak-requires-in-Quiet-clause-done g c = c.requires.idle.done

pub speak-requires-in-Quiet-clause-rests : goal.speak-requires-in-Quiet-clause-rests
speak-requires-in-Quiet-clause-rests g c = c.requires.idle.rests

pub returns-in-Quiet-clause-goes : goal.returns-in-Quiet-clause-goes
returns-in-Quiet-clause-goes g c seat told_a told_s =
    went_on g.B.Object.may_starve came.Quiet (stand c.args.passes.now c.args.core.now c.args.words.now c.args.bench_pass.now seat) (stand c.speak-in-Quiet.new.passes c.speak-in-Quiet.new.core c.args.words.now c.args.bench_pass.now seat)
    (g.L.Link.answers c.args.link.now) (g.L.Link.answers c.receive.new.self) (g.L.Link.answers c.speak-in-Quiet.new.link)
    (g.L.Link.sent c.args.link.now) (g.L.Link.sent c.receive.new.self) (g.L.Link.sent c.speak-in-Quiet.new.link)
    c.speak-in-Quiet.result told_a told_s (c.in-Quiet.ensures.told told_a) c.speak-in-Quiet.ensures.answers c.receive.ensures.sent
    (λ told. (c.speak-in-Quiet.ensures.told told, refl, refl, refl))

-- the other answers end the session

pub returns-in-Ended-clause-goes_on : goal.returns-in-Ended-clause-goes_on
returns-in-Ended-clause-goes_on g c = all_same (seen_of c.args.passes.now)

pub returns-in-Ended-clause-goes : goal.returns-in-Ended-clause-goes
returns-in-Ended-clause-goes g c seat told_a told_s =
    let s = stand c.args.passes.now c.args.core.now c.args.words.now c.args.bench_pass.now seat in
    went_on g.B.Object.may_starve came.Ended s s (g.L.Link.answers c.args.link.now) (g.L.Link.answers c.receive.new.self) (g.L.Link.answers c.receive.new.self)
    (g.L.Link.sent c.args.link.now) (g.L.Link.sent c.receive.new.self) (g.L.Link.sent c.receive.new.self)
    (Some end.Ended) told_a told_s (c.in-Ended.ensures.told told_a) refl c.receive.ensures.sent (λ told. (refl, refl, stopped_at (g.L.Link.sent c.receive.new.self) told))

pub returns-in-TooLong-clause-goes_on : goal.returns-in-TooLong-clause-goes_on
returns-in-TooLong-clause-goes_on g c = all_same (seen_of c.args.passes.now)

pub returns-in-TooLong-clause-goes : goal.returns-in-TooLong-clause-goes
returns-in-TooLong-clause-goes g c seat told_a told_s =
    let s = stand c.args.passes.now c.args.core.now c.args.words.now c.args.bench_pass.now seat in
    went_on g.B.Object.may_starve came.TooLong s s (g.L.Link.answers c.args.link.now) (g.L.Link.answers c.receive.new.self) (g.L.Link.answers c.receive.new.self)
    (g.L.Link.sent c.args.link.now) (g.L.Link.sent c.receive.new.self) (g.L.Link.sent c.receive.new.self)
    (Some end.TooLong) told_a told_s (c.in-TooLong.ensures.told told_a) refl c.receive.ensures.sent (λ told. (refl, refl, stopped_at (g.L.Link.sent c.receive.new.self) told))

pub returns-in-Failed-clause-goes_on : goal.returns-in-Failed-clause-goes_on
returns-in-Failed-clause-goes_on g c = all_same (seen_of c.args.passes.now)

pub returns-in-Failed-clause-goes : goal.returns-in-Failed-clause-goes
returns-in-Failed-clause-goes g c seat told_a told_s =
    let s = stand c.args.passes.now c.args.core.now c.args.words.now c.args.bench_pass.now seat in
    went_on g.B.Object.may_starve came.Failed s s (g.L.Link.answers c.args.link.now) (g.L.Link.answers c.receive.new.self) (g.L.Link.answers c.receive.new.self)
    (g.L.Link.sent c.args.link.now) (g.L.Link.sent c.receive.new.self) (g.L.Link.sent c.receive.new.self)
    (Some end.LinkFault) told_a told_s (c.in-Failed.ensures.told told_a) refl c.receive.ensures.sent (λ told. (refl, refl, stopped_at (g.L.Link.sent c.receive.new.self) told))

pub returns-in-NoMemory-clause-goes_on : goal.returns-in-NoMemory-clause-goes_on
returns-in-NoMemory-clause-goes_on g c = all_same (seen_of c.args.passes.now)

pub returns-in-NoMemory-clause-goes : goal.returns-in-NoMemory-clause-goes
returns-in-NoMemory-clause-goes g c seat told_a told_s =
    let s = stand c.args.passes.now c.args.core.now c.args.words.now c.args.bench_pass.now seat in
    went_on g.B.Object.may_starve came.NoMemory s s (g.L.Link.answers c.args.link.now) (g.L.Link.answers c.receive.new.self) (g.L.Link.answers c.receive.new.self)
    (g.L.Link.sent c.args.link.now) (g.L.Link.sent c.receive.new.self) (g.L.Link.sent c.receive.new.self)
    (Some end.NoMemory) told_a told_s (c.in-NoMemory.ensures.told told_a) refl c.receive.ensures.sent (λ told. (refl, refl, stopped_at (g.L.Link.sent c.receive.new.self) told))
