use Rattle.std.proofs.Common.{rules, ◌≡◌, ◌∙◌, Ok, subst, sym}
use Rattle.std.proofs.lemmas.Result.{IfOk-weaker}
use Rattle.any_game.specs.AnyRules.{named}
use Rattle.wire_json.specs.ClientReading.{client_read}
use Rattle.game_hall.specs.Bench.{or_bench}
use Rattle.game_hall.specs.Kept.{NextIn}
use Rattle.game_hall.specs.Requests.{begins, hears}
use Rattle.game_hall.proofs.Rooms.{begins_in, benched_in, unread_is}
use Rattle.game_hall.proofs.begin.hear.Goals as goal

pub returns-in-Ok-clause-there : goal.returns-in-Ok-clause-there
returns-in-Ok-clause-there c =
    let begun = begins named c.args.rooms c.args.at c.in-Ok.message c.args.tape.now.left c.args.seed.now in
    let there = benched_in c.args.rooms c.args.bench.now c.in-Ok.message begun (begins_in named c.args.rooms c.args.at c.in-Ok.message c.args.tape.now.left c.args.seed.now c.requires.attached) in
    IfOk-weaker c.begin.result (λ n. n ≡ or_bench c.args.bench.now (Ok c.in-Ok.message) begun) (NextIn c.args.rooms)
    (λ n e. subst (NextIn c.args.rooms) (sym e) there) c.begin.ensures.begun

pub returns-in-Some-clause-heard : goal.returns-in-Some-clause-heard
returns-in-Some-clause-heard c =
    let read = client_read c.args.line.now in
    let heard = hears named c.args.rooms c.args.at read c.args.tape.now.left c.args.seed.now in
    let refused : c.refuse.result ≡ heard = search rules in
    refused ∙ sym (unread_is c.in-Err.no read c.args.bench.now heard c.in-Err.ensures.exact (search rules))
