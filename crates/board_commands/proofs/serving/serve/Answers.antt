use Rattle.std.proofs.Common.{[]}
use Rattle.session_pool.proofs.Places.{none_served}
use Rattle.session_pool.specs.Sittings.{AreServed}
use Rattle.match_master.specs.Held.{may_starve}
use Rattle.board_commands.proofs.Seated.{served_none}
use Rattle.board_commands.proofs.serving.serve.Goals as goal

pub serve_plain-requires-clause-readies : goal.serve_plain-requires-clause-readies
serve_plain-requires-clause-readies g c κs inside = c.requires.workers c.in-Ok.asked c.in-Ok.ensures.asked

pub serve_plain-requires-clause-bots : goal.serve_plain-requires-clause-bots
serve_plain-requires-clause-bots g c κs inside =
    (c.requires.bots c.in-Ok.asked c.in-Ok.ensures.asked, c.requires.rests c.in-Ok.asked c.in-Ok.ensures.asked)

pub returns-in-Err-Usage-clause-served : goal.returns-in-Err-Usage-clause-served
returns-in-Err-Usage-clause-served g c asked said none =
    let told = g.D.Door.returned c.args.door in
    served_none (λ pasts knows. AreServed may_starve c.args.seed asked.links pasts knows told) c.new.result.items c.new.ensures.items
    (none_served may_starve c.args.seed asked.links [] (λ s. Unit {0}) told c.requires.none_back)

pub returns-in-Err-NoMemory-clause-served : goal.returns-in-Err-NoMemory-clause-served
returns-in-Err-NoMemory-clause-served g c asked said none =
    let told = g.D.Door.returned c.args.door in
    served_none (λ pasts knows. AreServed may_starve c.args.seed asked.links pasts knows told) c.new-in-Err-NoMemory.result.items c.new-in-Err-NoMemory.ensures.items
    (none_served may_starve c.args.seed asked.links [] (λ s. Unit {0}) told c.requires.none_back)
