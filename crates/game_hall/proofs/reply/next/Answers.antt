use Rattle.std.proofs.Common.{◌≡◌, subst, sym}
use Rattle.std.proofs.lemmas.Result.{IfOk-weaker}
use Rattle.any_game.specs.AnyRules.{named}
use Rattle.game_hall.specs.Kept.{NextIn, RequestIn}
use Rattle.game_hall.specs.Requests.{next}
use Rattle.game_hall.specs.declared.request.Request.TheVariants.{Creating, Listing}
use Rattle.game_hall.proofs.Rooms.{next_in}
use Rattle.game_hall.proofs.reply.next.Goals as goal

pub returns-in-Creating-clause-there : goal.returns-in-Creating-clause-there
returns-in-Creating-clause-there c =
    let request = Creating c.in-Creating.game c.in-Creating.seats c.in-Creating.seed c.in-Creating.room in
    let there = next_in named c.args.rooms request c.args.reply (subst (RequestIn c.args.rooms) c.in-Creating.is c.requires.request) in
    IfOk-weaker c.create.result (λ n. n ≡ next named c.args.rooms request c.args.reply) (NextIn c.args.rooms) (λ n e. subst (NextIn c.args.rooms) (sym e) there) c.create.ensures.next

pub returns-in-Listing-clause-there : goal.returns-in-Listing-clause-there
returns-in-Listing-clause-there c =
    let request = Listing c.in-Listing.game c.in-Listing.rows c.in-Listing.room in
    let there = next_in named c.args.rooms request c.args.reply (subst (RequestIn c.args.rooms) c.in-Listing.is c.requires.request) in
    IfOk-weaker c.list.result (λ n. n ≡ next named c.args.rooms request c.args.reply) (NextIn c.args.rooms) (λ n e. subst (NextIn c.args.rooms) (sym e) there) c.list.ensures.next
