use Rattle.std.proofs.Common.{◌≡◌, ◌∙◌, Some, nat_eq, ap, sym, subst}
use Rattle.std.specs.Map.{lookup}
use Rattle.match_master.specs.Attached.{open_viewer}
use Rattle.match_master.specs.Does.{SubmitDoes}
use Rattle.match_master.specs.Held.{Held}
use Rattle.match_master.specs.Judged.{IsAccepted, IsJudged}
use Rattle.match_master.proofs.BookLaws.{submit_does}
use Rattle.match_master.proofs.book.Book.submit.Goals as goal

pub returns-in-Ok-Accepted-clause-does : goal.returns-in-Ok-Accepted-clause-does
returns-in-Ok-Accepted-clause-does g c = λ standing h.
    let looks : Some c.in-Some.viewer.now ≡ open_viewer (lookup (nat_eq c.args.pass) c.args.self.now.attachments)
    = c.in-Some.ensures ∙ ap (λ (b : Held g.row.X.Denot g.row.X-G.Denot). open_viewer (lookup (nat_eq c.args.pass) b.attachments)) c.self.view_is in
    let running : c.args.self.now.running ≡ Some c.in-Some-running.running = sym (ap (λ (b : Held g.row.X.Denot g.row.X-G.Denot). b.running) c.self.view_is) ∙ c.in-Some-running.is in
    subst (λ v. SubmitDoes g.X.Game.rules c.args.self.now c.args.pass c.args.submission.now c.accept.result c.accept.new.self v standing) looks
    (submit_does g.X.Game.rules c.args.self.now c.args.pass c.in-Some-running.running c.in-Some.viewer.now c.args.submission.now c.in-Ok-Accepted.prepared c.in-Ok-Accepted.entry c.accept.result c.accept.new.self standing
    running h
    (λ m q. subst (λ room. IsAccepted g.X.Game.rules room m c.in-Some.viewer.now c.args.submission.now c.in-Ok-Accepted.prepared c.in-Ok-Accepted.entry) (ap (λ (b : Held g.row.X.Denot g.row.X-G.Denot). b.room) c.self.view_is)
    (subst (λ j. IsJudged g.X.Game.rules c.self.inside.room m c.in-Some.viewer.now c.args.submission.now j) c.in-Ok-Accepted.field-0-is (c.in-Ok-Accepted.ensures.judged m q)))
    c.accept.ensures.does)
