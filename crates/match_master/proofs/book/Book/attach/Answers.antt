use Rattle.std.proofs.Common.{◌≡◌, None, Some, nat_eq, is_some, option_map, sym, ap, ◌∙◌}
use Rattle.std.specs.Map.{lookup}
use Rattle.match_master.specs.Does.{barred_by}
use Rattle.match_master.specs.Held.{Held}
use Rattle.match_master.proofs.BookLaws.{is_there, kept_out, let_in}
use Rattle.match_master.proofs.book.Book.attach.Goals as goal

pub begin_session-requires : goal.begin_session-requires
begin_session-requires g c =
    is_there g.X.Game.rules c.args.self.now.running (is_some (lookup (nat_eq c.args.pass) c.args.self.now.attachments)) c.args.serial c.args.viewer
    (sym (c.in-None.ensures
    ∙ ap (λ (b : Held g.row.X.Denot g.row.X-G.Denot). barred_by (option_map (λ r. (r.serial, r.roster)) b.running) c.is_attached-before.result c.args.serial c.args.viewer) c.self.view_is
    ∙ ap (λ x. barred_by (option_map (λ r. (r.serial, r.roster)) c.args.self.now.running) x c.args.serial c.args.viewer)
    (c.is_attached-before.ensures ∙ ap (λ (b : Held g.row.X.Denot g.row.X-G.Denot). is_some (lookup (nat_eq c.args.pass) b.attachments)) c.self.view_is)))

pub returns-in-Some-clause-does : goal.returns-in-Some-clause-does
returns-in-Some-clause-does g c = λ standing h.
    kept_out g.X.Game.rules c.args.self.now c.args.pass c.args.serial c.args.viewer c.args.protocol c.in-Some.why (lookup (nat_eq c.args.pass) c.args.self.now.attachments) standing h
    (sym (c.in-Some.ensures
    ∙ ap (λ (b : Held g.row.X.Denot g.row.X-G.Denot). barred_by (option_map (λ r. (r.serial, r.roster)) b.running) c.is_attached-before.result c.args.serial c.args.viewer) c.self.view_is
    ∙ ap (λ x. barred_by (option_map (λ r. (r.serial, r.roster)) c.args.self.now.running) x c.args.serial c.args.viewer)
    (c.is_attached-before.ensures ∙ ap (λ (b : Held g.row.X.Denot g.row.X-G.Denot). is_some (lookup (nat_eq c.args.pass) b.attachments)) c.self.view_is)))

pub returns-in-None-clause-does : goal.returns-in-None-clause-does
returns-in-None-clause-does g c = λ standing h.
    let_in g.X.Game.rules c.args.self.now c.args.pass c.args.serial c.args.viewer c.args.protocol c.begin_session.result c.begin_session.new.self (lookup (nat_eq c.args.pass) c.args.self.now.attachments) standing h
    (sym (c.in-None.ensures
    ∙ ap (λ (b : Held g.row.X.Denot g.row.X-G.Denot). barred_by (option_map (λ r. (r.serial, r.roster)) b.running) c.is_attached-before.result c.args.serial c.args.viewer) c.self.view_is
    ∙ ap (λ x. barred_by (option_map (λ r. (r.serial, r.roster)) c.args.self.now.running) x c.args.serial c.args.viewer)
    (c.is_attached-before.ensures ∙ ap (λ (b : Held g.row.X.Denot g.row.X-G.Denot). is_some (lookup (nat_eq c.args.pass) b.attachments)) c.self.view_is)))
    c.begin_session.ensures.does
