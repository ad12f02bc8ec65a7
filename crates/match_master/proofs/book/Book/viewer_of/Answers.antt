use Rattle.std.proofs.Common.{◌≡◌, Some, nat_eq, option_map, ap, ◌∙◌}
use Rattle.std.specs.Map.{lookup}
use Rattle.game_sheet.specs.Viewer.{seat_of}
use Rattle.room_history.specs.Room.{room_of}
use Rattle.match_master.specs.Attached.{open_viewer}
use Rattle.match_master.specs.Held.{Held}
use Rattle.match_master.proofs.StandsLaws.{seat_found}
use Rattle.match_master.proofs.book.Book.viewer_of.Goals as goal

pub returns-in-None : goal.returns-in-None
returns-in-None g c = λ h s.
    ap (option_map seat_of) (c.in-None.ensures ∙ ap (λ (b : Held g.row.X.Denot g.row.X-G.Denot). open_viewer (lookup (nat_eq c.args.pass) b.attachments)) c.self.view_is ∙ ap open_viewer (s.sessions_held c.args.pass))
    ∙ seat_found ((room_of g.X.Game.rules c.args.self.now.room h).sessions c.args.pass)

pub returns-in-Some : goal.returns-in-Some
returns-in-Some g c = λ h s.
    ap Some c.seat_of.ensures
    ∙ ap (option_map seat_of) (c.in-Some.ensures ∙ ap (λ (b : Held g.row.X.Denot g.row.X-G.Denot). open_viewer (lookup (nat_eq c.args.pass) b.attachments)) c.self.view_is ∙ ap open_viewer (s.sessions_held c.args.pass))
    ∙ seat_found ((room_of g.X.Game.rules c.args.self.now.room h).sessions c.args.pass)
