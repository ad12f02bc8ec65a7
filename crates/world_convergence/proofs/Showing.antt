-- What a `show` line prints of a client that has settled a snapshot.
use Rattle.std.proofs.Common.{◌≡◌, ℕ, List, ◌++◌, codes, Option, Some, option_map, ap, ◌∙◌}
use Rattle.client_predict.specs.Client.{Held, Playing, shown_of}
use Rattle.game_sheet.specs.Viewer.{seat_of}
use Rattle.game_trait.specs.Rules.{Rules}
use Rattle.player_sight.specs.declared.shown.Snapshot.{Snapshot}
use Rattle.reducer.specs.Accepted.{Accepted}
use Rattle.room_history.specs.Match.{Match}
use Rattle.room_history.specs.Session.{Session}
use Rattle.room_history.specs.Shown.{view_at}
use Rattle.world_history.specs.Words.{of_client}
use Rattle.world_history.specs.WorldScript.{shown_text, shows, snapshot_text}
use Rattle.world_convergence.specs.Settling.{Settles}

module _ {X G : Type 0} (rules : X → Rules G) (c : ℕ) where
  abbrev text_of : X → Option (Playing G) → List ℕ
  text_of game o = shown_text rules c game (option_map (λ (p : Playing G). p.settled) o) (option_map (shown_of (rules game)) o)

  abbrev printed : X → Snapshot G → Playing G → List ℕ
  printed game settled p = of_client c (codes "settled " ++ snapshot_text rules game settled) ++ of_client c (codes "shown " ++ snapshot_text rules game (shown_of (rules game) p))

  pub prints : (o : Option (Held X G)) (held : Held X G) → o ≡ Some held → (s : Session) (m : Match X G) → held.game ≡ m.game → (p : Playing G) → held.client.playing ≡ Some p → Settles rules m s p
      → (later : List Accepted) × (earlier : List Accepted) × (m.accepted ≡ later ++ earlier)
      × (shows rules c o ≡ printed m.game (view_at (rules m.game) m.first (seat_of s.viewer) earlier) p)
  prints o held is s m game p playing x = (
    x.later,
    x.earlier,
    x.in_order,
    ap (shows rules c) is ∙ ap (text_of held.game) playing ∙ ap (λ g. text_of g (Some p)) game ∙ ap (λ (v : Snapshot G). printed m.game v p) x.at.settled,
  )
