use Rattle.std.proofs.Common.{◌≡◌, ◌++◌, ◌∙◌, ℕ, Some, ap, codes, subst, sym}
use Rattle.any_game.specs.AnyRules.{any_rules}
use Rattle.any_game.specs.GameKind.{GameKind}
use Rattle.any_game.specs.declared.any_g.AnyG.{AnyG}
use Rattle.client_predict.specs.Client.{Held, settled_in, shown_in}
use Rattle.client_predict.specs.Stack.{snapshot_of}
use Rattle.world_history.specs.Words.{of_client}
use Rattle.world_history.specs.WorldScript.{shown_text, snapshot_text}
use Rattle.player_sight.specs.declared.shown.Snapshot.{Snapshot}
use Rattle.client_world.proofs.player.Player.show.Goals as goal

-- both lines, of a client of this game
shows_both : (client : ℕ) (game : GameKind) (held : Held GameKind AnyG) (settled shown : Snapshot AnyG) → held.game ≡ game
    → Some settled ≡ settled_in held.client → Some shown ≡ shown_in (any_rules held.game) held.client
    → of_client client (codes "settled " ++ snapshot_text any_rules game settled) ++ of_client client (codes "shown " ++ snapshot_text any_rules game shown)
    ≡ shown_text any_rules client held.game (settled_in held.client) (shown_in (any_rules held.game) held.client)
shows_both client game held settled shown same is_settled is_shown =
    ap (λ x. of_client client (codes "settled " ++ snapshot_text any_rules x settled) ++ of_client client (codes "shown " ++ snapshot_text any_rules x shown)) (sym same)
    ∙ ap (λ o. shown_text any_rules client held.game o (Some shown)) is_settled ∙ ap (λ o. shown_text any_rules client held.game (settled_in held.client) o) is_shown

pub returns : goal.returns
returns c =
    let game = c.self.inside.game in
    let held : Held GameKind AnyG = c.self.inside.client in
    let settled = c.in-Some.settled.now in
    let shown = snapshot_of c.in-Some-shown.shown in
    let both = c.in_ok-put_shown.ensures
    ∙ ap (λ t. t ++ of_client c.args.client (codes "shown " ++ snapshot_text any_rules game shown))
    (c.in_ok-put_settled.ensures ∙ ap (λ t. t ++ of_client c.args.client (codes "settled " ++ snapshot_text any_rules game settled)) c.new-text.ensures.items)
    ∙ shows_both c.args.client game held settled shown c.self.invariant c.in-Some.ensures c.in-Some-shown.ensures.shown in
    subst (λ (h : Held GameKind AnyG). c.put_shown.new.text.items ≡ shown_text any_rules c.args.client h.game (settled_in h.client) (shown_in (any_rules h.game) h.client)) c.self.view_is both
