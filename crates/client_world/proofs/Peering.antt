-- A change at one place is a change of one client of the world.
use Rattle.std.proofs.Common.{◌≡◌, ◌==◌, ◌<◌, ◌++◌, ℕ, Bool, true, false, cond, List, [], length, replicate, set, get_or, Some, refl, sym, ap, subst, ◌∙◌, append-nil, arith}
use Rattle.std.specs.Prelude.{slice_get, slice_index_or}
use Rattle.std.proofs.lemmas.Bool.{eqb-true, eqb-false}
use Rattle.std.proofs.lemmas.List.{length-set, length-replicate, get_or-replicate, get_or-set_same, get_or-set_other}
use Rattle.std.proofs.lemmas.Option.{slice_get-get_or, get_or_from_slice_get}
use Rattle.any_game.specs.GameKind.{GameKind}
use Rattle.any_game.specs.declared.any_g.AnyG.{AnyG}
use Rattle.client_predict.specs.Client.{Held}
use Rattle.world_history.specs.World.{World, new_world, with_client, with_down, with_up}
use Rattle.client_world.specs.Peers.{ArePeers, no_peer, peer_of}
use Rattle.client_world.specs.declared.peer.Peer.{Peer}

read_at : (peers : List Peer) (w v : World GameKind AnyG) (c : ℕ) (q : Peer) (d : ℕ) (b : Bool) → (c == d) ≡ b → length peers ≡ 32 → d < 32
    → slice_get peers d ≡ Some (peer_of w d) → slice_get (set peers c q) d ≡ Some (cond b q (peer_of w d))
read_at peers w v c q d true e count h there =
    let same : d ≡ c = sym (eqb-true c d e) in
    let within : d < length (set peers c q) = omega (arith, length-set peers c q) in
    slice_get-get_or (set peers c q) d q within ∙ ap Some (ap (λ n. get_or (set peers c q) n q) same ∙ get_or-set_same peers c q q (omega arith))
read_at peers w v c q d false e count h there =
    let within : d < length (set peers c q) = omega (arith, length-set peers c q) in
    slice_get-get_or (set peers c q) d q within
    ∙ ap Some (get_or-set_other peers c d q q (λ same. eqb-false c d e (sym same)) ∙ get_or_from_slice_get peers d (peer_of w d) q there)

-- a world whose one client is as the peer that was put there
pub put : (peers : List Peer) (w v : World GameKind AnyG) (c : ℕ) (q : Peer) → ArePeers peers w
    → ((d : ℕ) → peer_of v d ≡ cond (c == d) q (peer_of w d)) → ArePeers (set peers c q) v
put peers w v c q are is = (length-set peers c q ∙ are.0, λ d h. read_at peers w v c q d (c == d) refl are.0 h (are.1 d h) ∙ ap Some (sym (is d)))

module _ (w : World GameKind AnyG) (c : ℕ) where
  up_at : (ls : List (List ℕ)) (d : ℕ) (b : Bool) → (c == d) ≡ b
      → record { player = w.clients d; up = cond b ls (w.up d); down = w.down d } ≡ cond b (record (peer_of w c) { up = ls }) (peer_of w d)
  up_at ls d true e = ap (λ x. record (peer_of w x) { up = ls }) (sym (eqb-true c d e))
  up_at ls d false e = refl

  down_at : (ls : List (List ℕ)) (d : ℕ) (b : Bool) → (c == d) ≡ b
      → record { player = w.clients d; up = w.up d; down = cond b ls (w.down d) } ≡ cond b (record (peer_of w c) { down = ls }) (peer_of w d)
  down_at ls d true e = ap (λ x. record (peer_of w x) { down = ls }) (sym (eqb-true c d e))
  down_at ls d false e = refl

  player_up_at : (held : Held GameKind AnyG) (ls : List (List ℕ)) (d : ℕ) (b : Bool) → (c == d) ≡ b
      → record { player = cond b (Some held) (w.clients d); up = cond b ls (w.up d); down = w.down d } ≡ cond b (record { player = Some held; up = ls; down = w.down c }) (peer_of w d)
  player_up_at held ls d true e = ap (λ x. record { player = Some held; up = ls; down = w.down x }) (sym (eqb-true c d e))
  player_up_at held ls d false e = refl

  player_down_at : (held : Held GameKind AnyG) (ls : List (List ℕ)) (d : ℕ) (b : Bool) → (c == d) ≡ b
      → record { player = cond b (Some held) (w.clients d); up = w.up d; down = cond b ls (w.down d) } ≡ cond b (record { player = Some held; up = w.up c; down = ls }) (peer_of w d)
  player_down_at held ls d true e = ap (λ x. record { player = Some held; up = w.up x; down = ls }) (sym (eqb-true c d e))
  player_down_at held ls d false e = refl

  links_at : (up down : List (List ℕ)) (d : ℕ) (b : Bool) → (c == d) ≡ b
      → record { player = w.clients d; up = cond b up (w.up d); down = cond b down (w.down d) } ≡ cond b (record { player = w.clients c; up = up; down = down }) (peer_of w d)
  links_at up down d true e = ap (λ x. record { player = w.clients x; up = up; down = down }) (sym (eqb-true c d e))
  links_at up down d false e = refl

  seat_at : (held : Held GameKind AnyG) (ls : List (List ℕ)) (d : ℕ) (b : Bool) → (c == d) ≡ b
      → record { player = cond b (Some held) (w.clients d); up = cond b ls (cond b [] (w.up d)); down = cond b [] (w.down d) } ≡ cond b (record { player = Some held; up = ls; down = [] }) (peer_of w d)
  seat_at held ls d true e = refl
  seat_at held ls d false e = refl

  same_at : (d : ℕ) (b : Bool) → (c == d) ≡ b → peer_of w d ≡ cond b (peer_of w c) (peer_of w d)
  same_at d true e = ap (peer_of w) (sym (eqb-true c d e))
  same_at d false e = refl

  down_kept : (d : ℕ) (b : Bool) → (c == d) ≡ b → cond b (w.down c) (w.down d) ≡ w.down d
  down_kept d true e = ap w.down (eqb-true c d e)
  down_kept d false e = refl

  module _ (peers : List Peer) (are : ArePeers peers w) where
    -- no line more on a down link
    pub nothing_put : ArePeers peers (with_down w c (w.down c ++ []))
    nothing_put =
        let kept : ArePeers peers (with_down w c (w.down c)) =
        (are.0, λ d h. are.1 d h ∙ ap (λ ls. let p : Peer = record { player = w.clients d; up = w.up d; down = ls } in Some p) (sym (down_kept d (c == d) refl))) in
        subst (λ ls. ArePeers peers (with_down w c ls)) (sym (append-nil (w.down c))) kept

    pub same_put : ArePeers (set peers c (peer_of w c)) w
    same_put = put peers w w c (peer_of w c) are (λ d. same_at d (c == d) refl)

    pub up_put : (ls : List (List ℕ)) → ArePeers (set peers c (record (peer_of w c) { up = ls })) (with_up w c ls)
    up_put ls = put peers w (with_up w c ls) c (record (peer_of w c) { up = ls }) are (λ d. up_at ls d (c == d) refl)

    pub down_put : (ls : List (List ℕ)) → ArePeers (set peers c (record (peer_of w c) { down = ls })) (with_down w c ls)
    down_put ls = put peers w (with_down w c ls) c (record (peer_of w c) { down = ls }) are (λ d. down_at ls d (c == d) refl)

    pub player_up_put : (held : Held GameKind AnyG) (ls : List (List ℕ))
        → ArePeers (set peers c (record { player = Some held; up = ls; down = w.down c })) (with_up (with_client w c held) c ls)
    player_up_put held ls = put peers w (with_up (with_client w c held) c ls) c (record { player = Some held; up = ls; down = w.down c }) are (λ d. player_up_at held ls d (c == d) refl)

    pub player_down_put : (held : Held GameKind AnyG) (ls : List (List ℕ))
        → ArePeers (set peers c (record { player = Some held; up = w.up c; down = ls })) (with_down (with_client w c held) c ls)
    player_down_put held ls = put peers w (with_down (with_client w c held) c ls) c (record { player = Some held; up = w.up c; down = ls }) are (λ d. player_down_at held ls d (c == d) refl)

    pub links_put : (up down : List (List ℕ))
        → ArePeers (set peers c (record { player = w.clients c; up = up; down = down })) (with_down (with_up w c up) c down)
    links_put up down = put peers w (with_down (with_up w c up) c down) c (record { player = w.clients c; up = up; down = down }) are (λ d. links_at up down d (c == d) refl)

    pub seat_put : (held : Held GameKind AnyG) (ls : List (List ℕ))
        → ArePeers (set peers c (record { player = Some held; up = ls; down = [] })) (with_up (with_client (with_down (with_up w c []) c []) c held) c ls)
    seat_put held ls = put peers w (with_up (with_client (with_down (with_up w c []) c []) c held) c ls) c (record { player = Some held; up = ls; down = [] }) are (λ d. seat_at held ls d (c == d) refl)

-- the client at a place
pub found : (w : World GameKind AnyG) (c : ℕ) (peers : List Peer) (p : Peer) → ArePeers peers w → c < 32 → p ≡ slice_index_or peers c p → p ≡ peer_of w c
found w c peers p are h is = is ∙ get_or_from_slice_get peers c (peer_of w c) p (are.1 c h)

-- places without clients
pub none_yet : (rooms : ℕ) → ArePeers (replicate 32 no_peer) (new_world rooms)
none_yet rooms = (length-replicate 32 no_peer, λ c h. slice_get-get_or (replicate 32 no_peer) c no_peer h ∙ ap Some (get_or-replicate 32 c no_peer no_peer h))
