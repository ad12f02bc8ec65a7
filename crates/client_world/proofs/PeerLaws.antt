-- What one client comes to by itself is what the world's definitions make of it.
use Rattle.std.proofs.Common.{◌≡◌, ◌++◌, ◌⊎◌, inl, inr, ℕ, false, List, [], ◌∷◌, set, Option, Some, None, codes, refl, sym, ap, subst, ◌∙◌}
use Rattle.std.specs.Prelude.{Result, Ok, Err, MatchBool, IfSome, IfNone, option_map}
use Rattle.any_game.specs.AnyRules.{any_rules}
use Rattle.any_game.specs.GameKind.{GameKind}
use Rattle.any_game.specs.declared.any_g.AnyG.{AnyG}
use Rattle.client_predict.specs.Acting.{act_no, act_told}
use Rattle.client_predict.specs.Client.{Held, Playing}
use Rattle.client_predict.specs.Reading.{is_starved, reads}
use Rattle.client_predict.specs.declared.told.ActNo.{ActNo}
use Rattle.client_predict.specs.declared.told.ActNo.TheVariants as unacted
use Rattle.client_predict.specs.declared.told.FeedNo.{FeedNo}
use Rattle.client_predict.specs.declared.told.Predicted.{Predicted}
use Rattle.client_predict.specs.declared.told.Told.{Told}
use Rattle.hall_history.specs.Mark.{Mark, Served, Unread}
use Rattle.world_history.specs.Words.{act_no_word, heard_word, of_client, predicted_word}
use Rattle.world_history.specs.World.{World, with_client, with_down, with_up}
use Rattle.world_history.specs.WorldScript.{acts, acts_in, has_starved, prints_word, reads_in}
use Rattle.world_history.specs.Parts.{act_line, with_action}
use Rattle.wire_json.specs.declared.asked.Asked.{Asked}
use Rattle.client_world.specs.Outcomes.{Acted, HasActed, HasHeard, HasRead, MakesNone, PeerActs, PeerReads, ReadsNext, PopsUp, reads_next}
use Rattle.client_world.specs.Peers.{ArePeers, peer_of}
use Rattle.client_world.specs.declared.peer.Peer.{Peer}
use Rattle.client_world.proofs.Peering.{down_put, links_put, player_down_put, player_up_put, same_put, seat_put, up_put}

module _ (w : World GameKind AnyG) (c : ℕ) (peers : List Peer) (are : ArePeers peers w) where
  -- ---- an action

  acts_as : (asked : Asked) (held : Held GameKind AnyG) (p : Playing AnyG) → w.clients c ≡ Some held → held.client.playing ≡ Some p → act_no held.client.gone (Some p) ≡ None
      → acts any_rules false w c (w.clients c) asked
      ≡ prints_word (with_up (with_client w c (with_action any_rules held p asked)) c (w.up c ++ act_line any_rules held p asked ∷ [])) c (predicted_word (act_told (any_rules held.game) p asked))
  acts_as asked held p there playing may =
      ap (λ o. acts any_rules false w c o asked) there
      ∙ ap (λ pl. acts_in any_rules w c held pl asked (act_no held.client.gone pl)) playing
      ∙ ap (acts_in any_rules w c held (Some p) asked) may

  acted_ok : (asked : Asked) (told : Predicted) (q : Peer) → HasActed (peer_of w c) asked told q → Acted w c asked (Ok told) (set peers c q)
  acted_ok asked told q h =
      let held = h.held in
      let p = h.acted.p in
      let after = with_action any_rules held p asked in
      let ls : List (List ℕ) = w.up c ++ act_line any_rules held p asked ∷ [] in
      let with_player : Held GameKind AnyG → Peer = λ a. record { player = Some a; up = w.up c ++ h.line ∷ []; down = w.down c } in
      let with_line : List ℕ → Peer = λ l. record { player = Some after; up = w.up c ++ l ∷ []; down = w.down c } in
      let is = h.is ∙ ap with_player h.acted.waits ∙ ap with_line h.acted.sent in
      let done = acts_as asked held p h.there h.acted.playing h.acted.may in
      record {
        mark = Served;
        peers = subst (λ d. ArePeers (set peers c q) d.0) (sym done) (subst (λ x. ArePeers (set peers c x) (with_up (with_client w c after) c ls)) (sym is) (player_up_put w c peers are after ls));
        word = ap (λ d. d.1) done ∙ ap (λ t. of_client c (predicted_word t)) (sym h.acted.guessed);
      }

  makes_none : (asked : Asked) (o : Option (Held GameKind AnyG)) (why : ActNo) → MakesNone o why
      → (mark : Mark) × (acts any_rules (has_starved mark) w c o asked ≡ prints_word w c (act_no_word why))
  makes_none asked None why e = (Served, ap (λ x. prints_word w c (act_no_word x)) (sym e))
  makes_none asked (Some held) unacted.NoMemory h = (Unread, refl)
  makes_none asked (Some held) unacted.NotSynced h = (Served, ap (acts_in any_rules w c held held.client.playing asked) (h (λ e. cc)))
  makes_none asked (Some held) unacted.Gone h = (Served, ap (acts_in any_rules w c held held.client.playing asked) (h (λ e. cc)))
  makes_none asked (Some held) unacted.TooManyWaiting h = (Served, ap (acts_in any_rules w c held held.client.playing asked) (h (λ e. cc)))

  unchanged : (q : Peer) → q ≡ peer_of w c → ArePeers (set peers c q) w
  unchanged q same = subst (λ x. ArePeers (set peers c x) w) (sym same) (same_put w c peers are)

  pub acted_peer : (asked : Asked) (told : Result Predicted ActNo) (q : Peer) → PeerActs (peer_of w c) asked told q → Acted w c asked told (set peers c q)
  acted_peer asked (Ok told) q h = acted_ok asked told q h
  acted_peer asked (Err why) q h =
      let none = makes_none asked (w.clients c) why h.1 in
      record {
        mark = none.0;
        peers = subst (λ d. ArePeers (set peers c q) d.0) (sym none.1) (unchanged q h.0);
        word = ap (λ d. d.1) none.1;
      }

  -- ---- a line that is read

  nothing_read : (o : Option (Held GameKind AnyG)) (ls : List (List ℕ)) → (o ≡ None) ⊎ (ls ≡ []) → reads_in any_rules w c o ls ≡ prints_word w c (codes "quiet")
  nothing_read o ls (inl e) = ap (λ x. reads_in any_rules w c x ls) e
  nothing_read None ls (inr e) = refl
  nothing_read (Some held) ls (inr e) = ap (reads_in any_rules w c (Some held)) e

  read_some : (told : Result Told FeedNo) (q : Peer) → HasHeard (peer_of w c) told q → is_starved told ≡ false → HasRead w c told (set peers c q)
  read_some told q h fed =
      let held = h.held in
      let heard = reads (any_rules held.game) held.client h.line in
      let after : Held GameKind AnyG = record { game = held.game; key = held.key; client = heard.client } in
      let both = subst (λ b. MatchBool b (h.after ≡ held) ((told ≡ heard.told) × (h.after ≡ after))) fed h.hears in
      let with_player : Held GameKind AnyG → Peer = λ a. record { player = Some a; up = w.up c; down = h.rest } in
      let is = h.is ∙ ap with_player both.1 in
      let done : reads_next w c ≡ prints_word (with_down (with_client w c after) c h.rest) c (heard_word heard.told) = ap (λ o. reads_in any_rules w c o (w.down c)) h.there ∙ ap (reads_in any_rules w c (Some held)) h.waits in
      record {
        peers = subst (λ d. ArePeers (set peers c q) d.0) (sym done) (subst (λ x. ArePeers (set peers c x) (with_down (with_client w c after) c h.rest)) (sym is) (player_down_put w c peers are after h.rest));
        word = ap (λ d. d.1) done ∙ ap (λ t. of_client c (heard_word t)) (sym both.0);
      }

  pub read_peer : (heard : Option (Result Told FeedNo)) (q : Peer) → PeerReads (peer_of w c) heard q → ReadsNext w c heard (set peers c q)
  read_peer None q h = (nothing_read (w.clients c) (w.down c) h.1, unchanged q h.0)
  read_peer (Some told) q h = read_some told q h

  -- ---- its links

  module _ (p : Peer) (is : p ≡ peer_of w c) where
    pub popped : {V : Type 0} (items : V → List ℕ) (line : Option V) (ls : List (List ℕ)) → IfSome line (λ l. p.up ≡ items l ∷ ls) → IfNone line ((p.up ≡ []) × (ls ≡ []))
        → PopsUp w c (option_map items line) (set peers c (record p { up = ls }))
    popped items None ls some none =
        (sym (ap (λ (x : Peer). x.up) is) ∙ none.0, unchanged (record p { up = ls }) (ap (λ l. let x : Peer = record p { up = l } in x) (none.1 ∙ sym none.0) ∙ is))
    popped items (Some line) ls some none =
        (ls, sym (ap (λ (x : Peer). x.up) is) ∙ some, subst (λ (x : Peer). ArePeers (set peers c (record x { up = ls })) (with_up w c ls)) (sym is) (up_put w c peers are ls))

    pub pushed_down : (ls more : List (List ℕ)) → ls ≡ p.down ++ more → ArePeers (set peers c (record p { down = ls })) (with_down w c (w.down c ++ more))
    pushed_down ls more e =
        subst (λ (x : Peer). ArePeers (set peers c (record x { down = ls })) (with_down w c (w.down c ++ more))) (sym is)
        (subst (λ l. ArePeers (set peers c (record (peer_of w c) { down = l })) (with_down w c (w.down c ++ more))) (sym (e ∙ ap (λ (x : Peer). x.down ++ more) is)) (down_put w c peers are (w.down c ++ more)))

    pub cleared : (q : Peer) → q ≡ record p { up = []; down = [] } → ArePeers (set peers c q) (with_down (with_up w c []) c [])
    cleared q e =
        subst (λ x. ArePeers (set peers c x) (with_down (with_up w c []) c [])) (sym (e ∙ ap (λ (x : Peer). let y : Peer = record x { up = []; down = [] } in y) is)) (links_put w c peers are [] [])

  pub seated : (held : Held GameKind AnyG) (line : List ℕ) (q : Peer) → q ≡ record { player = Some held; up = line ∷ []; down = [] }
      → ArePeers (set peers c q) (with_up (with_client (with_down (with_up w c []) c []) c held) c (line ∷ []))
  seated held line q e = subst (λ x. ArePeers (set peers c x) (with_up (with_client (with_down (with_up w c []) c []) c held) c (line ∷ []))) (sym e) (seat_put w c peers are held (line ∷ []))
