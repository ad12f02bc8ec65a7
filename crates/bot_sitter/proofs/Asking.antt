-- What a bot is asked on: what is settled, of a number above the last.
use Rattle.std.proofs.Common.{◌≡◌, ◌==◌, ◌&&◌, ℕ, Bool, true, false, if◌then◌else◌, length, Option, Some, None, ap, ◌∙◌, sym}
use Rattle.client_predict.specs.Client.{Client, Playing}
use Rattle.player_sight.specs.declared.shown.Snapshot.{Snapshot}
use Rattle.bot_sitter.specs.Seen.{Agrees, sees_in, settled_of}
use Rattle.bot_sitter.specs.Sitting.{is_above, may_ask, may_ask_of, settled_in}

asked_sees_by : {G : Type 0} (gone : Bool) (last : Option ℕ) (playing : Option (Playing G)) (s : Snapshot G)
    → (if gone then false else may_ask_of last playing) ≡ true → settled_of playing ≡ Some s → (if gone then None else settled_of playing) ≡ Some s
asked_sees_by true last playing s may e = cc
asked_sees_by false last playing s may e = e

asked_sees : {G : Type 0} (last : Option ℕ) (client : Option (Client G)) (s : Snapshot G) → may_ask last client ≡ true → settled_in client ≡ Some s → sees_in client ≡ Some s
asked_sees last None s may e = cc
asked_sees last (Some c) s may e = asked_sees_by c.gone last c.playing s may e

settled_by : {G : Type 0} (gone : Bool) (settled : Option (Snapshot G)) (s : Snapshot G) → (if gone then None else settled) ≡ Some s → settled ≡ Some s
settled_by true settled s e = cc
settled_by false settled s e = e

pub asked_shown : {G : Type 0} (last : Option ℕ) (client : Option (Client G)) (d : Client G) (s : Snapshot G)
    → may_ask last client ≡ true → settled_in client ≡ Some s → Agrees client d → settled_of d.playing ≡ Some s
asked_shown last client d s may e agrees = settled_by d.gone (settled_of d.playing) s (agrees s (asked_sees last client s may e))

both_are : (a b : Bool) → (a && b) ≡ true → b ≡ true
both_are true b e = e
both_are false b e = cc

above_of : {G : Type 0} (gone : Bool) (last : Option ℕ) (playing : Option (Playing G)) (s : Snapshot G)
    → (if gone then false else may_ask_of last playing) ≡ true → settled_of playing ≡ Some s → is_above last s.number ≡ true
above_of true last playing s may e = cc
above_of false last None s may e = cc
above_of false last (Some p) s may e =
    let same : p.settled ≡ s = cc in
    ap (λ (x : Snapshot _). is_above last x.number) (sym same) ∙ both_are (length p.waiting == 0) (is_above last p.settled.number) may

pub above_last : {G : Type 0} (last : Option ℕ) (client : Option (Client G)) (s : Snapshot G)
    → may_ask last client ≡ true → settled_in client ≡ Some s → is_above last s.number ≡ true
above_last last None s may e = cc
above_last last (Some c) s may e = above_of c.gone last c.playing s may e
