-- What the steps of a world come to in the code: the words of an action and of a leaving, and what a step makes of the clients and links.
use Rattle.std.specs.Prelude.{◌≡◌, ◌≢◌, ◌⊎◌, ℕ, List, [], ◌∷◌, ◌++◌, false, codes, Option, Some, None, Result, Ok, Err}
use Rattle.std.specs.List.{concat}
use Rattle.any_game.specs.AnyRules.{any_rules}
use Rattle.any_game.specs.GameKind.{GameKind}
use Rattle.any_game.specs.declared.any_g.AnyG.{AnyG}
use Rattle.client_predict.specs.Acting.{act_no, IsActed}
use Rattle.client_predict.specs.Client.{Held}
use Rattle.client_predict.specs.Reading.{Hears, is_starved, reads}
use Rattle.client_predict.specs.declared.told.ActNo.{ActNo}
use Rattle.client_predict.specs.declared.told.ActNo.TheVariants as unacted
use Rattle.client_predict.specs.declared.told.FeedNo.{FeedNo}
use Rattle.client_predict.specs.declared.told.Predicted.{Predicted}
use Rattle.client_predict.specs.declared.told.Told.{Told}
use Rattle.game_sheet.specs.Lines.{lines}
use Rattle.game_sheet.specs.declared.act.Bye.{Bye}
use Rattle.hall_history.specs.Mark.{Mark}
use Rattle.world_history.specs.Words.{act_no_word, heard_word, of_client, predicted_word}
use Rattle.world_history.specs.World.{World, with_up, with_down}
use Rattle.world_history.specs.WorldScript.{acts, has_starved, left_text, prints_word, reads_in, refused_text, takes, Done}
use Rattle.room_history.specs.Session.{bye_lines}
use Rattle.room_history.specs.declared.reply.RoomReply.{RoomReply}
use Rattle.wire_json.specs.RefusalText.{refusal_text}
use Rattle.wire_json.specs.declared.asked.Asked.{Asked}
use Rattle.wire_json.specs.declared.refusal.Refusal.TheVariants.{NoMatch}
use Rattle.client_world.specs.IsWorld.{HeldWorld, IsWorld}
use Rattle.client_world.specs.Peers.{ArePeers}
use Rattle.client_world.specs.declared.peer.Peer.{Peer}

abbrev pub acted_word : Result Predicted ActNo → List ℕ
acted_word (Ok told) = predicted_word told
acted_word (Err why) = act_no_word why

-- none where the match's room isn't there
abbrev pub leaving_text : Option RoomReply → List ℕ
leaving_text None = refused_text (refusal_text NoMatch)
leaving_text (Some told) = left_text told

-- ---- what a client comes to by itself

-- a client made an action, whose line went on its up link
pub record HasActed (old : Peer) (asked : Asked) (told : Predicted) (new : Peer) : Type 0 where
  pub held : Held GameKind AnyG
  pub line : List ℕ
  pub after : Held GameKind AnyG
  pub there : old.player ≡ Some held
  pub acted : IsActed (any_rules held.game) held asked line told after
  pub is : new ≡ record { player = Some after; up = old.up ++ line ∷ []; down = old.down }

-- why it made none, but for want of memory
abbrev pub MakesNone : Option (Held GameKind AnyG) → ActNo → Type 0
MakesNone None why = why ≡ unacted.NotSynced
MakesNone (Some held) why = why ≢ unacted.NoMemory → act_no held.client.gone held.client.playing ≡ Some why

abbrev pub PeerActs : Peer → Asked → Result Predicted ActNo → Peer → Type 0
PeerActs old asked (Ok told) new = HasActed old asked told new
PeerActs old asked (Err why) new = (new ≡ old) × MakesNone old.player why

-- a client read the oldest line of its down link
pub record HasHeard (old : Peer) (heard : Result Told FeedNo) (new : Peer) : Type 0 where
  pub held : Held GameKind AnyG
  pub line : List ℕ
  pub rest : List (List ℕ)
  pub after : Held GameKind AnyG
  pub there : old.player ≡ Some held
  pub waits : old.down ≡ line ∷ rest
  pub hears : Hears held heard after (reads (any_rules held.game) held.client line)
  pub is : new ≡ record { player = Some after; up = old.up; down = rest }

-- there was nobody to read, or nothing
abbrev pub PeerReads : Peer → Option (Result Told FeedNo) → Peer → Type 0
PeerReads old None new = (new ≡ old) × ((old.player ≡ None) ⊎ (old.down ≡ []))
PeerReads old (Some heard) new = HasHeard old heard new

-- ---- and in its world

module _ (w : World GameKind AnyG) (c : ℕ) where
  -- the oldest line of the up link was taken off
  abbrev pub PopsUp : Option (List ℕ) → List Peer → Type 0
  PopsUp None new = (w.up c ≡ []) × ArePeers new w
  PopsUp (Some line) new = (rest : List (List ℕ)) × (w.up c ≡ line ∷ rest) × ArePeers new (with_up w c rest)

  -- a client acted, or made no action, with the memory that a mark says
  pub record Acted (asked : Asked) (told : Result Predicted ActNo) (new : List Peer) : Type 0 where
    pub mark : Mark
    pub peers : ArePeers new (acts any_rules (has_starved mark) w c (w.clients c) asked).0
    pub word : (acts any_rules (has_starved mark) w c (w.clients c) asked).1 ≡ of_client c (acted_word told)

  abbrev pub reads_next : Done GameKind AnyG
  reads_next = reads_in any_rules w c (w.clients c) (w.down c)

  pub record HasRead (heard : Result Told FeedNo) (new : List Peer) : Type 0 where
    pub peers : ArePeers new reads_next.0
    pub word : reads_next.1 ≡ of_client c (heard_word heard)

  -- there was nothing to read, or nobody to read it; or a line was read, unless there was no memory
  abbrev pub ReadsNext : Option (Result Told FeedNo) → List Peer → Type 0
  ReadsNext None new = (reads_next ≡ prints_word w c (codes "quiet")) × ArePeers new w
  ReadsNext (Some heard) new = is_starved heard ≡ false → HasRead heard new

-- what a Take handed out went on the down link, each line by itself, and nothing was printed
pub record Hands (tape : ℕ → List ℕ) (w : World GameKind AnyG) (c : ℕ) (bytes : List ℕ) (end : Option Bye) (new : HeldWorld) (text : List ℕ) : Type 0 where
  pub stands : IsWorld tape new (with_down w c (w.down c ++ lines (bytes ++ concat (bye_lines end))))
  pub prints : text ≡ []

-- a Take was replied this, and it was handed out
pub record HandsReply (tape : ℕ → List ℕ) (w : World GameKind AnyG) (c : ℕ) (told : RoomReply) (new : HeldWorld) (text : List ℕ) : Type 0 where
  pub stands : IsWorld tape new (takes any_rules w c (w.hall, Some told)).0
  pub prints : text ≡ (takes any_rules w c (w.hall, Some told)).1
