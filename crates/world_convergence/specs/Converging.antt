-- What the clients of a world hold and print, over all the games.
use Rattle.std.specs.Prelude.{◌≡◌, ◌≢◌, ℕ, List, [], ◌∷◌, ◌++◌, codes, Option, Some, None, Ok, false, true}
use Rattle.any_game.specs.AnyRules.{any_rules}
use Rattle.any_game.specs.GameKind.{GameKind}
use Rattle.any_game.specs.declared.any_g.AnyG.{AnyG}
use Rattle.client_predict.specs.Client.{Held, Playing, shown_of}
use Rattle.client_predict.specs.Reading.{lost, reads}
use Rattle.client_predict.specs.declared.told.FeedNo.TheVariants.{BadLine}
use Rattle.game_sheet.specs.MatchName.{Name}
use Rattle.game_sheet.specs.Viewer.{seat_of}
use Rattle.reducer.specs.Accepted.{Accepted}
use Rattle.room_history.specs.Match.{Match}
use Rattle.room_history.specs.Piece.{Open}
use Rattle.room_history.specs.Session.{Session, handful, session_state}
use Rattle.serde_json.specs.Data.{Data}
use Rattle.wire_json.specs.ServerReading.{server_read}
use Rattle.wire_json.specs.declared.protocol.Protocol.{Protocol}
use Rattle.wire_json.specs.declared.server.ServerMsg.TheVariants.{Sync}
use Rattle.convergence.specs.Doing.{KnowsWhere, ticket_in}
use Rattle.client_predict.specs.Following.{is_bye}
use Rattle.room_history.specs.Shown.{view_at}
use Rattle.world_history.specs.Words.{of_client}
use Rattle.world_history.specs.World.{World}
use Rattle.world_history.specs.WorldScript.{shows, snapshot_text}
use Rattle.world_convergence.specs.Meeting.{Meets, Run, world_after}
use Rattle.world_convergence.specs.Settling.{Settles, SettlesAt}
use Rattle.world_convergence.specs.Trailing.{Trails}

-- a client of a world whose game is that of its session's match
pub record Sees (w : World GameKind AnyG) (c : ℕ) (held : Held GameKind AnyG) (s : Session) (m : Match GameKind AnyG) : Type 0 where
  -- it has settled what its session's viewer sees of the match at the settled number
  pub settled : (p : Playing AnyG) → held.client.playing ≡ Some p → Settles any_rules m s p
  -- where its session goes on, nothing waits for it and nothing is on its link, that is the match as it stands
  pub present : session_state s ≡ Open → handful s ≡ [] → w.down c ≡ []
      → (held.client.gone ≡ false) × (p : Playing AnyG) × (held.client.playing ≡ Some p) × SettlesAt any_rules m s m.accepted p
  -- no line makes it gone but a bye
  pub goes_on : (line : List ℕ) (rest : List (List ℕ)) → w.down c ≡ line ∷ rest → held.client.gone ≡ false → is_bye (server_read line) ≡ false
      → (reads (any_rules held.game) held.client line).client.gone ≡ false
  -- a show line prints the settled snapshot, and what is guessed from it
  pub shown : (p : Playing AnyG) → held.client.playing ≡ Some p → (later : List Accepted) × (earlier : List Accepted) × (m.accepted ≡ later ++ earlier)
      × (shows any_rules c (w.clients c)
      ≡ of_client c (codes "settled " ++ snapshot_text any_rules m.game (view_at (any_rules m.game) m.first (seat_of s.viewer) earlier))
      ++ of_client c (codes "shown " ++ snapshot_text any_rules m.game (shown_of (any_rules m.game) p)))

-- a client of another game: its sync is a bad line to it, and it is gone from then on
pub record IsLost (w : World GameKind AnyG) (c : ℕ) (held : Held GameKind AnyG) : Type 0 where
  pub nothing : held.client.playing ≡ None
  pub sync : (line : List ℕ) (rest : List (List ℕ)) → w.down c ≡ line ∷ rest
      → (name : Name) (seat : Option ℕ) (protocol : Protocol) (snapshot : Data) → server_read line ≡ Ok (Sync name seat protocol snapshot)
      → reads (any_rules held.game) held.client line ≡ lost held.client BadLine
  pub gone : (line : List ℕ) (rest : List (List ℕ)) → w.down c ≡ line ∷ rest → held.client.gone ≡ true
      → (reads (any_rules held.game) held.client line).client.gone ≡ true

pub record Converges (named : List ℕ → Option GameKind) (tape : ℕ → List ℕ) (run : Run GameKind) : Type 0 where
  -- a client that has read its sync has a session, and the session a match
  pub synced : (c : ℕ) (held : Held GameKind AnyG) → (world_after named any_rules tape run).clients c ≡ Some held
      → (p : Playing AnyG) → held.client.playing ≡ Some p
      → (s : Session) × (m : Match GameKind AnyG) × Meets named any_rules tape run c held s m
  -- it has read a first part of what its session was sent, and its link goes on from there
  pub trails : (c : ℕ) (held : Held GameKind AnyG) (s : Session) (m : Match GameKind AnyG) (meets : Meets named any_rules tape run c held s m)
      → Trails any_rules (world_after named any_rules tape run) c meets.room held s
  -- the answer that it reads next, if it is one, is to an act that waits
  pub answers : (c : ℕ) (held : Held GameKind AnyG) (s : Session) (m : Match GameKind AnyG) → Meets named any_rules tape run c held s m
      → (line : List ℕ) (rest : List (List ℕ)) → (world_after named any_rules tape run).down c ≡ line ∷ rest
      → KnowsWhere held.client (ticket_in (server_read line))
  pub sees : (c : ℕ) (held : Held GameKind AnyG) (s : Session) (m : Match GameKind AnyG) → Meets named any_rules tape run c held s m
      → held.game ≡ m.game → Sees (world_after named any_rules tape run) c held s m
  pub lost : (c : ℕ) (held : Held GameKind AnyG) (s : Session) (m : Match GameKind AnyG) → Meets named any_rules tape run c held s m
      → (any_rules held.game).sheet.name ≢ (any_rules m.game).sheet.name → IsLost (world_after named any_rules tape run) c held
