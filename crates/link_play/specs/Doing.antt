-- What a command makes of a player's sitting: what the client makes of it, what is printed, what is sent, and which answers the link gives.
use Rattle.std.specs.Prelude.{◌≡◌, ◌⊎◌, ℕ, ◌<◌, List, [], ◌∷◌, ◌++◌, Bool, true, false, length, codes, Option, Some, None, option_map}
use Rattle.board_links.specs.declared.link.Came.TheVariants as came
use Rattle.client_predict.specs.Acting.{act_no, act_told, submitted, with_act}
use Rattle.client_predict.specs.Client.{Client, Playing, settled_in, shown_in}
use Rattle.client_predict.specs.declared.told.ActNo.{ActNo}
use Rattle.game_sheet.specs.MatchName.{Name}
use Rattle.game_sheet.specs.Viewer.{Viewer}
use Rattle.game_trait.specs.Rules.{Rules}
use Rattle.world_history.specs.Words.{act_no_word, predicted_word}
use Rattle.player_sight.specs.Seen.{snap_of}
use Rattle.player_sight.specs.SnapshotData.{snapshot_data}
use Rattle.player_sight.specs.declared.shown.Snapshot.{Snapshot}
use Rattle.serde_json.specs.Written.{compact_text}
use Rattle.wire_json.specs.ClientText.{client_text}
use Rattle.wire_json.specs.declared.asked.Asked.{Asked}
use Rattle.wire_json.specs.declared.client.ClientMsg.TheVariants.{Sync, Act}
use Rattle.wire_json.specs.declared.protocol.Protocol.TheVariants.{One}
use Rattle.link_play.specs.Commands.{Command, Syncs, Nothing, Acts, Reads, Waits, Shows, Ends}
use Rattle.link_play.specs.Sitting.{Sitting, answered, becomes, hears_line, hears_lines, on_line, prints, quiet_for, sends}

-- how many lines a `read` takes at most
abbrev pub most_lines : ℕ
most_lines = 1000

-- how many times a `wait` finds the link quiet at most
abbrev pub most_quiet : ℕ
most_quiet = 10000

-- who plays: in which match, and as whose viewer
pub record Who : Type 0 where
  pub name : Name
  pub viewer : Viewer

abbrev pub key_of : Viewer → Option (List ℕ)
key_of viewer = option_map (λ claim. claim.1) viewer

-- the line that asks for the stream of the match
abbrev pub sync_line : Who → List ℕ
sync_line who = client_text (Sync who.name who.viewer One)

-- ---- what is shown

module _ {G : Type 0} (rules : Rules G) where
  abbrev pub snapshot_text : Snapshot G → List ℕ
  snapshot_text s = compact_text (snapshot_data rules.sheet (snap_of rules s))

  abbrev pub shown_text : Option (Snapshot G) → Option (Snapshot G) → List ℕ
  shown_text (Some settled) (Some shown) =
      on_line (codes "settled " ++ snapshot_text settled) ++ on_line (codes "shown " ++ snapshot_text shown)
  shown_text settled shown = on_line (codes "none")

  abbrev pub shows : Client G → List ℕ
  shows c = shown_text (settled_in c) (shown_in rules c)

-- ---- an action

module _ {G : Type 0} (rules : Rules G) where
  abbrev pub with_action : Client G → Playing G → Asked → Client G
  with_action c p asked = record { gone = c.gone; playing = Some (with_act rules p asked) }

  abbrev pub acted_word : Asked → Option ActNo → Option (Playing G) → List ℕ
  acted_word asked (Some why) playing = act_no_word why
  acted_word asked None (Some p) = predicted_word (act_told rules p asked)
  acted_word asked None None = codes "not-synced"

  -- without memory there is no action, and the word is `again`
  abbrev pub acted_text : Bool → Client G → Asked → List ℕ
  acted_text true c asked = on_line (codes "again")
  acted_text false c asked = on_line (acted_word asked (act_no c.gone c.playing) c.playing)

module _ {G : Type 0} (rules : Rules G) (key : Option (List ℕ)) where
  abbrev pub act_line : Playing G → Asked → List ℕ
  act_line p asked = client_text (Act (submitted rules key p asked))

  -- the client makes the action, and its line is sent, unless the client makes none
  abbrev pub acts_by : Sitting G → Asked → Option ActNo → Option (Playing G) → Sitting G
  acts_by s asked (Some why) playing = s
  acts_by s asked None (Some p) = sends (becomes s (with_action rules s.client p asked)) (act_line p asked)
  acts_by s asked None None = s

  abbrev pub acts : Bool → Sitting G → Asked → Sitting G
  acts true s asked = s
  acts false s asked = acts_by s asked (act_no s.client.gone s.client.playing) s.client.playing

-- ---- what the link is asked for

-- what a `wait` prints where no line came
abbrev pub quiet_text : List ℕ
quiet_text = on_line (codes "quiet")

module _ {G : Type 0} (rules : Rules G) where
  -- so many lines, or fewer of them and then a silence
  abbrev pub ReadsLines : Sitting G → Sitting G → Type 0
  ReadsLines s t = (lines : List (List ℕ))
      × (((length lines ≡ most_lines) × (t ≡ hears_lines rules s lines))
      ⊎ ((length lines < most_lines) × (t ≡ answered (hears_lines rules s lines) came.Quiet)))

  -- fewer silences than so many, and then a line; or so many silences
  abbrev pub WaitsForLine : Sitting G → Sitting G → Type 0
  WaitsForLine s t =
      ((times : ℕ) × (line : List ℕ) × (times < most_quiet) × (t ≡ hears_line rules (quiet_for s times) line))
      ⊎ (t ≡ prints (quiet_for s most_quiet) quiet_text)

-- ---- a command, and commands one after another

module _ {G : Type 0} (rules : Rules G) (who : Who) where
  abbrev pub Does : Command → Sitting G → Sitting G → Type 0
  Does Syncs s t = t ≡ sends s (sync_line who)
  Does Nothing s t = t ≡ s
  Does (Acts asked) s t = (starved : Bool) × (t ≡ prints (acts rules (key_of who.viewer) starved s asked) (acted_text rules starved s.client asked))
  Does Reads s t = ReadsLines rules s t
  Does Waits s t = WaitsForLine rules s t
  Does Shows s t = t ≡ prints s (shows rules s.client)
  Does Ends s t = t ≡ s

  abbrev pub Runs : List Command → Sitting G → Sitting G → Type 0
  Runs [] s t = t ≡ s
  Runs (c ∷ cs) s t = (m : Sitting G) × Does c s m × Runs cs m t
