-- What is held of the attachments by pass, and what a call makes of it at each of them.
use Rattle.std.specs.Prelude.{◌≡◌, ◌==◌, ℕ, Bool, true, false, if◌then◌else◌, List, [], ◌∷◌, map, is_some, Option, Some, None, nat_eq}
use Rattle.std.specs.Map.{lookup}
use Rattle.indexmap.specs.IndexMap.{insert_entry}
use Rattle.game_sheet.specs.Viewer.{Viewer, seat_of}
use Rattle.game_sheet.specs.declared.act.Bye.{Bye}
use Rattle.game_sheet.specs.declared.act.Bye.TheVariants.{Left}
use Rattle.wire_json.specs.declared.protocol.Protocol.{Protocol}
use Rattle.room_history.specs.Does.{is_left}
use Rattle.room_history.specs.Outbox.{Attachment}
use Rattle.room_history.specs.declared.reply.RoomReply.{RoomReply}
use Rattle.room_history.specs.declared.reply.RoomReply.TheVariants as answer
use Rattle.match_master.specs.declared.attachments.Attached.{Attached}
use Rattle.match_master.specs.Outgoing.{committed, emptied, gained, with_end, with_line}

-- what is held of an attachment, and what will be once what is staged there is committed
abbrev pub held_of : Attached → Attachment
held_of a = record { viewer = a.viewer; protocol = a.protocol; outbox = (a.outbox).now }

abbrev pub ready_of : Attached → Attachment
ready_of a = record { viewer = a.viewer; protocol = a.protocol; outbox = (a.outbox).next }

abbrev pub all_ready : List (ℕ × Attached) → List (ℕ × Attachment)
all_ready entries = map (λ e. (e.0, ready_of e.1)) entries

abbrev pub all_held : List (ℕ × Attached) → List (ℕ × Attachment)
all_held entries = map (λ e. (e.0, held_of e.1)) entries

-- the lines that tell of an action, by who looks and in which protocol
abbrev pub Lines : Type 0
Lines = Option ℕ → Protocol → List ℕ

-- what an action stages at an attachment: the line for its viewer and, at the pass's own, the verdict
abbrev pub with_staged : Bool → List ℕ → List ℕ → Attached → Attached
with_staged own said line a = record a { outbox = record (a.outbox) { next = gained own said line (a.outbox).now } }

abbrev pub staged : ℕ → List ℕ → Lines → ℕ × Attached → ℕ × Attached
staged pass said lines e = (e.0, with_staged (e.0 == pass) said (lines (seat_of (e.1).viewer) (e.1).protocol) e.1)

abbrev pub sent : ℕ × Attached → ℕ × Attached
sent e = (e.0, record (e.1) { outbox = committed (e.1).outbox })

-- what is held once all are told of an action
abbrev pub told : ℕ → List ℕ → Lines → ℕ × Attachment → ℕ × Attachment
told pass said lines e = (e.0, record (e.1) { outbox = gained (e.0 == pass) said (lines (seat_of (e.1).viewer) (e.1).protocol) (e.1).outbox })

abbrev pub all_told : ℕ → List ℕ → Lines → List (ℕ × Attachment) → List (ℕ × Attachment)
all_told pass said lines entries = map (told pass said lines) entries

-- a pass's own attachment, where there is one, is told a line alone
abbrev pub told_at : ℕ → List ℕ → Option Attachment → List (ℕ × Attachment) → List (ℕ × Attachment)
told_at pass said None entries = entries
told_at pass said (Some a) entries = insert_entry nat_eq entries pass (record a { outbox = with_line said a.outbox })

abbrev pub own_told : ℕ → List ℕ → List (ℕ × Attachment) → List (ℕ × Attachment)
own_told pass said entries = told_at pass said (lookup (nat_eq pass) entries) entries

-- who leaves: the player of a seat, or all that look where the match is removed
abbrev pub leaver : ℕ → Bool → Option ℕ
leaver seat true = None
leaver seat false = Some seat

abbrev pub leaves : Option ℕ → Viewer → Bool
leaves None viewer = true
leaves (Some seat) viewer = is_left seat false viewer

-- an attachment once they have left
abbrev pub left : Option ℕ → Attachment → Attachment
left who a = if leaves who a.viewer then record a { outbox = with_end Left a.outbox } else a

abbrev pub left_entry : Option ℕ → ℕ × Attachment → ℕ × Attachment
left_entry who e = (e.0, left who e.1)

abbrev pub all_left : Option ℕ → List (ℕ × Attachment) → List (ℕ × Attachment)
all_left who entries = map (left_entry who) entries

-- what waited was taken out
abbrev pub emptied_of : Attachment → Attachment
emptied_of a = record a { outbox = emptied a.outbox }

-- at a pass, this is what is held of it, and of every other as before
abbrev pub Becomes : ℕ → Option Attachment → List (ℕ × Attachment) → List (ℕ × Attachment) → Type 0
Becomes pass a before after = (q : ℕ) → lookup (nat_eq q) after ≡ (if pass == q then a else lookup (nat_eq q) before)

-- who looks by an attachment that goes on
abbrev pub viewer_if : Option Bye → Viewer → Option Viewer
viewer_if None viewer = Some viewer
viewer_if (Some why) viewer = None

abbrev pub open_viewer : Option Attachment → Option Viewer
open_viewer None = None
open_viewer (Some a) = viewer_if a.outbox.end a.viewer

abbrev pub has_end : Option (List ℕ × Option Bye) → Bool
has_end None = false
has_end (Some taken) = is_some taken.1

-- the reply to a Take that took these bytes and this end
abbrev pub taken_reply : Option (List ℕ × Option Bye) → RoomReply
taken_reply None = answer.NotAttached
taken_reply (Some taken) = answer.Taken taken.0 taken.1
