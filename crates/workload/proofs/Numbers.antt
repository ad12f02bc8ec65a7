-- What each line of a world that was served makes of the numbers of its rooms.
use Rattle.std.proofs.Common.{◌≡◌, ◌+◌, ℕ, zero, suc, replicate, Bool, true, false, nat_lt, List, [], ◌∷◌, length, if◌then◌else◌, Option, Some, None, refl, sym, ap, ◌∙◌, arith}
use Rattle.any_game.specs.AnyRules.{any_rules, named}
use Rattle.any_game.specs.GameKind.{GameKind}
use Rattle.any_game.specs.declared.any_g.AnyG.{AnyG}
use Rattle.client_world.specs.Counted.{after, handed_in}
use Rattle.client_world.proofs.Counted.{acts_hall, reads_hall}
use Rattle.game_sheet.specs.MatchName.{Name}
use Rattle.hall_history.specs.Adding.{IsAsking}
use Rattle.hall_history.specs.Counts.{accepts, count_from, hands_out, refuses}
use Rattle.hall_history.specs.Freeing.{frees}
use Rattle.hall_history.specs.Parts.{frees_at}
use Rattle.hall_history.specs.Hall.{Hall, after_line}
use Rattle.hall_history.specs.Mark.{Served}
use Rattle.hall_history.specs.Opening.{after_open, own_entry, own_pass, seat_key}
use Rattle.hall_history.specs.Rooms.{Rooms, reply_in, with_entry}
use Rattle.world_history.specs.World.{World, Step, Acts, Arrives, Attaches, Drops, Leaves, Reads, Takes}
use Rattle.world_history.specs.WorldScript.{arrives, leaves_by, refused_text, takes}
use Rattle.hall_history.proofs.Giving.{line_adds}
use Rattle.game_hall.proofs.Replies.{IsNoAction, IsNoTake}
use Rattle.room_history.specs.declared.call.RoomCall.{RoomCall}
use Rattle.room_history.specs.declared.call.RoomCall.TheVariants as call
use Rattle.room_history.specs.declared.reply.RoomReply.{RoomReply}
use Rattle.room_history.specs.declared.reply.RoomReply.TheVariants as reply
use Rattle.room_object.specs.Entry.{entry}
use Rattle.session_hall.specs.Requests.{Tallies}
use Rattle.session_driver.specs.declared.tally.Tally.{Tally}
use Rattle.wire_json.specs.RefusalText.{refusal_text}
use Rattle.wire_json.specs.declared.asked.Asked.{Asked}
use Rattle.wire_json.specs.declared.protocol.Protocol.{Protocol}
use Rattle.wire_json.specs.declared.refusal.Refusal.TheVariants.{NoMatch}
use Rattle.workload.specs.IsLoad.{AreCounted}
use Rattle.workload.specs.declared.counts.Counts.{Counts}
use Rattle.workload.proofs.Adding.{adds_nothing, asking_unhanded, entry_adds_nothing, take_adds, unaccepted, unhanded, unrefused}
use Rattle.workload.proofs.Opening.{open_accepts, open_hands, open_refuses}

abbrev pub Count : (RoomReply → ℕ) → Rooms GameKind → ℕ
Count count rooms = count_from any_rules count 0 rooms

-- rooms that came to nothing more
pub record CountAlike (old new : Rooms GameKind) : Type 0 where
  pub accepted : Count accepts new ≡ Count accepts old
  pub refused : Count refuses new ≡ Count refuses old
  pub bytes : Count hands_out new ≡ Count hands_out old

pub still_counted : (counts : Counts) (old new : Rooms GameKind) → CountAlike old new → AreCounted counts old → AreCounted counts new
still_counted counts old new same are = record {
  accepted = are.accepted ∙ sym same.accepted;
  refused = are.refused ∙ sym same.refused;
  bytes = are.bytes ∙ sym same.bytes;
}

alike : (old new : Rooms GameKind) → new ≡ old → CountAlike old new
alike old new e = record { accepted = ap (Count accepts) e; refused = ap (Count refuses) e; bytes = ap (Count hands_out) e }

-- a call that is neither an action nor a Take counts nothing
entry_alike : (rooms : Rooms GameKind) (room pass : ℕ) (made : RoomCall GameKind) → IsNoAction made → IsNoTake made → CountAlike rooms (with_entry rooms room (entry pass made false))
entry_alike rooms room pass made acts takes = record {
  accepted = entry_adds_nothing any_rules accepts IsNoAction (unaccepted any_rules) pass rooms room made acts;
  refused = entry_adds_nothing any_rules refuses IsNoAction (unrefused any_rules) pass rooms room made acts;
  bytes = entry_adds_nothing any_rules hands_out IsNoTake (unhanded any_rules) pass rooms room made takes;
}

pub open_alike : (tape : ℕ → List ℕ) (h : Hall GameKind) (game : List ℕ) (seats : ℕ) → CountAlike h.rooms (after_open named any_rules tape h game seats).0.rooms
open_alike tape h game seats = record {
  accepted = open_accepts named any_rules tape h game seats;
  refused = open_refuses named any_rules tape h game seats;
  bytes = open_hands named any_rules tape h game seats;
}

-- rooms to which nothing has come
zero_more : (n : ℕ) → n ≡ 0 → 0 + n ≡ 0
zero_more n e = omega (arith, e)

none_counted : (count : RoomReply → ℕ) (rooms first : ℕ) → count_from any_rules count first (replicate rooms []) ≡ 0
none_counted count zero first = refl
none_counted count (suc rooms) first = zero_more _ (none_counted count rooms (first + 1))

pub nothing_counted : (counts : Counts) (rooms : ℕ) → counts.accepted ≡ 0 → counts.refused ≡ 0 → counts.bytes ≡ 0 → AreCounted counts (replicate rooms [])
nothing_counted counts rooms accepted refused bytes = record {
  accepted = accepted ∙ sym (none_counted accepts rooms 0);
  refused = refused ∙ sym (none_counted refuses rooms 0);
  bytes = bytes ∙ sym (none_counted hands_out rooms 0);
}

module _ (tape : ℕ → List ℕ) (w : World GameKind AnyG) (c : ℕ) where
  abbrev pub rooms_after : Step GameKind → Rooms GameKind
  rooms_after step = (after tape w step).hall.rooms

  pub acts_alike : (asked : Asked) → CountAlike w.hall.rooms (rooms_after (Acts c asked))
  acts_alike asked = alike w.hall.rooms (rooms_after (Acts c asked)) (ap (λ (h : Hall GameKind). h.rooms) (acts_hall w c asked (w.clients c)))

  pub reads_alike : CountAlike w.hall.rooms (rooms_after (Reads c))
  reads_alike = alike w.hall.rooms (rooms_after (Reads c)) (ap (λ (h : Hall GameKind). h.rooms) (reads_hall w c (w.clients c) (w.down c)))

  detach_alike : (at : Option ℕ) → CountAlike w.hall.rooms (frees_at any_rules w.hall c call.Detach at).0.rooms
  detach_alike None = alike w.hall.rooms w.hall.rooms refl
  detach_alike (Some room) = entry_alike w.hall.rooms room c call.Detach tt tt

  pub drops_alike : CountAlike w.hall.rooms (rooms_after (Drops c))
  drops_alike = detach_alike (w.hall.at c)

  pub attaches_alike : (game : GameKind) (name : Name) (seat : Option ℕ) (protocol : Protocol) → CountAlike w.hall.rooms (rooms_after (Attaches c game name seat protocol))
  attaches_alike game name seat protocol = detach_alike (w.hall.at c)

  leaves_alike_if : (b : Bool) (room serial seat : ℕ)
      → CountAlike w.hall.rooms (if b then leaves_by any_rules w room (own_entry (call.Leave serial seat (seat_key seat))) else (w, refused_text (refusal_text NoMatch))).0.hall.rooms
  leaves_alike_if true room serial seat = entry_alike w.hall.rooms room own_pass (call.Leave serial seat (seat_key seat)) tt tt
  leaves_alike_if false room serial seat = alike w.hall.rooms w.hall.rooms refl

  pub leaves_alike : (name : Name) (seat : ℕ) → CountAlike w.hall.rooms (rooms_after (Leaves name seat))
  leaves_alike name seat = leaves_alike_if (nat_lt name.room (length w.hall.rooms)) name.room name.serial seat

  -- ---- a line arrives

  arrives_hands : (waiting : List (List ℕ)) → Count hands_out (arrives named any_rules tape Served w c waiting).0.hall.rooms ≡ Count hands_out w.hall.rooms
  arrives_hands [] = refl
  arrives_hands (line ∷ rest) =
      adds_nothing any_rules hands_out IsAsking (asking_unhanded any_rules) c w.hall.rooms (after_line named any_rules tape Served w.hall c line).0.rooms
      (line_adds named any_rules tape Served w.hall c line)

  pub arrived_counted : (tally : Tally) (old new : Counts) → Tallies w.hall.rooms tally (rooms_after (Arrives c)) → new.accepted ≡ old.accepted + tally.accepted
      → new.refused ≡ old.refused + tally.refused → new.bytes ≡ old.bytes → AreCounted old w.hall.rooms → AreCounted new (rooms_after (Arrives c))
  arrived_counted tally old new told accepted refused bytes are = record {
    accepted = accepted ∙ ap (λ n. n + tally.accepted) are.accepted ∙ sym told.accepted;
    refused = refused ∙ ap (λ n. n + tally.refused) are.refused ∙ sym told.refused;
    bytes = bytes ∙ are.bytes ∙ sym (arrives_hands (w.up c));
  }

  -- ---- a Take

  taken_hall : (hall : Hall GameKind) (told : RoomReply) → (takes any_rules w c (hall, Some told)).0.hall ≡ hall
  taken_hall hall reply.NotAttached = refl
  taken_hall hall told = refl

  takes_rooms : (at : Option ℕ) → (takes any_rules w c (frees_at any_rules w.hall c call.Take at)).0.hall.rooms ≡ (frees_at any_rules w.hall c call.Take at).0.rooms
  takes_rooms None = refl
  takes_rooms (Some room) = ap (λ (h : Hall GameKind). h.rooms) (taken_hall (frees_at any_rules w.hall c call.Take (Some room)).0 (reply_in any_rules w.hall.rooms room (entry c call.Take false)))

  none_more : (n : ℕ) → n ≡ n + 0
  none_more n = omega arith

  frees_accepts : (at : Option ℕ) → Count accepts (frees_at any_rules w.hall c call.Take at).0.rooms ≡ Count accepts w.hall.rooms
  frees_accepts None = refl
  frees_accepts (Some room) = entry_adds_nothing any_rules accepts IsNoAction (unaccepted any_rules) c w.hall.rooms room call.Take tt

  frees_refuses : (at : Option ℕ) → Count refuses (frees_at any_rules w.hall c call.Take at).0.rooms ≡ Count refuses w.hall.rooms
  frees_refuses None = refl
  frees_refuses (Some room) = entry_adds_nothing any_rules refuses IsNoAction (unrefused any_rules) c w.hall.rooms room call.Take tt

  frees_hands : (at : Option ℕ) → Count hands_out (frees_at any_rules w.hall c call.Take at).0.rooms ≡ Count hands_out w.hall.rooms + handed_in (frees_at any_rules w.hall c call.Take at).1
  frees_hands None = none_more _
  frees_hands (Some room) = take_adds any_rules w.hall.rooms room c

  pub taken_counted : (count : ℕ) (old new : Counts) → count ≡ handed_in (frees any_rules w.hall c call.Take).1 → new.accepted ≡ old.accepted → new.refused ≡ old.refused
      → new.bytes ≡ old.bytes + count → AreCounted old w.hall.rooms → AreCounted new (rooms_after (Takes c))
  taken_counted count old new handed accepted refused bytes are =
      let rooms : rooms_after (Takes c) ≡ (frees any_rules w.hall c call.Take).0.rooms = takes_rooms (w.hall.at c) in
      record {
        accepted = accepted ∙ are.accepted ∙ sym (frees_accepts (w.hall.at c)) ∙ sym (ap (Count accepts) rooms);
        refused = refused ∙ are.refused ∙ sym (frees_refuses (w.hall.at c)) ∙ sym (ap (Count refuses) rooms);
        bytes = bytes ∙ ap (λ n. old.bytes + n) handed ∙ ap (λ n. n + handed_in (frees any_rules w.hall c call.Take).1) are.bytes ∙ sym (frees_hands (w.hall.at c)) ∙ sym (ap (Count hands_out) rooms);
      }
