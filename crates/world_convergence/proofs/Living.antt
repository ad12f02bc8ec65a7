-- Along a world each client's story goes on.
use Rattle.std.proofs.Common.{◌≡◌, inl, inr, ◌≤◌, ℕ, ◌==◌, Bool, true, false, nat_lt, if◌then◌else◌, List, [], ◌∷◌, length, drop, Option, Some, None, refl, sym, ap, ◌∙◌, subst}
use Rattle.client_predict.specs.Acting.{act_no}
use Rattle.client_predict.specs.Client.{Held, Playing}
use Rattle.client_predict.specs.declared.told.ActNo.{ActNo}
use Rattle.game_sheet.specs.MatchName.{Name}
use Rattle.game_trait.specs.Lawful.{Lawful}
use Rattle.game_trait.specs.Rules.{Rules}
use Rattle.room_object.specs.Entry.{entry}
use Rattle.room_history.specs.declared.call.RoomCall.{RoomCall}
use Rattle.room_history.specs.declared.call.RoomCall.TheVariants as call
use Rattle.wire_json.specs.RefusalText.{refusal_text}
use Rattle.wire_json.specs.declared.asked.Asked.{Asked}
use Rattle.wire_json.specs.declared.protocol.Protocol.{Protocol}
use Rattle.wire_json.specs.declared.refusal.Refusal.TheVariants.{NoMatch}
use Rattle.convergence.specs.Shallow.{StatesAreShallow}
use Rattle.convergence.proofs.Grounds.{StaysSound}
use Rattle.hall_history.specs.Adding.{IsAsking}
use Rattle.hall_history.specs.Freeing.{frees}
use Rattle.hall_history.specs.Parts.{frees_at, room_after as room_once_freed}
use Rattle.hall_history.specs.Hall.{Hall, after_line, attached_to}
use Rattle.hall_history.specs.Mark.{Mark, Served}
use Rattle.hall_history.specs.Opening.{after_open, own_entry, own_pass, seat_key}
use Rattle.hall_history.specs.Placed.{IsPlaced}
use Rattle.hall_history.specs.Rooms.{reply_in}
use Rattle.hall_history.specs.Script.{first_mark}
use Rattle.world_history.specs.World.{World, Step, Nothing, Seeds, Opens, Attaches, Acts, Arrives, Takes, Reads, Drops, Leaves, Shows, set_at}
use Rattle.world_history.specs.WorldScript.{acts, acts_in, arrives, attaches, does, drops, has_starved, leaves, leaves_by, reads_in, refused_text, runs_world, takes}
use Rattle.hall_history.proofs.Giving.{line_adds}
use Rattle.hall_history.proofs.Placing.{frees_placed}
use Rattle.hall_history.proofs.Rooming.{is_same, same_length, same_number}
use Rattle.world_history.proofs.WorldPlacing.{acts_hall, does_placed, reads_hall}
use Rattle.world_convergence.specs.Meeting.{room_after, unless_new}
use Rattle.world_convergence.specs.Steps.{StepFits}
use Rattle.world_convergence.proofs.Coming.{comes_on, now_is}
use Rattle.world_convergence.proofs.Entries.{Stays, nothing, same_stays}
use Rattle.world_convergence.proofs.Fitting.{AllFit, IsLobby, does_fit, open_makes}
use Rattle.world_convergence.proofs.Foreign.{IsForeign, foreign_adds, foreign_call, sessions_in}
use Rattle.world_convergence.proofs.Owning.{acted_story, attached_anew, detached_at, dropped_story}
use Rattle.world_convergence.proofs.Serving.{read_story, take_story}
use Rattle.world_convergence.proofs.Stories.{Story, Untouched, goes_on}
use Rattle.world_convergence.proofs.Taken.{take_made}
use Rattle.std.specs.Option.{option_or}
use Rattle.std.specs.List.{AllByRecursion}

-- of all clients, another one
set_there : {A : Type 0} (d c : ℕ) (value : A) (all : ℕ → A) → (d == c) ≡ false → set_at d value all c ≡ all c
set_there d c value all other = ap (λ b. if b then value else all c) other

there_at : (d c : ℕ) (room : Option ℕ) (at : ℕ → Option ℕ) → (d == c) ≡ false → attached_to d room at c ≡ at c
there_at d c room at other = ap (λ b. if b then room else at c) other

module _ {X G : Type 0} (named : List ℕ → Option X) (rules : X → Rules G) (tape : ℕ → List ℕ) where
  -- ---- there are as many rooms as before

  freed_length : (h : Hall X) (pass : ℕ) (made : RoomCall X) (o : Option ℕ) → length (frees_at rules h pass made o).0.rooms ≡ length h.rooms
  freed_length h pass made None = refl
  freed_length h pass made (Some room) = same_length h.rooms room (entry pass made false)

  leaves_length : (w : World X G) (name : Name) (seat : ℕ) → length (leaves rules w name seat).0.hall.rooms ≡ length w.hall.rooms
  leaves_length w name seat = by (nat_lt name.room (length w.hall.rooms))
    where
      by : (b : Bool) → length (if b then leaves_by rules w name.room (own_entry (call.Leave name.serial seat (seat_key seat))) else (w, refused_text (refusal_text NoMatch))).0.hall.rooms ≡ length w.hall.rooms
      by true = same_length w.hall.rooms name.room (own_entry (call.Leave name.serial seat (seat_key seat)))
      by false = refl

  arrives_length : (mark : Mark) (w : World X G) (c : ℕ) (waiting : List (List ℕ)) → length (arrives named rules tape mark w c waiting).0.hall.rooms ≡ length w.hall.rooms
  arrives_length mark w c [] = refl
  arrives_length mark w c (text ∷ rest) = (line_adds named rules tape mark w.hall c text).0

  does_length : (mark : Mark) (step : Step X) (w : World X G) → length (does named rules tape mark step w).0.hall.rooms ≡ length w.hall.rooms
  does_length mark Nothing w = refl
  does_length mark (Seeds seed) w = refl
  does_length mark (Opens game seats) w = (open_makes named rules tape w.hall game seats).0
  does_length mark (Attaches c game name seat protocol) w = freed_length w.hall c call.Detach (w.hall.at c)
  does_length mark (Acts c asked) w = ap (λ (h : Hall X). length h.rooms) (acts_hall rules (has_starved mark) w c (w.clients c) asked)
  does_length mark (Arrives c) w = arrives_length mark w c (w.up c)
  does_length mark (Takes c) w = ap (λ (h : Hall X). length h.rooms) (take_made rules w c).new ∙ freed_length w.hall c call.Take (w.hall.at c)
  does_length mark (Reads c) w = ap (λ (h : Hall X). length h.rooms) (reads_hall rules w c (w.clients c) (w.down c))
  does_length mark (Drops c) w = freed_length w.hall c call.Detach (w.hall.at c)
  does_length mark (Leaves name seat) w = leaves_length w name seat
  does_length mark (Shows c) w = refl

  -- ---- what holds of every world

  pub record Sound (w : World X G) : Type 0 where
    pub placed : IsPlaced rules w.hall
    pub fit : AllFit w.hall.rooms
    pub few : length w.hall.rooms ≤ 64

  sound_on : (mark : Mark) (step : Step X) (w : World X G) → Sound w → Sound (does named rules tape mark step w).0
  sound_on mark step w s = record {
    placed = does_placed named rules tape mark step w s.placed;
    fit = does_fit named rules tape mark step w s.fit;
    few = subst (λ n. n ≤ 64) (sym (does_length mark step w)) s.few;
  }

  module _ (lawful : (game : X) → Lawful (rules game)) (stays : StaysSound rules) (flat : StatesAreShallow rules) (c : ℕ) where
    -- ---- lines of others

    asking_foreign : (d : ℕ) → (d == c) ≡ false → (made : RoomCall X) → IsAsking made → IsForeign rules c d made
    asking_foreign d other made h = inl other

    lobby_foreign : (pass : ℕ) (made : RoomCall X) → IsLobby made → IsForeign rules c pass made
    lobby_foreign pass made h = inr h

    abbrev now : World X G → Option ℕ → Option ℕ
    now v room = option_or (v.hall.at c) room

    untouched : (w v : World X G) (room : Option ℕ) → Untouched rules c w v → Story rules c w room → Story rules c v (now v room)
    untouched w v room u story held e = now_is rules c v held room (goes_on rules c w v held room u (story held (sym u.clients ∙ e)))

    same_story : (v : World X G) (room : Option ℕ) → Story rules c v room → Story rules c v (now v room)
    same_story v room story held e = now_is rules c v held room (story held e)

    freed_there : (h : Hall X) (d : ℕ) (made : RoomCall X) → (d == c) ≡ false → (o : Option ℕ) → (frees_at rules h d made o).0.at c ≡ h.at c
    freed_there h d made other None = refl
    freed_there h d made other (Some room) = there_at d c (room_once_freed room made (reply_in rules h.rooms room (entry d made false))) h.at other

    freed_sessions : (h : Hall X) (d : ℕ) (made : RoomCall X) → (d == c) ≡ false → (o : Option ℕ) (r : ℕ) → Stays nothing (sessions_in rules c h.rooms r) (sessions_in rules c (frees_at rules h d made o).0.rooms r)
    freed_sessions h d made other None r = same_stays nothing (sessions_in rules c h.rooms r)
    freed_sessions h d made other (Some room) r = foreign_call rules c h.rooms room d made false (inl other) r

    drop_there : (w : World X G) (d : ℕ) → (d == c) ≡ false → Untouched rules c w (drops rules w d)
    drop_there w d other = record {
      clients = refl;
      up = set_there d c [] w.up other;
      down = set_there d c [] w.down other;
      at = freed_there w.hall d call.Detach other (w.hall.at d);
      sessions = freed_sessions w.hall d call.Detach other (w.hall.at d);
    }

    attach_there : (w : World X G) (d : ℕ) (game : X) (name : Name) (seat : Option ℕ) (protocol : Protocol) → (d == c) ≡ false → Untouched rules c w (attaches rules w d game name seat protocol)
    attach_there w d game name seat protocol other =
        let u = drop_there w d other in
        record { clients = set_there d c _ w.clients other; up = set_there d c _ (drops rules w d).up other ∙ u.up; down = u.down; at = u.at; sessions = u.sessions }

    act_there : (starved : Bool) (w : World X G) (d : ℕ) (asked : Asked) → (d == c) ≡ false → Untouched rules c w (acts rules starved w d (w.clients d) asked).0
    act_there starved w d asked other = by starved (w.clients d)
      where
        none : Untouched rules c w w
        none = record { clients = refl; up = refl; down = refl; at = refl; sessions = λ r. same_stays nothing (sessions_in rules c w.hall.rooms r) }

        made : (held : Held X G) (playing : Option (Playing G)) (why : Option ActNo) → Untouched rules c w (acts_in rules w d held playing asked why).0
        made held playing (Some why) = none
        made held None None = none
        made held (Some p) None = record {
          clients = set_there d c _ w.clients other;
          up = set_there d c _ w.up other;
          down = refl;
          at = refl;
          sessions = λ r. same_stays nothing (sessions_in rules c w.hall.rooms r);
        }

        by : (starved : Bool) (client : Option (Held X G)) → Untouched rules c w (acts rules starved w d client asked).0
        by starved None = none
        by true (Some held) = none
        by false (Some held) = made held held.client.playing (act_no held.client.gone held.client.playing)

    read_there : (w : World X G) (d : ℕ) → (d == c) ≡ false → (client : Option (Held X G)) (waiting : List (List ℕ)) → Untouched rules c w (reads_in rules w d client waiting).0
    read_there w d other None waiting = record { clients = refl; up = refl; down = refl; at = refl; sessions = λ r. same_stays nothing (sessions_in rules c w.hall.rooms r) }
    read_there w d other (Some held) [] = record { clients = refl; up = refl; down = refl; at = refl; sessions = λ r. same_stays nothing (sessions_in rules c w.hall.rooms r) }
    read_there w d other (Some held) (text ∷ rest) = record {
      clients = set_there d c _ w.clients other;
      up = refl;
      down = set_there d c rest w.down other;
      at = refl;
      sessions = λ r. same_stays nothing (sessions_in rules c w.hall.rooms r);
    }

    arrive_there : (mark : Mark) (w : World X G) (d : ℕ) → (d == c) ≡ false → (waiting : List (List ℕ)) → Untouched rules c w (arrives named rules tape mark w d waiting).0
    arrive_there mark w d other [] = record { clients = refl; up = refl; down = refl; at = refl; sessions = λ r. same_stays nothing (sessions_in rules c w.hall.rooms r) }
    arrive_there mark w d other (text ∷ rest) = record {
      clients = refl;
      up = set_there d c rest w.up other;
      down = set_there d c _ w.down other;
      at = there_at d c _ w.hall.at other;
      sessions = foreign_adds rules c (λ (made : RoomCall X). IsAsking made) d (asking_foreign d other) w.hall.rooms (after_line named rules tape mark w.hall d text).0.rooms (line_adds named rules tape mark w.hall d text);
    }

    take_there : (w : World X G) (d : ℕ) → (d == c) ≡ false → Untouched rules c w (takes rules w d (frees rules w.hall d call.Take)).0
    take_there w d other =
        let t = take_made rules w d in
        record {
          clients = ap (λ f. f c) t.clients;
          up = ap (λ f. f c) t.up;
          down = t.down c ∙ set_there d c _ w.down other;
          at = ap (λ h. h.at c) t.new ∙ freed_there w.hall d call.Take other (w.hall.at d);
          sessions = λ r. subst (λ (h : Hall X). Stays nothing (sessions_in rules c w.hall.rooms r) (sessions_in rules c h.rooms r)) (sym t.new) (freed_sessions w.hall d call.Take other (w.hall.at d) r);
        }

    open_there : (w : World X G) (game : List ℕ) (seats : ℕ) → Untouched rules c w (does named rules tape Served (Opens game seats) w).0
    open_there w game seats = record {
      clients = refl;
      up = refl;
      down = refl;
      at = refl;
      sessions = foreign_adds rules c (λ (made : RoomCall X). IsLobby made) own_pass (lobby_foreign own_pass) w.hall.rooms (after_open named rules tape w.hall game seats).0.rooms (open_makes named rules tape w.hall game seats);
    }

    leave_there : (w : World X G) (name : Name) (seat : ℕ) → Untouched rules c w (leaves rules w name seat).0
    leave_there w name seat = by (nat_lt name.room (length w.hall.rooms))
      where
        by : (b : Bool) → Untouched rules c w (if b then leaves_by rules w name.room (own_entry (call.Leave name.serial seat (seat_key seat))) else (w, refused_text (refusal_text NoMatch))).0
        by true = record {
          clients = refl;
          up = refl;
          down = refl;
          at = refl;
          sessions = foreign_call rules c w.hall.rooms name.room own_pass (call.Leave name.serial seat (seat_key seat)) false (inr tt);
        }
        by false = record { clients = refl; up = refl; down = refl; at = refl; sessions = λ r. same_stays nothing (sessions_in rules c w.hall.rooms r) }

    -- ---- lines of the client

    detached : (w : World X G) → IsPlaced rules w.hall → (frees rules w.hall c call.Detach).0.at c ≡ None
    detached w placed = detached_at rules c w.hall placed (w.hall.at c) refl (frees_placed rules w.hall c call.Detach placed)

    anew : (game : X) (name : Name) (seat : Option ℕ) (protocol : Protocol) (room : Option ℕ) → unless_new c (Attaches c game name seat protocol) room ≡ None
    anew game name seat protocol room = ap (λ b. if b then None else room) (is_same c)

    arrive_here : (mark : Mark) (w : World X G) → IsPlaced rules w.hall → (room : Option ℕ) → Story rules c w room → (waiting : List (List ℕ)) → w.up c ≡ waiting
        → Story rules c (arrives named rules tape mark w c waiting).0 (now (arrives named rules tape mark w c waiting).0 room)
    arrive_here mark w placed room story [] e = same_story w room story
    arrive_here mark w placed room story (text ∷ rest) e = λ held f. comes_on named rules tape c mark w text rest e placed held room (story held f)

    -- ---- any line

    either : (d : ℕ) (P : ℕ → Type 0) → ((d == c) ≡ false → P d) → P c → P d
    either d P other here = by (d == c) refl
      where
        by : (b : Bool) → (d == c) ≡ b → P d
        by true e = subst P (sym (same_number d c e)) here
        by false e = other e

    pub step_on : (mark : Mark) (step : Step X) → StepFits step → (w : World X G) → Sound w → (room : Option ℕ) → Story rules c w room
        → Story rules c (does named rules tape mark step w).0 (now (does named rules tape mark step w).0 (unless_new c step room))
    step_on mark Nothing fits w s room story = same_story w room story
    step_on mark (Seeds seed) fits w s room story =
        untouched w (does named rules tape mark (Seeds seed) w).0 room (record { clients = refl; up = refl; down = refl; at = refl; sessions = λ r. same_stays nothing (sessions_in rules c w.hall.rooms r) }) story
    step_on mark (Opens game seats) fits w s room story = untouched w (does named rules tape mark (Opens game seats) w).0 room (open_there w game seats) story
    step_on mark (Attaches d game name seat protocol) fits w s room story =
        either d (λ d. Story rules c (attaches rules w d game name seat protocol) (now (attaches rules w d game name seat protocol) (unless_new c (Attaches d game name seat protocol) room)))
        (λ other. subst (λ o. Story rules c (attaches rules w d game name seat protocol) (now (attaches rules w d game name seat protocol) o)) (ap (λ b. if b then None else room) (sym other))
        (untouched w (attaches rules w d game name seat protocol) room (attach_there w d game name seat protocol other) story))
        (subst (λ o. Story rules c (attaches rules w c game name seat protocol) (now (attaches rules w c game name seat protocol) o)) (sym (anew game name seat protocol room))
        (same_story (attaches rules w c game name seat protocol) None (attached_anew rules c w game name seat protocol fits.0 fits.1 (detached w s.placed))))
    step_on mark (Acts d asked) fits w s room story =
        either d (λ d. Story rules c (acts rules (has_starved mark) w d (w.clients d) asked).0 (now (acts rules (has_starved mark) w d (w.clients d) asked).0 room))
        (λ other. untouched w (acts rules (has_starved mark) w d (w.clients d) asked).0 room (act_there (has_starved mark) w d asked other) story)
        (same_story (acts rules (has_starved mark) w c (w.clients c) asked).0 room (acted_story rules c (has_starved mark) w asked fits.0 fits.1 room story))
    step_on mark (Arrives d) fits w s room story =
        either d (λ d. Story rules c (arrives named rules tape mark w d (w.up d)).0 (now (arrives named rules tape mark w d (w.up d)).0 room))
        (λ other. untouched w (arrives named rules tape mark w d (w.up d)).0 room (arrive_there mark w d other (w.up d)) story)
        (arrive_here mark w s.placed room story (w.up c) refl)
    step_on mark (Takes d) fits w s room story =
        either d (λ d. Story rules c (takes rules w d (frees rules w.hall d call.Take)).0 (now (takes rules w d (frees rules w.hall d call.Take)).0 room))
        (λ other. untouched w (takes rules w d (frees rules w.hall d call.Take)).0 room (take_there w d other) story)
        (same_story (takes rules w c (frees rules w.hall c call.Take)).0 room (take_story rules c w s.placed room story))
    step_on mark (Reads d) fits w s room story =
        either d (λ d. Story rules c (reads_in rules w d (w.clients d) (w.down d)).0 (now (reads_in rules w d (w.clients d) (w.down d)).0 room))
        (λ other. untouched w (reads_in rules w d (w.clients d) (w.down d)).0 room (read_there w d other (w.clients d) (w.down d)) story)
        (same_story (reads_in rules w c (w.clients c) (w.down c)).0 room (read_story rules c lawful stays flat w s.few s.fit room story))
    step_on mark (Drops d) fits w s room story =
        either d (λ d. Story rules c (drops rules w d) (now (drops rules w d) room))
        (λ other. untouched w (drops rules w d) room (drop_there w d other) story)
        (same_story (drops rules w c) room (λ held e. dropped_story rules c w (detached w s.placed) held room (story held e)))
    step_on mark (Leaves name seat) fits w s room story = untouched w (leaves rules w name seat).0 room (leave_there w name seat) story
    step_on mark (Shows d) fits w s room story = same_story w room story

    pub lives : (marks : List Mark) (steps : List (Step X)) → AllByRecursion StepFits steps → (w : World X G) → Sound w → (room : Option ℕ) → Story rules c w room
        → Story rules c (runs_world named rules tape marks steps w).0 (room_after named rules tape c marks steps w room)
    lives marks [] fits w s room story = story
    lives marks (step ∷ steps) fits w s room story =
        let v = (does named rules tape (first_mark marks) step w).0 in
        lives (drop 1 marks) steps fits.1 v (sound_on (first_mark marks) step w s) (now v (unless_new c step room)) (step_on (first_mark marks) step fits.0 w s room story)

  pub sound_runs : (marks : List Mark) (steps : List (Step X)) (w : World X G) → Sound w → Sound (runs_world named rules tape marks steps w).0
  sound_runs marks [] w s = s
  sound_runs marks (step ∷ steps) w s = sound_runs (drop 1 marks) steps (does named rules tape (first_mark marks) step w).0 (sound_on (first_mark marks) step w s)
