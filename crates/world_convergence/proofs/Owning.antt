-- What a client's own lines of a world make of its story.
use Rattle.std.proofs.Common.{◌≡◌, ◌⊎◌, inl, inr, ◌≤◌, ℕ, ◌==◌, Bool, true, false, if◌then◌else◌, is_some, List, [], ◌∷◌, ◌++◌, Option, Some, None, option_map, refl, sym, ap, ◌∙◌, subst, append_assoc, append-nil, arith}
use Rattle.client_predict.specs.Acting.{act_no}
use Rattle.client_predict.specs.Client.{Held, Playing, fresh}
use Rattle.client_predict.specs.declared.told.ActNo.{ActNo}
use Rattle.game_sheet.specs.MatchName.{Name}
use Rattle.game_trait.specs.Rules.{Rules}
use Rattle.room_object.specs.Entry.{Entry, entry}
use Rattle.room_history.specs.Course.{IsFirstPart}
use Rattle.room_history.specs.Outbox.{attachment_of}
use Rattle.room_history.specs.Presence.{attached_after, is_attached}
use Rattle.room_history.specs.Room.{room_of}
use Rattle.room_history.specs.declared.call.RoomCall.{RoomCall}
use Rattle.room_history.specs.declared.call.RoomCall.TheVariants as call
use Rattle.room_history.specs.declared.reply.RoomReply.{RoomReply}
use Rattle.room_history.proofs.Attachments.{attachment_step}
use Rattle.sheet_json.specs.Seats.{IsWithin}
use Rattle.wire_json.specs.Asking.{AskedFits, AskedIsUtf8}
use Rattle.wire_json.specs.ClientText.{client_text}
use Rattle.wire_json.specs.MatchText.{IsName}
use Rattle.wire_json.specs.declared.asked.Asked.{Asked}
use Rattle.wire_json.specs.declared.client.ClientMsg.TheVariants as line
use Rattle.wire_json.specs.declared.protocol.Protocol.{Protocol}
use Rattle.convergence.specs.Doing.{face}
use Rattle.client_predict.specs.Following.{told_lines}
use Rattle.convergence.proofs.Likes.{like}
use Rattle.convergence.proofs.Streams.{told_append}
use Rattle.hall_history.specs.Freeing.{frees}
use Rattle.hall_history.specs.Parts.{frees_at, room_after}
use Rattle.hall_history.specs.Hall.{Hall, attached_to}
use Rattle.hall_history.specs.Placed.{IsPlaced, is_at}
use Rattle.hall_history.specs.Rooms.{history_of, reply_in, with_entry}
use Rattle.world_history.specs.World.{World, set_at}
use Rattle.world_history.specs.WorldScript.{acts, acts_in, attaches, claim_of, drops, key_of}
use Rattle.world_history.specs.Parts.{act_line, with_action}
use Rattle.hall_history.proofs.Placing.{in_range, is_here}
use Rattle.hall_history.proofs.Rooming.{gets_entry, is_same, one_entry}
use Rattle.world_convergence.proofs.Counting.{answers, count}
use Rattle.world_convergence.proofs.Entries.{IsAside as IsAsideCall, Stays, asks, entry_stays, nothing, same_stays}
use Rattle.world_convergence.proofs.Foreign.{sessions_in, weaker}
use Rattle.world_convergence.proofs.Hearing.{Fits, act_fits, act_waits, waits}
use Rattle.world_convergence.proofs.Sending.{AreActLines, act_comes, act_is_act, act_reads, coming, coming_append, key_fits, one_act_more, sync_reads}
use Rattle.world_convergence.proofs.Stories.{Apart, AreQuiet, Story, StoryOf, stays_as}

no_both : false ≡ true → ⊥
no_both e = cc

pub none_some : {A : Type 0} (x : A) → None ≡ Some x → ⊥
none_some x e = cc

pub some_none : {A : Type 0} (x : A) → Some x ≡ None → ⊥
some_none x e = cc

pub one : {A : Type 0} (x y : A) → Some x ≡ Some y → x ≡ y
one x y e = cc

-- of all clients, this one
pub set_here : {A : Type 0} (c : ℕ) (value : A) (all : ℕ → A) → set_at c value all c ≡ value
set_here c value all = ap (λ b. if b then value else all c) (is_same c)

pub here_at : (c : ℕ) (room : Option ℕ) (at : ℕ → Option ℕ) → attached_to c room at c ≡ room
here_at c room at = ap (λ b. if b then room else at c) (is_same c)

pub no_face : {G : Type 0} (o : Option (Playing G)) → option_map face o ≡ None → o ≡ None
no_face None e = refl
no_face (Some p) e = absurd (some_none (face p) e)

module _ {X G : Type 0} (rules : X → Rules G) (c : ℕ) where
  -- ---- the session is detached

  module _ (h : Hall X) (placed : IsPlaced rules h) where
    detached_there : (room : ℕ) → h.at c ≡ Some room → is_attached rules room (history_of (with_entry h.rooms room (entry c call.Detach false)) room) c ≡ false
    detached_there room sits =
        let there = in_range rules room h.rooms room c (is_here rules h c room call.Detach placed sits) in
        ap (λ x. is_attached rules room x c) (gets_entry h.rooms room (entry c call.Detach false) there)
        ∙ ap (λ x. is_some x) (attachment_step rules room (history_of h.rooms room) c c call.Detach)
        ∙ ap (λ b. is_some (if b then None else attachment_of ((room_of rules room (history_of h.rooms room)).sessions c))) (is_same c)

    pub detached_at : (o : Option ℕ) → h.at c ≡ o → IsPlaced rules (frees_at rules h c call.Detach o).0 → (frees_at rules h c call.Detach o).0.at c ≡ None
    detached_at None e p = e
    detached_at (Some room) e p = by (attached_after {X = X} true call.Detach told) refl
      where
        told : RoomReply
        told = reply_in rules h.rooms room (entry c call.Detach false)

        by : (b : Bool) → attached_after {X = X} true call.Detach told ≡ b → attached_to c (room_after {X = X} room call.Detach told) h.at c ≡ None
        by true f =
            let now : attached_to c (room_after {X = X} room call.Detach told) h.at c ≡ Some room
            = here_at c (room_after {X = X} room call.Detach told) h.at ∙ ap (λ b. if b then Some room else None) f in
            absurd (no_both (sym (detached_there room e) ∙ p c room ∙ ap (λ o. is_at o room) now ∙ is_same room))
        by false f = here_at c (room_after {X = X} room call.Detach told) h.at ∙ ap (λ b. if b then Some room else None) f

  -- ---- a client is attached anew

  pub attached_anew : (w : World X G) (game : X) (name : Name) (seat : Option ℕ) (protocol : Protocol) → IsName name → IsWithin 255 seat
      → (frees rules w.hall c call.Detach).0.at c ≡ None → Story rules c (attaches rules w c game name seat protocol) None
  attached_anew w game name seat protocol named within free held e =
      subst (λ h. Apart rules c (attaches rules w c game name seat protocol) h) (one new held (sym (set_here c (Some new) w.clients) ∙ e)) (record {
        at = free;
        like = like fresh;
        quiet = subst AreQuiet (sym empty) tt;
        up = inr (client_text (line.Sync name (claim_of seat) protocol), set_here c (client_text (line.Sync name (claim_of seat) protocol) ∷ []) (drops rules w c).up, empty, (name, claim_of seat, protocol, sync_reads name seat protocol named within));
        key = key_fits seat within;
      })
    where
      new : Held X G
      new = record { game = game; key = key_of seat; client = fresh }

      empty : (attaches rules w c game name seat protocol).down c ≡ []
      empty = set_here c [] w.down

  -- ---- a client is dropped

  module _ (w : World X G) (gone : (frees rules w.hall c call.Detach).0.at c ≡ None) where
    abbrev dropped : World X G
    dropped = drops rules w c

    none_up : dropped.up c ≡ []
    none_up = set_here c [] w.up

    none_down : dropped.down c ≡ []
    none_down = set_here c [] w.down

    freed_stays : (o : Option ℕ) (r : ℕ) → Stays nothing (sessions_in rules c w.hall.rooms r) (sessions_in rules c (frees_at rules w.hall c call.Detach o).0.rooms r)
    freed_stays None r = same_stays nothing (sessions_in rules c w.hall.rooms r)
    freed_stays (Some room) r = by (one_entry w.hall.rooms room e r)
      where
        e : Entry (RoomCall X)
        e = entry c call.Detach false

        no_ask : (own : Bool) (ticket : ℕ) → asks {X = X} own call.Detach ticket ≤ 0
        no_ask true ticket = omega arith
        no_ask false ticket = omega arith

        aside : (own : Bool) → IsAsideCall {X = X} own call.Detach
        aside true = tt
        aside false = tt

        by : (history_of (with_entry w.hall.rooms room (entry c call.Detach false)) r ≡ history_of w.hall.rooms r)
            ⊎ ((room ≡ r) × (history_of (with_entry w.hall.rooms room (entry c call.Detach false)) r ≡ entry c call.Detach false ∷ history_of w.hall.rooms r))
            → Stays nothing (sessions_in rules c w.hall.rooms r) ((room_of rules r (history_of (with_entry w.hall.rooms room (entry c call.Detach false)) r)).sessions c)
        by (inl e) = subst (λ x. Stays nothing (sessions_in rules c w.hall.rooms r) ((room_of rules r x).sessions c)) (sym e) (same_stays nothing (sessions_in rules c w.hall.rooms r))
        by (inr e) =
            subst (λ x. Stays nothing (sessions_in rules c w.hall.rooms r) ((room_of rules r x).sessions c)) (sym e.1)
            (weaker (λ ticket. asks {X = X} (c == c) call.Detach ticket) nothing (λ ticket. no_ask (c == c) ticket)
            ((room_of rules r (history_of w.hall.rooms r)).sessions c) ((room_of rules r (entry c call.Detach false ∷ history_of w.hall.rooms r)).sessions c)
            (entry_stays rules r (history_of w.hall.rooms r) c call.Detach false c (aside (c == c))))

    pub dropped_story : (held : Held X G) (room : Option ℕ) → StoryOf rules c w held room → StoryOf rules c dropped held room
    dropped_story held None a = record { at = gone; like = a.like; quiet = subst AreQuiet (sym none_down) tt; up = inl none_up; key = a.key }
    dropped_story held (Some r) m =
        let on = stays_as rules c nothing (sessions_in rules c w.hall.rooms r) (sessions_in rules c dropped.hall.rooms r) m.s m.before m.latest (freed_stays (w.hall.at c) r) in
        let less : IsFirstPart (told_lines m.read) (told_lines (m.read ++ w.down c)) = (told_lines (w.down c), told_append m.read (w.down c)) in
        let part : IsFirstPart (told_lines m.read) (told_lines m.s.sent) = (less.0 ++ m.part.0, m.part.1 ∙ ap (λ l. l ++ m.part.0) less.1 ∙ append_assoc (told_lines m.read) less.0 m.part.0) in
        record {
          s = on.0;
          before = m.before;
          latest = on.1;
          at = inl gone;
          read = m.read;
          like = m.like;
          part = subst (λ l. IsFirstPart (told_lines l) (told_lines on.0.sent)) (sym (append-nil m.read) ∙ ap (λ l. m.read ++ l) (sym none_down)) (subst (λ l. IsFirstPart (told_lines m.read) (told_lines l)) (sym on.2.sent) part);
          whole = λ e. absurd (none_some r (sym gone ∙ e));
          acts = subst AreActLines (sym none_up) tt;
          tickets = λ t. omega (arith, ap (count (answers t)) none_down, ap (coming t) none_up, m.tickets t, on.2.own t, ap (count (answers t)) on.2.sent);
          fits = m.fits;
          begun = m.begun;
          key = m.key;
        }

  -- ---- a client acts

  pub acted_story : (starved : Bool) (w : World X G) (asked : Asked) → AskedFits asked → AskedIsUtf8 asked → (room : Option ℕ) → Story rules c w room → Story rules c (acts rules starved w c (w.clients c) asked).0 room
  acted_story starved w asked form utf8 room story = by starved (w.clients c) refl
    where
      made : (held : Held X G) → w.clients c ≡ Some held → (p : Playing G) → held.client.playing ≡ Some p → Story rules c (acts_in rules w c held (Some p) asked None).0 room
      made held e p playing later now =
          subst (λ h. StoryOf rules c (acts_in rules w c held (Some p) asked None).0 h room) (one (with_action rules held p asked) later (sym (set_here c (Some (with_action rules held p asked)) w.clients) ∙ now)) (at_room room (story held e))
        where
          text : List ℕ
          text = act_line rules held p asked

          at_room : (room : Option ℕ) → StoryOf rules c w held room → StoryOf rules c (acts_in rules w c held (Some p) asked None).0 (with_action rules held p asked) room
          at_room None a = absurd (some_none p (sym playing ∙ no_face held.client.playing a.like.sees))
          at_room (Some r) m =
              let sent = act_reads rules held p asked m.key (subst (λ o. Fits (rules held.game) o) playing m.fits) form utf8 in
              let up : set_at c (w.up c ++ act_line rules held p asked ∷ []) w.up c ≡ w.up c ++ act_line rules held p asked ∷ [] = set_here c (w.up c ++ act_line rules held p asked ∷ []) w.up in
              record {
                s = m.s;
                before = m.before;
                latest = m.latest;
                at = m.at;
                read = m.read;
                like = record { gone = m.like.gone; sees = sym (ap (option_map face) playing) ∙ m.like.sees };
                part = m.part;
                whole = m.whole;
                acts = subst AreActLines (sym up) (one_act_more (w.up c) (act_line rules held p asked) m.acts (act_is_act _ (act_line rules held p asked) sent));
                tickets = λ t. omega (arith, ap (coming t) up, coming_append t (w.up c) (act_line rules held p asked ∷ []), m.tickets t, ap (waits t) playing, act_waits (rules held.game) p asked t, act_comes _ (act_line rules held p asked) sent t);
                fits = act_fits (rules held.game) p asked (subst (λ o. Fits (rules held.game) o) playing m.fits);
                begun = λ none. absurd (some_none p (sym playing ∙ m.begun none));
                key = m.key;
              }

      not_made : (held : Held X G) → w.clients c ≡ Some held → (playing : Option (Playing G)) → held.client.playing ≡ playing → (why : Option ActNo) → Story rules c (acts_in rules w c held playing asked why).0 room
      not_made held e playing is (Some why) = story
      not_made held e None is None = story
      not_made held e (Some p) is None = made held e p is

      by : (starved : Bool) (client : Option (Held X G)) → w.clients c ≡ client → Story rules c (acts rules starved w c client asked).0 room
      by starved None e = story
      by true (Some held) e = story
      by false (Some held) e = not_made held e held.client.playing refl (act_no held.client.gone held.client.playing)
