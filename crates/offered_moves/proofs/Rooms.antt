-- Every match that stands in a room began as its game begins and accepted only what broke no rule, so what it offers is accepted.
use Rattle.std.specs.Prelude.{◌≡◌, ◌<◌, ◌≤◌, ◌==◌, ◌&&◌, ◌+◌, ◌||◌, ℕ, suc, Bool, true, false, not, if◌then◌else◌, nat_le, is_some, bytes_eq, List, [], ◌∷◌, Option, Some, None, Result, Ok, Err, slice_get, option_map, refl}
use Rattle.std.specs.List.{list_any}
use Rattle.std.proofs.Common.{◌∙◌, ap, sym, subst, arith}
use Rattle.std.proofs.lemmas.Bool.{and_from, false≢true, and_parts, eq-eqb, leb-true}
use Rattle.std.proofs.lemmas.Slice.Eq.{bytes_eq-Decides}
use Rattle.any_game.specs.AnyRules.{any_lawful, any_rules}
use Rattle.any_game.specs.GameKind.{GameKind}
use Rattle.any_game.specs.declared.any_g.AnyG.{AnyG}
use Rattle.game_sheet.specs.SheetNames.{move_of}
use Rattle.game_sheet.specs.Viewer.{Viewer, seat_of}
use Rattle.game_sheet.specs.declared.act.Act.{Act}
use Rattle.game_sheet.specs.declared.act.Act.TheVariants.{Move, Event as Asks, Undo, Redo}
use Rattle.game_sheet.specs.declared.act.Event.{Event}
use Rattle.game_sheet.specs.declared.act.Event.TheVariants.{EndTurn, EndPhase, SetPhase, EndStage, SetStage, EndGame}
use Rattle.game_sheet.specs.declared.act.EventKind.{EventKind}
use Rattle.game_sheet.specs.declared.act.EventKind.TheVariants as kind
use Rattle.game_sheet.specs.declared.act.Outcome.{Outcome}
use Rattle.game_sheet.specs.declared.act.Outcome.TheVariants.{Ended as GameEnded}
use Rattle.game_sheet.specs.declared.args.Arg.{Arg}
use Rattle.game_sheet.specs.declared.ctx.Ctx.{Ctx}
use Rattle.game_sheet.specs.declared.ids.TheConstants.{MOST_ACTIONS}
use Rattle.game_sheet.specs.declared.refusal.GameRule.{GameRule}
use Rattle.game_sheet.specs.declared.sheet.MoveRow.{MoveRow}
use Rattle.game_sheet.specs.declared.sheet.Sheet.{Sheet}
use Rattle.game_trait.specs.Rules.{Rules}
use Rattle.match_master.proofs.JudgeLaws.{act_in_sheet}
use Rattle.phase_flow.specs.Action.{begin}
use Rattle.phase_flow.specs.Reached.{Reached}
use Rattle.reducer.specs.Fold.{answer}
use Rattle.room_history.proofs.Growth.{grown}
use Rattle.room_history.proofs.Keeps.{Reseated, reseated}
use Rattle.room_history.proofs.RuleLaws.{IsAdmitted as IsAsked, or_none, public_admits}
use Rattle.room_history.specs.Does.{Room, room_after, room_after_want, with_cleared, with_fate, with_left_seat, with_match, with_new_match, with_removed_if, with_session, with_each}
use Rattle.room_history.specs.Match.{Match, number_of, table_of}
use Rattle.room_history.specs.Piece.{State, Open, Ended, Closed}
use Rattle.room_history.specs.Reply.{Fate, Goes, Turned, Unheard, attached_match, created_match, fate, fate_in, last_serial, named_match, new_match, reseated_match, seats_fit, submit_reply}
use Rattle.room_history.proofs.Names.{after_leaving, fate_by}
use Rattle.room_history.specs.Room.{latest_in, latest_session, reply as reply_to_entry, room_of, standing}
use Rattle.room_history.specs.Rule.{first_broken, has_act as has_asked, has_key, is_allowed, is_alone, is_undo_or_redo, is_kind, public, seat_rules}
use Rattle.room_history.specs.Session.{Session, latest_state, session_state}
use Rattle.room_history.specs.Verdict.{first_reason, game_reason, game_rule, is_named, match_accepting, public_reason, reason_of, with_act}
use Rattle.room_history.specs.declared.call.RoomCall.{RoomCall}
use Rattle.room_history.specs.declared.call.RoomCall.TheVariants.{Create, Join, Rename, Leave, Look, Attach, Submit, Take, Detach, Clear}
use Rattle.room_history.specs.declared.reply.RoomReply.{RoomReply}
use Rattle.room_history.specs.declared.reply.RoomReply.TheVariants as reply
use Rattle.room_object.specs.Entry.{Entry, entry}
use Rattle.sight_reading.proofs.PartLaws.{place_again}
use Rattle.seat_roster.specs.Roster.{is_empty, join, leave, rename}
use Rattle.stage_map.specs.Moves.{may}
use Rattle.wire_json.specs.Resolve.{act_of, event_of, ignores_number}
use Rattle.wire_json.specs.declared.asked.Asked.{Asked}
use Rattle.wire_json.specs.declared.asked.Asked.TheVariants as asked
use Rattle.wire_json.specs.declared.asked.AskedTo.{AskedTo}
use Rattle.wire_json.specs.declared.asked.AskedTo.TheVariants as to
use Rattle.wire_json.specs.declared.protocol.Protocol.{Protocol}
use Rattle.wire_json.specs.declared.reason.Reason.{Reason}
use Rattle.wire_json.specs.declared.reason.Reason.TheVariants.{NoMatch, Unauthorized}
use Rattle.wire_json.specs.declared.verdict.Verdict.TheVariants as verdict
use Rattle.wire_json.specs.declared.submission.Submission.{Submission}
use Rattle.offered_moves.specs.Admitted.{IsAdmitted, IsPlayed, has_act, is_of_kind}
use Rattle.offered_moves.specs.OfferedLaw.{HasCards, IsAllowed, offers_at}
use Rattle.offered_moves.specs.Submitting.{OffersAreAccepted, OffersAreReplied, Submits}
use Rattle.offered_moves.proofs.Allowing.{all_mapped}
use Rattle.offered_moves.proofs.Matches.{all_offers}
use Rattle.std.specs.Option.{option_or, option_map_or}

-- ---- no rule of a list is broken

abbrev NoneHolds : List (Bool × Reason) → Type 0
NoneHolds [] = Unit {0}
NoneHolds (rule ∷ rules) = (rule.0 ≡ false) × NoneHolds rules

none_hold : (rules : List (Bool × Reason)) → first_broken rules ≡ None → NoneHolds rules
none_hold [] h = tt
none_hold ((true, reason) ∷ rules) h = absurd (cc)
none_hold ((false, reason) ∷ rules) h = (refl, none_hold rules h)

none_broken : (rules : List (Bool × Reason)) → NoneHolds rules → first_broken rules ≡ None
none_broken [] h = refl
none_broken ((true, reason) ∷ rules) h = absurd (false≢true (sym h.0))
none_broken ((false, reason) ∷ rules) h = none_broken rules h.1

not_true : (b : Bool) → b ≡ true → not b ≡ false
not_true true is = refl
not_true false is = absurd (false≢true is)

no_outcome : (o : Option Outcome) → is_some o ≡ false → o ≡ None
no_outcome None is = refl
no_outcome (Some outcome) is = absurd (false≢true (sym is))

-- ---- what is asked for is an action that the seat has

turn_is : (to : Option ℕ) (other : EventKind) → is_kind kind.EndTurn other ≡ true → is_of_kind (EndTurn to) other ≡ true
turn_is to kind.EndTurn is = refl
turn_is to other is = is

phase_is : (other : EventKind) → is_kind kind.EndPhase other ≡ true → is_of_kind EndPhase other ≡ true
phase_is kind.EndPhase is = refl
phase_is other is = is

to_phase_is : (to : ℕ) (other : EventKind) → is_kind kind.SetPhase other ≡ true → is_of_kind (SetPhase to) other ≡ true
to_phase_is to kind.SetPhase is = refl
to_phase_is to other is = is

stage_is : (other : EventKind) → is_kind kind.EndStage other ≡ true → is_of_kind EndStage other ≡ true
stage_is kind.EndStage is = refl
stage_is other is = is

to_stage_is : (to : ℕ) (other : EventKind) → is_kind kind.SetStage other ≡ true → is_of_kind (SetStage to) other ≡ true
to_stage_is to kind.SetStage is = refl
to_stage_is to other is = is

game_is : (outcome : Outcome) (other : EventKind) → is_kind kind.EndGame other ≡ true → is_of_kind (EndGame outcome) other ≡ true
game_is outcome kind.EndGame is = refl
game_is outcome other is = is

abbrev SameKind : EventKind → Option Event → Type 0
SameKind k None = Unit {0}
SameKind k (Some event) = (other : EventKind) → is_kind k other ≡ true → is_of_kind event other ≡ true

to_phase : (o : Option ℕ) → SameKind kind.SetPhase (option_map SetPhase o)
to_phase None = tt
to_phase (Some phase) = to_phase_is phase

to_stage : (o : Option ℕ) → SameKind kind.SetStage (option_map SetStage o)
to_stage None = tt
to_stage (Some stage) = to_stage_is stage

same_kind : (sheet : Sheet) (k : EventKind) (t : AskedTo) → SameKind k (event_of sheet k t)
same_kind sheet kind.EndTurn to.Nothing = turn_is None
same_kind sheet kind.EndTurn (to.Seat seat) = turn_is (Some seat)
same_kind sheet kind.EndPhase to.Nothing = phase_is
same_kind sheet kind.SetPhase (to.Name name) = to_phase _
same_kind sheet kind.EndStage to.Nothing = stage_is
same_kind sheet kind.SetStage (to.Name name) = to_stage _
same_kind sheet kind.EndGame to.Nothing = game_is GameEnded
same_kind sheet k t = tt

either : (p q ps qs : Bool) → (p ≡ true → q ≡ true) → (ps ≡ true → qs ≡ true) → (p || ps) ≡ true → (q || qs) ≡ true
either true true ps qs one more has = refl
either true false ps qs one more has = absurd (false≢true (one refl))
either false true ps qs one more has = refl
either false false ps qs one more has = more has

any_more : (p q : EventKind → Bool) → ((k : EventKind) → p k ≡ true → q k ≡ true) → (list : List EventKind) → list_any p list ≡ true → list_any q list ≡ true
any_more p q each [] has = has
any_more p q each (k ∷ list) has = either (p k) (q k) (list_any p list) (list_any q list) (each k) (any_more p q each list) has

event_has : (sheet : Sheet) (k : EventKind) (o : Option Event) (event : Event) → SameKind k o → option_map Asks o ≡ Some (Asks event) → list_any (is_kind k) sheet.events ≡ true → list_any (is_of_kind event) sheet.events ≡ true
event_has sheet k None event same is has = absurd (cc)
event_has sheet k (Some happens) event same is has =
    let its : happens ≡ event = cc in
    subst (λ (e : Event). list_any (is_of_kind e) sheet.events ≡ true) its (any_more (is_kind k) (is_of_kind happens) same sheet.events has)

asked_event : (sheet : Sheet) (a : Asked) (event : Event) → act_of sheet a ≡ Some (Asks event) → is_allowed sheet a ≡ true → list_any (is_of_kind event) sheet.events ≡ true
asked_event sheet (asked.Move name args) event is has = absurd (false≢true has)
asked_event sheet (asked.Event k t) event is has = event_has sheet k (event_of sheet k t) event (same_kind sheet k t) is has
asked_event sheet asked.Undo event is has = absurd (false≢true has)
asked_event sheet asked.Redo event is has = absurd (false≢true has)

asked_has : (sheet : Sheet) (ctx : Ctx) (seat : ℕ) (a : Asked) (act : Act) → act_of sheet a ≡ Some act → has_asked sheet ctx seat a (Some act) ≡ true → has_act sheet ctx seat act ≡ true
asked_has sheet ctx seat a (Move id args) is has = has
asked_has sheet ctx seat a (Asks event) is has = asked_event sheet a event is has
asked_has sheet ctx seat a Undo is has = refl
asked_has sheet ctx seat a Redo is has = refl

-- a submission that breaks no public rule is made while the match goes on
goes_on : (sheet : Sheet) (ctx : Ctx) (number : ℕ) (same : Bool) (viewer : Option ℕ) (fits : Bool) (a : Asked) (at seat : ℕ) → viewer ≡ Some seat → public sheet ctx number same viewer fits a at ≡ None → ctx.over ≡ None
unfolding public
goes_on sheet ctx number same None fits a at seat is h = absurd (cc)
goes_on sheet ctx number same (Some s) fits a at seat is h = no_outcome ctx.over (none_hold ((not same, NoMatch) ∷ option_map_or (λ seat. (not fits, Unauthorized) ∷ seat_rules sheet ctx number seat a at) (Some s) ((true, Unauthorized) ∷ [])) h).1.1.0

-- ---- matches of a room

module _ {X G : Type 0} (rules : X → Rules G) (room : ℕ) where
  -- it began as its game begins, and accepted only what broke no rule
  pub record IsFair (m : Match X G) : Type 0 where
    pub least : (rules m.game).sheet.min_seats ≤ m.seats
    pub most : m.seats ≤ (rules m.game).sheet.max_seats
    pub begun : begin (rules m.game) m.seats m.seed ≡ Ok m.first
    pub played : IsPlayed (rules m.game) m.first m.accepted

  abbrev FairWhere : Option (Match X G) → Type 0
  FairWhere None = Unit {0}
  FairWhere (Some m) = IsFair m

  abbrev MadeFair : Result (Match X G) RoomReply → Type 0
  MadeFair (Ok m) = IsFair m
  MadeFair (Err why) = Unit {0}

  made : (serial : ℕ) (game : X) (seats : ℕ) (seed : List ℕ) (x : Result (Reached G) GameRule) → begin (rules game) seats seed ≡ x → (rules game).sheet.min_seats ≤ seats → seats ≤ (rules game).sheet.max_seats → MadeFair (new_match rules serial game seats seed x)
  made serial game seats seed (Ok first) e least most = record { least = least; most = most; begun = e; played = tt }
  made serial game seats seed (Err why) e least most = tt

  seated : (serials : ℕ) (game : X) (seats : ℕ) (seed : List ℕ) (b : Bool) → seats_fit (rules game).sheet seats ≡ b → MadeFair (if b then new_match rules (serials + 1) game seats seed (begin (rules game) seats seed) else Err reply.BadSeats)
  seated serials game seats seed true e =
      let both = and_parts (nat_le (rules game).sheet.min_seats seats) (nat_le seats (rules game).sheet.max_seats) e in
      made (serials + 1) game seats seed (begin (rules game) seats seed) refl (leb-true (rules game).sheet.min_seats seats both.0) (leb-true seats (rules game).sheet.max_seats both.1)
  seated serials game seats seed false e = tt

  not_last : (serials : ℕ) (game : X) (seats : ℕ) (seed : List ℕ) (b : Bool) → MadeFair (if b then Err reply.Busy else (if seats_fit (rules game).sheet seats then new_match rules (serials + 1) game seats seed (begin (rules game) seats seed) else Err reply.BadSeats))
  not_last serials game seats seed true = tt
  not_last serials game seats seed false = seated serials game seats seed (seats_fit (rules game).sheet seats) refl

  created : (serials : ℕ) (st : Option (Match X G)) (game : X) (seats : ℕ) (seed : List ℕ) → MadeFair (created_match rules serials st game seats seed)
  created serials (Some m) game seats seed = tt
  created serials None game seats seed = not_last serials game seats seed (serials == last_serial)

  reseated_fair : (st : Option (Match X G)) (n : Match X G) → Reseated rules room st (Ok n) → FairWhere st → IsFair n
  reseated_fair None n f g = absurd f
  reseated_fair (Some m) n f g = subst IsFair (sym f.1) (record { least = g.least; most = g.most; begun = g.begun; played = g.played })

  -- ---- an accepted submission

  with_deed : (m : Match X G) (c : Option ℕ) (o : Option Act) (seat : ℕ) (act : Act) → c ≡ Some seat → o ≡ Some act → with_act rules m c o ≡ grown m (record { seat = seat; act = act })
  with_deed m c o seat act p q = rw (p, q) refl

  accepts : (m : Match X G) (viewer : Viewer) (s : Submission) → public_reason rules room m viewer s ≡ None → IsFair m → IsFair (match_accepting rules m viewer s)
  accepts m viewer s e g =
      let sheet : Sheet = (rules m.game).sheet in
      let ctx : Ctx = (table_of rules m).ctx in
      let i : IsAsked sheet ctx (number_of m) (seat_of viewer) s.asked = public_admits sheet ctx (number_of m) (is_named room m.serial s.name) (seat_of viewer) (has_key viewer s.key) s.asked s.number e in
      let admitted : IsAdmitted sheet ctx i.seat i.act = record {
        goes_on = goes_on sheet ctx (number_of m) (is_named room m.serial s.name) (seat_of viewer) (has_key viewer s.key) s.asked s.number i.seat i.viewer_is e;
        active = i.active;
        has = asked_has sheet ctx i.seat s.asked i.act i.act_is i.has;
      } in
      subst IsFair (sym (with_deed m (seat_of viewer) (act_of sheet s.asked) i.seat i.act i.viewer_is i.act_is))
      (record { least = g.least; most = g.most; begun = g.begun; played = (act_in_sheet sheet s.asked i.act i.act_is, admitted, g.played) })

  abbrev FateIsFair : Fate X G → Type 0
  FateIsFair (Goes n) = IsFair n
  FateIsFair other = Unit {0}

  judged : (m : Match X G) (viewer : Viewer) (s : Submission) (o : Option Reason) → first_reason rules room m viewer s ≡ o → IsFair m → FateIsFair (fate_by rules room m viewer s o)
  judged m viewer s (Some reason) e g = tt
  judged m viewer s None e g = accepts m viewer s (or_none (public_reason rules room m viewer s) (game_reason rules m viewer s) e).0 g

  heard : (st : Option (Match X G)) (state : State) (viewer : Viewer) (s : Submission) → FairWhere st → FateIsFair (fate_in rules room st state viewer s)
  heard (Some m) Open viewer s g = judged m viewer s (first_reason rules room m viewer s) refl g
  heard (Some m) (Ended why) viewer s g = tt
  heard (Some m) Closed viewer s g = tt
  heard None state viewer s g = tt

  fated : (st : Option (Match X G)) (l : List Session) (s : Submission) → FairWhere st → FateIsFair (fate rules room st l s)
  fated st [] s g = tt
  fated st (c ∷ before) s g = heard st (session_state c) c.viewer s g

  -- ---- the match that stands

  abbrev Stands : Room X G → Type 0
  Stands r = FairWhere r.standing

  stands_made : (r : Room X G) (result : Result (Match X G) RoomReply) → MadeFair result → Stands r → Stands (with_new_match r result)
  stands_made r (Ok m) f k = f
  stands_made r (Err why) f k = k

  stands_match : (r : Room X G) (result : Result (Match X G) RoomReply) → Reseated rules room r.standing result → Stands r → Stands (with_match r result)
  stands_match r (Ok m) f k = reseated_fair r.standing m f k
  stands_match r (Err why) f k = k

  stands_removed : (gone : Bool) (r : Room X G) (m : Match X G) → IsFair m → Stands (with_removed_if gone m r)
  stands_removed true r m g = tt
  stands_removed false r m g = g

  stands_left : (seat : ℕ) (r : Room X G) (result : Result (Match X G) RoomReply) → Reseated rules room r.standing result → Stands r → Stands (with_left_seat seat r result)
  stands_left seat r (Ok m) f k = stands_removed (is_empty m.roster) (with_each (after_leaving seat (is_empty m.roster)) r) m (reseated_fair r.standing m f k)
  stands_left seat r (Err why) f k = k

  stands_cleared : (r : Room X G) (result : Result (Match X G) RoomReply) → Stands r → Stands (with_cleared r result)
  stands_cleared r (Ok m) k = tt
  stands_cleared r (Err why) k = k

  stands_session : (r : Room X G) (result : Result (Match X G) RoomReply) (pass : ℕ) (viewer : Viewer) (protocol : Protocol) → Stands r → Stands (with_session rules room pass viewer protocol r result)
  stands_session r (Ok m) pass viewer protocol k = k
  stands_session r (Err why) pass viewer protocol k = k

  stands_fate : (r : Room X G) (f : Fate X G) → FateIsFair f → Stands r → Stands (with_fate rules room r f)
  stands_fate r Unheard f k = k
  stands_fate r (Turned n reason) f k = k
  stands_fate r (Goes n) f k = f

  stands_call : (r : Room X G) (pass : ℕ) (call : RoomCall X) → Stands r → Stands (room_after rules room r pass call)
  stands_call r pass (Create game seats seed) k = stands_made r (created_match rules r.serials r.standing game seats seed) (created r.serials r.standing game seats seed) k
  stands_call r pass (Join serial seat name key) k = stands_match r (reseated_match (named_match r.standing serial) (λ roster. join roster seat name key)) (reseated rules room r.standing serial (λ roster. join roster seat name key)) k
  stands_call r pass (Rename serial seat key name) k = stands_match r (reseated_match (named_match r.standing serial) (λ roster. rename roster seat key name)) (reseated rules room r.standing serial (λ roster. rename roster seat key name)) k
  stands_call r pass (Leave serial seat key) k = stands_left seat r (reseated_match (named_match r.standing serial) (λ roster. leave roster seat key)) (reseated rules room r.standing serial (λ roster. leave roster seat key)) k
  stands_call r pass (Clear serial) k = stands_cleared r (named_match r.standing serial) k
  stands_call r pass (Look serial) k = k
  stands_call r pass (Attach serial viewer protocol) k = stands_session r (attached_match r.standing (latest_state (r.sessions pass)) serial viewer) pass viewer protocol k
  stands_call r pass (Submit s) k = stands_fate _ (fate rules room r.standing (r.sessions pass) s) (fated r.standing (r.sessions pass) s k) k
  stands_call r pass Take k = k
  stands_call r pass Detach k = k

  stands_want : (r : Room X G) (pass : ℕ) (call : RoomCall X) → Stands r → Stands (room_after_want rules room r pass call)
  stands_want r pass (Submit s) k = k
  stands_want r pass call k = k

  stands_by : (b : Bool) (r : Room X G) (pass : ℕ) (call : RoomCall X) → Stands r → Stands (if b then room_after_want rules room r pass call else room_after rules room r pass call)
  stands_by true r pass call k = stands_want r pass call k
  stands_by false r pass call k = stands_call r pass call k

  stands : (h : List (Entry (RoomCall X))) → Stands (room_of rules room h)
  stands [] = tt
  stands (e ∷ h) = stands_by e.starved (room_of rules room h) e.pass e.call (stands h)

  pub standing_fair : (h : List (Entry (RoomCall X))) (m : Match X G) → standing rules room h ≡ Some m → IsFair m
  standing_fair h m e = subst FairWhere e (stands h)

-- ---- the verdict on an offered move

-- each move of a game is found by its name
found : (game : GameKind) (id : ℕ) (row : MoveRow) → slice_get (any_rules game).sheet.moves id ≡ Some row → move_of (any_rules game).sheet row.name ≡ Some id
found game id row is = place_again (λ (r : MoveRow). r.name) (any_rules game).sheet.moves row id (any_lawful game).fits.move_names is

same_name : (a b : ℕ) → a ≡ b → (a == b) ≡ true
same_name a b is = eq-eqb a b is

below_most : (n : ℕ) → n < 4096 → (n == 4096) ≡ false
below_most n low = grind (arith, low)

over_none : (o : Option Outcome) → o ≡ None → is_some o ≡ false
over_none o is = ap (λ (x : Option Outcome). is_some x) is

-- the action that a submission asks for by the move's name
submitted : (game : GameKind) (id : ℕ) (args : List Arg) (s : Submission) (row : MoveRow) → slice_get (any_rules game).sheet.moves id ≡ Some row → s.asked ≡ asked.Move row.name args → act_of (any_rules game).sheet s.asked ≡ Some (Move id args)
submitted game id args s row named is = ap (act_of (any_rules game).sheet) is ∙ ap (option_map (λ i. Move i args)) (found game id row named)

keys : (own given : List ℕ) → own ≡ given → bytes_eq own given ≡ true
keys own given same = (bytes_eq-Decides own given).1 same

no_undo : (a : Asked) (name : List ℕ) (args : List Arg) (other : Bool) → a ≡ asked.Move name args → (is_undo_or_redo a && other) ≡ false
no_undo a name args other is = ap (λ (x : Asked). is_undo_or_redo x && other) is

at_number : (same other : Bool) → same ≡ true → (not same && other) ≡ false
at_number same other is = ap (λ b. not b && other) is

no_public : (m : Match GameKind AnyG) (room seat : ℕ) (key : List ℕ) (id : ℕ) (args : List Arg) (s : Submission) → number_of m < 4096 → Submits room m key (id, args) s → IsAllowed (any_rules m.game) m.first m.accepted seat (Move id args) → public_reason any_rules room m (Some (seat, key)) s ≡ None
unfolding public
no_public m room seat key id args s few submits allowed =
    let sheet : Sheet = (any_rules m.game).sheet in
    let ctx : Ctx = (table_of any_rules m).ctx in
    let a = allowed.admitted in
    let act : act_of sheet s.asked ≡ Some (Move id args) = submitted m.game id args s submits.row submits.named submits.asked in
    let has : has_asked sheet ctx seat s.asked (act_of sheet s.asked) ≡ true = ap (has_asked sheet ctx seat s.asked) act ∙ a.has in
    let same : is_named room m.serial s.name ≡ true = and_from (s.name.room == room) (s.name.serial == m.serial) (same_name s.name.room room (ap (λ n. n.room) submits.name)) (same_name s.name.serial m.serial (ap (λ n. n.serial) submits.name)) in
    none_broken ((not (is_named room m.serial s.name), NoMatch) ∷ option_map_or (λ seat. (not (bytes_eq key s.key), Unauthorized) ∷ seat_rules sheet ctx (number_of m) seat s.asked s.number) (Some seat) ((true, Unauthorized) ∷ [])) (
      not_true (is_named room m.serial s.name) same,
      (
        not_true (bytes_eq key s.key) (keys key s.key (sym submits.key_is)),
        (
          over_none ctx.over a.goes_on,
          (
            below_most (number_of m) few,
            (
              no_undo s.asked submits.row.name args (not (is_alone ctx seat)) submits.asked,
              (
                not_true (may ctx seat) a.active,
                (
                  not_true (has_asked sheet ctx seat s.asked (act_of sheet s.asked)) has,
                  (at_number (s.number == number_of m) (not (ignores_number sheet (act_of sheet s.asked))) (same_name s.number (number_of m) submits.number), tt),
                ),
              ),
            ),
          ),
        ),
      ),
    )

no_game : (m : Match GameKind AnyG) (seat : ℕ) (key : List ℕ) (act : Act) (s : Submission) → act_of (any_rules m.game).sheet s.asked ≡ Some act → answer (any_rules m.game) m.first m.accepted seat act ≡ None → game_reason any_rules m (Some (seat, key)) s ≡ None
no_game m seat key act s is accepted = ap (λ o. option_map reason_of (game_rule any_rules m (Some seat) o)) is ∙ ap (option_map reason_of) accepted

no_reason : (public game : Option Reason) → public ≡ None → game ≡ None → option_or public game ≡ None
no_reason public game p g = ap (λ (o : Option Reason). option_or o game) p ∙ g

-- each offered move is accepted in the match that stands
pub all_accepted : (room : ℕ) (h : List (Entry (RoomCall GameKind))) (m : Match GameKind AnyG) → standing any_rules room h ≡ Some m → HasCards m.game → number_of m < MOST_ACTIONS → (seat : ℕ) → seat < m.seats → OffersAreAccepted room m seat
all_accepted room h m is cards few seat low =
    let fair = standing_fair any_rules room h m is in
    let allowed = all_offers m.game m.seats m.seed m.first m.accepted (record { cards = cards; least = fair.least; most = fair.most; begun = fair.begun; played = fair.played }) few seat low in
    all_mapped (λ (offer : ℕ × List Arg). IsAllowed (any_rules m.game) m.first m.accepted seat (Move offer.0 offer.1)) (λ (offer : ℕ × List Arg). (key : List ℕ) (s : Submission) → Submits room m key offer s → first_reason any_rules room m (Some (seat, key)) s ≡ None) (offers_at m.game m.first m.accepted seat)
    (λ offer one. λ key s submits.
    let act : act_of (any_rules m.game).sheet s.asked ≡ Some (Move offer.0 offer.1) = submitted m.game offer.0 offer.1 s submits.row submits.named submits.asked in
    no_reason (public_reason any_rules room m (Some (seat, key)) s) (game_reason any_rules m (Some (seat, key)) s) (no_public m room seat key offer.0 offer.1 s few submits one) (no_game m seat key (Move offer.0 offer.1) s act one.answer))
    allowed

-- ---- the reply to a session

suc_is : (n : ℕ) → suc n ≡ n + 1
suc_is n = omega arith

one_more : (m : Match GameKind AnyG) (seat : ℕ) (act : Act) (o : Option Act) → o ≡ Some act → number_of (with_act any_rules m (Some seat) o) ≡ number_of m + 1
one_more m seat act o is = ap (λ (x : Option Act). number_of (with_act any_rules m (Some seat) x)) is ∙ suc_is (number_of m)

judged_ok : (room : ℕ) (m : Match GameKind AnyG) (seat : ℕ) (key : List ℕ) (s : Submission) (act : Act) (st : Option (Match GameKind AnyG)) (state : State) (viewer : Viewer) → st ≡ Some m → state ≡ Open → viewer ≡ Some (seat, key)
    → first_reason any_rules room m (Some (seat, key)) s ≡ None → act_of (any_rules m.game).sheet s.asked ≡ Some act → submit_reply (fate_in any_rules room st state viewer s) ≡ reply.Verdict (verdict.Ok (number_of m + 1))
judged_ok room m seat key s act st state viewer st_is state_is viewer_is none act_is =
    ap (λ (x : Option (Match GameKind AnyG)). submit_reply (fate_in any_rules room x state viewer s)) st_is
    ∙ ap (λ x. submit_reply (fate_in any_rules room (Some m) x viewer s)) state_is
    ∙ ap (λ (x : Viewer). submit_reply (fate_in any_rules room (Some m) Open x s)) viewer_is
    ∙ ap (λ (x : Option Reason). submit_reply (fate_by any_rules room m (Some (seat, key)) s x)) none
    ∙ ap (λ n. reply.Verdict (verdict.Ok n)) (one_more m seat act (act_of (any_rules m.game).sheet s.asked) act_is)

by_latest : (room : ℕ) (st : Option (Match GameKind AnyG)) (l : List Session) (c : Session) (s : Submission) → latest_in l ≡ Some c → fate any_rules room st l s ≡ fate_in any_rules room st (session_state c) c.viewer s
by_latest room st [] c s is = absurd (cc)
by_latest room st (d ∷ before) c s is = let same : d ≡ c = cc in ap (λ (x : Session). fate_in any_rules room st (session_state x) x.viewer s) same

reply_ok : (room : ℕ) (h : List (Entry (RoomCall GameKind))) (m : Match GameKind AnyG) (pass : ℕ) (c : Session) (seat : ℕ) (key : List ℕ) (s : Submission) (act : Act) → standing any_rules room h ≡ Some m → latest_session any_rules room h pass ≡ Some c → session_state c ≡ Open → c.viewer ≡ Some (seat, key)
    → first_reason any_rules room m (Some (seat, key)) s ≡ None → act_of (any_rules m.game).sheet s.asked ≡ Some act → reply_to_entry any_rules room h (entry pass (Submit s) false) ≡ reply.Verdict (verdict.Ok (number_of m + 1))
unfolding reply_to_entry
reply_ok room h m pass c seat key s act stands latest goes viewer none act_is =
    ap submit_reply (by_latest room (standing any_rules room h) ((room_of any_rules room h).sessions pass) c s latest)
    ∙ judged_ok room m seat key s act (standing any_rules room h) (session_state c) c.viewer stands goes viewer none act_is

-- each offered move is replied with its acceptance
pub all_replied : (room : ℕ) (h : List (Entry (RoomCall GameKind))) (m : Match GameKind AnyG) → standing any_rules room h ≡ Some m → HasCards m.game → number_of m < MOST_ACTIONS → (pass : ℕ) (c : Session) → latest_session any_rules room h pass ≡ Some c → session_state c ≡ Open
    → (seat : ℕ) (key : List ℕ) → c.viewer ≡ Some (seat, key) → seat < m.seats → OffersAreReplied room h m pass seat key
all_replied room h m is cards few pass c latest goes seat key viewer low =
    all_mapped (λ (offer : ℕ × List Arg). (key : List ℕ) (s : Submission) → Submits room m key offer s → first_reason any_rules room m (Some (seat, key)) s ≡ None)
    (λ (offer : ℕ × List Arg). (s : Submission) → Submits room m key offer s → reply_to_entry any_rules room h (entry pass (Submit s) false) ≡ reply.Verdict (verdict.Ok (number_of m + 1))) (offers_at m.game m.first m.accepted seat)
    (λ offer one. λ s submits. reply_ok room h m pass c seat key s (Move offer.0 offer.1) is latest goes viewer (one key s submits) (submitted m.game offer.0 offer.1 s submits.row submits.named submits.asked))
    (all_accepted room h m is cards few seat low)
