-- What a step makes of a hall, and what it prints, by the parts that are put together.
use Rattle.std.proofs.Common.{◌≡◌, ℕ, Bool, true, false, ◌&&◌, List, [], ◌∷◌, ◌++◌, map, Option, Some, None, Result, Ok, Err, OnOk, refl, sym, ap, ◌∙◌, append_assoc, append-nil}
use Rattle.std.specs.List.{concat, flat_map, list_all}
use Rattle.std.proofs.lemmas.Grind.{flat_map-append}
use Rattle.any_game.specs.AnyRules.{any_rules, named}
use Rattle.any_game.specs.GameKind.{GameKind}
use Rattle.game_hall.specs.Answers.{line_of, message_of}
use Rattle.game_hall.specs.Core.{text_said}
use Rattle.game_hall.specs.declared.answer.Answer.{Answer}
use Rattle.game_hall.specs.declared.answer.Answer.TheVariants as answer
use Rattle.game_sheet.specs.Lines.{is_line, lines}
use Rattle.game_sheet.specs.MatchName.{Name}
use Rattle.game_sheet.specs.declared.act.Bye.{Bye}
use Rattle.game_sheet.proofs.Cut.{lines_of}
use Rattle.match_master.proofs.LineLaws.{data_none, line_is_line, line_of_none}
use Rattle.room_history.specs.Piece.{Piece, Line, Mark, End, State, Open, Ended, Closed, waiting_lines}
use Rattle.room_history.specs.Room as room
use Rattle.room_history.specs.Room.{room_of}
use Rattle.room_history.specs.Session.{Session, bye_lines, detach_reply, latest_state, latest_take_reply, session_state, stream_of, take_reply_in}
use Rattle.room_history.specs.declared.call.RoomCall.TheVariants as call
use Rattle.room_history.specs.declared.reply.RoomReply.{RoomReply}
use Rattle.serde_json.specs.Data.{object}
use Rattle.serde_json.specs.Written.{compact_text}
use Rattle.wire_json.specs.ServerText.{server_members, text}
use Rattle.wire_json.specs.declared.server.ServerMsg.{ServerMsg}
use Rattle.wire_json.specs.declared.server.ServerMsg.TheVariants as message
use Rattle.hall_history.specs.Hall.{Hall, after_line}
use Rattle.hall_history.specs.Mark.{Served}
use Rattle.hall_history.specs.Opening.{after_open, opened_text}
use Rattle.hall_history.specs.Rooms.{history_of}
use Rattle.hall_history.specs.Script.{Step, Nothing, Seeds, Opens, Says, Takes, Detaches, all_to_session, freed_text, to_session}
use Rattle.hall_history.specs.Parts.{frees_at, answered_text}
use Rattle.hall_history.specs.Tapes.{hall_tape}
use Rattle.session_hall.specs.Answered.{Frees, HearsLine, made_text}
use Rattle.session_hall.specs.Answered as answered
use Rattle.session_hall.specs.Held.{HeldHall, StandsForHall}
use Rattle.session_hall.specs.Opens.{made_by}
use Rattle.session_driver.specs.declared.tally.Tally.{Tally}
use Rattle.script_steps.specs.Printing.{end_text, reply_text}
use Rattle.line_runner.specs.Play.{Does}
use Rattle.script_steps.specs.ScriptDoing.{script_doing}

-- ---- texts that are lines

one_line : (l : List ℕ) → is_line l ≡ true → lines l ≡ l ∷ []
one_line l h = ap lines (sym (append-nil l)) ∙ lines_of (λ x. x) (l ∷ []) (ap (λ b. b && true) h)

-- a direct answer is printed as one line
pub answered_is : (pass : ℕ) (said : Option Answer) → all_to_session pass (text_said said) ≡ answered_text pass said
answered_is pass None = refl
answered_is pass (Some a) = ap (flat_map (to_session pass)) (one_line (line_of a) (line_is_line (message_of a))) ∙ append-nil (to_session pass (line_of a))

-- and the match that was opened
made_is : (said : Option Answer) → made_text (made_by said) ≡ opened_text said
made_is None = refl
made_is (Some answer.Games) = refl
made_is (Some (answer.Matches rows)) = refl
made_is (Some (answer.Match row)) = refl
made_is (Some (answer.Created name)) = refl
made_is (Some (answer.Joined key name seat)) = refl
made_is (Some (answer.Renamed name seat)) = refl
made_is (Some (answer.Left name seat)) = refl
made_is (Some (answer.Asked name seat)) = refl
made_is (Some (answer.Again ticket)) = refl
made_is (Some (answer.Refused refusal)) = refl

-- ---- what is handed out

pub all_true : (f : List ℕ → Bool) (xs : List (List ℕ)) (x : List ℕ) → list_all f xs ≡ true → f x ≡ true → list_all f (xs ++ x ∷ []) ≡ true
all_true f [] x h k = ap (λ b. b && true) k
all_true f (y ∷ xs) x h k = by (f y) (λ g. all_true f xs x g k) h
  where
    by : (b : Bool) → (list_all f xs ≡ true → list_all f (xs ++ x ∷ []) ≡ true) → (b && list_all f xs) ≡ true → (b && list_all f (xs ++ x ∷ [])) ≡ true
    by true more h = more h
    by false more h = h

-- the lines that wait are lines
pub waiting_are_lines : (pieces : List Piece) → list_all is_line (waiting_lines pieces) ≡ true
waiting_are_lines [] = refl
waiting_are_lines (Line m ∷ pieces) = all_true is_line (waiting_lines pieces) (text m) (waiting_are_lines pieces) (line_is_line m)
waiting_are_lines (Mark ∷ pieces) = refl
waiting_are_lines (End why ∷ pieces) = waiting_are_lines pieces

map_same : (xs : List (List ℕ)) → map (λ x. x) xs ≡ xs
map_same [] = refl
map_same (x ∷ xs) = ap (λ l. x ∷ l) (map_same xs)

pub lines_in : (ls : List (List ℕ)) → list_all is_line ls ≡ true → lines (concat ls) ≡ ls
lines_in ls h = ap (λ l. lines (concat l)) (sym (map_same ls)) ∙ lines_of (λ x. x) ls h ∙ map_same ls

concat_more : (ls : List (List ℕ)) (l : List ℕ) → concat ls ++ concat (l ∷ []) ≡ concat (ls ++ l ∷ [])
concat_more [] l = refl
concat_more (x ∷ ls) l = append_assoc x (concat ls) (concat (l ∷ [])) ∙ ap (λ t. x ++ t) (concat_more ls l)

-- lines, and the bye line behind them
taken_is : (pass : ℕ) (ls : List (List ℕ)) (end : Option Bye) → list_all is_line ls ≡ true
    → all_to_session pass (concat ls) ++ end_text pass end ≡ all_to_session pass (concat ls ++ concat (bye_lines end))
taken_is pass ls None h = append-nil (all_to_session pass (concat ls)) ∙ ap (all_to_session pass) (sym (append-nil (concat ls)))
taken_is pass ls (Some why) h =
    let bye = text (message.Bye why) in
    ap (λ l. flat_map (to_session pass) l ++ to_session pass (text (message.Bye why))) (lines_in ls h)
    ∙ ap (λ t. flat_map (to_session pass) ls ++ t) (sym (append-nil (to_session pass bye)))
    ∙ sym (flat_map-append (to_session pass) ls (bye ∷ []))
    ∙ ap (flat_map (to_session pass)) (sym (lines_in (ls ++ bye ∷ []) (all_true is_line ls bye h (line_is_line (message.Bye why)))))
    ∙ ap (all_to_session pass) (sym (concat_more ls bye))

-- a Take hands out lines
take_text : (pass : ℕ) (state : State) (pieces : List Piece) → reply_text pass (Some (take_reply_in state pieces)) ≡ freed_text pass (Some (take_reply_in state pieces))
take_text pass Open pieces = taken_is pass (waiting_lines pieces) None (waiting_are_lines pieces)
take_text pass (Ended why) pieces = taken_is pass (waiting_lines pieces) (Some why) (waiting_are_lines pieces)
take_text pass Closed pieces = refl

latest_text : (pass : ℕ) (sessions : List Session) → reply_text pass (Some (latest_take_reply sessions)) ≡ freed_text pass (Some (latest_take_reply sessions))
latest_text pass [] = refl
latest_text pass (s ∷ before) = take_text pass (session_state s) (stream_of s)

detach_text : (pass : ℕ) (state : State) → reply_text pass (Some (detach_reply state)) ≡ freed_text pass (Some (detach_reply state))
detach_text pass Open = refl
detach_text pass (Ended why) = refl
detach_text pass Closed = refl

pub take_prints : (h : Hall GameKind) (pass taker : ℕ) (at : Option ℕ) → reply_text pass (frees_at any_rules h taker call.Take at).1 ≡ freed_text pass (frees_at any_rules h taker call.Take at).1
unfolding room.reply
take_prints h pass taker None = refl
take_prints h pass taker (Some room) = latest_text pass ((room_of any_rules room (history_of h.rooms room)).sessions taker)

pub detach_prints : (h : Hall GameKind) (pass taker : ℕ) (at : Option ℕ) → reply_text pass (frees_at any_rules h taker call.Detach at).1 ≡ freed_text pass (frees_at any_rules h taker call.Detach at).1
unfolding room.reply
detach_prints h pass taker None = refl
detach_prints h pass taker (Some room) = detach_text pass (latest_state ((room_of any_rules room (history_of h.rooms room)).sessions taker))

-- ---- the steps

-- a text was added, unless there was no memory
pub does_by : {A E : Type 0} (r : Result A E) (h : Hall GameKind) (step : Step) (hall : HeldHall) (before after added : List ℕ)
    → (after ≡ before ++ added → Does script_doing h step hall before after) → OnOk r (after ≡ before ++ added) → OnOk r (Does script_doing h step hall before after)
does_by (Ok x) h step hall before after added f e = f e
does_by (Err x) h step hall before after added f e = e

pub same_added : {A E : Type 0} (r : Result A E) (before after added other : List ℕ) → added ≡ other → OnOk r (after ≡ before ++ added) → OnOk r (after ≡ before ++ other)
same_added (Ok x) before after added other e f = f ∙ ap (λ t. before ++ t) e
same_added (Err x) before after added other e f = f

module _ (h : Hall GameKind) (hall : HeldHall) (before after : List ℕ) where
  pub did_nothing : StandsForHall hall_tape hall h → after ≡ before → Does script_doing h Nothing hall before after
  unfolding script_doing
  did_nothing s e = record { mark = Served; stands = s; added = e ∙ sym (append-nil before) }

  pub seeded : (seed : List ℕ) → StandsForHall hall_tape hall (record h { seed = Some seed }) → after ≡ before → Does script_doing h (Seeds seed) hall before after
  unfolding script_doing
  seeded seed s e = record { mark = Served; stands = s; added = e ∙ sym (append-nil before) }

  pub opened : (game : List ℕ) (seats : ℕ) (made : Option Name) → answered.Opens hall_tape h game seats hall made → after ≡ before ++ made_text made → Does script_doing h (Opens game seats) hall before after
  unfolding script_doing
  opened game seats made r e = record {
    mark = Served;
    stands = r.stands;
    added = e ∙ ap (λ o. before ++ made_text o) r.answer ∙ ap (λ t. before ++ t) (made_is (after_open named any_rules hall_tape h game seats).1);
  }

  pub heard : (pass : ℕ) (line said : List ℕ) (again : Bool) (tally : Tally) → HearsLine hall_tape h pass line hall said again tally → after ≡ before ++ all_to_session pass said
      → Does script_doing h (Says pass line) hall before after
  unfolding script_doing
  heard pass line said again tally r e = record {
    mark = r.mark;
    stands = r.stands;
    added = e ∙ ap (λ s. before ++ all_to_session pass s) r.text ∙ ap (λ t. before ++ t) (answered_is pass (after_line named any_rules hall_tape r.mark h pass line).1);
  }

  pub took : (pass : ℕ) (told : Option RoomReply) → Frees hall_tape h pass call.Take hall told → after ≡ before ++ reply_text pass told → Does script_doing h (Takes pass) hall before after
  unfolding script_doing
  took pass told r e = record {
    mark = Served;
    stands = r.stands;
    added = e ∙ ap (λ o. before ++ reply_text pass o) r.reply ∙ ap (λ t. before ++ t) (take_prints h pass pass (h.at pass));
  }

  pub detached : (pass : ℕ) (told : Option RoomReply) → Frees hall_tape h pass call.Detach hall told → after ≡ before ++ reply_text pass told → Does script_doing h (Detaches pass) hall before after
  unfolding script_doing
  detached pass told r e = record {
    mark = Served;
    stands = r.stands;
    added = e ∙ ap (λ o. before ++ reply_text pass o) r.reply ∙ ap (λ t. before ++ t) (detach_prints h pass pass (h.at pass));
  }
