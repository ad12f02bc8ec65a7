-- The text of a script's pieces is its transcript, and what they tell a session is what it was sent, line by line.
use Rattle.std.proofs.Common.{◌≡◌, ℕ, ◌+◌, ◌==◌, Bool, true, false, ◌&&◌, if◌then◌else◌, List, [], ◌∷◌, ◌++◌, length, map, drop, Option, Some, None, refl, sym, ap, ◌∙◌, subst, append-nil}
use Rattle.std.specs.List.{concat, flat_map, list_all}
use Rattle.std.proofs.lemmas.Grind.{flat_map-append}
use Rattle.std.proofs.lemmas.List.Folds.{concat-append, list_all-append}
use Rattle.game_sheet.specs.Lines.{is_line, lines}
use Rattle.game_trait.specs.Rules.{Rules}
use Rattle.game_hall.specs.Answers.{line_of}
use Rattle.game_hall.specs.declared.answer.Answer.{Answer}
use Rattle.match_master.proofs.LineLaws.{line_is_line}
use Rattle.room_object.specs.Entry.{entry}
use Rattle.room_history.proofs.Clauses.{are_told}
use Rattle.room_history.specs.Piece.{Piece, Line, Mark, End, State, Open, Ended, Closed, all_lines, lines_to_mark, waiting_lines}
use Rattle.room_history.specs.Room as room_as
use Rattle.room_history.specs.Room.{room_of, session}
use Rattle.room_history.specs.Sent.{IsToldOf}
use Rattle.room_history.specs.Session.{Session, bytes_handed_out, bye_lines, detach_reply, latest_state, latest_take_reply, lines_handed_out, session_state, stream_of, take_reply_in}
use Rattle.room_history.specs.declared.call.RoomCall.{RoomCall}
use Rattle.room_history.specs.declared.call.RoomCall.TheVariants as call
use Rattle.room_history.specs.declared.reply.RoomReply.{RoomReply}
use Rattle.room_history.specs.declared.reply.RoomReply.TheVariants as reply
use Rattle.wire_json.specs.ServerText.{text}
use Rattle.wire_json.specs.declared.server.ServerMsg.TheVariants.{Bye as Farewell}
use Rattle.hall_history.specs.Hall.{Hall, after_line, new_hall}
use Rattle.hall_history.specs.Mark.{Mark as LineMark}
use Rattle.hall_history.specs.Opening.{after_open, opened_text}
use Rattle.hall_history.specs.Placed.{is_at}
use Rattle.hall_history.specs.Rooms.{history_of, reply_in}
use Rattle.hall_history.specs.Script.{Step, Nothing, Seeds, Opens, Says, Takes, Detaches, does, first_mark, freed_text, runs_script, to_session}
use Rattle.hall_history.specs.Parts.{frees_at, answered_text}
use Rattle.hall_history.specs.Told.{bytes_in, handed_by, handed_out}
use Rattle.hall_history.proofs.Clauses.{all_handed}
use Rattle.hall_history.proofs.Rooming.{same_number}
use Rattle.script_steps.specs.Pieces.{Print, Word, Answered, Told, attachings, freed_pieces, handed_pieces, pieces_from, pieces_of, print_text, told_by, told_to, unattached_pieces}
use Rattle.script_steps.proofs.StepLaws.{all_true, lines_in, waiting_are_lines}
use Rattle.std.specs.Option.{option_map_or}

-- ---- the text

told_text : (pass room count : ℕ) (ls : List (List ℕ)) → flat_map print_text (map (Told pass room count) ls) ≡ flat_map (to_session pass) ls
told_text pass room count [] = refl
told_text pass room count (l ∷ ls) = ap (λ t. to_session pass l ++ t) (told_text pass room count ls)

answer_text : (pass : ℕ) (said : Option Answer) → flat_map print_text (option_map_or (λ said. Answered pass said ∷ []) said []) ≡ answered_text pass said
answer_text pass None = refl
answer_text pass (Some said) = append-nil (to_session pass (line_of said))

handed_text : (pass room count : ℕ) (told : RoomReply) → flat_map print_text (handed_pieces pass room count (Some told)) ≡ freed_text pass (Some told)
handed_text pass room count reply.NotAttached = append-nil (freed_text pass None)
handed_text pass room count told = told_text pass room count (lines (bytes_handed_out told))

module _ {X G : Type 0} (named : List ℕ → Option X) (rules : X → Rules G) (tape : ℕ → List ℕ) where
  freed_is : (h : Hall X) (pass : ℕ) (made : RoomCall X) (at : Option ℕ)
      → flat_map print_text (freed_pieces named rules tape h pass at (frees_at rules h pass made at).1) ≡ freed_text pass (frees_at rules h pass made at).1
  freed_is h pass made None = append-nil (freed_text pass None)
  freed_is h pass made (Some room) = handed_text pass room (attachings named rules tape h room pass) (reply_in rules h.rooms room (entry pass made false))

  step_text : (mark : LineMark) (step : Step) (h : Hall X) → flat_map print_text (pieces_of named rules tape mark step h) ≡ (does named rules tape mark step h).1
  step_text mark Nothing h = refl
  step_text mark (Seeds seed) h = refl
  step_text mark (Opens game seats) h = append-nil (opened_text (after_open named rules tape h game seats).1)
  step_text mark (Says pass line) h = answer_text pass (after_line named rules tape mark h pass line).1
  step_text mark (Takes pass) h = freed_is h pass call.Take (h.at pass)
  step_text mark (Detaches pass) h = freed_is h pass call.Detach (h.at pass)

  -- the pieces' text is the transcript
  pub all_text : (marks : List LineMark) (steps : List Step) (h : Hall X) → flat_map print_text (pieces_from named rules tape marks steps h) ≡ (runs_script named rules tape marks steps h).1
  all_text marks [] h = refl
  all_text marks (step ∷ steps) h =
      let next = (does named rules tape (first_mark marks) step h).0 in
      flat_map-append print_text (pieces_of named rules tape (first_mark marks) step h) (pieces_from named rules tape (drop 1 marks) steps next)
      ∙ ap (λ t. t ++ flat_map print_text (pieces_from named rules tape (drop 1 marks) steps next)) (step_text (first_mark marks) step h)
      ∙ ap (λ t. (does named rules tape (first_mark marks) step h).1 ++ t) (all_text (drop 1 marks) steps next)

-- ---- lines

abbrev AreLines : List (List ℕ) → Type 0
AreLines ls = list_all is_line ls ≡ true

both_lines : (xs ys : List (List ℕ)) → AreLines xs → AreLines ys → AreLines (xs ++ ys)
both_lines xs ys h k = list_all-append is_line xs ys ∙ ap (λ b. b && list_all is_line ys) h ∙ k

all_are : (ps : List Piece) → AreLines (all_lines ps)
all_are [] = refl
all_are (Line m ∷ ps) = all_true is_line (all_lines ps) (text m) (all_are ps) (line_is_line m)
all_are (Mark ∷ ps) = all_are ps
all_are (End why ∷ ps) = all_true is_line (all_lines ps) (text (Farewell why)) (all_are ps) (line_is_line (Farewell why))

marked_are : (ps : List Piece) → AreLines (lines_to_mark ps)
marked_are [] = refl
marked_are (Line m ∷ ps) = marked_are ps
marked_are (Mark ∷ ps) = all_are ps
marked_are (End why ∷ ps) = marked_are ps

-- so is what a session was sent
pub sent_lines : (s : Session) → IsToldOf s → AreLines s.sent
sent_lines s told = ap (list_all is_line) told.sent ∙ marked_are (stream_of s)

handed_are : (state : State) (ps : List Piece) → AreLines (lines_handed_out state ps)
handed_are Open ps = waiting_are_lines ps
handed_are (Ended why) ps = all_true is_line (waiting_lines ps) (text (Farewell why)) (waiting_are_lines ps) (line_is_line (Farewell why))
handed_are Closed ps = refl

handed_bytes : (state : State) (ps : List Piece) → bytes_handed_out (take_reply_in state ps) ≡ concat (lines_handed_out state ps)
handed_bytes Open ps = append-nil (concat (waiting_lines ps))
handed_bytes (Ended why) ps = sym (concat-append (waiting_lines ps) (bye_lines (Some why)))
handed_bytes Closed ps = refl

-- what a Take is replied is whole lines
pub latest_lines : (sessions : List Session) → AreLines (lines (bytes_handed_out (latest_take_reply sessions)))
latest_lines [] = refl
latest_lines (s ∷ before) =
    let own = handed_are (session_state s) (stream_of s) in
    ap (λ bytes. list_all is_line (lines bytes)) (handed_bytes (session_state s) (stream_of s))
    ∙ ap (list_all is_line) (lines_in (lines_handed_out (session_state s) (stream_of s)) own) ∙ own

pub latest_whole : (sessions : List Session) → concat (lines (bytes_handed_out (latest_take_reply sessions))) ≡ bytes_handed_out (latest_take_reply sessions)
latest_whole [] = refl
latest_whole (s ∷ before) =
    let ls = lines_handed_out (session_state s) (stream_of s) in
    let is = handed_bytes (session_state s) (stream_of s) in
    ap (λ bytes. concat (lines bytes)) is ∙ ap concat (lines_in ls (handed_are (session_state s) (stream_of s))) ∙ sym is

none_detached : (state : State) → bytes_handed_out (detach_reply state) ≡ []
none_detached Open = refl
none_detached (Ended why) = refl
none_detached Closed = refl

-- ---- what is told

module _ (pass room j : ℕ) where
  told_all : (p r count : ℕ) (ls : List (List ℕ)) (b : Bool) → ((p == pass) && ((r == room) && (count == j + 1))) ≡ b → told_to pass room j (map (Told p r count) ls) ≡ (if b then ls else [])
  told_all p r count [] true e = refl
  told_all p r count [] false e = refl
  told_all p r count (l ∷ ls) true e = rw e (ap (λ t. l ∷ t) (told_all p r count ls true e))
  told_all p r count (l ∷ ls) false e = rw e (told_all p r count ls false e)

  told_handed : (p r count : ℕ) (told : RoomReply)
      → told_to pass room j (handed_pieces p r count (Some told)) ≡ (if (p == pass) && ((r == room) && (count == j + 1)) then lines (bytes_handed_out told) else [])
  told_handed p r count reply.NotAttached = sym (either_none ((p == pass) && ((r == room) && (count == j + 1))))
    where
      either_none : (b : Bool) → (if b then lines [] else []) ≡ []
      either_none true = refl
      either_none false = refl
  told_handed p r count told = told_all p r count (lines (bytes_handed_out told)) ((p == pass) && ((r == room) && (count == j + 1))) refl

  told_answer : (p : ℕ) (said : Option Answer) → told_to pass room j (option_map_or (λ said. Answered p said ∷ []) said []) ≡ []
  told_answer p None = refl
  told_answer p (Some said) = refl

  module _ {X G : Type 0} (named : List ℕ → Option X) (rules : X → Rules G) (tape : ℕ → List ℕ) where
    abbrev told_in : LineMark → Step → Hall X → List (List ℕ)
    told_in mark step h = told_to pass room j (pieces_of named rules tape mark step h)

    take_reply : (h : Hall X) (taker at : ℕ) → reply_in rules h.rooms at (entry taker call.Take false) ≡ latest_take_reply ((room_of rules at (history_of h.rooms at)).sessions taker)
    unfolding room_as.reply
    take_reply h taker at = refl

    detach_told : (h : Hall X) (taker at : ℕ) → bytes_handed_out (reply_in rules h.rooms at (entry taker call.Detach false)) ≡ []
    unfolding room_as.reply
    detach_told h taker at = none_detached (latest_state ((room_of rules at (history_of h.rooms at)).sessions taker))

    -- what a Take of a pass that is attached there tells
    abbrev told_there : Hall X → ℕ → ℕ → List (List ℕ)
    told_there h taker at =
        if (taker == pass) && ((at == room) && (attachings named rules tape h at taker == j + 1)) then lines (bytes_handed_out (reply_in rules h.rooms at (entry taker call.Take false))) else []

    abbrev take_told : (h : Hall X) (taker : ℕ) (at : Option ℕ) → List (List ℕ)
    take_told h taker None = []
    take_told h taker (Some at) = told_there h taker at

    take_is : (h : Hall X) (taker : ℕ) (at : Option ℕ) → told_to pass room j (freed_pieces named rules tape h taker at (frees_at rules h taker call.Take at).1) ≡ take_told h taker at
    take_is h taker None = refl
    take_is h taker (Some at) = told_handed taker at (attachings named rules tape h at taker) (reply_in rules h.rooms at (entry taker call.Take false))

    detach_is : (h : Hall X) (taker : ℕ) (at : Option ℕ) → told_to pass room j (freed_pieces named rules tape h taker at (frees_at rules h taker call.Detach at).1) ≡ []
    detach_is h taker None = refl
    detach_is h taker (Some at) =
        told_handed taker at (attachings named rules tape h at taker) (reply_in rules h.rooms at (entry taker call.Detach false))
        ∙ ap (λ bytes. if (taker == pass) && ((at == room) && (attachings named rules tape h at taker == j + 1)) then lines bytes else []) (detach_told h taker at)
        ∙ nothing ((taker == pass) && ((at == room) && (attachings named rules tape h at taker == j + 1)))
      where
        nothing : (b : Bool) → (if b then lines [] else []) ≡ []
        nothing true = refl
        nothing false = refl

    -- whole lines, and their bytes are those that are handed out
    if_lines : (b : Bool) (ls : List (List ℕ)) → AreLines ls → AreLines (if b then ls else [])
    if_lines true ls h = h
    if_lines false ls h = refl

    take_lines : (h : Hall X) (taker : ℕ) (at : Option ℕ) → AreLines (take_told h taker at)
    take_lines h taker None = refl
    take_lines h taker (Some at) =
        if_lines ((taker == pass) && ((at == room) && (attachings named rules tape h at taker == j + 1))) (lines (bytes_handed_out (reply_in rules h.rooms at (entry taker call.Take false))))
        (subst (λ told. AreLines (lines (bytes_handed_out told))) (sym (take_reply h taker at)) (latest_lines ((room_of rules at (history_of h.rooms at)).sessions taker)))

    if_whole : (b : Bool) (bytes : List ℕ) → concat (lines bytes) ≡ bytes → concat (if b then lines bytes else []) ≡ (if b then bytes else [])
    if_whole true bytes h = h
    if_whole false bytes h = refl

    both_false : (a c : Bool) → (a && (false && c)) ≡ false
    both_false true c = refl
    both_false false c = refl

    take_bytes : (h : Hall X) (taker : ℕ) (at : Option ℕ)
        → concat (take_told h taker at)
        ≡ (if (taker == pass) && (is_at at room && (length ((room_of rules room (history_of h.rooms room)).sessions pass) == j + 1)) then bytes_in (frees_at rules h taker call.Take at).1 else [])
    take_bytes h taker None = ap (λ b. if b then [] else []) (sym (both_false (taker == pass) (length ((room_of rules room (history_of h.rooms room)).sessions pass) == j + 1)))
    take_bytes h taker (Some at) = by (taker == pass) (at == room) refl refl
      where
        handed : List ℕ
        handed = bytes_handed_out (reply_in rules h.rooms at (entry taker call.Take false))

        whole : concat (lines handed) ≡ handed
        whole = subst (λ told. concat (lines (bytes_handed_out told)) ≡ bytes_handed_out told) (sym (take_reply h taker at)) (latest_whole ((room_of rules at (history_of h.rooms at)).sessions taker))

        by : (a b : Bool) → (taker == pass) ≡ a → (at == room) ≡ b
            → concat (if a && (b && (attachings named rules tape h at taker == j + 1)) then lines handed else [])
            ≡ (if a && (b && (length ((room_of rules room (history_of h.rooms room)).sessions pass) == j + 1)) then handed else [])
        by true true p q =
            if_whole (attachings named rules tape h at taker == j + 1) handed whole
            ∙ ap (λ r. if length ((room_of rules r (history_of h.rooms r)).sessions taker) == j + 1 then handed else []) (same_number at room q)
            ∙ ap (λ t. if length ((room_of rules room (history_of h.rooms room)).sessions t) == j + 1 then handed else []) (same_number taker pass p)
        by true false p q = refl
        by false b p q = refl

    step_bytes : (mark : LineMark) (step : Step) (h : Hall X) → concat (told_in mark step h) ≡ handed_by rules pass room j step h
    step_bytes mark Nothing h = refl
    step_bytes mark (Seeds seed) h = refl
    step_bytes mark (Opens game seats) h = refl
    step_bytes mark (Says sayer line) h = ap concat (told_answer sayer (after_line named rules tape mark h sayer line).1)
    step_bytes mark (Takes taker) h = ap concat (take_is h taker (h.at taker)) ∙ take_bytes h taker (h.at taker)
    step_bytes mark (Detaches taker) h = ap concat (detach_is h taker (h.at taker))

    step_lines : (mark : LineMark) (step : Step) (h : Hall X) → AreLines (told_in mark step h)
    step_lines mark Nothing h = refl
    step_lines mark (Seeds seed) h = refl
    step_lines mark (Opens game seats) h = refl
    step_lines mark (Says sayer line) h = ap (list_all is_line) (told_answer sayer (after_line named rules tape mark h sayer line).1)
    step_lines mark (Takes taker) h = ap (list_all is_line) (take_is h taker (h.at taker)) ∙ take_lines h taker (h.at taker)
    step_lines mark (Detaches taker) h = ap (list_all is_line) (detach_is h taker (h.at taker))

    abbrev told_from : List LineMark → List Step → Hall X → List (List ℕ)
    told_from marks steps h = told_to pass room j (pieces_from named rules tape marks steps h)

    told_more : (marks : List LineMark) (step : Step) (steps : List Step) (h : Hall X)
        → told_from marks (step ∷ steps) h ≡ told_in (first_mark marks) step h ++ told_from (drop 1 marks) steps (does named rules tape (first_mark marks) step h).0
    told_more marks step steps h =
        flat_map-append (told_by pass room j) (pieces_of named rules tape (first_mark marks) step h) (pieces_from named rules tape (drop 1 marks) steps (does named rules tape (first_mark marks) step h).0)

    all_bytes : (marks : List LineMark) (steps : List Step) (h : Hall X) → concat (told_from marks steps h) ≡ handed_out named rules tape pass room j marks steps h
    all_bytes marks [] h = refl
    all_bytes marks (step ∷ steps) h =
        let next = (does named rules tape (first_mark marks) step h).0 in
        ap concat (told_more marks step steps h)
        ∙ concat-append (told_in (first_mark marks) step h) (told_from (drop 1 marks) steps next)
        ∙ ap (λ l. l ++ concat (told_from (drop 1 marks) steps next)) (step_bytes (first_mark marks) step h)
        ∙ ap (λ l. handed_by rules pass room j step h ++ l) (all_bytes (drop 1 marks) steps next)

    all_lines_told : (marks : List LineMark) (steps : List Step) (h : Hall X) → AreLines (told_from marks steps h)
    all_lines_told marks [] h = refl
    all_lines_told marks (step ∷ steps) h =
        let next = (does named rules tape (first_mark marks) step h).0 in
        ap (list_all is_line) (told_more marks step steps h)
        ∙ both_lines (told_in (first_mark marks) step h) (told_from (drop 1 marks) steps next) (step_lines (first_mark marks) step h) (all_lines_told (drop 1 marks) steps next)

    -- along a script a session is told the lines that it was sent
    pub told_is_sent : (rooms : ℕ) (marks : List LineMark) (steps : List Step) (s : Session)
        → session rules room (history_of (runs_script named rules tape marks steps (new_hall rooms)).0.rooms room) pass j ≡ Some s
        → told_to pass room j (pieces_from named rules tape marks steps (new_hall rooms)) ≡ s.sent
    told_is_sent rooms marks steps s e =
        sym (lines_in (told_from marks steps (new_hall rooms)) (all_lines_told marks steps (new_hall rooms)))
        ∙ ap lines (all_bytes marks steps (new_hall rooms) ∙ sym (all_handed rules named tape rooms marks steps pass room j s e))
        ∙ lines_in s.sent (sent_lines s (are_told rules room (history_of (runs_script named rules tape marks steps (new_hall rooms)).0.rooms room) pass j s e))
