-- What Takes put on a down link along a world is what the session was sent, line by line; and a line of a world went as one that is served
-- goes, or it is printed that there was no memory for it.
use Rattle.std.proofs.Common.{◌≡◌, ◌⊎◌, inl, inr, ℕ, ◌+◌, ◌==◌, Bool, true, false, ◌&&◌, if◌then◌else◌, List, [], ◌∷◌, ◌++◌, codes, length, drop, Option, Some, None, refl, sym, ap, ◌∙◌, subst}
use Rattle.std.specs.List.{concat, list_all, AllByRecursion}
use Rattle.std.proofs.lemmas.List.Folds.{concat-append, list_all-append}
use Rattle.game_sheet.specs.Lines.{is_line, lines}
use Rattle.game_trait.specs.Rules.{Rules}
use Rattle.game_hall.specs.Core.{is_again}
use Rattle.game_hall.specs.declared.answer.Answer.{Answer}
use Rattle.client_predict.specs.Client.{Held}
use Rattle.room_history.proofs.Clauses.{are_told}
use Rattle.room_history.specs.Room as room_as
use Rattle.room_history.specs.Room.{room_of, session}
use Rattle.room_history.specs.Session.{Session, bytes_handed_out, latest_take_reply, stream_of}
use Rattle.room_history.specs.declared.call.RoomCall.TheVariants as call
use Rattle.room_history.specs.declared.reply.RoomReply.{RoomReply}
use Rattle.room_history.specs.declared.reply.RoomReply.TheVariants as reply
use Rattle.wire_json.specs.declared.asked.Asked.{Asked}
use Rattle.hall_history.specs.Parts.{frees_at}
use Rattle.hall_history.specs.Hall.{Hall, after_line}
use Rattle.hall_history.specs.Mark.{Mark, Served}
use Rattle.hall_history.specs.Placed.{is_at}
use Rattle.hall_history.specs.Rooms.{history_of}
use Rattle.hall_history.specs.Script.{first_mark}
use Rattle.hall_history.specs.Told.{bytes_in}
use Rattle.hall_history.proofs.Rooming.{is_same}
use Rattle.script_steps.proofs.MarkLaws.{line_is_told}
use Rattle.script_steps.proofs.PieceLaws.{latest_lines, latest_whole, sent_lines}
use Rattle.script_steps.proofs.StepLaws.{lines_in}
use Rattle.world_history.proofs.Delivering.{all_delivered}
use Rattle.world_history.specs.Words.{of_client}
use Rattle.world_history.specs.World.{World, Step, Nothing, Seeds, Opens, Attaches, Acts, Arrives, Takes, Reads, Drops, Leaves, Shows, new_world}
use Rattle.world_history.specs.WorldScript.{acts, arrived, arrives, does, has_starved, runs_world, takes}
use Rattle.world_history.specs.WorldTold.{delivered, delivered_by}
use Rattle.world_script.specs.Delivered.{SaysAgain, all_put, grown, lines_put, texts_from}

-- ---- how a link grows

front_dropped : {A : Type 0} (xs ys : List A) → drop (length xs) (xs ++ ys) ≡ ys
front_dropped [] ys = refl
front_dropped (x ∷ xs) ys = front_dropped xs ys

all_dropped : {A : Type 0} (xs : List A) → drop (length xs) xs ≡ []
all_dropped [] = refl
all_dropped (x ∷ xs) = all_dropped xs

module _ {X G : Type 0} (rules : X → Rules G) where
  grew : (w : World X G) (c : ℕ) (more : List (List ℕ)) → grown (w.down c) (if c == c then w.down c ++ more else w.down c) ≡ more
  grew w c more = ap (λ b. grown (w.down c) (if b then w.down c ++ more else w.down c)) (is_same c) ∙ front_dropped (w.down c) more

  take_grows : (w : World X G) (c : ℕ) (hall : Hall X) (told : RoomReply) → grown (w.down c) ((takes rules w c (hall, Some told)).0.down c) ≡ lines (bytes_handed_out told)
  take_grows w c hall reply.NotAttached = all_dropped (w.down c)
  take_grows w c hall told = grew w c (lines (bytes_handed_out told))

module _ {X G : Type 0} (named : List ℕ → Option X) (rules : X → Rules G) (tape : ℕ → List ℕ) where
  module _ (pass room j : ℕ) where
    abbrev AreLines : List (List ℕ) → Type 0
    AreLines ls = list_all is_line ls ≡ true

    abbrev latest_of : World X G → ℕ → ℕ → RoomReply
    latest_of w c at = latest_take_reply ((room_of rules at (history_of w.hall.rooms at)).sessions c)

    -- of a client that is attached there
    abbrev puts_at : World X G → ℕ → Option ℕ → List (List ℕ)
    puts_at w c at = grown (w.down c) ((takes rules w c (frees_at rules w.hall c call.Take at)).0.down c)

    latest_grows : (w : World X G) (c at : ℕ) → puts_at w c (Some at) ≡ lines (bytes_handed_out (latest_of w c at))
    unfolding room_as.reply
    latest_grows w c at = take_grows rules w c (frees_at rules w.hall c call.Take (Some at)).0 (latest_of w c at)

    latest_is : (w : World X G) (c at : ℕ) → bytes_in (frees_at rules w.hall c call.Take (Some at)).1 ≡ bytes_handed_out (latest_of w c at)
    unfolding room_as.reply
    latest_is w c at = refl

    if_bytes : (b : Bool) (ls : List (List ℕ)) (bytes : List ℕ) → concat ls ≡ bytes → concat (if b then ls else []) ≡ (if b then bytes else [])
    if_bytes true ls bytes e = e
    if_bytes false ls bytes e = refl

    if_lines : (b : Bool) (ls : List (List ℕ)) → AreLines ls → AreLines (if b then ls else [])
    if_lines true ls h = h
    if_lines false ls h = refl

    abbrev is_here : World X G → ℕ → Option ℕ → Bool
    is_here w c at = (c == pass) && (is_at at room && (length ((room_of rules room (history_of w.hall.rooms room)).sessions pass) == j + 1))

    put_bytes : (w : World X G) (c : ℕ) (at : Option ℕ) → concat (if is_here w c at then puts_at w c at else []) ≡ (if is_here w c at then bytes_in (frees_at rules w.hall c call.Take at).1 else [])
    put_bytes w c None = if_bytes (is_here w c None) (puts_at w c None) [] (ap concat (all_dropped (w.down c)))
    put_bytes w c (Some at) =
        if_bytes (is_here w c (Some at)) (puts_at w c (Some at)) (bytes_in (frees_at rules w.hall c call.Take (Some at)).1)
        (ap concat (latest_grows w c at) ∙ latest_whole ((room_of rules at (history_of w.hall.rooms at)).sessions c) ∙ sym (latest_is w c at))

    put_lines : (w : World X G) (c : ℕ) (at : Option ℕ) → AreLines (if is_here w c at then puts_at w c at else [])
    put_lines w c None = if_lines (is_here w c None) (puts_at w c None) (ap (list_all is_line) (all_dropped (w.down c)))
    put_lines w c (Some at) =
        if_lines (is_here w c (Some at)) (puts_at w c (Some at))
        (ap (list_all is_line) (latest_grows w c at) ∙ latest_lines ((room_of rules at (history_of w.hall.rooms at)).sessions c))

    step_bytes : (mark : Mark) (step : Step X) (w : World X G) → concat (lines_put named rules tape pass room j mark step w) ≡ delivered_by rules pass room j step w
    step_bytes mark Nothing w = refl
    step_bytes mark (Seeds seed) w = refl
    step_bytes mark (Opens game seats) w = refl
    step_bytes mark (Attaches c game name seat protocol) w = refl
    step_bytes mark (Acts c asked) w = refl
    step_bytes mark (Arrives c) w = refl
    step_bytes mark (Takes c) w = put_bytes w c (w.hall.at c)
    step_bytes mark (Reads c) w = refl
    step_bytes mark (Drops c) w = refl
    step_bytes mark (Leaves name seat) w = refl
    step_bytes mark (Shows c) w = refl

    step_lines : (mark : Mark) (step : Step X) (w : World X G) → AreLines (lines_put named rules tape pass room j mark step w)
    step_lines mark Nothing w = refl
    step_lines mark (Seeds seed) w = refl
    step_lines mark (Opens game seats) w = refl
    step_lines mark (Attaches c game name seat protocol) w = refl
    step_lines mark (Acts c asked) w = refl
    step_lines mark (Arrives c) w = refl
    step_lines mark (Takes c) w = put_lines w c (w.hall.at c)
    step_lines mark (Reads c) w = refl
    step_lines mark (Drops c) w = refl
    step_lines mark (Leaves name seat) w = refl
    step_lines mark (Shows c) w = refl

    all_bytes : (marks : List Mark) (steps : List (Step X)) (w : World X G) → concat (all_put named rules tape pass room j marks steps w) ≡ delivered named rules tape pass room j marks steps w
    all_bytes marks [] w = refl
    all_bytes marks (step ∷ steps) w =
        let next = (does named rules tape (first_mark marks) step w).0 in
        concat-append (lines_put named rules tape pass room j (first_mark marks) step w) (all_put named rules tape pass room j (drop 1 marks) steps next)
        ∙ ap (λ l. l ++ concat (all_put named rules tape pass room j (drop 1 marks) steps next)) (step_bytes (first_mark marks) step w)
        ∙ ap (λ l. delivered_by rules pass room j step w ++ l) (all_bytes (drop 1 marks) steps next)

    all_lines_put : (marks : List Mark) (steps : List (Step X)) (w : World X G) → AreLines (all_put named rules tape pass room j marks steps w)
    all_lines_put marks [] w = refl
    all_lines_put marks (step ∷ steps) w =
        let next = (does named rules tape (first_mark marks) step w).0 in
        list_all-append is_line (lines_put named rules tape pass room j (first_mark marks) step w) (all_put named rules tape pass room j (drop 1 marks) steps next)
        ∙ ap (λ b. b && list_all is_line (all_put named rules tape pass room j (drop 1 marks) steps next)) (step_lines (first_mark marks) step w)
        ∙ all_lines_put (drop 1 marks) steps next

    -- along a world a session's link gets the lines that it was sent
    pub put_is_sent : (rooms : ℕ) (marks : List Mark) (steps : List (Step X)) (s : Session)
        → session rules room (history_of (runs_world named rules tape marks steps (new_world rooms)).0.hall.rooms room) pass j ≡ Some s
        → all_put named rules tape pass room j marks steps (new_world rooms) ≡ s.sent
    put_is_sent rooms marks steps s e =
        sym (lines_in (all_put named rules tape pass room j marks steps (new_world rooms)) (all_lines_put marks steps (new_world rooms)))
        ∙ ap lines (all_bytes marks steps (new_world rooms) ∙ sym (all_delivered rules named tape rooms marks steps pass room j s e))
        ∙ lines_in s.sent (sent_lines s (are_told rules room (history_of (runs_world named rules tape marks steps (new_world rooms)).0.hall.rooms room) pass j s e))

  -- ---- where of no client it is printed that there was no memory

  abbrev SameOrAgain : World X G × List ℕ → World X G × List ℕ → Type 0
  SameOrAgain done served = (done ≡ served) ⊎ SaysAgain done.1

  arrived_alike : (w : World X G) (c : ℕ) (rest : List (List ℕ)) (done served : Hall X × Option Answer) → (done ≡ served) ⊎ (is_again done.1 ≡ true) → SameOrAgain (arrived w c rest done) (arrived w c rest served)
  arrived_alike w c rest done served (inl e) = inl (ap (arrived w c rest) e)
  arrived_alike w c rest done served (inr e) = inr (c, ap (λ b. if b then of_client c (codes "again") else []) e)

  arrives_alike : (mark : Mark) (w : World X G) (c : ℕ) (waiting : List (List ℕ)) → SameOrAgain (arrives named rules tape mark w c waiting) (arrives named rules tape Served w c waiting)
  arrives_alike mark w c [] = inl refl
  arrives_alike mark w c (line ∷ rest) =
      arrived_alike w c rest (after_line named rules tape mark w.hall c line) (after_line named rules tape Served w.hall c line) (line_is_told named rules tape mark w.hall c line)

  acts_alike : (starved : Bool) (w : World X G) (c : ℕ) (held : Option (Held X G)) (asked : Asked) → SameOrAgain (acts rules starved w c held asked) (acts rules false w c held asked)
  acts_alike starved w c None asked = inl refl
  acts_alike true w c (Some held) asked = inr (c, refl)
  acts_alike false w c (Some held) asked = inl refl

  step_alike : (mark : Mark) (step : Step X) (w : World X G) → SameOrAgain (does named rules tape mark step w) (does named rules tape Served step w)
  step_alike mark Nothing w = inl refl
  step_alike mark (Seeds seed) w = inl refl
  step_alike mark (Opens game seats) w = inl refl
  step_alike mark (Attaches c game name seat protocol) w = inl refl
  step_alike mark (Acts c asked) w = acts_alike (has_starved mark) w c (w.clients c) asked
  step_alike mark (Arrives c) w = arrives_alike mark w c (w.up c)
  step_alike mark (Takes c) w = inl refl
  step_alike mark (Reads c) w = inl refl
  step_alike mark (Drops c) w = inl refl
  step_alike mark (Leaves name seat) w = inl refl
  step_alike mark (Shows c) w = inl refl

  step_served : (mark : Mark) (step : Step X) (w : World X G) → (SaysAgain (does named rules tape mark step w).1 → ⊥) → does named rules tape mark step w ≡ does named rules tape Served step w
  step_served mark step w none = by (step_alike mark step w)
    where
      by : SameOrAgain (does named rules tape mark step w) (does named rules tape Served step w) → does named rules tape mark step w ≡ does named rules tape Served step w
      by (inl e) = e
      by (inr says) = absurd (none says)

  -- the run is as if each line was served
  pub world_served : (marks : List Mark) (steps : List (Step X)) (w : World X G) → AllByRecursion (λ text. SaysAgain text → ⊥) (texts_from named rules tape marks steps w) → runs_world named rules tape marks steps w ≡ runs_world named rules tape [] steps w
  world_served marks [] w served = refl
  world_served marks (step ∷ steps) w served =
      ap (λ done. (done.0, (does named rules tape (first_mark marks) step w).1 ++ done.1)) (world_served (drop 1 marks) steps (does named rules tape (first_mark marks) step w).0 served.1)
      ∙ ap (λ done. ((runs_world named rules tape [] steps done.0).0, done.1 ++ (runs_world named rules tape [] steps done.0).1)) (step_served (first_mark marks) step w served.0)
