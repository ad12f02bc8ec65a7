-- What the answer of a step says of a submission, and that a resolved act is in its sheet.
use Rattle.std.proofs.Common.{◌≡◌, ◌<◌, ◌≤◌, ◌+◌, ◌-◌, ◌%◌, ◌^◌, min, ℕ, nat_lt, List, ◌∷◌, length, position, Bool, true, false, if◌then◌else◌, Option, Some, None, option_map, refl, sym, ap, ◌∙◌, subst, arith}
use Rattle.std.specs.List.{position_or_len}
use Rattle.std.proofs.lemmas.Bool.Decides.{nat_tests}
use Rattle.std.specs.Str.{bytes_eq}
use Rattle.game_sheet.specs.declared.act.Act.{Act}
use Rattle.game_sheet.specs.declared.act.Act.TheVariants.{Move, Event, Undo, Redo}
use Rattle.game_sheet.specs.declared.args.Arg.{Arg}
use Rattle.game_sheet.specs.declared.act.Event.{Event as Happening}
use Rattle.game_sheet.specs.declared.act.Event.TheVariants.{SetPhase, SetStage}
use Rattle.game_sheet.specs.declared.act.EventKind.{EventKind}
use Rattle.game_sheet.specs.declared.act.EventKind.TheVariants as kind
use Rattle.game_sheet.specs.declared.refusal.GameRule.{GameRule}
use Rattle.game_sheet.specs.declared.sheet.Sheet.{Sheet}
use Rattle.game_trait.specs.InSheet.{ActInSheet, EventInSheet}
use Rattle.game_trait.specs.Rules.{Rules}
use Rattle.move_log.specs.declared.entry.Entry.{Entry}
use Rattle.reducer.specs.Accepted.{Accepted}
use Rattle.reducer.specs.Answer.{answer_on}
use Rattle.reducer.specs.Prepared.{Coming, IsReady}
use Rattle.game_sheet.specs.SheetNames.{move_of, phase_of, stage_of}
use Rattle.wire_json.specs.Resolve.{act_of, event_of}
use Rattle.wire_json.specs.declared.asked.Asked.{Asked}
use Rattle.wire_json.specs.declared.asked.Asked.TheVariants as asked
use Rattle.wire_json.specs.declared.asked.AskedTo.{AskedTo}
use Rattle.wire_json.specs.declared.asked.AskedTo.TheVariants as to
use Rattle.wire_json.specs.declared.submission.Submission.{Submission}
use Rattle.phase_flow.specs.Action.{acted, come_to, once, words_from}
use Rattle.phase_flow.specs.Reached.{Reached, table_of as table_at}
use Rattle.phase_flow.specs.Step.{At, Ends, Step}
use Rattle.std.specs.Result.{result_err}
use Rattle.reducer.specs.Fold.{fold, standing as standing_at}
use Rattle.reducer.specs.Folded.{unless_refused}
use Rattle.reducer.specs.Steps.{state_after}
use Rattle.game_sheet.specs.Viewer.{Viewer, seat_of}
use Rattle.room_history.specs.Match.{Match, number_of, table_of}
use Rattle.room_history.specs.Shown.{entry_of, words_drawn}
use Rattle.room_history.specs.Verdict.{first_reason, public_reason, game_reason, with_act, game_rule, reason_of}
use Rattle.match_master.specs.declared.running_match.RunningMatch.{RunningMatch}
use Rattle.match_master.specs.Held.{running_of}
use Rattle.match_master.specs.Judged.{IsAccepted, entry_at}
use Rattle.std.specs.Option.{option_or}

chosen : (b : Bool) (n i : ℕ) → (if b then Some n else None) ≡ Some i → (b ≡ true) × (n ≡ i)
chosen true n i h = (refl, cc)
chosen false n i h = cc

below_is : (m n : ℕ) → nat_lt m n ≡ true → m < n
below_is m n h = grind (arith, nat_tests)

within : {X : Type 0} (p : X → Bool) (xs : List X) (i : ℕ) → position p xs ≡ Some i → i < length xs
within p xs i h =
    let at = chosen (nat_lt (position_or_len p xs) (length xs)) (position_or_len p xs) i h in
    subst (λ k. k < length xs) at.1 (below_is (position_or_len p xs) (length xs) at.0)

move_within : (sheet : Sheet) (name : List ℕ) (i : ℕ) → move_of sheet name ≡ Some i → i < length sheet.moves
move_within sheet name i h = within (λ row. bytes_eq row.name name) sheet.moves i h

phase_within : (sheet : Sheet) (name : List ℕ) (i : ℕ) → phase_of sheet name ≡ Some i → i < length sheet.phases
phase_within sheet name i h = within (λ row. bytes_eq row.name name) sheet.phases i h

stage_within : (sheet : Sheet) (name : List ℕ) (i : ℕ) → stage_of sheet name ≡ Some i → i < length sheet.stages
stage_within sheet name i h = within (λ row. bytes_eq row.name name) sheet.stages i h

abbrev SomeInSheet : Sheet → Option Act → Type 0
SomeInSheet sheet None = Unit {0}
SomeInSheet sheet (Some act) = ActInSheet sheet act

abbrev SomeEventInSheet : Sheet → Option Happening → Type 0
SomeEventInSheet sheet None = Unit {0}
SomeEventInSheet sheet (Some event) = EventInSheet sheet event

phase_in_sheet : (sheet : Sheet) (o : Option ℕ) → ((i : ℕ) → o ≡ Some i → i < length sheet.phases) → SomeEventInSheet sheet (option_map SetPhase o)
phase_in_sheet sheet None h = tt
phase_in_sheet sheet (Some i) h = h i refl

stage_in_sheet : (sheet : Sheet) (o : Option ℕ) → ((i : ℕ) → o ≡ Some i → i < length sheet.stages) → SomeEventInSheet sheet (option_map SetStage o)
stage_in_sheet sheet None h = tt
stage_in_sheet sheet (Some i) h = h i refl

event_in_sheet : (sheet : Sheet) (k : EventKind) (t : AskedTo) → SomeEventInSheet sheet (event_of sheet k t)
event_in_sheet sheet kind.SetPhase (to.Name name) = phase_in_sheet sheet (phase_of sheet name) (phase_within sheet name)
event_in_sheet sheet kind.SetStage (to.Name name) = stage_in_sheet sheet (stage_of sheet name) (stage_within sheet name)
event_in_sheet sheet kind.EndTurn to.Nothing = tt
event_in_sheet sheet kind.EndTurn (to.Seat seat) = tt
event_in_sheet sheet kind.EndPhase to.Nothing = tt
event_in_sheet sheet kind.EndStage to.Nothing = tt
event_in_sheet sheet kind.EndGame to.Nothing = tt
event_in_sheet sheet k t = tt

mapped_event : (sheet : Sheet) (o : Option Happening) → SomeEventInSheet sheet o → SomeInSheet sheet (option_map Event o)
mapped_event sheet None h = tt
mapped_event sheet (Some event) h = h

mapped_move : (sheet : Sheet) (args : List Arg) (o : Option ℕ) → ((i : ℕ) → o ≡ Some i → i < length sheet.moves) → SomeInSheet sheet (option_map (λ id. Move id args) o)
mapped_move sheet args None h = tt
mapped_move sheet args (Some i) h = h i refl

all_in_sheet : (sheet : Sheet) (a : Asked) → SomeInSheet sheet (act_of sheet a)
all_in_sheet sheet (asked.Move name args) = mapped_move sheet args (move_of sheet name) (move_within sheet name)
all_in_sheet sheet (asked.Event k t) = mapped_event sheet (event_of sheet k t) (event_in_sheet sheet k t)
all_in_sheet sheet asked.Undo = tt
all_in_sheet sheet asked.Redo = tt

-- a resolved act is in its sheet
pub act_in_sheet : (sheet : Sheet) (a : Asked) (act : Act) → act_of sheet a ≡ Some act → ActInSheet sheet act
act_in_sheet sheet a act h = subst (SomeInSheet sheet) h (all_in_sheet sheet a)

-- ---- an action draws few words

place_few : (p d : ℕ) → d ≤ 256 → (p + d) % 2 ^ 64 - p ≤ 256
place_few p d h = omega arith

step_few : {G : Type 0} → (before : Reached G) (step : Step G) → result_err (come_to before.seed before.place step) ≡ None → (unless_refused before (come_to before.seed before.place step)).place - before.place ≤ 256
step_few before (At t left tasks after) h = place_few before.place (256 - length left) (omega arith)
step_few before (Ends rule) h = cc

drawn_few : {G : Type 0} → (rules : Rules G) (before : Reached G) (seat : ℕ) (act : Act) → result_err (once rules before seat act) ≡ None → (unless_refused before (once rules before seat act)).place - before.place ≤ 256
unfolding once
drawn_few rules before seat act h = step_few before (acted rules (table_at before) seat act (words_from before.seed before.place)) h

min_few : (n : ℕ) → n ≤ 256 → min n 256 ≡ n
min_few n h = omega arith

words_are : {G : Type 0} → (rules : Rules G) (first : Reached G) (accepted : List Accepted) (coming : Coming G) (seat : ℕ) (act : Act) → coming.action ≡ record { seat = seat; act = act }
    → IsReady rules (standing_at rules first accepted) coming
    → min (words_drawn act (fold rules first accepted).place coming.table.place) 256 ≡ words_drawn act (fold rules first accepted).place coming.table.place
words_are rules first accepted coming seat Undo a ready = refl
words_are rules first accepted coming seat Redo a ready = refl
words_are {G} rules first accepted coming seat (Move id args) a ready =
    let now : Reached G = fold rules first accepted in
    let table : coming.table ≡ unless_refused now (once rules now seat (Move id args)) = ready.table ∙ ap (λ (d : Accepted). (state_after rules (standing_at rules first accepted) d).table) a in
    let unrefused : result_err (once rules now seat (Move id args)) ≡ None = subst (λ (d : Accepted). answer_on rules (standing_at rules first accepted) d.seat d.act ≡ None) a ready.accepted in
    min_few (coming.table.place - now.place) (subst (λ (t : Reached G). t.place - now.place ≤ 256) (sym table) (drawn_few rules now seat (Move id args) unrefused))
words_are {G} rules first accepted coming seat (Event event) a ready =
    let now : Reached G = fold rules first accepted in
    let table : coming.table ≡ unless_refused now (once rules now seat (Event event)) = ready.table ∙ ap (λ (d : Accepted). (state_after rules (standing_at rules first accepted) d).table) a in
    let unrefused : result_err (once rules now seat (Event event)) ≡ None = subst (λ (d : Accepted). answer_on rules (standing_at rules first accepted) d.seat d.act ≡ None) a ready.accepted in
    min_few (coming.table.place - now.place) (subst (λ (t : Reached G). t.place - now.place ≤ 256) (sym table) (drawn_few rules now seat (Event event) unrefused))

module _ {X G : Type 0} (rules : X → Rules G) (room : ℕ) where
  with_deed : (m : Match X G) (viewer : Option ℕ) (o : Option Act) (seat : ℕ) (act : Act) → viewer ≡ Some seat → o ≡ Some act → with_act rules m viewer o ≡ record m { accepted = record { seat = seat; act = act } ∷ m.accepted }
  with_deed m viewer o seat act p q = rw (p, q) refl

  rule_is : (m : Match X G) (viewer : Option ℕ) (o : Option Act) (seat : ℕ) (act : Act) → viewer ≡ Some seat → o ≡ Some act → game_rule rules m viewer o ≡ answer_on (rules m.game) (running_of rules m).state seat act
  rule_is m viewer o seat act p q = rw (p, q) refl

  game_is : (m : Match X G) (viewer : Viewer) (s : Submission) (seat : ℕ) (act : Act) (r : Option GameRule) → seat_of viewer ≡ Some seat → act_of (rules m.game).sheet s.asked ≡ Some act
      → answer_on (rules m.game) (running_of rules m).state seat act ≡ r → public_reason rules room m viewer s ≡ None → first_reason rules room m viewer s ≡ option_map reason_of r
  game_is m viewer s seat act r p q h n =
      ap (λ b. option_or b (game_reason rules m viewer s)) n ∙ ap (option_map reason_of) (rule_is m (seat_of viewer) (act_of (rules m.game).sheet s.asked) seat act p q ∙ h)

  pub accepted_is : (m : Match X G) (viewer : Viewer) (s : Submission) (seat : ℕ) (act : Act) (coming : Coming G) (entry : Entry) → seat_of viewer ≡ Some seat → act_of (rules m.game).sheet s.asked ≡ Some act
      → coming.action ≡ record { seat = seat; act = act } → IsReady (rules m.game) (running_of rules m).state coming → entry ≡ entry_at (running_of rules m).state coming.table.place (record { seat = seat; act = act })
      → public_reason rules room m viewer s ≡ None → IsAccepted rules room m viewer s coming entry
  accepted_is m viewer s seat act coming entry p q a ready e n =
      let deed : Accepted = record { seat = seat; act = act } in
      let unrefused : answer_on (rules m.game) (running_of rules m).state seat act ≡ None = subst (λ (d : Accepted). answer_on (rules m.game) (running_of rules m).state d.seat d.act ≡ None) a ready.accepted in
      record {
        unbroken = game_is m viewer s seat act None p q unrefused n;
        match_is = with_deed m (seat_of viewer) (act_of (rules m.game).sheet s.asked) seat act p q ∙ ap (λ (d : Accepted). let n : Match X G = record m { accepted = d ∷ m.accepted } in n) (sym a);
        number_is = ready.number;
        table_is = ready.table;
        entry_is = e
            ∙ ap (λ n. let x : Entry = record { seat = seat; act = act; hidden = false; number = number_of m; turn = (table_of rules m).ctx.turn; phase = (table_of rules m).ctx.phase; words = n } in x) (words_are (rules m.game) m.first m.accepted coming seat act a ready)
            ∙ ap (entry_of (table_of rules m) coming.table (number_of m)) (sym a);
      }

  -- the same, of what is kept of the match
  pub accepted_at : (m : Match X G) (running : RunningMatch X G) → running_of rules m ≡ running → (viewer : Viewer) (s : Submission) (seat : ℕ) (act : Act) (coming : Coming G) (entry : Entry) → seat_of viewer ≡ Some seat
      → act_of (rules running.game).sheet s.asked ≡ Some act → coming.action ≡ record { seat = seat; act = act } → IsReady (rules running.game) running.state coming
      → entry ≡ entry_at running.state coming.table.place (record { seat = seat; act = act }) → public_reason rules room m viewer s ≡ None → IsAccepted rules room m viewer s coming entry
  accepted_at m running e =
      subst (λ (k : RunningMatch X G). (viewer : Viewer) (s : Submission) (seat : ℕ) (act : Act) (coming : Coming G) (entry : Entry) → seat_of viewer ≡ Some seat
      → act_of (rules k.game).sheet s.asked ≡ Some act → coming.action ≡ record { seat = seat; act = act } → IsReady (rules k.game) k.state coming
      → entry ≡ entry_at k.state coming.table.place (record { seat = seat; act = act }) → public_reason rules room m viewer s ≡ None → IsAccepted rules room m viewer s coming entry) e
      (λ viewer s seat act coming entry. accepted_is m viewer s seat act coming entry)
