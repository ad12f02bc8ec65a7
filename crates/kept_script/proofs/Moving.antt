-- What steps make of a hall over a kept room, by what its calls come to.
use Rattle.std.proofs.Common.{◌≡◌, ℕ, List, [], ◌++◌, Bool, length, Option, Some, Result, Ok, Err, IfOk, refl, sym, ap, ◌∙◌, subst}
use Rattle.any_game.specs.AnyRules.{any_rules, named}
use Rattle.any_game.specs.GameKind.{GameKind}
use Rattle.game_hall.specs.Core.{Core}
use Rattle.game_hall.specs.Words.{seed_of}
use Rattle.game_sheet.specs.MatchName.{Name}
use Rattle.hall_history.specs.Hall.{Hall, after_line}
use Rattle.hall_history.specs.Opening.{after_open}
use Rattle.hall_history.specs.Script.{Nothing, Seeds, Says, all_to_session}
use Rattle.hall_history.specs.Tapes.{hall_tape}
use Rattle.session_hall.specs.Answered.{HearsLine, HearsLineBy, Opens}
use Rattle.session_hall.specs.Held.{HeldHall, StandsForHall}
use Rattle.session_driver.specs.Hearing.{Draws, Hears, side}
use Rattle.session_driver.specs.declared.tally.Tally.{Tally}
use Rattle.script_steps.specs.ScriptDoing.{script_doing}
use Rattle.script_steps.proofs.StepLaws.{answered_is, did_nothing, seeded}
use Rattle.kept_room.specs.Journal.{Calls}
use Rattle.kept_room.specs.declared.room.KeptRoom.{KeptRoom}
use Rattle.kept_script.specs.Growing.{AreOpening, Grows, line_calls}
use Rattle.kept_script.specs.KeptPlay.{hall_of}
use Rattle.kept_script.specs.Moving.{StepGrows}
use Rattle.kept_script.specs.OneRoom.{books_of, calls_book}
use Rattle.kept_script.specs.declared.hall.KeptHall.{KeptHall}
use Rattle.kept_script.proofs.Growing.{grows_none, line_grows, open_grows}

-- a hall over the one room has one
pub has_one : {D : Type 0} (held : KeptHall D) (h : Hall GameKind) → StandsForHall hall_tape (hall_of held) h → length h.rooms ≡ 1
has_one held h s = sym s.books_held.count

-- a line, by the calls that the driver made
pub line_moves : {D : Type 0} (old new : KeptRoom D) (line : List ℕ) (c : Core GameKind) (before : Draws) (d : Core GameKind) (after : Draws) (tally : Tally)
    (k : Hears calls_book line (side (books_of old) c) before (side (books_of new) d) after tally)
    → (h : Hall GameKind) → length h.rooms ≡ 1 → (pass : ℕ) (held : HeldHall) (said : List ℕ) (again : Bool) → HearsLineBy hall_tape h pass line held said again tally k.runs.makes.all
    → (r : HearsLine hall_tape h pass line held said again tally) × Grows h.rooms (line_calls pass k.runs.makes.all) (after_line named any_rules hall_tape r.mark h pass line).0.rooms
line_moves old new line c before d after tally k h many pass held said again r = (
  r.heard,
  line_grows (side (books_of old) k.core) k.runs.makes.all (side (books_of new) d) refl k.runs.makes.made pass h.rooms (after_line named any_rules hall_tape r.heard.mark h pass line).0.rooms many r.rooms,
)

-- an open, by the calls that were made for it
pub open_moves : {E : Type 0} (r : Result (Option Name) E) (h : Hall GameKind) → length h.rooms ≡ 1 → (game : List ℕ) (seats : ℕ) (seed : List ℕ) → seed ≡ seed_of h.seed (hall_tape h.place) → (held : HeldHall) (more : Calls)
    → IfOk r (λ made. Opens hall_tape h game seats held made) → IfOk r (λ made. AreOpening game seats seed made more)
    → IfOk r (λ made. Opens hall_tape h game seats held made × Grows h.rooms more (after_open named any_rules hall_tape h game seats).0.rooms)
open_moves (Ok made) h many game seats seed is held more o calls =
    (o, open_grows h.rooms many game seats (seed_of h.seed (hall_tape h.place)) made more o.answer (subst (λ (l : List ℕ). AreOpening game seats l made more) is calls))
open_moves (Err e) h many game seats seed is held more o calls = o

-- ---- the steps

module _ (h : Hall GameKind) (held : HeldHall) (before after : List ℕ) where
  pub said_grows : (pass : ℕ) (line said : List ℕ) (again : Bool) (tally : Tally) (more : Calls) (r : HearsLine hall_tape h pass line held said again tally)
      → Grows h.rooms more (after_line named any_rules hall_tape r.mark h pass line).0.rooms → after ≡ before ++ all_to_session pass said → StepGrows h (Says pass line) held before after more
  unfolding script_doing
  said_grows pass line said again tally more r grows e = (
    record {
      mark = r.mark;
      stands = r.stands;
      added = e ∙ ap (λ s. before ++ all_to_session pass s) r.text ∙ ap (λ t. before ++ t) (answered_is pass (after_line named any_rules hall_tape r.mark h pass line).1);
    },
    grows,
  )

  pub nothing_grows : length h.rooms ≡ 1 → StandsForHall hall_tape held h → after ≡ before → StepGrows h Nothing held before after []
  nothing_grows many s e = (did_nothing h held before after s e, grows_none h.rooms many)

  pub seed_grows : length h.rooms ≡ 1 → (seed : List ℕ) → StandsForHall hall_tape held (record h { seed = Some seed }) → after ≡ before → StepGrows h (Seeds seed) held before after []
  seed_grows many seed s e = (seeded h held before after seed s e, grows_none h.rooms many)
