-- Whatever an action comes to on a sound table is sound, and so is what a match begins with.
use Rattle.std.proofs.Common.{◌≡◌, ◌<◌, ◌≤◌, ◌+◌, ℕ, Bool, true, false, if◌then◌else◌, List, [], Ok, arith, subst}
use Rattle.game_sheet.specs.SheetFits.{SheetFits}
use Rattle.game_sheet.specs.declared.act.Act.{Act}
use Rattle.game_sheet.specs.declared.act.Act.TheVariants.{Move, Event as Asks, Undo, Redo}
use Rattle.game_sheet.specs.declared.refusal.GameRule.TheVariants.{InvalidMove}
use Rattle.game_trait.specs.Deed.{Barred, Deed, Done, GaveUp, Invalid, Lacks}
use Rattle.game_trait.specs.InSheet.{ActInSheet}
use Rattle.game_trait.specs.Queues.{KeepsToSheet, QueuesInSheet}
use Rattle.game_trait.specs.Rules.{Rules}
use Rattle.phase_flow.specs.Action as action
use Rattle.phase_flow.specs.Flow.{begin, run_event}
use Rattle.phase_flow.specs.IsSound.{IsSound}
use Rattle.phase_flow.specs.Reached.{Reached, reached, table_of}
use Rattle.phase_flow.specs.Step.{At, Ends, Step}
use Rattle.phase_flow.specs.declared.table.Table.{Table}
use Rattle.phase_flow.proofs.Sounds.{MapLaws, StepFits, begin_fits, moved_fits, run_event_fits}

module _ {G : Type 0} (rules : Rules G) (fits : SheetFits rules.sheet) (keeps : KeepsToSheet rules) (laws : MapLaws) where
  sound_more : (n m : ℕ) (r : Reached G) → n ≤ m → IsSound rules.sheet n r.ctx r.active → IsSound rules.sheet m r.ctx r.active
  sound_more n m r h s = record {
    seats_least = s.seats_least;
    seats_most = s.seats_most;
    order = s.order;
    pos = s.pos;
    current = s.current;
    phase = s.phase;
    map_sound = laws.greater_bound rules.sheet r.ctx.seats n m r.active h s.map_sound;
    shows = s.shows;
    moves = omega (arith, s.moves);
  }

  more_fit : (n : ℕ) (s : Step G) → StepFits rules.sheet n s → StepFits rules.sheet (n + 1) s
  more_fit n (At t words tasks after) s = (sound_more n (n + 1) (reached [] 0 t) (omega arith) s.0, s.1)
  more_fit n (Ends rule) s = tt

  played_fits : (n seat : ℕ) (is : Bool) (t : Table G) (deed : Deed G Barred) → QueuesInSheet rules.sheet deed → IsSound rules.sheet n t.ctx t.active → seat < t.ctx.seats → StepFits rules.sheet (n + 1) (action.played rules t seat is deed)
  played_fits n seat is t (Done g left events) q s w = moved_fits rules fits keeps laws n seat is (record t { g = g }) left events s w q
  played_fits n seat is t (GaveUp Invalid) q s w = tt
  played_fits n seat is t (GaveUp (Lacks lack)) q s w = tt

  either_fits : (n : ℕ) (b : Bool) (x y : Step G) → StepFits rules.sheet n x → StepFits rules.sheet n y → StepFits rules.sheet n (if b then x else y)
  either_fits n true x y h k = h
  either_fits n false x y h k = k

  acted_fits : (n seat : ℕ) (act : Act) (t : Table G) (words : List ℕ) → IsSound rules.sheet n t.ctx t.active → seat < t.ctx.seats → ActInSheet rules.sheet act → StepFits rules.sheet (n + 1) (action.acted rules t seat act words)
  acted_fits n seat (Move id args) t words s w known =
      played_fits n seat (action.counts rules.sheet id) t (rules.play t.g t.ctx seat id args words) (keeps.play t.g t.ctx seat id args words known) s w
  acted_fits n seat (Asks event) t words s w known =
      either_fits (n + 1) (action.is_invalid seat event t) (Ends InvalidMove) (run_event rules seat event t words) tt (more_fit n (run_event rules seat event t words) (run_event_fits rules fits keeps laws n seat event t words s w known))
  acted_fits n seat Undo t words s w known = tt
  acted_fits n seat Redo t words s w known = tt

  come_fits : (n place : ℕ) (seed : List ℕ) (s : Step G) (r : Reached G) → StepFits rules.sheet n s → action.come_to seed place s ≡ Ok r → IsSound rules.sheet n r.ctx r.active
  come_fits n place seed (At t left tasks after) r h e =
      let same : reached seed (action.place_after place left) t ≡ r = cc in
      subst (λ (x : Reached G). IsSound rules.sheet n x.ctx x.active) same h.0
  come_fits n place seed (Ends rule) r h e = absurd (cc)

  pub once_fits : (n seat : ℕ) (act : Act) (r next : Reached G) → IsSound rules.sheet n r.ctx r.active → seat < r.ctx.seats → ActInSheet rules.sheet act → action.once rules r seat act ≡ Ok next → IsSound rules.sheet (n + 1) next.ctx next.active
  unfolding action.once
  once_fits n seat act r next s w known e =
      come_fits (n + 1) r.place r.seed (action.acted rules (table_of r) seat act (action.words_from r.seed r.place)) next (acted_fits n seat act (table_of r) (action.words_from r.seed r.place) s w known) e

  pub begins_fit : (seats : ℕ) (seed : List ℕ) (first : Reached G) → rules.sheet.min_seats ≤ seats → seats ≤ rules.sheet.max_seats → action.begin rules seats seed ≡ Ok first → IsSound rules.sheet 0 first.ctx first.active
  unfolding action.begin
  begins_fit seats seed first least most e = come_fits 0 0 seed (begin rules seats (action.words_from seed 0)) first (begin_fits rules fits keeps laws seats (action.words_from seed 0) least most) e
