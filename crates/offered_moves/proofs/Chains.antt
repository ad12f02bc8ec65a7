-- What each action keeps that breaks no rule holds of all that a match has come to, and of all that an undo or a redo brings back.
use Rattle.std.specs.Prelude.{◌≡◌, ◌+◌, ◌≤◌, ℕ, suc, length, List, [], ◌∷◌, Result, Ok, Err, refl}
use Rattle.std.proofs.Common.{arith}
use Rattle.game_sheet.specs.declared.act.Act.{Act}
use Rattle.game_sheet.specs.declared.act.Act.TheVariants.{Move, Event as Asks, Undo, Redo}
use Rattle.game_sheet.specs.declared.refusal.GameRule.{GameRule}
use Rattle.game_trait.specs.InSheet.{ActInSheet}
use Rattle.game_trait.specs.Rules.{Rules}
use Rattle.phase_flow.specs.Action.{once}
use Rattle.phase_flow.specs.Reached.{Reached}
use Rattle.reducer.specs.Accepted.{Accepted}
use Rattle.reducer.specs.Fold.{fold}
use Rattle.reducer.specs.Folded.{folded, unless_refused}
use Rattle.reducer.specs.Struck.{called, struck_of}
use Rattle.undo_redo.specs.StruckList.{Struck, redo_first, strike, undo_last}
use Rattle.offered_moves.specs.Admitted.{IsAdmitted, IsPlayed}

-- what holds after so many actions holds after one more
abbrev pub Grows : {G : Type 0} → (ℕ → Reached G → Type 0) → Type 0
Grows {G = G} Holds = (n : ℕ) (r : Reached G) → Holds n r → Holds (suc n) r

-- an action that breaks no rule keeps it
abbrev pub Goes : {G : Type 0} → Rules G → (ℕ → Reached G → Type 0) → Type 0
Goes {G = G} rules Holds =
    (n : ℕ) (now next : Reached G) (seat : ℕ) (act : Act) → Holds n now → ActInSheet rules.sheet act → IsAdmitted rules.sheet now.ctx seat act → once rules now seat act ≡ Ok next → Holds (suc n) next

module _ {G : Type 0} (rules : Rules G) (Holds : ℕ → Reached G → Type 0) (grows : Grows Holds) (goes : Goes rules Holds) (first : Reached G) (begins : Holds 0 first) where
  abbrev after : Reached G → Accepted → Reached G
  after now a = unless_refused now (once rules now a.seat a.act)

  abbrev Done : List Accepted → Type 0
  Done [] = Holds 0 first
  Done (a ∷ done) = Holds (suc (length done)) (folded rules first (a ∷ done)) × Done done

  abbrev Ahead : ℕ → Reached G → List Accepted → Type 0
  Ahead n now [] = Unit {0}
  Ahead n now (a ∷ undone) = Holds (suc n) (after now a) × Ahead (suc n) (after now a) undone

  record Stand (n : ℕ) (s : Struck Accepted) : Type 0 where
    pub done : Done s.done
    pub undone : Ahead (length s.done) (folded rules first s.done) s.undone
    pub few : length s.done + length s.undone ≤ n

  present : (done : List Accepted) → Done done → Holds (length done) (folded rules first done)
  present [] h = h
  present (a ∷ done) h = h.0

  gone_on : (n : ℕ) (now : Reached G) (a : Accepted) (o : Result (Reached G) GameRule) → once rules now a.seat a.act ≡ o → Holds n now → ActInSheet rules.sheet a.act → IsAdmitted rules.sheet now.ctx a.seat a.act → Holds (suc n) (unless_refused now o)
  gone_on n now a (Ok next) is h known admitted = goes n now next a.seat a.act h known admitted is
  gone_on n now a (Err rule) is h known admitted = grows n now h

  one_done : (n : ℕ) (a : Accepted) (s : Struck Accepted) → Stand n s → ActInSheet rules.sheet a.act → IsAdmitted rules.sheet (folded rules first s.done).ctx a.seat a.act → Stand (suc n) (record { done = a ∷ s.done; undone = [] })
  one_done n a s h known admitted =
      let now = folded rules first s.done in
      record { done = (gone_on (length s.done) now a (once rules now a.seat a.act) refl (present s.done h.done) known admitted, h.done); undone = tt; few = omega (arith, h.few) }

  undone_one : (n : ℕ) (done undone : List Accepted) → Done done → Ahead (length done) (folded rules first done) undone → length done + length undone ≤ n → Stand (suc n) (undo_last done undone)
  undone_one n [] undone d u f = record { done = d; undone = u; few = omega arith }
  undone_one n (a ∷ done) undone d u f = record { done = d.1; undone = (d.0, u); few = omega arith }

  redone_one : (n : ℕ) (done undone : List Accepted) → Done done → Ahead (length done) (folded rules first done) undone → length done + length undone ≤ n → Stand (suc n) (redo_first done undone)
  redone_one n done [] d u f = record { done = d; undone = tt; few = omega arith }
  redone_one n done (a ∷ undone) d u f = record { done = (u.0, d); undone = u.1; few = omega arith }

  struck_one : (n : ℕ) (act : Act) (a : Accepted) (s : Struck Accepted) → a.act ≡ act → Stand n s → ActInSheet rules.sheet a.act → IsAdmitted rules.sheet (folded rules first s.done).ctx a.seat a.act → Stand (suc n) (strike (called act a) s)
  struck_one n (Move id args) a s is h known admitted = one_done n a s h known admitted
  struck_one n (Asks event) a s is h known admitted = one_done n a s h known admitted
  struck_one n Undo a s is h known admitted = undone_one n s.done s.undone h.done h.undone h.few
  struck_one n Redo a s is h known admitted = redone_one n s.done s.undone h.done h.undone h.few

  stands : (accepted : List Accepted) → IsPlayed rules first accepted → Stand (length accepted) (struck_of accepted)
  stands [] played = record { done = begins; undone = tt; few = omega arith }
  stands (a ∷ accepted) played = struck_one (length accepted) a.act a (struck_of accepted) refl (stands accepted played.2) played.0 played.1

  -- it holds where the match stands, after no more actions than were accepted
  pub holds_now : (accepted : List Accepted) → IsPlayed rules first accepted → (n : ℕ) × (n ≤ length accepted) × Holds n (fold rules first accepted)
  holds_now accepted played =
      let s = stands accepted played in
      (length (struck_of accepted).done, omega (arith, s.few), present (struck_of accepted).done s.done)
