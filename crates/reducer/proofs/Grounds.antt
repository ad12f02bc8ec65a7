-- What accepted actions come to is good, since each of them keeps it so, and the struck list has only actions of the list.
use Rattle.std.proofs.Common.{◌≡◌, ◌<◌, ◌≤◌, ◌+◌, ◌*◌, ℕ, suc, length, List, [], ◌∷◌, Result, Ok, Err, arith, refl}
use Rattle.game_sheet.specs.declared.act.Act.{Act}
use Rattle.game_sheet.specs.declared.act.Act.TheVariants.{Move, Event as Asks, Undo, Redo}
use Rattle.game_sheet.specs.declared.refusal.GameRule.{GameRule}
use Rattle.game_trait.specs.InSheet.{ActInSheet}
use Rattle.game_trait.specs.Rules.{Rules}
use Rattle.phase_flow.specs.Action.{once}
use Rattle.phase_flow.specs.IsGood.{IsGood}
use Rattle.phase_flow.specs.IsSound.{BoundGrows}
use Rattle.phase_flow.specs.Reached.{Reached}
use Rattle.reducer.specs.Accepted.{Accepted, AreActs}
use Rattle.reducer.specs.Folded.{folded, unless_refused}
use Rattle.reducer.specs.Struck.{called, struck_of}
use Rattle.undo_redo.specs.StruckList.{Struck, strike, undo_last, redo_first}

-- an action keeps what is good
abbrev pub ActionsKeep : {G : Type 0} → Rules G → Type 0
ActionsKeep {G} rules =
    (seats moves turns seat : ℕ) (act : Act) (now next : Reached G) → IsGood rules seats moves turns now → seat < seats → ActInSheet rules.sheet act → once rules now seat act ≡ Ok next
    → IsGood rules seats (moves + 1) (turns + 64) next

module _ {G : Type 0} (rules : Rules G) (grows : BoundGrows) (goes : ActionsKeep rules) where
  abbrev Good : ℕ → ℕ → Reached G → Type 0
  Good seats n r = IsGood rules seats n (65 + 64 * n) r

  more_good : (seats n m : ℕ) (r : Reached G) → n ≤ m → Good seats n r → Good seats m r
  more_good seats n m r h g = record { own = g.own; sound = grows rules.sheet n m r.ctx r.active h g.sound; turns = omega (arith, g.turns); seats = g.seats; over = g.over }

  once_good : (seats n seat : ℕ) (act : Act) (r next : Reached G) → Good seats n r → seat < seats → ActInSheet rules.sheet act → once rules r seat act ≡ Ok next → Good seats (n + 1) next
  once_good seats n seat act r next g w known e =
      let one : IsGood rules seats (n + 1) (65 + 64 * n + 64) next = goes seats n (65 + 64 * n) seat act r next g w known e in
      record { own = one.own; sound = one.sound; turns = omega (arith, one.turns); seats = one.seats; over = one.over }

  unless_good : (seats n : ℕ) (a : Accepted) (r : Reached G) (o : Result (Reached G) GameRule) → once rules r a.seat a.act ≡ o → Good seats n r → a.seat < seats → ActInSheet rules.sheet a.act → Good seats (n + 1) (unless_refused r o)
  unless_good seats n a r (Ok next) e g w known = once_good seats n a.seat a.act r next g w known e
  unless_good seats n a r (Err rule) e g w known = more_good seats n (n + 1) r (omega arith) g

  folded_good : (seats : ℕ) (first : Reached G) (done : List Accepted) → Good seats 0 first → AreActs rules.sheet seats done → Good seats (length done) (folded rules first done)
  folded_good seats first [] g a = g
  folded_good seats first (act ∷ done) g a =
      let before : Good seats (length done) (folded rules first done) = folded_good seats first done g a.2 in
      more_good seats (length done + 1) (suc (length done)) (unless_refused (folded rules first done) (once rules (folded rules first done) act.seat act.act)) (omega arith)
      (unless_good seats (length done) act (folded rules first done) (once rules (folded rules first done) act.seat act.act) refl before a.0 a.1)

  -- the struck list has only actions of the list
  record StruckHolds (seats n : ℕ) (s : Struck Accepted) : Type 0 where
    pub done : AreActs rules.sheet seats s.done
    pub undone : AreActs rules.sheet seats s.undone
    pub few : length s.done + length s.undone ≤ n

  undo_holds : (seats n : ℕ) (done undone : List Accepted) → AreActs rules.sheet seats done → AreActs rules.sheet seats undone → length done + length undone ≤ n → StruckHolds seats (suc n) (undo_last done undone)
  undo_holds seats n [] undone d u f = record { done = tt; undone = u; few = omega arith }
  undo_holds seats n (a ∷ done) undone d u f = record { done = d.2; undone = (d.0, d.1, u); few = omega arith }

  redo_holds : (seats n : ℕ) (done undone : List Accepted) → AreActs rules.sheet seats done → AreActs rules.sheet seats undone → length done + length undone ≤ n → StruckHolds seats (suc n) (redo_first done undone)
  redo_holds seats n done [] d u f = record { done = d; undone = tt; few = omega arith }
  redo_holds seats n done (a ∷ undone) d u f = record { done = (u.0, u.1, d); undone = u.2; few = omega arith }

  strike_holds : (seats n : ℕ) (act : Act) (a : Accepted) (s : Struck Accepted) → a.seat < seats → ActInSheet rules.sheet a.act → StruckHolds seats n s → StruckHolds seats (suc n) (strike (called act a) s)
  strike_holds seats n (Move id args) a s w known h = record { done = (w, known, h.done); undone = tt; few = omega (arith, h.few) }
  strike_holds seats n (Asks event) a s w known h = record { done = (w, known, h.done); undone = tt; few = omega (arith, h.few) }
  strike_holds seats n Undo a s w known h = undo_holds seats n s.done s.undone h.done h.undone h.few
  strike_holds seats n Redo a s w known h = redo_holds seats n s.done s.undone h.done h.undone h.few

  struck_holds : (seats : ℕ) (accepted : List Accepted) → AreActs rules.sheet seats accepted → StruckHolds seats (length accepted) (struck_of accepted)
  struck_holds seats [] h = record { done = tt; undone = tt; few = omega arith }
  struck_holds seats (a ∷ accepted) h = strike_holds seats (length accepted) a.act a (struck_of accepted) h.0 h.1 (struck_holds seats accepted h.2)

  -- what accepted actions come to is good
  pub fold_good : (seats : ℕ) (first : Reached G) (accepted : List Accepted) → IsGood rules seats 0 65 first → AreActs rules.sheet seats accepted → Good seats (length accepted) (folded rules first (struck_of accepted).done)
  fold_good seats first accepted g a =
      let s : StruckHolds seats (length accepted) (struck_of accepted) = struck_holds seats accepted a in
      more_good seats (length (struck_of accepted).done) (length accepted) (folded rules first (struck_of accepted).done) (omega (arith, s.few)) (folded_good seats first (struck_of accepted).done g s.done)
