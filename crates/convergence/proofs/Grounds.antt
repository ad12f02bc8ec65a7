-- What a viewer sees of a match that is grounded can be read.
use Rattle.std.proofs.Common.{◌≡◌, ◌≤◌, ◌+◌, ◌*◌, ℕ, List, [], ◌∷◌, ◌++◌, length, map, Option, Ok, arith, refl, subst}
use Rattle.std.specs.List.{AllByRecursion}
use Rattle.game_sheet.specs.declared.sheet.Sheet.{Sheet}
use Rattle.game_trait.specs.Lawful.{Lawful}
use Rattle.game_trait.specs.Rules.{Rules}
use Rattle.move_log.specs.Redact.{redact}
use Rattle.phase_flow.specs.Action.{begin}
use Rattle.phase_flow.specs.IsGood.{IsGood}
use Rattle.phase_flow.specs.Reached.{Reached}
use Rattle.player_sight.specs.Plain.{IsPlainCtx}
use Rattle.player_sight.specs.PlainSnapshot.{IsPlain, MayBeShown}
use Rattle.player_sight.proofs.ShownPlain.{seen_plain}
use Rattle.reducer.specs.Accepted.{Accepted, AreActs}
use Rattle.reducer.specs.Fold.{fold}
use Rattle.room_history.specs.Match.{Match}
use Rattle.room_history.specs.Shown.{entry_of, log_from}
use Rattle.sight_reading.proofs.SnapshotLaws.{snapshot_again}
use Rattle.convergence.specs.Grounded.{CanBeRead, IsGrounded, MayBeLogged}
use Rattle.room_history.specs.Shown.{view_at}
use Rattle.convergence.proofs.Plains.{is_in, plain_ctx}

-- what accepted actions come to is good
abbrev pub StaysSound : {X G : Type 0} → (X → Rules G) → Type 0
StaysSound {X = X} {G = G} rules =
    (any : X) (seats : ℕ) (seed : List ℕ) (first : Reached G) (accepted : List Accepted)
    → (rules any).sheet.min_seats ≤ seats → seats ≤ (rules any).sheet.max_seats → begin (rules any) seats seed ≡ Ok first
    → AreActs (rules any).sheet seats accepted
    → IsGood (rules any) seats (length accepted) (65 + 64 * length accepted) (fold (rules any) first accepted)

append_all : {A : Type 0} (P : A → Type 0) (xs : List A) (x : A) → AllByRecursion P xs → P x → AllByRecursion P (xs ++ x ∷ [])
append_all P [] x a h = (h, tt)
append_all P (y ∷ xs) x a h = (a.0, append_all P xs x a.1 h)

acts_before : (sheet : Sheet) (seats : ℕ) (later earlier : List Accepted) → AreActs sheet seats (later ++ earlier) → AreActs sheet seats earlier
acts_before sheet seats [] earlier h = h
acts_before sheet seats (a ∷ later) earlier h = acts_before sheet seats later earlier h.2

logged_before : (sheet : Sheet) (later earlier : List Accepted) → MayBeLogged sheet (later ++ earlier) → MayBeLogged sheet earlier
logged_before sheet [] earlier h = h
logged_before sheet (a ∷ later) earlier h = logged_before sheet later earlier h.1

few_before : (later earlier : List Accepted) → length earlier ≤ length (later ++ earlier)
few_before [] earlier = omega arith
few_before (a ∷ later) earlier = let h : length earlier ≤ length (later ++ earlier) = few_before later earlier in omega arith

module _ {X G : Type 0} (rules : X → Rules G) (room : ℕ) (lawful : (game : X) → Lawful (rules game)) (stays : StaysSound rules) where
  -- the match as it was once these actions were accepted
  record Was (m : Match X G) (accepted : List Accepted) : Type 0 where
    pub acts : AreActs (rules m.game).sheet m.seats accepted
    pub logged : MayBeLogged (rules m.game).sheet accepted
    pub few : length accepted ≤ 4096

  was : (m : Match X G) → IsGrounded rules room m → (later earlier : List Accepted) → m.accepted ≡ later ++ earlier → Was m earlier
  was m g later earlier e = record {
    acts = acts_before (rules m.game).sheet m.seats later earlier (subst (AreActs (rules m.game).sheet m.seats) e g.acts);
    logged = logged_before (rules m.game).sheet later earlier (subst (MayBeLogged (rules m.game).sheet) e g.logged);
    few = let h : length earlier ≤ length (later ++ earlier) = few_before later earlier in
        let k : length (later ++ earlier) ≤ 4096 = subst (λ (l : List Accepted). length l ≤ 4096) e g.few in
        omega arith;
  }

  one_before : (m : Match X G) (a : Accepted) (accepted : List Accepted) → Was m (a ∷ accepted) → Was m accepted
  one_before m a accepted w = record { acts = w.acts.2; logged = w.logged.1; few = omega (arith, w.few) }

  pub good : (m : Match X G) → IsGrounded rules room m → (accepted : List Accepted) → AreActs (rules m.game).sheet m.seats accepted
      → IsGood (rules m.game) m.seats (length accepted) (65 + 64 * length accepted) (fold (rules m.game) m.first accepted)
  good m g accepted acts = stays m.game m.seats m.seed m.first accepted g.least g.most g.begun acts

  entry_shown : (m : Match X G) (g : IsGrounded rules room m) (a : Accepted) (accepted : List Accepted) → Was m (a ∷ accepted)
      → MayBeShown (rules m.game).sheet (entry_of (fold (rules m.game) m.first accepted) (fold (rules m.game) m.first (a ∷ accepted)) (length accepted) a)
  entry_shown m g a accepted w =
      let before : IsGood (rules m.game) m.seats (length accepted) (65 + 64 * length accepted) (fold (rules m.game) m.first accepted) = good m g accepted w.acts.2 in
      record {
        seat = omega (arith, w.acts.0, g.most, ((lawful m.game).fits).most);
        act = w.logged.0;
        number = omega (arith, w.few);
        turn = omega (arith, before.turns, w.few);
        phase = is_in (length (rules m.game).sheet.phases) (fold (rules m.game) m.first accepted).ctx.phase before.sound.phase;
      }

  log_shown : (m : Match X G) (g : IsGrounded rules room m) (accepted : List Accepted) → Was m accepted → AllByRecursion (MayBeShown (rules m.game).sheet) (log_from (rules m.game) m.first accepted)
  log_shown m g [] w = tt
  log_shown m g (a ∷ accepted) w =
      append_all (MayBeShown (rules m.game).sheet) (log_from (rules m.game) m.first accepted)
      (entry_of (fold (rules m.game) m.first accepted) (fold (rules m.game) m.first (a ∷ accepted)) (length accepted) a)
      (log_shown m g accepted (one_before m a accepted w)) (entry_shown m g a accepted w)

  ctx_plain : (m : Match X G) (g : IsGrounded rules room m) (accepted : List Accepted) → Was m accepted → IsPlainCtx (rules m.game).sheet (fold (rules m.game) m.first accepted).ctx
  ctx_plain m g accepted w =
      let now : IsGood (rules m.game) m.seats (length accepted) (65 + 64 * length accepted) (fold (rules m.game) m.first accepted) = good m g accepted w.acts in
      plain_ctx (rules m.game).sheet (lawful m.game).fits (length accepted) (fold (rules m.game) m.first accepted).ctx (fold (rules m.game) m.first accepted).active w.few now.sound now.turns now.over

  pub view_plain : (m : Match X G) → IsGrounded rules room m → (later earlier : List Accepted) → m.accepted ≡ later ++ earlier → (seat : Option ℕ)
      → IsPlain (rules m.game) (view_at (rules m.game) m.first seat earlier)
  view_plain m g later earlier e seat =
      let w : Was m earlier = was m g later earlier e in
      let now : Reached G = fold (rules m.game) m.first earlier in
      seen_plain (rules m.game) (rules m.game).sheet (length earlier) now.ctx now.ctx now.g ((rules m.game).view now.g now.ctx seat)
      (log_from (rules m.game) m.first earlier) (map (redact (rules m.game).sheet seat) (log_from (rules m.game) m.first earlier)) seat (lawful m.game) refl (omega (arith, w.few)) refl refl refl
      (good m g earlier w.acts).own (ctx_plain m g earlier w) (log_shown m g earlier w)

  pub view_read : (m : Match X G) → IsGrounded rules room m → (later earlier : List Accepted) → m.accepted ≡ later ++ earlier → (seat : Option ℕ)
      → CanBeRead (rules m.game) (view_at (rules m.game) m.first seat earlier)
  view_read m g later earlier e seat =
      let plain : IsPlain (rules m.game) (view_at (rules m.game) m.first seat earlier) = view_plain m g later earlier e seat in
      record { plain = plain; read = snapshot_again (rules m.game) (view_at (rules m.game) m.first seat earlier) (lawful m.game).fits (lawful m.game) plain }
