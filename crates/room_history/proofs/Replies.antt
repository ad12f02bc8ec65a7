-- A session's own submission is answered by what it sees, what it did and what the game said; so alike sessions are answered alike.
use Rattle.std.proofs.Common.{◌≡◌, ℕ, true, false, List, Option, Some, None, refl, sym, ap, ◌∙◌, subst, arith}
use Rattle.game_trait.specs.Rules.{Rules}
use Rattle.reducer.specs.Accepted.{Accepted as Deed}
use Rattle.wire_json.specs.declared.reason.Reason.{Reason}
use Rattle.wire_json.specs.declared.verdict.Verdict.TheVariants as verdict
use Rattle.room_history.specs.Alike.{AreAlike}
use Rattle.room_history.specs.Judgment.{present_snapshot, verdict_by, verdict_in}
use Rattle.room_history.specs.Match.{Match, number_of}
use Rattle.room_history.specs.Piece.{Closed, Ended, Open, State}
use Rattle.room_history.specs.Reply.{fate_in, game_answer, submit_reply}
use Rattle.room_history.specs.Session.{Session, number_in, session_state}
use Rattle.room_history.proofs.Names.{fate_by, answer_by, take_reply}
use Rattle.room_history.specs.Stream.{public_reason_on}
use Rattle.room_history.specs.Verdict.{game_reason, match_accepting, public_reason}
use Rattle.game_sheet.specs.Viewer.{Viewer}
use Rattle.room_history.specs.declared.reply.RoomReply.TheVariants as reply
use Rattle.wire_json.specs.declared.submission.Submission.{Submission}
use Rattle.room_history.proofs.Growth.{accept_grows}
use Rattle.room_history.proofs.Growth.{grown}
use Rattle.room_history.proofs.Keeps.{Fits, Head}
use Rattle.room_history.proofs.Isolation.{public_found, same_streams}
use Rattle.room_history.specs.Course.{IsOpen}
use Rattle.std.specs.Option.{option_or, option_map_or}
use Rattle.room_history.specs.Item.{Unasked}

no_both : false ≡ true → ⊥
no_both h = cc

module _ {X G : Type 0} (rules : X → Rules G) (room : ℕ) where
  said_by : (m : Match X G) (viewer : Viewer) (sub : Submission) (p g : Option Reason) → public_reason rules room m viewer sub ≡ p → game_reason rules m viewer sub ≡ g
      → submit_reply (fate_by rules room m viewer sub (option_or p g)) ≡ verdict_by (number_of m) p (option_map_or (λ reason. Unasked) p (answer_by g))
  said_by m viewer sub (Some r) g pe ge = refl
  said_by m viewer sub None (Some r) pe ge = refl
  said_by m viewer sub None None pe ge =
      let grows : (a : Deed) × (match_accepting rules m viewer sub ≡ grown m a) = accept_grows rules room m viewer sub (rw (pe, ge) refl) in
      ap (λ n. reply.Verdict (verdict.Ok (number_of n))) grows.1 ∙ ap (λ n. reply.Verdict (verdict.Ok n)) (omega arith)

  -- the reply to a session's own submission
  pub submission_answered : (st : Option (Match X G)) (c : Session) (before : List Session) → Head rules room st c before → (sub : Submission)
      → submit_reply (fate_in rules room st (session_state c) c.viewer sub) ≡ verdict_in (session_state c) (number_in c.sight) (public_reason_on c.name c.sheet c.viewer (present_snapshot c) sub) (game_answer rules room st (session_state c) c.viewer sub)
  submission_answered st c before k sub = by st (session_state c) refl k
    where
      by : (st : Option (Match X G)) (state : State) → session_state c ≡ state → Head rules room st c before
          → submit_reply (fate_in rules room st state c.viewer sub) ≡ verdict_in state (number_in c.sight) (public_reason_on c.name c.sheet c.viewer (present_snapshot c) sub) (game_answer rules room st state c.viewer sub)
      by (Some m) Open e k =
          let f : Fits rules room m c = k.fits (k.good.goes_on (subst IsOpen (sym e) tt)) in
          rw (public_found rules room m c f sub, f.top) (said_by m c.viewer sub (public_reason rules room m c.viewer sub) (game_reason rules m c.viewer sub) refl refl)
      by (Some m) (Ended why) e k = refl
      by (Some m) Closed e k = refl
      by None Open e k = absurd (no_both (sym k.fits ∙ k.good.goes_on (subst IsOpen (sym e) tt)))
      by None (Ended why) e k = refl
      by None Closed e k = refl

pub same_state : (s t : Session) → AreAlike s t → session_state s ≡ session_state t
same_state s t a = rw (same_streams s t a.see a.own, a.own) refl

pub alike_takes : (s t : Session) → AreAlike s t → take_reply s ≡ take_reply t
alike_takes s t a = rw (same_streams s t a.see a.own, a.own) refl
