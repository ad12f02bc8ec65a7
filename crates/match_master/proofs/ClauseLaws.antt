-- The clauses of a call on a Book, by the laws of its history.
use Rattle.std.proofs.Common.{◌≡◌, ◌++◌, ◌∷◌, [], ℕ, ◌==◌, Bool, true, false, if◌then◌else◌, MatchBool, List, Option, Some, None, refl, sym, ap, ◌∙◌, subst}
use Rattle.std.specs.List.{concat}
use Rattle.game_trait.specs.Rules.{Rules}
use Rattle.room_object.specs.Entry.{Entry, entry}
use Rattle.wire_json.specs.declared.submission.Submission.{Submission}
use Rattle.wire_json.specs.declared.verdict.Verdict.{Verdict}
use Rattle.wire_json.specs.declared.verdict.Verdict.TheVariants as verdict
use Rattle.room_history.specs.Alike.{AreAlike, OwnCall, own_call}
use Rattle.room_history.specs.Does.{Room}
use Rattle.room_history.specs.Judgment.{reason_seen, verdict_in}
use Rattle.room_history.specs.Others.{KeepsOthers}
use Rattle.room_history.specs.Reply.{game_answer}
use Rattle.room_history.specs.Room.{latest_session, reply, room_of, session, standing}
use Rattle.room_history.specs.Sent.{SendsReply, is_take_of}
use Rattle.room_history.specs.Session.{Session, bytes_handed_out, number_in, session_state}
use Rattle.room_history.specs.declared.call.RoomCall.{RoomCall}
use Rattle.room_history.specs.declared.call.RoomCall.TheVariants.{Create, Join, Rename, Leave, Look, Attach, Submit, Take, Detach}
use Rattle.room_history.specs.declared.reply.RoomReply.{RoomReply}
use Rattle.room_history.specs.declared.reply.RoomReply.TheVariants as answer
use Rattle.room_history.proofs.Clauses.{are_sent_alike, are_told, are_told_alike, go_on}
use Rattle.room_history.proofs.Judging.{is_judged}
use Rattle.room_history.proofs.Others.{detach_others, take_others, tells_refusal}
use Rattle.room_history.proofs.Responses.{replied_alike}
use Rattle.room_history.proofs.Sending.{sends_reply}
use Rattle.match_master.specs.Held.{is_starved}
use Rattle.match_master.specs.Laws.{IsSentBy, JudgesBySight, LeavesOthers, TellsAlike, TellsStreams, made}
use Rattle.match_master.specs.Refusal.{Refuses}

nothing_left : {X G : Type 0} → (pass : ℕ) (r : Room X G) → KeepsOthers pass r r
nothing_left pass r = record { matches = record { serials = refl; standing = refl; removed = refl }; sessions = λ q h. refl }

module _ {X G : Type 0} (rules : X → Rules G) (room : ℕ) (h : List (Entry (RoomCall X))) (pass : ℕ) where
  module _ (call : RoomCall X) (result : RoomReply) (is : result ≡ reply rules room h (made rules room h pass call result)) where
    sent_by : (q j : ℕ) (o : Option Session) (t : Session) → SendsReply rules room h (made rules room h pass call result) q j o t → IsSentBy rules room h pass call result q j o t
    sent_by q j None t s = s
    sent_by q j (Some c) t s = s ∙ ap (λ r. concat c.sent ++ (if is_take_of rules room h (made rules room h pass call result) q j then bytes_handed_out r else [])) (sym is)

    pub tells_streams : TellsStreams rules room h pass call result
    tells_streams = record {
      goes_on = λ q j s e. go_on rules room h (made rules room h pass call result) q j s e;
      told = λ q j t e. are_told rules room (made rules room h pass call result ∷ h) q j t e;
      sent = λ q j t e. sent_by q j (session rules room h q j) t (sends_reply rules room h (made rules room h pass call result) q j t e);
    }

    replied_as : (own : OwnCall) → call ≡ own_call own → (s after : Session) → latest_session rules room h pass ≡ Some s → latest_session rules room (made rules room h pass call result ∷ h) pass ≡ Some after
        → (other : ℕ) (k : List (Entry (RoomCall X))) (p : ℕ) (t later : Session) → latest_session rules other k p ≡ Some t → latest_session rules other (entry p call (is_starved result) ∷ k) p ≡ Some later
        → AreAlike s t → after.own ≡ later.own → result ≡ reply rules other k (entry p call (is_starved result))
    replied_as own c s after l m other k p t later n o al same =
        is
        ∙ ap (λ x. reply rules room h (entry pass x (is_starved result))) c
        ∙ replied_alike rules rules room h pass s l other k p t n al own (is_starved result) after (subst (λ x. latest_session rules room (entry pass x (is_starved result) ∷ h) pass ≡ Some after) c m)
        later (subst (λ x. latest_session rules other (entry p x (is_starved result) ∷ k) p ≡ Some later) c o) same
        ∙ ap (λ x. reply rules other k (entry p x (is_starved result))) (sym c)

    pub tells_alike : TellsAlike rules room h pass call result
    tells_alike = record {
      sent = λ q j s e other k p i t f al. are_sent_alike rules rules room (made rules room h pass call result ∷ h) q j s e other k p i t f al;
      told = λ q j s e other k p i t f al. are_told_alike rules rules room (made rules room h pass call result ∷ h) q j s e other k p i t f al;
      replied = replied_as;
    }

  -- what is said of some calls alone
  pub judges_by_sight : (call : RoomCall X) (result : RoomReply) → result ≡ reply rules room h (made rules room h pass call result) → JudgesBySight rules room h pass call result call
  judges_by_sight (Submit s) result is = λ c l. by c l (is_starved result) is
    where
      by : (c : Session) → latest_session rules room h pass ≡ Some c → (b : Bool) → result ≡ reply rules room h (entry pass (Submit s) b) → MatchBool b (Unit {0}) (result ≡ verdict_in (session_state c) (number_in c.sight) (reason_seen c s) (game_answer rules room (standing rules room h) (session_state c) c.viewer s))
      by c l true e = tt
      by c l false e = e ∙ is_judged rules room h pass c l s
  judges_by_sight other result is = tt

  taken_left : (b : Bool) → KeepsOthers pass (room_of rules room h) (room_of rules room (entry pass Take b ∷ h))
  taken_left true = nothing_left pass (room_of rules room h)
  taken_left false = take_others rules room h pass

  detached_left : (b : Bool) → KeepsOthers pass (room_of rules room h) (room_of rules room (entry pass Detach b ∷ h))
  detached_left true = nothing_left pass (room_of rules room h)
  detached_left false = detach_others rules room h pass

  pub leaves_others : (call : RoomCall X) (result : RoomReply) → LeavesOthers rules room h pass call result call
  leaves_others Take result = taken_left (is_starved result)
  leaves_others Detach result = detached_left (is_starved result)
  leaves_others other result = tt

  refused_as : (s : Submission) (result : RoomReply) → result ≡ reply rules room h (made rules room h pass (Submit s) result) → Refuses rules room h pass (Submit s) result
  refused_as s (answer.Verdict (verdict.No n reason)) is = tells_refusal rules room h pass s n reason (sym is)
  refused_as s (answer.Verdict (verdict.Ok n)) is = tt
  refused_as s other is = tt

  pub refuses : (call : RoomCall X) (result : RoomReply) → result ≡ reply rules room h (made rules room h pass call result) → Refuses rules room h pass call result
  refuses (Submit s) result is = refused_as s result is
  refuses other result is = tt
