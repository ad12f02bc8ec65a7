-- What was sent of a Take and its bye line, where sends may fail.
use Rattle.std.proofs.Common.{◌≡◌, ℕ, ◌+◌, ◌++◌, List, [], length, take, Option, Some, None, refl, sym, ap, ◌∙◌, subst, append_assoc, inl, inr}
use Rattle.std.specs.Prelude.{IsSome}
use Rattle.std.specs.List.{concat}
use Rattle.std.proofs.lemmas.List.{append-nil}
use Rattle.std.proofs.Math.Seq.{take-append-add}
use Rattle.board_links.specs.Answers.{AreLines}
use Rattle.board_links.specs.ByeLine.{bye_line}
use Rattle.board_links.specs.Pieces.{told_bytes}
use Rattle.board_links.specs.declared.link.SessionEnd.{SessionEnd}
use Rattle.board_links.specs.declared.link.SessionEnd.TheVariants as end
use Rattle.game_sheet.specs.declared.act.Bye.{Bye}
use Rattle.game_sheet.specs.declared.act.Bye.TheVariants as bye
use Rattle.room_history.specs.Session.{bye_lines}
use Rattle.serde_json.specs.Data.{object}
use Rattle.serde_json.specs.Written.{compact_text}
use Rattle.wire_json.proofs.PlainWords.{left_text, lagging_text}
use Rattle.wire_json.specs.ServerText.{server_members, text}
use Rattle.wire_json.specs.declared.server.ServerMsg.TheVariants as message
use Rattle.session_pool.specs.Lines.{IsSendEnd, SentAs}
use Rattle.session_pool.specs.Turn.{Hands}
use Rattle.session_pool.proofs.Lines.{first_part}

-- ---- the bye line, which rooms, the wire and links each know

pub handed_bye : (why : Bye) → concat (bye_lines (Some why)) ≡ text (message.Bye why)
handed_bye why = append-nil (text (message.Bye why))

pub bye_known : (why : Bye) → text (message.Bye why) ≡ bye_line why
bye_known bye.Left = sym left_text
bye_known bye.Lagging = sym lagging_text

pub bye_is_line : (why : Bye) → AreLines (text (message.Bye why))
unfolding text
bye_is_line why = (compact_text (object (server_members (message.Bye why))), refl)

-- ---- the bye line alone

pub bye_done : (why : Bye) (bytes sent : List ℕ) (after : Option (List ℕ)) → bytes ≡ text (message.Bye why) → after ≡ Some (sent ++ bytes) → Hands [] (Some why) sent (Some (end.Bye why)) after
bye_done why bytes sent after is h = inl (refl, h ∙ ap (λ b. Some (sent ++ b)) (is ∙ sym (handed_bye why)))

pub bye_stopped : (why : Bye) (bytes sent : List ℕ) (w : SessionEnd) (after : Option (List ℕ)) → bytes ≡ text (message.Bye why) → IsSendEnd (Some w) → SentAs (Some w) bytes sent after
    → Hands [] (Some why) sent (Some w) after
bye_stopped why bytes sent w after is ends part = inr (w, refl, ends, (part.0, part.1 ∙ ap (λ b. Some (sent ++ take part.0 b)) (is ∙ sym (handed_bye why))))

-- ---- a Take's bytes, and then the bye line

pub stopped : (over : Option Bye) (bytes sent : List ℕ) (w : SessionEnd) (after : Option (List ℕ)) → IsSendEnd (Some w) → SentAs (Some w) bytes sent after → Hands bytes over sent (Some w) after
stopped None bytes sent w after ends part = (ends, part)
stopped (Some why) bytes sent w after ends part =
    let m = first_part part.0 bytes (concat (bye_lines (Some why))) in
    inr (w, refl, ends, (m.0, part.1 ∙ ap (λ t. Some (sent ++ t)) m.1))

closed_later : (why : Bye) (bytes sent : List ℕ) (w : SessionEnd) (after : Option (List ℕ)) → Hands [] (Some why) (sent ++ bytes) (Some w) after → Hands bytes (Some why) sent (Some w) after
closed_later why bytes sent w after (inl h) = inl (h.0, h.1 ∙ ap (λ t. Some t) (append_assoc sent bytes (concat (bye_lines (Some why)))))
closed_later why bytes sent w after (inr (x, is, ends, part)) =
    inr (
      x,
      is,
      ends,
      (
        length bytes + part.0,
        part.1 ∙ ap (λ t. Some t) (append_assoc sent bytes (take part.0 (concat (bye_lines (Some why)))) ∙ ap (λ t. sent ++ t) (sym (take-append-add bytes (concat (bye_lines (Some why))) part.0))),
      ),
    )

pub handed_later : (over : Option Bye) (why : Bye) (bytes sent : List ℕ) (mid after : Option (List ℕ)) (w : SessionEnd) → over ≡ Some why → mid ≡ Some (sent ++ bytes)
    → (IsSome mid → Hands [] (Some why) (told_bytes mid) (Some w) after) → Hands bytes over sent (Some w) after
handed_later over why bytes sent mid after w is_over is_mid tells =
    let one : Hands [] (Some why) (sent ++ bytes) (Some w) after = subst (λ m. IsSome m → Hands [] (Some why) (told_bytes m) (Some w) after) is_mid tells refl in
    subst (λ o. Hands bytes o sent (Some w) after) (sym is_over) (closed_later why bytes sent w after one)
