-- The lines of the bytes that a Take hands out are those that waited.
use Rattle.std.proofs.Common.{◌≡◌, ℕ, true, List, [], ◌∷◌, ◌++◌, map, Some, refl, sym, ap, ◌∙◌, append-nil}
use Rattle.std.specs.List.{concat, list_all}
use Rattle.std.proofs.lemmas.List.Folds.{concat-append}
use Rattle.game_sheet.specs.Lines.{is_line, lines}
use Rattle.game_sheet.proofs.Cut.{lines_of}
use Rattle.match_master.proofs.LineLaws.{data_none, line_of_none}
use Rattle.wire_json.specs.declared.server.ServerMsg.{ServerMsg}
use Rattle.wire_json.specs.declared.server.ServerMsg.TheVariants.{Bye as Farewell}
use Rattle.wire_json.specs.ServerText.{text, server_members}
use Rattle.room_history.specs.Piece.{Piece, Line, Mark, End, State, Open, Ended, Closed, waiting_lines}
use Rattle.room_history.specs.Session.{Session, bye_lines, bytes_handed_out, handful, lines_handed_out, session_state, stream_of, take_reply_in}
use Rattle.room_history.proofs.Names.{take_reply}
use Rattle.serde_json.specs.Data.{object}
use Rattle.serde_json.specs.Written.{compact_text}

abbrev AreLines : List (List ℕ) → Type 0
AreLines [] = Unit {0}
AreLines (text ∷ texts) = (is_line text ≡ true) × AreLines texts

both_lines : (xs ys : List (List ℕ)) → AreLines xs → AreLines ys → AreLines (xs ++ ys)
both_lines [] ys h k = k
both_lines (x ∷ xs) ys h k = (h.0, both_lines xs ys h.1 k)

all_true : (xs : List (List ℕ)) → AreLines xs → list_all (λ x. is_line x) xs ≡ true
all_true [] h = refl
all_true (x ∷ xs) h = rw (h.0, all_true xs h.1) refl

same_lines : (xs : List (List ℕ)) → map (λ x. x) xs ≡ xs
same_lines [] = refl
same_lines (x ∷ xs) = ap (λ l. x ∷ l) (same_lines xs)

-- lines put together are these lines
pub lines_back : (xs : List (List ℕ)) → AreLines xs → lines (concat xs) ≡ xs
lines_back xs h = ap (λ l. lines (concat l)) (sym (same_lines xs)) ∙ lines_of (λ x. x) xs (all_true xs h) ∙ same_lines xs

message_line : (m : ServerMsg) → is_line (text m) ≡ true
unfolding text
message_line m = line_of_none (compact_text (object (server_members m))) (data_none (object (server_members m)))

waiting_are : (ps : List Piece) → AreLines (waiting_lines ps)
waiting_are [] = tt
waiting_are (Line m ∷ ps) = both_lines (waiting_lines ps) (text m ∷ []) (waiting_are ps) (message_line m, tt)
waiting_are (Mark ∷ ps) = tt
waiting_are (End why ∷ ps) = waiting_are ps

handed_are : (st : State) (ps : List Piece) → AreLines (lines_handed_out st ps)
handed_are Open ps = waiting_are ps
handed_are (Ended why) ps = both_lines (waiting_lines ps) (text (Farewell why) ∷ []) (waiting_are ps) (message_line (Farewell why), tt)
handed_are Closed ps = tt

handed_bytes : (st : State) (ps : List Piece) → bytes_handed_out (take_reply_in st ps) ≡ concat (lines_handed_out st ps)
handed_bytes Open ps = append-nil (concat (waiting_lines ps))
handed_bytes (Ended why) ps = sym (concat-append (waiting_lines ps) (bye_lines (Some why)))
handed_bytes Closed ps = refl

pub take_lines : (s : Session) → lines (bytes_handed_out (take_reply s)) ≡ handful s
take_lines s =
    ap lines (handed_bytes (session_state s) (stream_of s))
    ∙ lines_back (lines_handed_out (session_state s) (stream_of s)) (handed_are (session_state s) (stream_of s))
