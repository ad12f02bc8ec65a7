-- Bytes are their lines, one after another.
use Rattle.std.proofs.Common.{◌≡◌, ◌==◌, ◌+◌, ◌++◌, ◌≤◌, ℕ, Bool, true, false, cond, List, [], ◌∷◌, length, take, Some, refl, sym, ap, ◌∙◌, append-nil, add-one}
use Rattle.std.specs.Prelude.{slice_get}
use Rattle.std.specs.List.{concat, onto_first}
use Rattle.std.proofs.Math.Seq.{take-suc}
use Rattle.std.proofs.lemmas.List.{take_all}
use Rattle.std.proofs.lemmas.List.Folds.{concat-append}
use Rattle.std.proofs.lemmas.Option.{slice_get_within, get_or_from_slice_get}
use Rattle.game_sheet.specs.Lines.{lines}
use Rattle.game_sheet.specs.declared.act.Bye.{Bye}
use Rattle.room_history.specs.Session.{bye_lines}
use Rattle.wire_json.specs.ServerText.{text as server_text}
use Rattle.wire_json.specs.declared.server.ServerMsg.TheVariants as message

joined_first : (b : ℕ) (ls : List (List ℕ)) → concat (onto_first b ls) ≡ b ∷ concat ls
joined_first b [] = refl
joined_first b (l ∷ ls) = refl

joined_by : (t : Bool) (b : ℕ) (bytes : List ℕ) → concat (lines bytes) ≡ bytes → concat (cond t ((b ∷ []) ∷ lines bytes) (onto_first b (lines bytes))) ≡ b ∷ bytes
joined_by true b bytes h = ap (λ x. b ∷ x) h
joined_by false b bytes h = joined_first b (lines bytes) ∙ ap (λ x. b ∷ x) h

lines_joined : (bytes : List ℕ) → concat (lines bytes) ≡ bytes
lines_joined [] = refl
lines_joined (b ∷ bytes) = joined_by (b == 10) b bytes (lines_joined bytes)

-- one line more
pub line_more : (ls : List (List ℕ)) (place : ℕ) (line : List ℕ) → slice_get ls place ≡ Some line → concat (take place ls) ++ line ≡ concat (take (place + 1) ls)
line_more ls place line h =
    let more : take (place + 1) ls ≡ take place ls ++ line ∷ [] =
    ap (λ n. take n ls) (add-one place) ∙ take-suc ls place [] (slice_get_within ls place line h) ∙ ap (λ l. take place ls ++ l ∷ []) (get_or_from_slice_get ls place line [] h) in
    ap (λ l. concat (take place ls) ++ l) (sym (append-nil line)) ∙ sym (concat-append (take place ls) (line ∷ [])) ∙ ap concat (sym more)

-- all lines
pub all_joined : (bytes : List ℕ) (place : ℕ) → length (lines bytes) ≤ place → concat (take place (lines bytes)) ≡ bytes
all_joined bytes place h = ap concat (take_all place (lines bytes) h) ∙ lines_joined bytes

-- the bye line stands behind what waits
pub ended : (bytes : List ℕ) (why : Bye) → bytes ++ server_text (message.Bye why) ≡ bytes ++ concat (bye_lines (Some why))
ended bytes why = ap (λ l. bytes ++ l) (sym (append-nil (server_text (message.Bye why))))
