-- The lines of rows: how the line of a list grows by a row, and the line of one row.
use Rattle.std.proofs.Common.{◌≡◌, ◌≤◌, ◌==◌, ℕ, suc, ◌+◌, ◌-◌, Bool, true, false, List, [], ◌∷◌, ◌++◌, length, take, codes, refl, sym, ap, ◌∙◌, append_assoc, append-nil, length-append, arith}
use Rattle.std.specs.Prelude.{not}
use Rattle.std.proofs.lemmas.Bool.Decides.{nat_tests}
use Rattle.std.proofs.Math.Seq.{take-append_seam}
use Rattle.json.specs.Print.{escape_byte}
use Rattle.serde_json.specs.Data.{Data, Items, array, object, member}
use Rattle.serde_json.specs.Written.{comma_if, compact_text, items_text}
use Rattle.wire_json.specs.declared.match_row.MatchRow.{MatchRow}
use Rattle.wire_json.specs.RowText.{row_data, rows_data}
use Rattle.wire_json.specs.ServerText.{text}
use Rattle.wire_json.specs.declared.server.ServerMsg.TheVariants as message
use Rattle.game_hall.specs.RowLines.{ending}
use Rattle.wire_json.specs.ClientText.{of_type}

-- the rows with their commas, without brackets
abbrev pub body : Bool → List MatchRow → List ℕ
body later [] = []
body later (row ∷ rows) = comma_if later ++ (compact_text (row_data row) ++ body true rows)

closed : (later : Bool) (rows : List MatchRow) → items_text later (rows_data rows) ≡ body later rows ++ 93 ∷ []
closed later [] = refl
closed later (row ∷ rows) =
    ap (λ x. comma_if later ++ (compact_text (row_data row) ++ x)) (closed true rows)
    ∙ sym (append_assoc (comma_if later) (compact_text (row_data row) ++ body true rows) (93 ∷ []) ∙ ap (λ x. comma_if later ++ x) (append_assoc (compact_text (row_data row)) (body true rows) (93 ∷ [])))

listed : (ds : Items) → codes "{\"matches\":[" ++ ((items_text false ds ++ codes ",\"type\":\"matches\"}") ++ 10 ∷ [])
    ≡ compact_text (object (member (codes "matches") (array ds) (of_type (codes "matches")))) ++ 10 ∷ []
unfolding escape_byte
listed ds = refl

pub rows_text : (rows : List MatchRow) → codes "{\"matches\":[" ++ (body false rows ++ ending) ≡ text (message.Matches rows)
unfolding text
rows_text rows =
    ap (λ x. codes "{\"matches\":[" ++ x) (sym
    (ap (λ x. (x ++ codes ",\"type\":\"matches\"}") ++ 10 ∷ []) (closed false rows)
    ∙ append_assoc (body false rows ++ 93 ∷ []) (codes ",\"type\":\"matches\"}") (10 ∷ [])
    ∙ append_assoc (body false rows) (93 ∷ []) (codes ",\"type\":\"matches\"}" ++ 10 ∷ [])))
    ∙ listed (rows_data rows)

more_after : (rows : List MatchRow) (row : MatchRow) → body true (rows ++ row ∷ []) ≡ body true rows ++ 44 ∷ compact_text (row_data row)
more_after [] row = ap (λ x. 44 ∷ x) (append-nil (compact_text (row_data row)))
more_after (first ∷ rows) row =
    ap (λ x. 44 ∷ (compact_text (row_data first) ++ x)) (more_after rows row)
    ∙ ap (λ x. 44 ∷ x) (sym (append_assoc (compact_text (row_data first)) (body true rows) (44 ∷ compact_text (row_data row))))

some_items : (n : ℕ) → (suc n == 0) ≡ false
some_items n = grind (arith, nat_tests)

more : (rows : List MatchRow) (row : MatchRow) → body false (rows ++ row ∷ []) ≡ body false rows ++ (comma_if (not (length rows == 0)) ++ compact_text (row_data row))
more [] row = append-nil (compact_text (row_data row))
more (first ∷ rows) row =
    ap (λ x. compact_text (row_data first) ++ x) (more_after rows row) ∙ sym (append_assoc (compact_text (row_data first)) (body true rows) (44 ∷ compact_text (row_data row)))
    ∙ ap (λ b. body false (first ∷ rows) ++ (comma_if (not b) ++ compact_text (row_data row))) (sym (some_items (length rows)))

cut : (front : List ℕ) → take (length (front ++ ending) - 20) (front ++ ending) ≡ front
cut front =
    let short : length (front ++ ending) - 20 ≡ length front = omega (arith, length-append front ending) in
    ap (λ n. take n (front ++ ending)) short ∙ take-append_seam front ending

-- the line of no row
pub none_text : (rows : List MatchRow) → rows ≡ [] → codes "{\"matches\":[" ++ ending ≡ text (message.Matches rows)
none_text rows e = rows_text [] ∙ ap (λ x. text (message.Matches x)) (sym e)

-- there is room for the end of a line
pub is_long : (rows : List MatchRow) (line : List ℕ) → line ≡ text (message.Matches rows) → 20 ≤ length line
is_long rows line e =
    let front : List ℕ = codes "{\"matches\":[" ++ body false rows in
    let long : length line ≡ length front + 20 = ap length (e ∙ sym (rows_text rows)) ∙ length-append front ending in
    omega (arith, long)

-- the line of one row more
pub grown : (rows : List MatchRow) (row : MatchRow) (line : List ℕ) → line ≡ text (message.Matches rows)
    → take (length line - 20) line ++ comma_if (not (length rows == 0)) ++ compact_text (row_data row) ++ ending ≡ text (message.Matches (rows ++ row ∷ []))
grown rows row line e =
    ap (λ x. x ++ comma_if (not (length rows == 0)) ++ compact_text (row_data row) ++ ending) (ap (λ l. take (length l - 20) l) (e ∙ sym (rows_text rows)) ∙ cut front)
    ∙ ap (λ x. x ++ ending) (append_assoc front (comma_if (not (length rows == 0))) (compact_text (row_data row)))
    ∙ ap (λ x. codes "{\"matches\":[" ++ (x ++ ending)) (sym (more rows row))
    ∙ rows_text (rows ++ row ∷ [])
  where
    front : List ℕ
    front = codes "{\"matches\":[" ++ body false rows

shown : (d : Data) → codes "{\"row\":" ++ compact_text d ++ codes ",\"type\":\"match\"}\n" ≡ compact_text (object (member (codes "row") d (of_type (codes "match")))) ++ 10 ∷ []
unfolding escape_byte
shown d = ap (λ x. codes "{\"row\":" ++ x) (sym (append_assoc (compact_text d) (codes ",\"type\":\"match\"}") (10 ∷ [])))

-- the line of one row
pub row_text : (row : MatchRow) → codes "{\"row\":" ++ compact_text (row_data row) ++ codes ",\"type\":\"match\"}\n" ≡ text (message.Match row)
unfolding text
row_text row = shown (row_data row)
