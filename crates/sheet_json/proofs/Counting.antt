-- The arguments of a list of values, counted and read one by one.
use Rattle.std.proofs.Common.{◌≡◌, ℕ, zero, suc, ◌<◌, ◌≤◌, List, [], ◌∷◌, ◌++◌, length, drop, Some, None, option_map, refl, ap, ◌∙◌, arith}
use Rattle.std.proofs.lemmas.Bool.{le-leb, lt-leb}
use Rattle.std.proofs.lemmas.List.{append-nil}
use Rattle.serde_json.specs.View.{items_view}
use Rattle.serde_json.specs.declared.value.Value.{Value}
use Rattle.serde_json.proofs.Views.{items_len-items_view}
use Rattle.game_sheet.specs.declared.args.Arg.{Arg}
use Rattle.sheet_json.specs.Arguments.{argument_in, arguments_in}
use Rattle.json_tree.specs.Fields.{read_each}

pub too_many : (vs : List Value) → 8 < length vs → arguments_in (items_view vs) ≡ None
too_many vs h = rw (items_len-items_view vs, lt-leb (length vs) 8 h) refl

past : (vs : List Value) (n : ℕ) → length vs ≤ n → drop n vs ≡ []
past [] zero h = refl
past [] (suc n) h = refl
past (v ∷ vs) zero h = absurd (omega arith)
past (v ∷ vs) (suc n) h = past vs n (omega arith)

pub all_read : (vs : List Value) (args : List Arg) (n : ℕ) → length vs ≤ 8 → length vs ≤ n
    → read_each argument_in (items_view vs) ≡ option_map (λ rest. args ++ rest) (read_each argument_in (items_view (drop n vs))) → arguments_in (items_view vs) ≡ Some args
all_read vs args n few done h = rw (items_len-items_view vs, le-leb (length vs) 8 few) (h ∙ rw (past vs n done) (ap Some (append-nil args)))
