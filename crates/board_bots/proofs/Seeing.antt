-- What a bot has seen stays shown by more lines; and one more glance, of what is settled by all of them.
use Rattle.std.proofs.Common.{◌≡◌, ◌≤◌, ◌++◌, ℕ, List, [], ◌∷◌, length, true, Option, Some, arith, refl, sym, ap, subst, ◌∙◌, append_assoc, length-append}
use Rattle.std.specs.Prelude.{reverse}
use Rattle.std.proofs.lemmas.Grind.{reverse_onto}
use Rattle.std.proofs.lemmas.List.{take-append-le, take_all}
use Rattle.any_game.specs.declared.any_g.AnyG.{AnyG}
use Rattle.client_predict.specs.Following.{followed}
use Rattle.game_trait.specs.Rules.{Rules}
use Rattle.player_sight.specs.declared.shown.Snapshot.{Snapshot}
use Rattle.bot_sitter.specs.Seen.{settled_of}
use Rattle.bot_sitter.specs.Sitting.{is_above}
use Rattle.board_bots.specs.Glances.{glance_of}
use Rattle.board_bots.specs.Sight.{Sees, ShownBy, settled_at}
use Rattle.board_bots.specs.declared.glance.Glance.{Glance}

module _ (rules : Rules AnyG) where
  keeps : (lines more : List (List ℕ)) (k : ℕ) → k ≤ length lines → settled_at rules (lines ++ more) k ≡ settled_at rules lines k
  keeps lines more k low = ap (λ ls. settled_of (followed rules ls).playing) (take-append-le k lines more low)

  longer : (lines more : List (List ℕ)) (k m : ℕ) (shown : List Glance) → k ≤ length lines → k ≤ m → ShownBy rules lines k shown → ShownBy rules (lines ++ more) m shown
  longer lines more k m [] low up h = tt
  longer lines more k m (glance ∷ earlier) low up h =
      (h.0, omega arith, (h.2.0, keeps lines more h.0 (omega arith) ∙ h.2.1, h.2.2), h.3, longer lines more h.0 h.0 earlier (omega arith) (omega arith) h.4)

  pub sees_on : (opening : List Glance) (lines more all : List (List ℕ)) (last : Option ℕ) (seen : List Glance) → all ≡ lines ++ more
      → Sees rules opening lines last seen → Sees rules opening all last seen
  sees_on opening lines more all last seen e h =
      subst (λ ls. Sees rules opening ls last seen) (sym e)
      (record {
        shown = h.shown;
        seen_is = h.seen_is;
        last_is = h.last_is;
        by_lines = longer lines more (length lines) (length (lines ++ more)) h.shown (omega arith) (omega (arith, length-append lines more)) h.by_lines;
      })

  pub sees_one : (opening : List Glance) (lines : List (List ℕ)) (last : Option ℕ) (seen after : List Glance) (s : Snapshot AnyG)
      → settled_of (followed rules lines).playing ≡ Some s → is_above last s.number ≡ true → after ≡ seen ++ glance_of s ∷ []
      → Sees rules opening lines last seen → Sees rules opening lines (Some s.number) after
  sees_one opening lines last seen after s e above a h =
      let whole : settled_at rules lines (length lines) ≡ Some s = ap (λ ls. settled_of (followed rules ls).playing) (take_all (length lines) lines (omega arith)) ∙ e in
      record {
        shown = glance_of s ∷ h.shown;
        seen_is = a ∙ ap (λ l. l ++ glance_of s ∷ []) h.seen_is ∙ append_assoc opening (reverse h.shown) (glance_of s ∷ []) ∙ ap (λ l. opening ++ l) (sym (reverse_onto h.shown (glance_of s) []));
        last_is = refl;
        by_lines = (length lines, omega arith, (s, whole, refl), subst (λ l. is_above l s.number ≡ true) h.last_is above, h.by_lines);
      }
