-- An accepted submission adds one action to its match.
use Rattle.std.proofs.Common.{◌≡◌, ℕ, ◌∷◌, Option, Some, None, refl}
use Rattle.game_sheet.specs.declared.act.Act.{Act}
use Rattle.game_trait.specs.Rules.{Rules}
use Rattle.reducer.specs.Accepted.{Accepted as Deed}
use Rattle.wire_json.specs.Resolve.{act_of}
use Rattle.room_history.specs.Match.{Match, number_of, table_of}
use Rattle.room_history.specs.Rule.{has_key}
use Rattle.room_history.specs.Verdict.{first_reason, game_reason, is_named, match_accepting, public_reason, with_act}
use Rattle.game_sheet.specs.Viewer.{Viewer, seat_of}
use Rattle.wire_json.specs.declared.submission.Submission.{Submission}
use Rattle.room_history.proofs.RuleLaws.{IsAdmitted, public_admits, or_none}

-- the match after one more accepted action
abbrev pub grown : {X G : Type 0} → Match X G → Deed → Match X G
grown m a = record m { accepted = a ∷ m.accepted }

module _ {X G : Type 0} (rules : X → Rules G) (room : ℕ) where
  with_deed : (m : Match X G) (c : Option ℕ) (o : Option Act) (seat : ℕ) (act : Act) → c ≡ Some seat → o ≡ Some act → with_act rules m c o ≡ grown m (record { seat = seat; act = act })
  with_deed m c o seat act p q = rw (p, q) refl

  admitted_deed : (m : Match X G) (c : Viewer) (s : Submission) → public_reason rules room m c s ≡ None → (a : Deed) × (match_accepting rules m c s ≡ grown m a)
  admitted_deed m c s h =
      let i : IsAdmitted (rules m.game).sheet (table_of rules m).ctx (number_of m) (seat_of c) s.asked
      = public_admits (rules m.game).sheet (table_of rules m).ctx (number_of m) (is_named room m.serial s.name) (seat_of c) (has_key c s.key) s.asked s.number h in
      (record { seat = i.seat; act = i.act }, with_deed m (seat_of c) (act_of (rules m.game).sheet s.asked) i.seat i.act i.viewer_is i.act_is)

  pub accept_grows : (m : Match X G) (c : Viewer) (s : Submission) → first_reason rules room m c s ≡ None → (a : Deed) × (match_accepting rules m c s ≡ grown m a)
  accept_grows m c s h = admitted_deed m c s ((or_none (public_reason rules room m c s) (game_reason rules m c s) h).0)
