-- A lifted game keeps the laws of games where the game does.
use Rattle.std.specs.Prelude.{◌≡◌, ◌<◌, ℕ, false, IsTrue, List, [], length, option_map, Option, Some, None, IfSome, IsSome, refl}
use Rattle.std.specs.List.{AllByRecursion}
use Rattle.std.proofs.Common.{ap, subst, sym, ◌∙◌}
use Rattle.std.proofs.lemmas.Bool.{false≢true}
use Rattle.any_game.specs.Lifted.{lifted, lifted_deed}
use Rattle.any_game.specs.Values.{any_value}
use Rattle.any_game.specs.declared.any_g.AnyG.{AnyG}
use Rattle.game_sheet.specs.declared.act.Outcome.{Outcome}
use Rattle.game_sheet.specs.declared.args.Arg.{Arg}
use Rattle.game_sheet.specs.declared.ctx.Ctx.{Ctx}
use Rattle.game_trait.specs.Deed.{Deed, Done, GaveUp, Invalid, Lack}
use Rattle.game_trait.specs.InSheet.{OutcomeFits}
use Rattle.game_trait.specs.Lawful.{GivesOwn, Lawful}
use Rattle.game_trait.specs.Offers.{may_be_offered}
use Rattle.game_trait.specs.Rules.{Rules}
use Rattle.json_tree.specs.Canonical.{IsCanonical}
use Rattle.json_tree.specs.Writable.{IsWritable}
use Rattle.serde_json.specs.Data.{Data}
use Rattle.serde_json.specs.Find.{as_object}
use Rattle.std.specs.Option.{option_map_or}

module _ {G : Type 0} (inject : G → AnyG) (project : AnyG → Option G) (finds : (own : G) → project (inject own) ≡ Some own) (tells : (g : AnyG) → IfSome (project g) (λ own. g ≡ inject own)) (rules : Rules G) (laws : Lawful rules) where
  abbrev IsOwn : Option G → Type 0
  IsOwn own = IsTrue (option_map_or rules.own own false)

  abbrev any_own : AnyG → Type 0
  any_own g = IsOwn (project g)

  injected_own : (own : G) → IsTrue (rules.own own) → any_own (inject own)
  injected_own own is = ap (λ o. option_map_or rules.own o false) (finds own) ∙ is

  deed_own : {E : Type 0} (deed : Deed G E) → GivesOwn rules.own deed → GivesOwn (λ g. option_map_or rules.own (project g) false) (lifted_deed inject deed)
  deed_own (Done own words queued) is = injected_own own is
  deed_own (GaveUp why) is = tt

  own_deed : {E : Type 0} (own : Option G) (otherwise : Deed AnyG E) (go : G → Deed G E) → IsOwn own → ((g : G) → IsTrue (rules.own g) → GivesOwn rules.own (go g)) → GivesOwn (λ g. option_map_or rules.own (project g) false) (option_map_or (λ g. lifted_deed inject (go g)) own otherwise)
  own_deed None otherwise go is each = absurd (false≢true is)
  own_deed (Some g) otherwise go is each = deed_own (go g) (each g is)

  abbrev seen : Ctx → Option ℕ → AnyG → Option G → AnyG
  seen ctx viewer g own = option_map_or (λ h. inject (rules.view h ctx viewer)) own g

  seen_own : (g : AnyG) (ctx : Ctx) (viewer : Option ℕ) (own : Option G) → IsOwn own → any_own (seen ctx viewer g own)
  seen_own g ctx viewer None is = absurd (false≢true is)
  seen_own g ctx viewer (Some own) is = injected_own (rules.view own ctx viewer) (laws.view own ctx viewer is)

  seen_again : (g : AnyG) (ctx : Ctx) (viewer : Option ℕ) (own : Option G) → IsOwn own → seen ctx viewer (seen ctx viewer g own) (project (seen ctx viewer g own)) ≡ seen ctx viewer g own
  seen_again g ctx viewer None is = absurd (false≢true is)
  seen_again g ctx viewer (Some own) is =
      ap (seen ctx viewer (inject (rules.view own ctx viewer))) (finds (rules.view own ctx viewer)) ∙ ap inject (laws.view_again own ctx viewer is)

  of_value : (g : AnyG) (P : Data → Type 0) (own : Option G) → ((h : G) → IsTrue (rules.own h) → P (rules.value h)) → IsOwn own → P (option_map_or rules.value own (any_value g))
  of_value g P None each is = absurd (false≢true is)
  of_value g P (Some own) each is = each own is

  again : (g : AnyG) (own : Option G) → IfSome own (λ h. g ≡ inject h) → IsOwn own → option_map inject (rules.read (option_map_or rules.value own (any_value g))) ≡ Some g
  again g None same is = absurd (false≢true is)
  again g (Some own) same is = ap (option_map inject) (laws.reads_back own is) ∙ ap Some (sym same)

  -- what was read is own, and is all of what it was read from
  abbrev IsReadFrom : Data → AnyG → Type 0
  IsReadFrom v g = any_own g × (IsCanonical v → option_map_or rules.value (project g) (any_value g) ≡ v)

  injected_read : (v : Data) (own : Option G) → rules.read v ≡ own → IfSome (option_map inject own) (IsReadFrom v)
  injected_read v None is = tt
  injected_read v (Some own) is = (
    injected_own own (laws.read_own v own is),
    λ c. ap (λ o. option_map_or rules.value o (any_value (inject own))) (finds own) ∙ laws.read_only v own c is,
  )

  read_from : (v : Data) (g : AnyG) → option_map inject (rules.read v) ≡ Some g → IsReadFrom v g
  read_from v g is = subst (λ o. IfSome o (IsReadFrom v)) is (injected_read v (rules.read v) refl)

  known : (ctx : Ctx) (seat : ℕ) (own : Option G) → AllByRecursion (λ (offer : ℕ × List Arg). offer.0 < length rules.sheet.moves) (option_map_or (λ h. rules.options h ctx seat) own [])
  known ctx seat None = tt
  known ctx seat (Some own) = laws.offers_known own ctx seat

  none_offered : (ctx : Ctx) (seat : ℕ) (own : Option G) → may_be_offered ctx seat ≡ false → option_map_or (λ h. rules.options h ctx seat) own [] ≡ []
  none_offered ctx seat None none = refl
  none_offered ctx seat (Some own) none = laws.offers_none own ctx seat none

  ended : (ctx : Ctx) (outcome : Outcome) (own : Option G) → IsOwn own → option_map_or (λ h. rules.end_if h ctx) own None ≡ Some outcome → OutcomeFits outcome
  ended ctx outcome None is ends = absurd (false≢true is)
  ended ctx outcome (Some own) is ends = laws.ends own ctx outcome is ends

  pub lifted_lawful : Lawful (lifted inject project rules)
  lifted_lawful = record {
    fits = laws.fits;
    setup = λ seats words least most. deed_own (rules.setup seats words) (laws.setup seats words least most);
    play = λ g ctx seat id args words is. own_deed (project g) (GaveUp Invalid) (λ own. rules.play own ctx seat id args words) is (λ own. laws.play own ctx seat id args words);
    on_move = λ g ctx seat words is. own_deed {E = Lack} (project g) (Done g words []) (λ own. rules.on_move own ctx seat words) is (λ own. laws.on_move own ctx seat words);
    turn_begin = λ g ctx words is. own_deed {E = Lack} (project g) (Done g words []) (λ own. rules.turn_begin own ctx words) is (λ own. laws.turn_begin own ctx words);
    turn_end = λ g ctx words is. own_deed {E = Lack} (project g) (Done g words []) (λ own. rules.turn_end own ctx words) is (λ own. laws.turn_end own ctx words);
    phase_begin = λ g ctx phase words is. own_deed {E = Lack} (project g) (Done g words []) (λ own. rules.phase_begin own ctx phase words) is (λ own. laws.phase_begin own ctx phase words);
    phase_end = λ g ctx phase words is. own_deed {E = Lack} (project g) (Done g words []) (λ own. rules.phase_end own ctx phase words) is (λ own. laws.phase_end own ctx phase words);
    game_end = λ g ctx words is. own_deed {E = Lack} (project g) (Done g words []) (λ own. rules.game_end own ctx words) is (λ own. laws.game_end own ctx words);
    view = λ g ctx viewer is. seen_own g ctx viewer (project g) is;
    view_again = λ g ctx viewer is. seen_again g ctx viewer (project g) is;
    written_object = λ g is. of_value g (λ v. IsSome (as_object v)) (project g) laws.written_object is;
    written = λ g is. of_value g IsWritable (project g) laws.written is;
    reads_back = λ g is. again g (project g) (tells g) is;
    read_own = λ v g is. (read_from v g is).0;
    read_only = λ v g canonical is. (read_from v g is).1 canonical;
    ends = λ g ctx outcome is. ended ctx outcome (project g) is;
    offers_known = λ g ctx seat. known ctx seat (project g);
    offers_none = λ g ctx seat none. none_offered ctx seat (project g) none;
  }
