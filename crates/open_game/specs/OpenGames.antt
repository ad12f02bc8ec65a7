-- A game without hooks and secrets keeps the laws of games, where its states and rules keep their own.
use Rattle.std.specs.Prelude.{◌≡◌, ◌<◌, length, Some, IfSome, refl}
use Rattle.std.proofs.Common.{subst}
use Rattle.game_sheet.proofs.Fits.{fits}
use Rattle.game_trait.specs.InSheet.{OutcomeFits}
use Rattle.game_trait.specs.Lawful.{Lawful}
use Rattle.game_trait.specs.Offers.{offered_known, offered_none}
use Rattle.game_trait.specs.Queues.{KeepsToSheet}
use Rattle.open_game.specs.Form.{Form, IsReadFrom, StateLaws}
use Rattle.open_game.specs.OpenRules.{OpenLaws, OpenRules, of_open}
use Rattle.serde_json.specs.Data.{Data}

module _ {G : Type 0} (form : Form G) (state : StateLaws form) (rules : OpenRules G) (laws : OpenLaws form.own rules) where
  read_from : (v : Data) (g : G) → form.read v ≡ Some g → IsReadFrom form v g
  read_from v g is = subst (λ o. IfSome o (IsReadFrom form v)) is (state.laws.reads v)

  pub open_in_sheet : KeepsToSheet (of_open form rules)
  open_in_sheet = record {
    play = λ g ctx seat id args words known. laws.in_sheet g seat id args words known;
    on_move = λ g ctx seat words. tt;
    turn_begin = λ g ctx words. tt;
    turn_end = λ g ctx words. tt;
    phase_begin = λ g ctx phase words. tt;
    phase_end = λ g ctx phase words. tt;
    game_end = λ g ctx words. tt;
  }

  pub open_lawful : Lawful (of_open form rules)
  open_lawful = record {
    fits = fits rules.sheet laws.fits;
    setup = λ seats words least most. laws.opening seats least most;
    play = λ g ctx seat id args words own. laws.play g seat id args words own;
    on_move = λ g ctx seat words own. own;
    turn_begin = λ g ctx words own. own;
    turn_end = λ g ctx words own. own;
    phase_begin = λ g ctx phase words own. own;
    phase_end = λ g ctx phase words own. own;
    game_end = λ g ctx words own. own;
    view = λ g ctx viewer own. own;
    view_again = λ g ctx viewer own. refl;
    written_object = λ g own. state.object g;
    written = λ g own. state.laws.written g own;
    reads_back = λ g own. state.laws.reads_back g own;
    read_own = λ v g is. (read_from v g is).0;
    read_only = λ v g canonical is. (read_from v g is).1 canonical;
    ends = λ g ctx outcome own is. subst (λ end. IfSome end OutcomeFits) is (laws.ends g own);
    offers_known = λ g ctx seat. offered_known (λ offer. offer.0 < length rules.sheet.moves) ctx seat (rules.offers g seat) (laws.offers g seat);
    offers_none = λ g ctx seat none. offered_none ctx seat (rules.offers g seat) none;
  }
