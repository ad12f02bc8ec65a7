-- Captions: two to sixteen seats write one text each, which nobody else sees, and the longest wins when all have written.
use Rattle.std.specs.Prelude.{ℕ, ◌&&◌, nat_le, nat_lt, true, false, Bool, List, [], ◌∷◌, length, slice_get, codes, option_map, Some, None}
use Rattle.card_games.specs.Json.{each, or_none, split_form, text_form, where_holds}
use Rattle.card_games.specs.Offers.{offers}
use Rattle.card_games.specs.Sealed.{Sealing, are_seats, no_secret_form, seal, seal_offers, sealed_end, sealed_form, sealing_sheet, shown_items, unsealed}
use Rattle.card_games.specs.declared.texts.Shown.{Shown}
use Rattle.game_sheet.specs.Short.{is_short}
use Rattle.game_sheet.specs.declared.args.Arg.{Arg}
use Rattle.game_sheet.specs.declared.args.Arg.TheVariants.{Text}
use Rattle.game_sheet.specs.declared.sheet.Sheet.{Sheet}
use Rattle.game_trait.specs.Deed.{Barred, Deed, Done, GaveUp, Invalid}
use Rattle.game_trait.specs.Offers.{offered}
use Rattle.game_trait.specs.Rules.{Rules, plain}
use Rattle.open_game.specs.Form.{Form}
use Rattle.open_game.specs.Forms.{object_of_one}
use Rattle.secret_strip.specs.Strip.{strip}
use Rattle.std.specs.Option.{option_map_or}

-- each seat alone sees its own text; everybody sees all of them at the end
abbrev pub Texts : Type 0
Texts = Sealing Shown (List ℕ)

-- every seat stands in the one stage of a turn until it has written once
abbrev pub caption_sheet : Sheet
caption_sheet = record (sealing_sheet (codes "captions") 16 (codes "write")) {
  moves = record { name = codes "write"; redact = true; client = true; no_limit = false; ignore_stale = true } ∷ [];
  base = 0 ∷ [];
}

abbrev pub no_texts : ℕ → Texts
no_texts seats = record { common = record { revealed = None }; secret = None; players = unsealed seats }

-- a seat writes a text that isn't empty; as an argument it is always a short one
abbrev pub write : Texts → ℕ → List Arg → List ℕ → Deed Texts Barred
write g seat (Text text ∷ []) words = seal (nat_lt seat 16 && nat_le 1 (length text) && is_short text) g seat text words
write g seat _ words = GaveUp Invalid

-- at the end all texts are shown, where all have written
abbrev pub texts_revealed : Texts → Texts
texts_revealed g = option_map_or (λ texts. record g { common = record { revealed = Some texts } }) (shown_items g.players) g

-- a seat that hasn't written is offered these texts
abbrev pub caption_offers : Texts → ℕ → List (ℕ × List Arg)
caption_offers g seat = seal_offers (slice_get g.players seat) (offers 0 (Text (codes "one") ∷ Text (codes "two") ∷ []))

-- one to sixteen seats have an entry each, and a text each where the texts are shown
abbrev pub have_writers : Texts → Bool
have_writers g = are_seats 16 (length g.players) (option_map (λ texts. length texts) g.common.revealed)

abbrev pub shown_form : Form Shown
shown_form = object_of_one (codes "revealed") (or_none (each text_form)) (λ texts. record { revealed = texts }) (λ s. s.revealed)

abbrev pub texts_form : Form Texts
texts_form = where_holds have_writers (split_form shown_form (each (or_none (sealed_form (codes "text") text_form))) (or_none no_secret_form))

abbrev pub captions : Rules Texts
captions = record (plain caption_sheet (λ seats words. Done (no_texts seats) words []) (λ g ctx seat id args words. write g seat args words) texts_form.own texts_form.value texts_form.read) {
  -- once all have written, the one seat whose text has the most bytes wins; two such texts are a draw
  end_if = λ g ctx. sealed_end (λ text. length text) g.players;
  game_end = λ g ctx words. Done (texts_revealed g) words [];
  view = λ g ctx viewer. strip g viewer;
  undoable = λ g ctx id. false;
  options = λ g ctx seat. offered ctx seat (caption_offers g seat);
}
