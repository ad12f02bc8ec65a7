-- Captions keeps the laws of games.
use Rattle.std.specs.Prelude.{◌≡◌, ℕ, ◌<◌, ◌≤◌, ◌&&◌, nat_le, nat_lt, true, IsTrue, IfSome, List, [], ◌∷◌, length, slice_get, codes, option_map, Option, Some, None, refl}
use Rattle.std.specs.List.{AllByRecursion, list_all}
use Rattle.std.proofs.Common.{◌∙◌, ap, lit<}
use Rattle.std.proofs.lemmas.Bool.{and_parts}
use Rattle.card_games.specs.Captions.{Texts, caption_offers, caption_sheet, captions, have_writers, no_texts, texts_revealed, write}
use Rattle.card_games.specs.Json.{read_text}
use Rattle.card_games.specs.Offers.{offers}
use Rattle.card_games.specs.OwnLaws.{all_if, count_seen, of_parts, offers_known, parts_of, view_own}
use Rattle.card_games.specs.PartLaws.{IsPart, list_part, lone_part, option_part, passing_part, read_from, split_part, text_part, wrapped_part}
use Rattle.card_games.specs.Parts.{list_value, no_secret_value, offered_texts, option_value, own_no_secret, own_option, own_sealed_text, own_shown, own_split, own_texts, read_list, read_no_secret, read_option, read_sealed_text, read_shown, read_split, read_texts, sealed_text_value, shown_value, text_value, texts_value}
use Rattle.card_games.specs.Sealed.{are_seats, have_all, may_seal, shown_items}
use Rattle.card_games.specs.SealedLaws.{count_unsealed, first_seats, greatest_ends, no_secrets_part, seal_keeps, seal_own, sealed_part, seats_shown, shown_own, unsealed_own}
use Rattle.card_games.specs.declared.sealed.Sealed.{Sealed}
use Rattle.card_games.specs.declared.texts.Shown.{Shown}
use Rattle.game_sheet.specs.Short.{is_short}
use Rattle.game_sheet.proofs.Fits.{fits}
use Rattle.game_sheet.specs.SheetRules.{broken}
use Rattle.game_sheet.specs.declared.args.Arg.{Arg}
use Rattle.game_sheet.specs.declared.args.Arg.TheVariants.{Whole, Text}
use Rattle.game_trait.specs.Lawful.{GivesOwn, Lawful}
use Rattle.game_trait.specs.Offers.{offered_known, offered_none}
use Rattle.game_trait.specs.Queues.{KeepsToSheet, QueuesInSheet}
use Rattle.secret_strip.specs.Strip.{strip}
use Rattle.secret_strip.proofs.PlayersLemmas.{strip_twice}
use Rattle.std.specs.Option.{option_map_or}

-- ---- reading

sealed_text_part : IsPart sealed_text_value read_sealed_text own_sealed_text
sealed_text_part = sealed_part (codes "text") (λ d. refl) (λ d. refl) (λ d. refl) text_value read_text is_short text_part (λ text own. refl)

abbrev shown_with : Option (List (List ℕ)) → Shown
shown_with texts = record { revealed = texts }

shown_part : IsPart shown_value read_shown own_shown
shown_part = wrapped_part (codes "revealed") (option_value (list_value text_value)) (read_option (read_list read_text)) (own_option (list_all is_short)) shown_with (λ s. s.revealed) (λ s. refl) (λ texts. refl)
    (lone_part (codes "revealed") (λ d. refl) (λ d. refl) (λ d. refl) (option_value (list_value text_value)) (read_option (read_list read_text)) (own_option (list_all is_short))
    (option_part (list_value text_value) (read_list read_text) (list_all is_short) (list_part text_value read_text is_short text_part) (λ texts own. refl)))

texts_part : IsPart texts_value read_texts own_texts
texts_part = passing_part texts_value (read_split read_shown read_no_secret read_sealed_text) (own_split own_shown own_no_secret own_sealed_text) have_writers
    (split_part shown_value read_shown own_shown shown_part
    no_secret_value read_no_secret own_no_secret no_secrets_part
    sealed_text_value read_sealed_text own_sealed_text (list_part (option_value sealed_text_value) (read_option read_sealed_text) (own_option own_sealed_text) (option_part sealed_text_value read_sealed_text own_sealed_text sealed_text_part (λ entry own. refl))))

-- ---- what is own

as_many : (g : Texts) (players : List (Option (Sealed (List ℕ)))) → length players ≡ length g.players → have_writers (record g { players = players }) ≡ have_writers g
as_many g players same = ap (λ count. are_seats 16 count (option_map (λ texts. length texts) g.common.revealed)) same

write_own : (g : Texts) (seat : ℕ) (args : List Arg) (words : List ℕ) → IsTrue (own_texts g) → GivesOwn own_texts (write g seat args words)
write_own g seat [] words own = tt
write_own g seat (Whole n ∷ rest) words own = tt
write_own g seat (Text text ∷ next ∷ rest) words own = tt
write_own g seat (Text text ∷ []) words own =
    seal_own have_writers own_shown is_short as_many (nat_lt seat 16 && nat_le 1 (length text) && is_short text) g seat text words own
    (λ allowed. (and_parts (nat_lt seat 16 && nat_le 1 (length text)) (is_short text) allowed).1)

with_texts_own : (g : Texts) (texts : Option (List (List ℕ))) → IsTrue (own_texts g) → IfSome texts (λ items. (list_all is_short items ≡ true) × (length items ≡ length g.players)) → IsTrue (own_texts (option_map_or (λ texts. record g { common = record { revealed = Some texts } }) texts g))
with_texts_own g None own shown = own
with_texts_own g (Some texts) own shown =
    let parts = parts_of have_writers own_shown own_no_secret own_sealed_text g own in
    of_parts have_writers own_shown own_no_secret own_sealed_text (option_map_or (λ texts. record g { common = record { revealed = Some texts } }) (Some texts) g) (record {
      seats = seats_shown 16 (length g.players) (option_map (λ items. length items) g.common.revealed) (length texts) shown.1 parts.seats;
      own_common = shown.0;
      own_secret = parts.own_secret;
      own_players = parts.own_players;
    })

revealed_own : (g : Texts) → IsTrue (own_texts g) → IsTrue (own_texts (texts_revealed g))
revealed_own g own = with_texts_own g (shown_items g.players) own (shown_own is_short g.players (parts_of have_writers own_shown own_no_secret own_sealed_text g own).own_players)

no_texts_own : (seats : ℕ) → 2 ≤ seats → seats ≤ 16 → IsTrue (own_texts (no_texts seats))
no_texts_own seats least most = of_parts have_writers own_shown own_no_secret own_sealed_text (no_texts seats) (record {
  seats = ap (λ players. are_seats 16 players None) (count_unsealed (List ℕ) seats) ∙ first_seats 16 seats least most;
  own_common = refl;
  own_secret = refl;
  own_players = unsealed_own is_short seats;
})

-- ---- the laws

caption_offers_known : (g : Texts) (seat : ℕ) → AllByRecursion (λ (offer : ℕ × List Arg). offer.0 < 1) (caption_offers g seat)
caption_offers_known g seat = all_if (λ (offer : ℕ × List Arg). offer.0 < 1) (may_seal (slice_get g.players seat)) (offers 0 offered_texts) (offers_known 1 0 offered_texts (lit< tt))

caption_sheet_fits : broken caption_sheet ≡ 0
unfolding broken
caption_sheet_fits = refl

pub captions_lawful : Lawful captions
captions_lawful = record {
  fits = fits caption_sheet caption_sheet_fits;
  setup = λ seats words least most. no_texts_own seats least most;
  play = λ g ctx seat id args words own. write_own g seat args words own;
  on_move = λ g ctx seat words own. own;
  turn_begin = λ g ctx words own. own;
  turn_end = λ g ctx words own. own;
  phase_begin = λ g ctx phase words own. own;
  phase_end = λ g ctx phase words own. own;
  game_end = λ g ctx words own. revealed_own g own;
  ends = λ g ctx outcome own is. greatest_ends (have_all g.players) _ g.players outcome is;
  view = λ g ctx viewer own. view_own have_writers own_shown own_no_secret own_sealed_text g viewer (as_many g (strip g viewer).players (count_seen viewer g.players)) own;
  view_again = λ g ctx viewer own. strip_twice g viewer;
  written_object = λ g own. refl;
  written = λ g own. texts_part.written g own;
  reads_back = λ g own. texts_part.back g own;
  read_own = λ v g is. (read_from texts_value read_texts own_texts texts_part v g is).0;
  read_only = λ v g canonical is. (read_from texts_value read_texts own_texts texts_part v g is).1 canonical;
  offers_known = λ g ctx seat. offered_known (λ offer. offer.0 < 1) ctx seat (caption_offers g seat) (caption_offers_known g seat);
  offers_none = λ g ctx seat none. offered_none ctx seat (caption_offers g seat) none;
}

-- ---- it queues nothing

write_keeps : (g : Texts) (seat : ℕ) (args : List Arg) (words : List ℕ) → QueuesInSheet caption_sheet (write g seat args words)
write_keeps g seat [] words = tt
write_keeps g seat (Whole n ∷ rest) words = tt
write_keeps g seat (Text text ∷ next ∷ rest) words = tt
write_keeps g seat (Text text ∷ []) words = seal_keeps caption_sheet (nat_lt seat 16 && nat_le 1 (length text) && is_short text) g seat text words

pub captions_in_sheet : KeepsToSheet captions
captions_in_sheet = record {
  play = λ g ctx seat id args words known. write_keeps g seat args words;
  on_move = λ g ctx seat words. tt;
  turn_begin = λ g ctx words. tt;
  turn_end = λ g ctx words. tt;
  phase_begin = λ g ctx phase words. tt;
  phase_end = λ g ctx phase words. tt;
  game_end = λ g ctx words. tt;
}
