-- A seat is offered the same on what it sees of a state as on the state: what its offers rest on is open, or its own.
use Rattle.std.specs.Prelude.{◌≡◌, ◌+◌, ◌==◌, ℕ, zero, suc, Bool, true, if◌then◌else◌, nat_eq, map, List, [], ◌∷◌, ◌++◌, Option, Some, None, slice_get, refl}
use Rattle.std.specs.List.{enumerate_from}
use Rattle.std.proofs.Common.{ap, arith}
use Rattle.std.proofs.lemmas.Bool.{eq-eqb}
use Rattle.any_game.specs.AnyRules.{any_rules}
use Rattle.any_game.specs.GameKind.{GameKind, TicTacToe, Countdown, Pig, HighHand, BlindBid, Captions}
use Rattle.any_game.specs.declared.any_g.AnyG.{AnyG}
use Rattle.any_game.specs.declared.any_g.AnyG.TheVariants.{TicTacToe as OfTicTacToe, Countdown as OfCountdown, Pig as OfPig, HighHand as OfHighHand, BlindBid as OfBlindBid, Captions as OfCaptions}
use Rattle.card_games.specs.BlindBid.{offered_boasts, offered_bids}
use Rattle.card_games.specs.HighHand.{Cards, card_offers, hand_in, lay_offers}
use Rattle.card_games.specs.Offers.{offers}
use Rattle.card_games.specs.Parts.{offered_texts}
use Rattle.card_games.specs.Sealed.{seal_offers}
use Rattle.card_games.specs.declared.dealt.Dealt.{Dealt}
use Rattle.game_sheet.specs.declared.ctx.Ctx.{Ctx}
use Rattle.game_trait.specs.Offers.{offered}
use Rattle.secret_strip.specs.Strip.{seen, seen_players, strip}
use Rattle.offered_moves.specs.OfferedLaw.{OffersAreSeen}

its_own : {P : Type 0} (own : Bool) (entry : Option P) → own ≡ true → (if own then entry else None) ≡ entry
its_own own entry is = ap (λ b. if b then entry else None) is

entry_from : {P : Type 0} (seat from place : ℕ) (players : List (Option P)) → seat ≡ from + place → slice_get (map (seen (Some seat)) (enumerate_from from players)) place ≡ slice_get players place
entry_from seat from place [] at = refl
entry_from seat from zero (player ∷ players) at = ap Some (its_own (seat == from) player (eq-eqb seat from (omega (arith, at))))
entry_from seat from (suc place) (player ∷ players) at = entry_from seat (from + 1) place players (omega (arith, at))

own_entry : {P : Type 0} (seat : ℕ) (players : List (Option P)) → slice_get (seen_players (Some seat) players) seat ≡ slice_get players seat
own_entry seat players = entry_from seat 0 seat players (omega arith)

cards_seen : (c : Cards) (seat : ℕ) (phase : Option ℕ) → card_offers (strip c (Some seat)) seat phase ≡ card_offers c seat phase
cards_seen c seat None = refl
cards_seen c seat (Some phase) = ap (λ entry. if nat_eq phase 0 then (0, []) ∷ [] else (if nat_eq phase 1 then lay_offers c seat (hand_in entry) else [])) (own_entry seat c.players)

board_seen : (g : AnyG) (ctx : Ctx) (seat : ℕ) → (any_rules TicTacToe).options ((any_rules TicTacToe).view g ctx (Some seat)) ctx seat ≡ (any_rules TicTacToe).options g ctx seat
board_seen (OfTicTacToe b) ctx seat = refl
board_seen g ctx seat = refl

heap_seen : (g : AnyG) (ctx : Ctx) (seat : ℕ) → (any_rules Countdown).options ((any_rules Countdown).view g ctx (Some seat)) ctx seat ≡ (any_rules Countdown).options g ctx seat
heap_seen (OfCountdown h) ctx seat = refl
heap_seen g ctx seat = refl

points_seen : (g : AnyG) (ctx : Ctx) (seat : ℕ) → (any_rules Pig).options ((any_rules Pig).view g ctx (Some seat)) ctx seat ≡ (any_rules Pig).options g ctx seat
points_seen (OfPig p) ctx seat = refl
points_seen g ctx seat = refl

hands_seen : (deck : Option Dealt) (g : AnyG) (ctx : Ctx) (seat : ℕ) → (any_rules (HighHand deck)).options ((any_rules (HighHand deck)).view g ctx (Some seat)) ctx seat ≡ (any_rules (HighHand deck)).options g ctx seat
hands_seen deck (OfHighHand c) ctx seat = ap (offered ctx seat) (cards_seen c seat ctx.phase)
hands_seen deck g ctx seat = refl

bids_seen : (g : AnyG) (ctx : Ctx) (seat : ℕ) → (any_rules BlindBid).options ((any_rules BlindBid).view g ctx (Some seat)) ctx seat ≡ (any_rules BlindBid).options g ctx seat
bids_seen (OfBlindBid b) ctx seat = ap (λ entry. offered ctx seat (seal_offers entry (offers 0 offered_bids ++ offers 1 offered_boasts))) (own_entry seat b.players)
bids_seen g ctx seat = refl

texts_seen : (g : AnyG) (ctx : Ctx) (seat : ℕ) → (any_rules Captions).options ((any_rules Captions).view g ctx (Some seat)) ctx seat ≡ (any_rules Captions).options g ctx seat
texts_seen (OfCaptions t) ctx seat = ap (λ entry. offered ctx seat (seal_offers entry (offers 0 offered_texts))) (own_entry seat t.players)
texts_seen g ctx seat = refl

pub all_seen : (kind : GameKind) → OffersAreSeen kind
all_seen TicTacToe = λ g ctx seat. board_seen g ctx seat
all_seen Countdown = λ g ctx seat. heap_seen g ctx seat
all_seen Pig = λ g ctx seat. points_seen g ctx seat
all_seen (HighHand deck) = λ g ctx seat. hands_seen deck g ctx seat
all_seen BlindBid = λ g ctx seat. bids_seen g ctx seat
all_seen Captions = λ g ctx seat. texts_seen g ctx seat
