-- The pack's cards in any order are cards.
use Rattle.std.proofs.Common.{◌≡◌, ◌∙◌, ℕ, true, ◌&&◌, List, refl, ap}
use Rattle.std.proofs.lemmas.List.Sorted.{All-permutation, length_permutation}
use Rattle.std.proofs.lemmas.List.Sums.{AllPass-from_list_all, list_all-from_AllPass}
use Rattle.std.specs.List.{list_all}
use Rattle.std.specs.Prelude.{IsPermutation, nat_le}
use Rattle.card_games.specs.Pack.{are_cards, is_card, pack}

pub are_cards-permuted : (deck : List ℕ) → IsPermutation pack deck → are_cards deck ≡ true
are_cards-permuted deck permuted =
    let each : list_all is_card deck ≡ true = list_all-from_AllPass is_card deck (All-permutation (λ card. is_card card ≡ true) pack deck permuted (AllPass-from_list_all is_card pack refl)) in
    ap (λ count. nat_le count 52 && list_all is_card deck) (length_permutation pack deck permuted) ∙ each
