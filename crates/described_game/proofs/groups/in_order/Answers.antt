-- Sorted numbers without those that stand twice.
use Rattle.std.proofs.Common.{ℕ, List, eqb, sym, ap, ◌∙◌, subst}
use Rattle.std.proofs.lemmas.List.Filters.{dedup_is}
use Rattle.described_game.specs.Offers.{is_among}
use Rattle.described_game.specs.Rising.{Rises}
use Rattle.described_game.proofs.RisingLemmas.{sorted_rise, sorted_same}
use Rattle.described_game.proofs.groups.in_order.Goals as goal

pub returns-clause-rises : goal.returns-clause-rises
returns-clause-rises c =
    let sorted = c.sort_unstable.new.self.items in
    let once = c.from_vec.ensures ∙ dedup_is eqb sorted c.dedup.new.self.items c.dedup.ensures.filtered in
    subst (λ (ns : List ℕ). Rises 0 ns) (sym once) (sorted_rise sorted c.sort_unstable.ensures.sorted)

pub returns-clause-same : goal.returns-clause-same
returns-clause-same c =
    let sorted = c.sort_unstable.new.self.items in
    let once = c.from_vec.ensures ∙ dedup_is eqb sorted c.dedup.new.self.items c.dedup.ensures.filtered in
    λ n. ap (λ ns. is_among ns n) once ∙ sorted_same c.args.numbers.items sorted c.sort_unstable.ensures.permutation n
