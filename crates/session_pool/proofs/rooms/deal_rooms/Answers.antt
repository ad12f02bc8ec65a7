use Rattle.std.proofs.Common.{◌≡◌, rules, subst, sym}
use Rattle.std.specs.Prelude.{All, None}
use Rattle.session_pool.specs.Placed.{AttachedBy}
use Rattle.session_pool.specs.Watched.{seen_of}
use Rattle.session_pool.proofs.Places.{all_front}
use Rattle.session_pool.proofs.rooms.deal_rooms.Goals as goal

pub loop-number-preserved : goal.loop-number-preserved
loop-number-preserved g c = (
  search rules,
  search rules,
  search rules,
  search rules,
  subst (All (λ v. AttachedBy v.items None)) (sym c.in_ok-insert.ensures.items)
      (all_front (λ v. AttachedBy v.items None) c.in_ok-row.row c.loop-number.rows.items c.in_ok-row.ensures.row_free c.loop-number.invariant.4),
  λ pasts seen.
      let was = c.loop-number.invariant.5 pasts seen in
      let here = c.in_ok-row.ensures.seen pasts was.0 in (
        here.0,
        subst (All (λ v. seen_of v.items ≡ pasts)) (sym c.in_ok-insert.ensures.items)
            (all_front (λ v. seen_of v.items ≡ pasts) c.in_ok-row.row c.loop-number.rows.items here.1 was.1),
      ),
)

pub returns-clause-seen : goal.returns-clause-seen
returns-clause-seen g c pasts seen = (c.loop-number.invariant.5 pasts seen).1
