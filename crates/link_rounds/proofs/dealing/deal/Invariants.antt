use Rattle.std.proofs.Common.{◌≡◌, ◌+◌, ◌<◌, ◌≤◌, ◌++◌, map, false, is_some}
use Rattle.std.specs.Prelude.{All, vec_len, vec_capacity}
use Rattle.link_rounds.specs.Dealing.{dealt}
use Rattle.link_rounds.specs.Places.{Sits, about}
use Rattle.link_rounds.proofs.dealing.deal.Given as goal

abbrev pub invariant-loop-ready : goal.invariant-loop-ready
invariant-loop-ready g l =
    let a = about g.L.Link.answers g.L.Link.sent g.L.Link.faults g.L.Link.stage g.L.Link.clear g.L.Link.is_bot in
    (l.services.items ++ dealt (map (λ b. map (λ p. p.service) b.places.items) l.benches.items) ≡ l.fn.services.items)
    × (vec_capacity l.fn.services ≤ vec_capacity l.services)
    × (vec_len l.services < 4294967296)
    × All (g.S.Service.fits l.hall) l.services.items × All g.S.Service.rests l.services.items
    × (vec_len l.benches + vec_len l.readies ≤ vec_capacity l.benches)
    × (0 < vec_len l.benches + vec_len l.readies)
    × (vec_len l.readies ≡ 0 → vec_len l.services ≡ 0)
    × All (λ b. All (λ p. is_some p.link ≡ false) b.places.items) l.benches.items
    × All (λ b. All (λ p. g.S.Service.fits l.hall p.service) b.places.items) l.benches.items
    × All (λ b. All (Sits g.S.Service.turn g.S.Service.leave a g.S.Service.rests) b.places.items) l.benches.items

abbrev pub decreases-loop-ready : goal.decreases-loop-ready
decreases-loop-ready g l = vec_len l.readies
