use Rattle.std.proofs.Common.{◌≡◌, ◌+◌, ◌≤◌, [], map, rules, subst, sym}
use Rattle.std.proofs.lemmas.List.Elements.{All-map}
use Rattle.std.proofs.lemmas.Simd.{map-map}
use Rattle.link_rounds.specs.Places.{about}
use Rattle.link_rounds.proofs.Deals.{all_back, all_rest, length_kept, numbers_back, room_back}
use Rattle.link_rounds.proofs.dealing.serve_places.Goals as goal

pub gather-requires-2 : goal.gather-requires-2
gather-requires-2 g c =
    let old = c.deal.new.benches.items in
    let new = c.serve_door-end.result.2.items in
    let many = length_kept g.S.Service.number (λ b. map (λ p. p.service) b.places.items) (λ b. map (λ p. g.S.Service.number p.service) b.places.items) (λ b. map-map g.S.Service.number (λ p. p.service) b.places.items) old new c.serve_door-end.ensures.numbers in
    let room = room_back c.deal.new.services.items _ c.args.services.items c.deal.new.services.len c.args.services.len c.args.services.cap c.deal.new.services.cap c.deal.ensures.dealt c.deal.new.services.ok.0 c.args.services.ok.0 c.args.services.ok.1 c.deal.ensures.capacity in
    record { room = subst (λ l. c.deal.new.services.len + l ≤ c.deal.new.services.cap) (sym many) room }

pub returns-clause-fit : goal.returns-clause-fit
returns-clause-fit g c =
    let none : c.deal.new.services.items ≡ [] = search rules in
    all_back (λ b. map (λ p. p.service) b.places.items) (g.S.Service.fits c.args.hall.now) c.deal.new.services.items c.gather-2.new.services.items c.serve_door-end.result.2.items none c.gather-2.ensures
    (λ k d low. All-map (g.S.Service.fits c.args.hall.now) (λ p. p.service) _ (c.serve_door-end.ensures.fit k d low))

pub returns-clause-rest : goal.returns-clause-rest
returns-clause-rest g c =
    let a = about g.D.L.Link.answers g.D.L.Link.sent g.D.L.Link.faults g.D.L.Link.stage g.D.L.Link.clear g.D.L.Link.is_bot in
    let none : c.deal.new.services.items ≡ [] = search rules in
    all_back (λ b. map (λ p. p.service) b.places.items) g.S.Service.rests c.deal.new.services.items c.gather-2.new.services.items c.serve_door-end.result.2.items none c.gather-2.ensures
    (λ k d low. all_rest g.S.Service.turn g.S.Service.leave a g.S.Service.rests _ (c.serve_door-end.ensures.free k d low) (c.serve_door-end.ensures.sit k d low))

pub returns-clause-numbers : goal.returns-clause-numbers
returns-clause-numbers g c =
    let none : c.deal.new.services.items ≡ [] = search rules in
    numbers_back g.S.Service.number (λ b. map (λ p. p.service) b.places.items) (λ b. map (λ p. g.S.Service.number p.service) b.places.items) (λ b. map-map g.S.Service.number (λ p. p.service) b.places.items)
    c.deal.new.benches.items c.serve_door-end.result.2.items c.serve_door-end.ensures.numbers c.deal.new.services.items c.gather-2.new.services.items c.args.services.items none c.deal.ensures.dealt c.gather-2.ensures
