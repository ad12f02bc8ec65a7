use Rattle.std.proofs.Common.{◌≡◌, ◌+◌, ap, arith, length, map, refl, slice_index_or}
use Rattle.std.specs.Prelude.{None}
use Rattle.std.proofs.lemmas.List.{length-map}
use Rattle.session_pool.specs.Passes.{unseen}
use Rattle.session_pool.specs.Placed.{AttachedBy}
use Rattle.session_pool.proofs.Dealing.{as_many_rows, rows_belong, rows_numbered}
use Rattle.session_pool.proofs.Watching.{own_desks}
use Rattle.door_serve.proofs.Gathering.{all_last}
use Rattle.door_serve.proofs.OwnPasses.{split_rows}
use Rattle.door_serve.proofs.Watching.{all_alike}
use Rattle.session_pool.specs.Watched.{seen_of}
use Rattle.test_server.proofs.watches.take_watch.Goals as goal

pub unreachable-requires : goal.unreachable-requires
unreachable-requires g c =
    let l = ap length c.requires.rows in
    let m = as_many_rows c.args.desks.now.items 0 (c.args.places + 1) in
    let n = length-map c.args.rows.items (λ v. map unseen v.items) in
    omega (arith, l, m, n, c.in_default.ensures.cases.0, c.args.rows.ok)

pub returns-clause-many : goal.returns-clause-many
returns-clause-many g c =
    let split = split_rows (λ v. v.items) c.args.desks.now.items c.args.rows.items c.pop.new.self.items c.in-Some.watch c.args.places (c.args.places + 1) refl c.in-Some.ensures.items c.requires.rows in
    let l = ap length split.0 in
    let m = as_many_rows c.args.desks.now.items 0 c.args.places in
    let n = length-map c.pop.new.self.items (λ v. map unseen v.items) in
    omega (arith, l, m, n, c.pop.new.self.ok)

pub returns-clause-belong : goal.returns-clause-belong
returns-clause-belong g c =
    let split = split_rows (λ v. v.items) c.args.desks.now.items c.args.rows.items c.pop.new.self.items c.in-Some.watch c.args.places (c.args.places + 1) refl c.in-Some.ensures.items c.requires.rows in
    rows_belong (λ v. v.items) c.args.desks.now.items c.pop.new.self.items 0 c.args.places split.0

pub returns-clause-free : goal.returns-clause-free
returns-clause-free g c = (all_last (λ v. AttachedBy v.items None) c.args.rows.items c.pop.new.self.items c.in-Some.watch c.in-Some.ensures.items c.requires.free).0

pub returns-clause-within : goal.returns-clause-within
returns-clause-within g c =
    let split = split_rows (λ v. v.items) c.args.desks.now.items c.args.rows.items c.pop.new.self.items c.in-Some.watch c.args.places (c.args.places + 1) refl c.in-Some.ensures.items c.requires.rows in
    rows_numbered (λ v. v.items) c.args.desks.now.items c.pop.new.self.items 0 c.args.places split.0 c.args.places (omega arith) c.requires.some

pub returns-clause-watch : goal.returns-clause-watch
returns-clause-watch g c =
    let split = split_rows (λ v. v.items) c.args.desks.now.items c.args.rows.items c.pop.new.self.items c.in-Some.watch c.args.places (c.args.places + 1) refl c.in-Some.ensures.items c.requires.rows in
    own_desks c.args.desks.now.items c.args.places c.in-Some.watch.items split.1

pub returns-clause-began : goal.returns-clause-began
returns-clause-began g c k d low =
    let pasts = c.requires.seen.0 in
    let seen = all_last (λ v. seen_of v.items ≡ pasts) c.args.rows.items c.pop.new.self.items c.in-Some.watch c.in-Some.ensures.items c.requires.seen.1 in
    all_alike (seen_of (slice_index_or c.pop.new.self.items k d).items) (seen_of c.in-Some.watch.items) pasts (seen.0 k d low) seen.1
