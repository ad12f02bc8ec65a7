use Rattle.std.proofs.Common.{◌≡◌, length, ℕ, Option}
use Rattle.std.specs.Prelude.{IsSome}
use Rattle.board_links.specs.Pieces.{told_bytes}
use Rattle.game_sheet.specs.MatchName.{Name}
use Rattle.session_pool.specs.Passes.{Belong, number_of}
use Rattle.session_pool.specs.Placed.{AttachedBy, IsIdle}
use Rattle.link_rounds.specs.Turns.{Runs, told_answers}
use Rattle.session_pool.specs.Sittings.{Leaves, begins}
use Rattle.session_pool.specs.Turn.{Turn, stand}
use Rattle.session_pool.proofs.link.talk.Given as goal

abbrev pub invariant-loop : goal.invariant-loop
invariant-loop g l =
    (goal.iterator-loop g).can_next l.iterator' × (goal.iterator-loop g).is_finite l.iterator'
    × Belong l.desks l.core.pass l.passes × IsIdle (length l.desks) l.core × AttachedBy l.passes l.core.at × (l.core.pass ≡ number_of l.fn.passes)
    × (l.words.source ≡ l.fn.words.source) × (g.L.Link.faults l.link ≡ g.L.Link.faults l.fn.link)
    × (g.L.Link.is_bot l.link ≡ g.L.Link.is_bot l.fn.link) × (l.bench_pass.desk ≡ l.fn.bench_pass.desk)
    × (IsSome (g.L.Link.answers l.fn.link) → IsSome (g.L.Link.sent l.fn.link) →
    IsSome (g.L.Link.answers l.link) × IsSome (g.L.Link.sent l.link)
    × ((n : ℕ) × (seat : Option (Name × ℕ)) × Runs (Turn g.B.Object.may_starve) (Leaves g.B.Object.may_starve) n (begins (length l.desks) l.fn.passes l.fn.words l.fn.bench_pass)
    (told_answers (g.L.Link.answers l.fn.link)) (told_bytes (g.L.Link.sent l.fn.link)) (stand l.passes l.core l.words l.bench_pass seat) (g.L.Link.answers l.link) (g.L.Link.sent l.link)))
