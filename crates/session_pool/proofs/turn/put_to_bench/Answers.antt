use Rattle.game_hall.specs.Bench.{wanted}
use Rattle.session_pool.proofs.Benching.{asks_once}
use Rattle.session_pool.proofs.turn.put_to_bench.Goals as goal

pub returns-in-Some-clause-asks : goal.returns-in-Some-clause-asks
returns-in-Some-clause-asks g c = asks_once (wanted c.args.core.now.bench) c.args.core.now c.args.bench_pass.now c.seek.new.core c.seek.new.pass c.seek.ensures.sought

pub returns-in-None-clause-asks : goal.returns-in-None-clause-asks
returns-in-None-clause-asks g c = asks_once (wanted c.args.core.now.bench) c.args.core.now c.args.bench_pass.now c.seek.new.core c.seek.new.pass c.seek.ensures.sought
