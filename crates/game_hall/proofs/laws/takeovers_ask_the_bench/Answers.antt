use Rattle.std.proofs.Common.{refl}
use Rattle.game_hall.proofs.Benches.{absent_is, asked_is, no_call_is}
use Rattle.game_hall.proofs.laws.takeovers_ask_the_bench.Goals as goal

pub returns-clause-no_call : goal.returns-clause-no_call
returns-clause-no_call c core name seat words seed = no_call_is core core.bench name seat

pub returns-clause-absent : goal.returns-clause-absent
returns-clause-absent c core name seat words seed absent = absent_is core core.bench name seat refl absent

pub returns-clause-asked : goal.returns-clause-asked
returns-clause-asked c core name seat words seed held idle = asked_is core core.bench name seat held refl idle
