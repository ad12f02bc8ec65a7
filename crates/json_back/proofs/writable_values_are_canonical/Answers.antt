use Rattle.json_back.proofs.Puts.{canonical, writable_put}
use Rattle.json_back.proofs.writable_values_are_canonical.Goals as goal

pub returns-clause-canonical : goal.returns-clause-canonical
returns-clause-canonical c = canonical

pub returns-clause-puts : goal.returns-clause-puts
returns-clause-puts c = writable_put
