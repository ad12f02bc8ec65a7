use Rattle.sight_reading.proofs.Patching.{has_new_text, is_new}
use Rattle.sight_reading.proofs.laws.changes_lead_to_the_new_value.Goals as goal

pub returns-clause-text : goal.returns-clause-text
returns-clause-text c = has_new_text

pub returns-clause-value : goal.returns-clause-value
returns-clause-value c = λ old new w v h i.
    is_new old new c.written_values_read_back.ensures (c.writable_values_are_canonical.ensures.canonical old w) (c.writable_values_are_canonical.ensures.canonical new v) w v h i
