use Rattle.json.specs.Print.{escape_byte}
use Rattle.wire_json.proofs.Appending.{both}
use Rattle.wire_json.proofs.client_write.put_leave.Goals as goal

pub returns-clause-text : goal.returns-clause-text
unfolding escape_byte
returns-clause-text c = both c.put_place_members.result _ _ _ _ _ c.in_ok-put_owner.ensures.text c.put_place_members.ensures.text
