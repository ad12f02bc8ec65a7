use Rattle.json.specs.Print.{escape_byte}
use Rattle.wire_json.proofs.Appending.{both}
use Rattle.change_text.proofs.change_write.put_create.Goals as goal

pub returns : goal.returns
unfolding escape_byte
returns g c = both c.put_from_create.result _ _ _ _ _ c.in_ok-put_game.ensures c.put_from_create.ensures
