use Rattle.std.proofs.Common.{sym, rules}
use Rattle.wire_json.proofs.MatchTexts.{no_dash}
use Rattle.wire_json.proofs.match_text.match_of.Goals as goal

pub returns-in_default : goal.returns-in_default
returns-in_default c = sym (no_dash c.args.text.now (search rules))
