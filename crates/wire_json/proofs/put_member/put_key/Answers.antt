use Rattle.std.proofs.Common.{IsUtf8, sym, subst}
use Rattle.wire_json.proofs.Texts.{key_utf8}
use Rattle.wire_json.proofs.put_member.put_key.Goals as goal

pub unreachable-requires : goal.unreachable-requires
unreachable-requires c = c.in_default.ensures.cases.0 (subst IsUtf8 (sym c.digits_of_key-digits.ensures.text) (key_utf8 c.args.key.now))
