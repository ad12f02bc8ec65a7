use Rattle.std.proofs.Common.{refl}
use Rattle.std.proofs.lemmas.Str.{is_utf8-from_IsUtf8}
use Rattle.std.specs.Prelude.{codes}
use Rattle.json_tree.proofs.WritableRows.{ascii}
use Rattle.card_games.proofs.captions.options.Goals as goal

pub text_of-requires : goal.text_of-requires
text_of-requires c = is_utf8-from_IsUtf8 (codes "one") (ascii (codes "one") refl)

pub text_of-requires-then-may_seal : goal.text_of-requires-then-may_seal
text_of-requires-then-may_seal c = is_utf8-from_IsUtf8 (codes "two") (ascii (codes "two") refl)
