use Rattle.std.proofs.Common.{◌++◌, codes, ap, ◌∙◌}
use Rattle.hex.specs.Hex.{encode_lower}
use Rattle.game_hall.specs.ShortText.{place_text}
use Rattle.game_hall.proofs.ShortTexts.{joined_is}
use Rattle.game_hall.proofs.short_lines.joined_line.Goals as goal

pub returns : goal.returns
returns c =
    let begun = c.add.ensures.text ∙ ap (λ x. x ++ codes "{\"key\":\"") c.new-line.ensures in
    let keyed = c.add_key.ensures.text ∙ ap (λ x. x ++ encode_lower c.args.key.now) begun in
    let parted = c.add-2.ensures.text ∙ ap (λ x. x ++ codes "\",\"match\":\"") keyed in
    c.add_place.ensures.text ∙ ap (λ x. x ++ place_text c.args.name.now c.args.seat (codes ",\"type\":\"joined\"}\n")) parted
    ∙ joined_is c.args.key.now c.args.name.now c.args.seat c.add_key.ensures.bytes c.add_place.ensures.named
