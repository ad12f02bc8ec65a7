use Rattle.std.proofs.Common.{◌<◌, ◌^◌, ◌++◌, decimal, ap, ◌∙◌, arith}
use Rattle.wire_json.proofs.MatchPut.{match_put}
use Rattle.wire_json.proofs.put_member.put_match.Goals as goal

pub returns-clause-text : goal.returns-clause-text
returns-clause-text c =
    let room : c.args.name.now.room < 2 ^ 64 = omega (arith, c.room.ensures.value, c.room.ensures.most) in
    let serial : c.args.name.now.serial < 2 ^ 64 = omega (arith, c.serial.ensures.value, c.serial.type_inv) in
    match_put c.args.out.now.items c.push.new.self.items c.put_natural.new.out.items c.push-2.new.self.items c.put_natural-2.new.out.items c.push-3.new.self.items c.args.name.now room serial
    c.in_ok-push.ensures.items
    (c.in_ok-put_natural.ensures ∙ ap (λ n. c.push.new.self.items ++ decimal n) (c.from.ensures ∙ c.room.ensures.value))
    c.in_ok-push-2.ensures.items
    (c.in_ok-put_natural-2.ensures ∙ ap (λ n. c.push-2.new.self.items ++ decimal n) c.serial.ensures.value)
    c.in_ok-push-3.ensures.items
