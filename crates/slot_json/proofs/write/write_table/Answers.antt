-- What is written between the brackets is the text of the parts.
use Rattle.slot_json.specs.TableForms.{common_form, has_slots, players_form, secret_form}
use Rattle.slot_json.proofs.PartLaws.{whole_text}
use Rattle.slot_json.proofs.write.write_table.Goals as goal

pub returns : goal.returns
returns c =
    whole_text c.args.out.now.items c.push.new.self.items c.write_common.new.out.items c.write_players.new.out.items c.write_secret.new.out.items c.push-2.new.self.items
    (has_slots c.args.layout.now.rows.common) (has_slots c.args.layout.now.rows.players) (has_slots c.args.layout.now.rows.secret)
    ((common_form c.args.layout.now).value c.args.table.now.common) ((players_form c.args.layout.now).value c.args.table.now.players) ((secret_form c.args.layout.now).value c.args.table.now.secret)
    c.in_ok-push.ensures.items c.in_ok-write_common.ensures c.in_ok-write_players.ensures c.in_ok-write_secret.ensures c.in_ok-push-2.ensures.items
