use Rattle.door_serve.proofs.Gathering.{all_own}
use Rattle.door_serve.proofs.closing.close.Goals as goal

pub close-requires : goal.close-requires
close-requires g c = record { desk = all_own c.args.passes.items c.args.desk.passes c.args.desk.desk c.requires }
