use Rattle.client_world.proofs.world.ClientWorld.new.Goals as goal

pub returns : goal.returns
returns c = record { hall = c.in_ok-hall.ensures; peers = c.in_ok-peers.ensures c.args.rooms }
