use Rattle.std.proofs.Common.{[], ◌∷◌, ◌++◌, ◌∙◌, ap}
use Rattle.room_disk.proofs.Kept.{elapses_to}
use Rattle.room_disk.proofs.memory.MemoryDiskDisk.replace.Goals as goal

pub returns-in-Ok-clause-time : goal.returns-in-Ok-clause-time
returns-in-Ok-clause-time c told =
    let past = c.in-Ok.ensures.past in
    elapses_to c.args.self.now.past.items c.put_anew.new.past.items past.0 c.args.self.now.bytes.items c.put_anew.new.file.items
    (past.1 ∙ ap (λ b. b.items) c.fails.ensures.bytes) (past.2 ∙ ap (λ p. p.items ++ past.0 ∷ []) c.fails.ensures.past)
