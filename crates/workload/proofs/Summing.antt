-- The six lines of a Load are those of the workload that it stands for.
use Rattle.std.proofs.Common.{◌≡◌, ◌++◌, ℕ, List, [], codes, replicate, ap, ◌∙◌}
use Rattle.std.specs.Int.{w64, to_le_bytes}
use Rattle.any_game.specs.AnyRules.{any_rules, named}
use Rattle.any_game.specs.GameKind.{GameKind}
use Rattle.any_game.specs.declared.any_g.AnyG.{AnyG}
use Rattle.hall_history.specs.Counts.{accepts, count_from, refuses}
use Rattle.hall_history.specs.Tapes.{hall_tape, steps_tape}
use Rattle.world_history.specs.Workload.{Workload, begins_round, number_line, steps_from, summary, transcript}
use Rattle.world_history.specs.World.{new_world}
use Rattle.session_hall.specs.Held.{tape_of}
use Rattle.workload.specs.IsLoad.{HeldLoad, IsLoad, summary_of}

six : ℕ → ℕ → ℕ → ℕ → ℕ → ℕ → List ℕ
six steps accepted refused held read bytes =
    number_line (codes "steps") steps
    ++ number_line (codes "accepted") accepted
    ++ number_line (codes "refused") refused
    ++ number_line (codes "held") held
    ++ number_line (codes "read") read
    ++ number_line (codes "bytes") bytes

pub same_summary : (tape words : ℕ → List ℕ) (lines : ℕ) (load : HeldLoad) (l : Workload GameKind AnyG) (steps : ℕ) → IsLoad tape words lines load l → summary_of steps load.counts ≡ summary any_rules steps l
unfolding six
same_summary tape words lines load l steps is =
    ap (λ n. six steps n load.counts.refused load.counts.held load.counts.read load.counts.bytes) is.counted.accepted
    ∙ ap (λ n. six steps (count_from any_rules accepts 0 l.world.hall.rooms) n load.counts.held load.counts.read load.counts.bytes) is.counted.refused
    ∙ ap (λ n. six steps (count_from any_rules accepts 0 l.world.hall.rooms) (count_from any_rules refuses 0 l.world.hall.rooms) n load.counts.read load.counts.bytes) is.held
    ∙ ap (λ n. six steps (count_from any_rules accepts 0 l.world.hall.rooms) (count_from any_rules refuses 0 l.world.hall.rooms) l.held n load.counts.bytes) is.read
    ∙ ap (λ n. six steps (count_from any_rules accepts 0 l.world.hall.rooms) (count_from any_rules refuses 0 l.world.hall.rooms) l.held l.read n) is.counted.bytes

-- a Load that has run all steps tells its workload's transcript
pub transcript_is : (seed steps lines : ℕ) (bytes : List ℕ) (load : HeldLoad) → bytes ≡ to_le_bytes w64 seed ++ replicate 24 0
    → IsLoad (tape_of (replicate 32 0)) (tape_of bytes) lines load
    (steps_from named any_rules (tape_of (replicate 32 0)) (tape_of bytes) 0 steps
    (begins_round named any_rules (tape_of (replicate 32 0)) (record { world = new_world 8; places = []; drawn = 0; held = 0; read = 0 })))
    → summary_of steps load.counts ≡ transcript named any_rules hall_tape (steps_tape seed) 8 steps
unfolding transcript hall_tape steps_tape
transcript_is seed steps lines bytes load e is =
    same_summary (tape_of (replicate 32 0)) (tape_of bytes) lines load _ steps is
    ∙ ap (λ b. summary any_rules steps (steps_from named any_rules (tape_of (replicate 32 0)) (tape_of b) 0 steps
    (begins_round named any_rules (tape_of (replicate 32 0)) (record { world = new_world 8; places = []; drawn = 0; held = 0; read = 0 })))) e
