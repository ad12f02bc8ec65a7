-- The match at which bots are to sit is made by one pass, which stays as free as it was.
use Rattle.std.proofs.Common.{◌≡◌, ◌∙◌, ◌<◌, ℕ, false, List, ap, arith, length, slice_index_or, slice_set}
use Rattle.std.specs.Prelude.{None}
use Rattle.std.proofs.lemmas.List.{get_or-set_same, get_or-set_other, length-set}
use mathlib.Core.Logic.{dite}
use native.Mathlib.Decide.{ℕ_discrete}
use Rattle.any_game.specs.AnyRules.{any_rules}
use Rattle.any_game.specs.GameKind.{GameKind}
use Rattle.match_master.specs.Held.{is_starved}
use Rattle.room_desk.specs.History.{Called, held}
use Rattle.room_history.specs.Room.{reply}
use Rattle.room_history.specs.declared.call.RoomCall.TheVariants as call
use Rattle.room_history.specs.declared.reply.RoomReply.{RoomReply}
use Rattle.room_object.specs.Entry.{entry}
use Rattle.session_pool.proofs.Attaching.{called_attached}
use Rattle.session_pool.specs.Passes.{Pass}
use Rattle.session_pool.specs.Placed.{AttachedBy, is_in}

-- making a match attaches nobody
pub made_free : (passes : List Pass) (p q : Pass) (game : GameKind) (seats : ℕ) (seed : List ℕ) (told : RoomReply)
    → p ≡ slice_index_or passes 0 p → q ≡ held p.desk p.number p.before q.seen
    → Called (reply any_rules p.desk.object) p.seen (entry p.number (call.Create game seats seed) (is_starved told)) told q.seen
    → AttachedBy passes None → AttachedBy (slice_set passes 0 q) None
made_free passes p q game seats seed told here is called by i d low =
    let many = length-set passes 0 q in
    dite (ℕ_discrete i 0)
    (λ same.
    let within : 0 < length passes = omega (arith, low, many, same) in
    let at_q : slice_index_or (slice_set passes 0 q) i d ≡ q = ap (λ k. slice_index_or (slice_set passes 0 q) k d) same ∙ get_or-set_same passes 0 q d within in
    let before : is_in p ≡ false = ap is_in here ∙ by 0 p within in
    ap is_in at_q
    ∙ (ap is_in is ∙ (called_attached any_rules p.desk.object p.number (call.Create game seats seed) told p.seen q.seen called ∙ before)))
    (λ other. ap is_in (get_or-set_other passes 0 i q d other) ∙ by i d (omega (arith, low, many)))
