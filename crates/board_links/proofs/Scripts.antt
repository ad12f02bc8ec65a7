-- What is left of a script after an answer.
use Rattle.std.proofs.Common.{◌≡◌, ◌+◌, ◌++◌, ◌&&◌, ◌≤◌, ℕ, Bool, true, false, cond, if◌then◌else◌, List, [], ◌∷◌, length, drop, refl, sym, ap, ◌∙◌, nat_lt, drop-drop}
use Rattle.std.proofs.lemmas.Bool.{ltb-false}
use Rattle.std.proofs.Math.ListN.{drop_of_length-le}
use Rattle.board_links.specs.Answers.{stage_after}
use Rattle.board_links.specs.Memory.{is_failing, next_count}
use Rattle.board_links.specs.MemoryLink.{Hears, LinkState, heard, heard_after, is_fault, left_after, passes, place_after, said}
use Rattle.board_links.specs.declared.link.Came.{Came}
use Rattle.board_links.specs.declared.link.Came.TheVariants as came
use Rattle.board_links.specs.declared.link.Stage.{Stage}
use Rattle.board_links.specs.declared.memory_link.AtEnd.{AtEnd}
use Rattle.board_links.specs.declared.memory_link.AtEnd.TheVariants as at_end
use Rattle.board_links.specs.declared.memory_link.Scripted.{Scripted}
use Rattle.board_links.specs.declared.memory_link.Scripted.TheVariants as scripted

left_by : {X : Type 0} (t u : Bool) (script : List X) (place : ℕ) → (u ≡ false → length script ≤ place) → drop (cond (t && u) (place + 1) place) script ≡ cond t (drop 1 (drop place script)) (drop place script)
left_by true true script place h = sym (drop-drop 1 place script)
left_by true false script place h = let none = drop_of_length-le script (h refl) in none ∙ sym (ap (drop 1) none)
left_by false u script place h = refl

pub script_left : {X : Type 0} (t : Bool) (script : List X) (place : ℕ) → drop (cond (t && nat_lt place (length script)) (place + 1) place) script ≡ cond t (drop 1 (drop place script)) (drop place script)
script_left t script place = left_by t (nat_lt place (length script)) script place (λ h. ltb-false place (length script) h)

pub script_at : (answer : Came) (script : List Scripted) (place next count : ℕ) → next ≡ place_after answer place count → count ≡ length script → drop next script ≡ left_after answer (drop place script)
script_at answer script place next count e k = ap (λ n. drop n script) (e ∙ ap (place_after answer place) k) ∙ script_left (passes answer) script place

line_is_said : (t : Bool) (line : List ℕ) → cond t came.TooLong (came.Line line) ≡ came.NoMemory → ⊥
line_is_said true line e = cc
line_is_said false line e = cc

is_said : (left : List Scripted) (at : AtEnd) (limit : ℕ) → said left at limit ≡ came.NoMemory → ⊥
is_said [] at_end.Ended limit e = cc
is_said [] at_end.Quiet limit e = cc
is_said (scripted.Quiet ∷ left) at limit e = cc
is_said (scripted.Line line ∷ left) at limit e = line_is_said (nat_lt limit (length line.items)) line.items e

is_heard : (t : Bool) (left : List Scripted) (at : AtEnd) (limit : ℕ) → cond t came.Failed (said left at limit) ≡ came.NoMemory → ⊥
is_heard true left at limit e = cc
is_heard false left at limit e = is_said left at limit e

hears_as : (answer : Came) (old new : LinkState) → answer ≡ heard old → new ≡ heard_after answer old → Hears answer old new
hears_as (came.Line bytes) old new e n = (e, n)
hears_as came.Quiet old new e n = (e, n)
hears_as came.Ended old new e n = (e, n)
hears_as came.TooLong old new e n = (e, n)
hears_as came.Failed old new e n = (e, n)
hears_as came.NoMemory old new e n = absurd (is_heard (is_failing old.failing (next_count old.calls)) old.left old.at_end old.limit (sym e))

-- a receive that keeps each part as it should
pub hears_by : (answer told : Came) (old : LinkState) (left : List Scripted) (answers : List Came) (calls faults : ℕ) (at : Stage) → answer ≡ heard old → told ≡ heard old → left ≡ left_after answer old.left
    → answers ≡ old.answers ++ told ∷ [] → calls ≡ next_count old.calls → faults ≡ (if is_fault answer then next_count old.faults else old.faults) → at ≡ stage_after answer old.stage
    → Hears answer old (record old { left = left; answers = answers; calls = calls; faults = faults; stage = at })
hears_by answer told old left answers calls faults at e f l a c k s =
    let same : told ≡ answer = f ∙ sym e in
    let kept : answers ≡ old.answers ++ answer ∷ [] = a ∙ ap (λ last. old.answers ++ last ∷ []) same in
    hears_as answer old (record old { left = left; answers = answers; calls = calls; faults = faults; stage = at }) e
    (λ i. record old { left = l i; answers = kept i; calls = c i; faults = k i; stage = s i })
