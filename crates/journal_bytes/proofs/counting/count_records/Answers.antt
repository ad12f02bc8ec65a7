use Rattle.std.proofs.Common.{◌≡◌, ℕ, List, length, ◌-◌, take, drop, subst, refl, arith}
use Rattle.std.proofs.lemmas.List.{take_all}
use Rattle.std.proofs.Common.{length-drop}
use Rattle.record_file.specs.Gates.{IsGate}
use Rattle.record_file.specs.declared.gates.Gate.TheVariants.{Broken, Closed, Record}
use Rattle.journal_bytes.proofs.Counts.{all_left, at_broken, at_end, at_shut, by_records, counts_more, within}
use Rattle.journal_bytes.proofs.counting.count_records.Goals as goal

pub records-init : goal.records-init
records-init c = record { left = λ records ends. all_left c.args.bytes.now records ends; counted = omega arith; few = λ few. refl; within = omega arith }

-- the bytes from a gate on, as they are handed on
rest_is : (file : List ℕ) (at : ℕ) → take (length file - at) (drop at file) ≡ drop at file
rest_is file at = take_all (length file - at) (drop at file) (omega (arith, length-drop at file))

pub records-preserved : goal.records-preserved
records-preserved c =
    let gate = subst (λ (l : List ℕ). IsGate (Record c.in-Record.size) l) (rest_is c.args.bytes.now c.records.at) c.in-Record.ensures in
    let more = within c.args.bytes.now c.records.at c.in-Record.size gate in
    record {
      left = λ records ends. counts_more c.args.bytes.now c.records.at c.records.count c.in-Record.size records c.requires gate (c.records.invariant.left records ends);
      counted = omega (arith, c.records.invariant.counted);
      few = λ few. absurd (omega (arith, few, more));
      within = omega (arith, more);
    }

pub returns-in-Closed : goal.returns-in-Closed
returns-in-Closed c = λ records.
    by_records c.args.bytes.now c.records.count records c.records.invariant.few
    (λ ends. at_shut c.args.bytes.now c.records.at c.records.count records (c.records.invariant.left records ends)
    (subst (λ (l : List ℕ). IsGate Closed l) (rest_is c.args.bytes.now c.records.at) c.in-Closed.ensures))

pub returns-in-Broken : goal.returns-in-Broken
returns-in-Broken c = λ records.
    by_records c.args.bytes.now c.records.count records c.records.invariant.few
    (λ ends. at_broken c.args.bytes.now c.records.at c.records.count records (c.records.invariant.left records ends)
    (subst (λ (l : List ℕ). IsGate Broken l) (rest_is c.args.bytes.now c.records.at) c.in-Broken.ensures))

pub returns : goal.returns
returns c = λ records.
    by_records c.args.bytes.now c.records.count records c.records.invariant.few
    (λ ends. at_end c.args.bytes.now c.records.at c.records.count records (c.records.invariant.left records ends) (omega (arith, c.records-test.false)))
