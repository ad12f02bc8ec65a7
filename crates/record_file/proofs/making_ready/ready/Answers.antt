use Rattle.std.proofs.Common.{inr, ◌≤◌, List, ℕ, length, sym, ◌∙◌, ap, subst, arith}
use Rattle.board_links.specs.Faults.{HasRisen}
use Rattle.room_disk.specs.Disk.{Only}
use Rattle.record_file.specs.Records.{HasRecords}
use Rattle.record_file.specs.Ready.{IsFew}
use Rattle.record_file.proofs.Composing.{and_then, few_keep, weaker}
use Rattle.record_file.proofs.making_ready.ready.Goals as goal

pub returns-in-Err-DiskFault-clause-reason : goal.returns-in-Err-DiskFault-clause-reason
returns-in-Err-DiskFault-clause-reason g c =
    let f = g.D.Disk.faults in
    let risen = rw c.in-Err-DiskFault.field-0-is at c.in-Err-DiskFault.ensures.cause in
    subst (λ (n : ℕ). HasRisen n (f c.read_all.new.disk)) c.in-Ok.ensures.quiet risen

pub returns-in-Failed-clause-reason : goal.returns-in-Failed-clause-reason
returns-in-Failed-clause-reason g c = subst (λ (n : ℕ). HasRisen n (g.D.Disk.faults c.begin.new.disk)) c.in-Ok.ensures.quiet c.in-Failed.ensures.cause

pub returns-in-Done-clause-bytes : goal.returns-in-Done-clause-bytes
returns-in-Done-clause-bytes g c told =
    let seen = g.D.Disk.seen in
    let few : length (seen c.args.disk.now) ≤ 1 = omega (arith, c.in-Ok.ensures.size told, c.if-count-gt1.false) in
    let short : length (seen c.measured.new.disk) ≤ 1 = omega (arith, few, ap length (c.in-Ok.ensures.same told).0) in
    let begun = c.in-Done.ensures.begun (c.measured.ensures.told told) short in
    record {
      same = c.in-Ok-from_array.ensures.items ∙ sym begun.0;
      whole = inr (few, c.in-Ok-from_array.ensures.items);
      durable = begun.1;
      some = omega (arith, ap length c.in-Ok-from_array.ensures.items);
      few = omega (arith, ap length c.in-Ok-from_array.ensures.items);
      keeps = λ records has. few_keep (seen c.args.disk.now) c.in-Ok-from_array.bytes.items records few has (omega (arith, ap length c.in-Ok-from_array.ensures.items));
      had = λ records has. few_keep c.in-Ok-from_array.bytes.items (seen c.args.disk.now) records (omega (arith, ap length c.in-Ok-from_array.ensures.items)) has few;
    }

pub returns-in-Done-clause-any_moment : goal.returns-in-Done-clause-any_moment
returns-in-Done-clause-any_moment g c told only records has =
    let d = g.D.Disk in
    let old = c.args.disk.now in
    let mid = c.measured.new.disk in
    let same = c.in-Ok.ensures.same told in
    let few : length (d.seen c.args.disk.now) ≤ 1 = omega (arith, c.in-Ok.ensures.size told, c.if-count-gt1.false) in
    let short : length (d.seen c.measured.new.disk) ≤ 1 = omega (arith, few, ap length same.0) in
    let P : List ℕ → Type 0 = λ f. HasRecords f records in
    let only_mid = subst (λ (f : List ℕ). Only f (d.may_leave c.measured.new.disk)) (sym same.0) same.1 in
    let first = weaker d.moment d.left_since old mid (d.may_leave old) P (λ f left. subst (λ (x : List ℕ). HasRecords x records) (sym (only f left)) has) (c.measured.ensures.any_moment told) in
    let second = weaker d.moment d.left_since mid c.begin.new.disk IsFew P (λ f brief. few_keep (d.seen old) f records few has brief) (c.begin.ensures.any_moment (c.measured.ensures.told told) short only_mid) in
    and_then d.moment d.left_since old mid c.begin.new.disk P first second

pub returns-in-Failed-clause-any_moment : goal.returns-in-Failed-clause-any_moment
returns-in-Failed-clause-any_moment g c told only records has =
    let d = g.D.Disk in
    let old = c.args.disk.now in
    let mid = c.measured.new.disk in
    let same = c.in-Ok.ensures.same told in
    let few : length (d.seen c.args.disk.now) ≤ 1 = omega (arith, c.in-Ok.ensures.size told, c.if-count-gt1.false) in
    let short : length (d.seen c.measured.new.disk) ≤ 1 = omega (arith, few, ap length same.0) in
    let P : List ℕ → Type 0 = λ f. HasRecords f records in
    let only_mid = subst (λ (f : List ℕ). Only f (d.may_leave c.measured.new.disk)) (sym same.0) same.1 in
    let first = weaker d.moment d.left_since old mid (d.may_leave old) P (λ f left. subst (λ (x : List ℕ). HasRecords x records) (sym (only f left)) has) (c.measured.ensures.any_moment told) in
    let second = weaker d.moment d.left_since mid c.begin.new.disk IsFew P (λ f brief. few_keep (d.seen old) f records few has brief) (c.begin.ensures.any_moment (c.measured.ensures.told told) short only_mid) in
    and_then d.moment d.left_since old mid c.begin.new.disk P first second
