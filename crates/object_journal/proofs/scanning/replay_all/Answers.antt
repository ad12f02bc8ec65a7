use Rattle.std.proofs.Common.{◌≡◌, ◌+◌, ◌-◌, List, ℕ, take, drop, subst, ◌∙◌, false}
use Rattle.record_file.specs.Gates.{IsGate}
use Rattle.record_file.specs.declared.gates.Gate.TheVariants.{Broken, Record}
use Rattle.object_journal.specs.Replaying.{HasMade}
use Rattle.object_journal.proofs.Scans.{cut_short, further, payload_is, refused, rest_is, within}
use Rattle.object_journal.proofs.scanning.replay_all.Goals as goal

pub returns-in-Broken-clause-refused : goal.returns-in-Broken-clause-refused
returns-in-Broken-clause-refused g c =
    cut_short (g.O.Replays.may_follow (g.O.Object.number c.args.object.now)) g.O.Object.stands_for g.O.Replays.has_come (g.O.Recorded.records (g.O.Object.number c.args.object.now)) c.records.object c.args.bytes.now c.records.at c.records.invariant.scanned
    (subst (λ (l : List ℕ). IsGate Broken l) (rest_is c.args.bytes.now c.records.at) c.in-Broken.ensures)

pub records-preserved : goal.records-preserved
records-preserved g c =
    let records = g.O.Recorded.records in
    let n = g.O.Object.number c.args.object.now in
    let follow = g.O.Replays.may_follow n in
    let come = g.O.Replays.has_come in
    let file = c.args.bytes.now in
    let s = c.records.invariant.scanned in
    let gate = subst (λ (l : List ℕ). IsGate (Record c.in-Record.count) l) (rest_is c.args.bytes.now c.records.at) c.in-Record.ensures in
    let p = take (c.records.at + 5 + c.in-Record.count - (c.records.at + 5)) (drop (c.records.at + 5) c.args.bytes.now) in
    let made : HasMade g.O.Object.stands_for come (records (g.O.Object.number c.records.object)) (g.O.Replays.may_follow (g.O.Object.number c.records.object)) s.h p c.replay.new.self = c.in-Done.ensures.replays s.h s.stands s.came in
    let so = subst (λ (k : ℕ). HasMade g.O.Object.stands_for come (records k) (g.O.Replays.may_follow k) s.h p c.replay.new.self) c.records.invariant.same made in
    let at_payload = subst (λ (q : List ℕ). HasMade g.O.Object.stands_for come (records n) follow s.h q c.replay.new.self) (payload_is file c.records.at c.in-Record.count) so in
    record {
      scanned = further follow g.O.Object.stands_for come (records n) c.records.object file c.records.at s c.in-Record.count gate c.replay.new.self at_payload;
      within = within follow g.O.Object.stands_for come (records n) c.records.object file c.records.at s c.in-Record.count gate;
      same = c.replay.ensures.number ∙ c.records.invariant.same;
    }

pub returns-in-Refused-clause-refused : goal.returns-in-Refused-clause-refused
returns-in-Refused-clause-refused g c =
    let records = g.O.Recorded.records in
    let n = g.O.Object.number c.args.object.now in
    let follow = g.O.Replays.may_follow n in
    let come = g.O.Replays.has_come in
    let file = c.args.bytes.now in
    let s = c.records.invariant.scanned in
    let gate = subst (λ (l : List ℕ). IsGate (Record c.in-Record.count) l) (rest_is c.args.bytes.now c.records.at) c.in-Record.ensures in
    let p = take (c.records.at + 5 + c.in-Record.count - (c.records.at + 5)) (drop (c.records.at + 5) c.args.bytes.now) in
    let no_more = c.in-Refused.ensures.replays s.h s.stands s.came in
    let so = subst (λ (k : ℕ). g.O.Replays.may_follow k (records k s.h) p ≡ false) c.records.invariant.same no_more in
    let at_payload = subst (λ (q : List ℕ). follow (records n s.h) q ≡ false) (payload_is file c.records.at c.in-Record.count) so in
    refused follow g.O.Object.stands_for come (records n) c.records.object file c.records.at s c.in-Record.count gate c.requires.few at_payload
