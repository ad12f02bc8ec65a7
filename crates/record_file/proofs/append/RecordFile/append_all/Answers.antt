use Rattle.record_file.proofs.Appending.{wrote, synced, gated, ended, settled}
use Rattle.record_file.proofs.append.RecordFile.append_all.Goals as goal

pub returns-in-Failed-clause-any_moment : goal.returns-in-Failed-clause-any_moment
returns-in-Failed-clause-any_moment g c records payload more s is =
    let d = g.D.Disk in
    wrote d.is_told d.seen d.may_leave d.moment d.left_since g.met.D.Disk.only_now records payload more c.args.frame.now is c.args.self.now.disk c.args.self.now.end s
    c.write_at.new.self (c.write_at.ensures.crash s.told) (c.write_at.ensures.time s.told)

pub returns-in-Failed-sync-clause-any_moment : goal.returns-in-Failed-sync-clause-any_moment
returns-in-Failed-sync-clause-any_moment g c records payload more s is =
    let d = g.D.Disk in
    let told_one = c.write_at.ensures.told s.told in
    synced d.is_told d.seen d.may_leave d.moment d.left_since g.met.D.Disk.only_now records payload more c.args.frame.now is c.args.self.now.disk c.args.self.now.end s
    c.write_at.new.self c.sync.new.self (c.write_at.ensures.crash s.told) (c.write_at.ensures.time s.told) (c.sync.ensures.crash told_one) (c.sync.ensures.time told_one)

pub returns-in-Failed-write_at-clause-any_moment : goal.returns-in-Failed-write_at-clause-any_moment
returns-in-Failed-write_at-clause-any_moment g c records payload more s is =
    let d = g.D.Disk in
    let told_one = c.write_at.ensures.told s.told in
    let told_two = c.sync.ensures.told told_one in
    let so_far = synced d.is_told d.seen d.may_leave d.moment d.left_since g.met.D.Disk.only_now records payload more c.args.frame.now is c.args.self.now.disk c.args.self.now.end s
    c.write_at.new.self c.sync.new.self (c.write_at.ensures.crash s.told) (c.write_at.ensures.time s.told) (c.sync.ensures.crash told_one) (c.sync.ensures.time told_one) in
    gated d.is_told d.seen d.may_leave d.moment d.left_since g.met.D.Disk.only_now records payload more c.args.frame.now is c.args.self.now.disk c.args.self.now.end s
    c.write_at.new.self c.sync.new.self (c.in-Done.ensures.written s.told) (c.in-Done-sync.ensures.durable told_one) so_far c.write_at-2.new.self (c.write_at-2.ensures.crash told_two) (c.write_at-2.ensures.time told_two)

pub returns-in-Failed-sync-2-clause-any_moment : goal.returns-in-Failed-sync-2-clause-any_moment
returns-in-Failed-sync-2-clause-any_moment g c records payload more s is =
    let d = g.D.Disk in
    let told_one = c.write_at.ensures.told s.told in
    let told_two = c.sync.ensures.told told_one in
    let told_three = c.write_at-2.ensures.told told_two in
    let so_far = synced d.is_told d.seen d.may_leave d.moment d.left_since g.met.D.Disk.only_now records payload more c.args.frame.now is c.args.self.now.disk c.args.self.now.end s
    c.write_at.new.self c.sync.new.self (c.write_at.ensures.crash s.told) (c.write_at.ensures.time s.told) (c.sync.ensures.crash told_one) (c.sync.ensures.time told_one) in
    ended d.is_told d.seen d.may_leave d.moment d.left_since g.met.D.Disk.only_now records payload more c.args.frame.now is c.args.self.now.disk c.args.self.now.end s
    c.write_at.new.self c.sync.new.self (c.in-Done.ensures.written s.told) (c.in-Done-sync.ensures.durable told_one) so_far
    c.write_at-2.new.self c.sync-2.new.self (c.write_at-2.ensures.crash told_two) (c.write_at-2.ensures.time told_two) (c.sync-2.ensures.crash told_three) (c.sync-2.ensures.time told_three)

pub returns-clause-any_moment : goal.returns-clause-any_moment
returns-clause-any_moment g c records payload more s is =
    let d = g.D.Disk in
    let told_one = c.write_at.ensures.told s.told in
    let told_two = c.sync.ensures.told told_one in
    let told_three = c.write_at-2.ensures.told told_two in
    let so_far = synced d.is_told d.seen d.may_leave d.moment d.left_since g.met.D.Disk.only_now records payload more c.args.frame.now is c.args.self.now.disk c.args.self.now.end s
    c.write_at.new.self c.sync.new.self (c.write_at.ensures.crash s.told) (c.write_at.ensures.time s.told) (c.sync.ensures.crash told_one) (c.sync.ensures.time told_one) in
    ended d.is_told d.seen d.may_leave d.moment d.left_since g.met.D.Disk.only_now records payload more c.args.frame.now is c.args.self.now.disk c.args.self.now.end s
    c.write_at.new.self c.sync.new.self (c.in-Done.ensures.written s.told) (c.in-Done-sync.ensures.durable told_one) so_far
    c.write_at-2.new.self c.sync-2.new.self (c.write_at-2.ensures.crash told_two) (c.write_at-2.ensures.time told_two) (c.sync-2.ensures.crash told_three) (c.sync-2.ensures.time told_three)

pub returns-clause-kept : goal.returns-clause-kept
returns-clause-kept g c records payload more s is =
    let d = g.D.Disk in
    let told_one = c.write_at.ensures.told s.told in
    let told_two = c.sync.ensures.told told_one in
    let told_three = c.write_at-2.ensures.told told_two in
    let told_four = c.sync-2.ensures.told told_three in
    let so_far = synced d.is_told d.seen d.may_leave d.moment d.left_since g.met.D.Disk.only_now records payload more c.args.frame.now is c.args.self.now.disk c.args.self.now.end s
    c.write_at.new.self c.sync.new.self (c.write_at.ensures.crash s.told) (c.write_at.ensures.time s.told) (c.sync.ensures.crash told_one) (c.sync.ensures.time told_one) in
    settled d.is_told d.seen d.may_leave d.moment d.left_since g.met.D.Disk.only_now records payload more c.args.frame.now is c.args.self.now.disk c.args.self.now.end s
    c.write_at.new.self c.sync.new.self (c.in-Done.ensures.written s.told) (c.in-Done-sync.ensures.durable told_one) so_far
    c.write_at-2.new.self c.sync-2.new.self told_four (c.in-Done-write_at.ensures.written told_two) (c.in-Done-sync-2.ensures.durable told_three)
