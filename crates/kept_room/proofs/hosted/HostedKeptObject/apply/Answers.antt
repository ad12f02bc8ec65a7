use Rattle.std.proofs.Common.{true, ap, refl, sym, ◌∙◌}
use Rattle.any_game.specs.AnyRules.{any_rules}
use Rattle.match_master.specs.Held.{is_starved}
use Rattle.room_history.specs.Room.{reply}
use Rattle.room_object.specs.Entry.{entry}
use Rattle.kept_room.specs.Journal.{Calls}
use Rattle.kept_room.proofs.Asides.{is_detach_fed}
use Rattle.kept_room.proofs.Hosting.{answers_whole, carries, detach_answered, detaches_hosted, refuses_hosted, stays_hosted, stops_hosted, whole_not_some}
use Rattle.kept_room.proofs.Journals.{starved_reply}
use Rattle.kept_room.proofs.hosted.HostedKeptObject.apply.Goals as goal

-- a Detach
pub returns-then-is_detach-clause-answered : goal.returns-then-is_detach-clause-answered
returns-then-is_detach-clause-answered g c = λ h s.
    let d = g.D.Disk in
    let told = c.ask_aside.result in
    let is = sym c.is_detach.ensures ∙ c.if-is_detach.true in
    detach_answered d.is_told d.seen d.may_leave d.moment d.left_since d.faults g.met.D.Disk.only_now (λ room. s.past) g.K.Origin.start c.args.self.now.room c.ask_aside.new.self c.args.pass c.args.call (is_starved told) is
    (is_detach_fed c.args.call (is_starved told) is c.ask_aside.ensures.fed) c.ask_aside.ensures.since c.ask_aside.ensures.stopped c.ask_aside.ensures.file s.made told s.stands c.ask_aside.ensures.answered
    ∙ ap (λ (l : Calls). reply any_rules c.args.self.now.room.object.room l (entry c.args.pass c.args.call (is_starved told))) (sym s.split)

pub returns-then-is_detach-clause-stands : goal.returns-then-is_detach-clause-stands
returns-then-is_detach-clause-stands g c = λ h s.
    let d = g.D.Disk in
    let told = c.ask_aside.result in
    let is = sym c.is_detach.ensures ∙ c.if-is_detach.true in
    carries d.is_told d.seen d.may_leave d.moment d.left_since d.faults g.K.Origin.start c.args.self.now.room c.ask_aside.new.self (entry c.args.pass c.args.call (is_starved told)) h s c.ask_aside.ensures.since.same_room
    (λ past made from stands.
    detaches_hosted d.is_told d.seen d.may_leave d.moment d.left_since d.faults g.met.D.Disk.only_now (λ room. past) (λ room. from) c.args.self.now.room c.ask_aside.new.self c.args.pass c.args.call (is_starved told) is
    (is_detach_fed c.args.call (is_starved told) is c.ask_aside.ensures.fed) c.ask_aside.ensures.since c.ask_aside.ensures.stopped c.ask_aside.ensures.file made stands)

-- a room that has stopped
pub returns-then-is_some-clause-answered : goal.returns-then-is_some-clause-answered
returns-then-is_some-clause-answered g c = λ h s. starved_reply c.args.self.now.room.object.room h c.args.pass c.args.call

pub returns-then-is_some-clause-stands : goal.returns-then-is_some-clause-stands
returns-then-is_some-clause-stands g c = λ h s.
    let d = g.D.Disk in
    let r = c.args.self.now.room in
    carries d.is_told d.seen d.may_leave d.moment d.left_since d.faults g.K.Origin.start r r (entry c.args.pass c.args.call true) h s refl
    (λ past made from stands.
    refuses_hosted d.is_told d.seen d.may_leave d.moment d.left_since d.faults r.object.room past from r c.args.pass c.args.call made (sym c.is_some.ensures ∙ c.if-is_some.true) stands)

-- a call without a record
pub returns-then-is_aside-clause-answered : goal.returns-then-is_aside-clause-answered
returns-then-is_aside-clause-answered g c = λ h s.
    let d = g.D.Disk in
    let r = c.args.self.now.room in
    let told = c.ask_aside-then-is_aside.result in
    let e = entry c.args.pass c.args.call (is_starved told) in
    answers_whole d.is_told d.seen d.may_leave d.moment d.left_since d.faults r.object.room s.past (g.K.Origin.start r.object.room) r s.made e told
    (whole_not_some r.stopped (sym c.is_some.ensures ∙ c.if-is_some.false)) s.stands c.ask_aside-then-is_aside.ensures.answered
    ∙ ap (λ (l : Calls). reply any_rules r.object.room l e) (sym s.split)

pub returns-then-is_aside-clause-stands : goal.returns-then-is_aside-clause-stands
returns-then-is_aside-clause-stands g c = λ h s.
    let d = g.D.Disk in
    let e = entry c.args.pass c.args.call (is_starved c.ask_aside-then-is_aside.result) in
    carries d.is_told d.seen d.may_leave d.moment d.left_since d.faults g.K.Origin.start c.args.self.now.room c.ask_aside-then-is_aside.new.self e h s c.ask_aside-then-is_aside.ensures.since.same_room
    (λ past made from stands.
    stays_hosted d.is_told d.seen d.may_leave d.moment d.left_since d.faults g.met.D.Disk.only_now (λ room. past) (λ room. from) c.args.self.now.room c.ask_aside-then-is_aside.new.self
    e c.ask_aside-then-is_aside.ensures.since (c.ask_aside-then-is_aside.ensures.stopped ∙ whole_not_some c.args.self.now.room.stopped (sym c.is_some.ensures ∙ c.if-is_some.false)) made stands)

-- a change at which the room stops
pub returns-then-is_some-2-clause-answered : goal.returns-then-is_some-2-clause-answered
returns-then-is_some-2-clause-answered g c = λ h s. starved_reply c.args.self.now.room.object.room h c.args.pass c.args.call

pub returns-then-is_some-2-clause-stands : goal.returns-then-is_some-2-clause-stands
returns-then-is_some-2-clause-stands g c = λ h s.
    let d = g.D.Disk in
    let r = c.args.self.now.room in
    carries d.is_told d.seen d.may_leave d.moment d.left_since d.faults g.K.Origin.start r c.ask-reply.new.self (entry c.args.pass c.args.call true) h s c.ask-reply.ensures.since.same_room
    (λ past made from stands.
    stops_hosted d.is_told d.seen d.may_leave d.moment d.left_since d.faults (λ room. past) (λ room. from) r c.ask-reply.new.self c.args.pass c.args.call (is_starved c.ask-reply.result) c.ask-reply.ensures.since
    (whole_not_some r.stopped (sym c.is_some.ensures ∙ c.if-is_some.false)) (sym c.is_some-2.ensures ∙ c.if-is_some-2.true) (sym c.is_aside.ensures ∙ c.if-is_aside.false) made stands)

-- a change that was kept
pub returns-clause-answered : goal.returns-clause-answered
returns-clause-answered g c = λ h s.
    let d = g.D.Disk in
    let r = c.args.self.now.room in
    let told = c.ask-reply.result in
    let e = entry c.args.pass c.args.call (is_starved told) in
    answers_whole d.is_told d.seen d.may_leave d.moment d.left_since d.faults r.object.room s.past (g.K.Origin.start r.object.room) r s.made e told
    (whole_not_some r.stopped (sym c.is_some.ensures ∙ c.if-is_some.false)) s.stands c.ask-reply.ensures.answered
    ∙ ap (λ (l : Calls). reply any_rules r.object.room l e) (sym s.split)

pub returns-clause-stands : goal.returns-clause-stands
returns-clause-stands g c = λ h s.
    let d = g.D.Disk in
    let e = entry c.args.pass c.args.call (is_starved c.ask-reply.result) in
    carries d.is_told d.seen d.may_leave d.moment d.left_since d.faults g.K.Origin.start c.args.self.now.room c.ask-reply.new.self e h s c.ask-reply.ensures.since.same_room
    (λ past made from stands.
    stays_hosted d.is_told d.seen d.may_leave d.moment d.left_since d.faults g.met.D.Disk.only_now (λ room. past) (λ room. from) c.args.self.now.room c.ask-reply.new.self
    e c.ask-reply.ensures.since (whole_not_some c.ask-reply.new.self.stopped (sym c.is_some-2.ensures ∙ c.if-is_some-2.false)) made stands)
