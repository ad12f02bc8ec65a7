use Rattle.std.proofs.Common.{rules, ◌≡◌, ◌∷◌, Some, true, false, [], ◌∙◌}
use Rattle.room_object.specs.Entry.{entry}
use Rattle.object_journal.specs.Keeping.{Adds, HasEither}
use Rattle.record_file.specs.Records.{IsBeforeOrAfter}
use Rattle.record_file.proofs.Composing.{weaker}
use Rattle.object_journal.proofs.Either.{accepted_fed, either}
use Rattle.kept_room.proofs.framing.perform_with.Goals as goal

pub returns-in-Done-clause-crash : goal.returns-in-Done-clause-crash
returns-in-Done-clause-crash g c h k =
    let n = g.O.Object.number c.args.object.now in
    let records = g.O.Recorded.records n in
    let reply = g.O.Object.reply n in
    let o = g.O.Recorded.payload_of n h c.args.pass c.args.call in
    let adds : Adds o records reply g.O.Recorded.is_accepted h c.args.pass c.args.call (Some c.args.frame) = c.requires.adds h k.stands in
    let said : c.accepted.result ≡ true = search rules in
    let good = accepted_fed g.O.Object.is_starved g.O.Recorded.is_accepted (λ s. reply h (entry c.args.pass c.args.call s)) c.apply-reply-2.result c.accepted.result g.met.O.Recorded.starved_alone
    (c.apply-reply-2.ensures.answered h k.stands) c.accepted.ensures said in
    weaker g.D.Disk.moment g.D.Disk.left_since c.args.file.now.disk c.append.new.self.disk (IsBeforeOrAfter (records h) (adds.payload ∷ [])) (HasEither (records h) (records (entry c.args.pass c.args.call false ∷ h)))
    (either o records reply g.O.Recorded.is_accepted h c.args.pass c.args.call adds.payload adds.adds good)
    (c.append.ensures.any_moment (records h) adds.payload k.settled (c.deref.ensures.value ∙ adds.is))

pub returns-clause-crash : goal.returns-clause-crash
returns-clause-crash g c h k =
    let n = g.O.Object.number c.args.object.now in
    let records = g.O.Recorded.records n in
    let reply = g.O.Object.reply n in
    let o = g.O.Recorded.payload_of n h c.args.pass c.args.call in
    let adds : Adds o records reply g.O.Recorded.is_accepted h c.args.pass c.args.call (Some c.args.frame) = c.requires.adds h k.stands in
    let said : c.accepted.result ≡ true = search rules in
    let good = accepted_fed g.O.Object.is_starved g.O.Recorded.is_accepted (λ s. reply h (entry c.args.pass c.args.call s)) c.apply-reply-2.result c.accepted.result g.met.O.Recorded.starved_alone
    (c.apply-reply-2.ensures.answered h k.stands) c.accepted.ensures said in
    weaker g.D.Disk.moment g.D.Disk.left_since c.args.file.now.disk c.append.new.self.disk (IsBeforeOrAfter (records h) (adds.payload ∷ [])) (HasEither (records h) (records (entry c.args.pass c.args.call false ∷ h)))
    (either o records reply g.O.Recorded.is_accepted h c.args.pass c.args.call adds.payload adds.adds good)
    (c.append.ensures.any_moment (records h) adds.payload k.settled (c.deref.ensures.value ∙ adds.is))
