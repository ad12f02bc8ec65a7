use Rattle.std.proofs.Common.{rules, ◌≡◌, ℕ, List, Option, None, subst}
use Rattle.room_object.specs.Entry.{Entry}
use Rattle.object_journal.specs.Keeping.{IsUnlessKept}
use Rattle.object_journal.proofs.Usable.{usable_after}
use Rattle.object_journal.proofs.kept_object.KeptObject.apply.Goals as goal

pub returns-in-Ok-None-clause-usable : goal.returns-in-Ok-None-clause-usable
returns-in-Ok-None-clause-usable g c =
    let object = c.args.self.now.object in
    let none : c.args.self.now.broken ≡ None = search rules in
    let stands = subst (λ (o : Option ℕ). IsUnlessKept o ((h : List (Entry g.row.O-Call.Denot)) × g.O.Object.stands_for object h)) none c.requires.stands in
    usable_after g.O.Object.stands_for (g.O.Object.reply (g.O.Object.number object)) g.O.Object.is_starved g.O.Recorded.is_accepted object c.answer.new.self.object
    stands.0 c.args.pass c.args.call c.answer.result _ _ _ _ _ none stands.1 (c.answer.ensures.stands stands.0 stands.1) c.answer.ensures.breaks c.answer.ensures.broken

pub returns-in-Ok-Some-clause-usable : goal.returns-in-Ok-Some-clause-usable
returns-in-Ok-Some-clause-usable g c =
    let object = c.args.self.now.object in
    let none : c.args.self.now.broken ≡ None = search rules in
    let stands = subst (λ (o : Option ℕ). IsUnlessKept o ((h : List (Entry g.row.O-Call.Denot)) × g.O.Object.stands_for object h)) none c.requires.stands in
    usable_after g.O.Object.stands_for (g.O.Object.reply (g.O.Object.number object)) g.O.Object.is_starved g.O.Recorded.is_accepted object c.keep.new.self.object
    stands.0 c.args.pass c.args.call c.keep.result _ _ _ _ _ none stands.1 (c.keep.ensures.stands stands.0 stands.1) c.keep.ensures.breaks c.keep.ensures.broken
