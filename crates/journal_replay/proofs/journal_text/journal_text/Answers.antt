use Rattle.std.proofs.Common.{List, ℕ, subst, sym}
use Rattle.record_file.specs.Records.{HasRecords}
use Rattle.journal_replay.proofs.Reading.{opens}
use Rattle.journal_replay.proofs.journal_text.journal_text.Goals as goal

pub returns-in-Ok-clause-replays : goal.returns-in-Ok-clause-replays
returns-in-Ok-clause-replays c =
    c.book_text.ensures.replays c.args.bytes.items
    (opens _ _ _ _ _ _ _ c.args.bytes.items c.count_records-count.result c.in-Ok.book.object c.in-Ok.ensures.room c.new-disk.ensures
    (λ records has. c.count_records-count.ensures records (subst (λ (l : List ℕ). HasRecords l records) (sym c.deref.ensures.value) has)) (c.in-Ok.ensures.opened tt))

pub returns-in-Ok-clause-unread : goal.returns-in-Ok-clause-unread
returns-in-Ok-clause-unread c = c.book_text.ensures.unread c.args.bytes.items
