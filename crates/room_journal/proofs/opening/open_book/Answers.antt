use Rattle.std.proofs.Common.{◌≡◌, List, ℕ, IfOk, IfErr, sym, subst}
use Rattle.any_game.specs.GameKind.{GameKind}
use Rattle.object_journal.specs.Opening.{IsOpened, IsRefused, StandsOpen}
use Rattle.record_file.specs.Records.{HasRecords}
use Rattle.record_file.proofs.Moments.{started}
use Rattle.room_history.specs.declared.call.RoomCall.{RoomCall}
use Rattle.room_object.specs.Entry.{Entry}
use Rattle.room_journal.specs.Coming.{ReadsBack, StandsIn}
use Rattle.room_journal.specs.Kept.{may_follow, room_records}
use Rattle.room_journal.specs.declared.room_book.RoomBook.{RoomBook}
use Rattle.room_journal.proofs.opening.open_book.Goals as goal

pub returns-in-Ok-clause-opened : goal.returns-in-Ok-clause-opened
returns-in-Ok-clause-opened g c told =
    let d = g.D.Disk in
    subst
    (λ (n : ℕ). IfOk c.open_for.result (λ k. (h : List (Entry (RoomCall GameKind))) × IsOpened (λ (b : RoomBook) (l : List (Entry (RoomCall GameKind))). StandsIn b.room b.book l) (λ (b : RoomBook) (l : List (Entry (RoomCall GameKind))). ReadsBack n l) (room_records n) (may_follow n) d.is_told d.seen d.may_leave c.args.disk k.object k.file.disk k.file.end k.broken h))
    c.in-Ok.ensures.room (c.open_for.ensures.opened told)

pub returns-in-Ok-clause-stands : goal.returns-in-Ok-clause-stands
returns-in-Ok-clause-stands g c =
    let d = g.D.Disk in
    subst
    (λ (n : ℕ). IfOk c.open_for.result (λ k. (h : List (Entry (RoomCall GameKind))) × StandsOpen (λ (b : RoomBook) (l : List (Entry (RoomCall GameKind))). StandsIn b.room b.book l) (λ (b : RoomBook) (l : List (Entry (RoomCall GameKind))). ReadsBack n l) (room_records n) (may_follow n) k.object k.file.end k.broken h
    × (d.is_told c.args.disk → IsOpened (λ (b : RoomBook) (l : List (Entry (RoomCall GameKind))). StandsIn b.room b.book l) (λ (b : RoomBook) (l : List (Entry (RoomCall GameKind))). ReadsBack n l) (room_records n) (may_follow n) d.is_told d.seen d.may_leave c.args.disk k.object k.file.disk k.file.end k.broken h)))
    c.in-Ok.ensures.room c.open_for.ensures.stands

pub returns-in-Ok-clause-room : goal.returns-in-Ok-clause-room
returns-in-Ok-clause-room g c = subst (λ (n : ℕ). IfOk c.open_for.result (λ k. k.object.room ≡ n)) c.in-Ok.ensures.room c.open_for.ensures.room

pub returns-in-Ok-clause-refused : goal.returns-in-Ok-clause-refused
returns-in-Ok-clause-refused g c =
    let d = g.D.Disk in
    subst (λ (n : ℕ). IfErr c.open_for.result (λ e. IsRefused (may_follow n) d.is_told d.seen d.faults c.args.disk e.1 e.0)) c.in-Ok.ensures.room c.open_for.ensures.refused

-- nothing has been done to the disk
pub returns-in-Err-clause-crash_err : goal.returns-in-Err-clause-crash_err
returns-in-Err-clause-crash_err g c told only records has =
    let d = g.D.Disk in
    started d.moment d.left_since c.args.disk (λ file. HasRecords file records) (d.may_leave c.args.disk) (λ file left. g.met.D.Disk.only_now c.args.disk file told left)
    (λ file leaves. subst (λ (l : List ℕ). HasRecords l records) (sym (only file leaves)) has)
