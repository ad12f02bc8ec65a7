-- The line of each message reads back, where its parts are writable and it is nested at most 127 deep.
use Rattle.std.proofs.Common.{◌≡◌, ◌≤◌, ◌-◌, ◌++◌, ℕ, suc, true, Option, Ok, refl, sym, ap, subst, arith}
use Rattle.game_sheet.specs.MatchName.{Name}
use Rattle.game_sheet.specs.declared.act.Bye.{Bye}
use Rattle.json_back.specs.Told.{AreTold}
use Rattle.json_back.proofs.Telling.{writable_told}
use Rattle.json_tree.specs.Lines.{newline}
use Rattle.json_tree.specs.Writable.{IsWritable}
use Rattle.wire_json.specs.declared.server.ServerMsg.{ServerMsg}
use Rattle.wire_json.specs.declared.server.ServerMsg.TheVariants.{Sync, Update, Change, No, Bye as Farewell, Ok as Accepts}
use Rattle.wire_json.specs.ServerText.{text, server_members}
use Rattle.serde_json.specs.Data.{Data, object, depth}
use Rattle.serde_json.specs.Read.{max_depth}
use Rattle.serde_json.specs.Written.{compact_text}
use Rattle.sheet_json.specs.Seats.{IsWithin}
use Rattle.wire_json.specs.Acts.{is_object}
use Rattle.wire_json.specs.ChangeReading.{is_texts}
use Rattle.wire_json.specs.MatchText.{IsName}
use Rattle.wire_json.specs.ServerReading.{ServerFits, server_read}
use Rattle.wire_json.specs.declared.protocol.Protocol.{Protocol}
use Rattle.wire_json.specs.declared.protocol.Protocol.TheVariants.{One, Two}
use Rattle.wire_json.specs.declared.reason.Reason.{Reason}
use Rattle.wire_json.proofs.ServerLaws.{server_read_again}
use Rattle.wire_json.proofs.ServerTelling.{bye_told, change_told, no_told, ok_told, sync_told, update_told}
use Rattle.wire_json.proofs.ServerWriting.{is_line_form}
use Rattle.convergence.specs.Lines.{IsShallow, ReadsBack}

-- a message whose parts are in range
reads_as : (m : ServerMsg) → ServerFits m → AreTold (server_members m) → IsShallow m → ReadsBack m
unfolding text
reads_as m fits told shallow = server_read_again (compact_text (object (server_members m)) ++ newline) m (is_line_form m fits told shallow)

pub sync_reads : (name : Name) (seat : Option ℕ) (protocol : Protocol) (snapshot : Data) → IsName name → IsWithin 255 seat → IsWritable snapshot
    → IsShallow (Sync name seat protocol snapshot) → ReadsBack (Sync name seat protocol snapshot)
sync_reads name seat protocol snapshot named within w shallow =
    reads_as (Sync name seat protocol snapshot) (named, within) (sync_told name seat protocol snapshot named within (λ deep. writable_told snapshot w)) shallow

pub update_reads : (ctx entry g : Data) (number : ℕ) → IsWritable ctx → IsWritable entry → IsWritable g → number ≤ 4294967295
    → IsShallow (Update ctx entry g number) → ReadsBack (Update ctx entry g number)
update_reads ctx entry g number c e w n shallow =
    reads_as (Update ctx entry g number) n
    (update_told ctx entry g number (λ deep. writable_told ctx c) (λ deep. writable_told entry e) (λ deep. writable_told g w) n) shallow

pub change_reads : (ctx entry gone put : Data) (was : ℕ) → IsWritable ctx → IsWritable entry → IsWritable gone → IsWritable put
    → is_object ctx ≡ true → is_texts gone ≡ true → is_object put ≡ true → suc was ≤ 4294967295
    → IsShallow (Change ctx entry gone put (suc was)) → ReadsBack (Change ctx entry gone put (suc was))
change_reads ctx entry gone put was c e g p is_ctx is_gone is_put n shallow =
    reads_as (Change ctx entry gone put (suc was)) (is_ctx, is_gone, is_put, omega arith, n)
    (change_told ctx entry gone put (suc was) (λ deep. writable_told ctx c) (λ deep. writable_told entry e) (λ deep. writable_told gone g) (λ deep. writable_told put p) n) shallow

pub ok_reads : (number ticket : ℕ) → number ≤ 4294967295 → ticket ≤ 4294967295 → ReadsBack (Accepts number ticket)
ok_reads number ticket n t = reads_as (Accepts number ticket) (n, t) (ok_told number ticket n t) (omega arith)

pub no_reads : (number : ℕ) (reason : Reason) (ticket : ℕ) → number ≤ 4294967295 → ticket ≤ 4294967295 → ReadsBack (No number reason ticket)
no_reads number reason ticket n t = reads_as (No number reason ticket) (n, t) (no_told number reason ticket n t) (omega arith)

pub bye_reads : (why : Bye) → ReadsBack (Farewell why)
bye_reads why = reads_as (Farewell why) tt (bye_told why) (omega arith)
