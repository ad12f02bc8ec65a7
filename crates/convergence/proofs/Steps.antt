-- What a client that follows makes of each line: the sync sets its snapshot, and an update or a change leads on to the next one.
use Rattle.std.proofs.Common.{◌≡◌, ◌+◌, ◌==◌, ℕ, true, false, List, [], ◌∷◌, ◌++◌, map, Option, Some, Ok, refl, ap, arith}
use Rattle.std.proofs.lemmas.Bool.Decides.{nat_tests}
use Rattle.std.specs.List.{AllByRecursion}
use Rattle.client_predict.specs.Client.{Client}
use Rattle.client_predict.specs.Reading.{begun, reads}
use Rattle.game_sheet.specs.MatchName.{Name}
use Rattle.game_sheet.specs.declared.sheet.Sheet.{Sheet}
use Rattle.game_trait.specs.Rules.{Rules}
use Rattle.move_log.specs.declared.entry.Entry.{Entry}
use Rattle.player_sight.specs.Change.{patched}
use Rattle.player_sight.specs.CtxData.{ctx_data}
use Rattle.player_sight.specs.EntryData.{entry_data}
use Rattle.player_sight.specs.declared.shown.Snapshot.{Snapshot}
use Rattle.room_history.specs.Showing.{newest_entry}
use Rattle.serde_json.specs.Data.{Data, array, no_items}
use Rattle.sight_reading.specs.CtxReading.{ctx_in}
use Rattle.sight_reading.specs.EntryReading.{entry_in}
use Rattle.sight_reading.specs.SnapshotReading.{snapshot_in}
use Rattle.wire_json.specs.ServerReading.{server_read}
use Rattle.wire_json.specs.declared.protocol.Protocol.{Protocol}
use Rattle.wire_json.specs.declared.server.ServerMsg.TheVariants as message

same : (n : ℕ) → (n == n) ≡ true
same n = grind (arith, nat_tests)

-- a client that sees a snapshot and waits for nothing
abbrev pub seeing : {G : Type 0} → Name → Option ℕ → Snapshot G → Client G
seeing name seat s = record { gone = false; playing = Some (begun name seat s) }

module _ {G : Type 0} (rules : Rules G) where
  pub reads_sync : (c : Client G) (line : List ℕ) (name : Name) (seat : Option ℕ) (protocol : Protocol) (d : Data) (s : Snapshot G)
      → server_read line ≡ Ok (message.Sync name seat protocol d) → snapshot_in rules d ≡ Some s → (reads rules c line).client ≡ seeing name seat s
  unfolding reads
  reads_sync c line name seat protocol d s read is = rw (read, is) refl

  pub reads_update : (line : List ℕ) (name : Name) (seat : Option ℕ) (s next : Snapshot G) (ctx entry g : Data) (e : Entry)
      → server_read line ≡ Ok (message.Update ctx entry g next.number)
      → ctx_in rules.sheet ctx ≡ Some next.ctx → entry_in rules.sheet entry ≡ Some e → rules.read g ≡ Some next.g
      → next.number ≡ s.number + 1 → next.log ≡ s.log ++ e ∷ []
      → (reads rules (seeing name seat s) line).client ≡ seeing name seat next
  unfolding reads
  reads_update line name seat s next ctx entry g e read is_ctx is_entry is_g number log =
      rw (read, is_ctx, is_entry, is_g, number, same (s.number + 1), log) refl

  pub reads_change : (line : List ℕ) (name : Name) (seat : Option ℕ) (s next : Snapshot G) (ctx entry gone put : Data) (e : Entry)
      → server_read line ≡ Ok (message.Change ctx entry gone put next.number)
      → entry_in rules.sheet entry ≡ Some e
      → ctx_in rules.sheet (patched (ctx_data rules.sheet s.ctx) (array no_items) ctx) ≡ Some next.ctx → rules.read (patched (rules.value s.g) gone put) ≡ Some next.g
      → next.number ≡ s.number + 1 → next.log ≡ s.log ++ e ∷ []
      → (reads rules (seeing name seat s) line).client ≡ seeing name seat next
  unfolding reads
  reads_change line name seat s next ctx entry gone put e read is_entry is_ctx is_g number log =
      rw (read, is_entry, number, same (s.number + 1), is_ctx, is_g, log) refl

-- ---- the newest entry

pub newest_last : (sheet : Sheet) (log : List Entry) (e : Entry) → newest_entry sheet (log ++ e ∷ []) ≡ entry_data sheet e
newest_last sheet [] e = refl
newest_last sheet (x ∷ []) e = refl
newest_last sheet (x ∷ y ∷ log) e = newest_last sheet (y ∷ log) e

pub map_last : {A B : Type 0} (f : A → B) (xs : List A) (x : A) → map f (xs ++ x ∷ []) ≡ map f xs ++ f x ∷ []
map_last f [] x = refl
map_last f (y ∷ xs) x = ap (λ l. f y ∷ l) (map_last f xs x)

-- the last of a list of which all have something has it
pub last_has : {A : Type 0} (P : A → Type 0) (xs : List A) (x : A) → AllByRecursion P (xs ++ x ∷ []) → P x
last_has P [] x h = h.0
last_has P (y ∷ xs) x h = last_has P xs x h.1
