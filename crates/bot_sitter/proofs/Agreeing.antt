-- A client that acts in between, and reads verdicts and direct answers too, has settled nothing, as long as it isn't gone, but what a client has
-- that makes no act and passes those lines over.
use Rattle.std.proofs.Common.{◌≡◌, ◌==◌, ◌+◌, ◌++◌, ℕ, Bool, true, false, cond, if◌then◌else◌, List, [], ◌∷◌, Option, Some, None, refl, sym, ap, subst, ◌∙◌}
use Rattle.std.specs.Prelude.{position, option_and_then, option_map, Result, Ok, Err}
use Rattle.client_predict.specs.Client.{Client, Playing, fresh}
use Rattle.client_predict.specs.Reading.{change_in, change_onto, changed, goes_on, has_ticket, hears, hears_line, lost, only_told, reads, settled_by, settles, synced, unless_gone, updated, verdict, answered, taken}
use Rattle.client_predict.specs.declared.told.FeedNo.{FeedNo}
use Rattle.client_predict.specs.declared.told.FeedNo.TheVariants as no
use Rattle.client_predict.specs.declared.told.Told.{Told}
use Rattle.client_predict.specs.declared.told.Told.TheVariants.{Updated}
use Rattle.client_predict.specs.declared.told.Told.TheVariants as told
use Rattle.game_sheet.specs.MatchName.{Name}
use Rattle.game_trait.specs.Rules.{Rules}
use Rattle.move_log.specs.declared.entry.Entry.{Entry}
use Rattle.player_sight.specs.declared.shown.Snapshot.{Snapshot}
use Rattle.serde_json.specs.Data.{Data}
use Rattle.sight_reading.specs.EntryReading.{entry_in}
use Rattle.sight_reading.specs.SnapshotReading.{snapshot_in}
use Rattle.wire_json.specs.Refusals.{Refusal}
use Rattle.wire_json.specs.ServerReading.{server_read}
use Rattle.wire_json.specs.declared.server.ServerMsg.{ServerMsg}
use Rattle.wire_json.specs.declared.server.ServerMsg.TheVariants as message
use Rattle.client_predict.specs.Following.{followed, is_told, reads_all, told_lines}
use Rattle.bot_sitter.specs.Hears.{begins_by, client_after, clients_after}
use Rattle.bot_sitter.specs.Seen.{Agrees, sees, sees_in}
use Rattle.std.specs.Option.{option_map_or}

module _ {G : Type 0} (rules : Rules G) where
  abbrev client : Bool → Option (Playing G) → Client G
  client gone playing = record { gone = gone; playing = playing }

  -- ---- what a message that tells of the match makes of what is settled

  abbrev change_seen : Option Entry → Data → Data → Data → ℕ → Snapshot G → Option (Snapshot G)
  change_seen None ctx gone put number s = None
  change_seen (Some entry) ctx gone put number s = if number == s.number + 1 then option_map (λ change. settled_by s change number) (change_onto rules s entry ctx gone put) else None

  abbrev see : ServerMsg → Option (Snapshot G) → Option (Snapshot G)
  see (message.Sync name seat protocol snapshot) old = snapshot_in rules snapshot
  see (message.Update ctx entry g number) old =
      option_and_then (λ (s : Snapshot G). option_and_then (λ change. if number == s.number + 1 then Some (settled_by s change number) else None) (change_in rules ctx entry g)) old
  see (message.Change ctx entry gone put number) old =
      option_and_then (λ (s : Snapshot G). change_seen (entry_in rules.sheet entry) ctx gone put number s) old
  see other old = None

  -- ---- a message that tells of the match

  synced_seen : (c : Client G) (name : Name) (seat : Option ℕ) (read : Option (Snapshot G)) → sees (synced c name seat read).client ≡ read
  synced_seen c name seat None = refl
  synced_seen c name seat (Some s) = refl

  step_by : (b : Bool) (p : Playing G) (change : _) (number : ℕ) (why : FeedNo)
      → sees (cond b (goes_on (client false (Some p)) Updated (settles p (settled_by p.settled change number))) (lost (client false (Some p)) why)).client
      ≡ cond b (Some (settled_by p.settled change number)) None
  step_by true p change number why = refl
  step_by false p change number why = refl

  unstarted_seen : (change : _) (number : ℕ) → sees (updated (client false None) None change number).client ≡ None
  unstarted_seen None number = refl
  unstarted_seen (Some change) number = refl

  updated_seen : (p : Playing G) (change : _) (number : ℕ) → sees (updated (client false (Some p)) (Some p) change number).client
      ≡ option_and_then (λ change. if number == p.settled.number + 1 then Some (settled_by p.settled change number) else None) change
  updated_seen p None number = refl
  updated_seen p (Some change) number = step_by (number == p.settled.number + 1) p change number (no.OutOfStep p.settled.number number)

  taken_by : (b : Bool) (p : Playing G) (change : _) (number : ℕ) (why : FeedNo)
      → sees (cond b (option_map_or (λ change. taken (client false (Some p)) (Some p) change number) change (lost (client false (Some p)) no.BadLine)) (lost (client false (Some p)) why)).client ≡ cond b (option_map (λ change. settled_by p.settled change number) change) None
  taken_by true p None number why = refl
  taken_by true p (Some change) number why = refl
  taken_by false p change number why = refl

  changed_seen : (p : Playing G) (entry : Option Entry) (ctx gone put : Data) (number : ℕ)
      → sees (changed rules (client false (Some p)) (Some p) entry ctx gone put number).client ≡ change_seen entry ctx gone put number p.settled
  changed_seen p None ctx gone put number = refl
  changed_seen p (Some entry) ctx gone put number = taken_by (number == p.settled.number + 1) p (change_onto rules p.settled entry ctx gone put) number (no.OutOfStep p.settled.number number)

  unstarted_change : (entry : Option Entry) (ctx gone put : Data) (number : ℕ) → sees (changed rules (client false None) None entry ctx gone put number).client ≡ None
  unstarted_change None ctx gone put number = refl
  unstarted_change (Some entry) ctx gone put number = refl

  told_seen : (g : Bool) (playing : Option (Playing G)) (m : ServerMsg) → is_told (Ok m) ≡ true → sees (hears rules (client g playing) m).client ≡ see m (sees (client g playing))
  told_seen g playing (message.Sync name seat protocol snapshot) t = synced_seen (client g playing) name seat (snapshot_in rules snapshot)
  told_seen true playing (message.Update ctx entry g number) t = refl
  told_seen false None (message.Update ctx entry g number) t = unstarted_seen (change_in rules ctx entry g) number
  told_seen false (Some p) (message.Update ctx entry g number) t = updated_seen p (change_in rules ctx entry g) number
  told_seen true playing (message.Change ctx entry gone put number) t = refl
  told_seen false None (message.Change ctx entry gone put number) t = unstarted_change (entry_in rules.sheet entry) ctx gone put number
  told_seen false (Some p) (message.Change ctx entry gone put number) t = changed_seen p (entry_in rules.sheet entry) ctx gone put number
  told_seen true playing (message.Bye why) t = refl
  told_seen false playing (message.Bye why) t = refl
  told_seen g playing (message.Games names) t = cc
  told_seen g playing (message.Matches rows) t = cc
  told_seen g playing (message.Match row) t = cc
  told_seen g playing (message.Created name) t = cc
  told_seen g playing (message.Joined key name seat) t = cc
  told_seen g playing (message.Renamed name seat) t = cc
  told_seen g playing (message.Left name seat) t = cc
  told_seen g playing (message.Asked name seat) t = cc
  told_seen g playing (message.Ok number ticket) t = cc
  told_seen g playing (message.No number reason ticket) t = cc
  told_seen g playing (message.Again ticket) t = cc
  told_seen g playing (message.Refused why) t = cc

  -- ---- verdicts and direct answers

  verdict_kept : (p : Playing G) (place : Option ℕ) (ticket : ℕ) (told : Told) (s : Snapshot G)
      → sees (option_map_or (λ place. goes_on (client false (Some p)) told (answered p place)) place (lost (client false (Some p)) (no.UnknownTicket ticket))).client ≡ Some s → Some p.settled ≡ Some s
  verdict_kept p None ticket told s e = cc
  verdict_kept p (Some place) ticket told s e = e

  verdict_seen : (g : Bool) (playing : Option (Playing G)) (ticket : ℕ) (told : Told) (s : Snapshot G)
      → sees (unless_gone (client g playing) (verdict (client g playing) playing ticket told)).client ≡ Some s → sees (client g playing) ≡ Some s
  verdict_seen true playing ticket told s e = cc
  verdict_seen false None ticket told s e = cc
  verdict_seen false (Some p) ticket told s e = verdict_kept p (position (has_ticket ticket) p.waiting) ticket told s e

  only_seen : (g : Bool) (playing : Option (Playing G)) (told : Told) (s : Snapshot G)
      → sees (unless_gone (client g playing) (only_told (client g playing) told)).client ≡ Some s → sees (client g playing) ≡ Some s
  only_seen true playing told s e = cc
  only_seen false playing told s e = e

  untold_seen : (g : Bool) (playing : Option (Playing G)) (m : ServerMsg) → is_told (Ok m) ≡ false → (s : Snapshot G) → sees (hears rules (client g playing) m).client ≡ Some s → sees (client g playing) ≡ Some s
  untold_seen g playing (message.Ok number ticket) t s e = verdict_seen g playing ticket (told.Accepted ticket) s e
  untold_seen g playing (message.No number reason ticket) t s e = verdict_seen g playing ticket (told.Refused ticket reason) s e
  untold_seen g playing (message.Again None) t s e = only_seen g playing (told.Again None) s e
  untold_seen g playing (message.Again (Some ticket)) t s e = verdict_seen g playing ticket (told.Again (Some ticket)) s e
  untold_seen g playing (message.Games names) t s e = only_seen g playing told.Other s e
  untold_seen g playing (message.Matches rows) t s e = only_seen g playing told.Other s e
  untold_seen g playing (message.Match row) t s e = only_seen g playing told.Other s e
  untold_seen g playing (message.Created name) t s e = only_seen g playing told.Other s e
  untold_seen g playing (message.Joined key name seat) t s e = only_seen g playing told.Other s e
  untold_seen g playing (message.Renamed name seat) t s e = only_seen g playing told.Other s e
  untold_seen g playing (message.Left name seat) t s e = only_seen g playing told.Other s e
  untold_seen g playing (message.Asked name seat) t s e = only_seen g playing told.Other s e
  untold_seen g playing (message.Refused why) t s e = only_seen g playing told.Other s e
  untold_seen g playing (message.Sync name seat protocol snapshot) t s e = cc
  untold_seen g playing (message.Update ctx entry state number) t s e = cc
  untold_seen g playing (message.Change ctx entry gone put number) t s e = cc
  untold_seen g playing (message.Bye why) t s e = cc

  -- ---- a line, and lines

  more_settled : (next : Snapshot G → Option (Snapshot G)) (a b : Option (Snapshot G)) → ((s : Snapshot G) → a ≡ Some s → b ≡ Some s)
      → (s : Snapshot G) → option_and_then next a ≡ Some s → option_and_then next b ≡ Some s
  more_settled next None b h s e = cc
  more_settled next (Some x) b h s e = ap (option_and_then next) (h x refl) ∙ e

  see_more : (m : ServerMsg) → is_told (Ok m) ≡ true → (a b : Option (Snapshot G)) → ((s : Snapshot G) → a ≡ Some s → b ≡ Some s) → (s : Snapshot G) → see m a ≡ Some s → see m b ≡ Some s
  see_more (message.Sync name seat protocol snapshot) t a b h s e = e
  see_more (message.Update ctx entry g number) t a b h s e = more_settled (λ (s : Snapshot G). option_and_then (λ change. if number == s.number + 1 then Some (settled_by s change number) else None) (change_in rules ctx entry g)) a b h s e
  see_more (message.Change ctx entry gone put number) t a b h s e = more_settled (change_seen (entry_in rules.sheet entry) ctx gone put number) a b h s e
  see_more (message.Bye why) t a b h s e = cc
  see_more (message.Games names) t a b h s e = cc
  see_more (message.Matches rows) t a b h s e = cc
  see_more (message.Match row) t a b h s e = cc
  see_more (message.Created name) t a b h s e = cc
  see_more (message.Joined key name seat) t a b h s e = cc
  see_more (message.Renamed name seat) t a b h s e = cc
  see_more (message.Left name seat) t a b h s e = cc
  see_more (message.Asked name seat) t a b h s e = cc
  see_more (message.Ok number ticket) t a b h s e = cc
  see_more (message.No number reason ticket) t a b h s e = cc
  see_more (message.Again ticket) t a b h s e = cc
  see_more (message.Refused why) t a b h s e = cc

  -- the other reads a line that tells of the match, and passes any other over
  abbrev passes : Client G → Bool → List ℕ → Client G
  passes d test line = if test then (reads rules d line).client else d

  by_told : (b : Bool) (c d : Client G) (m : ServerMsg) → is_told (Ok m) ≡ b → Agrees (Some c) d
      → Agrees (Some (hears rules c m).client) (if b then (hears rules d m).client else d)
  by_told true c d m t h s e =
      told_seen d.gone d.playing m t ∙ see_more m t (sees c) (sees d) h s (sym (told_seen c.gone c.playing m t) ∙ e)
  by_told false c d m t h s e = h s (untold_seen c.gone c.playing m t s e)

  bad_seen : (g : Bool) (playing : Option (Playing G)) (s : Snapshot G) → sees (unless_gone (client g playing) (lost (client g playing) no.BadLine)).client ≡ Some s → ⊥
  bad_seen true playing s e = cc
  bad_seen false playing s e = cc

  by_read : (read : Result ServerMsg Refusal) (c d : Client G) → Agrees (Some c) d
      → Agrees (Some (hears_line rules c read).client) (if is_told read then (hears_line rules d read).client else d)
  by_read (Ok m) c d h s e = by_told (is_told (Ok m)) c d m refl h s e
  by_read (Err fault) c d h s e = absurd (bad_seen c.gone c.playing s e)

  begun_seen : (read : Result ServerMsg Refusal) (s : Snapshot G) → sees_in {G = G} (begins_by read) ≡ Some s → ⊥
  begun_seen (Ok (message.Joined key name seat)) s e = cc
  begun_seen (Ok (message.Games names)) s e = cc
  begun_seen (Ok (message.Matches rows)) s e = cc
  begun_seen (Ok (message.Match row)) s e = cc
  begun_seen (Ok (message.Created name)) s e = cc
  begun_seen (Ok (message.Renamed name seat)) s e = cc
  begun_seen (Ok (message.Left name seat)) s e = cc
  begun_seen (Ok (message.Asked name seat)) s e = cc
  begun_seen (Ok (message.Sync name seat protocol snapshot)) s e = cc
  begun_seen (Ok (message.Update ctx entry g number)) s e = cc
  begun_seen (Ok (message.Change ctx entry gone put number)) s e = cc
  begun_seen (Ok (message.Ok number ticket)) s e = cc
  begun_seen (Ok (message.No number reason ticket)) s e = cc
  begun_seen (Ok (message.Again ticket)) s e = cc
  begun_seen (Ok (message.Refused why)) s e = cc
  begun_seen (Ok (message.Bye why)) s e = cc
  begun_seen (Err fault) s e = cc

  pub agrees_line : (c : Option (Client G)) (d : Client G) (line : List ℕ) → Agrees c d → Agrees (client_after rules c line) (passes d (is_told (server_read line)) line)
  unfolding reads
  agrees_line None d line h s e = absurd (begun_seen (server_read line) s e)
  agrees_line (Some c) d line h s e = by_read (server_read line) c d h s e

  told_next : (b : Bool) (d : Client G) (line : List ℕ) (lines : List (List ℕ))
      → reads_all rules d (if b then line ∷ lines else lines) ≡ reads_all rules (if b then (reads rules d line).client else d) lines
  told_next true d line lines = refl
  told_next false d line lines = refl

  pub agrees_all : (lines : List (List ℕ)) (c : Option (Client G)) (d : Client G) → Agrees c d → Agrees (clients_after rules c lines) (reads_all rules d (told_lines lines))
  agrees_all [] c d h = h
  agrees_all (line ∷ lines) c d h =
      subst (Agrees (clients_after rules (client_after rules c line) lines)) (sym (told_next (is_told (server_read line)) d line (told_lines lines)))
      (agrees_all lines (client_after rules c line) (passes d (is_told (server_read line)) line) (agrees_line c d line h))

  reads_on : (d : Client G) (ls ms : List (List ℕ)) → reads_all rules d (ls ++ ms) ≡ reads_all rules (reads_all rules d ls) ms
  reads_on d [] ms = refl
  reads_on d (line ∷ ls) ms = reads_on (reads rules d line).client ls ms

told_by : (b : Bool) (line : List ℕ) (ls ms : List (List ℕ)) → told_lines (ls ++ ms) ≡ told_lines ls ++ told_lines ms
    → (if b then line ∷ told_lines (ls ++ ms) else told_lines (ls ++ ms)) ≡ (if b then line ∷ told_lines ls else told_lines ls) ++ told_lines ms
told_by true line ls ms e = ap (λ more. line ∷ more) e
told_by false line ls ms e = e

pub told_append : (ls ms : List (List ℕ)) → told_lines (ls ++ ms) ≡ told_lines ls ++ told_lines ms
told_append [] ms = refl
told_append (line ∷ ls) ms = told_by (is_told (server_read line)) line ls ms (told_append ls ms)

-- more lines were sent, and the bot's client read them all
pub agrees_more : {G : Type 0} (rules : Rules G) (before more all : List (List ℕ)) (c : Option (Client G)) → all ≡ before ++ more → Agrees c (followed rules before)
    → Agrees (clients_after rules c more) (followed rules all)
agrees_more rules before more all c e h =
    subst (Agrees (clients_after rules c more)) (sym (ap (followed rules) e ∙ ap (reads_all rules fresh) (told_append before more) ∙ reads_on rules fresh (told_lines before) (told_lines more)))
    (agrees_all rules more c (followed rules before) h)
