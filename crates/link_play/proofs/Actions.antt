-- What an action comes to, by what was sent and printed.
use Rattle.std.proofs.Common.{◌≡◌, ◌≢◌, ℕ, List, ◌++◌, Bool, true, false, Option, Some, None, Ok, Err, refl, sym, ap, ◌∙◌, subst, inl, inr}
use Rattle.board_links.specs.declared.link.Came.{Came}
use Rattle.client_predict.specs.Acting.{act_no}
use Rattle.client_predict.specs.Client.{Client, Playing}
use Rattle.client_predict.specs.declared.told.ActNo.{ActNo}
use Rattle.client_predict.specs.declared.told.ActNo.TheVariants as act_no
use Rattle.game_trait.specs.Rules.{Rules}
use Rattle.world_history.specs.Words.{act_no_word}
use Rattle.wire_json.specs.declared.asked.Asked.{Asked}
use Rattle.link_play.specs.Acting.{ActsOn}
use Rattle.link_play.specs.Commands.{Acts}
use Rattle.link_play.specs.Doing.{Who, act_line, acted_text, acts, acts_by, acted_word, key_of, with_action}
use Rattle.link_play.specs.Pieces.{Flow, Prints, Sends}
use Rattle.link_play.specs.Sitting.{Sitting, becomes, on_line, prints}
use Rattle.link_play.specs.Stopping.{Did, StopsActing, StopsPrinting, StopsSending}
use Rattle.link_play.specs.declared.stop.Stop.{Stop}
use Rattle.link_play.specs.declared.stop.Stop.TheVariants as stop

module _ {G : Type 0} where
  -- a line that wasn't sent whole
  pub part_sent : (why : Stop) (line : List ℕ) (s : Sitting G) (c : Client G) (printed sent : List ℕ) (heard : List Came) → c ≡ s.client → printed ≡ s.printed → heard ≡ s.heard
      → Sends (Err why) line s.sent sent → StopsSending why line s (record { client = c; printed = printed; sent = sent; heard = heard })
  part_sent stop.LinkFault line s c printed sent heard e f g h = (h.0, rw (e, f, g, h.1) refl)
  part_sent stop.NoMemory line s c printed sent heard e f g h = (h.0, rw (e, f, g, h.1) refl)
  part_sent stop.WriteFault line s c printed sent heard e f g h = absurd h
  part_sent stop.LinkEnded line s c printed sent heard e f g h = absurd h
  part_sent stop.LinkLong line s c printed sent heard e f g h = absurd h

  -- a text that wasn't printed whole
  pub part_printed : (why : Stop) (text : List ℕ) (s : Sitting G) (c : Client G) (printed sent : List ℕ) (heard : List Came) → c ≡ s.client → sent ≡ s.sent → heard ≡ s.heard
      → Prints (Err why) text s.printed printed → StopsPrinting why text s (record { client = c; printed = printed; sent = sent; heard = heard })
  part_printed stop.WriteFault text s c printed sent heard e f g h = (h.0, rw (e, f, g, h.1) refl)
  part_printed stop.LinkFault text s c printed sent heard e f g h = absurd h
  part_printed stop.LinkEnded text s c printed sent heard e f g h = absurd h
  part_printed stop.LinkLong text s c printed sent heard e f g h = absurd h
  part_printed stop.NoMemory text s c printed sent heard e f g h = absurd h

  pub all_printed : (text : List ℕ) (s : Sitting G) (c : Client G) (printed sent : List ℕ) (heard : List Came) → c ≡ s.client → sent ≡ s.sent → heard ≡ s.heard
      → printed ≡ s.printed ++ text → (let t : Sitting G = record { client = c; printed = printed; sent = sent; heard = heard } in t) ≡ prints s text
  all_printed text s c printed sent heard e f g h = rw (e, f, g, h) refl

not_synced : act_no.NotSynced ≡ act_no.NoMemory → ⊥
not_synced e = cc

not_gone : act_no.Gone ≡ act_no.NoMemory → ⊥
not_gone e = cc

not_many : act_no.TooManyWaiting ≡ act_no.NoMemory → ⊥
not_many e = cc

module _ {G : Type 0} (rules : Rules G) (key : Option (List ℕ)) (asked : Asked) where
  -- an action that the client didn't make
  abbrev Refuses : ActNo → Sitting G → Bool → Type 0
  Refuses why s starved = (acts rules key starved s asked ≡ s) × (acted_text rules starved s.client asked ≡ on_line (act_no_word why))

  by_no : (why : ActNo) (s : Sitting G) → act_no s.client.gone s.client.playing ≡ Some why → Refuses why s false
  by_no why s e = (
    ap (λ o. acts_by rules key s asked o s.client.playing) e,
    ap (λ o. on_line (acted_word rules asked o s.client.playing)) e,
  )

  refuses : (why : ActNo) (s : Sitting G) → (why ≢ act_no.NoMemory → act_no s.client.gone s.client.playing ≡ Some why) → (starved : Bool) × Refuses why s starved
  refuses act_no.NoMemory s h = (true, (refl, refl))
  refuses act_no.NotSynced s h = (false, by_no act_no.NotSynced s (h not_synced))
  refuses act_no.Gone s h = (false, by_no act_no.Gone s (h not_gone))
  refuses act_no.TooManyWaiting s h = (false, by_no act_no.TooManyWaiting s (h not_many))

  pub refused : (why : ActNo) (r : Flow) (s : Sitting G) (c : Client G) (printed sent : List ℕ) (heard : List Came) → (why ≢ act_no.NoMemory → act_no s.client.gone s.client.playing ≡ Some why)
      → c ≡ s.client → sent ≡ s.sent → heard ≡ s.heard → Prints r (on_line (act_no_word why)) s.printed printed
      → ActsOn rules key asked r s (record { client = c; printed = printed; sent = sent; heard = heard })
  refused why (Ok done) s c printed sent heard unless e f g h =
      let w = refuses why s unless in
      (w.0, all_printed (on_line (act_no_word why)) s c printed sent heard e f g h ∙ sym (ap (λ m. prints m (acted_text rules w.0 s.client asked)) w.1.0 ∙ ap (prints s) w.1.1))
  refused why (Err how) s c printed sent heard unless e f g h =
      let w = refuses why s unless in
      let t : Sitting G = record { client = c; printed = printed; sent = sent; heard = heard } in
      inr (
        w.0,
        subst (λ m. StopsPrinting how (acted_text rules w.0 s.client asked) m t) (sym w.1.0)
            (subst (λ text. StopsPrinting how text s t) (sym w.1.1) (part_printed how (on_line (act_no_word why)) s c printed sent heard e f g h)),
      )

  -- the line of an action that the client made wasn't sent whole
  pub unsent : (why : Stop) (s : Sitting G) (p : Playing G) (line : List ℕ) (c : Client G) (printed sent : List ℕ) (heard : List Came) → s.client.playing ≡ Some p → act_no s.client.gone s.client.playing ≡ None
      → line ≡ act_line rules key p asked → c ≡ with_action rules s.client p asked → printed ≡ s.printed → heard ≡ s.heard → Sends (Err why) line s.sent sent
      → ActsOn rules key asked (Err why) s (record { client = c; printed = printed; sent = sent; heard = heard })
  unsent why s p line c printed sent heard played may is e f g h =
      let t : Sitting G = record { client = c; printed = printed; sent = sent; heard = heard } in
      inl (
        p,
        played,
        may,
        subst (λ l. StopsSending why l (becomes s (with_action rules s.client p asked)) t) is
            (part_sent why line (becomes s (with_action rules s.client p asked)) c printed sent heard e f g h),
      )

-- by a viewer's key
pub acts_did : {G : Type 0} (rules : Rules G) (who : Who) (key : Option (List ℕ)) (asked : Asked) (r : Flow) (s t : Sitting G) → key ≡ key_of who.viewer → ActsOn rules key asked r s t
    → Did rules who (Acts asked) r s t
acts_did rules who key asked (Ok done) s t e h = subst (λ k. ActsOn rules k asked (Ok done) s t) e h
acts_did rules who key asked (Err why) s t e h = subst (λ k. StopsActing rules k why asked s t) e h
