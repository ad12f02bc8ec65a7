-- A line that the driver heard over books is a line that a hall heard.
use Rattle.std.proofs.Common.{◌≡◌, ℕ, List, length, None, inl, inr, sym, ap, ◌∙◌, subst}
use Rattle.any_game.specs.AnyRules.{named}
use Rattle.any_game.specs.GameKind.{GameKind}
use Rattle.game_hall.specs.Core.{Core, heard, is_again, plain, starved, written}
use Rattle.game_hall.specs.Words.{next_action}
use Rattle.game_hall.specs.Counts.{accepts, refuses}
use Rattle.session_driver.specs.Counts.{counted}
use Rattle.hall_history.specs.Hall.{Hall}
use Rattle.hall_history.specs.Rooms.{Rooms}
use Rattle.wire_json.specs.ClientReading.{client_read}
use Rattle.session_driver.specs.Hearing.{Draws, Hears, HearsLine, Side, side}
use Rattle.session_driver.specs.Calls.{Did}
use Rattle.session_hall.specs.Requests.{with_calls}
use Rattle.session_hall.proofs.Requests.{HearsRequest, IsReady, Runs}
use Rattle.session_driver.specs.declared.tally.Tally.{Tally}
use Rattle.session_driver.proofs.Along.{none_called, none_made}
use Rattle.session_hall.proofs.Hearing.{hears_served, hears_unread}
use Rattle.session_hall.proofs.Books.{Books}
use Rattle.session_hall.proofs.RunsBooks.{calls_book, hall_runs}
use Rattle.session_driver.proofs.Steps.{line_keeps, line_settled}

module _ (words : ℕ → List ℕ) (h : Hall GameKind) (pass : ℕ) (line : List ℕ) (c : Core GameKind) (books : Books) (before : Draws)
    (r : IsReady words h pass c books (next_action before.words).left before.seed) where
  many : c.rooms ≡ length books
  many = ap (λ (x : Core GameKind). x.rooms) r.is_core ∙ sym r.are_books.count

  served : (now : Core GameKind) (d : Core GameKind) (next : Rooms GameKind) (after : Books) (tally : Tally) → now ≡ heard named c (client_read line) (next_action before.words).left before.seed
      → Runs now.pass now h.rooms next d after tally → HearsRequest words h pass (client_read line) (plain d) after (written d) (is_again d.said) tally next
  served now d next after tally e ran = hears_served words h pass (client_read line) c books (next_action before.words).left before.seed r next after now d tally e ran

  abbrev Comes : Core GameKind → Tally → Books → Rooms GameKind → Type 0
  Comes d tally after next = HearsRequest words h pass (client_read line) (plain d) after (written d) (is_again d.said) tally next

  pub hall_hears_line : (d : Core GameKind) (after : Books) (left : Draws) (tally : Tally) → (k : Hears calls_book line (side books c) before (side after d) left tally)
      → Comes d tally after (with_calls pass k.runs.makes.all h.rooms)
  hall_hears_line d after left tally k = by k.line_heard
    where
      quiet : c.said ≡ None
      quiet = ap (λ (x : Core GameKind). x.said) r.is_core

      by : HearsLine line c before k.core k.left → Comes d tally after (with_calls pass k.runs.makes.all h.rooms)
      by (inl e) =
          let settled = line_settled line c before k.core k.left quiet (inl e) in
          let keeps = line_keeps line c before k.core k.left (inl e) in
          let rooms_are : k.core.rooms ≡ length books = keeps.0 ∙ many in
          let same_pass : k.core.pass ≡ pass = keeps.1 ∙ ap (λ (x : Core GameKind). x.pass) r.is_core in
          subst (λ (p : ℕ). Comes d tally after (with_calls p k.runs.makes.all h.rooms)) same_pass
          (served k.core d (with_calls k.core.pass k.runs.makes.all h.rooms) after tally e.0 (hall_runs k.core h.rooms books tally d after r.are_books settled rooms_are k.runs))
      by (inr e) =
          let none : k.core.call ≡ None = ap (λ (y : Core GameKind). y.call) e.0 in
          let stays : side after d ≡ side books k.core = none_made calls_book (side books k.core) k.runs.makes.all (side after d) none k.runs.makes.made in
          let zero_made = none_called calls_book (side books k.core) k.runs.makes.all (side after d) none k.runs.makes.made in
          let is : d ≡ starved c None = ap (λ (y : Side Books). y.core) stays ∙ e.0 in
          subst (λ (all : List Did). Comes d tally after (with_calls pass all h.rooms)) (sym zero_made)
          (subst (λ (bs : Books). Comes d tally bs h.rooms) (sym (ap (λ (y : Side Books). y.rooms) stays))
          (hears_unread words h pass (client_read line) c books (next_action before.words).left before.seed r d is tally
          (k.runs.makes.accepted ∙ ap (counted accepts) zero_made) (k.runs.makes.refused ∙ ap (counted refuses) zero_made)))
