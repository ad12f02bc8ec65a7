-- A session's message comes to what hall_history says, by the mark of how it went.
use Rattle.std.proofs.Common.{◌≡◌, ℕ, ◌+◌, Bool, List, length, Option, Some, None, Result, refl, sym, ap, ◌∙◌, subst}
use Rattle.any_game.specs.AnyRules.{any_rules, named}
use Rattle.any_game.specs.GameKind.{GameKind}
use Rattle.game_hall.specs.Core.{Core, heard, is_again, plain, starved, written}
use Rattle.game_hall.specs.Requests.{hears}
use Rattle.hall_history.specs.Hall.{Hall, begun, core_of, request}
use Rattle.hall_history.specs.Mark.{Unread}
use Rattle.hall_history.specs.Rooms.{Rooms}
use Rattle.session_hall.specs.Held.{AreBooks}
use Rattle.session_hall.specs.Requests.{Tallies}
use Rattle.session_hall.proofs.Requests.{HearsRequest, IsReady, Runs, RunsTo, Want, luck_of, mark_of}
use Rattle.session_driver.specs.declared.tally.Tally.{Tally}
use Rattle.session_hall.proofs.Books.{Books}
use Rattle.session_hall.proofs.Running.{Lucks, added_none, runs, with_luck}
use Rattle.session_driver.proofs.Steps.{moved_keeps}
use Rattle.wire_json.specs.Refusals.{Refusal as Fault}
use Rattle.wire_json.specs.declared.client.ClientMsg.{ClientMsg}

module _ (words : ℕ → List ℕ) (h : Hall GameKind) (pass : ℕ) (read : Result ClientMsg Fault) where
  abbrev begun_core : Core GameKind
  begun_core = begun named words h pass read

  request_of : (want : Want) → request named any_rules words (mark_of want) h pass read ≡ runs (length h.rooms + 1) pass begun_core (with_luck h.rooms (luck_of want))
  request_of None = refl
  request_of (Some want) = refl

  module _ (c : Core GameKind) (books : Books) (left : List ℕ) (seed : Option (List ℕ)) (r : IsReady words h pass c books left seed) where
    -- it was read, and its request ran to the end
    module _ (next : Rooms GameKind) (after : Books) (now d : Core GameKind) (tally : Tally) (e : now ≡ heard named c read left seed) (ran : Runs now.pass now h.rooms next d after tally) where
      is_begun : now ≡ begun_core
      is_begun =
          e ∙ ap (λ x. heard named x read left seed) r.is_core ∙ ap (λ l. heard named (core_of h pass) read l seed) r.are_words
          ∙ ap (λ s. heard named (core_of h pass) read (words h.place) s) r.is_seed

      same_pass : now.pass ≡ pass
      same_pass = ap (λ (x : Core GameKind). x.pass) is_begun ∙ (moved_keeps (core_of h pass) (hears named (length h.rooms) (h.at pass) read (words h.place) h.seed)).1

      goes : RunsTo (length h.rooms + 1) pass begun_core h.rooms d next
      goes = subst (λ x. RunsTo (length h.rooms + 1) pass x h.rooms d next) is_begun (subst (λ p. RunsTo (length h.rooms + 1) p now h.rooms d next) same_pass ran.goes)

      core_is : (request named any_rules words (mark_of goes.want) h pass read).0 ≡ d
      core_is = ap (λ (x : Core GameKind × Lucks). x.0) (request_of goes.want) ∙ goes.core

      rooms_are : (request named any_rules words (mark_of goes.want) h pass read).1.rooms ≡ next
      rooms_are = ap (λ (x : Core GameKind × Lucks). x.1.rooms) (request_of goes.want) ∙ goes.left

      pub hears_served : HearsRequest words h pass read (plain d) after (written d) (is_again d.said) tally next
      hears_served = record {
        mark = mark_of goes.want;
        stand = subst (λ x. AreBooks after x) (sym rooms_are) ran.stand;
        core = ap (λ x. plain x) (sym core_is);
        text = ap (λ x. written x) (sym core_is);
        want = ap (λ (x : Core GameKind). is_again x.said) (sym core_is);
        tallies = subst (λ x. Tallies h.rooms tally x) (sym rooms_are) ran.tallies;
        rooms = rooms_are;
      }

    -- there was no memory to read it
    pub hears_unread : (now : Core GameKind) → now ≡ starved c None → (tally : Tally) → tally.accepted ≡ 0 → tally.refused ≡ 0
        → HearsRequest words h pass read (plain now) books (written now) (is_again now.said) tally h.rooms
    hears_unread now e tally none never =
        let is : now ≡ starved (core_of h pass) None = e ∙ ap (λ x. starved x None) r.is_core in
        record {
          mark = Unread;
          stand = r.are_books;
          core = ap (λ x. plain x) is;
          text = ap (λ x. written x) is;
          want = ap (λ (x : Core GameKind). is_again x.said) is;
          tallies = record { accepted = added_none _ tally.accepted none; refused = added_none _ tally.refused never };
          rooms = refl;
        }

  -- it was answered so
  pub hears_as : (d now : Core GameKind) (books after : Books) (line : List ℕ) (again : Bool) (tally told : Tally) (next : Rooms GameKind)
      → HearsRequest words h pass read (plain d) after (written d) (is_again d.said) tally next
      → now ≡ plain d → line ≡ written d → again ≡ is_again d.said → books ≡ after → told ≡ tally → HearsRequest words h pass read now books line again told next
  hears_as d now books after line again tally told next r e t w b s = record {
    mark = r.mark;
    stand = subst (λ x. AreBooks x (request named any_rules words r.mark h pass read).1.rooms) (sym b) r.stand;
    core = e ∙ r.core;
    text = t ∙ r.text;
    want = w ∙ r.want;
    tallies = subst (λ x. Tallies h.rooms x (request named any_rules words r.mark h pass read).1.rooms) (sym s) r.tallies;
    rooms = r.rooms;
  }
