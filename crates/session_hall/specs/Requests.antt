-- What the calls of a request made of the rooms' histories, and how many actions they had accepted and refused.
use Rattle.std.specs.Prelude.{◌≡◌, ◌+◌, ℕ, List, [], ◌∷◌}
use Rattle.any_game.specs.AnyRules.{any_rules}
use Rattle.any_game.specs.GameKind.{GameKind}
use Rattle.hall_history.specs.Counts.{accepts, count_from, refuses}
use Rattle.hall_history.specs.Rooms.{Rooms, with_entry}
use Rattle.match_master.specs.Held.{is_starved}
use Rattle.room_object.specs.Entry.{entry}
use Rattle.session_driver.specs.Calls.{Did}
use Rattle.session_driver.specs.declared.tally.Tally.{Tally}

-- so many actions were accepted and refused from some rooms to others
pub record Tallies (before : Rooms GameKind) (tally : Tally) (after : Rooms GameKind) : Type 0 where
  pub accepted : count_from any_rules accepts 0 after ≡ count_from any_rules accepts 0 before + tally.accepted
  pub refused : count_from any_rules refuses 0 after ≡ count_from any_rules refuses 0 before + tally.refused

-- rooms after calls of a pass, the latest first; each goes into its room's history
abbrev pub with_calls : ℕ → List Did → Rooms GameKind → Rooms GameKind
with_calls pass [] rooms = rooms
with_calls pass (made ∷ earlier) rooms = with_entry (with_calls pass earlier rooms) made.room (entry pass made.call (is_starved made.reply))
