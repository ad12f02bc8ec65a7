-- Names of what `specs/Kept.antt` writes out where it stands.
use Rattle.std.specs.Prelude.{ℕ, if◌then◌else◌, Option, Some, None, option_map, Result}
use Rattle.std.specs.Result.{result_ok}
use Rattle.seat_roster.specs.Roster.{is_empty}
use Rattle.room_history.specs.Match.{Match}
use Rattle.room_history.specs.declared.reply.RoomReply.{RoomReply}
use Rattle.room_changes.specs.Kept.{Kept}

abbrev pub with_created : {X G : Type 0} → Result (Match X G) RoomReply → Option (Kept X G)
with_created made = option_map (λ m. record { serials = m.serial; standing = Some m }) (result_ok made)

abbrev pub with_reseated : {X G : Type 0} → ℕ → Result (Match X G) RoomReply → Option (Kept X G)
with_reseated serials made = option_map (λ m. record { serials = serials; standing = Some m }) (result_ok made)

abbrev pub with_left : {X G : Type 0} → ℕ → Result (Match X G) RoomReply → Option (Kept X G)
with_left serials made = option_map (λ m. record { serials = serials; standing = if is_empty m.roster then None else Some m }) (result_ok made)

abbrev pub with_none : {X G : Type 0} → ℕ → Result (Match X G) RoomReply → Option (Kept X G)
with_none serials made = option_map (λ m. record { serials = serials; standing = None }) (result_ok made)
