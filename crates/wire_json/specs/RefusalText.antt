-- A refused request on the wire: the word of its reason, and the member of the line that it points at. Only the refusal of a line
-- that is no message points at one, by its name, by `type`, or by `*` for a member that the message doesn't have.
use Rattle.std.specs.Prelude.{ℕ, List, [], ◌∷◌, map, codes, Option, Some, None, option_map, IsSome}
use Rattle.std.specs.Map.{lookup}
use Rattle.std.specs.Str.{bytes_eq}
use Rattle.wire_json.specs.declared.refusal.Member.{Member}
use Rattle.wire_json.specs.declared.refusal.Member.TheVariants.{Extra, Kind, Act, Game, Key, Match, Name, Number, Protocol, Seat, Seats, Ticket}
use Rattle.wire_json.specs.declared.refusal.Refusal.{Refusal}
use Rattle.wire_json.specs.declared.refusal.Refusal.TheVariants.{BadMessage, NoGame, Full, BadSeats, NoStart, NoMatch, SeatTaken, NoSeat, BadName, Unauthorized, AlreadyAttached, NotAttached, NotABot}
use Rattle.wire_json.specs.declared.wire_no.WireNo.{WireNo}
use Rattle.wire_json.specs.declared.wire_no.WireNo.TheVariants as no
use Rattle.std.specs.Option.{option_map_or}

abbrev pub member_text : Member → List ℕ
member_text Extra = codes "*"
member_text Kind = codes "type"
member_text Act = codes "act"
member_text Game = codes "game"
member_text Key = codes "key"
member_text Match = codes "match"
member_text Name = codes "name"
member_text Number = codes "number"
member_text Protocol = codes "protocol"
member_text Seat = codes "seat"
member_text Seats = codes "seats"
member_text Ticket = codes "ticket"

abbrev pub member_table : List (List ℕ × Member)
member_table = map (λ member. (member_text member, member)) (Extra ∷ Kind ∷ Act ∷ Game ∷ Key ∷ Match ∷ Name ∷ Number ∷ Protocol ∷ Seat ∷ Seats ∷ Ticket ∷ [])

abbrev pub member_from : List ℕ → Option Member
member_from s = lookup (bytes_eq s) member_table

abbrev pub refusal_text : Refusal → List ℕ
refusal_text (BadMessage field) = codes "bad-message"
refusal_text NoGame = codes "no-game"
refusal_text Full = codes "full"
refusal_text BadSeats = codes "bad-seats"
refusal_text NoStart = codes "no-start"
refusal_text NoMatch = codes "no-match"
refusal_text SeatTaken = codes "seat-taken"
refusal_text NoSeat = codes "no-seat"
refusal_text BadName = codes "bad-name"
refusal_text Unauthorized = codes "unauthorized"
refusal_text AlreadyAttached = codes "already-attached"
refusal_text NotAttached = codes "not-attached"
refusal_text NotABot = codes "not-a-bot"

abbrev pub refusal_field : Refusal → Option Member
refusal_field (BadMessage field) = field
refusal_field other = None

abbrev pub refusal_table : List (List ℕ × Refusal)
refusal_table = map (λ refusal. (refusal_text refusal, refusal))
    (BadMessage None ∷ NoGame ∷ Full ∷ BadSeats ∷ NoStart ∷ NoMatch ∷ SeatTaken ∷ NoSeat ∷ BadName ∷ Unauthorized ∷ AlreadyAttached ∷ NotAttached ∷ NotABot ∷ [])

-- the refusal of a word, pointing at nothing
abbrev pub refusal_from : List ℕ → Option Refusal
refusal_from s = lookup (bytes_eq s) refusal_table

-- the refusal pointing at this, where it can
abbrev pub with_field : Refusal → Option Member → Option Refusal
with_field (BadMessage old) field = Some (BadMessage field)
with_field other field = option_map_or (λ field. None) field (Some other)

-- the refusal of a line for its first fault
abbrev pub refusal_of : WireNo → Option Refusal
refusal_of (no.Line fault) = Some (BadMessage None)
refusal_of no.UnknownMessage = Some (BadMessage (Some Kind))
refusal_of no.ExtraField = Some (BadMessage (Some Extra))
refusal_of (no.Field name fault) = option_map (λ member. BadMessage (Some member)) (member_from name.now)
refusal_of no.NoMemory = None

-- each fault but want of memory is a refusal
abbrev pub IsAnswerable : WireNo → Type 0
IsAnswerable (no.Line fault) = Unit {0}
IsAnswerable no.UnknownMessage = Unit {0}
IsAnswerable no.ExtraField = Unit {0}
IsAnswerable (no.Field name fault) = IsSome (member_from name.now)
IsAnswerable no.NoMemory = Unit {0}
