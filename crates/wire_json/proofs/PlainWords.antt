-- Words of the wire: none has a byte to escape, and some lines are the same always.
use Rattle.std.proofs.Common.{◌≡◌, ◌-◌, ℕ, List, [], ◌∷◌, ◌++◌, true, Ok, Err, codes, refl, sym, ap, ◌∙◌, append_assoc}
use Rattle.std.specs.Prelude.{Result, OnOk}
use Rattle.json.specs.Print.{quoted, escape_byte}
use Rattle.json.proofs.Printed.Utf8.{are_ascii}
use Rattle.serde_json.specs.Data.{Data, string, object}
use Rattle.serde_json.specs.Written.{compact_text, members_text}
use Rattle.game_sheet.specs.declared.act.Bye.{Bye}
use Rattle.game_sheet.specs.declared.act.Bye.TheVariants.{Left, Lagging}
use Rattle.wire_json.specs.ByeText.{bye_text}
use Rattle.wire_json.specs.ReasonText.{reason_text}
use Rattle.wire_json.specs.RefusalText.{member_text, refusal_text}
use Rattle.game_sheet.specs.MatchName.{Name}
use Rattle.sheet_json.specs.Seats.{natural}
use Rattle.wire_json.specs.MatchText.{match_text}
use Rattle.wire_json.specs.RowText.{row_data}
use Rattle.wire_json.specs.ServerText.{from_change, from_number, from_parts, from_refusal, parts_data, server_members, text}
use Rattle.wire_json.specs.ClientText.{from_seat as from_place, place_members}
use Rattle.wire_json.specs.declared.match_row.MatchRow.{MatchRow}
use Rattle.wire_json.specs.declared.reason.Reason.{Reason}
use Rattle.wire_json.specs.declared.reason.Reason.TheVariants as reason
use Rattle.wire_json.specs.declared.refusal.Member.{Member}
use Rattle.wire_json.specs.declared.refusal.Member.TheVariants as part
use Rattle.wire_json.specs.declared.refusal.Refusal.{Refusal}
use Rattle.wire_json.specs.declared.refusal.Refusal.TheVariants as refusal
use Rattle.wire_json.specs.declared.server.ServerMsg.TheVariants as message

pub left_text : codes "{\"type\":\"bye\",\"why\":\"left\"}\n" ≡ text (message.Bye Left)
unfolding text escape_byte
left_text = refl

pub lagging_text : codes "{\"type\":\"bye\",\"why\":\"lagging\"}\n" ≡ text (message.Bye Lagging)
unfolding text escape_byte
lagging_text = refl

pub bye_ascii : (why : Bye) → are_ascii (bye_text why) ≡ true
bye_ascii Left = refl
bye_ascii Lagging = refl

-- a word that is ASCII, and stands in quotation marks as it is
pub record IsPlain (word : List ℕ) : Type 0 where
  pub ascii : are_ascii word ≡ true
  pub as_it_is : quoted word ≡ 34 ∷ (word ++ 34 ∷ [])

pub reason_plain : (r : Reason) → IsPlain (reason_text r)
unfolding escape_byte
reason_plain reason.NoMatch = record { ascii = refl; as_it_is = refl }
reason_plain reason.Unauthorized = record { ascii = refl; as_it_is = refl }
reason_plain reason.GameOver = record { ascii = refl; as_it_is = refl }
reason_plain reason.MatchFull = record { ascii = refl; as_it_is = refl }
reason_plain reason.CannotUndoNow = record { ascii = refl; as_it_is = refl }
reason_plain reason.NotActive = record { ascii = refl; as_it_is = refl }
reason_plain reason.UnknownMove = record { ascii = refl; as_it_is = refl }
reason_plain reason.WrongNumber = record { ascii = refl; as_it_is = refl }
reason_plain reason.NothingToUndo = record { ascii = refl; as_it_is = refl }
reason_plain reason.NothingToRedo = record { ascii = refl; as_it_is = refl }
reason_plain reason.NotYours = record { ascii = refl; as_it_is = refl }
reason_plain reason.NotUndoable = record { ascii = refl; as_it_is = refl }
reason_plain reason.InvalidMove = record { ascii = refl; as_it_is = refl }
reason_plain reason.TooEarly = record { ascii = refl; as_it_is = refl }
reason_plain reason.TooManyWords = record { ascii = refl; as_it_is = refl }
reason_plain reason.TooManyEvents = record { ascii = refl; as_it_is = refl }

-- ---- what is put piece by piece

-- a word, in quotation marks
pub reason_put : (old begun word done : List ℕ) (r : Reason) → begun ≡ old ++ 34 ∷ [] → word ≡ begun ++ reason_text r → done ≡ word ++ 34 ∷ []
    → done ≡ old ++ compact_text (string (reason_text r))
reason_put old begun word done r b w d =
    d ∙ ap (λ x. x ++ 34 ∷ []) (w ∙ ap (λ x. x ++ reason_text r) b ∙ append_assoc old (34 ∷ []) (reason_text r)) ∙ append_assoc old (34 ∷ reason_text r) (34 ∷ [])
    ∙ ap (λ x. old ++ x) (sym (reason_plain r).as_it_is)

-- a name, a value and what follows
joined : (old named valued done name value rest : List ℕ) → named ≡ old ++ name → valued ≡ named ++ value → done ≡ valued ++ rest → done ≡ old ++ (name ++ (value ++ rest))
joined old named valued done name value rest n v d =
    d ∙ ap (λ x. x ++ rest) (v ∙ ap (λ x. x ++ value) n) ∙ append_assoc (old ++ name) value rest ∙ append_assoc old name (value ++ rest)

followed : {T E : Type 0} (result : Result T E) (old named valued done name value rest : List ℕ) → named ≡ old ++ name → valued ≡ named ++ value
    → OnOk result (done ≡ valued ++ rest) → OnOk result (done ≡ old ++ (name ++ (value ++ rest)))
followed (Ok x) old named valued done name value rest n v d = joined old named valued done name value rest n v d
followed (Err e) old named valued done name value rest n v d = tt

pub row_put : (old named valued done : List ℕ) (row : MatchRow) → named ≡ old ++ codes "{\"row\":" → valued ≡ named ++ compact_text (row_data row)
    → done ≡ valued ++ codes ",\"type\":\"match\"}" → done ≡ old ++ compact_text (object (server_members (message.Match row)))
unfolding escape_byte
row_put old named valued done row n v d = joined old named valued done _ (compact_text (row_data row)) _ n v d

pub change_put : (old named valued done : List ℕ) (was : ℕ) → named ≡ old ++ codes ",\"type\":\"change\",\"was\":" → valued ≡ named ++ compact_text (natural was)
    → done ≡ valued ++ codes "}" → done ≡ old ++ members_text true (from_change was)
unfolding escape_byte
change_put old named valued done was n v d = joined old named valued done _ (compact_text (natural was)) _ n v d

pub number_put : {T E : Type 0} (result : Result T E) (old named valued done : List ℕ) (at : ℕ) → named ≡ old ++ codes ",\"number\":" → valued ≡ named ++ compact_text (natural at)
    → OnOk result (done ≡ valued ++ members_text true (from_change (at - 1))) → OnOk result (done ≡ old ++ members_text true (from_number at))
unfolding escape_byte
number_put result old named valued done at n v d = followed result old named valued done _ (compact_text (natural at)) _ n v d

pub parts_put : {T E : Type 0} (result : Result T E) (old named valued done : List ℕ) (gone put : Data) (at : ℕ) → named ≡ old ++ codes ",\"g\":" → valued ≡ named ++ compact_text (parts_data gone put)
    → OnOk result (done ≡ valued ++ members_text true (from_number at)) → OnOk result (done ≡ old ++ members_text true (from_parts gone put at))
unfolding escape_byte
parts_put result old named valued done gone put at n v d = followed result old named valued done _ (compact_text (parts_data gone put)) _ n v d

pub match_put : {T E : Type 0} (result : Result T E) (old named valued done : List ℕ) (name : Name) (seat : ℕ) → named ≡ old ++ codes ",\"match\":" → valued ≡ named ++ compact_text (string (match_text name))
    → OnOk result (done ≡ valued ++ members_text true (from_place seat (codes "joined"))) → OnOk result (done ≡ old ++ members_text true (place_members name seat (codes "joined")))
unfolding escape_byte
match_put result old named valued done name seat n v d = followed result old named valued done _ (compact_text (string (match_text name))) _ n v d

pub refusal_put : (old named valued done : List ℕ) (r : Refusal) → named ≡ old ++ codes ",\"reason\":" → valued ≡ named ++ compact_text (string (refusal_text r))
    → done ≡ valued ++ codes ",\"type\":\"refused\"}" → done ≡ old ++ members_text true (from_refusal r)
unfolding escape_byte
refusal_put old named valued done r n v d = joined old named valued done _ (compact_text (string (refusal_text r))) _ n v d

pub refusal_ascii : (r : Refusal) → are_ascii (refusal_text r) ≡ true
refusal_ascii (refusal.BadMessage field) = refl
refusal_ascii refusal.NoGame = refl
refusal_ascii refusal.Full = refl
refusal_ascii refusal.BadSeats = refl
refusal_ascii refusal.NoStart = refl
refusal_ascii refusal.NoMatch = refl
refusal_ascii refusal.SeatTaken = refl
refusal_ascii refusal.NoSeat = refl
refusal_ascii refusal.BadName = refl
refusal_ascii refusal.Unauthorized = refl
refusal_ascii refusal.AlreadyAttached = refl
refusal_ascii refusal.NotAttached = refl
refusal_ascii refusal.NotABot = refl

pub member_ascii : (m : Member) → are_ascii (member_text m) ≡ true
member_ascii part.Extra = refl
member_ascii part.Kind = refl
member_ascii part.Act = refl
member_ascii part.Game = refl
member_ascii part.Key = refl
member_ascii part.Match = refl
member_ascii part.Name = refl
member_ascii part.Number = refl
member_ascii part.Protocol = refl
member_ascii part.Seat = refl
member_ascii part.Seats = refl
member_ascii part.Ticket = refl
