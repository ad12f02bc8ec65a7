-- A match's row reads as the row that it is the object of, and as no other.
use Rattle.std.proofs.Common.{◌≡◌, ℕ, List, [], ◌∷◌, Bool, true, false, cond, Option, Some, None, Ok, Err, codes, refl, ap, ap₂, ◌∙◌, subst, arith}
use Rattle.std.specs.List.{AllByRecursion}
use Rattle.std.specs.Prelude.{Result}
use Rattle.std.specs.Result.{result_ok}
use Rattle.serde_json.specs.Data.{Data, null, boolean, number, string, array, object, Items, no_items, item, member}
use Rattle.serde_json.specs.Find.{get_member}
use Rattle.json_tree.specs.Canonical.{IsCanonical, ItemsAreCanonical}
use Rattle.json_tree.specs.Fields.{list_in, natural_in}
use Rattle.json_tree.specs.Names.{has_extra}
use Rattle.json_tree.specs.declared.fields.FieldFault.TheVariants.{OutOfRange}
use Rattle.json_tree.proofs.Rows.{row_is, canonical_member}
use Rattle.sheet_json.specs.Seats.{or_null, text_or_null}
use Rattle.sheet_json.proofs.SeatLaws.{bound, natural_is, natural_again, Holds, or_null_is}
use Rattle.wire_json.specs.Acts.{in_form, text_within, word_in}
use Rattle.wire_json.specs.RowReading.{boolean_in, player_in, players_from, players_in, row_from, rows_from, row_in, rows_in}
use Rattle.wire_json.specs.MatchText.{match_text}
use Rattle.wire_json.specs.RowText.{Player, player_members, player_data, players_data, from_over, row_data, rows_data, IsGameName, IsShortName, IsPlayer, IsRow}
use Rattle.wire_json.specs.ServerReading.{names_from, names_in}
use Rattle.wire_json.specs.ServerText.{names_data}
use Rattle.wire_json.specs.declared.match_row.MatchRow.{MatchRow}
use Rattle.wire_json.proofs.ActLaws.{chained, mapped}
use Rattle.wire_json.proofs.FieldLaws.{formed, list_is, short_text_is, short_text_again, match_member_is, match_member_again}

unless : {A E : Type 0} (b : Bool) (fault : E) (rest : Result A E) (x : A) → cond b (Err fault) rest ≡ Ok x → (b ≡ false) × (rest ≡ Ok x)
unless true fault rest x e = absurd (cc)
unless false fault rest x e = (refl, e)

given : {A E : Type 0} (r : Result A E) (x : A) → result_ok r ≡ Some x → r ≡ Ok x
given (Ok y) x e = let same : y ≡ x = cc in ap (λ z. Ok z) same
given (Err fault) x e = absurd (cc)

-- ---- forms

boolean_is : (o : Option Data) (b : Bool) → boolean_in o ≡ Ok b → o ≡ Some (boolean b)
boolean_is None b e = absurd (cc)
boolean_is (Some null) b e = absurd (cc)
boolean_is (Some (boolean c)) b e = let same : c ≡ b = cc in ap (λ x. Some (boolean x)) same
boolean_is (Some (number n)) b e = absurd (cc)
boolean_is (Some (string s)) b e = absurd (cc)
boolean_is (Some (array ds)) b e = absurd (cc)
boolean_is (Some (object ms)) b e = absurd (cc)

name_is : (o : Option Data) (name : Option (List ℕ)) → Holds (text_within 0 255) o name → (o ≡ Some (text_or_null name)) × IsShortName name
name_is o None h = (h, tt)
name_is o (Some s) h = let is = short_text_is 0 255 o s h in (is.0, is.2)

name_again : (name : Option (List ℕ)) → IsShortName name → or_null (text_within 0 255) (Some (text_or_null name)) ≡ Ok name
name_again None h = refl
name_again (Some s) h = rw (short_text_again 0 255 s (omega arith) h) refl

-- ---- players

player_names : List (List ℕ)
player_names = codes "name" ∷ codes "seat" ∷ []

player_is : (d : Data) (p : Player) → IsCanonical d → player_in d ≡ Ok p → (d ≡ player_data p) × IsPlayer p
unfolding player_in player_names
player_is null p c e = absurd (cc)
player_is (boolean b) p c e = absurd (cc)
player_is (number n) p c e = absurd (cc)
player_is (string s) p c e = absurd (cc)
player_is (array ds) p c e = absurd (cc)
player_is (object ms) p c e =
    let known = unless (has_extra player_names ms) OutOfRange _ p e in
    let name = bound (or_null (text_within 0 255) (get_member (codes "name") ms)) _ p known.1 in
    let seat = bound (natural_in 255 (get_member (codes "seat") ms)) _ p name.2 in
    let made : Player = (seat.0, name.0) in
    let same : made ≡ p = cc (seat.2) in
    let text = name_is _ name.0 (or_null_is (text_within 0 255) _ name.0 name.1) in
    let place = natural_is 255 _ seat.0 seat.1 in
    let row = row_is player_names ms (player_members made) c ((refl, tt), (tt, tt)) known.0 refl (text.0, (place.0, tt)) in
    subst (λ x. (object ms ≡ player_data x) × IsPlayer x) same (ap object row, (place.1, text.1))

player_again : (p : Player) → IsPlayer p → player_in (player_data p) ≡ Ok p
unfolding player_in
player_again p h = rw (name_again p.1 h.1, natural_again 255 p.0 h.0) refl

players_are : (ds : Items) (ps : List Player) → ItemsAreCanonical ds → players_from ds ≡ Some ps → (ds ≡ players_data ps) × AllByRecursion IsPlayer ps
players_are no_items ps c e = let same : [] ≡ ps = cc in subst (λ x. (no_items ≡ players_data x) × AllByRecursion IsPlayer x) same (refl, tt)
players_are (item d ds) ps c e =
    let first = chained _ (result_ok (player_in d)) ps e in
    let rest = mapped _ (players_from ds) ps first.2 in
    let one = player_is d first.0 c.0 (given (player_in d) first.0 first.1) in
    let more = players_are ds rest.0 c.1 rest.1 in
    subst (λ x. (item d ds ≡ players_data x) × AllByRecursion IsPlayer x) rest.2 (ap₂ item one.0 more.0, (one.1, more.1))

players_again : (ps : List Player) → AllByRecursion IsPlayer ps → players_from (players_data ps) ≡ Some ps
players_again [] h = refl
players_again (p ∷ ps) h = rw (player_again p h.0, players_again ps h.1) refl

-- ---- rows

row_names : List (List ℕ)
row_names = codes "game" ∷ codes "match" ∷ codes "over" ∷ codes "players" ∷ []

row_from_is : (d : Data) (row : MatchRow) → IsCanonical d → row_from d ≡ Ok row → (d ≡ row_data row) × IsRow row
unfolding row_from row_names
row_from_is null row c e = absurd (cc)
row_from_is (boolean b) row c e = absurd (cc)
row_from_is (number n) row c e = absurd (cc)
row_from_is (string s) row c e = absurd (cc)
row_from_is (array ds) row c e = absurd (cc)
row_from_is (object ms) row c e =
    let known = unless (has_extra row_names ms) OutOfRange _ row e in
    let game = bound (text_within 1 32 (get_member (codes "game") ms)) _ row known.1 in
    let name = bound _ _ row game.2 in
    let over = bound (boolean_in (get_member (codes "over") ms)) _ row name.2 in
    let players = bound (in_form (players_in (get_member (codes "players") ms))) _ row over.2 in
    let made : MatchRow = record { game = game.0; name = name.0; over = over.0; players = players.0 } in
    let same : made ≡ row = cc (players.2) in
    let list = chained _ (result_ok (list_in (get_member (codes "players") ms))) players.0 (formed _ players.0 players.1) in
    let there = list_is _ list.0 (given (list_in (get_member (codes "players") ms)) list.0 list.1) in
    let all = players_are list.0 players.0 (canonical_member (codes "players") ms (array list.0) c there) list.2 in
    let text = short_text_is 1 32 _ game.0 game.1 in
    let match = match_member_is _ name.0 name.1 in
    let is = row_is row_names ms (member (codes "game") (string made.game) (member (codes "match") (string (match_text made.name)) (from_over made))) c ((refl, (refl, (refl, tt))), ((refl, (refl, tt)), ((refl, tt), (tt, tt)))) known.0 refl
    (text.0, (match.0, (boolean_is _ over.0 over.1, (there ∙ ap (λ x. Some (array x)) all.0, tt)))) in
    subst (λ x. (object ms ≡ row_data x) × IsRow x) same (ap object is, (text.1, text.2, match.1, all.1))

row_from_again : (row : MatchRow) → IsRow row → row_from (row_data row) ≡ Ok row
unfolding row_from
row_from_again row h = rw (short_text_again 1 32 row.game h.0 h.1, match_member_again row.name h.2, players_again row.players h.3) refl

rows_are : (ds : Items) (rows : List MatchRow) → ItemsAreCanonical ds → rows_from ds ≡ Some rows → (ds ≡ rows_data rows) × AllByRecursion IsRow rows
rows_are no_items rows c e = let same : [] ≡ rows = cc in subst (λ x. (no_items ≡ rows_data x) × AllByRecursion IsRow x) same (refl, tt)
rows_are (item d ds) rows c e =
    let first = chained _ (result_ok (row_from d)) rows e in
    let rest = mapped _ (rows_from ds) rows first.2 in
    let one = row_from_is d first.0 c.0 (given (row_from d) first.0 first.1) in
    let more = rows_are ds rest.0 c.1 rest.1 in
    subst (λ x. (item d ds ≡ rows_data x) × AllByRecursion IsRow x) rest.2 (ap₂ item one.0 more.0, (one.1, more.1))

rows_from_again : (rows : List MatchRow) → AllByRecursion IsRow rows → rows_from (rows_data rows) ≡ Some rows
rows_from_again [] h = refl
rows_from_again (row ∷ rows) h = rw (row_from_again row h.0, rows_from_again rows h.1) refl

-- ---- names

inside : (d e : Data) → Some d ≡ Some e → d ≡ e
inside d e h = cc

names_are : (ds : Items) (names : List (List ℕ)) → names_from ds ≡ Some names → (ds ≡ names_data names) × AllByRecursion IsGameName names
names_are no_items names e = let same : [] ≡ names = cc in subst (λ x. (no_items ≡ names_data x) × AllByRecursion IsGameName x) same (refl, tt)
names_are (item d ds) names e =
    let first = chained _ (word_in (Some d)) names e in
    let rest = mapped _ (names_from ds) names first.2 in
    let one = short_text_is 1 32 (Some d) first.0 (given (text_within 1 32 (Some d)) first.0 first.1) in
    let more = names_are ds rest.0 rest.1 in
    subst (λ x. (item d ds ≡ names_data x) × AllByRecursion IsGameName x) rest.2 (ap₂ item (inside d (string first.0) one.0) more.0, ((one.1, one.2), more.1))

names_again : (names : List (List ℕ)) → AllByRecursion IsGameName names → names_from (names_data names) ≡ Some names
names_again [] h = refl
names_again (name ∷ names) h = rw (short_text_again 1 32 name h.0.0 h.0.1, names_again names h.1) refl

-- ---- members

abbrev pub CanonicalIn : Option Data → Type 0
CanonicalIn o = (d : Data) → o ≡ Some d → IsCanonical d

pub row_member_is : (o : Option Data) (row : MatchRow) → CanonicalIn o → row_in o ≡ Ok row → (o ≡ Some (row_data row)) × IsRow row
row_member_is None row c e = absurd (cc)
row_member_is (Some null) row c e = absurd (cc)
row_member_is (Some (boolean b)) row c e = absurd (cc)
row_member_is (Some (number n)) row c e = absurd (cc)
row_member_is (Some (string s)) row c e = absurd (cc)
row_member_is (Some (array ds)) row c e = absurd (cc)
row_member_is (Some (object ms)) row c e =
    let is = row_from_is (object ms) row (c (object ms) refl) (given (row_from (object ms)) row (formed _ row e)) in
    (ap Some is.0, is.1)

pub row_member_again : (row : MatchRow) → IsRow row → row_in (Some (row_data row)) ≡ Ok row
row_member_again row h = rw (row_from_again row h) refl

pub rows_member_are : (o : Option Data) (rows : List MatchRow) → CanonicalIn o → rows_in o ≡ Ok rows → (o ≡ Some (array (rows_data rows))) × AllByRecursion IsRow rows
rows_member_are o rows c e =
    let list = bound (list_in o) _ rows e in
    let there = list_is o list.0 list.1 in
    let are = rows_are list.0 rows (c (array list.0) there) (formed (rows_from list.0) rows list.2) in
    (there ∙ ap (λ x. Some (array x)) are.0, are.1)

pub rows_member_again : (rows : List MatchRow) → AllByRecursion IsRow rows → rows_in (Some (array (rows_data rows))) ≡ Ok rows
rows_member_again rows h = rw (rows_from_again rows h) refl

pub names_member_are : (o : Option Data) (names : List (List ℕ)) → names_in o ≡ Ok names → (o ≡ Some (array (names_data names))) × AllByRecursion IsGameName names
names_member_are o names e =
    let list = bound (list_in o) _ names e in
    let are = names_are list.0 names (formed (names_from list.0) names list.2) in
    (list_is o list.0 list.1 ∙ ap (λ x. Some (array x)) are.0, are.1)

pub names_member_again : (names : List (List ℕ)) → AllByRecursion IsGameName names → names_in (Some (array (names_data names))) ≡ Ok names
names_member_again names h = rw (names_again names h) refl
