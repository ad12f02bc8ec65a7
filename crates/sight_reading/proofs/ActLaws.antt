-- An action that may stand in a plain entry reads back from its value, and what reads as an action is its value.
use Rattle.std.proofs.Common.{◌≡◌, ℕ, ◌<◌, List, [], ◌∷◌, length, Bool, true, false, cond, ◌⊎◌, inl, inr, Option, Some, None, option_map, bytes_eq, codes, refl, sym, ap, ◌∙◌, subst}
use Rattle.std.proofs.lemmas.Slice.Eq.{bytes_eq-Decides}
use Rattle.std.specs.Prelude.{option_and_then}
use Rattle.serde_json.specs.Data.{Data, null, boolean, number, string, array, object, Members, no_members, member}
use Rattle.serde_json.specs.Find.{get_member}
use Rattle.json_tree.specs.Canonical.{IsCanonical, MembersAreCanonical}
use Rattle.json_tree.specs.Names.{has_extra}
use Rattle.json_tree.proofs.Rows.{row_is, canonical_member}
use Rattle.game_sheet.specs.SheetFits.{SheetFits}
use Rattle.game_sheet.specs.declared.act.Act.{Act}
use Rattle.game_sheet.specs.declared.act.Act.TheVariants.{Move, Event, Undo, Redo}
use Rattle.game_sheet.specs.declared.act.Event as event
use Rattle.game_sheet.specs.declared.act.Event.TheVariants.{EndTurn, EndPhase, SetPhase, EndStage, SetStage, SetActive, EndGame}
use Rattle.game_sheet.specs.declared.act.Outcome.TheVariants.{Ended}
use Rattle.game_sheet.specs.declared.sheet.MoveRow.{MoveRow}
use Rattle.game_sheet.specs.declared.sheet.PhaseRow.{PhaseRow}
use Rattle.game_sheet.specs.declared.sheet.Sheet.{Sheet}
use Rattle.game_sheet.specs.declared.sheet.StageRow.{StageRow}
use Rattle.player_sight.specs.EntryData.{event_name, event_aim, event_data, act_data}
use Rattle.game_sheet.specs.EventNames.{event_text, kind_from}
use Rattle.game_sheet.specs.SheetNames.{move_of, phase_of, stage_of}
use Rattle.game_sheet.specs.declared.act.EventKind.{EventKind}
use Rattle.game_sheet.specs.declared.act.EventKind.TheVariants as asks
use Rattle.game_sheet.specs.declared.args.Arg.{Arg}
use Rattle.json_tree.specs.Fields.{natural_in}
use Rattle.sheet_json.specs.Arguments.{arguments, AreArguments, arguments_in}
use Rattle.sheet_json.specs.Seats.{natural_or_null, IsWithin, is_null_in, or_null}
use Rattle.sheet_json.proofs.ArgumentLaws.{arguments_are, arguments_again}
use Rattle.sheet_json.proofs.EventLaws.{kind_is}
use Rattle.sheet_json.proofs.SeatLaws as seats
use Rattle.sheet_json.proofs.SeatLaws.{null_is, Holds, or_null_is}
use Rattle.sight_reading.specs.EntryReading.{args_in, move_with, move_in, aimless, alone_in, event_of, event_by, event_in, deed_in}
use Rattle.player_sight.specs.Parts.{move_name, phase_name}
use Rattle.player_sight.specs.Plain.{EventFits, ActFits}
use Rattle.sight_reading.specs.Reading.{text_at}
use Rattle.sight_reading.specs.declared.entry_read.Deed.{Deed}
use Rattle.sight_reading.proofs.NumberLaws.{good}
use Rattle.sight_reading.proofs.PartLaws.{step, chained, mapped, past, tested, text_is, name_is, name_again}
use Rattle.std.specs.Result.{result_ok}

-- ---- arguments

abbrev args_from : Data → Option (Option (List Arg))
args_from d = args_in (Some d)

args_again : (args : List Arg) → AreArguments args → args_from (array (arguments args)) ≡ Some (Some args)
args_again args h = ap (option_map (λ x. Some x)) (arguments_again args h)

-- ---- from an action to its value and back

abbrev pub deed_as : Bool → Act → Deed
deed_as hidden act = record { act = act; hidden = hidden }

abbrev shown : Act → Deed
shown act = deed_as false act

move_again : (sheet : Sheet) (id : ℕ) → SheetFits sheet → id < length sheet.moves → option_and_then (move_of sheet) (text_at (Some (move_name sheet id))) ≡ Some id
move_again sheet id fit h = name_again (λ (row : MoveRow). row.name) sheet.moves id fit.move_names h

phase_named : (sheet : Sheet) (id : ℕ) → SheetFits sheet → id < length sheet.phases → option_and_then (phase_of sheet) (text_at (Some (phase_name sheet id))) ≡ Some id
phase_named sheet id fit h = name_again (λ (row : PhaseRow). row.name) sheet.phases id fit.phase_names h

event_again : (sheet : Sheet) (e : event.Event) → SheetFits sheet → EventFits sheet e → event_in sheet (event_data sheet e) ≡ Some e
unfolding event_in
event_again sheet (EndTurn None) fit h = refl
event_again sheet (EndTurn (Some seat)) fit h = rw (seats.natural_again 255 seat h) refl
event_again sheet EndPhase fit h = refl
event_again sheet (SetPhase to) fit h = ap (option_map SetPhase) (phase_named sheet to fit h)
event_again sheet EndStage fit h = refl
event_again sheet (SetStage to) fit h = ap (option_map SetStage) (name_again (λ (row : StageRow). row.name) sheet.stages to fit.stage_names h)
event_again sheet (SetActive spec) fit h = absurd h
event_again sheet (EndGame outcome) fit h = ap (λ o. Some (EndGame o)) (sym h)

event_deed : (sheet : Sheet) (e : event.Event) → EventFits sheet e → deed_in sheet (event_data sheet e) ≡ option_map (λ x. shown (Event x)) (event_in sheet (event_data sheet e))
unfolding deed_in
event_deed sheet (EndTurn to) h = refl
event_deed sheet EndPhase h = refl
event_deed sheet (SetPhase to) h = refl
event_deed sheet EndStage h = refl
event_deed sheet (SetStage to) h = refl
event_deed sheet (SetActive spec) h = absurd h
event_deed sheet (EndGame outcome) h = refl

pub deed_again : (sheet : Sheet) (hidden : Bool) (act : Act) → SheetFits sheet → ActFits sheet hidden act → deed_in sheet (act_data sheet hidden act) ≡ Some (deed_as hidden act)
unfolding deed_in move_in
deed_again sheet true (Move id args) fit h = rw (move_again sheet id fit h.0) (ap (λ a. Some (deed_as true (Move id a))) (sym h.1))
deed_again sheet false (Move id args) fit h = rw (args_again args h.1, move_again sheet id fit h.0) refl
deed_again sheet true (Event e) fit h = absurd h
deed_again sheet false (Event e) fit h = event_deed sheet e h ∙ ap (option_map (λ x. shown (Event x))) (event_again sheet e fit h)
deed_again sheet true Undo fit h = absurd h
deed_again sheet false Undo fit h = refl
deed_again sheet true Redo fit h = absurd h
deed_again sheet false Redo fit h = refl

-- ---- from a value to its action

onlyif : {A : Type 0} (b : Bool) (rest : Option A) (y : A) → cond b rest None ≡ Some y → (b ≡ true) × (rest ≡ Some y)
onlyif true rest y e = (refl, e)
onlyif false rest y e = absurd (cc)

-- the value of arguments, or of hidden ones
abbrev shown_args : Option (List Arg) → Data
shown_args None = null
shown_args (Some args) = array (arguments args)

abbrev MaybeFit : Option (List Arg) → Type 0
MaybeFit None = Unit {0}
MaybeFit (Some args) = AreArguments args

abbrev ArgsAre : Data → Option (List Arg) → Type 0
ArgsAre d a = (d ≡ shown_args a) × MaybeFit a

args_are : (d : Data) (a : Option (List Arg)) → IsCanonical d → args_from d ≡ Some a → ArgsAre d a
args_are null None c e = (refl, tt)
args_are null (Some zs) c e = absurd (cc)
args_are (boolean b) a c e = absurd (cc)
args_are (number n) a c e = absurd (cc)
args_are (string s) a c e = absurd (cc)
args_are (array ds) a c e =
    let args = mapped (λ x. Some x) (arguments_in ds) a e in
    let are = arguments_are ds args.0 args.1 c in
    subst (ArgsAre (array ds)) args.2 (ap array are.0, are.1)
args_are (object ms) a c e = absurd (cc)

-- what is read as an action is the value of it, as it is shown
record IsDeed (sheet : Sheet) (ms : Members) (x : Deed) : Type 0 where
  value : object ms ≡ act_data sheet x.hidden x.act
  fits : ActFits sheet x.hidden x.act

move_row : Data → Data → Members
move_row name args = member (codes "args") args (member (codes "kind") (string (codes "move")) (member (codes "move") name no_members))

moved : (sheet : Sheet) (ms : Members) (id : ℕ) (a : Option (List Arg)) → id < length sheet.moves → MaybeFit a → ms ≡ move_row (move_name sheet id) (shown_args a) → IsDeed sheet ms (move_with id a)
unfolding move_row
moved sheet ms id None inside fits is = record { value = ap object is; fits = (inside, refl) }
moved sheet ms id (Some zs) inside fits is = record { value = ap object is; fits = (inside, fits) }

move_names : List (List ℕ)
move_names = codes "args" ∷ codes "kind" ∷ codes "move" ∷ []

move_is : (sheet : Sheet) (ms : Members) (x : Deed) → MembersAreCanonical ms → text_at (get_member (codes "kind") ms) ≡ Some (codes "move") → move_in sheet (object ms) ≡ Some x → IsDeed sheet ms x
unfolding move_in move_names move_row
move_is sheet ms x c kind e =
    let known = past (has_extra move_names ms) _ x e in
    let args = step _ _ x known.1 in
    let id = step _ _ x args.2 in
    let there = chained args_from (get_member (codes "args") ms) args.0 args.1 in
    let are = args_are there.0 args.0 (canonical_member (codes "args") ms there.0 c there.1) there.2 in
    let name = name_is (λ (row : MoveRow). row.name) sheet.moves (get_member (codes "move") ms) id.0 id.1 in
    let row = row_is move_names ms (move_row (move_name sheet id.0) (shown_args args.0)) c ((refl, (refl, tt)), ((refl, tt), (tt, tt))) known.0 refl
    (there.1 ∙ ap (λ d. Some d) are.0, (text_is _ _ kind, (name.0, tt))) in
    let same : move_with id.0 args.0 ≡ x = cc (id.2) in
    subst (IsDeed sheet ms) same (moved sheet ms id.0 args.0 name.1 are.1 row)

record IsEvent (sheet : Sheet) (name : List ℕ) (o : Option Data) (e : event.Event) : Type 0 where
  word : name ≡ event_name e
  aim : o ≡ Some (event_aim sheet e)
  fits : EventFits sheet e

seat_is : (o : Option Data) (to : Option ℕ) → Holds (natural_in 255) o to → (o ≡ Some (natural_or_null to)) × IsWithin 255 to
seat_is o None h = (h, tt)
seat_is o (Some seat) h = seats.natural_is 255 o seat h

either : {A : Type 0} (b : Bool) (x rest : Option A) (y : A) → cond b x rest ≡ Some y → ((b ≡ true) × (x ≡ Some y)) ⊎ (rest ≡ Some y)
either true x rest y e = inl (refl, e)
either false x rest y e = inr e

same_text : (s t : List ℕ) → bytes_eq s t ≡ true → s ≡ t
same_text s t h = (bytes_eq-Decides s t).0 h

unaimed : (sheet : Sheet) (name : List ℕ) (o : Option Data) (x e : event.Event) → name ≡ event_name x → event_aim sheet x ≡ null → EventFits sheet x → aimless x o ≡ Some e → IsEvent sheet name o e
unaimed sheet name o x e word aim fits is =
    let null_there = tested (is_null_in o) x e is in
    subst (IsEvent sheet name o) null_there.1 (record { word = word; aim = null_is o null_there.0 ∙ ap (λ d. Some d) (sym aim); fits = fits })

turned : (sheet : Sheet) (name : List ℕ) (o : Option Data) (e : event.Event) → name ≡ event_text asks.EndTurn → option_map EndTurn (result_ok (or_null (natural_in 255) o)) ≡ Some e → IsEvent sheet name o e
turned sheet name o e word is =
    let to = mapped EndTurn (result_ok (or_null (natural_in 255) o)) e is in
    let at = seat_is o to.0 (or_null_is (natural_in 255) o to.0 (good (or_null (natural_in 255) o) to.0 to.1)) in
    subst (IsEvent sheet name o) to.2 (record { word = word; aim = at.0; fits = at.1 })

phased : (sheet : Sheet) (name : List ℕ) (o : Option Data) (e : event.Event) → name ≡ event_text asks.SetPhase → option_map SetPhase (option_and_then (phase_of sheet) (text_at o)) ≡ Some e → IsEvent sheet name o e
phased sheet name o e word is =
    let to = mapped SetPhase (option_and_then (phase_of sheet) (text_at o)) e is in
    let at = name_is (λ (row : PhaseRow). row.name) sheet.phases o to.0 to.1 in
    subst (IsEvent sheet name o) to.2 (record { word = word; aim = at.0; fits = at.1 })

staged : (sheet : Sheet) (name : List ℕ) (o : Option Data) (e : event.Event) → name ≡ event_text asks.SetStage → option_map SetStage (option_and_then (stage_of sheet) (text_at o)) ≡ Some e → IsEvent sheet name o e
staged sheet name o e word is =
    let to = mapped SetStage (option_and_then (stage_of sheet) (text_at o)) e is in
    let at = name_is (λ (row : StageRow). row.name) sheet.stages o to.0 to.1 in
    subst (IsEvent sheet name o) to.2 (record { word = word; aim = at.0; fits = at.1 })

event_of_is : (sheet : Sheet) (name : List ℕ) (k : EventKind) (o : Option Data) (e : event.Event) → name ≡ event_text k → event_of sheet k o ≡ Some e → IsEvent sheet name o e
event_of_is sheet name asks.EndTurn o e word is = turned sheet name o e word is
event_of_is sheet name asks.EndPhase o e word is = unaimed sheet name o EndPhase e word refl tt is
event_of_is sheet name asks.SetPhase o e word is = phased sheet name o e word is
event_of_is sheet name asks.EndStage o e word is = unaimed sheet name o EndStage e word refl tt is
event_of_is sheet name asks.SetStage o e word is = staged sheet name o e word is
event_of_is sheet name asks.EndGame o e word is = unaimed sheet name o (EndGame Ended) e word refl refl is

event_by_is : (sheet : Sheet) (name : List ℕ) (o : Option Data) (e : event.Event) → event_by sheet name o ≡ Some e → IsEvent sheet name o e
event_by_is sheet name o e is =
    let k = chained (λ x. event_of sheet x o) (kind_from name) e is in
    event_of_is sheet name k.0 o e (kind_is name k.0 k.1) k.2

event_row : List ℕ → Data → Members
event_row word to = member (codes "event") (string word) (member (codes "kind") (string (codes "event")) (member (codes "to") to no_members))

event_names : List (List ℕ)
event_names = codes "event" ∷ codes "kind" ∷ codes "to" ∷ []

event_is : (sheet : Sheet) (ms : Members) (e : event.Event) → MembersAreCanonical ms → text_at (get_member (codes "kind") ms) ≡ Some (codes "event") → event_in sheet (object ms) ≡ Some e → (object ms ≡ event_data sheet e) × EventFits sheet e
unfolding event_in event_names event_row
event_is sheet ms e c kind is =
    let known = past (has_extra event_names ms) _ e is in
    let name = step _ _ e known.1 in
    let it = event_by_is sheet name.0 (get_member (codes "to") ms) e name.2 in
    let row = row_is event_names ms (event_row (event_name e) (event_aim sheet e)) c ((refl, (refl, tt)), ((refl, tt), (tt, tt))) known.0 refl
    (text_is _ _ name.1 ∙ ap (λ s. Some (string s)) it.word, (text_is _ _ kind, (it.aim, tt))) in
    (ap object row, it.fits)

alone_names : List (List ℕ)
alone_names = codes "kind" ∷ []

alone_is : (sheet : Sheet) (ms : Members) (word : List ℕ) (act : Act) (x : Deed) → MembersAreCanonical ms → text_at (get_member (codes "kind") ms) ≡ Some word → act_data sheet false act ≡ object (member (codes "kind") (string word) no_members)
    → ActFits sheet false act → alone_in act (object ms) ≡ Some x → IsDeed sheet ms x
unfolding alone_names
alone_is sheet ms word act x c kind shows fits e =
    let known = past (has_extra alone_names ms) (Some (shown act)) x e in
    let row = row_is alone_names ms (member (codes "kind") (string word) no_members) c (tt, tt) known.0 refl (text_is _ _ kind, tt) in
    let same : shown act ≡ x = cc (known.1) in
    subst (IsDeed sheet ms) same (record { value = ap object row ∙ sym shows; fits = fits })

as_kind : (ms : Members) (kind word : List ℕ) → text_at (get_member (codes "kind") ms) ≡ Some kind → bytes_eq kind word ≡ true → text_at (get_member (codes "kind") ms) ≡ Some word
as_kind ms kind word is e = is ∙ ap (λ s. Some s) (same_text kind word e)

deed_as_event : (sheet : Sheet) (ms : Members) (x : Deed) → MembersAreCanonical ms → text_at (get_member (codes "kind") ms) ≡ Some (codes "event") → option_map (λ e. shown (Event e)) (event_in sheet (object ms)) ≡ Some x → IsDeed sheet ms x
deed_as_event sheet ms x c kind e =
    let it = mapped (λ v. shown (Event v)) (event_in sheet (object ms)) x e in
    let is = event_is sheet ms it.0 c kind it.1 in
    subst (IsDeed sheet ms) it.2 (record { value = is.0; fits = is.1 })

deed_is : (sheet : Sheet) (ms : Members) (x : Deed) → MembersAreCanonical ms → deed_in sheet (object ms) ≡ Some x → IsDeed sheet ms x
unfolding deed_in
deed_is sheet ms x c e =
    let kind = step (text_at (get_member (codes "kind") ms)) _ x e in
    elim (either (bytes_eq kind.0 (codes "move")) _ _ x kind.2) [
      | inl p ↦ move_is sheet ms x c (as_kind ms kind.0 _ kind.1 p.0) p.1
      | inr r1 ↦ elim (either (bytes_eq kind.0 (codes "event")) _ _ x r1) [
        | inl p ↦ deed_as_event sheet ms x c (as_kind ms kind.0 _ kind.1 p.0) p.1
        | inr r2 ↦ elim (either (bytes_eq kind.0 (codes "undo")) _ _ x r2) [
          | inl p ↦ alone_is sheet ms (codes "undo") Undo x c (as_kind ms kind.0 _ kind.1 p.0) refl tt p.1
          | inr r3 ↦ let last = onlyif (bytes_eq kind.0 (codes "redo")) _ x r3 in alone_is sheet ms (codes "redo") Redo x c (as_kind ms kind.0 _ kind.1 last.0) refl tt last.1
        ]
      ]
    ]

abbrev pub IsShown : Sheet → Data → Deed → Type 0
IsShown sheet d x = (d ≡ act_data sheet x.hidden x.act) × ActFits sheet x.hidden x.act

pub deed_shown : (sheet : Sheet) (d : Data) (x : Deed) → IsCanonical d → deed_in sheet d ≡ Some x → IsShown sheet d x
unfolding deed_in
deed_shown sheet null x c e = absurd (cc)
deed_shown sheet (boolean b) x c e = absurd (cc)
deed_shown sheet (number n) x c e = absurd (cc)
deed_shown sheet (string s) x c e = absurd (cc)
deed_shown sheet (array ds) x c e = absurd (cc)
deed_shown sheet (object ms) x c e = let is = deed_is sheet ms x c e in (is.value, is.fits)
