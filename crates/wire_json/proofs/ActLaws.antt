-- The member `act` reads as the act that it is a form of, and as no other.
use Rattle.std.proofs.Common.{◌≡◌, ℕ, List, [], ◌∷◌, Bool, true, false, cond, ◌⊎◌, inl, inr, Option, Some, None, option_map, option_and_then, Ok, Err, bytes_eq, codes, refl, ap, ◌∙◌, subst}
use Rattle.std.proofs.lemmas.Slice.Eq.{bytes_eq-Decides}
use Rattle.std.specs.Prelude.{Result}
use Rattle.std.specs.Result.{result_ok}
use Rattle.serde_json.specs.Data.{Data, null, boolean, number, string, array, object, Members}
use Rattle.serde_json.specs.Find.{get_member}
use Rattle.json_tree.specs.Canonical.{MembersAreCanonical}
use Rattle.json_tree.specs.Fields.{text_in, natural_in}
use Rattle.json_tree.specs.Names.{has_extra}
use Rattle.json_tree.proofs.Rows.{row_is, canonical_member}
use Rattle.game_sheet.specs.declared.act.EventKind.{EventKind}
use Rattle.game_sheet.specs.declared.act.EventKind.TheVariants.{EndTurn, EndPhase, SetPhase, EndStage, SetStage, EndGame}
use Rattle.game_sheet.specs.EventNames.{kind_from}
use Rattle.game_sheet.specs.declared.args.Arg.{Arg}
use Rattle.sheet_json.specs.Arguments.{AreArguments, arguments_in}
use Rattle.sheet_json.specs.Seats.{is_null_in}
use Rattle.sheet_json.proofs.ArgumentLaws.{arguments_are, arguments_again}
use Rattle.sheet_json.proofs.EventLaws.{kind_is, kind_again}
use Rattle.sheet_json.proofs.SeatLaws.{natural_is, natural_again, null_is}
use Rattle.wire_json.specs.Asking.{aim, asked_members, IsWord, MayAim, AskedFits}
use Rattle.wire_json.specs.Acts.{text_within, word_in, move_in, nothing_in, aim_in, event_in, alone_in, asked_as, asked_in, act_in, in_form}
use Rattle.wire_json.specs.declared.asked.Asked.{Asked}
use Rattle.wire_json.specs.declared.asked.Asked.TheVariants.{Move, Event, Undo, Redo}
use Rattle.wire_json.specs.declared.asked.AskedTo.{AskedTo}
use Rattle.wire_json.specs.declared.asked.AskedTo.TheVariants.{Nothing, Seat, Name}
use Rattle.wire_json.proofs.FieldLaws.{formed, text_is, list_is, short_text_is, short_text_again}

-- ---- options

pub chained : {A B : Type 0} (f : A → Option B) (o : Option A) (b : B) → option_and_then f o ≡ Some b → (a : A) × (o ≡ Some a) × (f a ≡ Some b)
chained f None b e = absurd (cc)
chained f (Some a) b e = (a, refl, e)

pub mapped : {A B : Type 0} (f : A → B) (o : Option A) (b : B) → option_map f o ≡ Some b → (a : A) × (o ≡ Some a) × (f a ≡ b)
mapped f None b e = absurd (cc)
mapped f (Some a) b e = (a, refl, cc)

chosen : {A : Type 0} (b : Bool) (x y : A) → cond b (Some x) None ≡ Some y → (b ≡ true) × (x ≡ y)
chosen true x y e = (refl, cc)
chosen false x y e = absurd (cc)

unless : {A : Type 0} (b : Bool) (rest : Option A) (y : A) → cond b None rest ≡ Some y → (b ≡ false) × (rest ≡ Some y)
unless true rest y e = absurd (cc)
unless false rest y e = (refl, e)

onlyif : {A : Type 0} (b : Bool) (rest : Option A) (y : A) → cond b rest None ≡ Some y → (b ≡ true) × (rest ≡ Some y)
onlyif true rest y e = (refl, e)
onlyif false rest y e = absurd (cc)

either : {A : Type 0} (b : Bool) (x rest : Option A) (y : A) → cond b x rest ≡ Some y → ((b ≡ true) × (x ≡ Some y)) ⊎ (rest ≡ Some y)
either true x rest y e = inl (refl, e)
either false x rest y e = inr e

found : {A E : Type 0} (r : Result A E) (x : A) → result_ok r ≡ Some x → r ≡ Ok x
found (Ok y) x e = let same : y ≡ x = cc in ap (λ z. Ok z) same
found (Err fault) x e = absurd (cc)

same_text : (s t : List ℕ) → bytes_eq s t ≡ true → s ≡ t
same_text s t h = (bytes_eq-Decides s t).0 h

-- ---- moves

word_is : (o : Option Data) (s : List ℕ) → word_in o ≡ Some s → (o ≡ Some (string s)) × IsWord s
word_is o s e = let is = short_text_is 1 32 o s (found (text_within 1 32 o) s e) in (is.0, (is.1, is.2))

word_again : (s : List ℕ) → IsWord s → word_in (Some (string s)) ≡ Some s
word_again s h = ap result_ok (short_text_again 1 32 s h.0 h.1)

move_names : List (List ℕ)
move_names = codes "args" ∷ codes "kind" ∷ codes "move" ∷ []

move_is : (ms : Members) (a : Asked) → MembersAreCanonical ms → text_in (get_member (codes "kind") ms) ≡ Ok (codes "move") → move_in (object ms) ≡ Some a → (ms ≡ asked_members a) × AskedFits a
unfolding move_in move_names
move_is ms a c kind e =
    let known = unless (has_extra move_names ms) _ a e in
    let args = chained _ _ a known.1 in
    let name = mapped _ _ a args.2 in
    let list = chained arguments_in _ args.0 args.1 in
    let there = list_is _ list.0 (found _ list.0 list.1) in
    let are = arguments_are list.0 args.0 list.2 (canonical_member (codes "args") ms (array list.0) c there) in
    let word = word_is _ name.0 name.1 in
    let row = row_is move_names ms (asked_members (Move name.0 args.0)) c ((refl, (refl, tt)), ((refl, tt), (tt, tt))) known.0 refl (there ∙ ap (λ x. Some (array x)) are.0, (text_is _ _ kind, (word.0, tt))) in
    subst (λ x. (ms ≡ asked_members x) × AskedFits x) name.2 (row, (word.1, are.1))

move_again : (name : List ℕ) (args : List Arg) → IsWord name → AreArguments args → move_in (object (asked_members (Move name args))) ≡ Some (Move name args)
unfolding move_in
move_again name args w h = rw (arguments_again args h, word_again name w) refl

-- ---- events

-- a member is what its aim writes, and the kind may be so aimed
abbrev Aims : EventKind → Option Data → AskedTo → Type 0
Aims kind o to = (o ≡ Some (aim to)) × MayAim kind to

nothing_is : (kind : EventKind) (o : Option Data) (to : AskedTo) → MayAim kind Nothing → nothing_in o ≡ Some to → Aims kind o to
nothing_is kind o to may e = let is = chosen (is_null_in o) Nothing to e in subst (Aims kind o) is.1 (null_is o is.0, may)

seat_is : (o : Option Data) (to : AskedTo) → option_map Seat (result_ok (natural_in 255 o)) ≡ Some to → Aims EndTurn o to
seat_is o to e =
    let seat = mapped Seat (result_ok (natural_in 255 o)) to e in
    let is = natural_is 255 o seat.0 (found (natural_in 255 o) seat.0 seat.1) in
    subst (Aims EndTurn o) seat.2 (is.0, is.1)

turn_at : (b : Bool) (o : Option Data) (to : AskedTo) → is_null_in o ≡ b → cond b (Some Nothing) (option_map Seat (result_ok (natural_in 255 o))) ≡ Some to → Aims EndTurn o to
turn_at true o to is e = let same : Nothing ≡ to = cc in subst (Aims EndTurn o) same (null_is o is, tt)
turn_at false o to is e = seat_is o to e

name_is : (kind : EventKind) (o : Option Data) (to : AskedTo) → ((s : List ℕ) → IsWord s → MayAim kind (Name s)) → option_map Name (word_in o) ≡ Some to → Aims kind o to
name_is kind o to may e =
    let name = mapped Name (word_in o) to e in
    let is = word_is o name.0 name.1 in
    subst (Aims kind o) name.2 (is.0, may name.0 is.1)

aim_is : (kind : EventKind) (o : Option Data) (to : AskedTo) → aim_in kind o ≡ Some to → Aims kind o to
aim_is EndTurn o to e = turn_at (is_null_in o) o to refl e
aim_is EndPhase o to e = nothing_is EndPhase o to tt e
aim_is SetPhase o to e = name_is SetPhase o to (λ s h. h) e
aim_is EndStage o to e = nothing_is EndStage o to tt e
aim_is SetStage o to e = name_is SetStage o to (λ s h. h) e
aim_is EndGame o to e = nothing_is EndGame o to tt e

aim_again : (kind : EventKind) (to : AskedTo) → MayAim kind to → aim_in kind (Some (aim to)) ≡ Some to
aim_again EndTurn Nothing h = refl
aim_again EndTurn (Seat seat) h = rw (natural_again 255 seat h) refl
aim_again EndTurn (Name name) h = absurd h
aim_again EndPhase Nothing h = refl
aim_again EndPhase (Seat seat) h = absurd h
aim_again EndPhase (Name name) h = absurd h
aim_again SetPhase Nothing h = absurd h
aim_again SetPhase (Seat seat) h = absurd h
aim_again SetPhase (Name name) h = ap (option_map Name) (word_again name h)
aim_again EndStage Nothing h = refl
aim_again EndStage (Seat seat) h = absurd h
aim_again EndStage (Name name) h = absurd h
aim_again SetStage Nothing h = absurd h
aim_again SetStage (Seat seat) h = absurd h
aim_again SetStage (Name name) h = ap (option_map Name) (word_again name h)
aim_again EndGame Nothing h = refl
aim_again EndGame (Seat seat) h = absurd h
aim_again EndGame (Name name) h = absurd h

event_names : List (List ℕ)
event_names = codes "event" ∷ codes "kind" ∷ codes "to" ∷ []

event_is : (ms : Members) (a : Asked) → MembersAreCanonical ms → text_in (get_member (codes "kind") ms) ≡ Ok (codes "event") → event_in (object ms) ≡ Some a → (ms ≡ asked_members a) × AskedFits a
unfolding event_in event_names
event_is ms a c kind e =
    let known = unless (has_extra event_names ms) _ a e in
    let event = chained _ _ a known.1 in
    let to = mapped _ _ a event.2 in
    let name = chained kind_from _ event.0 event.1 in
    let there = text_is _ name.0 (found _ name.0 name.1) in
    let aims = aim_is event.0 _ to.0 to.1 in
    let row = row_is event_names ms (asked_members (Event event.0 to.0)) c ((refl, (refl, tt)), ((refl, tt), (tt, tt))) known.0 refl
    (there ∙ ap (λ x. Some (string x)) (kind_is name.0 event.0 name.2), (text_is _ _ kind, (aims.0, tt))) in
    subst (λ x. (ms ≡ asked_members x) × AskedFits x) to.2 (row, aims.1)

event_again : (kind : EventKind) (to : AskedTo) → MayAim kind to → event_in (object (asked_members (Event kind to))) ≡ Some (Event kind to)
unfolding event_in
event_again kind to h = rw (kind_again kind, aim_again kind to h) refl

-- ---- all four

kind_alone : List (List ℕ)
kind_alone = codes "kind" ∷ []

undo_is : (ms : Members) (a : Asked) → MembersAreCanonical ms → text_in (get_member (codes "kind") ms) ≡ Ok (codes "undo") → alone_in Undo (object ms) ≡ Some a → (ms ≡ asked_members a) × AskedFits a
unfolding kind_alone
undo_is ms a c kind e =
    let known = unless (has_extra kind_alone ms) (Some Undo) a e in
    let same : Undo ≡ a = cc (known.1) in
    subst (λ x. (ms ≡ asked_members x) × AskedFits x) same (row_is kind_alone ms (asked_members Undo) c (tt, tt) known.0 refl (text_is _ _ kind, tt), tt)

redo_is : (ms : Members) (a : Asked) → MembersAreCanonical ms → text_in (get_member (codes "kind") ms) ≡ Ok (codes "redo") → alone_in Redo (object ms) ≡ Some a → (ms ≡ asked_members a) × AskedFits a
unfolding kind_alone
redo_is ms a c kind e =
    let known = unless (has_extra kind_alone ms) (Some Redo) a e in
    let same : Redo ≡ a = cc (known.1) in
    subst (λ x. (ms ≡ asked_members x) × AskedFits x) same (row_is kind_alone ms (asked_members Redo) c (tt, tt) known.0 refl (text_is _ _ kind, tt), tt)

asked_by : (kind : List ℕ) (ms : Members) (a : Asked) → MembersAreCanonical ms → text_in (get_member (codes "kind") ms) ≡ Ok kind → asked_as (Some kind) (object ms) ≡ Some a → (ms ≡ asked_members a) × AskedFits a
asked_by kind ms a c is e = elim (either (bytes_eq kind (codes "move")) _ _ a e) [
  | inl p ↦ move_is ms a c (is ∙ ap (λ x. Ok x) (same_text kind _ p.0)) p.1
  | inr e1 ↦ elim (either (bytes_eq kind (codes "event")) _ _ a e1) [
    | inl p ↦ event_is ms a c (is ∙ ap (λ x. Ok x) (same_text kind _ p.0)) p.1
    | inr e2 ↦ elim (either (bytes_eq kind (codes "undo")) _ _ a e2) [
      | inl p ↦ undo_is ms a c (is ∙ ap (λ x. Ok x) (same_text kind _ p.0)) p.1
      | inr e3 ↦ let last = onlyif (bytes_eq kind (codes "redo")) _ a e3 in redo_is ms a c (is ∙ ap (λ x. Ok x) (same_text kind _ last.0)) last.1
    ]
  ]
]

asked_of : (kind : Option (List ℕ)) (ms : Members) (a : Asked) → MembersAreCanonical ms → result_ok (text_in (get_member (codes "kind") ms)) ≡ kind → asked_as kind (object ms) ≡ Some a
    → (ms ≡ asked_members a) × AskedFits a
asked_of None ms a c is e = absurd (cc)
asked_of (Some kind) ms a c is e = asked_by kind ms a c (found _ kind is) e

pub asked_is : (ms : Members) (a : Asked) → MembersAreCanonical ms → asked_in (object ms) ≡ Some a → (ms ≡ asked_members a) × AskedFits a
unfolding asked_in
asked_is ms a c e = asked_of (result_ok (text_in (get_member (codes "kind") ms))) ms a c refl e

pub asked_again : (a : Asked) → AskedFits a → asked_in (object (asked_members a)) ≡ Some a
unfolding asked_in
asked_again (Move name args) h = move_again name args h.0 h.1
asked_again (Event kind to) h = event_again kind to h
asked_again Undo h = refl
asked_again Redo h = refl

-- ---- the member

act_at : (o : Option Data) (a : Asked) → act_in o ≡ Ok a → (ms : Members) × (o ≡ Some (object ms)) × (asked_in (object ms) ≡ Some a)
act_at None a e = absurd (cc)
act_at (Some null) a e = absurd (cc)
act_at (Some (boolean b)) a e = absurd (cc)
act_at (Some (number n)) a e = absurd (cc)
act_at (Some (string s)) a e = absurd (cc)
act_at (Some (array ds)) a e = absurd (cc)
act_at (Some (object ms)) a e = (ms, refl, formed (asked_in (object ms)) a e)

pub act_is : (name : List ℕ) (ms : Members) (a : Asked) → MembersAreCanonical ms → act_in (get_member name ms) ≡ Ok a → (get_member name ms ≡ Some (object (asked_members a))) × AskedFits a
act_is name ms a c e =
    let there = act_at (get_member name ms) a e in
    let is = asked_is there.0 a (canonical_member name ms (object there.0) c there.1) there.2 in
    (there.1 ∙ ap (λ x. Some (object x)) is.0, is.1)

pub act_again : (a : Asked) → AskedFits a → act_in (Some (object (asked_members a))) ≡ Ok a
act_again a h = ap in_form (asked_again a h)
