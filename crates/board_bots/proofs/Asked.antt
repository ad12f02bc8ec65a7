-- What a receive makes of the answer of the bot that it asked.
use Rattle.std.proofs.Common.{◌≡◌, ◌≤◌, ◌++◌, ℕ, List, [], ◌∷◌, length, slice_get, Option, Some, None, true, IfOk, Result, Ok, Err, arith, refl, ap, subst, sym, ◌∙◌}
use Rattle.any_game.specs.AnyRules.{any_rules}
use Rattle.any_game.specs.GameKind.{GameKind}
use Rattle.any_game.specs.declared.any_g.AnyG.{AnyG}
use Rattle.board_links.specs.declared.link.Came.{Came}
use Rattle.board_links.specs.declared.link.Came.TheVariants as came
use Rattle.game_sheet.specs.declared.args.Arg.{Arg}
use Rattle.player_sight.specs.declared.shown.Snapshot.{Snapshot}
use Rattle.bot_sitter.specs.Given.{GivesAct, option_asked, with_last}
use Rattle.bot_sitter.specs.Hearing.{Grows, IsKept}
use Rattle.bot_sitter.specs.Seen.{settled_of}
use Rattle.bot_sitter.specs.Sitting.{Sitting, is_above, settled_in}
use Rattle.client_predict.specs.Following.{followed}
use Rattle.game_sheet.specs.Lines.{lines}
use Rattle.board_bots.proofs.Seeing.{sees_on, sees_one}
use Rattle.board_bots.specs.Bots.{ActsOn, Asks, AsksBy, Chooses, ChosenOn, IsChoice, IsPlay, Moment, PlaysBy, SeesTo, asked, came_of, last_after, moment, options_on}
use Rattle.board_bots.specs.Glances.{glance_of}
use Rattle.board_bots.specs.Sight.{Sees}
use Rattle.board_bots.specs.declared.bot_link.Choice.{Choice}
use Rattle.board_bots.specs.declared.bot_link.Said.{Said}
use Rattle.board_bots.specs.declared.bot_link.Said.TheVariants as said
use Rattle.board_bots.specs.declared.bot_link.Choice.TheVariants as choice
use Rattle.board_bots.specs.declared.glance.Glance.{Glance}

asks_on : (client : Option (Snapshot AnyG)) (s : Snapshot AnyG) (m : Moment) (answer : Came) (after : Moment)
    → client ≡ Some s → AsksBy (options_on m.sitting s) s m answer after → Asks client m answer after
asks_on client s m answer after e h = subst (λ c. Asks c m answer after) (sym e) h

by_choice : (offers : List (ℕ × List Arg)) (s : Snapshot AnyG) (m : Moment) (answer : Came) (after : Moment) (choice : Option ℕ)
    → 1 ≤ length offers → PlaysBy choice s (asked m s choice) answer after → AsksBy offers s m answer after
by_choice [] s m answer after choice some h = absurd (omega (arith, some))
by_choice (offer ∷ offers) s m answer after choice some h = (choice, h)

some_offer : (offers : List (ℕ × List Arg)) (place : ℕ) (offer : ℕ × List Arg) → slice_get offers place ≡ Some offer → 1 ≤ length offers
some_offer [] place offer e = cc
some_offer (first ∷ offers) place offer e = omega arith

play_on : (s : Snapshot AnyG) (offers : List (ℕ × List Arg)) (found : Option (ℕ × List Arg)) (number place : ℕ) (c : Choice) (seen seen2 : List Glance) (chosen chosen2 : List (Option ℕ))
    → slice_get offers place ≡ found → IsPlay found number c → number ≡ s.number → seen2 ≡ seen ++ glance_of s ∷ [] → chosen2 ≡ chosen ++ Some place ∷ []
    → ChosenOn s offers c seen chosen seen2 chosen2
play_on s offers None number place c seen seen2 chosen chosen2 e h n saw kept = elim h [ ]
play_on s offers (Some offer) number place c seen seen2 chosen chosen2 e h n saw kept =
    subst (λ x. ChosenOn s offers x seen chosen seen2 chosen2) (sym h) (place, e, n, saw, kept)

pub chosen_at : (s : Snapshot AnyG) (offers : List (ℕ × List Arg)) (number : ℕ) (place : Option ℕ) (c : Choice) (seen seen2 : List Glance) (chosen chosen2 : List (Option ℕ))
    → IsChoice offers number place c → number ≡ s.number → seen2 ≡ seen ++ glance_of s ∷ [] → chosen2 ≡ chosen ++ place ∷ []
    → ChosenOn s offers c seen chosen seen2 chosen2
chosen_at s offers number None c seen seen2 chosen chosen2 h n saw kept =
    subst (λ x. ChosenOn s offers x seen chosen seen2 chosen2) (sym h.1) (h.0, n, saw, kept)
chosen_at s offers number (Some place) c seen seen2 chosen chosen2 h n saw kept =
    play_on s offers (slice_get offers place) number place c seen seen2 chosen chosen2 refl h n saw kept

pub ends_as : {A : Type 0} (a b : List A) (x y : A) → a ≡ b ++ x ∷ [] → x ≡ y → a ≡ b ++ y ∷ []
ends_as a b x y e same = e ∙ ap (λ z. b ++ z ∷ []) same

pub if_ok : {A E : Type 0} (P Q : A → Type 0) (r : Result A E) → ((x : A) → P x → Q x) → IfOk r P → IfOk r Q
if_ok P Q (Ok x) h p = h x p
if_ok P Q (Err e) h p = p

pub chooses_of : (sitting : Sitting GameKind AnyG) (s : Snapshot AnyG) (offers : List (ℕ × List Arg)) (c : Choice) (seen seen2 : List Glance) (chosen chosen2 : List (Option ℕ))
    → settled_in sitting.client ≡ Some s → offers ≡ options_on sitting s → ChosenOn s offers c seen chosen seen2 chosen2 → Chooses c sitting seen chosen seen2 chosen2
chooses_of sitting s offers c seen seen2 chosen chosen2 e o h = (s, e, subst (λ l. ChosenOn s l c seen chosen seen2 chosen2) o h)

-- ---- the answers

pub passed : (sitting after : Sitting GameKind AnyG) (seen seen2 : List Glance) (chosen chosen2 : List (Option ℕ)) (number : ℕ)
    → Chooses (choice.Passes number) sitting seen chosen seen2 chosen2 → after ≡ with_last sitting number
    → Asks (settled_in sitting.client) (moment sitting seen chosen) came.Quiet (moment after seen2 chosen2)
passed sitting after seen seen2 chosen chosen2 number h a =
    let s = h.0 in let m = moment sitting seen chosen in
    asks_on (settled_in sitting.client) s m came.Quiet (moment after seen2 chosen2) h.1
    (by_choice (options_on sitting s) s m came.Quiet (moment after seen2 chosen2) None h.2.0 (
      refl,
      ap (λ x. moment x seen2 chosen2) (a ∙ ap (with_last sitting) h.2.1) ∙ ap (λ l. moment (with_last sitting s.number) l chosen2) h.2.2
          ∙ ap (λ l. moment (with_last sitting s.number) (seen ++ glance_of s ∷ []) l) h.2.3,
    ))

pub played : (sitting mid next : Sitting GameKind AnyG) (seen seen2 : List Glance) (chosen chosen2 : List (Option ℕ)) (number id : ℕ) (args : List Arg) (line : List ℕ)
    → Chooses (choice.Plays number id args) sitting seen chosen seen2 chosen2 → mid ≡ with_last sitting number
    → GivesAct (any_rules mid.game) mid.starved (option_asked (any_rules mid.game) (id, args)) line mid next
    → Asks (settled_in sitting.client) (moment sitting seen chosen) (came.Line line) (moment next seen2 chosen2)
played sitting mid next seen seen2 chosen chosen2 number id args line h a act =
    let s = h.0 in let m = moment sitting seen chosen in let place = h.2.0 in
    let w : Sitting GameKind AnyG = with_last sitting s.number in
    let same : mid ≡ w = a ∙ ap (with_last sitting) h.2.2 in
    let given = subst (λ (x : Sitting GameKind AnyG). GivesAct (any_rules x.game) x.starved (option_asked (any_rules x.game) (id, args)) line x next) same act in
    asks_on (settled_in sitting.client) s m (came.Line line) (moment next seen2 chosen2) h.1
    (by_choice (options_on sitting s) s m (came.Line line) (moment next seen2 chosen2) (Some place) (some_offer (options_on sitting s) place (id, args) h.2.1)
    ((id, args), line, next, h.2.1, refl, given, ap (λ l. moment next l chosen2) h.2.3 ∙ ap (λ l. moment next (seen ++ glance_of s ∷ []) l) h.2.4))

-- ---- what it sees

pub sight_of : (sitting : Sitting GameKind AnyG) (s : Snapshot AnyG) (offers : List (ℕ × List Arg)) (c : Choice) (opening seen seen2 : List Glance) (chosen chosen2 : List (Option ℕ))
    → ChosenOn s offers c seen chosen seen2 chosen2 → settled_of (followed (any_rules sitting.game) (lines sitting.sent)).playing ≡ Some s → is_above sitting.last s.number ≡ true
    → SeesTo opening (moment sitting seen chosen) → Sees (any_rules sitting.game) opening (lines sitting.sent) (last_after c sitting.last) seen2
sight_of sitting s offers choice.NoOption opening seen seen2 chosen chosen2 h settled above sees =
    subst (λ l. Sees (any_rules sitting.game) opening (lines sitting.sent) sitting.last l) (sym h.1) sees
sight_of sitting s offers (choice.Passes number) opening seen seen2 chosen chosen2 h settled above sees =
    subst (λ n. Sees (any_rules sitting.game) opening (lines sitting.sent) (Some n) seen2) (sym h.1)
    (sees_one (any_rules sitting.game) opening (lines sitting.sent) sitting.last seen seen2 s settled above h.2 sees)
sight_of sitting s offers (choice.Plays number id args) opening seen seen2 chosen chosen2 h settled above sees =
    subst (λ n. Sees (any_rules sitting.game) opening (lines sitting.sent) (Some n) seen2) (sym h.2)
    (sees_one (any_rules sitting.game) opening (lines sitting.sent) sitting.last seen seen2 s settled above h.3 sees)

pub sight_sent : (old new : Sitting GameKind AnyG) (opening seen : List Glance) (chosen : List (Option ℕ)) → Grows old.sent new.sent → IsKept old new
    → SeesTo opening (moment old seen chosen) → SeesTo opening (moment new seen chosen)
sight_sent old new opening seen chosen grows kept sees =
    subst (λ (x : GameKind). Sees (any_rules x) opening (lines new.sent) new.last seen) (sym kept.game)
    (subst (λ n. Sees (any_rules old.game) opening (lines new.sent) n seen) (sym kept.last)
    (sees_on (any_rules old.game) opening (lines old.sent) grows.0 (lines new.sent) old.last seen grows.1 sees))

-- ---- by the choice that was made

pub passed_as : (c : Choice) (answer : Said) (sitting mid after : Sitting GameKind AnyG) (seen seen2 seen3 : List Glance) (chosen chosen2 chosen3 : List (Option ℕ)) (number : ℕ)
    → c ≡ choice.Passes number → Chooses c sitting seen chosen seen2 chosen2 → mid ≡ with_last sitting number
    → answer ≡ said.Quiet → after ≡ mid → seen3 ≡ seen2 → chosen3 ≡ chosen2
    → Asks (settled_in sitting.client) (moment sitting seen chosen) (came_of answer) (moment after seen3 chosen3)
passed_as c answer sitting mid after seen seen2 seen3 chosen chosen2 chosen3 number is h a quiet same saw kept =
    subst (λ x. Asks (settled_in sitting.client) (moment sitting seen chosen) (came_of x) (moment after seen3 chosen3)) (sym quiet)
    (subst (λ l. Asks (settled_in sitting.client) (moment sitting seen chosen) came.Quiet (moment after l chosen3)) (sym saw)
    (subst (λ l. Asks (settled_in sitting.client) (moment sitting seen chosen) came.Quiet (moment after seen2 l)) (sym kept)
    (passed sitting after seen seen2 chosen chosen2 number (subst (λ x. Chooses x sitting seen chosen seen2 chosen2) is h) (same ∙ a))))

pub acted_as : (c : Choice) (answer : Said) (sitting next : Sitting GameKind AnyG) (seen seen2 seen3 : List Glance) (chosen chosen2 chosen3 : List (Option ℕ)) (number id : ℕ) (args : List Arg)
    → c ≡ choice.Plays number id args → Chooses c sitting seen chosen seen2 chosen2 → seen3 ≡ seen2 → chosen3 ≡ chosen2 → ActsOn sitting number id args answer next
    → Asks (settled_in sitting.client) (moment sitting seen chosen) (came_of answer) (moment next seen3 chosen3)
acted_as c said.Quiet sitting next seen seen2 seen3 chosen chosen2 chosen3 number id args is h saw kept act = elim act [ ]
acted_as c said.Ended sitting next seen seen2 seen3 chosen chosen2 chosen3 number id args is h saw kept act = elim act [ ]
acted_as c (said.Line line) sitting next seen seen2 seen3 chosen chosen2 chosen3 number id args is h saw kept act =
    subst (λ l. Asks (settled_in sitting.client) (moment sitting seen chosen) (came.Line line.items) (moment next l chosen3)) (sym saw)
    (subst (λ l. Asks (settled_in sitting.client) (moment sitting seen chosen) (came.Line line.items) (moment next seen2 l)) (sym kept)
    (played sitting (with_last sitting number) next seen seen2 chosen chosen2 number id args line.items (subst (λ x. Chooses x sitting seen chosen seen2 chosen2) is h) refl act))
