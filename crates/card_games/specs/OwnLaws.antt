-- The proofs that moves, hooks and views keep a game's own states. No definition but laws of games cites them.
use Rattle.std.specs.Prelude.{◌≡◌, ℕ, suc, ◌+◌, ◌<◌, ◌&&◌, Bool, true, false, if◌then◌else◌, IsTrue, List, [], ◌∷◌, ◌++◌, length, map, replicate, slice_set, Option, None, refl}
use Rattle.std.specs.List.{AllByRecursion, enumerate_from, list_all}
use Rattle.std.proofs.Common.{◌∙◌, ap}
use Rattle.std.proofs.lemmas.Bool.{and_parts}
use Rattle.std.proofs.lemmas.List.Elements.{All-replicate, All-set}
use Rattle.std.proofs.lemmas.List.Sums.{AllPass-from_list_all, list_all-from_AllPass}
use Rattle.card_games.specs.Offers.{offers}
use Rattle.card_games.specs.PartLaws.{both_true}
use Rattle.card_games.specs.Parts.{own_option, own_split}
use Rattle.game_sheet.specs.declared.args.Arg.{Arg}
use Rattle.game_sheet.specs.declared.sheet.Sheet.{Sheet}
use Rattle.game_trait.specs.Deed.{Deed, Done, GaveUp, Invalid}
use Rattle.game_trait.specs.Lawful.{GivesOwn}
use Rattle.game_trait.specs.Queues.{QueuesInSheet}
use Rattle.secret_strip.specs.Strip.{has_seat, seen, seen_players, strip}
use Rattle.secret_strip.specs.declared.split.Split.{Split}

-- ---- deeds

-- one of two deeds
pub either_gives : {G E : Type 0} (own : G → Bool) (test : Bool) (one other : Deed G E) → GivesOwn own one → GivesOwn own other → GivesOwn own (if test then one else other)
either_gives own true one other p q = p
either_gives own false one other p q = q

pub either_keeps : {A E : Type 0} (sheet : Sheet) (test : Bool) (one other : Deed A E) → QueuesInSheet sheet one → QueuesInSheet sheet other → QueuesInSheet sheet (if test then one else other)
either_keeps sheet true one other p q = p
either_keeps sheet false one other p q = q

-- a move that is made under a test
pub move_own : {G : Type 0} (own : G → Bool) (test : Bool) (after : G) (words : List ℕ) → (test ≡ true → IsTrue (own after)) → GivesOwn own (if test then Done after words [] else GaveUp Invalid)
move_own own true after words gives = gives refl
move_own own false after words gives = tt

pub either_own : {G : Type 0} (own : G → Bool) (test : Bool) (one other : G) → (test ≡ true → IsTrue (own one)) → IsTrue (own other) → IsTrue (own (if test then one else other))
either_own own true one other p q = p refl
either_own own false one other p q = q

-- ---- lists

pub all_set : {A : Type 0} (p : A → Bool) (xs : List A) (i : ℕ) (x : A) → IsTrue (list_all p xs) → IsTrue (p x) → IsTrue (list_all p (slice_set xs i x))
all_set p xs i x all here = list_all-from_AllPass p (slice_set xs i x) (All-set (λ y. p y ≡ true) xs i x here (AllPass-from_list_all p xs all))

pub all_copies : {A : Type 0} (p : A → Bool) (n : ℕ) (x : A) → IsTrue (p x) → IsTrue (list_all p (replicate n x))
all_copies p n x here = list_all-from_AllPass p (replicate n x) (All-replicate (λ y. p y ≡ true) n x here)

entry_seen : {P : Type 0} (own : P → Bool) (shown : Bool) (entry : Option P) → IsTrue (own_option own entry) → IsTrue (own_option own (if shown then entry else None))
entry_seen own true entry own_entry = own_entry
entry_seen own false entry own_entry = refl

all_seen_from : {P : Type 0} (own : P → Bool) (viewer : Option ℕ) (n : ℕ) (entries : List (Option P)) → IsTrue (list_all (own_option own) entries) → IsTrue (list_all (own_option own) (map (seen viewer) (enumerate_from n entries)))
all_seen_from own viewer n [] all = refl
all_seen_from own viewer n (entry ∷ entries) all =
    let parts = and_parts (own_option own entry) (list_all (own_option own) entries) all in
    both_true (own_option own (seen viewer (n, entry))) (list_all (own_option own) (map (seen viewer) (enumerate_from (n + 1) entries))) (entry_seen own (has_seat viewer n) entry parts.0) (all_seen_from own viewer (n + 1) entries parts.1)

pub all_seen : {P : Type 0} (own : P → Bool) (viewer : Option ℕ) (entries : List (Option P)) → IsTrue (list_all (own_option own) entries) → IsTrue (list_all (own_option own) (seen_players viewer entries))
all_seen own viewer entries all = all_seen_from own viewer 0 entries all

count_seen_from : {P : Type 0} (viewer : Option ℕ) (n : ℕ) (entries : List (Option P)) → length (map (seen viewer) (enumerate_from n entries)) ≡ length entries
count_seen_from viewer n [] = refl
count_seen_from viewer n (entry ∷ entries) = ap suc (count_seen_from viewer (n + 1) entries)

pub count_seen : {P : Type 0} (viewer : Option ℕ) (entries : List (Option P)) → length (seen_players viewer entries) ≡ length entries
count_seen viewer entries = count_seen_from viewer 0 entries

-- ---- split states

-- the parts of an own split state
pub record OwnSplit {C S P : Type 0} (have : Split C S P → Bool) (common : C → Bool) (secret : S → Bool) (player : P → Bool) (g : Split C S P) : Type 0 where
  pub seats : have g ≡ true
  pub own_common : common g.common ≡ true
  pub own_secret : own_option secret g.secret ≡ true
  pub own_players : list_all (own_option player) g.players ≡ true

module _ {C S P : Type 0} (have : Split C S P → Bool) (common : C → Bool) (secret : S → Bool) (player : P → Bool) where
  pub parts_of : (g : Split C S P) → IsTrue (have g && own_split common secret player g) → OwnSplit have common secret player g
  parts_of g own =
      let outer = and_parts (have g) (own_split common secret player g) own in
      let middle = and_parts (common g.common && own_option secret g.secret) (list_all (own_option player) g.players) outer.1 in
      let inner = and_parts (common g.common) (own_option secret g.secret) middle.0 in
      record { seats = outer.0; own_common = inner.0; own_secret = inner.1; own_players = middle.1 }

  pub of_parts : (g : Split C S P) → OwnSplit have common secret player g → IsTrue (have g && own_split common secret player g)
  of_parts g parts =
      both_true (have g) (own_split common secret player g) parts.seats
      (both_true (common g.common && own_option secret g.secret) (list_all (own_option player) g.players)
      (both_true (common g.common) (own_option secret g.secret) parts.own_common parts.own_secret) parts.own_players)

  -- a view has as many entries, whatever the secret part
  pub view_own : (g : Split C S P) (viewer : Option ℕ) → have (strip g viewer) ≡ have g → IsTrue (have g && own_split common secret player g) → IsTrue (have (strip g viewer) && own_split common secret player (strip g viewer))
  view_own g viewer as_many own =
      let parts = parts_of g own in
      of_parts (strip g viewer) (record {
        seats = as_many ∙ parts.seats;
        own_common = parts.own_common;
        own_secret = refl;
        own_players = all_seen player viewer g.players parts.own_players;
      })

-- ---- offers

pub offers_known : (moves id : ℕ) (arguments : List Arg) → id < moves → AllByRecursion (λ (offer : ℕ × List Arg). offer.0 < moves) (offers id arguments)
offers_known moves id [] known = tt
offers_known moves id (argument ∷ arguments) known = (known, offers_known moves id arguments known)

pub all_joined : {A : Type 0} (P : A → Type 0) (xs ys : List A) → AllByRecursion P xs → AllByRecursion P ys → AllByRecursion P (xs ++ ys)
all_joined P [] ys all more = more
all_joined P (x ∷ xs) ys all more = (all.0, all_joined P xs ys all.1 more)

pub all_if : {A : Type 0} (P : A → Type 0) (test : Bool) (xs : List A) → AllByRecursion P xs → AllByRecursion P (if test then xs else [])
all_if P true xs all = all
all_if P false xs all = tt
