-- What the end of a serving says, under other names for the same door, and how many bots' links were given before it.
use Rattle.std.proofs.Common.{◌≡◌, ◌<◌, ◌-◌, ◌+◌, ℕ, zero, suc, List, [], ◌∷◌, Bool, inl, inr, Option, None, Some, append-nil, ap, arith, refl, subst, sym, ◌++◌}
use Rattle.std.specs.Prelude.{All, IfOk, IsSome, Ok, Result, option_map}
use Rattle.any_game.specs.AnyRules.{any_rules}
use Rattle.any_game.specs.GameKind.{GameKind}
use Rattle.any_game.specs.declared.any_g.AnyG.{AnyG}
use Rattle.board_links.specs.Pieces.{told_bytes}
use Rattle.command_words.specs.declared.serve.ServeWords.{ServeWords}
use Rattle.door_serve.specs.Ends.{AreGiven, EndsBy, Reports}
use Rattle.door_serve.specs.Rooms.{Calls, Hosted, Stand}
use Rattle.door_serve.specs.declared.serving.ServeEnd.{ServeEnd}
use Rattle.door_serve.specs.declared.serving.ServeEnd.TheVariants as end
use Rattle.kept_serve.specs.Refused.{WereRefused}
use Rattle.match_master.specs.Held.{Held as Book, StandsFor}
use Rattle.object_journal.specs.declared.replaying.OpenNo.TheVariants as open_no
use Rattle.room_keeper.specs.declared.gauged_room.GaugedRoom.{GaugedRoom}
use Rattle.session_pool.proofs.Places.{all_front}
use Rattle.session_pool.specs.Turn.{Stand as Standing}
use Rattle.session_pool.specs.Watched.{StandsIn}
use Rattle.board_commands.specs.Serving.{AreNew, GaveBots, ServedIn, Serves, ServesSeats, exit_of, gauged, held_with, seats_asked}

pub ends_same : (how : ServeEnd) (sessions f f' : ℕ) (l l' : Option ℕ) (s s' : Bool) (a a' n n' old new : ℕ) → f ≡ f' → l ≡ l' → s ≡ s' → a ≡ a' → n ≡ n'
    → EndsBy how sessions f l s a n old new → EndsBy how sessions f' l' s' a' n' old new
ends_same how sessions f f' l l' s s' a a' n n' old new ef el es ea en e =
    subst (λ x. EndsBy how sessions f' l' s' a' x old new) en
    (subst (λ x. EndsBy how sessions f' l' s' x n old new) ea
    (subst (λ x. EndsBy how sessions f' l' x a n old new) es
    (subst (λ x. EndsBy how sessions f' x s a n old new) el
    (subst (λ x. EndsBy how sessions x l s a n old new) ef e))))

pub reports_same : {B : Type 0} (known : Hosted B) (many n n' : ℕ) (rooms : List B) (how : ServeEnd) (before : List ℕ) (after : Option (List ℕ)) → n ≡ n' → Reports known many n rooms how before after
    → Reports known many n' rooms how before after
reports_same known many n n' rooms how before after e r = subst (λ x. Reports known many x rooms how before after) e r

all_given : (left start seats given : ℕ) → start ≡ seats → (0 < left → given ≡ 0) → 0 < given → start - left ≡ seats
all_given zero start seats given is first some = omega (arith, is)
all_given (suc left) start seats given is first some = let none = first (omega arith) in absurd (omega (arith, none, some))

-- of so many links some are left, and the door gave one only if none is
pub gave_bots : (left start seats given : ℕ) → start ≡ seats → (0 < left → given ≡ 0) → GaveBots seats (start - left) given
gave_bots left start seats given is first = record { most = omega (arith, is); first = all_given left start seats given is first }

pub gave_none : (seats given : ℕ) → given ≡ 0 → GaveBots seats 0 given
gave_none seats given none = record { most = omega arith; first = λ some. absurd (omega (arith, none, some)) }

-- what holds of the value of an Ok
pub of_ok : {A E : Type 0} (P : A → Type 0) (r : Result A E) (x : A) → r ≡ Ok x → IfOk r P → P x
of_ok P r x is holds = subst (λ y. IfOk y P) is holds

held_told : (held : Option (List ℕ)) → IsSome held → held ≡ Some (told_bytes held)
held_told None tells = cc tells
held_told (Some bytes) tells = refl

-- without memory to begin nothing was served or printed
pub serves_none : {B : Type 0} (known : Hosted B) (many sessions seats f : ℕ) (l : Option ℕ) (s : Bool) (given old : ℕ) (held : Option (List ℕ)) (rooms : List B)
    → given ≡ 0 → rooms ≡ [] → ServesSeats known end.NoMemory many sessions seats rooms f l s f given old old held held
serves_none known many sessions seats f l s given old held rooms none empty = record {
  bots = 0;
  gave = gave_none seats given none;
  ended = (refl, refl);
  reports = λ tells. inr (refl, empty, omega (arith, none), held_told held tells);
}

-- nor was anything without memory for the rooms
pub serves_starved : {B : Type 0} (known : Hosted B) (asked : ServeWords) (f : ℕ) (l : Option ℕ) (s : Bool) (given old : ℕ) (held : Option (List ℕ)) (rooms : List B)
    → given ≡ 0 → rooms ≡ [] → Serves known asked (exit_of end.NoMemory) rooms f l s f given old old held held
serves_starved known asked f l s given old held rooms none empty = record {
  how = end.NoMemory;
  bots = 0;
  gave = gave_none (seats_asked asked.bots) given none;
  exits = refl;
  ended = (refl, refl);
  reports = λ tells. inr (refl, empty, omega (arith, none), held_told held tells);
}

-- what `serve` says, from what its serving says, where no bots were asked for
pub serves_plain : {B : Type 0} (known : Hosted B) (asked : ServeWords) (how : ServeEnd) (rooms : List B) (f : ℕ) (l : Option ℕ) (s : Bool) (a n old new : ℕ) (held after : Option (List ℕ))
    → asked.bots ≡ None → EndsBy how asked.sessions f l s a n old new → (IsSome held → Reports known asked.rooms n rooms how (told_bytes held) after)
    → Serves known asked (exit_of how) rooms f l s a n old new held after
serves_plain known asked how rooms f l s a n old new held after none e r =
    let same : n ≡ 0 + n = omega arith in
    record {
      how = how;
      bots = 0;
      gave = subst (λ t. GaveBots (seats_asked t) 0 n) (sym none) (record { most = omega arith; first = λ _. refl });
      exits = refl;
      ended = subst (λ x. EndsBy how asked.sessions f (held_with asked.bots l) s a x old new) same
          (subst (λ t. EndsBy how asked.sessions f (held_with t l) s a n old new) (sym none) e);
      reports = λ tells. reports_same known asked.rooms n (0 + n) rooms how (told_bytes held) after same (r tells);
    }

-- what is given says by which histories links were served, and which their sessions had seen before
pub served_in : {B : Type 0} (known : Hosted B) (served : List Calls → (Standing → Type 0) → Type 0) (many : ℕ) (how : ServeEnd) (before rooms : List B)
    → AreGiven known many how before rooms (λ pasts histories. served pasts (StandsIn histories))
    → ((pasts : List Calls) × Stand known.stands_for before pasts × served pasts (λ s. Unit {0})) → ServedIn known (Stand known.stands_for before) served rooms
served_in known served many how before rooms (inl (pasts, histories, stood, are, told)) any = (pasts, stood, inl (histories, are.stand, told))
served_in known served many how before rooms (inr (starved, none)) (pasts, stood, any) = (pasts, stood, inr (none, any))

-- what new books stood for comes to no call
stood_new : (rooms : List (GaugedRoom GameKind (Book GameKind AnyG))) → All (λ r. StandsFor any_rules r.room []) rooms → (pasts : List Calls) → Stand gauged.stands_for rooms pasts → AreNew pasts
stood_new [] fresh [] stood = λ k d low. absurd (omega (arith, low))
stood_new [] fresh (past ∷ pasts) stood = absurd stood
stood_new (r ∷ rooms) fresh [] stood = absurd stood
stood_new (r ∷ rooms) fresh (past ∷ pasts) stood =
    all_front (λ (h : Calls). (book : Book GameKind AnyG) × StandsFor any_rules book [] × StandsFor any_rules book h) past pasts (r.room, fresh 0 r (omega arith), stood.0)
    (stood_new rooms (λ k d low. fresh (suc k) d (omega (arith, low))) pasts stood.1)

pub served_new : (served : List Calls → (Standing → Type 0) → Type 0) (before rooms : List (GaugedRoom GameKind (Book GameKind AnyG))) → All (λ r. StandsFor any_rules r.room []) before
    → ServedIn gauged (Stand gauged.stands_for before) served rooms → ServedIn gauged AreNew served rooms
served_new served before rooms fresh (pasts, stood, told) = (pasts, stood_new before fresh pasts stood, told)

-- none was served, and no room had been opened
pub served_none : (served : List Calls → (Standing → Type 0) → Type 0) (rooms : List (GaugedRoom GameKind (Book GameKind AnyG))) → rooms ≡ [] → served [] (λ s. Unit {0}) → ServedIn gauged AreNew served rooms
served_none served rooms none any = ([], (λ k d low. absurd (omega (arith, low))), inr (none, any))

pub same_inside : {X : Type 0} (x y : X) → Some x ≡ Some y → x ≡ y
same_inside x y e = cc

-- no disk was asked for, since there was no memory
pub none_given : {D : Type 0} (is_told : D → Type 0) (seen : D → List ℕ) (faults : D → ℕ) (rooms : ℕ) (given : Option (List D)) (count : ℕ) → WereRefused is_told seen faults rooms given given count count open_no.NoMemory
none_given is_told seen faults rooms given count = record { disks = []; gave = with_none given; cause = inl (inl refl) }
  where
    with_none : {D : Type 0} (given : Option (List D)) → given ≡ option_map (λ before. before ++ []) given
    with_none None = refl
    with_none (Some disks) = ap Some (sym (append-nil disks))
