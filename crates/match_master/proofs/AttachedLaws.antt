-- What a write at one place makes of the attachments, and a walk over all places.
use Rattle.std.proofs.Common.{◌≡◌, ◌≤◌, ℕ, zero, suc, ◌==◌, Bool, List, [], ◌∷◌, ◌++◌, length, map, Option, Some, None, option_map, is_some, nat_eq, true, false, if◌then◌else◌, position, slice_get, Result, Ok, Err, OnOk, OnErr, refl, sym, ap, ◌∙◌, subst, arith}
use Rattle.indexmap.specs.IndexMap.{set_value_at, insert_entry}
use Rattle.indexmap.proofs.MapLemmas.{Found-position, insert_entry-first}
use Rattle.std.specs.Map.{values_of, keys_of, lookup}
use Rattle.std.proofs.lemmas.Bool.Decides.{nat_tests}
use Rattle.std.proofs.lemmas.Bool.{true≢false}
use Rattle.game_sheet.specs.Viewer.{Viewer, seat_of}
use Rattle.game_sheet.specs.declared.act.Bye.{Bye}
use Rattle.room_history.specs.Held.{attachment_take_reply, attachment_with}
use Rattle.room_history.specs.Outbox.{Attachment}
use Rattle.room_history.specs.Piece.{Mark}
use Rattle.match_master.specs.declared.attachments.Attached.{Attached}
use Rattle.match_master.specs.Attached.{Becomes, Lines, all_held, all_ready, all_told, emptied_of, has_end, held_of, own_told, ready_of, sent, staged, taken_reply, told, told_at}
use Rattle.match_master.specs.Outgoing.{with_line}
use Rattle.match_master.specs.Places.{at_place, up_to_place}

some_is : {V : Type 0} (v w : V) → Some v ≡ Some w → v ≡ w
some_is v w h = cc

eqb_is : (p q : ℕ) → nat_eq p q ≡ true → p ≡ q
eqb_is p q h = grind (arith, nat_tests)

-- what is found at a key once each value was changed
pub lookup-mapped : {V W : Type 0} (f : ℕ → V → W) (es : List (ℕ × V)) (q : ℕ) → lookup (nat_eq q) (map (λ e. (e.0, f e.0 e.1)) es) ≡ option_map (f q) (lookup (nat_eq q) es)
lookup-mapped f [] q = refl
lookup-mapped {V} {W} f (x ∷ es) q = by (lookup-mapped f es q) (nat_eq q x.0) refl
  where
    by : lookup (nat_eq q) (map (λ e. (e.0, f e.0 e.1)) es) ≡ option_map (f q) (lookup (nat_eq q) es)
        → (b : Bool) → nat_eq q x.0 ≡ b → (if b then Some (f x.0 x.1) else lookup (nat_eq q) (map (λ e. (e.0, f e.0 e.1)) es)) ≡ option_map (f q) (if b then Some x.1 else lookup (nat_eq q) es)
    by ih true e = ap (λ k. Some (f k x.1)) (sym (eqb_is q x.0 e))
    by ih false e = ih

pub lookup_held : (es : List (ℕ × Attached)) (pass : ℕ) → lookup (nat_eq pass) (all_held es) ≡ option_map held_of (lookup (nat_eq pass) es)
lookup_held es pass = lookup-mapped (λ k a. held_of a) es pass

-- ---- a map that is written at a key

same_keys : (k q : ℕ) → nat_eq q k ≡ nat_eq k q
same_keys k q = grind (arith, nat_tests)

at_key : {V : Type 0} (b c : Bool) (v : V) (w rest : Option V) → c ≡ b → (if b then Some v else rest) ≡ (if c then Some v else (if b then w else rest))
at_key true c v w rest e = rw e refl
at_key false c v w rest e = rw e refl

past_key : {V : Type 0} (b c : Bool) (v : V) (w now rest : Option V) → (b ≡ true → c ≡ false) → now ≡ (if c then Some v else rest) → (if b then w else now) ≡ (if c then Some v else (if b then w else rest))
past_key true c v w now rest apart e = rw (apart refl) refl
past_key false c v w now rest apart e = e

key_is : (k q x : ℕ) → nat_eq k x ≡ true → nat_eq k q ≡ nat_eq q x
key_is k q x h = grind (arith, nat_tests)

key_apart : (k q x : ℕ) → nat_eq k x ≡ false → nat_eq q x ≡ true → nat_eq k q ≡ false
key_apart k q x h e = grind (arith, nat_tests)

pub lookup-put : {V : Type 0} (es : List (ℕ × V)) (k q : ℕ) (v : V) → lookup (nat_eq q) (insert_entry nat_eq es k v) ≡ (if nat_eq k q then Some v else lookup (nat_eq q) es)
lookup-put [] k q v = ap (λ b. if b then Some v else None) (same_keys k q)
lookup-put {V} (x ∷ es) k q v = by (lookup-put es k q v) (nat_eq k x.0) refl
  where
    by : lookup (nat_eq q) (insert_entry nat_eq es k v) ≡ (if nat_eq k q then Some v else lookup (nat_eq q) es) → (b : Bool) → nat_eq k x.0 ≡ b → lookup (nat_eq q) (if b then (x.0, v) ∷ es else x ∷ insert_entry nat_eq es k v) ≡ (if nat_eq k q then Some v else (if nat_eq q x.0 then Some x.1 else lookup (nat_eq q) es))
    by ih true e = at_key (nat_eq q x.0) (nat_eq k q) v (Some x.1) (lookup (nat_eq q) es) (key_is k q x.0 e)
    by ih false e = past_key (nat_eq q x.0) (nat_eq k q) v (Some x.1) (lookup (nat_eq q) (insert_entry nat_eq es k v)) (lookup (nat_eq q) es) (key_apart k q x.0 e) ih

-- at a key there stands what stands there
pub found_at : {V : Type 0} (es : List (ℕ × V)) (p q : ℕ) (o : Option V) → lookup (nat_eq p) es ≡ o → (if nat_eq p q then o else lookup (nat_eq q) es) ≡ lookup (nat_eq q) es
found_at {V} es p q o e = by (nat_eq p q) refl
  where
    by : (b : Bool) → nat_eq p q ≡ b → (if b then o else lookup (nat_eq q) es) ≡ lookup (nat_eq q) es
    by true h = sym e ∙ ap (λ k. lookup (nat_eq k) es) (eqb_is p q h)
    by false h = refl

-- a choice by the key of what is made of what stands there
pub made_at : {V : Type 0} (es : List (ℕ × V)) (p q : ℕ) (f : Option V → Option V) → (if nat_eq p q then f (lookup (nat_eq p) es) else lookup (nat_eq q) es) ≡ (if nat_eq p q then f (lookup (nat_eq q) es) else lookup (nat_eq q) es)
made_at {V} es p q f = by (nat_eq p q) refl
  where
    by : (b : Bool) → nat_eq p q ≡ b → (if b then f (lookup (nat_eq p) es) else lookup (nat_eq q) es) ≡ (if b then f (lookup (nat_eq q) es) else lookup (nat_eq q) es)
    by true h = ap (λ k. f (lookup (nat_eq k) es)) (eqb_is p q h)
    by false h = refl

-- ---- a write at one place

pub set_is : {V : Type 0} (es : List (ℕ × V)) (i : ℕ) (v w : V) (f : ℕ × V → ℕ × V) → slice_get (values_of es) i ≡ Some v → ((k : ℕ) → slice_get es i ≡ Some (k, v) → f (k, v) ≡ (k, w)) → set_value_at es i w ≡ at_place i f es
set_is [] i v w f h e = refl
set_is (x ∷ es) zero v w f h e =
    let same : x.1 ≡ v = some_is x.1 v h in
    ap (λ y. y ∷ es) (sym (ap (λ u. f (x.0, u)) same ∙ e x.0 (ap (λ u. Some (x.0, u)) same)))
set_is (x ∷ es) (suc i) v w f h e = ap (λ l. x ∷ l) (set_is es i v w f h e)

-- and of what is held
pub held_set : (es : List (ℕ × Attached)) (i : ℕ) (v w : Attached) (f : ℕ × Attachment → ℕ × Attachment) → slice_get (values_of es) i ≡ Some v → ((k : ℕ) → f (k, held_of v) ≡ (k, held_of w)) → all_held (set_value_at es i w) ≡ at_place i f (all_held es)
held_set [] i v w f h e = refl
held_set (x ∷ es) zero v w f h e = ap (λ y. y ∷ all_held es) (sym (ap (λ u. f (x.0, held_of u)) (some_is x.1 v h) ∙ e x.0))
held_set (x ∷ es) (suc i) v w f h e = ap (λ l. (x.0, held_of x.1) ∷ l) (held_set es i v w f h e)

pub held_same : (es : List (ℕ × Attached)) (i : ℕ) (v w : Attached) → slice_get (values_of es) i ≡ Some v → held_of w ≡ held_of v → all_held (set_value_at es i w) ≡ all_held es
held_same [] i v w h e = refl
held_same (x ∷ es) zero v w h e = ap (λ a. (x.0, a) ∷ all_held es) (e ∙ sym (ap held_of (some_is x.1 v h)))
held_same (x ∷ es) (suc i) v w h e = ap (λ l. (x.0, held_of x.1) ∷ l) (held_same es i v w h e)

pub length-set : {V : Type 0} (es : List (ℕ × V)) (i : ℕ) (w : V) → length (set_value_at es i w) ≡ length es
length-set [] i w = refl
length-set (x ∷ es) zero w = refl
length-set (x ∷ es) (suc i) w = ap suc (length-set es i w)

pub length-all_held : (es : List (ℕ × Attached)) → length (all_held es) ≡ length es
length-all_held [] = refl
length-all_held (x ∷ es) = ap suc (length-all_held es)

-- a write at a key
pub held_put : (es : List (ℕ × Attached)) (pass : ℕ) (w : Attached) → all_held (insert_entry nat_eq es pass w) ≡ insert_entry nat_eq (all_held es) pass (held_of w)
held_put [] pass w = refl
held_put (x ∷ es) pass w = by (nat_eq pass x.0) (held_put es pass w)
  where
    by : (b : Bool) → all_held (insert_entry nat_eq es pass w) ≡ insert_entry nat_eq (all_held es) pass (held_of w)
        → all_held (if b then (x.0, w) ∷ es else x ∷ insert_entry nat_eq es pass w) ≡ (if b then (x.0, held_of w) ∷ all_held es else (x.0, held_of x.1) ∷ insert_entry nat_eq (all_held es) pass (held_of w))
    by true e = refl
    by false e = ap (λ l. (x.0, held_of x.1) ∷ l) e

-- a write at the place of a key is a write at the key
put_at : (es : List (ℕ × Attached)) (pass i : ℕ) (w : Attached) → position (nat_eq pass) (keys_of es) ≡ Some i → set_value_at es i w ≡ insert_entry nat_eq es pass w
put_at es pass i w h = sym (insert_entry-first nat_eq pass w es i (Found-position (nat_eq pass) es i h).first)

-- ---- the calls

pub none_of : {V : Type 0} (o : Option V) → false ≡ is_some o → o ≡ None
none_of None h = refl
none_of (Some v) h = absurd (true≢false (sym h))

-- nobody is attached there: nothing comes of it
pub nobody : (es : List (ℕ × Attached)) (pass : ℕ) → lookup (nat_eq pass) es ≡ None → lookup (nat_eq pass) (all_held es) ≡ None
nobody es pass none = lookup_held es pass ∙ ap (option_map held_of) none

pub becomes_none : (es : List (ℕ × Attachment)) (pass : ℕ) → lookup (nat_eq pass) es ≡ None → Becomes pass (option_map emptied_of (lookup (nat_eq pass) es)) es es
becomes_none es pass none q = sym (ap (λ o. if nat_eq pass q then option_map emptied_of o else lookup (nat_eq q) es) none ∙ found_at es pass q None none)

pub becomes_emptied : (es : List (ℕ × Attached)) (pass i : ℕ) (v w : Attached) → lookup (nat_eq pass) es ≡ Some v → position (nat_eq pass) (keys_of es) ≡ Some i → held_of w ≡ emptied_of (held_of v)
    → Becomes pass (option_map emptied_of (lookup (nat_eq pass) (all_held es))) (all_held es) (all_held (set_value_at es i w))
becomes_emptied es pass i v w found at same q =
    ap (λ l. lookup (nat_eq q) (all_held l)) (put_at es pass i w at) ∙ ap (lookup (nat_eq q)) (held_put es pass w) ∙ lookup-put (all_held es) pass q (held_of w)
    ∙ ap (λ o. if nat_eq pass q then o else lookup (nat_eq q) (all_held es)) (ap Some same ∙ sym (ap (option_map emptied_of) (lookup_held es pass ∙ ap (option_map held_of) found)))

-- the reply to a Take where the pass is attached
pub taken_of : (es : List (ℕ × Attached)) (pass : ℕ) (v : Attached) (taken : List ℕ × Option Bye) → lookup (nat_eq pass) es ≡ Some v → taken_reply (Some taken) ≡ attachment_take_reply (Some (held_of v))
    → taken_reply (Some taken) ≡ attachment_take_reply (lookup (nat_eq pass) (all_held es))
taken_of es pass v taken found e = e ∙ sym (ap attachment_take_reply (lookup_held es pass ∙ ap (option_map held_of) found))

mark_ended : (taken : Option (List ℕ × Option Bye)) (a : Option Attachment) → taken_reply taken ≡ attachment_take_reply a → has_end taken ≡ true → attachment_with Mark a ≡ None
mark_ended None a e h = cc
mark_ended (Some (bytes, None)) a e h = cc
mark_ended (Some (bytes, Some why)) None e h = cc
mark_ended (Some (bytes, Some why)) (Some a) e h =
    let ended : a.outbox.end ≡ Some why = cc in
    rw ended refl

mark_open : (taken : Option (List ℕ × Option Bye)) (a : Option Attachment) → taken_reply taken ≡ attachment_take_reply a → has_end taken ≡ false → attachment_with Mark a ≡ option_map emptied_of a
mark_open taken None e h = refl
mark_open None (Some a) e h = cc
mark_open (Some (bytes, Some why)) (Some a) e h = cc
mark_open (Some (bytes, None)) (Some a) e h =
    let goes_on : a.outbox.end ≡ None = cc in
    rw goes_on refl

pub taken_open : (es fs : List (ℕ × Attachment)) (pass : ℕ) (taken : Option (List ℕ × Option Bye)) → taken_reply taken ≡ attachment_take_reply (lookup (nat_eq pass) es) → has_end taken ≡ false
    → Becomes pass (option_map emptied_of (lookup (nat_eq pass) es)) es fs → Becomes pass (attachment_with Mark (lookup (nat_eq pass) es)) es fs
taken_open es fs pass taken e h b q = b q ∙ ap (λ o. if nat_eq pass q then o else lookup (nat_eq q) es) (sym (mark_open taken (lookup (nat_eq pass) es) e h))

twice : {V : Type 0} (b : Bool) (x y : Option V) → (if b then None else (if b then x else y)) ≡ (if b then None else y)
twice true x y = refl
twice false x y = refl

pub taken_ended : (es fs gs : List (ℕ × Attachment)) (pass : ℕ) (taken : Option (List ℕ × Option Bye)) → taken_reply taken ≡ attachment_take_reply (lookup (nat_eq pass) es) → has_end taken ≡ true
    → Becomes pass (option_map emptied_of (lookup (nat_eq pass) es)) es fs → Becomes pass None fs gs → Becomes pass (attachment_with Mark (lookup (nat_eq pass) es)) es gs
taken_ended es fs gs pass taken e h b d q =
    d q ∙ ap (λ o. if nat_eq pass q then None else o) (b q) ∙ twice (nat_eq pass q) (option_map emptied_of (lookup (nat_eq pass) es)) (lookup (nat_eq q) es)
    ∙ ap (λ o. if nat_eq pass q then o else lookup (nat_eq q) es) (sym (mark_ended taken (lookup (nat_eq pass) es) e h))

held_none : (b : Bool) (o : Option Attached) → option_map held_of (if b then None else o) ≡ (if b then None else option_map held_of o)
held_none true o = refl
held_none false o = refl

-- a key was taken out of a map
pub released : (es fs : List (ℕ × Attached)) (pass : ℕ) → ((q : ℕ) → lookup (nat_eq q) fs ≡ (if pass == q then None else lookup (nat_eq q) es)) → Becomes pass None (all_held es) (all_held fs)
released es fs pass h q = lookup_held fs q ∙ ap (option_map held_of) (h q) ∙ held_none (pass == q) (lookup (nat_eq q) es) ∙ ap (λ o. if pass == q then None else o) (sym (lookup_held es q))

-- a line for a pass alone
pub told_own : (es : List (ℕ × Attached)) (pass i : ℕ) (line : List ℕ) (v w : Attached) → lookup (nat_eq pass) es ≡ Some v → position (nat_eq pass) (keys_of es) ≡ Some i
    → held_of w ≡ record { viewer = v.viewer; protocol = v.protocol; outbox = with_line line (v.outbox).now } → all_held (set_value_at es i w) ≡ own_told pass line (all_held es)
told_own es pass i line v w found at same =
    ap all_held (put_at es pass i w at) ∙ held_put es pass w ∙ ap (insert_entry nat_eq (all_held es) pass) same
    ∙ sym (ap (λ o. told_at pass line o (all_held es)) (lookup_held es pass ∙ ap (option_map held_of) found))

pub told_nobody : (es : List (ℕ × Attached)) (pass : ℕ) (line : List ℕ) → lookup (nat_eq pass) es ≡ None → all_held es ≡ own_told pass line (all_held es)
told_nobody es pass line none = sym (ap (λ o. told_at pass line o (all_held es)) (nobody es pass none))

-- ---- all are told

pub held_staged : (n pass : ℕ) (said : List ℕ) (lines : Lines) (es : List (ℕ × Attached)) → all_held (up_to_place n (staged pass said lines) es) ≡ all_held es
held_staged zero pass said lines es = refl
held_staged (suc n) pass said lines [] = refl
held_staged (suc n) pass said lines (x ∷ es) = ap (λ l. (x.0, held_of x.1) ∷ l) (held_staged n pass said lines es)

pub ready_staged : (pass : ℕ) (said : List ℕ) (lines : Lines) (es : List (ℕ × Attached)) → all_ready (map (staged pass said lines) es) ≡ all_told pass said lines (all_held es)
ready_staged pass said lines [] = refl
ready_staged pass said lines (x ∷ es) = ap (λ l. told pass said lines (x.0, held_of x.1) ∷ l) (ready_staged pass said lines es)

pub held_sent : (es : List (ℕ × Attached)) → all_held (map sent es) ≡ all_ready es
held_sent [] = refl
held_sent (x ∷ es) = ap (λ l. (x.0, ready_of x.1) ∷ l) (held_sent es)

-- all are told the same by lines that are the same for each viewer
pub told_same : (es : List (ℕ × Attachment)) (pass : ℕ) (said : List ℕ) (f g : Lines) → ((seat : Option ℕ) (protocol : _) → f seat protocol ≡ g seat protocol) → all_told pass said f es ≡ all_told pass said g es
told_same [] pass said f g h = refl
told_same (x ∷ es) pass said f g h =
    ap (λ l. told pass said (λ seat protocol. l) x ∷ all_told pass said f es) (h (seat_of (x.1).viewer) (x.1).protocol)
    ∙ ap (λ l. told pass said g x ∷ l) (told_same es pass said f g h)

-- ---- what follows where a call succeeds, and where it fails

pub on_ok : {A E : Type 0} (r : Result A E) (P Q : Type 0) → OnOk r P → (P → Q) → OnOk r Q
on_ok (Ok x) P Q h f = f h
on_ok (Err e) P Q h f = tt

pub on_err : {A E : Type 0} (r : Result A E) (P : Type 0) → P → OnErr r P
on_err (Ok x) P h = tt
on_err (Err e) P h = h
