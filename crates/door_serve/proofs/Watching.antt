-- What passes have seen of the histories for which rooms stand: how these are gathered, one desk after another, and what that says of a watch.
use Rattle.std.proofs.Common.{◌≡◌, ◌≢◌, ◌<◌, ◌≤◌, ◌+◌, ℕ, List, [], ◌∷◌, ◌++◌, length, inl, inr, refl, sym, ap, ◌∙◌, subst, arith, slice_index_or, slice_set}
use Rattle.std.specs.Prelude.{All}
use Rattle.std.proofs.lemmas.List.{append_assoc, get_or-set_other, get_or-set_same, get_or_append_left, get_or_default, get_or_push, length-set, map-append}
use mathlib.Core.Logic.{dite}
use native.Mathlib.Decide.{ℕ_discrete}
use Rattle.room_desk.specs.History.{Begins, DeskId}
use Rattle.session_pool.specs.Passes.{Pass}
use Rattle.session_pool.specs.Watched.{AllBegin, History, seen_of}
use Rattle.session_pool.proofs.Seeing.{all_same, stand_more}
use Rattle.door_serve.specs.Ends.{AreBack, AreGiven}
use Rattle.door_serve.specs.Rooms.{Calls, Hosted, LoseLast, Stand, desks_of}
use Rattle.door_serve.specs.declared.serving.ServeEnd.{ServeEnd}

-- one history more, of which one pass more has seen a beginning
begin_more : (histories seen : List History) (h s : History) → AllBegin histories seen → Begins h s → AllBegin (histories ++ h ∷ []) (seen ++ s ∷ [])
begin_more [] [] h s all here = (here, tt)
begin_more [] (t ∷ seen) h s all here = absurd all
begin_more (g ∷ histories) [] h s all here = absurd all
begin_more (g ∷ histories) (t ∷ seen) h s all here = (all.0, begin_more histories seen h s all.1 here)

-- there is nothing to see where there is no desk
none_seen : (passes : List Pass) → desks_of passes ≡ [] → AllBegin [] (seen_of passes)
none_seen [] e = tt
none_seen (p ∷ passes) e = cc e

module _ {Row : Type 0} (items : Row → List Pass) where
  -- rows of which those before a place have lost their last, to these
  pub record Losing (before rows : List Row) (taken : List Pass) (place : ℕ) : Type 0 where
    pub lost : (k : ℕ) (r : Row) (p : Pass) → k < place → items (slice_index_or before k r) ≡ items (slice_index_or rows k r) ++ slice_index_or taken k p ∷ []
    pub still : (k : ℕ) (r : Row) → place ≤ k → k < length rows → slice_index_or before k r ≡ slice_index_or rows k r

  pub none_lost : (rows : List Row) (taken : List Pass) → Losing rows rows taken 0
  none_lost rows taken = record { lost = λ k r p low. absurd (omega arith); still = λ k r high low. refl }

  pub one_lost : (before rows : List Row) (taken after : List Pass) (place up : ℕ) (v w : Row) (p : Pass) → up ≡ place + 1 → place < length rows → length before ≡ length rows → length taken ≡ place
      → items (slice_index_or rows place v) ≡ items w ++ p ∷ [] → after ≡ taken ++ p ∷ [] → Losing before rows taken place → Losing before (slice_set rows place w) after up
  one_lost before rows taken after place up v w p e within many as_many pop push h = record {
    lost = λ k r q low. dite (ℕ_discrete k place)
        (λ same. subst (λ i. items (slice_index_or before i r) ≡ items (slice_index_or (slice_set rows place w) i r) ++ slice_index_or after i q ∷ []) (sym same) (here r q))
        (λ other. earlier k r q (omega (arith, low, e, other)) other);
    still = λ k r high low.
        let n = length-set rows place w in
        let other : k ≢ place = omega (arith, high, e) in
        h.still k r (omega (arith, high, e)) (omega (arith, low, n)) ∙ sym (get_or-set_other rows place k w r other);
  }
    where
      here : (r : Row) (q : Pass) → items (slice_index_or before place r) ≡ items (slice_index_or (slice_set rows place w) place r) ++ slice_index_or after place q ∷ []
      here r q =
          ap items (h.still place r (omega arith) within) ∙ (ap items (get_or_default rows place r v within) ∙ (pop
          ∙ (ap (λ x. items x ++ p ∷ []) (sym (get_or-set_same rows place w r within))
          ∙ ap (λ x. items (slice_index_or (slice_set rows place w) place r) ++ x ∷ [])
          (sym (ap (λ l. slice_index_or l place q) push ∙ get_or_push taken p q place as_many)))))

      earlier : (k : ℕ) (r : Row) (q : Pass) → k < place → k ≢ place
          → items (slice_index_or before k r) ≡ items (slice_index_or (slice_set rows place w) k r) ++ slice_index_or after k q ∷ []
      earlier k r q low other =
          h.lost k r q low ∙ (ap (λ x. items x ++ slice_index_or taken k q ∷ []) (sym (get_or-set_other rows place k w r other))
          ∙ ap (λ x. items (slice_index_or (slice_set rows place w) k r) ++ x ∷ [])
          (sym (ap (λ l. slice_index_or l k q) push ∙ get_or_append_left taken (p ∷ []) q k (omega (arith, low, as_many)))))

  pub all_lost : (before rows : List Row) (taken : List Pass) (place : ℕ) → length before ≤ place → Losing before rows taken place → LoseLast items before rows taken
  all_lost before rows taken place over h k r p low = h.lost k r p (omega (arith, over, low))

  -- rows whose passes, but for the last, have seen beginnings of these histories, and the last one's of one more
  pub rows_begin : (before rows : List Row) (taken : List Pass) (histories : List History) (h : History) → length rows ≡ length before → length taken ≡ length before → LoseLast items before rows taken
      → All (λ r. AllBegin histories (seen_of (items r))) rows → All (λ p. Begins h p.seen) taken → All (λ r. AllBegin (histories ++ h ∷ []) (seen_of (items r))) before
  rows_begin before rows taken histories h many as_many lose all here k r low =
      let fits : k < length taken = omega (arith, low, as_many) in
      let p = some taken k fits in
      let left = items (slice_index_or rows k r) in
      let last = slice_index_or taken k p in
      subst (AllBegin (histories ++ h ∷ [])) (sym (ap seen_of (lose k r p low) ∙ map-append (λ (q : Pass). q.seen) left (last ∷ [])))
      (begin_more histories (seen_of left) h last.seen (all k r (omega (arith, low, many))) (here k p fits))
    where
      some : (passes : List Pass) (k : ℕ) → k < length passes → Pass
      some [] k low = absurd (omega (arith, low))
      some (p ∷ passes) k low = p

  pub none_begun : (rows : List Row) (ds : List DeskId) → ds ≡ [] → All (λ r. desks_of (items r) ≡ ds) rows → All (λ r. AllBegin [] (seen_of (items r))) rows
  none_begun rows ds e all k r low = none_seen (items (slice_index_or rows k r)) (all k r low ∙ e)

module _ {B : Type 0} (stands_for : B → Calls → Type 0) where
  -- one room more
  pub one_room_more : (rooms after : List B) (room : B) (before histories : List Calls) (h : Calls) → after ≡ rooms ++ room ∷ [] → Stand stands_for rooms (before ++ histories) → stands_for room h
      → Stand stands_for after (before ++ (histories ++ h ∷ []))
  one_room_more rooms after room before histories h push all here =
      subst (λ bs. Stand stands_for bs (before ++ (histories ++ h ∷ []))) (sym push)
      (subst (Stand stands_for (rooms ++ room ∷ [])) (append_assoc before histories (h ∷ [])) (stand_more stands_for rooms (before ++ histories) room h all here))

-- ---- what rooms stood for when they were handed in

-- histories that are the same begin alike
pub all_alike : (seen watch pasts : List History) → seen ≡ pasts → watch ≡ pasts → AllBegin seen watch
all_alike seen watch pasts e f = subst (AllBegin seen) (e ∙ sym f) (all_same seen)

-- of rooms whose passes had seen what they stood for
pub given_back : {B : Type 0} (known : Hosted B) (before rooms : List B) (many : ℕ) (how : ServeEnd) (seen pasts : List History) (served : List Calls → List Calls → Type 0) → Stand known.stands_for before pasts
    → seen ≡ pasts → AreBack known many how rooms (λ histories. served seen histories) → AreGiven known many how before rooms served
given_back known before rooms many how seen pasts served stood e (inl (histories, closed, told)) = inl (pasts, histories, stood, closed, subst (λ l. served l histories) e told)
given_back known before rooms many how seen pasts served stood e (inr none) = inr none
