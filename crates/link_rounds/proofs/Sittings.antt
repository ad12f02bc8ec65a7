-- A link's turns so far, and its whole session.
use Rattle.std.proofs.Common.{◌≡◌, ℕ, List, [], ◌∷◌, length, Option, Some, None, refl, subst, subst₂, sym, ◌∙◌, arith}
use Rattle.std.specs.Prelude.{IsSome, IfSome, is_some, false, suc, unwrap_or}
use Rattle.board_links.specs.Doors.{IsNew, Shows}
use Rattle.board_links.specs.Pieces.{told_bytes}
use Rattle.board_links.specs.declared.link.Came.{Came}
use Rattle.board_links.specs.declared.link.SessionEnd.{SessionEnd}
use Rattle.board_links.specs.declared.link.SessionEnd.TheVariants as end
use Rattle.link_rounds.specs.Places.{About, SitsWith}
use Rattle.link_rounds.specs.Turns.{Runs, Session, Takes, told_answers}

some_told : {A : Type 0} (o : Option A) (d : A) → IsSome o → o ≡ Some (unwrap_or o d)
some_told None d is = absurd (cc)
some_told (Some x) d is = refl

module _ {S : Type 0} (turn : S → List Came → List ℕ → Option SessionEnd → S → Option (List Came) → Option (List ℕ) → Type 0) (leave : S → S → Type 0) (rests : S → Type 0) where
  -- what Since says of what a link tells
  abbrev pub Since : S → Option (List Came) → Option (List ℕ) → Type 0
  Since s answers sent = IsSome answers → IsSome sent → (first : S) × (n : ℕ) × rests first × Runs turn leave n first [] [] s answers sent

  abbrev pub Served : S → SessionEnd → Option (List Came) → Option (List ℕ) → Type 0
  Served s why answers sent = IsSome answers → IsSome sent → (first : S) × rests first × Session turn leave first [] [] why s answers sent

  abbrev pub Turns : S → Option (List Came) → Option (List ℕ) → Option SessionEnd → S → Option (List Came) → Option (List ℕ) → Type 0
  Turns s answers sent why t later after = IsSome answers → IsSome sent → Takes turn leave s (told_answers answers) (told_bytes sent) why t later after

  told : (n : ℕ) (s t : S) (heard : List Came) (bytes : List ℕ) (answers : Option (List Came)) (sent : Option (List ℕ)) → IsSome answers → IsSome sent → Runs turn leave n s heard bytes t answers sent
      → Runs turn leave n s heard bytes t (Some (told_answers answers)) (Some (told_bytes sent))
  told n s t heard bytes answers sent a b runs =
      subst (λ o. Runs turn leave n s heard bytes t (Some (told_answers answers)) o) (some_told sent [] b) (subst (λ o. Runs turn leave n s heard bytes t o sent) (some_told answers [] a) runs)

  pub since_more : (s t : S) (answers later : Option (List Came)) (sent after : Option (List ℕ)) → is_some later ≡ is_some answers → is_some after ≡ is_some sent
      → Since s answers sent → Turns s answers sent None t later after → Since t later after
  since_more s t answers later sent after ta ts since turns is_a is_s =
      let a : IsSome answers = sym ta ∙ is_a in
      let b : IsSome sent = sym ts ∙ is_s in
      let so = since a b in
      (so.0, suc so.1, so.2, (s, told_answers answers, told_bytes sent, told so.1 so.0 s [] [] answers sent a b so.3, turns a b))

  pub served : (why : SessionEnd) (s t : S) (answers later : Option (List Came)) (sent after : Option (List ℕ)) → is_some later ≡ is_some answers → is_some after ≡ is_some sent
      → Since s answers sent → Turns s answers sent (Some why) t later after → Served t why later after
  served why s t answers later sent after ta ts since turns is_a is_s =
      let a : IsSome answers = sym ta ∙ is_a in
      let b : IsSome sent = sym ts ∙ is_s in
      let so = since a b in
      (so.0, so.2, (so.1, s, told_answers answers, told_bytes sent, told so.1 so.0 s [] [] answers sent a b so.3, turns a b))

none_is : {A : Type 0} (o : Option A) → is_some o ≡ false → o ≡ None
none_is None e = refl
none_is (Some x) e = absurd (cc)

module _ {S L : Type 0} (turn : S → List Came → List ℕ → Option SessionEnd → S → Option (List Came) → Option (List ℕ) → Type 0) (leave : S → S → Type 0) (a : About L) (rests : S → Type 0) where
  goes_on : (s : S) (at : Option L) (end : Option SessionEnd) (link : L) → at ≡ Some link → is_some end ≡ false → SitsWith turn leave a rests s at end → Since turn leave rests s (a.answers link) (a.sent link)
  goes_on s at end link is unended sits = subst₂ (λ x e. SitsWith turn leave a rests s x e) is (none_is end unended) sits

  -- a link that was asked to hand on what it kept back
  pub flushed : (s : S) (at : Option L) (end : Option SessionEnd) (link later : L) → at ≡ Some link → is_some end ≡ false → a.answers later ≡ a.answers link → a.sent later ≡ a.sent link
      → SitsWith turn leave a rests s at end → SitsWith turn leave a rests s (Some later) end
  flushed s at end link later is unended heard bytes sits =
      subst (λ e. SitsWith turn leave a rests s (Some later) e) (sym (none_is end unended))
      (subst₂ (λ x y. Since turn leave rests s x y) (sym heard) (sym bytes) (goes_on s at end link is unended sits))

  sits_after : (why : Option SessionEnd) (s t : S) (l m : L) → is_some (a.answers m) ≡ is_some (a.answers l) → is_some (a.sent m) ≡ is_some (a.sent l)
      → Since turn leave rests s (a.answers l) (a.sent l) → Turns turn leave rests s (a.answers l) (a.sent l) why t (a.answers m) (a.sent m)
      → IfSome why (λ w. rests t) → IfSome why (λ w. Shows w (a.stage m) (a.faults m) (a.sent m)) → SitsWith turn leave a rests t (Some m) why
  sits_after None s t l m ta ts since turns r shows = since_more turn leave rests s t (a.answers l) (a.answers m) (a.sent l) (a.sent m) ta ts since turns
  sits_after (Some why) s t l m ta ts since turns r shows = (r, shows, served turn leave rests why s t (a.answers l) (a.answers m) (a.sent l) (a.sent m) ta ts since turns)

  -- a turn after that
  pub stepped : (s t : S) (at : Option L) (end : Option SessionEnd) (link l m : L) (why : Option SessionEnd) → at ≡ Some link → is_some end ≡ false → a.answers l ≡ a.answers link → a.sent l ≡ a.sent link
      → is_some (a.answers m) ≡ is_some (a.answers l) → is_some (a.sent m) ≡ is_some (a.sent l) → SitsWith turn leave a rests s at end
      → Turns turn leave rests s (a.answers l) (a.sent l) why t (a.answers m) (a.sent m)
      → IfSome why (λ w. rests t) → IfSome why (λ w. Shows w (a.stage m) (a.faults m) (a.sent m)) → SitsWith turn leave a rests t (Some m) why
  stepped s t at end link l m why is unended heard bytes ta ts sits turns r shows =
      sits_after why s t l m ta ts (subst₂ (λ x y. Since turn leave rests s x y) (sym heard) (sym bytes) (goes_on s at end link is unended sits)) turns r shows

  new_is : {X : Type 0} (o : Option (List X)) → length (unwrap_or o []) ≡ 0 → IsSome o → o ≡ Some []
  new_is None e is = absurd (cc)
  new_is (Some []) e is = refl
  new_is (Some (x ∷ l)) e is = absurd (omega (arith, e))

  free_rests : (s : S) (end : Option SessionEnd) → SitsWith turn leave a rests s None end → rests s
  free_rests s None sits = sits
  free_rests s (Some why) sits = absurd sits

  -- a link that has told nothing
  pub begun : (s : S) (at : Option L) (end : Option SessionEnd) (link : L) → at ≡ None → IsNew (a.answers link) (a.sent link) → SitsWith turn leave a rests s at end → SitsWith turn leave a rests s (Some link) None
  begun s at end link none new sits is_a is_s =
      (s, 0, free_rests s end (subst (λ o. SitsWith turn leave a rests s o end) none sits), (refl, new_is (a.answers link) new.0 is_a, new_is (a.sent link) new.1 is_s))

  -- a session that has ended, and what its link shows after it was asked to hand on what it kept back
  pub ended : (s : S) (at : Option L) (end : Option SessionEnd) (link : L) (why : SessionEnd) → at ≡ Some link → end ≡ Some why → SitsWith turn leave a rests s at end
      → rests s × Shows why (a.stage link) (a.faults link) (a.sent link) × Served turn leave rests s why (a.answers link) (a.sent link)
  ended s at end link why is over sits = subst₂ (λ x e. SitsWith turn leave a rests s x e) is over sits

  pub shows_later : (s : S) (at : Option L) (end : Option SessionEnd) (link m : L) (why : SessionEnd) → at ≡ Some link → end ≡ Some why → SitsWith turn leave a rests s at end
      → a.stage m ≡ a.stage link → a.faults m ≡ a.faults link → a.answers m ≡ a.answers link → a.sent m ≡ a.sent link
      → rests s × Shows why (a.stage m) (a.faults m) (a.sent m) × Served turn leave rests s why (a.answers m) (a.sent m)
  shows_later s at end link m why is over sits st fs an se =
      let e = ended s at end link why is over sits in
      (e.0, rw (st, fs, se) e.1, rw (an, se) e.2)
