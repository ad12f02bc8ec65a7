-- How a sitting goes on: by an answer of the link, by what is printed and sent, and by lines and silences one after another.
use Rattle.std.proofs.Common.{◌≡◌, ℕ, ◌+◌, ◌<◌, suc, List, [], ◌∷◌, ◌++◌, Ok, Err, refl, sym, ap, ◌∙◌, subst, add-one, length, length-append, inl, inr}
use Rattle.std.proofs.lemmas.List.Sums.{fold-append}
use Rattle.board_links.specs.declared.link.Came.{Came}
use Rattle.board_links.specs.declared.link.Came.TheVariants as came
use Rattle.client_predict.specs.Client.{Client}
use Rattle.game_trait.specs.Rules.{Rules}
use Rattle.link_play.specs.Doing.{WaitsForLine, most_quiet, quiet_text}
use Rattle.link_play.specs.Hearing.{HearsOne, WaitsOn}
use Rattle.link_play.specs.Pieces.{Flow, Prints}
use Rattle.link_play.specs.Stopping.{StopsHearing, StopsPrinting, StopsWaiting}
use Rattle.link_play.specs.declared.stop.Stop.{Stop}
use Rattle.link_play.proofs.Actions.{all_printed, part_printed}
use Rattle.link_play.specs.declared.hearing.Given.{Given}
use Rattle.link_play.specs.declared.hearing.Given.TheVariants as given
use Rattle.link_play.specs.Sitting.{Sitting, answered, hears_line, hears_lines, prints, quiet_for}

quiet_line : given.Quiet ≡ given.Line → ⊥
quiet_line e = cc

line_quiet : given.Line ≡ given.Quiet → ⊥
line_quiet e = cc

module _ {G : Type 0} where
  pub same : (c d : Client G) (p q s t : List ℕ) (h k : List Came) → c ≡ d → p ≡ q → s ≡ t → h ≡ k
      → (let a : Sitting G = record { client = c; printed = p; sent = s; heard = h } in a) ≡ (let b : Sitting G = record { client = d; printed = q; sent = t; heard = k } in b)
  same c d p q s t h k e f g i = rw (e, f, g, i) refl

  -- no silence yet, and one more
  pub quiet_none : (s : Sitting G) → s ≡ quiet_for s 0
  unfolding quiet_for
  quiet_none s = refl

  quiet_next : (s : Sitting G) (n : ℕ) → answered (quiet_for s n) came.Quiet ≡ quiet_for s (suc n)
  unfolding quiet_for
  quiet_next s n = refl

  quiet_more : (s : Sitting G) (n : ℕ) → answered (quiet_for s n) came.Quiet ≡ quiet_for s (n + 1)
  quiet_more s n = quiet_next s n ∙ ap (quiet_for s) (sym (add-one n))

module _ {G : Type 0} (rules : Rules G) where
  -- one line more
  pub lines_more : (s : Sitting G) (lines : List (List ℕ)) (line : List ℕ) → hears_line rules (hears_lines rules s lines) line ≡ hears_lines rules s (lines ++ line ∷ [])
  lines_more s lines line = sym (fold-append (hears_line rules) s lines (line ∷ []))

pub one_more : (lines : List (List ℕ)) (line : List ℕ) (n : ℕ) → length lines ≡ n → length (lines ++ line ∷ []) ≡ n + 1
one_more lines line n e = length-append lines (line ∷ []) ∙ ap (λ k. k + 1) e

module _ {G : Type 0} (rules : Rules G) (s m t : Sitting G) where
  -- a line is heard after others
  pub line_heard : (g : Given) (lines : List (List ℕ)) (n : ℕ) → g ≡ given.Line → length lines ≡ n → m ≡ hears_lines rules s lines → HearsOne rules (Ok g) m t
      → (more : List (List ℕ)) × (length more ≡ n + 1) × (t ≡ hears_lines rules s more)
  line_heard given.Line lines n e many is h =
      (lines ++ h.0 ∷ [], one_more lines h.0 n many, h.1 ∙ ap (λ x. hears_line rules x h.0) is ∙ lines_more rules s lines h.0)
  line_heard given.Quiet lines n e many is h = absurd (quiet_line e)

  -- a silence after others
  pub quiet_heard : (g : Given) (n : ℕ) → g ≡ given.Quiet → m ≡ quiet_for s n → HearsOne rules (Ok g) m t → t ≡ quiet_for s (n + 1)
  quiet_heard given.Quiet n e is h = h ∙ ap (λ x. answered x came.Quiet) is ∙ quiet_more s n
  quiet_heard given.Line n e is h = absurd (line_quiet e)

  -- a `wait` that comes to a line, is broken off, or finds nothing but silence
  pub waits_line : (g : Given) (times : ℕ) → g ≡ given.Line → times < most_quiet → m ≡ quiet_for s times → HearsOne rules (Ok g) m t → WaitsForLine rules s t
  waits_line given.Line times e low is h = inl (times, h.0, low, h.1 ∙ ap (λ x. hears_line rules x h.0) is)
  waits_line given.Quiet times e low is h = absurd (quiet_line e)

  pub waits_stop : (why : Stop) (times : ℕ) → times < most_quiet → m ≡ quiet_for s times → StopsHearing rules why m t → StopsWaiting rules why s t
  waits_stop why times low is h = inl (times, low, subst (λ x. StopsHearing rules why x t) is h)

module _ {G : Type 0} (rules : Rules G) (s m : Sitting G) where
  pub waits_out : (r : Flow) (c : Client G) (printed sent : List ℕ) (heard : List Came) → m ≡ quiet_for s most_quiet → c ≡ m.client → sent ≡ m.sent → heard ≡ m.heard → Prints r quiet_text m.printed printed
      → WaitsOn rules r s (record { client = c; printed = printed; sent = sent; heard = heard })
  waits_out (Ok done) c printed sent heard is e f g h = inr (all_printed quiet_text m c printed sent heard e f g h ∙ ap (λ x. prints x quiet_text) is)
  waits_out (Err why) c printed sent heard is e f g h =
      let t : Sitting G = record { client = c; printed = printed; sent = sent; heard = heard } in
      inr (subst (λ x. StopsPrinting why quiet_text x t) is (part_printed why quiet_text m c printed sent heard e f g h))
