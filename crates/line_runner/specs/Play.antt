-- What a run plays: which lines are in form and the step that each asks for, and what steps make of a state and print. A script and a
-- world are played so. Marks say, line by line, what the lines leave open, as whether there was memory for one.
use Rattle.std.specs.Prelude.{◌≡◌, ℕ, ◌+◌, List, [], ◌∷◌, ◌++◌, Option, Some, None, Result, Ok, Err}
use Rattle.line_runner.specs.declared.interpreter.LineNo.{LineNo}
use Rattle.line_runner.specs.declared.interpreter.LineNo.TheVariants.{BadLine, NoMemory}
use Rattle.std.specs.Option.{option_map_or}

-- by the step that each line asks for; none where a line is in no form
module _ {Step : Type 0} (form : List ℕ → Option Step) where
  -- the steps of lines, up to the first that is in no form
  abbrev pub steps_of : List (List ℕ) → List Step
  steps_of [] = []
  steps_of (line ∷ lines) = option_map_or (λ step. step ∷ steps_of lines) (form line) []

  -- the number of the first line in no form, where so many lines came before
  abbrev pub bad_from : ℕ → List (List ℕ) → Option ℕ
  bad_from given [] = None
  bad_from given (line ∷ lines) = option_map_or (λ step. bad_from (given + 1) lines) (form line) (Some (given + 1))

  -- the number of the first line in no form, counted from 1
  unfoldable pub bad_line : List (List ℕ) → Option ℕ
  bad_line lines = bad_from 0 lines

-- over marks, steps and states
pub record Play (Mark Step State : Type 0) : Type 1 where
  -- the step that a line asks for; none where it is in no form
  pub form : List ℕ → Option Step
  -- the state after steps, the first one first, and what they print
  pub runs : List Mark → List Step → State → State × List ℕ
  -- what else holds of lines that were played
  pub Tells : List Mark → List (List ℕ) → Type 0

module _ {Mark Step State : Type 0} (p : Play Mark Step State) where
  -- what lines print after a state, up to the first that is in no form
  unfoldable pub printed : List Mark → List (List ℕ) → State → List ℕ
  printed marks lines s = (p.runs marks (steps_of p.form lines) s).1

-- how a play is done step by step by what stands for a state: the state after a step, what the step prints, and what is known of what stood
-- for a state where there was no memory for the line that came next
pub record Doing (Mark Step State Held : Type 0) : Type 1 where
  pub does : Mark → Step → State → State × List ℕ
  pub Stands : Held → State → Type 0
  pub Fails : Held → State → Type 0

-- a step that was done, or for which there was no memory
abbrev pub ended_by : {A E : Type 0} → Result A E → Result A LineNo
ended_by (Ok done) = Ok done
ended_by (Err starved) = Err NoMemory

-- steps are run one by one
pub record IsPlay {Mark Step State Held : Type 0} (p : Play Mark Step State) (d : Doing Mark Step State Held) : Type 0 where
  pub none : (marks : List Mark) (s : State) → (p.runs marks [] s).1 ≡ []
  pub more : (mark : Mark) (marks : List Mark) (step : Step) (steps : List Step) (s : State)
      → (p.runs (mark ∷ marks) (step ∷ steps) s).1 ≡ (d.does mark step s).1 ++ (p.runs marks steps (d.does mark step s).0).1
  pub tells : (marks : List Mark) (lines : List (List ℕ)) → p.Tells marks lines

module _ {Mark Step State Held : Type 0} (d : Doing Mark Step State Held) where
  -- the state after steps, each with its mark
  abbrev pub after_steps : List Mark → List Step → State → State
  after_steps (mark ∷ marks) (step ∷ steps) s = after_steps marks steps (d.does mark step s).0
  after_steps marks steps s = s

  -- a step was done after a state, and what it prints was added to a text
  pub record Does (s : State) (step : Step) (held : Held) (before after : List ℕ) : Type 0 where
    pub mark : Mark
    pub stands : d.Stands held (d.does mark step s).0
    pub added : after ≡ before ++ (d.does mark step s).1

module _ {Mark Step State Held : Type 0} (p : Play Mark Step State) (d : Doing Mark Step State Held) where
  -- a line in form was run, and what it prints was added to a text
  pub record DoesLine (s : State) (line : List ℕ) (held : Held) (before after : List ℕ) : Type 0 where
    pub step : Step
    pub in_form : p.form line ≡ Some step
    pub does : Does d s step held before after

  -- what a line came to, after a state
  abbrev pub RunsLine : {A : Type 0} → State → List ℕ → Held → List ℕ → List ℕ → Result A LineNo → Type 0
  RunsLine s line held before after (Ok done) = DoesLine s line held before after
  RunsLine s line held before after (Err BadLine) = (p.form line ≡ None) × d.Stands held s
  RunsLine s line held before after (Err NoMemory) = d.Fails held s
