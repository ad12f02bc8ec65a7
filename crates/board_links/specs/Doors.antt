-- What the answers of a door say of the links that it gave, of those that are out, of those that came back and of those that it
-- holds; and when a link shows how its session ended.
use Rattle.std.specs.Prelude.{◌≡◌, ◌≢◌, ◌&&◌, ℕ, ◌<◌, ◌-◌, ◌++◌, length, List, [], ◌∷◌, Option, Some, None, option_map, unwrap_or, Bool, true, false, IfSome, if◌then◌else◌}
use Rattle.board_links.specs.declared.door.Visit.{Visit}
use Rattle.board_links.specs.declared.door.Visit.TheVariants as visit
use Rattle.board_links.specs.declared.link.Came.{Came}
use Rattle.board_links.specs.declared.link.SessionEnd.{SessionEnd}
use Rattle.board_links.specs.declared.link.SessionEnd.TheVariants as end
use Rattle.board_links.specs.declared.link.Stage.{Stage}
use Rattle.board_links.specs.declared.link.Stage.TheVariants as stage
use Rattle.board_links.specs.ByeLine.{bye_line}
use Rattle.board_links.specs.Faults.{HasRisen}

-- one link, by whether it is a bot's: so many bots' links, and so many others
abbrev pub one_bot : Bool → ℕ
one_bot sort = if sort then 1 else 0

abbrev pub one_other : Bool → ℕ
one_other sort = if sort then 0 else 1

-- a link of this sort is out
abbrev pub IsOut : Bool → ℕ → ℕ → Type 0
IsOut true bots others = 0 < bots
IsOut false bots others = 0 < others

-- no answer and no byte was told, if they are told at all
abbrev pub IsNew : Option (List Came) → Option (List ℕ) → Type 0
IsNew answers sent = (length (unwrap_or answers []) ≡ 0) × (length (unwrap_or sent []) ≡ 0)

-- a link that nothing has happened to: no fault, no end, no answer and no byte
abbrev pub IsFresh : ℕ → Option SessionEnd → Option (List Came) → Option (List ℕ) → Type 0
IsFresh faults finished answers sent = (faults ≡ 0) × (finished ≡ None) × IsNew answers sent

-- a link that came back: how its session ended, and what it tells of its answers and of the bytes that it was sent
pub record Returned : Type 0 where
  pub end : SessionEnd
  pub answers : Option (List Came)
  pub sent : Option (List ℕ)

abbrev pub came_back : SessionEnd → Option (List Came) → Option (List ℕ) → Returned
came_back end answers sent = record { end = end; answers = answers; sent = sent }

-- one more came back, after those that are told
abbrev pub with_returned : SessionEnd → Option (List Came) → Option (List ℕ) → Option (List Returned) → Option (List Returned)
with_returned end answers sent told = option_map (λ links. links ++ came_back end answers sent ∷ []) told

module _ {L : Type 0} where
  -- how many links an answer gives
  abbrev pub gives : Visit L → ℕ
  gives (visit.Came link) = 1
  gives answer = 0

  -- whether a link counts as a bot's: one of a door without bots' links never does
  abbrev pub sort_of : Bool → (L → Bool) → L → Bool
  sort_of has_bots is_bot link = has_bots && is_bot link

  -- how many bots' links an answer gives, and how many others
  abbrev pub gives_bot : Bool → (L → Bool) → Visit L → ℕ
  gives_bot has_bots is_bot (visit.Came link) = one_bot (sort_of has_bots is_bot link)
  gives_bot has_bots is_bot answer = 0

  abbrev pub gives_other : Bool → (L → Bool) → Visit L → ℕ
  gives_other has_bots is_bot (visit.Came link) = one_other (sort_of has_bots is_bot link)
  gives_other has_bots is_bot answer = 0

  abbrev pub shuts : Visit L → Bool
  shuts visit.Shut = true
  shuts answer = false

  abbrev pub fails : Visit L → Bool
  fails visit.Failed = true
  fails answer = false

  abbrev pub starves : Visit L → Bool
  starves visit.NoMemory = true
  starves answer = false

  -- the link that comes, if any
  abbrev pub links_in : Visit L → List L
  links_in (visit.Came link) = link ∷ []
  links_in answer = []

  -- the count of faults rose where a door fails, and stayed otherwise
  abbrev pub VisitRaises : Visit L → ℕ → ℕ → Type 0
  VisitRaises visit.Failed old new = HasRisen old new
  VisitRaises answer old new = new ≡ old

  -- a link that comes is fresh
  abbrev pub ComesFresh : (L → ℕ) → (L → Option SessionEnd) → (L → Option (List Came)) → (L → Option (List ℕ)) → Visit L → Type 0
  ComesFresh faults finished answers sent (visit.Came link) = IsFresh (faults link) (finished link) (answers link) (sent link)
  ComesFresh faults finished answers sent answer = Unit {0}

  -- with so many links left: one fewer where a link comes, and none where the door is shut
  abbrev pub Lets : Visit L → ℕ → Option ℕ → Type 0
  Lets (visit.Came link) left after = (0 < left) × (after ≡ Some (left - 1))
  Lets visit.Shut left after = (left ≡ 0) × (after ≡ Some 0)
  Lets answer left after = after ≡ Some left

-- the bytes end with this line
abbrev pub EndsWith : List ℕ → List ℕ → Type 0
EndsWith line bytes = (before : List ℕ) × (bytes ≡ before ++ line)

-- a link of this stage, count of faults and sent bytes shows the end of its session
abbrev pub Shows : SessionEnd → Stage → ℕ → Option (List ℕ) → Type 0
Shows end.Ended at faults sent = at ≡ stage.Ended
Shows end.LinkFault at faults sent = faults ≢ 0
Shows end.TooLong at faults sent = at ≡ stage.TooLong
Shows (end.Bye bye) at faults sent = IfSome sent (EndsWith (bye_line bye))
Shows end.NoMemory at faults sent = Unit {0}
