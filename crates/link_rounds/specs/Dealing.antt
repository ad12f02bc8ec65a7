-- What was dealt out to workers from the end.
use Rattle.std.specs.Prelude.{List, [], ◌∷◌, ◌++◌}

-- the parts put together: the last part was dealt last, and comes first
abbrev pub dealt : {X : Type 0} → List (List X) → List X
dealt [] = []
dealt (part ∷ parts) = dealt parts ++ part
