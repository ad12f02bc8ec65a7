-- A list that is read item by item, and two lists that are compared item by item.
use Rattle.std.proofs.Common.{List, ◌++◌, Option, Some, None}

-- what is read after what was read before
abbrev pub after : {A : Type 0} → List A → Option (List A) → Option (List A)
after done None = None
after done (Some rest) = Some (done ++ rest)
