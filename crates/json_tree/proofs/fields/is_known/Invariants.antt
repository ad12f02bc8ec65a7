use Rattle.std.proofs.Common.{◌≡◌, drop, map}
use Rattle.json_tree.specs.Names.{is_known}
use Rattle.json_tree.proofs.fields.is_known.Given as goal

-- the names from here on tell what all of them do
abbrev pub invariant-loop-other : goal.invariant-loop-other
invariant-loop-other l = is_known (map (λ o. o.now) (drop l.other-index l.known)) l.name ≡ is_known (map (λ o. o.now) l.known) l.name
