use Rattle.std.proofs.Common.{◌≡◌, [], ◌∷◌, ◌++◌, map, take}
use Rattle.scan_walk.proofs.additions.children_of.Given as goal

-- the children of the names so far
abbrev pub invariant-loop-name : goal.invariant-loop-name
invariant-loop-name l = l.children.items ≡ map (λ n. l.parent ++ n ∷ []) (take l.name-index l.names)
