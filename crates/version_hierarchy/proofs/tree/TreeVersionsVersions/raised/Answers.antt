use Rattle.version_hierarchy.specs.Numbers.{numbers_of}
use Rattle.version_hierarchy.proofs.RaisedLemmas.{sorted-of, stands-of}
use Rattle.version_hierarchy.proofs.tree.TreeVersionsVersions.raised.Goals as goal

pub invariant_of-result : goal.invariant_of-result
invariant_of-result c = sorted-of c.self.inside.case (numbers_of c.self.inside.root) (numbers_of c.in_ok-root.root) c.self.inside.count c.as_slice.result.now c.in_ok-root.ensures c.self.invariant

pub returns-clause-stands : goal.returns-clause-stands
returns-clause-stands c =
    rw (← c.self.view_is) (stands-of c.self.inside.case (numbers_of c.self.inside.root) (numbers_of c.in_ok-root.root) c.self.inside.count c.as_slice.result.now c.args.path.now c.as_slice.ensures.names c.in_ok-root.ensures)
