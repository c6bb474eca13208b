use Rattle.child_map.proofs.PlaceLemmas.{exact, below, above}
use Rattle.child_map.proofs.place.place_at.Goals as goal

pub returns-in-true-true-clause-place : goal.returns-in-true-true-clause-place
returns-in-true-true-clause-place c = exact c.args.case c.args.key.now c.args.path.now c.args.i c.shared_names-shared.result c.shared_names-shared.ensures.names c.in-true-true.is-0 c.in-true-true.is-1

pub returns-in-true-false-clause-place : goal.returns-in-true-false-clause-place
returns-in-true-false-clause-place c = below c.args.case c.args.key.now c.args.path.now c.args.i c.shared_names-shared.result c.shared_names-shared.ensures.names c.in-true-false.is-0 c.in-true-false.is-1

pub returns-in-false-true-clause-place : goal.returns-in-false-true-clause-place
returns-in-false-true-clause-place c = above c.args.case c.args.key.now c.args.path.now c.args.i c.shared_names-shared.result c.shared_names-shared.ensures.names c.in-false-true.is-0 c.in-false-true.is-1
