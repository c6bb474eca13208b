use Rattle.std.proofs.Common.{◌≤◌, ◌∙◌, length, refl, arith}
use Rattle.snapshot_tree.specs.Pieces.{places_of}
use Rattle.snapshot_hierarchy.proofs.InsertLemmas.{ancestors-all, ancestors-next}
use Rattle.snapshot_hierarchy.proofs.flat.add_ancestors.Goals as goal

pub loop-n-init : goal.loop-n-init
loop-n-init c = rw (c.len-n.ensures.names, ancestors-all c.args.case c.args.path.now) refl

-- twice, since the directory is dropped or not
pub loop-n-preserved : goal.loop-n-preserved
loop-n-preserved c =
    let within : c.loop-n.n ≤ length c.args.path.now = omega (arith, c.len-n.ensures.names, c.loop-n.auto.n) in
    ancestors-next c.args.case c.args.path.now c.in_ok-dir.dir c.loop-n.n (places_of c.args.case c.loop-n.dirs.items) _ (omega arith) within c.in_ok-dir.ensures c.in_ok-add_dir.ensures
    ∙ c.loop-n.invariant

pub loop-n-preserved-in_ok-add_dir : goal.loop-n-preserved-in_ok-add_dir
loop-n-preserved-in_ok-add_dir c =
    let within : c.loop-n.n ≤ length c.args.path.now = omega (arith, c.len-n.ensures.names, c.loop-n.auto.n) in
    ancestors-next c.args.case c.args.path.now c.in_ok-dir.dir c.loop-n.n (places_of c.args.case c.loop-n.dirs.items) _ (omega arith) within c.in_ok-dir.ensures c.in_ok-add_dir.ensures
    ∙ c.loop-n.invariant
