use Rattle.std.proofs.Common.{◌∙◌, ◌+◌, sym, ap, drop}
use Rattle.vfs_model.specs.Paths.{place}
use Rattle.vfs_model.specs.Snapshot.{sub}
use Rattle.snapshot_tree.specs.Meaning.{meaning_of}
use Rattle.vfs_laws.proofs.StayLemmas.{sub-missing}
use Rattle.snapshot_tree.proofs.SubLemmas.{sub-next}
use Rattle.snapshot_tree.proofs.snapshot.Snapshot.below.Goals as goal

pub loop-i-preserved : goal.loop-i-preserved
loop-i-preserved c =
    c.loop-i.invariant
    ∙ sub-next c.args.case (meaning_of c.loop-i.here.now) c.args.path.now c.loop-i.i c.name.result.now c.name.ensures
    ∙ ap (λ s. sub c.args.case s (drop (c.loop-i.i + 1) (place c.args.case c.args.path.now))) (sym c.in-Some.ensures)

pub returns-in-None : goal.returns-in-None
returns-in-None c =
    sym (c.loop-i.invariant
    ∙ sub-next c.args.case (meaning_of c.loop-i.here.now) c.args.path.now c.loop-i.i c.name.result.now c.name.ensures
    ∙ ap (λ s. sub c.args.case s (drop (c.loop-i.i + 1) (place c.args.case c.args.path.now))) (sym c.in-None.ensures)
    ∙ sub-missing c.args.case (drop (c.loop-i.i + 1) (place c.args.case c.args.path.now)))
