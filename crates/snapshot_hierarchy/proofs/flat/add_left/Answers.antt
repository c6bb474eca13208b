use Rattle.std.proofs.Common.{◌∙◌, ◌++◌, sym, ap, append-nil}
use Rattle.vfs_model.specs.Paths.{place}
use Rattle.snapshot_tree.specs.Pieces.{pair_of, places_of}
use Rattle.snapshot_hierarchy.proofs.LeftLemmas.{dirs_left-below}
use Rattle.snapshot_hierarchy.proofs.flat.add_left.Goals as goal

pub returns-then-is_at_or_above-clause-opened : goal.returns-then-is_at_or_above-clause-opened
returns-then-is_at_or_above-clause-opened c =
    let opened = places_of c.args.case c.args.opened.now.items in
    sym (append-nil opened)
    ∙ ap (λ l. opened ++ l) (sym (dirs_left-below c.args.case (place c.args.case c.args.path.now) (pair_of c.args.case c.args.pair.now) (sym c.is_at_or_above.ensures ∙ c.if-is_at_or_above.true)))
