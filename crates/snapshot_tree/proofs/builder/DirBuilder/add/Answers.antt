use Rattle.std.proofs.Common.{ap}
use Rattle.vfs_model.specs.Snapshot.{Children}
use Rattle.snapshot_tree.specs.Building.{Building}
use Rattle.snapshot_tree.specs.Meaning.{meaning_of, children_in}
use Rattle.snapshot_tree.proofs.ListingLemmas.{children_in-push}
use Rattle.snapshot_tree.proofs.BuilderLemmas.{listing-followed_by}
use Rattle.snapshot_tree.proofs.builder.DirBuilder.add.Goals as goal

pub invariant_of-self-2 : goal.invariant_of-self-2
invariant_of-self-2 c =
    let there = c.requires.present in
    let last = rw (← c.self.view_is) at c.requires.order in
    let room = rw (← c.self.view_is) at c.requires.room in
    rw (c.in_ok-push.ensures.items, children_in-push)
    (listing-followed_by c.self.inside.case (children_in c.self.inside.children.items) c.args.name (meaning_of c.args.snapshot) c.self.invariant there last room)

pub returns-clause-added : goal.returns-clause-added
returns-clause-added c =
    rw (← c.self.view_is, c.in_ok-push.ensures.items)
    (ap (λ (cs : Children). let b : Building = record { case = c.self.inside.case; children = cs } in b) (children_in-push c.self.inside.children.items (record { name = c.args.name; snapshot = c.args.snapshot })))
