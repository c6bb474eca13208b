use Rattle.std.proofs.Common.{◌<◌, ◌∙◌, [], length, get_or, sym, ap, arith, rules}
use Rattle.vfs_model.specs.Paths.{Name}
use Rattle.vfs_model.specs.Snapshot.{Snapshot, Children, Missing}
use Rattle.snapshot_tree.specs.declared.directory.Child.{Child as ChildValue}
use Rattle.snapshot_tree.specs.Listing.{entries_of}
use Rattle.snapshot_tree.proofs.ListingLemmas.{length-entries, entry-at}
use Rattle.snapshot_tree.proofs.directory.DirRef.name.Goals as goal

pub offset_bounds-children-i : goal.offset_bounds-children-i
offset_bounds-children-i c =
    let many = sym (length-entries c.children.result.now) ∙ ap (λ (cs : Children). length (entries_of cs)) c.children.ensures in
    let within : c.args.i < length c.children.result.now = omega (arith, many, c.requires) in
    search rules

pub bounds-children-i : goal.bounds-children-i
bounds-children-i c = omega (arith, sym (length-entries c.children.result.now) ∙ ap (λ (cs : Children). length (entries_of cs)) c.children.ensures, c.requires)

pub returns : goal.returns
returns c =
    let many = sym (length-entries c.children.result.now) ∙ ap (λ (cs : Children). length (entries_of cs)) c.children.ensures in
    let none : Name × Snapshot = ([], Missing) in
    ap (λ (x : ChildValue). x.name) (sym c.index-children-i.is)
    ∙ sym (ap (λ (e : Name × Snapshot). e.0) (entry-at c.children.result.now c.args.i c.index-children-i.result none (omega (arith, many, c.requires)) c.index-children-i.is))
    ∙ ap (λ (cs : Children). (get_or (entries_of cs) c.args.i none).0) c.children.ensures
