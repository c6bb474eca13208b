use Rattle.std.proofs.Common.{◌≡◌, ◌∙◌, ◌*◌, ◌<◌, ◌≤◌, [], ◌∷◌, ◌++◌, true, false, map, length, sym, ap, subst, arith}
use Rattle.vfs_model.specs.Paths.{place}
use Rattle.vfs_model.specs.Snapshot.{Missing}
use Rattle.snapshot_tree.specs.Meaning.{meaning_of}
use Rattle.snapshot_tree.specs.Listing.{entries_of}
use Rattle.snapshot_tree.specs.Height.{height, height_of}
use Rattle.fingerprint_norms.specs.Meaning.{sensitivity_of, entry_of}
use Rattle.fingerprint_norms.specs.Walk.{IsBelow, below, places_of}
use Rattle.fingerprint_norms.proofs.WalkLemmas.{is_covered, covered-is, covered-none, none-pushed, file-pushed, dir-pushed, height-at, push-below, children-told}
use Rattle.fingerprint_norms.proofs.walk.+walk.Goals as goal

pub add_location-returns-then-is_covered-clause-entries : goal.add_location-returns-then-is_covered-clause-entries
add_location-returns-then-is_covered-clause-entries t c =
    let covered : is_covered c.args.case (places_of c.args.case c.args.earlier.now) c.args.names.now.items ≡ true =
    covered-is c.args.case (place c.args.case c.args.names.now.items) c.args.earlier.now ∙ (rw c.deref.ensures.value at (sym c.if-is_covered.ensures)) in
    none-pushed _ _ (covered-none c.args.case _ _ _ _ (meaning_of c.args.snapshot.now) c.requires covered)

pub add_location-returns-in_ok-push-in-File-clause-entries : goal.add_location-returns-in_ok-push-in-File-clause-entries
add_location-returns-in_ok-push-in-File-clause-entries t c =
    let apart : is_covered c.args.case (places_of c.args.case c.args.earlier.now) c.args.names.now.items ≡ false =
    covered-is c.args.case (place c.args.case c.args.names.now.items) c.args.earlier.now ∙ (rw c.deref.ensures.value at (sym c.if-is_covered.ensures)) in
    file-pushed c.args.case (places_of c.args.case c.args.earlier.now) (sensitivity_of c.args.input.now.sensitivity) c.args.input.now.root c.args.names.now.items c.args.snapshot.now c.in-File.digest
    c.args.entries.now.items c.push.new.self.items c.in_ok-entry-in-File.entry
    c.requires apart c.in-File.is c.in_ok-push-in-File.ensures.items (rw c.deref-in-File.ensures.value at c.in_ok-entry-in-File.ensures)

pub add_location-returns-in_ok-add_children-in-Dir-clause-entries : goal.add_location-returns-in_ok-add_children-in-Dir-clause-entries
add_location-returns-in_ok-add_children-in-Dir-clause-entries t c =
    let apart : is_covered c.args.case (places_of c.args.case c.args.earlier.now) c.args.names.now.items ≡ false =
    covered-is c.args.case (place c.args.case c.args.names.now.items) c.args.earlier.now ∙ (rw c.deref.ensures.value at (sym c.if-is_covered.ensures)) in
    dir-pushed c.args.case (places_of c.args.case c.args.earlier.now) (sensitivity_of c.args.input.now.sensitivity) c.args.input.now.root c.args.names.now.items c.args.snapshot.now c.in-Dir.directory
    (map entry_of c.args.entries.now.items) (map entry_of c.add_directory.new.entries.items) (map entry_of c.add_children.new.entries.items)
    c.requires apart c.in-Dir.is (rw c.deref-in-Dir.ensures.value at c.in_ok-add_directory-in-Dir.ensures) c.in_ok-add_children-in-Dir.ensures.entries

pub add_children-add_location-requires : goal.add_children-add_location-requires
add_children-add_location-requires t c =
    let within : c.loop-i.i < length (entries_of c.args.directory.now) = omega (arith, c.loop-i-test.true, c.len-i-end.ensures) in
    let lower : height (meaning_of c.child.result.now) ≤ height_of c.args.directory.now = omega (arith, height-at c.args.directory.now c.loop-i.i ([], Missing) within, ap height c.child.ensures) in
    let falls : 2 * height (meaning_of c.child.result.now) < t = omega (arith, lower, c.decreases) in
    let names : c.push.new.self.items ≡ c.args.names.now.items ++ c.in_ok-share.field-0 ∷ [] = rw c.loop-i.invariant.0 at c.in_ok-push.ensures.items in
    (falls, subst (IsBelow c.args.input.now.root) (sym names) (push-below c.args.input.now.root c.args.names.now.items c.in_ok-share.field-0 c.requires))

pub add_children-returns-clause-entries : goal.add_children-returns-clause-entries
add_children-returns-clause-entries t c =
    children-told c.args.case (places_of c.args.case c.args.earlier.now) (sensitivity_of c.args.input.now.sensitivity) c.args.input.now.root (below c.args.input.now.root c.args.names.now.items) c.args.directory.now c.loop-i.i
    (map entry_of c.args.entries.now.items) (map entry_of c.loop-i.entries.items) (omega (arith, c.loop-i-test.false, c.len-i-end.ensures)) c.loop-i.invariant.1
