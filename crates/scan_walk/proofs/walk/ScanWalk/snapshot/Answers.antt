use Rattle.std.proofs.Common.{◌≡◌, ◌∙◌, sym, ap, [], ◌∷◌, map, None, subst, length, arith}
use Rattle.vfs_model.specs.World.{digest_of_bytes}
use Rattle.vfs_model.specs.Snapshot.{IsTree}
use Rattle.vfs_model.specs.Scanning.{Unread, after_looks, next_left, contents, snapshot_made}
use Rattle.world_model.specs.Meaning.{look_seen}
use Rattle.snapshot_tree.specs.Meaning.{meaning_of}
use Rattle.vfs_laws.proofs.ScanningLemmas.{snapshot_made-tree}
use Rattle.scan_walk.specs.Making.{made_of, stacked}
use Rattle.scan_walk.proofs.MakingLemmas.{walk-made}
use Rattle.scan_walk.proofs.ChildrenLemmas.{stacked-push, length-stacked}
use Rattle.scan_walk.proofs.walk.ScanWalk.snapshot.Goals as goal

pub snapshots_of-requires-clause-digests : goal.snapshots_of-requires-clause-digests
snapshots_of-requires-clause-digests c =
    let looks = map look_seen c.self.inside.seen.items in
    let done : next_left (after_looks Unread looks) ≡ None = rw (← c.self.view_is) at c.requires.done in
    let given : c.args.digests.now ≡ map digest_of_bytes (contents (after_looks Unread looks)) = rw (← c.self.view_is) at c.requires.digests in
    let made = walk-made (after_looks Unread looks) looks c.self.invariant.seen done in
    rw c.deref.ensures.value (given ∙ ap (map digest_of_bytes) (sym made.bytes))

pub snapshots_of-requires-clause-whole : goal.snapshots_of-requires-clause-whole
snapshots_of-requires-clause-whole c =
    let looks = map look_seen c.self.inside.seen.items in
    let done : next_left (after_looks Unread looks) ≡ None = rw (← c.self.view_is) at c.requires.done in
    let made = walk-made (after_looks Unread looks) looks c.self.invariant.seen done in
    rw c.deref.ensures.value made.whole

pub unreachable-requires : goal.unreachable-requires
unreachable-requires c =
    let looks = map look_seen c.self.inside.seen.items in
    let done : next_left (after_looks Unread looks) ≡ None = rw (← c.self.view_is) at c.requires.done in
    let made = walk-made (after_looks Unread looks) looks c.self.invariant.seen done in
    let one : stacked c.in_ok-made.made.items ≡ snapshot_made (after_looks Unread looks) ∷ [] = c.in_ok-made.ensures ∙ ap (λ xs. made_of (map look_seen xs)) c.deref.ensures.value ∙ made.snapshot in
    omega (arith, ap length one, length-stacked c.in_ok-made.made.items, c.in_ok-made.made.ok.0, c.in-None.ensures.cases)

pub returns-clause-snapshot : goal.returns-clause-snapshot
returns-clause-snapshot c =
    let looks = map look_seen c.self.inside.seen.items in
    let done : next_left (after_looks Unread looks) ≡ None = rw (← c.self.view_is) at c.requires.done in
    let made = walk-made (after_looks Unread looks) looks c.self.invariant.seen done in
    let one : stacked c.in_ok-made.made.items ≡ snapshot_made (after_looks Unread looks) ∷ [] = c.in_ok-made.ensures ∙ ap (λ xs. made_of (map look_seen xs)) c.deref.ensures.value ∙ made.snapshot in
    let popped : stacked c.in_ok-made.made.items ≡ meaning_of c.in-Some.snapshot ∷ stacked c.pop.new.self.items = stacked-push c.pop.new.self.items c.in_ok-made.made.items c.in-Some.snapshot c.in-Some.ensures.items in
    let is : meaning_of c.in-Some.snapshot ≡ snapshot_made (after_looks Unread looks) = cc (one, popped) in
    rw (← c.self.view_is) is

pub returns-clause-tree : goal.returns-clause-tree
returns-clause-tree c =
    let looks = map look_seen c.self.inside.seen.items in
    let done : next_left (after_looks Unread looks) ≡ None = rw (← c.self.view_is) at c.requires.done in
    let is : meaning_of c.in-Some.snapshot ≡ snapshot_made (after_looks Unread looks) = rw (← c.self.view_is) at (returns-clause-snapshot c) in
    let tree = subst (IsTree c.self.inside.case) (sym is) (snapshot_made-tree c.self.inside.case (after_looks Unread looks) c.self.invariant.shape.partial done) in
    rw (← c.self.view_is) tree
