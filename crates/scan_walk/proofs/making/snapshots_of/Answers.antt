use Rattle.std.proofs.Common.{◌≡◌, ◌∙◌, ◌-◌, ◌+◌, sym, ap, length, map, take, arith, length-append}
use Rattle.std.proofs.lemmas.List.{length-take-le}
use Rattle.vfs_model.specs.World.{digest_of_bytes}
use Rattle.world_model.specs.Meaning.{look_seen}
use Rattle.scan_walk.specs.Walking.{bytes_seen}
use Rattle.scan_walk.specs.Making.{bytes_of, made_by}
use Rattle.scan_walk.proofs.ChildrenLemmas.{stacked-push, length-stacked}
use Rattle.scan_walk.proofs.SeenLemmas.{turn-at, digests-taken, few-digests, digest-last}
use Rattle.scan_walk.proofs.making.snapshots_of.Goals as goal

pub slice_bounds-snapshot_of-end : goal.slice_bounds-snapshot_of-end
slice_bounds-snapshot_of-end c =
    let looks = map look_seen c.args.seen.now in
    let few = few-digests looks (length c.args.seen.now - c.loop-i.i) c.args.digests.now c.requires.digests in
    sym (length-take-le c.loop-i.files c.args.digests.now (omega (arith, few, c.loop-i.invariant.files)))

pub snapshot_of-requires-clause-digest : goal.snapshot_of-requires-clause-digest
snapshot_of-requires-clause-digest c bytes file =
    let looks = map look_seen c.args.seen.now in
    let turn = turn-at look_seen c.args.case c.args.seen.now c.loop-i.i c.index-seen-seen.result c.loop-i-test.true c.index-seen-seen.is c.requires.whole c.requires.listed in
    let taken : take c.loop-i.files c.args.digests.now ≡ map digest_of_bytes (bytes_of (take (length c.args.seen.now - c.loop-i.i) looks)) =
    ap (λ n. take n c.args.digests.now) c.loop-i.invariant.files ∙ digests-taken looks (length c.args.seen.now - c.loop-i.i) c.args.digests.now c.requires.digests in
    digest-last (take c.loop-i.files c.args.digests.now) (bytes_of (take (length c.args.seen.now - c.loop-i.i) looks)) (bytes_of (take (length c.args.seen.now - (c.loop-i.i + 1)) looks)) (look_seen c.index-seen-seen.result) bytes taken turn.bytes file

pub snapshot_of-requires-clause-listed : goal.snapshot_of-requires-clause-listed
snapshot_of-requires-clause-listed c =
    (turn-at look_seen c.args.case c.args.seen.now c.loop-i.i c.index-seen-seen.result c.loop-i-test.true c.index-seen-seen.is c.requires.whole c.requires.listed).listed

pub snapshot_of-requires-clause-whole : goal.snapshot_of-requires-clause-whole
snapshot_of-requires-clause-whole c =
    let turn = turn-at look_seen c.args.case c.args.seen.now c.loop-i.i c.index-seen-seen.result c.loop-i-test.true c.index-seen-seen.is c.requires.whole c.requires.listed in
    omega (arith, turn.whole, ap length c.loop-i.invariant.made, length-stacked c.loop-i.made.items, c.loop-i.made.ok.0)

pub overflow_sub-files : goal.overflow_sub-files
overflow_sub-files c =
    let looks = map look_seen c.args.seen.now in
    let turn = turn-at look_seen c.args.case c.args.seen.now c.loop-i.i c.index-seen-seen.result c.loop-i-test.true c.index-seen-seen.is c.requires.whole c.requires.listed in
    omega (arith, c.file_count-files.ensures, c.loop-i.invariant.files, ap length turn.bytes, length-append (bytes_of (take (length c.args.seen.now - (c.loop-i.i + 1)) looks)) (bytes_seen (look_seen c.index-seen-seen.result)))

pub loop-i-preserved : goal.loop-i-preserved
loop-i-preserved c =
    let looks = map look_seen c.args.seen.now in
    let turn = turn-at look_seen c.args.case c.args.seen.now c.loop-i.i c.index-seen-seen.result c.loop-i-test.true c.index-seen-seen.is c.requires.whole c.requires.listed in
    record {
      made =
          stacked-push c.snapshot_of.new.made.items c.push.new.self.items c.in_ok-snapshot.snapshot c.in_ok-push.ensures.items
          ∙ c.in_ok-snapshot.ensures
          ∙ ap (made_by (look_seen c.index-seen-seen.result)) c.loop-i.invariant.made
          ∙ sym turn.made;
      files = omega (arith, c.file_count-files.ensures, c.loop-i.invariant.files, ap length turn.bytes, length-append (bytes_of (take (length c.args.seen.now - (c.loop-i.i + 1)) looks)) (bytes_seen (look_seen c.index-seen-seen.result)));
    }
