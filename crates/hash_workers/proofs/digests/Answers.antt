use Rattle.std.proofs.Common.{rules, arith, ◌≡◌, Ok, map, take, drop, ◌*◌, ◌∙◌}
use Rattle.vfs_model.specs.World.{digest_of_bytes}
use Rattle.hash_workers.proofs.RunLemmas.{map-run, map-runs}
use Rattle.hash_workers.proofs.digests.Goals as goal

pub loop-run-preserved : goal.loop-run-preserved
loop-run-preserved g c =
    let run = (c.in_ok-runs.ensures.each c.loop-run.run-index (Ok c.in-Ok.digests) (search rules)).1 in
    let hashed : c.in-Ok.digests.items ≡ map digest_of_bytes (take c.max-size.result (drop (c.loop-run.run-index * c.max-size.result) c.args.contents.now)) = search rules in
    let more = map-run digest_of_bytes c.args.contents.now c.loop-run.run-index c.max-size.result in
    search rules

pub returns : goal.returns
returns g c = c.loop-run.invariant ∙ map-runs digest_of_bytes c.args.contents.now c.loop-run.run-index c.max-size.result (omega arith) (search rules)
